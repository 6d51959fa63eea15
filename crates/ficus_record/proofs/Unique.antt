-- Each record has one spelling, and none begins another.
use Rattle.std.proofs.Common.{◌≡◌, ◌≢◌, ℕ, List, ◌++◌, refl, sym, subst, ◌∙◌, arith}
use Rattle.ficus_ids.specs.Kind.{IsFixedText}
use Rattle.ficus_ids.specs.declared.kind.Kind.TheVariants.{Symlink}
use Rattle.ficus_ids.specs.Members.{IsCount}
use Rattle.ficus_ids.specs.declared.id.Id.{Id}
use Rattle.ficus_model.specs.declared.event.Op.{Op}
use Rattle.ficus_model.specs.declared.event.Op.TheVariants.{Make, Link, Remove, Move, Write, Settle, Resolve, Adopt, Discard}
use Rattle.ficus_formats.specs.Format.{Format, IsUnique, ◌then◌, id, number16, string}
use Rattle.ficus_formats.specs.Unique.{unique-id, unique-number16, unique-meeting, unique-rising, unique-string, unique-then}
use Rattle.ficus_codec.specs.Formats.{kind, name, tables}
use Rattle.ficus_codec.specs.FormatsUnique.{unique-kind, unique-name}
use Rattle.ficus_codec.proofs.TableFormats.{unique-tables}
use Rattle.ficus_record.specs.Record.{IsOpUnder, IsRecordUnder, adopting, fixed_text, ids, linking, making, moving, op_under, placing, record_body, record_format, record_tag, record_under, removing, symlinking, textless, writing}
use Rattle.ficus_record.specs.declared.record.Record.{Record}
use Rattle.ficus_record.specs.declared.record.Record.TheVariants.{Change, Ask, Accept, Collect}
use Rattle.ficus_record.proofs.Shapes.{IsOpTag, IsShaped, unique_shaped, make_shaped, symlink_shaped, link_shaped, remove_shaped, move_shaped, write_shaped, settle_shaped, resolve_shaped, adopt_shaped, discard_shaped, op_tagged, change_shaped, accept_shaped}

unique-ids : IsUnique ids
unique-ids = unique-rising (λ (x : Id). x) id unique-id

unique-textless : IsUnique textless
unique-textless = unique-meeting (λ what. what ≢ Symlink) kind (λ what fits. tt) unique-kind

unique-fixed_text : IsUnique fixed_text
unique-fixed_text = unique-meeting IsFixedText (string number16) (λ text fits. omega (arith, fits.within))
    (unique-string number16 unique-number16)

unique-making : IsUnique making
unique-making = unique-then id (name then textless) unique-id (unique-then name textless unique-name unique-textless)

unique-symlinking : IsUnique symlinking
unique-symlinking = unique-then id (name then fixed_text) unique-id
    (unique-then name fixed_text unique-name unique-fixed_text)

unique-linking : IsUnique linking
unique-linking = unique-then id (name then id) unique-id (unique-then name id unique-name unique-id)

unique-removing : IsUnique removing
unique-removing = unique-then id ids unique-id unique-ids

unique-moving : IsUnique moving
unique-moving = unique-then id placing unique-id
    (unique-then id (name then ids) unique-id (unique-then name ids unique-name unique-ids))

unique-writing : IsUnique writing
unique-writing = unique-then id (string number16) unique-id (unique-string number16 unique-number16)

unique-adopting : IsUnique adopting
unique-adopting = unique-then id (id then name) unique-id (unique-then id name unique-id unique-name)

-- a shape of the operations behind one number tells of any that has this number
module _ (tag : ℕ) where
  of_shape : {Y : Type 0} (f : Format Y) (number : ℕ) → IsShaped (op_under number) f → IsUnique f → number ≡ tag
      → IsUnique (op_under tag)
  of_shape f number shaped unique is =
      subst (λ (n : ℕ). IsUnique (op_under n)) is (unique_shaped (op_under number) f shaped unique)

  -- there is an operation of this number, so it is one of these
  unique-op_of : (op : Op) → IsOpUnder tag op → IsUnique (op_under tag)
  unique-op_of (Make dir called Symlink text) under = of_shape symlinking 13 symlink_shaped unique-symlinking under.tagged
  unique-op_of (Make dir called what text) under = of_shape making 1 make_shaped unique-making under.tagged
  unique-op_of (Link dir called target) under = of_shape linking 2 link_shaped unique-linking under.tagged
  unique-op_of (Remove entries target) under = of_shape removing 3 remove_shaped unique-removing under.tagged
  unique-op_of (Move entries dir called target) under = of_shape moving 4 move_shaped unique-moving under.tagged
  unique-op_of (Write file text) under = of_shape writing 5 write_shaped unique-writing under.tagged
  unique-op_of (Settle file text) under = of_shape writing 6 settle_shaped unique-writing under.tagged
  unique-op_of (Resolve file text) under = of_shape writing 7 resolve_shaped unique-writing under.tagged
  unique-op_of (Adopt file dir called) under = of_shape adopting 8 adopt_shaped unique-adopting under.tagged
  unique-op_of (Discard file) under = of_shape id 9 discard_shaped unique-id under.tagged

  unique-op : IsUnique (op_under tag)
  unique-op = record { one = λ x y a b fits. (unique-op_of x fits).one x y a b fits }

module _ (members : ℕ) (few : IsCount members) where
  unique-change : (tag : ℕ) → IsOpTag tag → IsUnique (record_under members tag)
  unique-change tag of_op = unique_shaped (record_under members tag) (op_under tag) (change_shaped members tag of_op) (unique-op tag)

  unique-accept : IsUnique (record_under members 11)
  unique-accept = unique_shaped (record_under members 11) (tables members) (accept_shaped members) (unique-tables members few)

  one_under : (tag : ℕ) (x y : Record) (a b : List ℕ) → IsRecordUnder members tag x → IsRecordUnder members tag y
      → record_body members x ++ a ≡ record_body members y ++ b → (x ≡ y) × (a ≡ b)
  one_under tag (Change op) y a b fits also same =
      let of_op = subst IsOpTag fits.tagged (op_tagged op) in
      (unique-change tag of_op).one (Change op) y a b fits also same
  one_under tag (Accept entries files) y a b fits also same =
      (subst (λ (n : ℕ). IsUnique (record_under members n)) fits.tagged unique-accept).one (Accept entries files) y a b fits also same
  one_under tag Ask Ask a b fits also same = (refl, same)
  one_under tag Collect Collect a b fits also same = (refl, same)
  one_under tag Ask (Change op) a b fits also same = absurd ((op_tagged op).no_ask (also.tagged ∙ sym fits.tagged))
  one_under tag Collect (Change op) a b fits also same = absurd ((op_tagged op).no_collect (also.tagged ∙ sym fits.tagged))
  one_under tag Ask y a b fits also same = absurd (omega (arith, fits.tagged, also.tagged))
  one_under tag Collect y a b fits also same = absurd (omega (arith, fits.tagged, also.tagged))

  pub unique-record : IsUnique (record_format members)
  unique-record = record {
    one = λ x y a b fits also same.
        let tags : record_tag x ≡ record_tag y = cc in
        let bodies : record_body members x ++ a ≡ record_body members y ++ b = cc in
        one_under (record_tag x) x y a b (record { tagged = refl; fits = fits })
        (record { tagged = sym tags; fits = also }) bodies;
  }
