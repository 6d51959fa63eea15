-- Values that are spelled as their parts are.
use Rattle.std.proofs.Common.{◌≡◌, ◌≢◌, ℕ, List, [], ◌++◌, refl, sym, ap, ◌∙◌, arith}
use Rattle.ficus_ids.specs.declared.kind.Kind.TheVariants.{Symlink}
use Rattle.ficus_model.specs.declared.event.Op.{Op}
use Rattle.ficus_model.specs.declared.event.Op.TheVariants.{Make, Link, Remove, Move, Write, Settle, Resolve, Adopt, Discard}
use Rattle.ficus_formats.specs.Format.{Fails, Format, IsUnique, id}
use Rattle.ficus_formats.specs.declared.fault.ReadFault.{ReadFault}
use Rattle.ficus_codec.specs.Formats.{tables}
use Rattle.ficus_record.specs.Record.{IsOpUnder, IsRecordUnder, adopting, linking, making, moving, op_body, op_tag, op_under, record_body, record_under, removing, symlinking, writing}
use Rattle.ficus_record.specs.declared.record.Record.{Record}
use Rattle.ficus_record.specs.declared.record.Record.TheVariants.{Change, Ask, Accept, Collect}

-- the value is made of parts, which have a spelling, and is spelled as they are
pub record HasParts {X Y : Type 0} (spell : X → List ℕ) (f : Format Y) (whole : Y → X) (x : X) : Type 0 where
  pub parts : Y
  pub is : x ≡ whole parts
  pub fits : f.fits parts
  pub spelled : spell x ≡ f.spell parts

-- so is each that fits
pub record IsShaped {X Y : Type 0} (g : Format X) (f : Format Y) : Type 0 where
  pub whole : Y → X
  pub each : (x : X) → g.fits x → HasParts g.spell f whole x

-- then none has the spelling of another, where that holds of the parts; and where none of the parts begins the bytes, none
-- of the values does
module _ {X Y : Type 0} (g : Format X) (f : Format Y) (shaped : IsShaped g f) where
  pub unique_shaped : IsUnique f → IsUnique g
  unique_shaped unique = record {
    one = λ x y a b fits also same.
        let one = shaped.each x fits in
        let other = shaped.each y also in
        let cut = unique.one one.parts other.parts a b one.fits other.fits
        (ap (λ (l : List ℕ). l ++ a) (sym one.spelled) ∙ same ∙ ap (λ (l : List ℕ). l ++ b) other.spelled) in
        (one.is ∙ ap shaped.whole cut.0 ∙ sym other.is, cut.1);
  }

  pub fails_shaped : (bytes : List ℕ) (fault : ReadFault) → Fails f bytes fault → Fails g bytes fault
  fails_shaped bytes fault fails = record {
    none = λ is x rest begins.
        let of = shaped.each x begins.fits in
        fails.none is of.parts rest (record {
          fits = of.fits;
          spelled = begins.spelled ∙ ap (λ (l : List ℕ). l ++ rest) of.spelled;
        });
  }

-- the operations, each behind its number
make_parts : (op : Op) → IsOpUnder 1 op → HasParts op_body making (λ p. Make p.0 p.1.0 p.1.1 []) op
make_parts (Make dir called Symlink text) under = absurd (omega (arith, under.tagged))
make_parts (Make dir called what text) under = record {
  parts = (dir, (called, what));
  is = ap (Make dir called what) under.fits.1;
  fits = under.fits.0;
  spelled = refl;
}
make_parts op under = absurd (omega (arith, under.tagged))

pub make_shaped : IsShaped (op_under 1) making
make_shaped = record { whole = λ p. Make p.0 p.1.0 p.1.1 []; each = make_parts }

symlink_parts : (op : Op) → IsOpUnder 13 op → HasParts op_body symlinking (λ p. Make p.0 p.1.0 Symlink p.1.1) op
symlink_parts (Make dir called Symlink text) under = record { parts = (dir, (called, text)); is = refl; fits = under.fits; spelled = refl }
symlink_parts op under = absurd (omega (arith, under.tagged))

pub symlink_shaped : IsShaped (op_under 13) symlinking
symlink_shaped = record { whole = λ p. Make p.0 p.1.0 Symlink p.1.1; each = symlink_parts }

link_parts : (op : Op) → IsOpUnder 2 op → HasParts op_body linking (λ p. Link p.0 p.1.0 p.1.1) op
link_parts (Link dir called target) under = record { parts = (dir, (called, target)); is = refl; fits = under.fits; spelled = refl }
link_parts (Make dir called Symlink text) under = absurd (omega (arith, under.tagged))
link_parts op under = absurd (omega (arith, under.tagged))

pub link_shaped : IsShaped (op_under 2) linking
link_shaped = record { whole = λ p. Link p.0 p.1.0 p.1.1; each = link_parts }

remove_parts : (op : Op) → IsOpUnder 3 op → HasParts op_body removing (λ p. Remove p.1 p.0) op
remove_parts (Remove entries target) under = record { parts = (target, entries); is = refl; fits = under.fits; spelled = refl }
remove_parts (Make dir called Symlink text) under = absurd (omega (arith, under.tagged))
remove_parts op under = absurd (omega (arith, under.tagged))

pub remove_shaped : IsShaped (op_under 3) removing
remove_shaped = record { whole = λ p. Remove p.1 p.0; each = remove_parts }

move_parts : (op : Op) → IsOpUnder 4 op → HasParts op_body moving (λ p. Move p.1.1.1 p.1.0 p.1.1.0 p.0) op
move_parts (Move entries dir called target) under = record { parts = (target, (dir, (called, entries))); is = refl; fits = under.fits; spelled = refl }
move_parts (Make dir called Symlink text) under = absurd (omega (arith, under.tagged))
move_parts op under = absurd (omega (arith, under.tagged))

pub move_shaped : IsShaped (op_under 4) moving
move_shaped = record { whole = λ p. Move p.1.1.1 p.1.0 p.1.1.0 p.0; each = move_parts }

write_parts : (op : Op) → IsOpUnder 5 op → HasParts op_body writing (λ p. Write p.0 p.1) op
write_parts (Write file text) under = record { parts = (file, text); is = refl; fits = under.fits; spelled = refl }
write_parts (Make dir called Symlink text) under = absurd (omega (arith, under.tagged))
write_parts op under = absurd (omega (arith, under.tagged))

pub write_shaped : IsShaped (op_under 5) writing
write_shaped = record { whole = λ p. Write p.0 p.1; each = write_parts }

settle_parts : (op : Op) → IsOpUnder 6 op → HasParts op_body writing (λ p. Settle p.0 p.1) op
settle_parts (Settle file text) under = record { parts = (file, text); is = refl; fits = under.fits; spelled = refl }
settle_parts (Make dir called Symlink text) under = absurd (omega (arith, under.tagged))
settle_parts op under = absurd (omega (arith, under.tagged))

pub settle_shaped : IsShaped (op_under 6) writing
settle_shaped = record { whole = λ p. Settle p.0 p.1; each = settle_parts }

resolve_parts : (op : Op) → IsOpUnder 7 op → HasParts op_body writing (λ p. Resolve p.0 p.1) op
resolve_parts (Resolve file text) under = record { parts = (file, text); is = refl; fits = under.fits; spelled = refl }
resolve_parts (Make dir called Symlink text) under = absurd (omega (arith, under.tagged))
resolve_parts op under = absurd (omega (arith, under.tagged))

pub resolve_shaped : IsShaped (op_under 7) writing
resolve_shaped = record { whole = λ p. Resolve p.0 p.1; each = resolve_parts }

adopt_parts : (op : Op) → IsOpUnder 8 op → HasParts op_body adopting (λ p. Adopt p.0 p.1.0 p.1.1) op
adopt_parts (Adopt file dir called) under = record { parts = (file, (dir, called)); is = refl; fits = under.fits; spelled = refl }
adopt_parts (Make dir called Symlink text) under = absurd (omega (arith, under.tagged))
adopt_parts op under = absurd (omega (arith, under.tagged))

pub adopt_shaped : IsShaped (op_under 8) adopting
adopt_shaped = record { whole = λ p. Adopt p.0 p.1.0 p.1.1; each = adopt_parts }

discard_parts : (op : Op) → IsOpUnder 9 op → HasParts op_body id (λ p. Discard p) op
discard_parts (Discard file) under = record { parts = file; is = refl; fits = under.fits; spelled = refl }
discard_parts (Make dir called Symlink text) under = absurd (omega (arith, under.tagged))
discard_parts op under = absurd (omega (arith, under.tagged))

pub discard_shaped : IsShaped (op_under 9) id
discard_shaped = record { whole = λ p. Discard p; each = discard_parts }

-- it is the number of no other event
pub record IsOpTag (tag : ℕ) : Type 0 where
  pub no_ask : tag ≢ 10
  pub no_accept : tag ≢ 11
  pub no_collect : tag ≢ 12

pub op_tagged : (op : Op) → IsOpTag (op_tag op)
op_tagged (Make dir called Symlink text) =
    record { no_ask = λ is. omega (arith, is); no_accept = λ is. omega (arith, is); no_collect = λ is. omega (arith, is) }
op_tagged op =
    record { no_ask = λ is. omega (arith, is); no_accept = λ is. omega (arith, is); no_collect = λ is. omega (arith, is) }

-- and of records those of operations and of tables
module _ (members : ℕ) where
  change_parts : (tag : ℕ) → IsOpTag tag → (noted : Record) → IsRecordUnder members tag noted
      → HasParts (record_body members) (op_under tag) (λ op. Change op) noted
  change_parts tag of_op (Change op) under = record {
    parts = op;
    is = refl;
    fits = record { tagged = under.tagged; fits = under.fits };
    spelled = refl;
  }
  change_parts tag of_op Ask under = absurd (of_op.no_ask (sym under.tagged))
  change_parts tag of_op (Accept entries files) under = absurd (of_op.no_accept (sym under.tagged))
  change_parts tag of_op Collect under = absurd (of_op.no_collect (sym under.tagged))

  pub change_shaped : (tag : ℕ) → IsOpTag tag → IsShaped (record_under members tag) (op_under tag)
  change_shaped tag of_op = record { whole = λ op. Change op; each = change_parts tag of_op }

  accept_parts : (noted : Record) → IsRecordUnder members 11 noted
      → HasParts (record_body members) (tables members) (λ p. Accept p.0 p.1) noted
  accept_parts (Accept entries files) under =
      record { parts = (entries, files); is = refl; fits = under.fits; spelled = refl }
  accept_parts (Change op) under = absurd ((op_tagged op).no_accept under.tagged)
  accept_parts noted under = absurd (omega (arith, under.tagged))

  pub accept_shaped : IsShaped (record_under members 11) (tables members)
  accept_shaped = record { whole = λ p. Accept p.0 p.1; each = accept_parts }
