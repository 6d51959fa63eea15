-- What both make together is determined.
use Rattle.std.proofs.Common.{◌≡◌, ℕ, List, length, Contains, Option, Some, None, inl, inr, sym, subst, ◌∙◌, ap, refl}
use Rattle.std.specs.declared.cmp.Ordering.TheVariants.{Less}
use Rattle.ficus_ids.specs.declared.id.Id.{Id}
use Rattle.ficus_ids.specs.ListLaws.{same_rising}
use Rattle.ficus_ids.specs.Rising.{HoldsUnderBy}
use Rattle.ficus_ids.specs.RisingLaws.{held_or_not, same_items}
use Rattle.ficus_vectors.specs.Vector.{vector_cmp}
use Rattle.ficus_vectors.specs.VectorLaws.{vector_cmp_total, not_before_itself}
use Rattle.ficus_file.specs.declared.file.FileReplica.{FileReplica}
use Rattle.ficus_file.specs.declared.version.Version.{Version}
use Rattle.ficus_file.specs.Files.{id_of, IsRising, HoldsUnder}
use Rattle.ficus_merge_files.specs.Versions.{AreMerged}
use Rattle.ficus_merge_files.specs.Counts.{MakeSoMany}
use Rattle.ficus_merge_files.specs.News.{AreNew}
use Rattle.ficus_merge_files.specs.Merge.{IsMergedFile, IsTaken, Merges, AreMergedFiles}

pub same_versions : (mine theirs a b : List Version) → AreMerged mine theirs a → AreMerged mine theirs b → a ≡ b
same_versions mine theirs a b is_a is_b =
    same_rising (λ (v w : Version). vector_cmp v.vector w.vector ≡ Less) (λ v. not_before_itself v.vector)
    (λ x y z. vector_cmp_total.trans x.vector y.vector z.vector)
    a b is_a.ordered is_b.ordered (λ v inside. (is_b.items v).1 ((is_a.items v).0 inside)) (λ v inside. (is_a.items v).1 ((is_b.items v).0 inside))

same_file : (mine theirs a b : FileReplica) → IsMergedFile mine theirs a → IsMergedFile mine theirs b → a ≡ b
same_file mine theirs a b is_a is_b =
    let id = is_a.id ∙ sym is_b.id in
    let kind = is_a.kind ∙ sym is_b.kind in
    let versions = same_versions mine.versions theirs.versions a.versions b.versions is_a.versions is_b.versions in
    let covered = is_a.covered ∙ sym is_b.covered in
    λ i. record { id = id i; kind = kind i; versions = versions i; covered = covered i }

same_taken : (held : List Id) (theirs : FileReplica) (a b : Option FileReplica) → IsTaken held theirs a →
    IsTaken held theirs b → a ≡ b
same_taken held theirs a b is_a is_b = by_held (held_or_not (λ id. id) held theirs.id)
  where
    by_held : (found : Option Id) × HoldsUnderBy (λ id. id) held theirs.id found → a ≡ b
    by_held (Some id, has) =
        let named : Contains held theirs.id = subst (Contains held) has.1 has.0 in
        is_a.named named ∙ sym (is_b.named named)
    by_held (None, none) =
        let unnamed : Contains held theirs.id → ⊥ = λ inside. none (record { item = theirs.id; inside = inside; has_id = refl }) in
        is_a.unnamed unnamed ∙ sym (is_b.unnamed unnamed)

pub same_under : (held : List Id) (mine theirs a b : Option FileReplica) → Merges held mine theirs a →
    Merges held mine theirs b → a ≡ b
same_under held (Some mine) (Some theirs) (Some a) (Some b) is_a is_b = ap Some (same_file mine theirs a b is_a is_b)
same_under held (Some mine) (Some theirs) None b is_a is_b = absurd is_a
same_under held (Some mine) (Some theirs) (Some a) None is_a is_b = absurd is_b
same_under held (Some mine) None a b is_a is_b = is_a ∙ sym is_b
same_under held None (Some theirs) a b is_a is_b = same_taken held theirs a b is_a is_b
same_under held None None a b is_a is_b = is_a ∙ sym is_b

same_inside : (held : List Id) (mine theirs one other : List FileReplica) → AreMergedFiles held mine theirs one →
    AreMergedFiles held mine theirs other → (file : FileReplica) → Contains one file → Contains other file
same_inside held mine theirs one other merged_one merged_other file inside =
    let at_mine = held_or_not id_of mine file.id in
    let at_theirs = held_or_not id_of theirs file.id in
    let found = held_or_not id_of other file.id in
    let row = merged_one.each file.id at_mine.0 at_theirs.0 (Some file) at_mine.1 at_theirs.1 (inside, refl) in
    let other_row = merged_other.each file.id at_mine.0 at_theirs.0 found.0 at_mine.1 at_theirs.1 found.1 in
    let is : Some file ≡ found.0 = same_under held at_mine.0 at_theirs.0 (Some file) found.0 row other_row in
    (subst (HoldsUnder other file.id) (sym is) found.1).0

-- two lists have one merge
pub same_merge : (held : List Id) (mine theirs one other : List FileReplica) → IsRising one → IsRising other →
    AreMergedFiles held mine theirs one → AreMergedFiles held mine theirs other → one ≡ other
same_merge held mine theirs one other rising_one rising_other merged_one merged_other =
    same_items id_of one other rising_one rising_other (λ file.
    (same_inside held mine theirs one other merged_one merged_other file, same_inside held mine theirs other one merged_other merged_one file))

-- what is new of a peer's files is one list
new_there : (mine theirs one other : List FileReplica) → AreNew mine theirs one → AreNew mine theirs other →
    (file : FileReplica) → Contains one file → Contains other file
new_there mine theirs one other are also file inside = elim (also.all file (are.of_theirs file inside)) [
  | inl there ↦ there
  | inr held ↦ absurd (are.not_of_mine file inside held)
]

pub same_news : (mine theirs one other : List FileReplica) → AreNew mine theirs one → AreNew mine theirs other →
    one ≡ other
same_news mine theirs one other are also = same_items id_of one other are.rising also.rising
    (λ file. (new_there mine theirs one other are also file, new_there mine theirs other one also are file))

-- and two lists of versions make one number
pub same_count : (mine theirs : List Version) (one other : ℕ) → MakeSoMany mine theirs one →
    MakeSoMany mine theirs other → one ≡ other
same_count mine theirs one other makes also =
    sym makes.long ∙ ap length (same_versions mine theirs makes.both also.both makes.merged also.merged) ∙ also.long
