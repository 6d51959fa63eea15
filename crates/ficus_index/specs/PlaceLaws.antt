-- What follows for notes between two places, for the proofs of the crates above.
use Rattle.std.proofs.Common.{◌≡◌, ℕ, ◌+◌, ◌<◌, ◌≤◌, List, [], ◌∷◌, ◌∙◌, sym, ap, arith, inl, inr, ◌⊎◌}
use Rattle.std.specs.Prelude.{Contains}
use Rattle.std.specs.List.{fold}
use Rattle.std.proofs.lemmas.Bool.{cases_lt}
use Rattle.std.proofs.lemmas.List.{get_or_default}
use Rattle.ficus_ids.specs.declared.id.Id.{Id}
use Rattle.ficus_index.specs.declared.place.Note.{Note}
use Rattle.ficus_index.specs.declared.place.Place.{Place}
use Rattle.ficus_index.specs.Digest.{mixed, digest_of}
use Rattle.ficus_index.specs.Place.{order_of, IsNoteAt, IsSpan, IsNotedWithin}

-- a note between two places stands in their span
pub noted_within : (notes : List Note) (from to : Place) (start end : ℕ) (note : Note) →
    IsSpan notes from to start end → Contains notes note → order_of from ≤ order_of note.place →
    order_of note.place < order_of to → IsNotedWithin notes start end note.id
noted_within notes from to start end note span (k, within, is) at_least below =
    let at = span.all k note within (rw is at_least) (rw is below) in
    record {
      position = k;
      from = at.0;
      to = at.1;
      at =
          (within, λ d. ap (λ (l : Note). l.id) (get_or_default notes k d note within ∙ is));
    }

-- a span that ends where it starts notes nothing
pub none_within : (notes : List Note) (start : ℕ) (id : Id) → IsNotedWithin notes start start id → ⊥
none_within notes start id noted = absurd (omega (arith, noted.from, noted.to))

-- one position more notes one identifier more
pub one_within : (notes : List Note) (start n : ℕ) (here id : Id) → IsNoteAt notes here n →
    IsNotedWithin notes start (n + 1) id → IsNotedWithin notes start n id ⊎ (id ≡ here)
one_within notes start n here id at noted =
    elim (cases_lt noted.position n) [
      | inl before ↦ inl (record { position = noted.position; from = noted.from; to = before; at = noted.at })
      | inr last ↦
          let same : noted.position ≡ n = omega (arith, noted.to) in
          let any : Note = record { place = record { dir = id; rank = 0 }; id = id } in
          inr (sym (noted.at.1 any) ∙ rw same (at.1 any))
    ]

fold_small : (digest : ℕ) (name : List ℕ) → digest < 2147483648 → fold mixed digest name < 2147483648
fold_small digest [] small = small
fold_small digest (byte ∷ name) small = fold_small (mixed digest byte) name (omega arith)

-- a digest has 31 bits
pub digest_small : (name : List ℕ) → digest_of name < 2147483648
digest_small name = fold_small 18652613 name (omega arith)
