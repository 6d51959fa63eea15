-- Where what lies in a directory is noted.
use Rattle.std.proofs.Common.{◌≡◌, ℕ, ◌<◌, ◌≤◌, List, refl, ap, arith, Some, None, Ok, Err, Bool, true, ◌↔◌, subst}
use Rattle.std.specs.Prelude.{Contains, Option, Result, IfOk, IfSome, IfNone, IsTrue}
use Rattle.std.specs.Option.{MatchOption, is_some}
use Rattle.std.proofs.lemmas.Bool.{both_ways}
use Rattle.ficus_ids.specs.declared.id.Id.{Id}
use Rattle.ficus_ids.specs.Rising.{HoldsUnderBy}
use Rattle.ficus_ids.specs.RisingLaws.{held_or_not}
use Rattle.ficus_entry.specs.declared.entry.Entry.{Entry}
use Rattle.ficus_entry.specs.declared.entry.State.{State}
use Rattle.ficus_entry.specs.declared.entry.State.TheVariants.{Live}
use Rattle.ficus_index.specs.declared.place.Note.{Note}
use Rattle.ficus_index.specs.declared.place.Place.{Place}
use Rattle.ficus_index.specs.Digest.{digest_of}
use Rattle.ficus_index.specs.Place.{IsSpan, IsNotedWithin}
use Rattle.ficus_index.specs.NoteLaws.{row_noted}
use Rattle.ficus_index.specs.PlaceLaws.{digest_small, noted_within}
use Rattle.ficus_entry.specs.Inside.{LiesBetween}
use Rattle.ficus_entry.specs.Kill.{is_live}
use Rattle.ficus_entry.specs.Place.{note_of, AreNoted}

live_passes : (entry : Entry) → entry.state ≡ Live → is_live entry ≡ true
live_passes entry live = ap (λ (s : State). is_live (record entry { state = s })) live

-- a live entry between two places is noted in their span
pub entry_within : (entries : List Entry) (notes : List Note) (from to : Place) (start end : ℕ) (entry : Entry) →
    AreNoted entries notes → IsSpan notes from to start end → Contains entries entry → entry.state ≡ Live →
    LiesBetween from to entry → (IsNotedWithin notes start end entry.id → ⊥) → ⊥
entry_within entries notes from to start end entry noted span inside live between never =
    row_noted is_live note_of entries notes noted entry inside (live_passes entry live) (λ there. never
    (noted_within notes from to start end (note_of entry) span there between.at_least between.below))

pub between_ranks : (dir : Id) (low high : ℕ) (entry : Entry) → entry.dir ≡ dir → low ≤ digest_of entry.name →
    digest_of entry.name < high →
    LiesBetween (record { dir = dir; rank = low }) (record { dir = dir; rank = high }) entry
between_ranks dir low high entry in_dir at_least below =
    let replica : entry.dir.replica ≡ dir.replica = ap (λ (i : Id). i.replica) in_dir in
    let number : entry.dir.number ≡ dir.number = ap (λ (i : Id). i.number) in_dir in
    record {
      at_least = rw (replica, number) (omega (arith, at_least));
      below =
          rw (replica, number) (omega (arith, below));
    }

-- the places of a directory lie from its first rank up to the end of all ranks
pub between_all : (dir : Id) (entry : Entry) → entry.dir ≡ dir →
    LiesBetween (record { dir = dir; rank = 0 }) (record { dir = dir; rank = 2147483648 }) entry
between_all dir entry in_dir =
    between_ranks dir 0 2147483648 entry in_dir (omega arith) (omega (arith, digest_small entry.name))

pub MatchOption-weaker : {X P P' : Type 0} {Q Q' : X → Type 0} (o : Option X) → MatchOption o P Q → (P → P') →
    ((x : X) → Q x → Q' x) → MatchOption o P' Q'
MatchOption-weaker None is none some = none is
MatchOption-weaker (Some x) is none some = some x is

pub IfOk-both : {X Y : Type 0} (r : Result X Y) (P Q R : X → Type 0) → ((x : X) → P x → Q x → R x) → IfOk r P →
    IfOk r Q → IfOk r R
IfOk-both (Ok x) P Q R both one other = both x one other
IfOk-both (Err y) P Q R both one other = tt

pub is_some_where : {X : Type 0} (P : Type 0) (o : Option X) (answer : Bool) → answer ≡ is_some o →
    IfSome o (λ _. P) → IfNone o (P → ⊥) → IsTrue answer ↔ P
is_some_where P None answer is some none = (λ true_too. absurd (both_ways answer is true_too), λ p. absurd (none p))
is_some_where P (Some x) answer is some none = (λ _. some, λ _. is)

-- what can't be missing is there
pub held_where_not_missing : (ids : List Id) (id : Id) → ((Contains ids id → ⊥) → ⊥) → Contains ids id
held_where_not_missing ids id never = by (held_or_not (λ i. i) ids id)
  where
    by : (found : Option Id) × HoldsUnderBy (λ i. i) ids id found → Contains ids id
    by (Some x, held) = subst (Contains ids) held.1 held.0
    by (None, none) = absurd (never (λ inside. none (record { item = id; inside = inside; has_id = refl })))
