-- The first member with whose disks no world may be opened.
use Rattle.std.proofs.Common.{◌≡◌, ◌⊎◌, ℕ, ◌<◌, ◌≤◌, List, length, Option, ap, sym, ◌∙◌, inl, inr, arith}
use Rattle.std.specs.Prelude.{Result, Err}
use Rattle.std.proofs.lemmas.Bool.{cases_lt}
use Rattle.ficus_disk.specs.declared.pair.Pair.{Pair}
use Rattle.ficus_keeper.specs.Kept.{Kept}
use Rattle.ficus_runs.proofs.Numbers.{number_exists}
use Rattle.ficus_durable_state.specs.declared.saved.Saved.{Saved}
use Rattle.ficus_opening.specs.declared.member.Member.{Member}
use Rattle.ficus_opening.specs.declared.fault.WorldFault.{WorldFault}
use Rattle.ficus_opening.specs.declared.fault.WorldFault.TheVariants.{Image, Memory, Occupied, Store}
use Rattle.ficus_opening.specs.Opening.{AreRead, IsFirstBad, IsStoreFault, Opens}

module _ {D : Type 0} (kept : List ℕ → List ℕ → Option Kept) (seen : D → List ℕ) (disks : List (Pair D)) where
  -- what opens by one first member opens by another of the same volume
  by_other : (first other saved : Saved) (r : ℕ) → Opens kept seen disks first other 1
      → Opens kept seen disks first saved r → Opens kept seen disks other saved r
  by_other first other saved r is opens = record {
    pair = opens.pair;
    is = opens.is;
    fits = opens.fits;
    holds = opens.holds;
    may = record {
      own = opens.may.own;
      same = record {
        members = opens.may.same.members ∙ sym is.may.same.members;
        ids = opens.may.same.ids ∙ sym is.may.same.ids;
        bytes = opens.may.same.bytes ∙ sym is.may.same.bytes;
      };
    };
  }

  -- where a world was opened with what was read, there is none
  pub none_bad_where_read : (members : List Member) → 1 ≤ length members → AreRead kept seen disks members → (r : ℕ)
      → IsFirstBad kept seen disks r → ⊥
  none_bad_where_read members some read r bad =
      let one = number_exists members 1 (record { at_least = omega arith; at_most = some }) in
      let saved_one = one.0.replica.saved in
      let is_one = (read.each 1 one.0 one.1).1 in
      let opens_one = by_other read.first saved_one saved_one 1 is_one is_one in
      let within = bad.member saved_one opens_one in
      let as_many = is_one.may.same.members in
      let counted = read.counted in
      let at =
      number_exists members r (record { at_least = bad.some; at_most = omega (arith, within, as_many, counted) }) in
      let is_at = (read.each r at.0 at.1).1 in
      bad.bad saved_one at.0.replica.saved opens_one (by_other read.first saved_one at.0.replica.saved r is_one is_at)

  -- there is one at most
  not_below : (r q : ℕ) → IsFirstBad kept seen disks r → IsFirstBad kept seen disks q → r < q → ⊥
  not_below r q bad other below =
      let opened = other.before r bad.some below in
      bad.bad opened.0 opened.1 opened.2 opened.3

  pub one_first_bad : (r q : ℕ) → IsFirstBad kept seen disks r → IsFirstBad kept seen disks q → r ≡ q
  one_first_bad r q bad other = elim (cases_lt r q) [
    | inl below ↦ absurd (not_below r q bad other below)
    | inr not_less ↦ elim (cases_lt q r) [
      | inl above ↦ absurd (not_below q r other bad above)
      | inr not_above ↦ omega (arith, not_less, not_above)
    ]
  ]

  -- what was opened ends with it, where no disk failed and no memory was refused before
  pub image_comes : {T : Type 0} (result : Result T WorldFault) (fault : WorldFault) → result ≡ Err fault
      → ((q : ℕ) → result ≡ Err (Image q) → IsFirstBad kept seen disks q)
      → ((q : ℕ) → result ≡ Err (Occupied q) → ⊥) → (r : ℕ) → IsFirstBad kept seen disks r
      → (fault ≡ Image r) ⊎ IsStoreFault fault
  image_comes result (Store q) is image never r bad = inr tt
  image_comes result Memory is image never r bad = inr tt
  image_comes result (Occupied q) is image never r bad = absurd (never q is)
  image_comes result (Image q) is image never r bad =
      inl (ap (λ k. Image k) (one_first_bad q r (image q is) bad))
