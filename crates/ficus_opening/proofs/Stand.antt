-- Disks that stand for a history.
use Rattle.std.proofs.Common.{◌≡◌, ℕ, ◌≤◌, List, [], length, Option, sym, subst, ◌∙◌, arith}
use Rattle.std.proofs.lemmas.List.Sums.{count_by-le-length}
use Rattle.ficus_disk.specs.declared.pair.Pair.{Pair}
use Rattle.ficus_ids.specs.Members.{IsCount, IsMember}
use Rattle.ficus_keeper.specs.Kept.{Kept, found_in}
use Rattle.ficus_laws.proofs.Lawful.{lawful_none}
use Rattle.ficus_model.specs.declared.event.Event.{Event}
use Rattle.ficus_model.specs.Events.{is_saved}
use Rattle.ficus_model.specs.Lawful.{Volume}
use Rattle.ficus_replica.proofs.Events.{fresh_stands, no_restarts}
use Rattle.ficus_replica.specs.SavedOf.{IsSavedOf, fresh_saved}
use Rattle.ficus_durable_state.specs.Limits.{byte_limit, update_limit}
use Rattle.ficus_durable_state.specs.Saved.{FitsImage}
use Rattle.ficus_durable_state.specs.declared.saved.Saved.{Saved}
use Rattle.ficus_stable_storage.specs.Leads.Holds.{Holds, OneHeld}
use Rattle.ficus_runs.specs.Numbered.{IsNumbered}
use Rattle.ficus_opening.specs.Opening.{AreMade, IsFirstBad, Opens, StandsOn}
use Rattle.ficus_opening.specs.Stand.{KeepsOf}
use Rattle.ficus_runs.proofs.Numbers.{number_exists}

-- disks that stand for a history hold of each member what a world is opened with
module _ {D : Type 0} (kept : List ℕ → List ℕ → Option Kept) (seen : D → List ℕ) (volume : Volume) (H : List Event)
    (disks : List (Pair D)) (on : StandsOn kept seen volume H disks) where
  first_keeps : 8 ≤ length disks → (pair : Pair D) × IsNumbered disks 1 pair × KeepsOf volume H 1 (found_in kept seen pair)
  first_keeps enough =
      let pair = number_exists disks 1 (record { at_least = omega arith; at_most = omega (arith, enough) }) in
      let member : IsMember volume.members 1 = record { at_least = omega arith; at_most = omega (arith, on.count.at_least) } in
      (pair.0, pair.1, on.keeps.each 1 pair.0 pair.1 member)

  pub opens_kept : (r : ℕ) (one pair : Pair D) → IsNumbered disks r pair
      → (first : KeepsOf volume H 1 (found_in kept seen one)) (keeps : KeepsOf volume H r (found_in kept seen pair))
      → Opens kept seen disks first.saved keeps.saved r
  opens_kept r one pair at first keeps =
      let saves = keeps.is.generation in
      let most = count_by-le-length (is_saved r) H in
      let few = on.few in
      record {
        pair = pair;
        is = at;
        fits = keeps.fits;
        holds = keeps.holds;
        may = record {
          own = record { me = keeps.is.me; generation = omega (arith, saves, most, few) };
          same = record {
            members = keeps.is.members ∙ sym first.is.members;
            ids = keeps.is.ids ∙ sym first.is.ids;
            bytes = keeps.is.bytes ∙ sym first.is.bytes;
          };
        };
      }

  -- with the first member's disks a world may be opened, of as many members
  pub first_opens : 8 ≤ length disks
      → (first : Saved) × Opens kept seen disks first first 1 × (first.members ≡ volume.members)
  first_opens enough =
      let one = first_keeps enough in
      let first = one.2 in
      (first.saved, opens_kept 1 one.0 one.0 one.1 first first, first.is.members)

  pub never_bad : 8 ≤ length disks → (r : ℕ) → IsFirstBad kept seen disks r → ⊥
  never_bad enough r bad =
      let one = first_keeps enough in
      let first = one.2 in
      let opens_first = opens_kept 1 one.0 one.0 one.1 first first in
      let within = bad.member first.saved opens_first in
      let as_many = first.is.members in
      let few = on.count.at_most in
      let pair =
      number_exists disks r
      (record { at_least = bad.some; at_most = omega (arith, within, as_many, few, enough) }) in
      let keeps =
      on.keeps.each r pair.0 pair.1 (record { at_least = bad.some; at_most = omega (arith, within, as_many) }) in
      bad.bad first.saved keeps.saved opens_first (opens_kept r one.0 pair.0 pair.1 first keeps)

  -- what a member saves whose disks hold it is what it saves after the history
  pub saved_is : OneHeld → (r : ℕ) (pair : Pair D) (saved : Saved) → IsNumbered disks r pair
      → IsMember volume.members r → Holds (found_in kept seen pair) saved → IsSavedOf volume H r saved
  saved_is held_once r pair saved at member holds =
      let keeps = on.keeps.each r pair at member in
      subst (λ (s : Saved). IsSavedOf volume H r s)
      (held_once (found_in kept seen pair) keeps.saved saved keeps.holds holds) keeps.is

-- what a replica saves that has heard of nothing
pub fresh_fits : (volume : Volume) (r : ℕ) → IsCount volume.members → 1 ≤ volume.ids → volume.ids ≤ update_limit
    → volume.bytes ≤ byte_limit → IsMember volume.members r → FitsImage (fresh_saved volume r)
fresh_fits volume r count some ids bytes member = record {
  members = count;
  me = member;
  ids_at_least = some;
  ids_at_most = ids;
  bytes = bytes;
  next_at_least = omega arith;
  next_at_most = omega arith;
  used = omega arith;
  generation = omega arith;
  tables = record {
    rising = record { each = λ i j d before within. absurd (omega arith) };
    each = λ i d within. absurd (omega arith);
    rising_files = record { each = λ i j d before within. absurd (omega arith) };
    each_file = λ i d within. absurd (omega arith);
    objects = λ i d within. absurd (omega arith);
  };
  past = record {
    each = λ i d within. absurd (omega arith);
    each_file = λ i d within. absurd (omega arith);
  };
}

pub made_stands : {D : Type 0} (kept : List ℕ → List ℕ → Option Kept) (seen : D → List ℕ) (volume : Volume)
    (disks : List (Pair D)) → IsCount volume.members → 1 ≤ volume.ids → volume.ids ≤ update_limit
    → volume.bytes ≤ byte_limit → AreMade kept seen volume disks → StandsOn kept seen volume [] disks
made_stands kept seen volume disks count some ids bytes made = record {
  count = count;
  lawful = lawful_none volume;
  few = omega arith;
  keeps = record {
    each = λ r pair at member. record {
      saved = fresh_saved volume r;
      is = (fresh_stands [] r no_restarts volume member).saved;
      fits = fresh_fits volume r count some ids bytes member;
      holds = made.each r pair at member;
    };
  };
}
