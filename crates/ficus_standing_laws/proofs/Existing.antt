-- For each lawful history of two to eight members a replica of each member stands; so alike is the same view.
use Rattle.std.proofs.Common.{◌≡◌, ◌⊎◌, ◌↔◌, ℕ, ◌+◌, ◌<◌, ◌≤◌, List, length, Option, Some, None, inl, inr, refl, subst, sym, arith}
use Rattle.std.specs.Bool.{MatchBool}
use Rattle.std.specs.Prelude.{Bool, true, false}
use Rattle.std.proofs.lemmas.Bool.{cases_eq, cases_lt}
use Rattle.ficus_ids.specs.Members.{IsCount, IsMember}
use Rattle.ficus_model.specs.declared.event.Event.{Event}
use Rattle.ficus_model.specs.declared.event.Event.TheVariants.{Ask}
use Rattle.ficus_model.specs.Events.{IsAt, actor, count_of, generation_of, through, traits}
use Rattle.ficus_model.specs.Known.{Knows}
use Rattle.ficus_model.specs.Lawful.{Volume, ClosesAsk, IsLawful, IsOpenAsk}
use Rattle.ficus_model.specs.Versions.{written_of}
use Rattle.ficus_model.specs.View.{ViewSame}
use Rattle.ficus_laws.proofs.Deciding.{Decided, HasLast, NoneBelow, last_or_none}
use Rattle.ficus_laws.proofs.Positions.{at_exists, at_same, at_within}
use Rattle.ficus_table_laws.proofs.Entries.{entries_exist}
use Rattle.ficus_table_laws.proofs.Files.{files_exist}
use Rattle.ficus_rules.specs.Alike.{AreAlike}
use Rattle.ficus_rules.specs.View.{history_view}
use Rattle.ficus_rules.proofs.Alikes.{alike_along}
use Rattle.ficus_deciding.specs.View.{tables_view}
use Rattle.ficus_durable_state.specs.declared.saved.Saved.{Saved}
use Rattle.ficus_replica.specs.SavedOf.{IsOpenAskOf, IsSavedOf, StandsFor}
use Rattle.ficus_replica.specs.declared.replica.Asked.{Asked}
use Rattle.ficus_replica.specs.declared.replica.Replica.{Replica}
use Rattle.ficus_replica.proofs.AlikeViews.{alike_views}
use Rattle.ficus_replica.proofs.Views.{stands_same}
use Rattle.ficus_standing_laws.specs.Laws.{HasReplica}

pub saved_exists : (volume : Volume) (H : List Event) (replica : ℕ) → IsCount volume.members →
    IsMember volume.members replica → IsLawful volume H → (saved : Saved) × IsSavedOf volume H replica saved
saved_exists volume H replica count member lawful =
    let entries = entries_exist volume H replica lawful in
    let files = files_exist volume H replica lawful count in (
      record {
        me = replica;
        members = volume.members;
        ids = volume.ids;
        bytes = volume.bytes;
        next = count_of replica H + 1;
        used = written_of replica H;
        generation = generation_of replica H;
        entries = entries.entries;
        files = files.files;
      },
      record {
        member = member;
        me = refl;
        members = refl;
        ids = refl;
        bytes = refl;
        next = refl;
        used = refl;
        generation = refl;
        entries = entries.are;
        files = files.are;
      },
    )

-- what is said where a test holds is decided where it is
where_decided : (test : Bool) {P : Type 0} → Decided P → Decided (MatchBool test P ⊥)
where_decided true decided = decided
where_decided false decided = inr (λ so. so)

module _ (H : List Event) (replica : ℕ) where
  closes_or_not : (event : Event) → Decided (ClosesAsk replica event)
  closes_or_not event = where_decided (traits event).closes (cases_eq (actor event) replica)

  -- an event that closes asks of the replica stands at the position
  record ClosesAt (position : ℕ) : Type 0 where
    event : Event
    at : IsAt H position event
    closes : ClosesAsk replica event

  closes_at : (position : ℕ) → Decided (ClosesAt position)
  closes_at position = go (cases_lt position (length H))
    where
      is : (event : Event) → IsAt H position event → Decided (ClosesAsk replica event) → Decided (ClosesAt position)
      is event at (inl closes) = inl (record { event = event; at = at; closes = closes })
      is event at (inr none) =
          inr (λ there. none (subst (ClosesAsk replica) (at_same there.at at) there.closes))

      go : (position < length H) ⊎ (length H ≤ position) → Decided (ClosesAt position)
      go (inl l) = let found = at_exists H position l in is found.0 found.1 (closes_or_not found.0)
      go (inr h) = inr (λ there. omega (arith, at_within there.at))

  abbrev Waits : Type 0
  Waits = (ask : Option Asked) × IsOpenAskOf H replica ask

  -- behind an event that closes asks and is none no earlier ask is open
  none_open : (last : ℕ) (event : Event) → IsAt H last event → ClosesAsk replica event →
      ((other : ℕ) → other < length H → ClosesAt other → other ≤ last) →
      ((to : ℕ) → Ask replica to ≡ event → ⊥) → (position to : ℕ) → IsOpenAsk H position replica to → ⊥
  none_open last event at closes latest no_ask position to open_ask = go (cases_eq position last)
    where
      go : (position ≡ last) ⊎ (position ≡ last → ⊥) → ⊥
      go (inl same) = no_ask to (at_same open_ask.ask (subst (λ p. IsAt H p event) (sym same) at))
      go (inr other) =
          let low = latest position (at_within open_ask.ask)
          (record { event = Ask replica to; at = open_ask.ask; closes = refl }) in
          open_ask.latest last event (omega (arith, low, other)) at closes

  waits : (last : ℕ) (event : Event) → IsAt H last event → ClosesAsk replica event →
      ((other : ℕ) → other < length H → ClosesAt other → other ≤ last) → Waits
  waits last (Ask by to) at closes latest = (
    Some (record { to = to; number = generation_of replica (through last H) }),
    (
      last,
      record {
        ask = subst (λ r. IsAt H last (Ask r to)) closes at;
        latest = λ later event after there closes_too.
            let low = latest later (at_within there) (record { event = event; at = there; closes = closes_too }) in
            omega (arith, low, after);
      },
      refl,
    ),
  )
  waits last event at closes latest = (None, none_open last event at closes latest (λ to e. cc))

  ask_exists : Waits
  ask_exists = go (last_or_none ClosesAt (length H) (λ position l. closes_at position))
    where
      go : HasLast ClosesAt (length H) ⊎ NoneBelow ClosesAt (length H) → Waits
      go (inl (last, found)) = waits last found.holds.event found.holds.at found.holds.closes found.latest
      go (inr none) = (
        None,
        λ position to open_ask. none position (at_within open_ask.ask)
            (record { event = Ask replica to; at = open_ask.ask; closes = refl }),
      )

pub replica_exists : (volume : Volume) (H : List Event) (number : ℕ) → IsCount volume.members →
    IsMember volume.members number → IsLawful volume H → HasReplica volume H number
replica_exists volume H number count member lawful =
    let saved = saved_exists volume H number count member lawful in
    let ask = ask_exists H number in
    record { replica = record { saved = saved.0; ask = ask.0 }; stands = record { saved = saved.1; ask = ask.1 } }

pub alike_is_same_view : (volume : Volume) (H : List Event) (r s : ℕ) → IsCount volume.members →
    IsMember volume.members r → IsMember volume.members s → IsLawful volume H →
    AreAlike (history_view volume H r) (history_view volume H s) ↔ ViewSame H (Knows H r) (Knows H s)
alike_is_same_view volume H r s count member member_too lawful =
    let one = saved_exists volume H r count member lawful in
    let other = saved_exists volume H s count member_too lawful in
    alike_views volume H r s one.0 other.0 lawful one.1 other.1

pub alike_tables : (volume : Volume) (H : List Event) (r s : ℕ) (one other : Replica) → IsLawful volume H →
    StandsFor volume H r one → StandsFor volume H s other →
    AreAlike (tables_view one.saved) (tables_view other.saved) ↔ ViewSame H (Knows H r) (Knows H s)
alike_tables volume H r s one other lawful stands stands_too =
    let along = alike_along (stands_same lawful stands.saved).shown (stands_same lawful stands_too.saved).shown in
    let views = alike_views volume H r s one.saved other.saved lawful stands.saved stands_too.saved in
    (λ alike. views.0 (along.0 alike), λ same. along.1 (views.1 same))
