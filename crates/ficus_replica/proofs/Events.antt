-- A replica stands for a history from its start on, also after each event that leaves alone what it saves.
use Rattle.std.proofs.Common.{◌≡◌, ◌≢◌, ℕ, ◌+◌, ◌≤◌, List, [], ◌∷◌, ◌++◌, Option, Some, None, cond, refl, sym, ap, subst, inl, inr, ◌⊎◌, arith}
use Rattle.std.specs.Prelude.{All, Bool, true, false, map, sum_by}
use Rattle.std.specs.Bool.{MatchBool}
use Rattle.std.proofs.lemmas.List.Elements.{All-map, All-weaker}
use Rattle.std.proofs.lemmas.List.Sums.{sum_by-le}
use Rattle.std.proofs.lemmas.Option.{get_or_from_slice_get}
use Rattle.ficus_ids.specs.ListLaws.{not_inside_none}
use Rattle.ficus_model.specs.declared.event.Event.{Event}
use Rattle.ficus_model.specs.declared.event.Event.TheVariants.{Update, Ask, Serve, Take, Restart}
use Rattle.ficus_model.specs.Events.{IsAt, actor, is_saved, is_update_of, count_of, generation_of, traits}
use Rattle.ficus_model.specs.declared.event.Op.{Op}
use Rattle.ficus_model.specs.Lawful.{Volume, ClosesAsk}
use Rattle.ficus_model.specs.Versions.{written_in, written_of}
use Rattle.ficus_ids.specs.Members.{IsMember}
use Rattle.ficus_durable_state.specs.declared.saved.Saved.{Saved}
use Rattle.ficus_laws.proofs.Positions.{at_within}
use Rattle.ficus_laws.proofs.Updates.{is_update_of_other}
use Rattle.ficus_held_file_laws.specs.Tables.{AreHeldEntries, AreHeldFiles}
use Rattle.ficus_replica.specs.declared.replica.Asked.{Asked}
use Rattle.ficus_replica.specs.declared.replica.Replica.{Replica}
use Rattle.ficus_replica.specs.SavedOf.{IsSavedOf, IsOpenAskOf, StandsFor, fresh_saved}
use Rattle.ficus_replica.proofs.OpenAsks.{open_kept, open_none}
use Rattle.ficus_replica.proofs.Saves.{saved_of_other, saved_kept, saved_once}

-- the event, whoever's it is, changes nothing that is saved, and leaves each ask open
abbrev pub IsStill : Event → Type 0
IsStill event = MatchBool (traits event).saves ⊥ (MatchBool (traits event).closes ⊥ (Unit {0}))

where_true : (test : Bool) {P : Type 0} → MatchBool test P ⊥ → P
where_true true so = so
where_true false so = absurd so

pub closed_by_own : (r : ℕ) (event : Event) → ClosesAsk r event → actor event ≡ r
closed_by_own r event closes = where_true (traits event).closes closes

still_stands : (volume : Volume) (H : List Event) (r : ℕ) (replica : Replica) (event : Event) →
    StandsFor volume H r replica → IsStill event → StandsFor volume (H ++ event ∷ []) r replica
still_stands volume H r replica (Serve by ask state pieces) stands is =
    let event = Serve by ask state pieces in
    record {
      saved = saved_kept event (inr tt) refl stands.saved refl;
      ask = open_kept H r replica.ask event (λ closes. closes) stands.ask;
    }
still_stands volume H r replica (Take by serve piece) stands is =
    let event = Take by serve piece in
    record {
      saved = saved_kept event (inr tt) refl stands.saved refl;
      ask = open_kept H r replica.ask event (λ closes. closes) stands.ask;
    }
still_stands volume H r replica event stands is = absurd is

-- what another replica does leaves a replica as it is, and so do what it serves and a piece that it takes
pub quiet_stands : (volume : Volume) (H : List Event) (r : ℕ) (replica : Replica) (event : Event) →
    StandsFor volume H r replica → (actor event ≢ r) ⊎ IsStill event → StandsFor volume (H ++ event ∷ []) r replica
quiet_stands volume H r replica event stands (inl other) = record {
  saved = saved_kept event (inl other) (is_update_of_other r event other) stands.saved (saved_of_other r event other);
  ask = open_kept H r replica.ask event (λ closes. other (closed_by_own r event closes)) stands.ask;
}
quiet_stands volume H r replica event stands (inr still) = still_stands volume H r replica event stands still

-- what is saved is kept by a restart, and there is no open ask after it
pub restart_stands : (volume : Volume) (H : List Event) (r : ℕ) (saved : Saved) (new : Replica) →
    IsSavedOf volume H r saved → new.saved ≡ saved → new.ask ≡ None → StandsFor volume (H ++ Restart r ∷ []) r new
restart_stands volume H r saved new was same none =
    let event = Restart r in
    record {
      saved = rw same (saved_kept event (inr tt) refl was refl);
      ask = rw none (open_none H r event refl (λ to is. cc));
    }

abbrev pub IsRestart : Event → Type 0
IsRestart event = event ≡ Restart (actor event)

pub restarts_alone : (replicas : List ℕ) → All IsRestart (map (λ by. Restart by) replicas)
restarts_alone replicas = All-map IsRestart (λ by. Restart by) replicas (λ k d within. refl)

restart_at : {H : List Event} {position : ℕ} {event : Event} → All IsRestart H → IsAt H position event → IsRestart event
restart_at {H} {position} {event} restarts a = subst IsRestart (get_or_from_slice_get H position event event a.is) (restarts position event (at_within a))

no_update_at : {by : ℕ} {op : Op} → IsRestart (Update by op) → ⊥
no_update_at is = cc

no_ask_at : {by to : ℕ} → IsRestart (Ask by to) → ⊥
no_ask_at is = cc

-- a measure that is nothing for each restart
not_measured : (measure : Event → ℕ) (event : Event) → ((by : ℕ) → measure (Restart by) ≡ 0) → IsRestart event →
    measure event ≤ 0
not_measured measure event none is = omega (arith, ap measure is, none (actor event))

module _ (H : List Event) (r : ℕ) (restarts : All IsRestart H) where
  nothing_summed : (measure : Event → ℕ) → ((by : ℕ) → measure (Restart by) ≡ 0) → sum_by measure H ≡ 0
  nothing_summed measure none =
      omega (
        arith,
        sum_by-le measure 0 H
            (All-weaker IsRestart (λ x. measure x ≤ 0) (λ event is. not_measured measure event none is) H restarts),
      )

  count_fresh : count_of r H ≡ 0
  count_fresh = nothing_summed (λ event. cond (is_update_of r event) 1 0) (λ by. refl)

  generation_fresh : generation_of r H ≡ 0
  generation_fresh = nothing_summed (λ event. cond (is_saved r event) 1 0) (λ by. refl)

  written_fresh : written_of r H ≡ 0
  written_fresh = nothing_summed (written_in r) (λ by. refl)

  -- nothing is held
  no_entries : (members : ℕ) → AreHeldEntries members H r []
  no_entries members = record {
    rising = record { each = λ i j d before within. absurd (omega arith) };
    kept = record {
      each = λ entry inside. absurd (not_inside_none entry inside);
      absent = λ id none known. absurd (no_update_at (restart_at restarts known.entered.update.at));
    };
  }

  no_files : (members : ℕ) → AreHeldFiles members H r []
  no_files members = record {
    rising = record { each = λ i j d before within. absurd (omega arith) };
    ordered = λ file inside. absurd (not_inside_none file inside);
    kept = record {
      each = λ object inside. absurd (not_inside_none object inside);
      absent = λ id kind made none. absurd (no_update_at (restart_at restarts made.update.at));
    };
  }

  -- a replica that has heard of nothing stands for each history in which replicas have started and done nothing else
  pub fresh_stands : (volume : Volume) → IsMember volume.members r →
      StandsFor volume H r (record { saved = fresh_saved volume r; ask = None })
  fresh_stands volume member = record {
    saved = record {
      member = member;
      me = refl;
      members = refl;
      ids = refl;
      bytes = refl;
      next = ap (λ count. count + 1) (sym count_fresh);
      used = sym written_fresh;
      generation = sym generation_fresh;
      entries = no_entries volume.members;
      files = no_files volume.members;
    };
    ask = λ position to open_ask. no_ask_at (restart_at restarts open_ask.ask);
  }

-- the history without events is one
pub no_restarts : All IsRestart []
no_restarts k d within = absurd (omega arith)

no_ask : (r : ℕ) (asked : Option Asked) → IsOpenAskOf [] r asked → asked ≡ None
no_ask r None none = refl
no_ask r (Some asked) waits = absurd (omega (arith, at_within waits.1.ask))

-- so whatever stands for no events stands for the restarts too
pub restarted_stands : (volume : Volume) (H : List Event) (r : ℕ) (replica : Replica) → All IsRestart H →
    StandsFor volume [] r replica → StandsFor volume H r replica
restarted_stands volume H r replica restarts stands =
    let member = stands.saved.member in
    let saved = saved_once stands.saved (fresh_stands [] r no_restarts volume member).saved in
    let fresh = fresh_stands H r restarts volume member in
    record { saved = rw saved fresh.saved; ask = rw (no_ask r replica.ask stands.ask) fresh.ask }
