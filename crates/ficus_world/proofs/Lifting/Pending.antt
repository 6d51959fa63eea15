-- How a member stands stays so while others act, also with what is pending.
use Rattle.std.proofs.Common.{◌≡◌, ◌≢◌, ℕ, List, [], ◌∷◌, ◌++◌, Some, None, refl, sym, subst, inl, append_assoc}
use Rattle.std.proofs.lemmas.List.{append-nil}
use Rattle.ficus_entry.specs.declared.entry.Entry.{Entry}
use Rattle.ficus_file.specs.declared.file.FileReplica.{FileReplica}
use Rattle.ficus_model.specs.declared.event.Event.{Event}
use Rattle.ficus_model.specs.Events.{actor}
use Rattle.ficus_model.specs.Lawful.{Volume, IsLawful}
use Rattle.ficus_replica.specs.declared.replica.Replica.{Replica}
use Rattle.ficus_replica.specs.Accept.{IsServed}
use Rattle.ficus_replica.specs.SavedOf.{StandsFor, StandsAfter}
use Rattle.ficus_replica.proofs.Events.{quiet_stands}
use Rattle.ficus_runs.specs.Actions.{down_from}
use Rattle.ficus_runs.specs.ModelWorld.{Standing}
use Rattle.ficus_runs.specs.ModelWorld as model
use Rattle.ficus_opening.specs.declared.member.MemberState.{MemberState}
use Rattle.ficus_opening.specs.declared.member.MemberState.TheVariants as state
use Rattle.ficus_opening.specs.declared.member.Pending.{Pending}
use Rattle.ficus_world.specs.Moves.{still_pending}
use Rattle.ficus_world.specs.World.{AreOthers, IsPendingFor, StateStandsFor}
use Rattle.ficus_runs.proofs.Messages.{served_more}

-- a replica stands for the history with what others did
pub others_leave : (volume : Volume) (H : List Event) (r : ℕ) (replica : Replica) (later : List Event)
    → AreOthers r later → StandsFor volume H r replica → StandsFor volume (H ++ later) r replica
others_leave volume H r replica [] others stands =
    subst (λ K. StandsFor volume K r replica) (sym (append-nil H)) stands
others_leave volume H r replica (event ∷ later) others stands =
    subst (λ K. StandsFor volume K r replica) (append_assoc H (event ∷ []) later)
    (others_leave volume (H ++ event ∷ []) r replica later others.1
    (quiet_stands volume H r replica event stands (inl others.0)))

-- what was served was served, whatever comes behind it
pub served_long : (volume : Volume) (H later : List Event) {asker server number serve : ℕ} {entries : List Entry}
    {files : List FileReplica} → IsServed volume H asker server number entries files serve
    → IsServed volume (H ++ later) asker server number entries files serve
served_long volume H [] {asker} {server} {number} {serve} {entries} {files} served =
    subst (λ K. IsServed volume K asker server number entries files serve) (sym (append-nil H)) served
served_long volume H (event ∷ later) {asker} {server} {number} {serve} {entries} {files} served =
    subst (λ K. IsServed volume K asker server number entries files serve) (append_assoc H (event ∷ []) later)
    (served_long volume (H ++ event ∷ []) later (served_more volume H event served))

module _ (volume : Volume) (H : List Event) (raise r : ℕ) where
  -- what is pending stays so where another member acts
  pub pending_later : (event : Event) → actor event ≢ r → (pending : Pending) (waits : Event)
      → IsPendingFor volume H raise r pending waits → IsPendingFor volume (H ++ event ∷ []) raise r pending waits
  pending_later event other pending waits is = record {
    raises = is.raises;
    own = is.own;
    saves = is.saves;
    follows = λ later others lawful.
        subst (λ K. StandsAfter volume K r waits pending.replica) (sym (append_assoc H (event ∷ []) later))
        (is.follows (event ∷ later) (other, others)
        (subst (IsLawful volume) (append_assoc H (event ∷ []) later) lawful));
  }

  pub state_later : (event : Event) → actor event ≢ r → (stood : MemberState) (modelled : Standing)
      → StateStandsFor volume H raise r stood modelled → StateStandsFor volume (H ++ event ∷ []) raise r stood modelled
  state_later event other state.Up model.Up is = tt
  state_later event other (state.Down None) (model.Down None) is = tt
  state_later event other (state.Down (Some pending)) (model.Down (Some waits)) is =
      pending_later event other pending waits is
  state_later event other stood modelled is = absurd is

  -- a member is up in the model where it is in the code, and the other way round
  pub modelled_up : (stood : MemberState) (modelled : Standing) → StateStandsFor volume H raise r stood modelled
      → stood ≡ state.Up → modelled ≡ model.Up
  modelled_up state.Up model.Up is up = refl
  modelled_up (state.Down pending) modelled is up = absurd (cc)
  modelled_up stood modelled is up = absurd is

  pub state_up : (stood : MemberState) (modelled : Standing) → StateStandsFor volume H raise r stood modelled
      → modelled ≡ model.Up → stood ≡ state.Up
  state_up state.Up model.Up is up = refl
  state_up stood (model.Down pending) is up = absurd (cc)
  state_up (state.Down None) model.Up is up = absurd is
  state_up (state.Down (Some pending)) model.Up is up = absurd is

  -- one that is up, whatever has happened
  pub up_stands : (stood : MemberState) → stood ≡ state.Up → StateStandsFor volume H raise r stood model.Up
  up_stands state.Up up = tt
  up_stands (state.Down pending) up = absurd (cc)

  -- what was pending at a member whose disks failed stays so
  pub down_stands : (stood : MemberState) (modelled : Standing) → StateStandsFor volume H raise r stood modelled
      → StateStandsFor volume H raise r (state.Down (still_pending stood)) (down_from modelled)
  down_stands state.Up model.Up is = tt
  down_stands (state.Down None) (model.Down None) is = tt
  down_stands (state.Down (Some pending)) (model.Down (Some waits)) is = is
  down_stands stood modelled is = absurd is

  -- what is pending in the model is pending in the code, and may come now
  pub pending_comes : (stood : MemberState) (modelled : Standing) (pending : Pending)
      → StateStandsFor volume H raise r stood modelled → stood ≡ state.Down (Some pending)
      → (waits : Event) × (modelled ≡ model.Down (Some waits)) × IsPendingFor volume H raise r pending waits
  pending_comes (state.Down (Some found)) (model.Down (Some waits)) pending is same =
      let pendings : found ≡ pending = cc in
      (waits, refl, subst (λ (p : Pending). IsPendingFor volume H raise r p waits) pendings is)
  pending_comes state.Up modelled pending is same = absurd (cc)
  pending_comes (state.Down None) modelled pending is same = absurd (cc)
  pending_comes stood modelled pending is same = absurd is

-- now it comes
pub comes_now : (volume : Volume) (H : List Event) (raise r : ℕ) (pending : Pending) (waits : Event)
    → IsLawful volume H → IsPendingFor volume H raise r pending waits → StandsAfter volume H r waits pending.replica
comes_now volume H raise r pending waits lawful is =
    subst (λ K. StandsAfter volume K r waits pending.replica) (append-nil H)
    (is.follows [] tt (subst (IsLawful volume) (sym (append-nil H)) lawful))
