-- For which message a link lacks room at which a pull stops.
use Rattle.std.proofs.Common.{◌≡◌, ◌≢◌, ℕ, ◌+◌, List, [], ◌∷◌, ◌++◌, length, Err, Ok, Result, sym, subst, ap, ◌∙◌, inl, inr}
use Rattle.ficus_ids.specs.declared.refusal.Refusal.{Refusal}
use Rattle.ficus_ids.specs.declared.refusal.Refusal.TheVariants as refusal
use Rattle.ficus_model.specs.declared.event.Event.TheVariants as event
use Rattle.ficus_model.specs.Lawful.{Volume}
use Rattle.ficus_wire.specs.declared.message.Message.{Message}
use Rattle.ficus_runs.specs.Actions.{Posts, with_event}
use Rattle.ficus_runs.specs.Actions.Saves.{Saved, NotSaved}
use Rattle.ficus_runs.specs.Actions.Posts.{IsPosted}
use Rattle.ficus_runs.specs.Actions.Fetches.{Fetched}
use Rattle.ficus_runs.specs.Exchange.{Asks, GivesMail, Handles, IsServedNow, LiesBehind, Served, Serves, behind, mails_of, size_of}
use Rattle.ficus_runs.specs.Message.{IsMessageAt}
use Rattle.ficus_runs.specs.ModelWorld.{ModelWorld}
use Rattle.ficus_runs.specs.Sequence.{Effect}
use Rattle.ficus_runs.specs.Sequence.First.{Ends, Goes}
use Rattle.ficus_runs.specs.Sequence.ByRule.{Says}
use Rattle.ficus_runs.specs.Sweep.{PullsFrom}
use Rattle.ficus_runs.specs.Sweeps.Laws.{LacksRoom}
use Rattle.ficus_runs.specs.Sweeps.Laws.LacksRoom.{ForAsk, ForPieces}
use Rattle.ficus_runs.proofs.Never.{asked_never, fetches_never, of_taking, peers_never, served_never}
use Rattle.ficus_runs.proofs.Pulls.{BothGive, ask_serves, gives_end, one, the_ask}

module _ (volume : Volume) (W : ModelWorld) (by to : ℕ) (r : Refusal) (full : r ≡ refusal.LinkFull) where
  same_err : {A : Type 0} → ◌≡◌ {A = Result A Refusal} (Err r) (Err refusal.LinkFull)
  same_err = ap (λ (given : Refusal). Err given) full

  -- it comes of no other refusal
  no_other : {A : Type 0} (other : Refusal) → other ≢ refusal.LinkFull → r ≡ other → A
  no_other other differs is = absurd (differs (sym is ∙ full))

  -- the message of the ask that comes next
  abbrev IsNext : Message → Type 0
  IsNext message = IsMessageAt volume (W.events ++ event.Ask by to ∷ []) (length W.events) 0 message

  ask_full : (left : Effect ModelWorld) → Asks volume by to W (Err r) left → LacksRoom volume by to W left.after
  ask_full left (Ends (Says (inl not_so))) = no_other refusal.Member (λ e. cc) not_so.1
  ask_full left (Ends (Says (inr none))) = absurd none.1
  ask_full left (Goes (Says may) (Ends (Says (inl down)))) = no_other refusal.Down (λ e. cc) down.1
  ask_full left (Goes (Says may) (Ends (Says (inr none)))) = absurd none.1
  ask_full left (Goes (Says may) (Goes (Says up) (Ends (Says none)))) = absurd none
  ask_full left (Goes (Says may) (Goes (Says up) (Goes {a = message} (Says is) (Ends (Says (inl not_so)))))) =
      ForAsk (subst IsNext (sym is.2) is.1) not_so.0
  ask_full left (Goes (Says may) (Goes (Says up) (Goes (Says is) (Ends (Says (inr none)))))) = absurd none.1
  ask_full left (Goes (Says may) (Goes (Says up) (Goes (Says is) (Goes (Says room) (saves))))) =
      absurd (asked_never refusal.LinkFull (λ e. cc) (λ e. cc) _ _ _ _ _ _ _ saves same_err)

  module _ (message : Message) (next : IsNext message) where
    abbrev asked : ModelWorld
    asked = one volume W by to (size_of message)

    serve_full : (left : Effect ModelWorld) → Serves volume to (length W.events) asked (Err r) left
        → LacksRoom volume by to W left.after
    serve_full left (Ends (Says none)) = absurd none
    serve_full left (Goes {a = served} (Says is) (Ends (Says (inl not_so)))) =
        ForPieces next (subst (IsServedNow volume asked.events to (length W.events)) (sym is.2) is.1) not_so.0
    serve_full left (Goes (Says is) (Ends (Says (inr none)))) = absurd none.1
    serve_full left (Goes (Says is) (Goes (Says room) (serves))) =
        absurd (served_never refusal.LinkFull (λ e. cc) _ _ _ _ _ _ serves same_err)

    mail_full : (left : Effect ModelWorld) → GivesMail volume (length W.posted + 1) asked (Err r) left
        → LacksRoom volume by to W left.after
    mail_full left (Ends (Says (inl none))) = no_other refusal.NoMail (λ e. cc) none.1
    mail_full left (Ends (Says (inr none))) = absurd none.1
    mail_full left (Goes (Says some) (Ends fetches)) =
        absurd (fetches_never refusal.LinkFull (λ e. cc) asked _ _ fetches same_err)
    mail_full left (Goes (Says some) (Goes Fetched (Ends (Says none)))) = absurd none
    mail_full left (Goes (Says some) (Goes Fetched (Goes (Says found) (Ends (Says (inl down)))))) =
        no_other refusal.Down (λ e. cc) down.1
    mail_full left (Goes (Says some) (Goes Fetched (Goes (Says found) (Ends (Says (inr none)))))) = absurd none.1
    mail_full left
        (Goes (Says some) (Goes Fetched (Goes {a = it} (Says found) (Goes {left = l} (Says up) handles)))) =
        serve_full l
        (subst (λ b. Handles volume b asked (Err r) l)
        (the_ask volume W by to (size_of message) it
        (subst (LiesBehind asked (length W.posted + 1)) (sym found.2) found.1)) handles)

    posted_full : (number : ℕ) (middle : Effect ModelWorld)
        → Posts (behind (length W.events) 0) (size_of message) (with_event W (event.Ask by to)) (Ok number) middle
        → (left : Effect ModelWorld) → BothGive volume W by to number middle.after (Err r) left
        → LacksRoom volume by to W left.after
    posted_full number middle IsPosted left (Ends gives) = mail_full _ gives
    posted_full number middle IsPosted left (Goes {a = given} {middle = m} {left = l} gives rest) =
        let serving = ask_serves volume W by to (size_of message) given m gives in
        let of = gives_end volume (length (W.events ++ event.Ask by to ∷ [])) by (mails_of given) 0 m.after
        serving.taking r l rest in
        let not_so = sym of ∙ ap of_taking full in
        absurd (cc)

  asked_full : (number : ℕ) (middle : Effect ModelWorld) → Asks volume by to W (Ok number) middle
      → (left : Effect ModelWorld) → BothGive volume W by to number middle.after (Err r) left
      → LacksRoom volume by to W left.after
  asked_full number middle
      (Goes (Says may) (Goes (Says up) (Goes {a = message} (Says is) (Goes (Says room) (Goes {left = l} Saved posts))))) left
      gives = posted_full message (subst IsNext (sym is.2) is.1) number l posts left gives

  -- a full link stops a pull only where it has no room for what the pull posts next
  pub pull_full : (left : Effect ModelWorld) → PullsFrom volume by to W (Err r) left
      → LacksRoom volume by to W left.after
  pull_full left (Ends peers) =
      absurd (peers_never refusal.LinkFull (λ e. cc) (λ e. cc) volume by to W _ _ peers same_err)
  pull_full left (Goes (Goes (Says peers) (Says up)) (Ends asks)) = ask_full _ asks
  pull_full left (Goes (Goes (Says peers) (Says up)) (Goes {a = number} {middle = m} {left = l} asks gives)) =
      asked_full number m asks l gives
