-- A lawful history in which an answer is taken.
use Rattle.std.proofs.Common.{◌≡◌, ℕ, List, [], ◌∷◌, refl, subst, inl, inr, arith}
use Rattle.std.specs.Prelude.{codes}
use Rattle.ficus_ids.specs.Members.{IsMember}
use Rattle.ficus_ids.specs.declared.id.TheConstants.{ROOT}
use Rattle.ficus_ids.specs.declared.kind.Kind.TheVariants.{Plain}
use Rattle.ficus_model.specs.declared.event.Event.{Event}
use Rattle.ficus_model.specs.declared.event.Event.TheVariants.{Update}
use Rattle.ficus_model.specs.declared.event.Op.{Op}
use Rattle.ficus_model.specs.declared.event.Op.TheVariants.{Make}
use Rattle.ficus_model.specs.Known.{Knows}
use Rattle.ficus_model.specs.Live.{IsLive}
use Rattle.ficus_model.specs.Lawful.{FitsBytes, IsLawful, HasPlace}
use Rattle.ficus_model.specs.Reached.IsReached.{Base}
use Rattle.ficus_laws.specs.Accepts.{pulled}
use Rattle.ficus_laws.specs.Laws.{small_volume, small_history, small_entry}
use Rattle.ficus_laws.proofs.Updates.{update_within}
use Rattle.ficus_laws.proofs.Knowledge.{knows_none, knows_of_other}
use Rattle.ficus_laws.proofs.Lawful.{lawful_none, lawful_more}
use Rattle.ficus_laws.proofs.AfterUpdate.{make_new}
use Rattle.ficus_laws.proofs.Issued.{next_not_removed}
use Rattle.ficus_laws.proofs.Pull.{lawful_pulled, live_pulled}

made : Op
made = Make ROOT (codes "a") Plain []

start : List Event
start = Update 2 made ∷ []

small_is : pulled start 1 2 0 ≡ small_history
unfolding start made
small_is = refl

place : HasPlace [] (Knows [] 2) ROOT (codes "a")
place =
    record { parent = record { directory = inl refl; reached = Base (inl refl) }; free = λ t. absurd (omega (arith, update_within t.1.live.entered.update)) }

first : IsMember 2 1
first = record { at_least = omega arith; at_most = omega arith }

second : IsMember 2 2
second = record { at_least = omega arith; at_most = omega arith }

within : FitsBytes small_volume [] 2 []
within = record { one_file = omega arith; left = omega arith }

start_lawful : IsLawful small_volume start
unfolding start made
start_lawful =
    lawful_more small_volume [] (Update 2 made) (lawful_none small_volume)
    (record { member = second; left = omega arith; bytes = within; allowed = record { place = place; fits = refl } })

entry_lives : IsLive start (Knows start 2) small_entry
unfolding start made
entry_lives = make_new [] 2 ROOT (codes "a") Plain [] (next_not_removed small_volume [] 2 (lawful_none small_volume))

knows_nothing : {position : ℕ} → Knows start 1 position → ⊥
unfolding start
knows_nothing k = knows_none (knows_of_other {H = []} (Update 2 made) (omega arith) k)

pub small_lawful : IsLawful small_volume small_history
small_lawful =
    subst (IsLawful small_volume) small_is (lawful_pulled start 1 2 0 small_volume first second (omega arith) start_lawful)

pub small_brought : IsLive small_history (Knows small_history 1) small_entry
small_brought =
    subst (λ H. IsLive H (Knows H 1) small_entry) small_is (live_pulled start 1 2 0 (record {
      entered = inr entry_lives.entered;
      kept = λ r. knows_nothing r.known;
      kept_there = entry_lives.not_removed;
    }))
