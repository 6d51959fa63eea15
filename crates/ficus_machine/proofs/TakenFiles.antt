-- What a take comes to, by the file that is found under its name.
use Rattle.std.proofs.Common.{◌≡◌, ◌≢◌, ℕ, List, [], ◌∷◌, ◌++◌, length, Result, Ok, Err, refl, sym, subst, ◌∙◌}
use Rattle.std.specs.Prelude.{Contains}
use Rattle.std.proofs.lemmas.List.{append-nil}
use Rattle.std.proofs.lemmas.List.Elements.{Contains-push}
use Rattle.ficus_disk.specs.declared.disk.Disk.{Ghosts as Disk}
use Rattle.ficus_disk.specs.declared.pair.Pair.{Pair}
use Rattle.ficus_ids.specs.declared.refusal.Refusal.TheVariants as refusal
use Rattle.ficus_keeper.specs.declared.keep.Keep.{Ghosts as Keep}
use Rattle.ficus_mailbox.specs.Calls.{Finds, given_as}
use Rattle.ficus_mailbox.specs.declared.found.FindFault.{FindFault}
use Rattle.ficus_mailbox.specs.declared.found.FindFault.TheVariants as find
use Rattle.ficus_mailbox.specs.declared.found.Found.{Found}
use Rattle.ficus_mailbox.specs.declared.found.Found.TheVariants.{Nothing}
use Rattle.ficus_mailbox.specs.declared.found.Given.{Given}
use Rattle.ficus_mailbox.specs.declared.mailbox.Mailbox.{Ghosts as Mailbox}
use Rattle.ficus_member_script.specs.declared.member_answer.MemberAnswer.{MemberAnswer}
use Rattle.ficus_wire.specs.Message.{ask_of, message_bytes, piece_of}
use Rattle.ficus_wire.specs.declared.message.Message.{Message}
use Rattle.ficus_wire.specs.declared.message.PieceHead.{PieceHead}
use Rattle.ficus_wire.specs.declared.message.Route.{Route}
use Rattle.ficus_machine.specs.Answers.{AskAnswers, PieceAnswers, TakeAnswers, refused}
use Rattle.ficus_machine.specs.Answers.TakeAnswers.{IsAsk, IsNoMessage, IsNotRead, IsNotThere, IsPiece}
use Rattle.ficus_machine.specs.Came.{CameIn, IsComing, IsSealedFor}
use Rattle.ficus_machine.specs.Line.{Goes, Grows}
use Rattle.ficus_machine.specs.Machine.{IsAtRest, MachineState}
use Rattle.ficus_machine.specs.declared.coming.Coming.{Coming}
use Rattle.ficus_machine.specs.declared.fault.LineFault.{LineFault}
use Rattle.ficus_machine.specs.declared.fault.LineFault.TheVariants.{Memory}
use Rattle.ficus_machine.proofs.Taken.{goes_answered, goes_found, goes_memory}

-- the same of a result that is another one
pub finds_at : {M : Type 0} {mailbox : Mailbox M} {filed : List ℕ} {was now : M} {result again : Result Found FindFault}
    → result ≡ again → Finds mailbox.tells mailbox.given mailbox.posted mailbox.faults filed was now result
    → Finds mailbox.tells mailbox.given mailbox.posted mailbox.faults filed was now again
finds_at {mailbox = mailbox} {filed} {was} {now} same finds =
    subst (λ (r : Result Found FindFault). Finds mailbox.tells mailbox.given mailbox.posted mailbox.faults filed was now r)
    same finds

-- what came for a machine that is another one's
pub coming_here : {K : Type 0} (machine inside : MachineState K) (members : ℕ) (found : Found) (came what : Coming)
    → inside ≡ machine → members ≡ length machine.world.whole.members → came ≡ what
    → IsComing inside.tag members inside.me found came
    → IsComing machine.tag (length machine.world.whole.members) machine.me found what
coming_here {K} machine inside members found came what same counted is coming =
    subst (λ (c : Coming). IsComing machine.tag (length machine.world.whole.members) machine.me found c) is
    (subst (λ n. IsComing machine.tag n machine.me found came) counted
    (subst (λ (m : MachineState K). IsComing m.tag members m.me found came) same coming))

grows_same : {A : Type 0} {old new : List A} → new ≡ old → Grows old new
grows_same {A} {old} same = record { more = []; is = same ∙ sym (append-nil old) }

module _ {K D N M : Type 0} (keep : Keep K) (disk : Disk D) (slot : Disk N) (mailbox : Mailbox M) (filed : List ℕ)
    (machine : MachineState K) (disks : List (Pair D)) (slots : Pair N) (was now : M) where
  -- the mailbox fails
  pub take_unread : IsAtRest keep disk slot machine disks slots
      → Finds mailbox.tells mailbox.given mailbox.posted mailbox.faults filed was now (Err find.Failed)
      → (answer : MemberAnswer) → answer ≡ refused refusal.Link
      → Goes keep disk slot mailbox (TakeAnswers mailbox disk.tells machine.me machine.tag filed machine.world.whole
      machine.world.whole was now) (Ok answer) machine machine disks disks slots slots was now
  take_unread rest finds answer is =
      goes_answered rest (λ tells. grows_same (finds.untold tells)) (λ tells. finds.kept) answer
      (subst (TakeAnswers mailbox disk.tells machine.me machine.tag filed machine.world.whole machine.world.whole was now
      []) (sym is) (IsNotRead (finds.failed refl) refl))

  -- memory is refused
  pub take_unfound : IsAtRest keep disk slot machine disks slots
      → Finds mailbox.tells mailbox.given mailbox.posted mailbox.faults filed was now (Err find.Memory)
      → Goes keep disk slot mailbox (TakeAnswers mailbox disk.tells machine.me machine.tag filed machine.world.whole
      machine.world.whole was now) (Err Memory) machine machine disks disks slots slots was now
  take_unfound rest finds = goes_memory rest (λ tells. grows_same (finds.untold tells)) (λ tells. finds.kept)

  -- something is found, or nothing
  module _ (found : Found) (finds : Finds mailbox.tells mailbox.given mailbox.posted mailbox.faults filed was now (Ok found))
    where
      found_grows : mailbox.tells → Grows (mailbox.given was) (mailbox.given now)
      found_grows tells = record { more = given_as filed found ∷ []; is = finds.told tells }

      pub take_unknown : IsAtRest keep disk slot machine disks slots
          → Goes keep disk slot mailbox (TakeAnswers mailbox disk.tells machine.me machine.tag filed machine.world.whole
          machine.world.whole was now) (Err Memory) machine machine disks disks slots slots was now
      take_unknown rest = goes_memory rest found_grows (λ tells. finds.kept)

      pub take_nothing : IsAtRest keep disk slot machine disks slots → found ≡ Nothing → (answer : MemberAnswer)
          → answer ≡ refused refusal.NoMail
          → Goes keep disk slot mailbox (TakeAnswers mailbox disk.tells machine.me machine.tag filed machine.world.whole
          machine.world.whole was now) (Ok answer) machine machine disks disks slots slots was now
      take_nothing rest none answer is =
          goes_answered rest found_grows (λ tells. finds.kept) answer
          (subst (TakeAnswers mailbox disk.tells machine.me machine.tag filed machine.world.whole machine.world.whole was
          now []) (sym is)
          (IsNotThere
          (λ tells.
          subst (λ (f : Found). mailbox.given now ≡ mailbox.given was ++ given_as filed f ∷ []) none (finds.told tells))
          refl))

      pub take_no_message : IsAtRest keep disk slot machine disks slots → (members : ℕ)
          → members ≡ length machine.world.whole.members → (found ≢ Nothing)
          × ((m : Message) → IsSealedFor machine.tag members machine.me found m → ⊥) → (answer : MemberAnswer)
          → answer ≡ refused refusal.BadMessage
          → Goes keep disk slot mailbox (TakeAnswers mailbox disk.tells machine.me machine.tag filed machine.world.whole
          machine.world.whole was now) (Ok answer) machine machine disks disks slots slots was now
      take_no_message rest members counted none answer is =
          goes_answered rest found_grows (λ tells. finds.kept) answer
          (subst (TakeAnswers mailbox disk.tells machine.me machine.tag filed machine.world.whole machine.world.whole was
          now []) (sym is)
          (IsNoMessage finds.told none.0
          (subst (λ n. (m : Message) → IsSealedFor machine.tag n machine.me found m → ⊥) counted none.1) refl))

      module _ (members : ℕ) (counted : members ≡ length machine.world.whole.members) where
        -- what is found came for the member
        pub sealed_here : (m : Message) → IsSealedFor machine.tag members machine.me found m
            → IsSealedFor machine.tag (length machine.world.whole.members) machine.me found m
        sealed_here m sealed = subst (λ n. IsSealedFor machine.tag n machine.me found m) counted sealed

        pub came_here : (m : Message) → IsSealedFor machine.tag members machine.me found m → (bytes : List ℕ)
            → bytes ≡ message_bytes m → mailbox.tells
            → CameIn machine.tag (length machine.world.whole.members) machine.me (mailbox.given now) bytes
        came_here m sealed bytes is tells = record {
          message = m;
          spelled = record { fits = (sealed_here m sealed).fits; is = is };
          file = given_as filed found;
          is =
              subst (λ (list : List Given). Contains list (given_as filed found)) (sym (finds.told tells))
              (Contains-push (mailbox.given was) (given_as filed found));
          sealed = sealed_here m sealed;
        }

        module _ (new : MachineState K) (new_disks : List (Pair D)) (new_slots : Pair N) (later : M)
            (result : Result MemberAnswer LineFault) where
          pub take_ask : (way : Route) → IsSealedFor machine.tag members machine.me found (ask_of way)
              → Goes keep disk slot mailbox (AskAnswers mailbox machine.me machine.tag way machine.world.whole now later)
              result machine new disks new_disks slots new_slots now later
              → Goes keep disk slot mailbox (TakeAnswers mailbox disk.tells machine.me machine.tag filed machine.world.whole
              new.world.whole was later) result machine new disks new_disks slots new_slots was later
          take_ask way sealed goes =
              goes_found found_grows (λ tells. finds.kept)
              (λ told answer asked. IsAsk finds.told (sealed_here (ask_of way) sealed) asked) goes

          pub take_piece : (head : PieceHead) (bytes : List ℕ)
              → IsSealedFor machine.tag members machine.me found (piece_of head bytes)
              → Goes keep disk slot mailbox (PieceAnswers mailbox disk.tells machine.me machine.tag head
              machine.world.whole new.world.whole now later) result machine new disks new_disks slots new_slots now later
              → Goes keep disk slot mailbox (TakeAnswers mailbox disk.tells machine.me machine.tag filed machine.world.whole
              new.world.whole was later) result machine new disks new_disks slots new_slots was later
          take_piece head bytes sealed goes =
              goes_found found_grows (λ tells. finds.kept)
              (λ told answer piece. IsPiece finds.told (sealed_here (piece_of head bytes) sealed) piece) goes
