-- What an ask that came comes to.
use Rattle.std.proofs.Common.{◌≡◌, ◌≢◌, ℕ, List, [], ◌∷◌, length, map, Bool, true, false, Result, Ok, Err, refl, sym, ap, subst, ◌∙◌}
use Rattle.std.specs.Prelude.{IfOk, IsErrOf, MatchResult}
use Rattle.ficus_disk.specs.declared.disk.Disk.{Ghosts as Disk}
use Rattle.ficus_disk.specs.declared.pair.Pair.{Pair}
use Rattle.ficus_ids.specs.declared.refusal.Refusal.{Refusal}
use Rattle.ficus_ids.specs.declared.refusal.Refusal.TheVariants as refusal
use Rattle.ficus_keeper.specs.declared.keep.Keep.{Ghosts as Keep}
use Rattle.ficus_mailbox.specs.declared.mailbox.Mailbox.{Ghosts as Mailbox}
use Rattle.ficus_member_script.specs.declared.member_answer.MemberAnswer.{MemberAnswer}
use Rattle.ficus_member_script.specs.declared.member_answer.MemberAnswer.TheVariants.{Served as ServedAs}
use Rattle.ficus_script.specs.declared.answer.Answer.{Answer}
use Rattle.ficus_script.specs.declared.answer.Answer.TheVariants.{Refused}
use Rattle.ficus_script.specs.declared.command.Command.TheVariants as command
use Rattle.ficus_wire.specs.Message.{FitsMessage, ask_of, message_bytes}
use Rattle.ficus_wire.specs.declared.message.Route.{Route}
use Rattle.ficus_world.specs.Disks.{IsBacked}
use Rattle.ficus_world.specs.Hearing.{HearsNot}
use Rattle.ficus_world.specs.Moves.{with_post}
use Rattle.ficus_world.specs.Post.{IsSent, lies_behind}
use Rattle.ficus_world.specs.World.{Whole}
use Rattle.ficus_world.specs.Machines.Part.{Gives}
use Rattle.ficus_machine.specs.Acting.{Acts}
use Rattle.ficus_machine.specs.Answers.{AskAnswers, pieces_of, refused}
use Rattle.ficus_machine.specs.Answers.AskAnswers.{Answers, AnswersInVain, Declines, Unheard}
use Rattle.ficus_machine.specs.Came.{CameIn, letter_of}
use Rattle.ficus_machine.specs.Line.{GoesInWorld, told_of}
use Rattle.ficus_machine.specs.Machine.{KeepsRest, MachineState}
use Rattle.ficus_machine.specs.Posting.{OnlyFetches, Puts}
use Rattle.ficus_machine.specs.declared.fault.LineFault.{LineFault}
use Rattle.ficus_machine.specs.declared.fault.LineFault.TheVariants.{Memory, Note}
use Rattle.ficus_machine.proofs.Going.{goes_idle, grows_none}
use Rattle.ficus_machine.proofs.HeardAsks.{GoesServed, goes_heard, goes_letters, goes_refused}
use Rattle.ficus_machine.proofs.Held.{backed_same}

keeps_then : {K : Type 0} {one two three : MachineState K} → KeepsRest one two → KeepsRest two three
    → KeepsRest one three
keeps_then first then =
    record { me = then.me ∙ first.me; tag = then.tag ∙ first.tag; note = then.note ∙ first.note }

-- a world that is another one's is that with its post
same_post : (old new : Whole) → new ≡ old → new ≡ with_post old new.post
same_post old new same = same ∙ turned
  where
    turned : old ≡ with_post old new.post
    turned i = with_post old (sym same i).post

module _ {K D M : Type 0} (keep : Keep K) (disk : Disk D) (mailbox : Mailbox M) (way : Route) (machine : MachineState K)
    (disks : List (Pair D)) (was : M) where
  -- it isn't heard
  pub unheard : (heard : MachineState K) (r : Refusal) (result : Result MemberAnswer LineFault)
      → IsBacked keep disk machine.world disks
      → HearsNot (message_bytes (ask_of way)) machine.world.whole.post heard.world.whole.post r
      → heard.world.whole ≡ with_post machine.world.whole heard.world.whole.post
      → heard.world.stables ≡ machine.world.stables → KeepsRest machine heard
      → MatchResult result (λ answer. (answer ≡ refused r) × (r ≢ refusal.Memory)) (λ fault. fault ≡ Memory)
      → GoesInWorld keep disk mailbox (AskAnswers mailbox machine.me machine.tag way machine.world.whole was was) result
      machine heard disks disks was was
  unheard heard r (Ok answer) backed none rest stables keeps so = record {
    told = [];
    middle = machine.world.whole;
    goes = goes_idle refl (λ tells. grows_none (mailbox.given was)) (λ tells. refl);
    is = rest;
    answers =
        subst (AskAnswers mailbox machine.me machine.tag way machine.world.whole was was []) (sym so.0)
        (Unheard none so.1);
    backed = backed_same (ap (λ (w : Whole). w.members) rest) stables backed;
    no_note = λ never. cc;
    rest = keeps;
  }
  unheard heard r (Err fault) backed none rest stables keeps so = record {
    told = [];
    middle = machine.world.whole;
    goes = goes_idle refl (λ tells. grows_none (mailbox.given was)) (λ tells. refl);
    is = rest;
    answers = tt;
    backed = backed_same (ap (λ (w : Whole). w.members) rest) stables backed;
    no_note = λ never. cc;
    rest = keeps;
  }

  module _ (heard : MachineState K) (number : ℕ) (own : way.to ≡ machine.me)
      (fits : FitsMessage (length machine.world.whole.members) (ask_of way))
      (sent : IsSent (Unit {0}) machine.world.whole.post (lies_behind 0 0) (message_bytes (ask_of way)) number
      heard.world.whole.post)
      (rest : heard.world.whole ≡ with_post machine.world.whole heard.world.whole.post) (keeps : KeepsRest machine heard)
      (came : mailbox.tells → CameIn machine.tag (length machine.world.whole.members) machine.me (mailbox.given was)
      (message_bytes (ask_of way))) where
    -- memory is refused behind that
    pub heard_only : (new : MachineState K) (new_disks : List (Pair D)) (fault : LineFault)
        → Acts keep disk (command.Give number) (Err fault) heard new disks new_disks
        → GoesInWorld keep disk mailbox (AskAnswers mailbox machine.me machine.tag way machine.world.whole was was)
        (Err fault) machine new disks new_disks was was
    heard_only new new_disks fault acts = record {
      told = [];
      middle = heard.world.whole;
      goes =
          goes_heard disk.tells machine.me way machine.world.whole heard.world.whole number own fits sent rest mailbox
          machine.tag was came;
      is = same_post heard.world.whole new.world.whole acts.memory;
      answers = tt;
      backed = acts.backed;
      no_note = λ same. acts.no_note (ap (λ (f : LineFault). Err f) (fault_is same));
      rest = keeps_then keeps acts.rest;
    } where
      fault_is : IsErrOf {T = MemberAnswer} {E = LineFault} (Err fault) Note → fault ≡ Note
      fault_is same = cc

    -- the world refuses it
    pub refuses : (new : MachineState K) (new_disks : List (Pair D)) (r : Refusal)
        → Acts keep disk (command.Give number) (Ok (Refused r)) heard new disks new_disks
        → GoesInWorld keep disk mailbox (AskAnswers mailbox machine.me machine.tag way machine.world.whole was was)
        (Ok (refused r)) machine new disks new_disks was was
    refuses new new_disks r acts = record {
      told = told_of machine.me (Gives number (message_bytes (ask_of way))) (Err r) ∷ [];
      middle = new.world.whole;
      goes =
          goes_refused disk.tells machine.me way machine.world.whole heard.world.whole number own fits sent rest mailbox
          machine.tag was came acts.moves;
      is = refl;
      answers = Declines;
      backed = acts.backed;
      no_note = λ never. cc;
      rest = keeps_then keeps acts.rest;
    }

    -- it is answered
    module _ (given new : MachineState K) (new_disks : List (Pair D)) (answer : Answer) (now : M)
        (acts : Acts keep disk (command.Give number) (Ok answer) heard given disks new_disks)
        (on : GoesServed disk.tells machine.me way machine.world.whole heard.world.whole number own fits sent rest mailbox
        machine.tag was came given.world.whole)
        (fetches : OnlyFetches given new) where
      answers_all : (put : Result Bool LineFault) (result : Result MemberAnswer LineFault)
          → Puts mailbox (map (letter_of machine.tag) (pieces_of machine.world.whole machine.me way on.served.replica)) put
          was now
          → IfOk result (AskAnswers mailbox machine.me machine.tag way machine.world.whole was now
          (told_of machine.me (Gives number (message_bytes (ask_of way))) (Ok on.given) ∷ []))
          → (IsErrOf result Note → ⊥)
          → GoesInWorld keep disk mailbox (AskAnswers mailbox machine.me machine.tag way machine.world.whole was now)
          result machine new disks new_disks was now
      answers_all put result puts answers no_note = record {
        told = told_of machine.me (Gives number (message_bytes (ask_of way))) (Ok on.given) ∷ [];
        middle = given.world.whole;
        goes =
            goes_letters disk.tells machine.me way machine.world.whole heard.world.whole number own fits sent rest mailbox
            machine.tag was came on now puts.only puts.given;
        is = fetches.world;
        answers = answers;
        backed = backed_same (ap (λ (w : Whole). w.members) fetches.world) fetches.stables acts.backed;
        no_note = no_note;
        rest = keeps_then (keeps_then keeps acts.rest) fetches.rest;
      }

      pub all_put : (pieces state : ℕ)
          → length (pieces_of machine.world.whole machine.me way on.served.replica) ≡ pieces
          → state ≡ on.served.replica.saved.generation
          → Puts mailbox (map (letter_of machine.tag) (pieces_of machine.world.whole machine.me way on.served.replica))
          (Ok true) was now
          → GoesInWorld keep disk mailbox (AskAnswers mailbox machine.me machine.tag way machine.world.whole was now)
          (Ok (ServedAs pieces state)) machine new disks new_disks was now
      all_put pieces state counted stated puts =
          answers_all (Ok true) (Ok (ServedAs pieces state)) puts
          (subst (λ n. AskAnswers mailbox machine.me machine.tag way machine.world.whole was now
          (told_of machine.me (Gives number (message_bytes (ask_of way))) (Ok on.given) ∷ []) (ServedAs n state)) counted
          (subst (λ n. AskAnswers mailbox machine.me machine.tag way machine.world.whole was now
          (told_of machine.me (Gives number (message_bytes (ask_of way))) (Ok on.given) ∷ [])
          (ServedAs (length (pieces_of machine.world.whole machine.me way on.served.replica)) n)) (sym stated)
          (Answers on.served.is (puts.put refl))))
          (λ never. cc)

      pub not_all_put : Puts mailbox
          (map (letter_of machine.tag) (pieces_of machine.world.whole machine.me way on.served.replica)) (Ok false) was now
          → GoesInWorld keep disk mailbox (AskAnswers mailbox machine.me machine.tag way machine.world.whole was now)
          (Ok (refused refusal.Link)) machine new disks new_disks was now
      not_all_put puts =
          answers_all (Ok false) (Ok (refused refusal.Link)) puts (AnswersInVain (puts.hindered refl)) (λ never. cc)

      pub put_fault : (fault : LineFault) → Puts mailbox
          (map (letter_of machine.tag) (pieces_of machine.world.whole machine.me way on.served.replica)) (Err fault) was
          now
          → GoesInWorld keep disk mailbox (AskAnswers mailbox machine.me machine.tag way machine.world.whole was now)
          (Err fault) machine new disks new_disks was now
      put_fault fault puts =
          answers_all (Err fault) (Err fault) puts tt
          (λ same. puts.no_note (let is : fault ≡ Note = cc in ap (λ (f : LineFault). Err f) is))
