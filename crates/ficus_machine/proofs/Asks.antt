-- What a machine comes to by an ask that its world carries out.
use Rattle.std.proofs.Common.{◌≡◌, ℕ, List, [], ◌∷◌, ◌++◌, length, Bool, true, Option, Result, Ok, Err, Some, refl, sym, ap, subst, ◌∙◌}
use Rattle.std.specs.Prelude.{Contains, IfOk}
use Rattle.std.proofs.lemmas.List.Elements.{All-nil}
use Rattle.ficus_disk.specs.declared.disk.Disk.{Ghosts as Disk}
use Rattle.ficus_disk.specs.declared.pair.Pair.{Pair}
use Rattle.ficus_ids.specs.Members.{IsMember}
use Rattle.ficus_ids.specs.declared.refusal.Refusal.{Refusal}
use Rattle.ficus_ids.specs.declared.refusal.Refusal.TheVariants as refusal
use Rattle.ficus_keeper.specs.Pairs.{PairSame}
use Rattle.ficus_keeper.specs.declared.keep.Keep.{Ghosts as Keep}
use Rattle.ficus_mailbox.specs.Letter.{Letter}
use Rattle.ficus_mailbox.specs.declared.found.Given.{Given}
use Rattle.ficus_mailbox.specs.declared.mailbox.Mailbox.{Ghosts as Mailbox}
use Rattle.ficus_mailbox.specs.declared.message_name.MessageName.TheVariants as name
use Rattle.ficus_member_script.specs.declared.member_answer.MemberAnswer.{MemberAnswer}
use Rattle.ficus_member_script.specs.declared.member_answer.MemberAnswer.TheVariants.{Asked, Plain}
use Rattle.ficus_note.specs.Calls.{IsReady}
use Rattle.ficus_note.specs.declared.asked.Asked.{Asked as Noted}
use Rattle.ficus_note.specs.declared.note.Note.{Note}
use Rattle.ficus_replica.specs.declared.replica.Asked.{Asked as Ask}
use Rattle.ficus_script.specs.declared.answer.Answer.{Answer}
use Rattle.ficus_script.specs.declared.answer.Answer.TheVariants.{Refused}
use Rattle.ficus_script.specs.declared.command.Command.{Command}
use Rattle.ficus_script.specs.declared.command.Command.TheVariants as command
use Rattle.ficus_wire.specs.Message.{FitsMessage, message_bytes}
use Rattle.ficus_wire.specs.declared.message.Message.TheVariants as message
use Rattle.ficus_world.specs.Disks.{IsBacked}
use Rattle.ficus_world.specs.Hearing.{Awaits}
use Rattle.ficus_world.specs.Machines.Acting.{ActsAlone}
use Rattle.ficus_world.specs.Machines.Part.Deed.{Asks as AsksDeed}
use Rattle.ficus_world.specs.Machines.Together.{Told}
use Rattle.ficus_world.specs.Moves.{with_post}
use Rattle.ficus_world.specs.World.{Backed, Whole}
use Rattle.ficus_machine.specs.Acting.{Acts, MovesSomehow}
use Rattle.ficus_machine.specs.Answers.{CommandAnswers, HasFailed, refused}
use Rattle.ficus_machine.specs.Answers.CommandAnswers.{Asks, AsksInVain, Own}
use Rattle.ficus_machine.specs.Asking.{HasAsked, NotesAsk, PreparesAsk}
use Rattle.ficus_machine.specs.Came.{CameIn, IsLetterOfOne, letter_of}
use Rattle.ficus_machine.specs.Line.{Goes, GoesOn, Grows, told_of}
use Rattle.ficus_machine.specs.Machine.{IsAtRest, IsNoted, KeepsMachine, KeepsRest, MachineState, no_post}
use Rattle.ficus_machine.specs.Noting.{SettlesNote}
use Rattle.ficus_machine.specs.Posting.{Puts}
use Rattle.ficus_machine.specs.declared.fault.LineFault.{LineFault}
use Rattle.ficus_machine.specs.declared.fault.LineFault.TheVariants.{Note as NoteFault}
use Rattle.ficus_machine.proofs.Asked.{awaits_one, fine, has_from, its_letter, only_one, plainly_refused}
use Rattle.ficus_machine.proofs.Going.{by_weaker, goes_acts, goes_idle, goes_renews, goes_then, grows_none}
use Rattle.ficus_machine.proofs.Held.{backed_same}
use Rattle.ficus_machine.proofs.Slots.{asks_behind, asks_err, asks_spared, same_behind}
use Rattle.ficus_machine.proofs.Stopping.{goes_answered, goes_stopped, renews_bare, rests_bare}

-- the ask that is open is this one
module _ {me to : ℕ} {old mid : Whole} {asked : Ask} (has : HasAsked me to old mid) (awaits : Awaits mid me asked) where
  this_one : asked ≡ record { to = to; number = has.number }
  this_one = awaits_one awaits has.awaits

  pub to_is : asked.to ≡ to
  to_is = ap (λ (a : Ask). a.to) this_one

  pub has_this : HasAsked me to old mid
  has_this =
      let same : has.number ≡ asked.number = ap (λ (a : Ask). a.number) (sym this_one) in
      record {
        number = asked.number;
        fits = subst (λ n. FitsMessage (length old.members) (message.Ask me to n)) same has.fits;
        awaits = subst (λ n. Awaits mid me (record { to = to; number = n })) same has.awaits;
        posts =
            subst (λ n. mid.post.posts ≡ old.post.posts ++ message_bytes (message.Ask me to n) ∷ []) same has.posts;
      }

  pub fits_this : length mid.members ≡ length old.members
      → FitsMessage (length mid.members) (message.Ask me asked.to asked.number)
  fits_this count =
      subst (λ n. FitsMessage n (message.Ask me asked.to asked.number)) (sym count)
      (subst (λ (a : Ask). FitsMessage (length old.members) (message.Ask me a.to a.number)) (sym this_one) has.fits)

-- its letter is of what was posted
pub letter_posted : {disks_tell : Type 0} {me to : ℕ} {given : Answer} {old mid : Whole} {asked : Ask}
    (acts : ActsAlone (Unit {0}) disks_tell me [] (AsksDeed to) given old mid) (tag : List ℕ)
    → HasAsked me to old mid → Awaits mid me asked → (letter : Letter)
    → Contains (letter_of tag (message.Ask me asked.to asked.number) ∷ []) letter
    → IsLetterOfOne tag (length old.members) acts.posted letter
unfolding has_this
letter_posted {me = me} {old = old} {asked = asked} acts tag has awaits letter one =
    subst (λ (l : Letter). IsLetterOfOne tag (length old.members) acts.posted l)
    (sym (only_one (letter_of tag (message.Ask me asked.to asked.number)) letter one))
    (subst (λ t. IsLetterOfOne tag (length old.members) acts.posted
    (letter_of tag (message.Ask me t asked.number))) (sym (to_is has awaits))
    (its_letter acts (has_this has awaits) tag))

module _ {M : Type 0} {mailbox : Mailbox M} {disks_tell : Type 0} {me to : ℕ} {tag : List ℕ} {given : Answer}
    {old mid : Whole} (acts : ActsAlone (Unit {0}) disks_tell me [] (AsksDeed to) given old mid)
    (count : length mid.members ≡ length old.members) where
  -- the world carries it out, or refuses it
  pub goes_asked : (now : M)
      → GoesOn mailbox disks_tell me tag (told_of me (AsksDeed to) acts.result ∷ []) old mid now now
  goes_asked now = goes_acts acts count (λ tells. All-nil (CameIn tag (length old.members) me (mailbox.given now)))

  -- its message is put, or it isn't
  pub goes_put : {asked : Ask} {result : Result Bool LineFault} {was now : M} → HasAsked me to old mid
      → Awaits mid me asked
      → Puts mailbox (letter_of tag (message.Ask me asked.to asked.number) ∷ []) result was now
      → GoesOn mailbox disks_tell me tag (told_of me (AsksDeed to) acts.result ∷ []) old mid was now
  goes_put {asked} {was = was} {now = now} has awaits puts = record {
    came = [];
    posted = acts.posted;
    alone = acts.alone;
    count = count;
    given = λ tells.
        subst (λ (list : List Given). Grows (mailbox.given was) list) (sym puts.given) (grows_none (mailbox.given was));
    each_came = λ tells. All-nil (CameIn tag (length old.members) me (mailbox.given now));
    put = λ tells. by_weaker (letter_posted acts tag has awaits) (puts.only tells);
  }

-- how it is answered
module _ {M : Type 0} (mailbox : Mailbox M) {disks_tell : Type 0} {me to : ℕ} {given : Answer} {old mid : Whole}
    (acts : ActsAlone (Unit {0}) disks_tell me [] (AsksDeed to) given old mid) (noted : Option Noted) (new : Whole)
    (was now : M) where
  abbrev Answered : MemberAnswer → Type 0
  Answered answer =
      CommandAnswers mailbox me noted old new was now (command.Ask me to)
      (told_of me (AsksDeed to) acts.result ∷ []) answer

  pub answers_refused : (r : Refusal) → given ≡ Refused r → Answered (refused r)
  answers_refused r refuses =
      subst (λ (answer : Answer). Answered (Plain answer)) (sym acts.answer_is ∙ refuses)
      (Own {deed = AsksDeed to} (plainly_refused acts me r refuses))

  module _ (unrefused : (r : Refusal) → given ≡ Refused r → ⊥) {asked : Ask} (same : asked.to ≡ to)
      (awaits : Awaits new me asked) (is_noted : noted ≡ Some (record { to = asked.to; number = asked.number })) where
    -- a world that isn't refused answers with what was given
    as_fine : (answer : MemberAnswer)
        → CommandAnswers mailbox me noted old new was now (command.Ask me to) (told_of me (AsksDeed to) (Ok given) ∷ [])
        answer → Answered answer
    as_fine answer answers =
        subst (λ (result : Result Answer Refusal). CommandAnswers mailbox me noted old new was now (command.Ask me to)
        (told_of me (AsksDeed to) result ∷ []) answer) (sym (fine acts unrefused)) answers

    awaits_this : Awaits new me (record { to = to; number = asked.number })
    awaits_this = subst (λ t. Awaits new me (record { to = t; number = asked.number })) same awaits

    noted_this : noted ≡ Some (record { to = to; number = asked.number })
    noted_this = subst (λ t. noted ≡ Some (record { to = t; number = asked.number })) same is_noted

    pub answers_asked : (tag : List ℕ) → (mailbox.tells → mailbox.posted now
        ≡ mailbox.posted was ++ letter_of tag (message.Ask me asked.to asked.number) ∷ [])
        → Answered (Asked asked.number)
    answers_asked tag posted =
        as_fine (Asked asked.number)
        (Asks given (letter_of tag (message.Ask me asked.to asked.number))
        (ap (λ t. name.Ask me t asked.number) same) awaits_this noted_this posted)

    pub answers_in_vain : HasFailed mailbox was now → Answered (refused refusal.Link)
    answers_in_vain failed =
        as_fine (refused refusal.Link) (AsksInVain {number = asked.number} {answer = given} awaits_this noted_this failed)

-- the machine but without the messages of its world
pub record IsBare {K : Type 0} (mid new : MachineState K) : Type 0 where
  pub bare : new.world.whole ≡ with_post mid.world.whole no_post
  pub stables : new.world.stables ≡ mid.world.stables
  pub rest : KeepsRest mid new

-- how the call ends
module _ {K D N : Type 0} {keep : Keep K} {disk : Disk D} {slot : Disk N} {old ready : MachineState K}
    {disks : List (Pair D)} {slots ready_slots : Pair N} (rest : IsAtRest keep disk slot old disks slots) where
  -- the note isn't saved
  pub ask_unprepared : {M : Type 0} {mailbox : Mailbox M} {Answers : List Told → MemberAnswer → Type 0}
      {result : Result MemberAnswer LineFault} {fault : LineFault} {now : M} → result ≡ Err fault
      → PreparesAsk {A = Unit {0}} slot (Err fault) old ready slots ready_slots
      → Goes keep disk slot mailbox Answers result old ready disks disks slots ready_slots now now
  ask_unprepared {mailbox = mailbox} {fault = fault} {now = now} ends prepares =
      goes_stopped fault ends
      (goes_idle (ap (λ (w : Backed K). w.whole) prepares.world) (λ tells. grows_none (mailbox.given now)) (λ tells. refl))
      (subst (λ (w : Backed K). IsBacked keep disk w disks) (sym prepares.world) rest.held.backed) prepares.same
      (asks_err fault refl ends prepares.slots)

  module _ {mid : MachineState K} {mid_disks : List (Pair D)}
      (prepares : PreparesAsk {A = Unit {0}} slot (Ok tt) old ready slots ready_slots) where
    -- the world doesn't come to it
    pub ask_unacted : {M : Type 0} {mailbox : Mailbox M} {Answers : List Told → MemberAnswer → Type 0} {asked : Command}
        {result : Result MemberAnswer LineFault} {fault : LineFault} {now : M} → result ≡ Err fault
        → Acts keep disk asked (Err fault) ready mid disks mid_disks
        → Goes keep disk slot mailbox Answers result old mid disks mid_disks slots ready_slots now now
    ask_unacted {mailbox = mailbox} {result = result} {fault = fault} {now = now} ends acts =
        goes_stopped fault ends
        (goes_idle (acts.memory ∙ ap (λ (w : Backed K). w.whole) prepares.world)
        (λ tells. grows_none (mailbox.given now)) (λ tells. refl))
        acts.backed
        (record { me = acts.rest.me ∙ prepares.same.me; tag = acts.rest.tag ∙ prepares.same.tag })
        (asks_spared result (λ is. let same : fault ≡ NoteFault = (cc) in acts.no_note (ap Err same))
        prepares.slots.steady)

    module _ {to : ℕ} {given : Answer} (acts : Acts keep disk (command.Ask ready.me to) (Ok given) ready mid disks
        mid_disks) where
      alone : ActsAlone (Unit {0}) disk.tells old.me [] (AsksDeed to) given old.world.whole mid.world.whole
      alone =
          subst (λ (w : Backed K). ActsAlone (Unit {0}) disk.tells old.me [] (AsksDeed to) given w.whole mid.world.whole)
          prepares.world (acts.acts old.me (AsksDeed to) (ap (λ b. command.Ask b to) prepares.same.me) tt)

      counted : length mid.world.whole.members ≡ length old.world.whole.members
      counted = acts.count ∙ ap (λ (w : Backed K). length w.whole.members) prepares.world

      its_member : IsMember (length mid.world.whole.members) old.me
      its_member = subst (λ n. IsMember n old.me) (sym counted) rest.held.member

      mid_same : KeepsMachine old mid
      mid_same = record { me = acts.rest.me ∙ prepares.same.me; tag = acts.rest.tag ∙ prepares.same.tag }

      -- the world refuses it, and the note is settled
      module _ {bare : MachineState K} (is : IsBare mid bare) where
        refused_me : bare.me ≡ old.me
        refused_me = is.rest.me ∙ mid_same.me

        module _ {A : Type 0} {settled : Result A LineFault} {new : MachineState K} {new_slots : Pair N}
            (settles : SettlesNote slot settled bare new ready_slots new_slots) where
          settled_mid : new.world.whole ≡ with_post mid.world.whole no_post
          settled_mid = ap (λ (w : Backed K). w.whole) settles.world ∙ is.bare

          settled_me : new.me ≡ old.me
          settled_me = settles.me ∙ refused_me

          settled_stables : new.world.stables ≡ mid.world.stables
          settled_stables = ap (λ (w : Backed K). w.stables) settles.world ∙ is.stables

          settled_same : KeepsMachine old new
          settled_same = record { me = settled_me; tag = settles.tag ∙ is.rest.tag ∙ mid_same.tag }

          goes_refused : {M : Type 0} {mailbox : Mailbox M} (now : M) → GoesOn mailbox disk.tells old.me old.tag
              (told_of old.me (AsksDeed to) alone.result ∷ []) old.world.whole new.world.whole now now
          goes_refused now =
              goes_then (goes_asked alone counted now) (goes_renews (renews_bare settled_mid its_member))

        pub ask_refused : {M : Type 0} {mailbox : Mailbox M} {r : Refusal} {new : MachineState K} {new_slots : Pair N}
            {now : M} → given ≡ Refused r
            → SettlesNote {A = Unit {0}} slot (Ok tt) bare new ready_slots new_slots
            → Goes keep disk slot mailbox
            (CommandAnswers mailbox old.me new.note.asked old.world.whole new.world.whole now now
            (command.Ask old.me to)) (Ok (refused r)) old new disks mid_disks slots new_slots now now
        ask_refused {mailbox = mailbox} {r = r} {new = new} {now = now} refuses settles =
            goes_answered (refused r) refl (goes_refused settles now)
            (answers_refused mailbox alone new.note.asked new.world.whole now now r refuses)
            (rests_bare (settled_mid settles) (settled_stables settles)
            (subst (λ n. IsMember (length mid.world.whole.members) n) (sym (settled_me settles)) its_member)
            acts.backed settles.ready settles.noted)
            (settled_same settles) (same_behind prepares.slots.steady settles.asks.steady)

        -- the note isn't settled
        pub ask_unsettled : {M A : Type 0} {mailbox : Mailbox M} {Answers : List Told → MemberAnswer → Type 0}
            {result : Result MemberAnswer LineFault} {settled : Result A LineFault} {fault : LineFault}
            {new : MachineState K} {new_slots : Pair N} {now : M} → result ≡ Err fault → settled ≡ Err fault
            → SettlesNote slot settled bare new ready_slots new_slots
            → Goes keep disk slot mailbox Answers result old new disks mid_disks slots new_slots now now
        ask_unsettled {fault = fault} {new = new} {now = now} ends failed settles =
            goes_stopped fault ends (goes_refused settles now)
            (backed_same {old = mid.world} {new = new.world} (ap (λ (w : Whole). w.members) (settled_mid settles))
            (settled_stables settles) acts.backed)
            (settled_same settles) (asks_behind prepares.slots.steady (asks_err fault failed ends settles.asks))

      -- it is carried out
      module _ (unrefused : (r : Refusal) → given ≡ Refused r → ⊥) where
        has : HasAsked old.me to old.world.whole mid.world.whole
        has =
            has_from unrefused
            (subst (λ b. MovesSomehow disk.tells old.world.whole (command.Ask b to) given mid.world.whole)
            prepares.same.me
            (subst (λ (w : Backed K). MovesSomehow disk.tells w.whole (command.Ask ready.me to) given mid.world.whole)
            prepares.world acts.moves))

        pub mid_waits : (ask : Ask) × Awaits mid.world.whole mid.me ask
        mid_waits = (
          record { to = to; number = has.number },
          subst (λ n. Awaits mid.world.whole n (record { to = to; number = has.number })) (sym mid_same.me)
              has.awaits,
        )

        module _ {noted : MachineState K} {noted_slots : Pair N} {asked : Ask}
            (notes : NotesAsk slot (Ok asked) mid noted ready_slots noted_slots) where
          noted_same : KeepsMachine old noted
          noted_same = record { me = notes.same.me ∙ mid_same.me; tag = notes.same.tag ∙ mid_same.tag }

          awaits_here : Awaits mid.world.whole old.me asked
          awaits_here = subst (λ n. Awaits mid.world.whole n asked) mid_same.me notes.awaits

          noted_steady : PairSame slot.faults slots noted_slots
          noted_steady = same_behind prepares.slots.steady notes.slots.steady

          pub fits_noted : FitsMessage (length noted.world.whole.members)
              (message.Ask noted.me asked.to asked.number)
          fits_noted =
              subst (λ n. FitsMessage (length noted.world.whole.members) (message.Ask n asked.to asked.number))
              (sym noted_same.me)
              (subst (λ (w : Backed K). FitsMessage (length w.whole.members) (message.Ask old.me asked.to asked.number))
              (sym notes.world) (fits_this has awaits_here counted))

          module _ {M : Type 0} {mailbox : Mailbox M} {result : Result Bool LineFault} {was now : M}
              (puts : Puts mailbox (letter_of noted.tag (message.Ask noted.me asked.to asked.number) ∷ []) result was
              now) where
            puts_here : Puts mailbox (letter_of old.tag (message.Ask old.me asked.to asked.number) ∷ []) result was now
            puts_here =
                subst (λ (tag : List ℕ). Puts mailbox (letter_of tag (message.Ask old.me asked.to asked.number) ∷ [])
                result was now) noted_same.tag
                (subst (λ n. Puts mailbox (letter_of noted.tag (message.Ask n asked.to asked.number) ∷ []) result was
                now) noted_same.me puts)

            goes_here : GoesOn mailbox disk.tells old.me old.tag (told_of old.me (AsksDeed to) alone.result ∷ [])
                old.world.whole mid.world.whole was now
            goes_here = goes_put alone counted has awaits_here puts_here

            -- its message isn't put, for want of memory
            pub ask_unput : {Answers : List Told → MemberAnswer → Type 0} {came_to : Result MemberAnswer LineFault}
                {fault : LineFault} → came_to ≡ Err fault → result ≡ Err fault
                → Goes keep disk slot mailbox Answers came_to old noted disks mid_disks slots noted_slots was now
            ask_unput {came_to = came_to} {fault = fault} ends failed =
                goes_stopped fault ends
                (subst (λ (w : Backed K). GoesOn mailbox disk.tells old.me old.tag
                (told_of old.me (AsksDeed to) alone.result ∷ []) old.world.whole w.whole was now) (sym notes.world)
                goes_here)
                (subst (λ (w : Backed K). IsBacked keep disk w mid_disks) (sym notes.world) acts.backed)
                noted_same
                (asks_spared came_to
                (λ is. let same : fault ≡ NoteFault = (cc) in puts.no_note (failed ∙ ap Err same)) noted_steady)

            -- it is answered, whether or not it is put
            module _ {new : MachineState K} (bare : IsBare noted new) where
              bare_mid : new.world.whole ≡ with_post mid.world.whole no_post
              bare_mid = bare.bare ∙ ap (λ (w : Backed K). with_post w.whole no_post) notes.world

              new_me : new.me ≡ old.me
              new_me = bare.rest.me ∙ noted_same.me

              awaits_new : Awaits new.world.whole old.me asked
              awaits_new =
                  subst (λ (w : Whole). Awaits w old.me asked) (sym bare_mid)
                  (record {
                    member = awaits_here.member;
                    is = awaits_here.is;
                    up = awaits_here.up;
                    asks = awaits_here.asks;
                    none_held = awaits_here.none_held;
                  })

              noted_new : new.note.asked ≡ Some (record { to = asked.to; number = asked.number })
              noted_new = ap (λ (n : Note). n.asked) bare.rest.note ∙ notes.noted

              at_rest : IsAtRest keep disk slot new mid_disks noted_slots
              at_rest =
                  rests_bare bare_mid (bare.stables ∙ ap (λ (w : Backed K). w.stables) notes.world)
                  (subst (λ n. IsMember (length mid.world.whole.members) n) (sym new_me) its_member) acts.backed
                  (λ tells. subst (λ (n : Note). IsReady slot n noted_slots) (sym bare.rest.note) (notes.ready tells))
                  (subst (λ (o : Option Noted). IsNoted new.world.whole new.me o) (sym noted_new)
                  (subst (λ n. Awaits new.world.whole n asked) (sym new_me) awaits_new))

              ends_with : (answer : MemberAnswer)
                  → CommandAnswers mailbox old.me new.note.asked old.world.whole new.world.whole was now
                  (command.Ask old.me to) (told_of old.me (AsksDeed to) alone.result ∷ []) answer
                  → Goes keep disk slot mailbox
                  (CommandAnswers mailbox old.me new.note.asked old.world.whole new.world.whole was now
                  (command.Ask old.me to)) (Ok answer) old new disks mid_disks slots noted_slots was now
              ends_with answer answers =
                  goes_answered answer refl
                  (goes_then goes_here (goes_renews (renews_bare bare_mid its_member))) answers at_rest
                  (record { me = new_me; tag = bare.rest.tag ∙ noted_same.tag }) noted_steady

              pub ask_put : result ≡ Ok true → Goes keep disk slot mailbox
                  (CommandAnswers mailbox old.me new.note.asked old.world.whole new.world.whole was now
                  (command.Ask old.me to)) (Ok (Asked asked.number)) old new disks mid_disks slots noted_slots was now
              ask_put is =
                  ends_with (Asked asked.number)
                  (answers_asked mailbox alone new.note.asked new.world.whole was now unrefused (to_is has awaits_here)
                  awaits_new noted_new old.tag
                  (subst (λ (r : Result Bool LineFault). IfOk r (λ put. put ≡ true → mailbox.tells
                  → mailbox.posted now ≡ mailbox.posted was
                  ++ letter_of old.tag (message.Ask old.me asked.to asked.number) ∷ [])) is puts_here.put refl))

              pub ask_in_vain : HasFailed mailbox was now → Goes keep disk slot mailbox
                  (CommandAnswers mailbox old.me new.note.asked old.world.whole new.world.whole was now
                  (command.Ask old.me to)) (Ok (refused refusal.Link)) old new disks mid_disks slots noted_slots was now
              ask_in_vain failed =
                  ends_with (refused refusal.Link)
                  (answers_in_vain mailbox alone new.note.asked new.world.whole was now unrefused (to_is has awaits_here)
                  awaits_new noted_new failed)

        -- and that isn't noted
        pub ask_unnoted : {M : Type 0} {mailbox : Mailbox M} {Answers : List Told → MemberAnswer → Type 0}
            {noted : MachineState K} {noted_slots : Pair N} {result : Result MemberAnswer LineFault} {fault : LineFault}
            {now : M} → result ≡ Err fault → NotesAsk slot (Err fault) mid noted ready_slots noted_slots
            → Goes keep disk slot mailbox Answers result old noted disks mid_disks slots noted_slots now now
        ask_unnoted {mailbox = mailbox} {fault = fault} {now = now} ends notes =
            goes_stopped fault ends
            (subst (λ (w : Backed K). GoesOn mailbox disk.tells old.me old.tag
            (told_of old.me (AsksDeed to) alone.result ∷ []) old.world.whole w.whole now now) (sym notes.world)
            (goes_asked alone counted now))
            (subst (λ (w : Backed K). IsBacked keep disk w mid_disks) (sym notes.world) acts.backed)
            (record { me = notes.same.me ∙ mid_same.me; tag = notes.same.tag ∙ mid_same.tag })
            (asks_behind prepares.slots.steady (asks_err fault refl ends notes.slots))
