-- What an ask comes to that was heard and then served.
use Rattle.std.proofs.Common.{◌≡◌, ◌≢◌, ◌⊎◌, ℕ, ◌+◌, ◌-◌, ◌≤◌, Bool, true, false, List, length, map, Option, Result, Ok, Err, refl, sym, ap, subst, ◌∙◌, arith}
use Rattle.std.specs.Prelude.{MatchResult}
use Rattle.std.proofs.lemmas.List.{length-append, length-map}
use Rattle.ficus_disk.specs.declared.disk.Disk.{Ghosts as Disk}
use Rattle.ficus_disk.specs.declared.pair.Pair.{Pair}
use Rattle.ficus_keeper.specs.declared.keep.Keep.{Ghosts as Keep}
use Rattle.ficus_ids.specs.declared.refusal.Refusal.{Refusal}
use Rattle.ficus_ids.specs.declared.refusal.Refusal.TheVariants as refusal
use Rattle.ficus_mailbox.specs.declared.mailbox.Mailbox.{Ghosts as Mailbox}
use Rattle.ficus_member_script.specs.declared.member_answer.MemberAnswer.{MemberAnswer}
use Rattle.ficus_member_script.specs.declared.member_answer.MemberAnswer.TheVariants.{Served as ServedAs}
use Rattle.ficus_note.specs.declared.asked.Asked.{Asked as Noted}
use Rattle.ficus_opening.specs.declared.member.Member.{Member}
use Rattle.ficus_replica.specs.declared.replica.Replica.{Replica}
use Rattle.ficus_script.specs.declared.answer.Answer.{Answer}
use Rattle.ficus_script.specs.declared.answer.Answer.TheVariants.{Refused}
use Rattle.ficus_script.specs.declared.command.Command.TheVariants as command
use Rattle.ficus_wire.specs.Message.{FitsMessage, ask_of, message_bytes}
use Rattle.ficus_wire.specs.declared.message.Message.{Message}
use Rattle.ficus_wire.specs.declared.message.Route.{Route}
use Rattle.ficus_world.specs.Disks.{IsBacked}
use Rattle.ficus_world.specs.Hearing.{HearsNot}
use Rattle.ficus_world.specs.Kills.{IsDeedOf, Passes}
use Rattle.ficus_world.specs.Moves.{with_post}
use Rattle.ficus_world.specs.Post.{IsSent, lies_behind}
use Rattle.ficus_world.specs.World.{Backed, IsReplica, Whole}
use Rattle.ficus_machine.specs.Acting.{Acts}
use Rattle.ficus_machine.specs.Answers.{AskAnswers, pieces_of, refused}
use Rattle.ficus_machine.specs.Came.{CameIn, letter_of}
use Rattle.ficus_machine.specs.Line.{GoesInWorld}
use Rattle.ficus_machine.specs.Machine.{KeepsRest, MachineState}
use Rattle.ficus_machine.specs.Moments.{IsOpenIn, Works}
use Rattle.ficus_machine.specs.Moments.Works.{Holds, Joins}
use Rattle.ficus_machine.specs.Posting.{ArePosted, OnlyFetches, Puts}
use Rattle.ficus_machine.specs.declared.fault.LineFault.{LineFault}
use Rattle.ficus_machine.specs.declared.fault.LineFault.TheVariants.{Memory}
use Rattle.ficus_machine.specs.declared.serving.Serving.{Serving}
use Rattle.ficus_machine.proofs.AnsweredAsks.{all_put, heard_only, not_all_put, put_fault, refuses, unheard}
use Rattle.ficus_machine.proofs.HeardAsks.{GoesServed, are_posted, goes_served, heard_members}
use Rattle.ficus_machine.proofs.Leaves.{leaves_members, open_as}
use Rattle.ficus_machine.proofs.Lived.{holds_post, works_passes}

-- the ask came to the machine, and its world has heard it and nothing else
pub record IsHeard {K M : Type 0} (mailbox : Mailbox M) (way : Route) (machine heard : MachineState K) (was : M)
    (number : ℕ) : Type 0 where
  pub own : way.to ≡ machine.me
  pub fits : FitsMessage (length machine.world.whole.members) (ask_of way)
  pub sent : IsSent (Unit {0}) machine.world.whole.post (lies_behind 0 0) (message_bytes (ask_of way)) number
      heard.world.whole.post
  pub rest : heard.world.whole ≡ with_post machine.world.whole heard.world.whole.post
  pub keeps : KeepsRest machine heard
  pub came : mailbox.tells → CameIn machine.tag (length machine.world.whole.members) machine.me (mailbox.given was)
      (message_bytes (ask_of way))

-- so it is where these bytes spell it
pub is_heard : {K M : Type 0} (mailbox : Mailbox M) (way : Route) (machine inside : MachineState K) (world : Backed K)
    (was : M) (number : ℕ) (bytes : List ℕ) → inside ≡ machine → bytes ≡ message_bytes (ask_of way)
    → way.to ≡ machine.me → FitsMessage (length machine.world.whole.members) (ask_of way)
    → IsSent (Unit {0}) inside.world.whole.post (lies_behind 0 0) bytes number world.whole.post
    → world.whole ≡ with_post inside.world.whole world.whole.post
    → (mailbox.tells → CameIn machine.tag (length machine.world.whole.members) machine.me (mailbox.given was) bytes)
    → IsHeard mailbox way machine (record inside { world = world }) was number
is_heard {K} mailbox way machine inside world was number bytes same spelled own fits sent rest came = record {
  own = own;
  fits = fits;
  sent =
      subst (λ (m : MachineState K). IsSent (Unit {0}) m.world.whole.post (lies_behind 0 0) (message_bytes (ask_of way))
      number world.whole.post) same
      (subst (λ (list : List ℕ). IsSent (Unit {0}) inside.world.whole.post (lies_behind 0 0) list number
      world.whole.post) spelled sent);
  rest =
      subst (λ (m : MachineState K). world.whole ≡ with_post m.world.whole world.whole.post) same rest;
  keeps = record {
    me = ap (λ (m : MachineState K). m.me) same;
    tag = ap (λ (m : MachineState K). m.tag) same;
    note = ap (λ (m : MachineState K). m.note) same;
  };
  came = λ tells.
      subst (λ (list : List ℕ). CameIn machine.tag (length machine.world.whole.members) machine.me (mailbox.given was)
      list) spelled (came tells);
}

-- it isn't heard
pub ask_unheard : {K D M : Type 0} (keep : Keep K) (disk : Disk D) (mailbox : Mailbox M) (way : Route)
    (machine inside : MachineState K) (world : Backed K) (disks : List (Pair D)) (was : M) (bytes : List ℕ)
    (r : Refusal) (result : Result MemberAnswer LineFault) → inside ≡ machine → bytes ≡ message_bytes (ask_of way)
    → IsBacked keep disk machine.world disks → HearsNot bytes inside.world.whole.post world.whole.post r
    → world.whole ≡ with_post inside.world.whole world.whole.post → world.stables ≡ inside.world.stables
    → MatchResult result (λ answer. (answer ≡ refused r) × (r ≢ refusal.Memory)) (λ fault. fault ≡ Memory)
    → GoesInWorld keep disk mailbox (AskAnswers mailbox machine.me machine.tag way machine.world.whole was was) result
    machine (record inside { world = world }) disks disks was was
ask_unheard {K} keep disk mailbox way machine inside world disks was bytes r result same spelled backed none rest stables
    so =
    unheard keep disk mailbox way machine disks was (record inside { world = world }) r result backed
    (subst (λ (m : MachineState K). HearsNot (message_bytes (ask_of way)) m.world.whole.post world.whole.post r) same
    (subst (λ (list : List ℕ). HearsNot list inside.world.whole.post world.whole.post r) spelled none))
    (subst (λ (m : MachineState K). world.whole ≡ with_post m.world.whole world.whole.post) same rest)
    (subst (λ (m : MachineState K). world.stables ≡ m.world.stables) same stables)
    (record {
      me = ap (λ (m : MachineState K). m.me) same;
      tag = ap (λ (m : MachineState K). m.tag) same;
      note = ap (λ (m : MachineState K). m.note) same;
    }) so

-- and all that has changed then is what its link has
pub works_unheard : {K D : Type 0} (keep : Keep K) (disk : Disk D) (machine inside : MachineState K)
    (world : Backed K) (disks : List (Pair D)) → inside ≡ machine
    → world.whole ≡ with_post inside.world.whole world.whole.post → (noted : Option Noted)
    → Works keep disk machine.me noted machine.world.whole world.whole disks disks
works_unheard {K} keep disk machine inside world disks same rest noted =
    Holds (holds_post machine.me machine.world.whole world.whole world.whole.post
    (subst (λ (m : MachineState K). world.whole ≡ with_post m.world.whole world.whole.post) same rest))

module _ {K D M : Type 0} (keep : Keep K) (disk : Disk D) (mailbox : Mailbox M) (way : Route)
    (machine heard : MachineState K) (disks : List (Pair D)) (was : M) (number : ℕ)
    (is : IsHeard mailbox way machine heard was number) (after : MachineState K) (after_disks : List (Pair D)) where
  -- memory is refused behind that
  pub ask_stops : (result : Result Answer LineFault) (fault : LineFault) → result ≡ Err fault
      → Acts keep disk (command.Give number) result heard after disks after_disks
      → GoesInWorld keep disk mailbox (AskAnswers mailbox machine.me machine.tag way machine.world.whole was was)
      (Err fault) machine after disks after_disks was was
  ask_stops result fault same acts =
      heard_only keep disk mailbox way machine disks was heard number is.own is.fits is.sent is.rest is.keeps is.came
      after after_disks fault
      (subst (λ (r : Result Answer LineFault). Acts keep disk (command.Give number) r heard after disks after_disks) same
      acts)

  -- the world refuses it
  pub ask_refused : (result : Result Answer LineFault) (answer : Answer) (r : Refusal) (given : MemberAnswer)
      → result ≡ Ok answer → answer ≡ Refused r → given ≡ refused r
      → Acts keep disk (command.Give number) result heard after disks after_disks
      → GoesInWorld keep disk mailbox (AskAnswers mailbox machine.me machine.tag way machine.world.whole was was)
      (Ok given) machine after disks after_disks was was
  ask_refused result answer r given ended so same acts =
      subst (λ (a : MemberAnswer). GoesInWorld keep disk mailbox
      (AskAnswers mailbox machine.me machine.tag way machine.world.whole was was) (Ok a) machine after disks after_disks
      was was) (sym same)
      (refuses keep disk mailbox way machine disks was heard number is.own is.fits is.sent is.rest is.keeps is.came
      after after_disks r
      (subst (λ (x : Result Answer LineFault). Acts keep disk (command.Give number) x heard after disks after_disks)
      (ended ∙ ap (λ (a : Answer). Ok a) so) acts))

  -- its world and its disks work meanwhile, whatever is noted
  keeps_members : (result : Result Answer LineFault)
      → Acts keep disk (command.Give number) result heard after disks after_disks
      → after.world.whole.members ≡ heard.world.whole.members
  keeps_members (Ok answer) acts =
      heard_members disk.tells machine.me way machine.world.whole heard.world.whole number is.own is.fits is.sent is.rest
      acts.moves
  keeps_members (Err fault) acts = ap (λ (w : Whole). w.members) acts.memory

  pub ask_works : (result : Result Answer LineFault)
      → Acts keep disk (command.Give number) result heard after disks after_disks
      → (Passes (Unit {0}) keep disk (IsDeedOf (command.Give number)) heard.world.whole after.world.whole disks
      after_disks ⊎ ((after.world.whole ≡ heard.world.whole) × (after_disks ≡ disks))) → (noted : Option Noted)
      → IsOpenIn machine.world.whole machine.me noted
      → Works keep disk machine.me noted machine.world.whole after.world.whole disks after_disks
  ask_works result acts passes noted opened =
      let there =
      open_as machine.world.whole heard.world.whole machine.me noted (ap (λ (w : Whole). w.members) is.rest)
      opened in
      Joins (Holds (holds_post machine.me machine.world.whole heard.world.whole heard.world.whole.post is.rest))
      (works_passes keep disk machine.me noted (command.Give number) heard.world.whole after.world.whole disks after_disks
      passes there
      (λ tells.
      leaves_members heard.world.whole after.world.whole machine.me noted (keeps_members result acts) there))

  -- and where pieces are fetched behind that
  pub ask_works_put : (new : MachineState K) (noted : Option Noted)
      → Works keep disk machine.me noted machine.world.whole after.world.whole disks after_disks → OnlyFetches after new
      → Works keep disk machine.me noted machine.world.whole new.world.whole disks after_disks
  ask_works_put new noted works fetches =
      Joins works (Holds (holds_post machine.me after.world.whole new.world.whole new.world.whole.post fetches.world))

  module _ (result : Result Answer LineFault) (answer : Answer) (ended : result ≡ Ok answer)
      (acted : Acts keep disk (command.Give number) result heard after disks after_disks)
      (fine : (r : Refusal) → answer ≡ Refused r → ⊥) where
    acts : Acts keep disk (command.Give number) (Ok answer) heard after disks after_disks
    acts =
        subst (λ (r : Result Answer LineFault). Acts keep disk (command.Give number) r heard after disks after_disks)
        ended acted

    on : GoesServed disk.tells machine.me way machine.world.whole heard.world.whole number is.own is.fits is.sent is.rest
        mailbox machine.tag was is.came after.world.whole
    on =
        goes_served disk.tells machine.me way machine.world.whole heard.world.whole number is.own is.fits is.sent is.rest
        mailbox machine.tag was is.came acts.moves fine

    here : after.me ≡ machine.me
    here = acts.rest.me ∙ is.keeps.me

    served_replica : IsReplica after.world.whole.members after.me on.served.replica
    served_replica =
        subst (λ (list : List Member). IsReplica list after.me on.served.replica) (sym on.served.members)
        (subst (λ r. IsReplica machine.world.whole.members r on.served.replica) (sym here) on.served.is)

    -- the member is up
    pub ask_up : (replica : Replica) × IsReplica after.world.whole.members after.me replica
    ask_up = (on.served.replica, served_replica)

    module _ (count : ℕ) (counted : count ≡ length after.world.whole.post.posts) where
      number_is : number ≡ length heard.world.whole.post.posts
      number_is = omega (arith, is.sent.number_is, is.sent.counted)

      length_is : length after.world.whole.post.posts ≡ length heard.world.whole.post.posts + length on.more
      length_is =
          ap (λ (list : List (List ℕ)). length list) on.posts ∙ length-append heard.world.whole.post.posts on.more

      more_is : length on.more ≡ length (pieces_of machine.world.whole machine.me way on.served.replica)
      more_is =
          ap (λ (list : List (List ℕ)). length list) on.served.more_are
          ∙ length-map (pieces_of machine.world.whole machine.me way on.served.replica) message_bytes

      -- as many were posted before at least
      pub ask_behind : number ≤ count
      ask_behind = omega (arith, number_is, length_is, counted)

      pieces_are : length (pieces_of machine.world.whole machine.me way on.served.replica) ≡ count - number
      pieces_are = omega (arith, number_is, length_is, counted, more_is)

      module _ (state : ℕ) (stated : (replica : Replica)
          → IsReplica after.world.whole.members after.me replica → state ≡ replica.saved.generation) where
        state_is : state ≡ on.served.replica.saved.generation
        state_is = stated on.served.replica served_replica

        abbrev serving : Serving
        serving = record { way = way; behind = number; state = state }

        posted : ArePosted after serving (pieces_of machine.world.whole machine.me way on.served.replica)
        posted =
            are_posted heard.world.whole.post.posts on.served here refl on.posts number_is state_is

        -- the pieces are posted
        pub ask_posted : (messages : List Message) × (length messages ≡ count - number)
            × ArePosted after (record { way = way; behind = number; state = state }) messages
        ask_posted = (pieces_of machine.world.whole machine.me way on.served.replica, pieces_are, posted)

        module _ (new : MachineState K) (now : M) (put : Result Bool LineFault)
            (puts : (messages : List Message) → length messages ≡ count - number
            → ArePosted after (record { way = way; behind = number; state = state }) messages
            → Puts mailbox (map (letter_of after.tag) messages) put was now) (fetches : OnlyFetches after new) where
          tagged : after.tag ≡ machine.tag
          tagged = acts.rest.tag ∙ is.keeps.tag

          are_put : Puts mailbox
              (map (letter_of machine.tag) (pieces_of machine.world.whole machine.me way on.served.replica)) put was now
          are_put =
              subst (λ (tag : List ℕ). Puts mailbox
              (map (letter_of tag) (pieces_of machine.world.whole machine.me way on.served.replica)) put was now) tagged
              (puts (pieces_of machine.world.whole machine.me way on.served.replica) pieces_are posted)

          -- all are put
          pub ask_served : put ≡ Ok true
              → GoesInWorld keep disk mailbox (AskAnswers mailbox machine.me machine.tag way machine.world.whole was now)
              (Ok (ServedAs (count - number) state)) machine new disks after_disks was now
          ask_served so =
              all_put keep disk mailbox way machine disks was heard number is.own is.fits is.sent is.rest is.keeps
              is.came after new after_disks answer now acts on fetches (count - number) state pieces_are state_is
              (subst (λ (result : Result Bool LineFault). Puts mailbox
              (map (letter_of machine.tag) (pieces_of machine.world.whole machine.me way on.served.replica)) result was
              now) so are_put)

          -- one isn't
          pub ask_unserved : put ≡ Ok false → (given : MemberAnswer) → given ≡ refused refusal.Link
              → GoesInWorld keep disk mailbox (AskAnswers mailbox machine.me machine.tag way machine.world.whole was now)
              (Ok given) machine new disks after_disks was now
          ask_unserved so given same =
              subst (λ (a : MemberAnswer). GoesInWorld keep disk mailbox
              (AskAnswers mailbox machine.me machine.tag way machine.world.whole was now) (Ok a) machine new disks
              after_disks was now) (sym same)
              (not_all_put keep disk mailbox way machine disks was heard number is.own is.fits is.sent is.rest is.keeps
              is.came after new after_disks answer now acts on fetches
              (subst (λ (result : Result Bool LineFault). Puts mailbox
              (map (letter_of machine.tag) (pieces_of machine.world.whole machine.me way on.served.replica)) result was
              now) so are_put))

          -- or memory is refused
          pub ask_unput : (fault : LineFault) → put ≡ Err fault
              → GoesInWorld keep disk mailbox (AskAnswers mailbox machine.me machine.tag way machine.world.whole was now)
              (Err fault) machine new disks after_disks was now
          ask_unput fault so =
              put_fault keep disk mailbox way machine disks was heard number is.own is.fits is.sent is.rest is.keeps
              is.came after new after_disks answer now acts on fetches fault
              (subst (λ (result : Result Bool LineFault). Puts mailbox
              (map (letter_of machine.tag) (pieces_of machine.world.whole machine.me way on.served.replica)) result was
              now) so are_put)
