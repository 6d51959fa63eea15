-- How many events a command stores, beside one for each message that it posts.
use Rattle.std.proofs.Common.{◌≡◌, ℕ, ◌+◌, ◌≤◌, List, [], ◌∷◌, ◌++◌, length, map, Result, Ok, Err, refl, ap, sym, subst, arith}
use Rattle.std.proofs.lemmas.List.{length-map, length_push}
use Rattle.std.specs.Prelude.{IsErrOf}
use Rattle.ficus_disk.specs.declared.disk.Disk.{Ghosts as Disk}
use Rattle.ficus_disk.specs.declared.pair.Pair.{Pair}
use Rattle.ficus_entry.specs.declared.entry.Entry.{Entry}
use Rattle.ficus_file.specs.declared.file.FileReplica.{FileReplica}
use Rattle.ficus_ids.specs.declared.refusal.Refusal.{Refusal}
use Rattle.ficus_ids.specs.declared.refusal.Refusal.TheVariants as refusal
use Rattle.ficus_keeper.specs.declared.keep.Keep.{Ghosts as Keep}
use Rattle.ficus_model.specs.declared.event.Event.TheVariants as event
use Rattle.ficus_model.specs.declared.event.Op.{Op}
use Rattle.ficus_commands.specs.declared.change.Change.{Change}
use Rattle.ficus_script.specs.declared.answer.Answer.{Answer}
use Rattle.ficus_script.specs.declared.answer.Answer.TheVariants.{Mail}
use Rattle.ficus_script.specs.declared.command.Command.{Command}
use Rattle.ficus_script.specs.declared.command.Command.TheVariants as command
use Rattle.ficus_wire.specs.Message.{message_bytes}
use Rattle.ficus_wire.specs.declared.message.Message.{Message}
use Rattle.ficus_wire.specs.declared.message.Message.TheVariants as message
use Rattle.ficus_wire.specs.declared.message.PieceHead.{PieceHead}
use Rattle.ficus_runs.specs.Actions.{GivesOnly}
use Rattle.ficus_runs.specs.Exchange.{mails_of}
use Rattle.ficus_runs.specs.Plan.{Plan, PullsSome, plan}
use Rattle.ficus_runs.specs.Sequence.{ByRule, Cut, Effect, First, NothingDone}
use Rattle.ficus_runs.specs.Sequence.ByRule.{Says}
use Rattle.ficus_runs.specs.Sequence.CutFirst.{InFirst, InRest}
use Rattle.ficus_runs.specs.Sequence.First.{Ends, Goes}
use Rattle.ficus_world.specs.declared.exchange.Delivery.{Delivery}
use Rattle.ficus_opening.specs.declared.member.Member.{Member}
use Rattle.ficus_world.specs.Moves.{ArmsDisks, Compared, FindsMember, FindsPeers, FindsUp, GivesMessage, GivesMessages, GivesSomeMessages, HandlesMessage, KeepsAsk, KeepsCollection, KeepsUpdate, Reopens, SendsEach, ServesAsk, TakesFitting, TablesDecide, TakesPiece, TakesSpelled, TakesTables, WholeAction, answers_of, of_tables, serve_of, with_event}
use Rattle.ficus_world.specs.Moves.ArmsDisks.{Arms, ArmsNone}
use Rattle.ficus_world.specs.Moves.FetchesBytes.{Fetched, NoMail, NotFetched}
use Rattle.ficus_world.specs.Moves.FindsMember.{Finds, FindsNone}
use Rattle.ficus_world.specs.Moves.FindsPeers.{FindsBoth, FindsNoPeers, FindsOneDown}
use Rattle.ficus_world.specs.Moves.FindsTaker.{AnswersNone, FindsIt, OfAnotherState, OfOtherPieces, TakerDown}
use Rattle.ficus_world.specs.Moves.FindsUp.{FindsAt, FindsDown, FindsNoneAt}
use Rattle.ficus_world.specs.Moves.KeepsAsk.{Asked, AskerDown, NoPeers, NoRoomToAsk, NotAsked}
use Rattle.ficus_world.specs.Moves.KeepsCollection.{Collects, CollectsNot}
use Rattle.ficus_world.specs.Moves.KeepsUpdate.{Keeps, KeepsNot}
use Rattle.ficus_world.specs.Moves.Reopens.{NoImageFound, NotReopened, ReopenedAsPending, ReopenedAsWas}
use Rattle.ficus_world.specs.Moves.Sends.{NotSent, Sent}
use Rattle.ficus_world.specs.Moves.ServesAsk.{NoRoomToServe, ServerDown, Serves}
use Rattle.ficus_world.specs.Moves.TakesFitting.{IsHeld, IsOneMore, IsTheLast}
use Rattle.ficus_world.specs.Moves.TakesSpelled.{SpellsNone, SpellsTables}
use Rattle.ficus_world.specs.Moves.TakesTables.{Refuses, Takes, TakesNot}
use Rattle.ficus_world.specs.Post.{Outbox, HasFailed}
use Rattle.ficus_world.specs.Stepped.{ComesTo, CutOn}
use Rattle.ficus_world.specs.World.{IsWorld, Whole, foreseen, most_unforeseen}
use Rattle.ficus_world.proofs.Sending.{mails_count}

-- So many events are stored at most beside one for each message that is posted; and for these messages, which are to be
-- given too, none is yet.
pub record Grows (most ungiven : ℕ) (old new : Whole) : Type 0 where
  pub few : length new.events + length old.post.posts + ungiven ≤ length old.events + most + length new.post.posts

-- the messages that the answer tells of
abbrev told_in : Result Answer Refusal → ℕ
told_in (Ok answer) = length (mails_of answer)
told_in (Err r) = 0

same_grows : {most : ℕ} (old : Whole) → Grows most 0 old old
same_grows old = record { few = omega arith }

failed_posts : {old new : Outbox} → HasFailed old new → length new.posts ≡ length old.posts
failed_posts failed = ap (λ (p : Outbox). length p.posts) failed.same

-- no event is stored as messages are posted, and each of them is counted
abbrev counts_sent : Result (Unit {0}) Refusal → ℕ → ℕ
counts_sent (Ok sent) count = count
counts_sent (Err r) count = 0

record AreSent (count : ℕ) (old new : Whole) : Type 0 where
  pub events : length new.events ≡ length old.events
  pub posts : length old.post.posts + count ≤ length new.post.posts

sends_each : (tells : Type 0) (position index : ℕ) (messages : List (List ℕ)) (old : Whole)
    (result : Result (Unit {0}) Refusal) (left : Effect Whole) → SendsEach tells position index messages old result left
    → AreSent (counts_sent result (length messages)) old left.after
sends_each tells position index [] old (Ok sent) left (Says is) = record { events = refl; posts = omega arith }
sends_each tells position index [] old (Err r) left (Says none) = absurd none
sends_each tells position index (bytes ∷ more) old (Err r) left (Ends (NotSent failed)) =
    let same = failed_posts failed in record { events = refl; posts = omega (arith, same) }
sends_each tells position index (bytes ∷ more) old (Ok sent) left (Goes {left = last} (Sent {post = post} one) sends) =
    let rest = sends_each tells position (index + 1) more (record old { post = post }) (Ok sent) last sends in
    record { events = rest.events; posts = omega (arith, rest.posts, one.counted) }
sends_each tells position index (bytes ∷ more) old (Err r) left (Goes {left = last} (Sent {post = post} one) sends) =
    let rest = sends_each tells position (index + 1) more (record old { post = post }) (Err r) last sends in
    record { events = rest.events; posts = omega (arith, rest.posts, one.counted) }

-- the serving of an ask is one event, and the answer tells of what is posted
serve_grows : {tells : Type 0} {came : Delivery} {old : Whole} (result : Result Answer Refusal) {left : Effect Whole}
    → ServesAsk tells came old result left → Grows 1 (told_in result) old left.after
serve_grows {old = old} result (ServerDown is down) = same_grows old
serve_grows {old = old} result (NoRoomToServe serving full) = same_grows old
serve_grows {tells} {came} {old} result {left}
    (Serves {peer = peer} {asked = asked} serving place room fits (Ends {refusal = r} sends)) =
    let messages = answers_of old came peer in
    let sent = sends_each tells (length old.events) 0 (map message_bytes messages)
    (with_event old (serve_of old came peer asked)) (Err r) left sends in
    let longer = length_push old.events (serve_of old came peer asked) in
    record { few = omega (arith, sent.events, sent.posts, longer) }
serve_grows {came = came} {old = old} (Err r) (Serves serving place room fits (Goes sends (Says none))) = absurd none
serve_grows {tells} {came} {old} (Ok answer)
    (Serves {peer = peer} {asked = asked} serving place room fits (Goes {a = a} {middle = middle} sends (Says is))) =
    let messages = answers_of old came peer in
    let sent = sends_each tells (length old.events) 0 (map message_bytes messages)
    (with_event old (serve_of old came peer asked)) (Ok a) middle sends in
    let longer = length_push old.events (serve_of old came peer asked) in
    let some : 1 ≤ length old.post.posts + 1 = omega arith in
    let told = ap (λ (given : Answer). length (mails_of given)) is in
    let count = mails_count (length old.post.posts + 1) (length messages) some in
    record { few = omega (arith, sent.events, sent.posts, longer, told, count, length-map messages message_bytes) }

-- the taking of a piece is one event at most
tables_grow : {came : Delivery} {index : ℕ} {entries : List Entry} {files : List FileReplica} {old : Whole}
    (result : Result Answer Refusal) {left : Effect Whole} → TakesTables came index entries files old result left
    → Grows 1 (told_in result) old left.after
tables_grow {came = came} {index = index} {old = old} result (Takes {place = place} is up lies gives) =
    let longer = length_push old.events (event.Accept came.to place.position index) in record { few = omega (arith, longer) }
tables_grow {old = old} result (TakesNot is up place gives) = record { few = omega arith }
tables_grow {old = old} result (Refuses is up no_memory gives) = same_grows old

spelled_grows : {came : Delivery} {index : ℕ} {bytes : List ℕ} {old : Whole} (result : Result Answer Refusal)
    {left : Effect Whole} → TakesSpelled came index bytes old result left → Grows 1 (told_in result) old left.after
spelled_grows result (SpellsTables fits is takes) = tables_grow result takes
spelled_grows {old = old} result (SpellsNone none) = same_grows old

fitting_grows : {came : Delivery} {head : PieceHead} {bytes : List ℕ} {was : Member} {old : Whole}
    (result : Result Answer Refusal) {left : Effect Whole} → TakesFitting came head bytes was old result left
    → Grows 1 (told_in result) old left.after
fitting_grows {old = old} result (IsHeld held) = same_grows old
fitting_grows {came = came} {head = head} {old = old} result (IsOneMore {place = place} lacks others lies) =
    let longer = length_push old.events (event.Take came.to place.position head.index) in record { few = omega (arith, longer) }
fitting_grows result (IsTheLast lacks others takes) = spelled_grows result takes

piece_grows : {came : Delivery} {head : PieceHead} {bytes : List ℕ} {old : Whole} (result : Result Answer Refusal)
    {left : Effect Whole} → TakesPiece came head bytes old result left → Grows 1 (told_in result) old left.after
piece_grows {old = old} result (Ends (TakerDown is down)) = same_grows old
piece_grows {old = old} result (Ends (AnswersNone is up none)) = same_grows old
piece_grows {old = old} result (Ends (OfAnotherState waits other)) = same_grows old
piece_grows {old = old} result (Ends (OfOtherPieces waits state other)) = same_grows old
piece_grows result (Goes (FindsIt waits state pieces) takes) = fitting_grows result takes

handles_grow : (tells : Type 0) (number : ℕ) (m : Message) {old : Whole} (result : Result Answer Refusal)
    (left : Effect Whole) → HandlesMessage tells number m old result left → Grows 1 (told_in result) old left.after
handles_grow tells number (message.Ask from to ask) result left handles = serve_grows result handles
handles_grow tells number (message.Piece from to ask state pieces index bytes) result left handles =
    piece_grows result handles

-- so is a give
give_grows : {tells : Type 0} (number : ℕ) {old : Whole} (result : Result Answer Refusal) {left : Effect Whole}
    → GivesMessage tells number old result left → Grows 1 (told_in result) old left.after
give_grows number {old} result (Ends (Ends (NoMail none))) = same_grows old
give_grows number {old} result (Ends (Ends (NotFetched some failed))) =
    let same = failed_posts failed in record { few = omega (arith, same) }
give_grows number {old} result (Ends (Goes (Fetched fetched) (Says reads))) = same_grows old
give_grows {tells} number result (Goes {a = m} {left = last} (Goes (Fetched fetched) (Says reads)) handles) =
    handles_grow tells number m result last handles

-- one for each of the messages that are given
gives_grow : (tells : Type 0) (numbers : List ℕ) {old : Whole} (result : Result Answer Refusal) (left : Effect Whole)
    → GivesMessages tells numbers old result left → Grows (length numbers) 0 old left.after
gives_grow tells [] {old} result left (Says is) = same_grows old
gives_grow tells (number ∷ numbers) result left (Ends {refusal = r} gives) =
    let first = give_grows number (Err r) gives in record { few = omega (arith, first.few) }
gives_grow tells (number ∷ numbers) result left (Goes {a = given} {left = last} gives more) =
    let first = give_grows number (Ok given) gives in
    let rest = gives_grow tells numbers result last more in
    record { few = omega (arith, first.few, rest.few) }

nothing_grows : {old : Whole} {left : Effect Whole} (most : ℕ) → NothingDone old left → Grows most 0 old left.after
nothing_grows {old} most same = subst (λ (e : Effect Whole). Grows most 0 old e.after) (sym same) (same_grows old)

some_grow : (tells : Type 0) (numbers : List ℕ) {old : Whole} (left : Effect Whole)
    → GivesSomeMessages tells numbers old left → Grows (length numbers) 0 old left.after
some_grow tells [] left same = nothing_grows 0 same
some_grow tells (number ∷ numbers) left (InFirst same) = nothing_grows (length (number ∷ numbers)) same
some_grow tells (number ∷ numbers) left (InRest {a = given} {left = last} gives more) =
    let first = give_grows number (Ok given) gives in
    let rest = some_grow tells numbers last more in
    record { few = omega (arith, first.few, rest.few) }

-- an ask is one, and so is its message
abbrev asked_more : Result ℕ Refusal → ℕ
asked_more (Ok number) = 1
asked_more (Err r) = 0

ask_grows : {tells : Type 0} {by to : ℕ} {old : Whole} (result : Result ℕ Refusal) {left : Effect Whole}
    → KeepsAsk tells by to old result left → Grows 1 (asked_more result) old left.after
ask_grows {old = old} result (NoPeers none) = same_grows old
ask_grows {old = old} result (AskerDown peers is down) = same_grows old
ask_grows {old = old} result (NoRoomToAsk asking full) = same_grows old
ask_grows {old = old} result (NotAsked asking room) = record { few = omega arith }
ask_grows {by = by} {to = to} {old = old} result (Asked asking room (Sent sent)) =
    let longer = length_push old.events (event.Ask by to) in record { few = omega (arith, sent.counted, longer) }
ask_grows {by = by} {to = to} {old = old} result (Asked asking room (NotSent failed)) =
    let longer = length_push old.events (event.Ask by to) in
    let same = failed_posts failed in
    record { few = omega (arith, same, longer) }

update_grows : {by : ℕ} {was : Member} {op : Op} {old : Whole} {result : Result Answer Refusal} {left : Effect Whole}
    → KeepsUpdate by was op old result left → Grows 2 0 old left.after
update_grows {by = by} {op = op} {old = old} (Keeps applied ask) =
    let longer = length_push old.events (event.Update by op) in record { few = omega (arith, longer) }
update_grows {old = old} (KeepsNot applied ask) = record { few = omega arith }

collection_grows : {by : ℕ} {was : Member} {old : Whole} {result : Result Answer Refusal} {left : Effect Whole}
    → KeepsCollection by was old result left → Grows 2 0 old left.after
collection_grows {by = by} {old = old} (Collects gives) =
    let longer = length_push old.events (event.Collect by) in record { few = omega (arith, longer) }
collection_grows {old = old} (CollectsNot gives) = record { few = omega arith }

reopening_grows : {disks_tell : Type 0} {by : ℕ} {was : Member} {old : Whole} {result : Result Answer Refusal}
    {left : Effect Whole} → Reopens disks_tell by was old result left → Grows 2 0 old left.after
reopening_grows {by = by} {old = old} (ReopenedAsWas reads) =
    let longer = length_push old.events (event.Restart by) in record { few = omega (arith, longer) }
reopening_grows {by = by} {old = old} (ReopenedAsPending {pending = pending} down reads) =
    let longer = length_push old.events pending.event in
    let twice = length_push (old.events ++ pending.event ∷ []) (event.Restart by) in
    record { few = omega (arith, longer, twice) }
reopening_grows {old = old} NotReopened = record { few = omega arith }
reopening_grows {old = old} (NoImageFound untold) = record { few = omega arith }

-- an action stores two events at most beside one for each message that it posts
abbrev IsGrowing : {A : Type 0} → WholeAction A → Type 0
IsGrowing {A} does =
    (old : Whole) (result : Result A Refusal) (left : Effect Whole) → does old result left → Grows 2 0 old left.after

up_grows : {A : Type 0} (by : ℕ) (rest : Member → WholeAction A) → ((member : Member) → IsGrowing (rest member))
    → IsGrowing (First (FindsUp by) rest)
up_grows by rest behind old result left (Ends (FindsNoneAt none)) = same_grows old
up_grows by rest behind old result left (Ends (FindsDown is down)) = same_grows old
up_grows by rest behind old result left (Goes {a = member} {left = last} (FindsAt is up) next) =
    behind member old result last next

peers_grow : {A : Type 0} (by other : ℕ) (rest : Compared → WholeAction A)
    → ((both : Compared) → IsGrowing (rest both)) → IsGrowing (First (FindsPeers by other) rest)
peers_grow by other rest behind old result left (Ends (FindsNoPeers none)) = same_grows old
peers_grow by other rest behind old result left (Ends (FindsOneDown peers is is_too down)) = same_grows old
peers_grow by other rest behind old result left (Goes {a = both} {left = last} (FindsBoth peers is is_too up up_too) next) =
    behind both old result last next

rule_grows : {A : Type 0} (rule : Whole → Result A Refusal → Type 0) → IsGrowing (ByRule rule)
rule_grows rule old result left (Says is) = same_grows old

change_grows : (by : ℕ) (change : Change) (was : Member)
    → IsGrowing (First (TablesDecide was change) (KeepsUpdate by was))
change_grows by change was old result left (Ends (Says refused)) = same_grows old
change_grows by change was old result left (Goes (Says decided) keeps) = update_grows keeps

asking_grows : (tells : Type 0) (by to : ℕ)
    → IsGrowing (First (KeepsAsk tells by to) (λ number. GivesOnly (Mail number)))
asking_grows tells by to old result left (Ends {refusal = r} asks) =
    let asked = ask_grows (Err r) asks in record { few = omega (arith, asked.few) }
asking_grows tells by to old result left (Goes {a = number} asks (Says is)) =
    let asked = ask_grows (Ok number) asks in record { few = omega (arith, asked.few) }

giving_grows : (tells : Type 0) (number : ℕ) → IsGrowing (GivesMessage tells number)
giving_grows tells number old result left gives =
    let given = give_grows number result gives in record { few = omega (arith, given.few) }

pulling_grows : (tells : Type 0) (by to : ℕ)
    → IsGrowing (First (KeepsAsk tells by to)
    (λ number. First (GivesMessage tells number) (λ given. GivesMessages tells (mails_of given))))
pulling_grows tells by to old result left (Ends {refusal = r} asks) =
    let asked = ask_grows (Err r) asks in record { few = omega (arith, asked.few) }
pulling_grows tells by to old result left (Goes {a = number} asks (Ends {refusal = r} gives)) =
    let asked = ask_grows (Ok number) asks in
    let given = give_grows number (Err r) gives in
    record { few = omega (arith, asked.few, given.few) }
pulling_grows tells by to old result left (Goes {a = number} asks (Goes {a = answer} {left = last} gives more)) =
    let asked = ask_grows (Ok number) asks in
    let given = give_grows number (Ok answer) gives in
    let rest = gives_grow tells (mails_of answer) result last more in
    record { few = omega (arith, asked.few, given.few, rest.few) }

reopens_grow : (disks_tell : Type 0) (by : ℕ) → IsGrowing (First (FindsMember by) (Reopens disks_tell by))
reopens_grow disks_tell by old result left (Ends (FindsNone none)) = same_grows old
reopens_grow disks_tell by old result left (Goes (Finds is) reopens) = reopening_grows reopens

arming_grows : (by calls pick : ℕ) (was : Member) → IsGrowing (ArmsDisks by calls pick was)
arming_grows by calls pick was old result left (Arms fused) = same_grows old
arming_grows by calls pick was old result left (ArmsNone none) = same_grows old

-- also where memory is refused on the way
abbrev IsGrowingPart : Cut Whole → Type 0
IsGrowingPart cut = (old : Whole) (left : Effect Whole) → cut old left → Grows 2 0 old left.after

nothing_done_grows : IsGrowingPart NothingDone
nothing_done_grows old left same = nothing_grows 2 same

pull_part_grows : (tells : Type 0) (by to : ℕ)
    → IsGrowingPart (PullsSome (FindsPeers by to) (KeepsAsk tells by to) (GivesMessage tells))
pull_part_grows tells by to old left (InFirst same) = nothing_grows 2 same
pull_part_grows tells by to old left (InRest (FindsBoth peers is is_too up up_too) (InFirst same)) = nothing_grows 2 same
pull_part_grows tells by to old left
    (InRest (FindsBoth peers is is_too up up_too) (InRest {a = number} {middle = middle} asks (InFirst same))) =
    let asked = ask_grows (Ok number) asks in
    let rest = nothing_grows {old = middle.after} 0 same in
    record { few = omega (arith, asked.few, rest.few) }
pull_part_grows tells by to old left
    (InRest (FindsBoth peers is is_too up up_too) (InRest {a = number} asks (InRest {a = answer} {left = last} gives more))) =
    let asked = ask_grows (Ok number) asks in
    let given = give_grows number (Ok answer) gives in
    let rest = some_grow tells (mails_of answer) last more in
    record { few = omega (arith, asked.few, given.few, rest.few) }

-- so it is of each command, and of what is cut short of it
record PlanGrows (its : Plan Whole) : Type 0 where
  does : IsGrowing its.does
  part : IsGrowingPart its.part

plan_grows : (tells disks_tell : Type 0) (c : Command) → PlanGrows (plan (of_tables tells disks_tell) c)
plan_grows tells disks_tell (command.Change by change) =
    record { does = up_grows by _ (change_grows by change); part = nothing_done_grows }
plan_grows tells disks_tell (command.Look by look) =
    record { does = up_grows by _ (λ was. rule_grows _); part = nothing_done_grows }
plan_grows tells disks_tell (command.Collect by) =
    record { does = up_grows by _ (λ was old result left keeps. collection_grows keeps); part = nothing_done_grows }
plan_grows tells disks_tell (command.Ask by to) =
    record { does = asking_grows tells by to; part = nothing_done_grows }
plan_grows tells disks_tell (command.Give number) =
    record { does = giving_grows tells number; part = nothing_done_grows }
plan_grows tells disks_tell (command.Pull by to) =
    record { does = peers_grow by to _ (λ both. pulling_grows tells by to); part = pull_part_grows tells by to }
plan_grows tells disks_tell (command.Alike by other) =
    record { does = peers_grow by other _ (λ both. rule_grows _); part = nothing_done_grows }
plan_grows tells disks_tell (command.Restart by) =
    record { does = reopens_grow disks_tell by; part = nothing_done_grows }
plan_grows tells disks_tell (command.Stop by calls pick) =
    record { does = up_grows by _ (arming_grows by calls pick); part = nothing_done_grows }
plan_grows tells disks_tell (command.Sweep order) =
    record { does = λ old result left none. absurd none; part = λ old left none. absurd none }
plan_grows tells disks_tell (command.Why by) =
    record { does = λ old result left none. absurd none; part = λ old left none. absurd none }

-- what a command comes to
module _ {K D : Type 0} (tells : Type 0) (keep : Keep K) (disk : Disk D) (old new : Whole) (c : Command)
    (x y : List (Pair D)) where
  came_grows : (result : Result Answer Refusal) → ComesTo tells keep disk old c result new x y
      → (IsErrOf result refusal.Memory → CutOn tells keep disk c old new x y) → Grows 2 0 old new
  came_grows (Ok answer) is cut = (plan_grows tells disk.tells c).does old (Ok answer) _ is.does
  came_grows (Err refusal.Memory) is cut = (plan_grows tells ⊥ c).part old _ (cut refl).cut
  came_grows (Err r) is cut = (plan_grows tells disk.tells c).does old (Err r) _ is.does

  pub comes_foreseen : (result : Result Answer Refusal) → ComesTo tells keep disk old c result new x y
      → (IsErrOf result refusal.Memory → CutOn tells keep disk c old new x y) → IsWorld new
      → foreseen new ≤ foreseen old + most_unforeseen
  comes_foreseen result is cut world = let grows = came_grows result is cut in omega (arith, grows.few, world.within)
