use Rattle.std.proofs.Common.{◌≡◌, ℕ, Err, Result, refl}
use Rattle.std.specs.Prelude.{Vec}
use Rattle.std.specs.declared.alloc.Global.{Global}
use Rattle.std.proofs.lemmas.Result.{err_from_is_err_and}
use Rattle.ficus_disk.specs.declared.disk.Disk.{Ghosts as Disk}
use Rattle.ficus_disk.specs.declared.pair.Pair.{Pair}
use Rattle.ficus_ids.specs.declared.refusal.Refusal.{Refusal}
use Rattle.ficus_ids.specs.declared.refusal.Refusal.TheVariants.{Memory}
use Rattle.ficus_keeper.specs.declared.keep.Keep.{Ghosts as Keep}
use Rattle.ficus_runs.specs.Run.{OnlyLooks}
use Rattle.ficus_runs.specs.Sequence.{Effect, NothingDone}
use Rattle.ficus_script.specs.declared.answer.Answer.{Answer}
use Rattle.ficus_script.specs.declared.command.Command.{Command}
use Rattle.ficus_script.specs.declared.command.Command.TheVariants as command
use Rattle.ficus_world.specs.Acts.{Acts}
use Rattle.ficus_world.specs.Calls.{DoesAll}
use Rattle.ficus_world.specs.Disks.{IsBacked}
use Rattle.ficus_world.specs.Kills.{IsDeedOf}
use Rattle.ficus_world.specs.Kills.Touches.{TouchesNone}
use Rattle.ficus_world.specs.Moves.{CutShort}
use Rattle.ficus_world.specs.Stepped.{ComesTo}
use Rattle.ficus_world.specs.World.{Backed, Whole}
use Rattle.ficus_world.proofs.Carrying.{comes_to}
use Rattle.ficus_world.proofs.Moved.{comes_to_none, same_refusal}
use Rattle.ficus_world.proofs.Pulling.{ask_carried, ask_uncarried, cut_none, stays}
use Rattle.ficus_world.proofs.Passing.{comes}
use Rattle.ficus_world.proofs.Kills.{touches_others}
use Rattle.ficus_world.proofs.Sparing.{spared_none}
use Rattle.ficus_world.proofs.Acting.{acts_done, acts_idle, acts_once, acts_refused}
use Rattle.ficus_world.proofs.world.World.carry_out.Goals as goal

module _ {K D : Type 0} {tells : Type 0} {keep : Keep K} {disk : Disk D} {what : Command}
    {result : Result Answer Refusal} {old : Backed K} {was : Vec (Pair D) Global}
    (cut : (left : Effect Whole) → NothingDone old.whole left → CutShort tells what old.whole left) where
  -- a command is one action
  once : {most : ℕ} {new : Backed K} {now : Vec (Pair D) Global} → IsDeedOf what what → (OnlyLooks what → ⊥)
      → ((by : ℕ) → what ≡ command.Restart by → ⊥)
      → ComesTo tells keep disk old.whole what result new.whole was.items now.items
      → Acts keep disk most result old new was.items now.items
      → DoesAll tells keep disk what result old new was now
  once own no_look no_restart moves acts = record {
    moves = moves;
    memory = λ is. cut_none tells keep disk what _ _ cut (acts.memory is);
    unsaved = λ looks. absurd (no_look looks);
    touches = λ single. acts.touches;
    spared = λ single unopened same. acts.spared same;
    unwritten = λ by is. absurd (no_restart by is);
    left = λ told by is. absurd (no_restart by is);
    acts = acts_once acts (λ before after. comes before after acts.touches what own result
        (λ unopened same. acts.spared same) moves acts.memory);
  }

  -- or only looks
  looked : ((by : ℕ) → what ≡ command.Restart by → ⊥)
      → ComesTo tells keep disk old.whole what result old.whole was.items was.items
      → IsBacked keep disk old was.items → DoesAll tells keep disk what result old old was was
  looked no_restart moves backed = record {
    moves = moves;
    memory = λ is. cut_none tells keep disk what _ _ cut (stays was.items refl);
    unsaved = λ only. (refl, refl);
    touches = λ single. TouchesNone;
    spared = λ single unopened same. spared_none disk was.items;
    unwritten = λ by is. absurd (no_restart by is);
    left = λ told by is. absurd (no_restart by is);
    acts = acts_idle backed;
  }

pub returns-in-Change : goal.returns-in-Change
returns-in-Change g c =
    rw c.in-Change.is
    (once (λ left done. done) refl (λ looks. looks) (λ by is. absurd (cc)) c.change.ensures.moves c.change.ensures.acts)

pub returns-in-Look : goal.returns-in-Look
returns-in-Look g c =
    rw c.in-Look.is
    (looked (λ left done. done) (λ by is. absurd (cc))
    (comes_to_none g.L.Link.tells g.K.Keep g.D.Disk c.args.self.now.whole (command.Look c.in-Look.by c.in-Look.look)
    c.look.result c.args.disks.now.items c.look.ensures) c.requires.backed)

pub returns-in-Alike : goal.returns-in-Alike
returns-in-Alike g c =
    rw c.in-Alike.is
    (looked (λ left done. done) (λ by is. absurd (cc))
    (comes_to_none g.L.Link.tells g.K.Keep g.D.Disk c.args.self.now.whole (command.Alike c.in-Alike.by c.in-Alike.other)
    c.alike.result c.args.disks.now.items c.alike.ensures) c.requires.backed)

pub returns-in-Collect : goal.returns-in-Collect
returns-in-Collect g c =
    rw c.in-Collect.is
    (once (λ left done. done) refl (λ looks. looks) (λ by is. absurd (cc)) c.collect.ensures.moves
    c.collect.ensures.acts)

pub returns-in_err-ask-in-Ask : goal.returns-in_err-ask-in-Ask
returns-in_err-ask-in-Ask g c =
    let refused = err_from_is_err_and c.from_residual.result c.from_residual.ensures.1 in
    let r = c.in_err-ask-in-Ask.field-0.0 in
    let old = c.args.self.now.whole in
    let fails = c.in_err-ask-in-Ask.ensures in
    rw (c.in-Ask.is, refused.1, refused.2)
    (once (λ left done. done) refl (λ looks. looks) (λ by is. absurd (cc))
    (comes_to old (command.Ask c.in-Ask.by c.in-Ask.to) (Err r) c.ask.new.self.whole c.args.disks.now.items
    c.ask.new.disks.items
    (ask_uncarried g.L.Link.tells g.K.Keep g.D.Disk c.in-Ask.by c.in-Ask.to r old c.ask.new.self.whole
    c.args.disks.now.items c.ask.new.disks.items fails.asks) (λ is. fails.wants (same_refusal r Memory is)))
    (acts_refused r fails.acts))

pub returns-in_ok-ask-in-Ask : goal.returns-in_ok-ask-in-Ask
returns-in_ok-ask-in-Ask g c =
    let old = c.args.self.now.whole in
    let done = c.in_ok-ask-in-Ask.ensures in
    rw c.in-Ask.is
    (once (λ left done. done) refl (λ looks. looks) (λ by is. absurd (cc))
    (comes_to old (command.Ask c.in-Ask.by c.in-Ask.to) _ c.ask.new.self.whole c.args.disks.now.items
    c.ask.new.disks.items
    (ask_carried g.L.Link.tells g.K.Keep g.D.Disk c.in-Ask.by c.in-Ask.to c.in_ok-ask-in-Ask.field-0 old
    c.ask.new.self.whole c.args.disks.now.items c.ask.new.disks.items done.asks) (λ is. absurd (cc)))
    (acts_done done.acts))

pub returns-in-Give : goal.returns-in-Give
returns-in-Give g c =
    rw c.in-Give.is
    (once (λ left done. done) refl (λ looks. looks) (λ by is. absurd (cc))
    (comes_to c.args.self.now.whole (command.Give c.in-Give.mail) c.give.result c.give.new.self.whole
    c.args.disks.now.items c.give.new.disks.items c.give.ensures.gives c.give.ensures.wants) c.give.ensures.acts)

pub returns-in-Pull : goal.returns-in-Pull
returns-in-Pull g c = rw c.in-Pull.is c.pull.ensures

pub returns-in-Restart : goal.returns-in-Restart
returns-in-Restart g c =
    let restarts = c.restart.ensures in
    let what = command.Restart c.in-Restart.by in
    rw c.in-Restart.is
    (record {
      moves = restarts.moves;
      memory = λ is.
          cut_none g.L.Link.tells g.K.Keep g.D.Disk what _ _ (λ left done. done) (restarts.memory is);
      unsaved = λ looks. absurd looks;
      touches = λ single. restarts.touches;
      spared = λ single unopened same. restarts.spared unopened;
      unwritten = λ by is. restarts.rests;
      left = λ told by is. restarts.left told;
      acts = record {
        members = restarts.members;
        passes = λ before after.
            comes before after restarts.touches what refl c.restart.result (λ unopened same. restarts.spared unopened)
            restarts.moves restarts.memory;
        others = touches_others restarts.touches;
        backed = restarts.backed;
      };
    })

pub returns-in-Stop : goal.returns-in-Stop
returns-in-Stop g c =
    rw c.in-Stop.is
    (once (λ left done. done) refl (λ looks. looks) (λ by is. absurd (cc)) c.stop.ensures.moves c.stop.ensures.acts)
