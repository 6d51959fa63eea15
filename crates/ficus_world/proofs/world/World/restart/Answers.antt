use Rattle.std.proofs.Common.{◌≡◌, ◌-◌, ◌++◌, Err, List, length, refl, sym, ap, ap₂, subst, ◌∙◌, arith}
use Rattle.std.specs.Prelude.{slice_set}
use Rattle.std.proofs.lemmas.List.{append-nil}
use Rattle.std.proofs.lemmas.Result.{err_from_is_err_and}
use Rattle.ficus_ids.specs.Members.{IsMember}
use Rattle.ficus_ids.specs.declared.refusal.Refusal.TheVariants as refusal
use Rattle.ficus_model.specs.declared.event.Event.{Event}
use Rattle.ficus_script.specs.declared.command.Command.TheVariants.{Restart as Restarts}
use Rattle.ficus_runs.specs.Sequence.First.{Ends}
use Rattle.ficus_opening.specs.declared.member.Member.{Member}
use Rattle.ficus_world.specs.Disks.{CarriedOn, IsBacked}
use Rattle.ficus_world.specs.Moves.{CarriesOut}
use Rattle.ficus_world.specs.Moves.FindsMember.{FindsNone}
use Rattle.ficus_world.specs.Stepped.{ComesTo}
use Rattle.ficus_world.specs.World.{Backed, backed_by, IsWorld, Whole, whole_of}
use Rattle.ficus_world.proofs.Carrying.{comes_to, whole_is}
use Rattle.ficus_world.proofs.Disks.{follows_alike}
use Rattle.ficus_world.proofs.Moved.{comes_to_none}
use Rattle.ficus_world.proofs.Tests.{untrue}
use Rattle.ficus_world.proofs.Restarting.{back_after, back_count, back_same, back_world, has_come_back, restart_carried, set_own}
use Rattle.ficus_world.specs.Kills.Touches.{TouchesNone, TouchesOne}
use Rattle.ficus_opening.proofs.Openings.{pairs_of}
use Rattle.ficus_opening.proofs.Others.{left_none}
use Rattle.ficus_world.specs.Calls.{Restarts as Does}
use Rattle.ficus_opening.proofs.Rests.{all_rest_none, rests_count}
use Rattle.ficus_world.proofs.Pulling.{stays}
use Rattle.ficus_world.proofs.Sparing.{rest_at, spared_none}
use Rattle.ficus_world.proofs.world.World.restart.Goals as goal

pub returns-then-not-has : goal.returns-then-not-has
returns-then-not-has g c =
    let none = subst (λ (w : Whole). IsMember (length w.members) c.args.by → ⊥) (whole_is c.self.view_is)
    (untrue c.has.result c.has.ensures c.if-not-has.true) in
    record {
      moves =
          comes_to_none g.L.Link.tells g.K.Keep g.D.Disk c.args.self.now.whole (Restarts c.args.by) (Err refusal.Member)
          c.args.disks.now.items (Ends (FindsNone none));
      members = refl;
      memory = λ is. stays c.args.disks.now.items refl;
      touches = TouchesNone;
      spared = λ none. spared_none g.D.Disk c.args.disks.now.items;
      rests = all_rest_none g.D.Disk c.args.disks.now.items;
      backed = c.requires.backed;
      left = λ told. left_none g.D.Disk.seen g.D.Disk.may_leave (g.met.D.Disk.seen_may_be_left told) c.args.disks.now.items;
    }

pub returns-in_err-reserve : goal.returns-in_err-reserve
returns-in_err-reserve g c =
    let wanted = err_from_is_err_and c.from_residual.result c.from_residual.ensures.1 in
    let x = c.args.disks.now.items in
    let member = subst (λ (w : Whole). IsMember (length w.members) c.args.by) (whole_is c.self.view_is)
    (c.has.ensures.0 c.if-not-has.false) in
    let does : Does g.L.Link.tells g.K.Keep g.D.Disk c.args.by (Err refusal.Memory) c.args.self.now c.args.self.now x x =
    record {
      moves =
          comes_to_none g.L.Link.tells g.K.Keep g.D.Disk c.args.self.now.whole (Restarts c.args.by) (Err refusal.Memory) x
          member;
      members = refl;
      memory = λ is. stays x refl;
      touches = TouchesNone;
      spared = λ none. spared_none g.D.Disk x;
      rests = all_rest_none g.D.Disk x;
      backed = c.requires.backed;
      left = λ told. left_none g.D.Disk.seen g.D.Disk.may_leave (g.met.D.Disk.seen_may_be_left told) x;
    } in
    rw (wanted.1, wanted.2, c.in_err-reserve.ensures.events)
    (subst (λ i. Does g.L.Link.tells g.K.Keep g.D.Disk c.args.by (Err refusal.Memory) c.args.self.now
    (backed_by i.group i.stables.items) x x) (sym c.self-inside.view_is)
    (subst (λ (b : Backed _). Does g.L.Link.tells g.K.Keep g.D.Disk c.args.by (Err refusal.Memory) c.args.self.now b x x)
    (sym c.self.view_is) does))

pub invariant_of-self-inside-2 : goal.invariant_of-self-inside-2
invariant_of-self-inside-2 g c =
    back_world
    (has_come_back (ap (λ i. i.group) c.self-inside.view_is) (c.has.ensures.0 c.if-not-has.false)
    c.in_ok-reserve.ensures.events c.come_back.ensures) c.reopen_at-read.ensures.fits c.self-inside.invariant

pub invariant_of-self-2 : goal.invariant_of-self-2
invariant_of-self-2 g c =
    let back = has_come_back (ap (λ i. i.group) c.self-inside.view_is) (c.has.ensures.0 c.if-not-has.false)
    c.in_ok-reserve.ensures.events c.come_back.ensures in
    let counts = subst (λ i. length i.stables.items ≡ length i.group.members) (sym c.self-inside.view_is)
    c.self.invariant in
    c.reopen_at-read.ensures.count ∙ counts ∙ sym (back_count back)

pub returns : goal.returns
returns g c =
    let by = c.args.by in
    let tells = g.L.Link.tells in
    let x = c.args.disks.now.items in
    let y = c.reopen_at-read.new.disks.items in
    let inside = c.self-inside.inside.0.0 in
    let old = whole_of inside.members.items inside.history.events inside.post.now in
    let same : old ≡ c.self.inside.group = ap (λ i. i.group) c.self-inside.view_is in
    let back = has_come_back same (c.has.ensures.0 c.if-not-has.false) c.in_ok-reserve.ensures.events
    c.come_back.ensures in
    let world : IsWorld old = c.self-inside.invariant in
    let sound = world.sound by back.was back.is in
    let member = back.is.member in
    let backed = subst (λ i. IsBacked g.K.Keep g.D.Disk (backed_by i.group i.stables.items) x)
    (sym c.self-inside.view_is) (rw (← c.self.view_is) at c.requires.backed) in
    let counts = subst (λ i. length i.stables.items ≡ length i.group.members) (sym c.self-inside.view_is)
    c.self.invariant in
    let own = pairs_of g.K.Keep g.D.Disk old.members _ x counts backed.disks in
    let within : IsMember (length x) by =
    record { at_least = member.at_least; at_most = omega (arith, member.at_most, backed.pairs) } in
    let moves = restart_carried tells g.K.Keep g.D.Disk old by back.was back.is sound x y within
    c.reopen_at-read.ensures.follows c.reopen_at-read.result c.come_back.result back.now back.stored
    c.reopen_at-read.ensures.fits
    (λ told. c.reopen_at-read.ensures.read told _ _ old.members back.was
    (record { is = back.is; sound = sound; pairs = own }))
    (λ fused told F stand. c.reopen_at-read.ensures.by_fuse fused told _ _ old.members back.was F
    (record { is = back.is; sound = sound; pairs = own }) stand) c.reopen_at-read.ensures.never
    c.reopen_at-read.ensures.opened back.comes in
    let is : old ≡ c.args.self.now.whole = same ∙ whole_is c.self.view_is in
    let counted = back_count back in
    let members = counted ∙ ap (λ (w : Whole). length w.members) is in
    let pairs = rests_count c.reopen_at-read.ensures.rests in
    record {
      moves =
          subst (λ (w : Whole). ComesTo tells g.K.Keep g.D.Disk c.args.self.now.whole (Restarts by) c.come_back.result w x y)
          (ap₂ (λ (members : List Member) (events : List Event). whole_of members events old.post) (sym back.set)
          (sym back.happened))
          (comes_to c.args.self.now.whole (Restarts by) c.come_back.result _ x y
          (subst (λ (w : Whole). CarriedOn g.K.Keep g.D.Disk (CarriesOut tells g.D.Disk.tells (Restarts by))
          c.come_back.result w (whole_of (slice_set old.members (by - 1) back.now) (old.events ++ back.stored) old.post) x y)
          is moves)
          (λ e. subst (λ (w : Whole). IsMember (length w.members) by) is member));
      members = members;
      memory = λ e.
          let stays = back_same by back.was c.reopen_at-read.result c.come_back.result back.now back.stored back.comes e
          in
          let list = back.set ∙ ap (λ (m : Member). slice_set old.members (by - 1) m) stays.0
          ∙ set_own old.members by back.was back.is in
          let events = back.happened ∙ ap (λ (stored : List Event). old.events ++ stored) stays.1
          ∙ append-nil old.events in
          record {
            same =
                ap₂ (λ (members : List Member) (events : List Event). whole_of members events old.post) list events ∙ is;
            disks = follows_alike (λ r. refl) (λ r. refl) c.reopen_at-read.ensures.follows;
          };
      touches = TouchesOne (subst (λ (w : Whole). IsMember (length w.members) by) is member)
          c.reopen_at-read.ensures.rests;
      spared = λ none. absurd (none (subst (λ (w : Whole). IsMember (length w.members) by) is member));
      rests = rest_at g.D.Disk c.reopen_at-read.ensures.rests;
      backed = record {
        pairs = omega (arith, counted, backed.pairs, pairs);
        disks = c.reopen_at-read.ensures.disks old.members c.come_back.new.members.items
            (record {
              was = back.was;
              is = back.is;
              now = back.now;
              after =
                  back_after by back.was c.reopen_at-read.result c.come_back.result back.now back.stored back.comes;
              set = back.set;
            }) backed.disks;
      };
      left = c.reopen_at-read.ensures.left;
    }

pub reopen_at-read-requires-clause-pair : goal.reopen_at-read-requires-clause-pair
reopen_at-read-requires-clause-pair g c =
    let member = subst (λ (w : Whole). IsMember (length w.members) c.args.by) (whole_is c.self.view_is)
    (c.has.ensures.0 c.if-not-has.false) in
    record { at_least = member.at_least; at_most = omega (arith, member.at_most, c.requires.backed.pairs) }
