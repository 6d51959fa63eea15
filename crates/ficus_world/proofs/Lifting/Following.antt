-- What a command does to a world that stands for one of the model, it does to that one.
use Rattle.std.proofs.Common.{◌≡◌, ℕ, true, false, List, [], ◌∷◌, ◌++◌, length, Result, Ok, Err, Some, None, refl, sym, ap, subst, ◌∙◌, inl, inr}
use Rattle.ficus_ids.specs.Members.{IsMember}
use Rattle.ficus_ids.specs.declared.refusal.Refusal.{Refusal}
use Rattle.ficus_ids.specs.declared.refusal.Refusal.TheVariants as refusal
use Rattle.ficus_model.specs.declared.event.Event.{Event}
use Rattle.ficus_model.specs.declared.event.Event.TheVariants as event
use Rattle.ficus_model.specs.declared.event.Op.{Op}
use Rattle.ficus_model.specs.Lawful.{Volume, IsLawful}
use Rattle.ficus_laws.specs.Updates.{next_number}
use Rattle.ficus_commands.specs.declared.change.Change.{Change}
use Rattle.ficus_commands.specs.declared.look.Look.{Look}
use Rattle.ficus_deciding.specs.View.{tables_view}
use Rattle.ficus_rules.specs.Change.{ChangeRule}
use Rattle.ficus_rules.specs.Look.{LookRule}
use Rattle.ficus_rules.specs.Rule.{RefusesNothing}
use Rattle.ficus_rules.specs.View.{history_view}
use Rattle.ficus_rules.proofs.Changes.{change_along, may_there}
use Rattle.ficus_rules.proofs.Looks.{look_along}
use Rattle.ficus_rules.proofs.Views.{view_back}
use Rattle.ficus_replica.specs.declared.collect.Collected.{Collected}
use Rattle.ficus_replica.specs.declared.replica.Replica.{Replica}
use Rattle.ficus_replica.specs.Change.{ChangedAfter}
use Rattle.ficus_replica.specs.Collect.{CollectGives, CollectStands, Garbage}
use Rattle.ficus_replica.specs.Effect.{Applied, next_id}
use Rattle.ficus_replica.specs.SavedOf.{StandsFor}
use Rattle.ficus_replica.proofs.Changing.{changed_after}
use Rattle.ficus_replica.proofs.Collects.{collect_gives_stands}
use Rattle.ficus_replica.proofs.Views.{stands_same}
use Rattle.ficus_script.specs.declared.command.Command.{Command}
use Rattle.ficus_script.specs.declared.command.Command.TheVariants as command
use Rattle.ficus_script.specs.declared.answer.Answer.{Answer}
use Rattle.ficus_script.specs.declared.answer.Answer.TheVariants.{Mail}
use Rattle.ficus_runs.specs.Actions.{AtMember, AtPeers, Updates, Opens, with_event, with_standing, down_from, restarted as restarted_model}
use Rattle.ficus_runs.specs.Actions.Saves.{Saved, NotSaved}
use Rattle.ficus_runs.specs.Actions.Opens.{Opened, Found, NotOpened}
use Rattle.ficus_runs.specs.Actions.Arms.{Armed}
use Rattle.ficus_runs.specs.Answers.{answer_to, LookAnswer}
use Rattle.ficus_runs.specs.ModelWorld.{ModelWorld, Standing, IsUp, IsFused}
use Rattle.ficus_runs.specs.ModelWorld as model
use Rattle.ficus_runs.specs.Numbered.{IsNumbered}
use Rattle.ficus_runs.specs.Outcome.{Outcome, AllDone, IsSaved}
use Rattle.ficus_runs.specs.Peers.{ArePeers}
use Rattle.ficus_runs.specs.Run.{CommandMayWantMemory, Does, DoesPart}
use Rattle.ficus_runs.specs.Exchange.{Asks, GivesEach, GivesMail, GivesSome, mails_of}
use Rattle.ficus_runs.specs.Sequence.{CutFirst, Effect, First, NothingDone, unchanged}
use Rattle.ficus_runs.specs.Sequence.CutFirst.{InFirst, InRest}
use Rattle.ficus_runs.specs.Sequence.ByRule.{Says}
use Rattle.ficus_runs.specs.Sequence.First.{Ends, Goes}
use Rattle.ficus_opening.specs.declared.member.Member.{Member}
use Rattle.ficus_opening.specs.declared.member.MemberState.TheVariants as state
use Rattle.ficus_world.specs.Follows.{FollowsIn, FollowsPart, Follows, TellsFor}
use Rattle.ficus_world.specs.Moves.{TablesMayWantMemory, KeepsAsk, KeepsCollection, KeepsUpdate, GivesMessage, GivesMessages, GivesSomeMessages, Reopens, CarriesOut, CutShort, Moves}
use Rattle.ficus_world.specs.Moves.ArmsDisks.{Arms as ArmsIn, ArmsNone}
use Rattle.ficus_world.specs.Moves.FindsMember.{Finds, FindsNone}
use Rattle.ficus_world.specs.Moves.FindsPeers.{FindsBoth, FindsNoPeers, FindsOneDown}
use Rattle.ficus_world.specs.Moves.FindsUp.{FindsAt, FindsNoneAt, FindsDown}
use Rattle.ficus_world.specs.Moves.KeepsCollection.{Collects, CollectsNot}
use Rattle.ficus_world.specs.Moves.KeepsUpdate.{Keeps, KeepsNot}
use Rattle.ficus_world.specs.Moves.Reopens.{ReopenedAsWas, ReopenedAsPending, NotReopened, NoImageFound}
use Rattle.ficus_world.specs.World.{Whole, IsUpIn, WorldStandsFor}
use Rattle.ficus_runs.proofs.Agreement.{alike_answer_along, look_answer_along}
use Rattle.ficus_world.proofs.Lifting.Exchanging.{ask_lifts, give_lifts, gives_each_lift, gives_some_lift}
use Rattle.ficus_world.proofs.Lifting.Lifts.{one_stored, two_stored, Lifts, CutLifts, first_lifts, cut_lifts, gives_lifts, nothing_lifts, part_first, stays}
use Rattle.ficus_world.proofs.Lifting.Outcomes.{steady_caused}
use Rattle.ficus_world.proofs.Lifting.Pending.{comes_now, pending_comes}
use Rattle.ficus_world.proofs.Lifting.Standing.{Comes, member_of, member_from, member_stands, standing_of, fuses_of, fuses_stand, raise, replica_stands, up_in, up_from, saved_stands, unsaved_stands, unopened_stands, reopened_stands, found_reopened_stands}

module _ (volume : Volume) (W : ModelWorld) (old : Whole) (stands : WorldStandsFor volume W old) where
  pub at_member : (by : ℕ) (member : Member) → IsNumbered old.members by member → member.state ≡ state.Up
      → AtMember volume by W (Ok tt) (unchanged W)
  at_member by member is up =
      Goes (Says (member_of volume W old stands by is.member, refl))
      (Says (up_in volume W old stands by member is up, refl))

  pub at_none : (by : ℕ) → (IsMember (length old.members) by → ⊥) → AtMember volume by W (Err refusal.Member) (unchanged W)
  at_none by none = Ends (Says (inl ((λ member. none (member_from volume W old stands by member)), refl)))

  pub at_down : (by : ℕ) (member : Member) → IsNumbered old.members by member → (member.state ≡ state.Up → ⊥)
      → AtMember volume by W (Err refusal.Down) (unchanged W)
  at_down by member is down =
      Goes (Says (member_of volume W old stands by is.member, refl))
      (Says (inl (λ up. down (up_from volume W old stands by member is up), refl)))

  module _ (by : ℕ) (member : Member) (is : IsNumbered old.members by member) (up : member.state ≡ state.Up) where
    -- the number of the update is that in the code
    numbered : (op : Op) → Updates by op W (Ok (answer_to (next_id member.replica.saved) op))
        (record { outcomes = IsSaved by ∷ []; after = with_event W (event.Update by op) })
    numbered op =
        let saved = (replica_stands volume W old stands by member is).saved in
        let number : next_id member.replica.saved ≡ next_number by W.events =
        λ i. record { replica = saved.me i; number = saved.next i } in
        subst (λ n. Updates by op W (Ok (answer_to n op))
        (record { outcomes = IsSaved by ∷ []; after = with_event W (event.Update by op) })) (sym number) Saved

    module _ (change : Change) (op : Op) (next : Replica)
        (decided : ChangeRule (tables_view member.replica.saved) change (Ok op))
        (applied : Applied member.replica.saved op next.saved) (ask : next.ask ≡ member.replica.ask) where
      -- what the change gives, whatever comes before it
      changed_later : (H : List Event) → IsLawful volume H → StandsFor volume H by member.replica
          → ChangedAfter volume H by change (record { replica = next; op = op })
      changed_later H lawful here =
          changed_after lawful stands.count.at_least here change (record { replica = next; op = op })
          (record { answer = decided; applied = applied; ask = ask })

      update_comes : Comes volume W old stands by member next is up (event.Update by op) (event.Update by op) refl refl refl
      update_comes later others lawful here = (changed_later (W.events ++ later) lawful here).after

      update_decided : ChangeRule (history_view volume W.events by) change (Ok op)
      update_decided = (changed_later W.events stands.lawful (replica_stands volume W old stands by member is)).answer

    -- the change is saved, or pending
    follow_update : (change : Change) (op : Op) → ChangeRule (tables_view member.replica.saved) change (Ok op)
        → (result : Result Answer Refusal) (left : Effect Whole) → KeepsUpdate by member op old result left
        → FollowsIn volume W old (Does volume (command.Change by change)) result left
    follow_update change op decided result left (Keeps {new = next} applied ask) = record {
      after = with_event W (event.Update by op);
      does =
          Goes (at_member by member is up)
          (Goes (Says (update_decided change op next decided applied ask)) (numbered op));
      caused = steady_caused old.post.faults;
      stored = one_stored W.events old.events (event.Update by op) (event.Update by op);
      stands =
          saved_stands volume W old stands by member next is up (event.Update by op) (event.Update by op) refl refl
          refl (update_comes change op next decided applied ask);
    }
    follow_update change op decided result left (KeepsNot {new = next} applied ask) = record {
      after = with_standing W by (model.Down (Some (event.Update by op)));
      does =
          Goes (at_member by member is up)
          (Goes (Says (update_decided change op next decided applied ask)) NotSaved);
      caused = steady_caused old.post.faults;
      stored = refl;
      stands =
          unsaved_stands volume W old stands by member next is up (event.Update by op) (event.Update by op) refl refl
          refl (update_comes change op next decided applied ask);
    }

    -- what a collection gives of what the member holds, it gives after what has happened, whatever others do meanwhile
    collected_stands : (H : List Event) → IsLawful volume H → StandsFor volume H by member.replica → (given : Collected)
        → CollectGives member.replica given → CollectStands volume H by given
    collected_stands H lawful here given gives =
        let me = here.saved.me in
        subst (λ n. CollectStands volume H n given) me
        (collect_gives_stands member.replica given gives volume H lawful
        (subst (λ n. StandsFor volume H n member.replica) (sym me) here))

    collection_comes : (given : Collected) → CollectGives member.replica given
        → Comes volume W old stands by member given.replica is up (event.Collect by) (event.Collect by) refl refl refl
    collection_comes given gives later others lawful here =
        (collected_stands (W.events ++ later) lawful here given gives).after

    -- where the member collects, it does so in the model too
    collection_follows : (result : Result Answer Refusal) (left : Effect Whole)
        → KeepsCollection by member old result left
        → FollowsIn volume W old (Does volume (command.Collect by)) result left
    collection_follows result left (Collects {given = given} gives) =
        let here = replica_stands volume W old stands by member is in
        let now = collected_stands W.events stands.lawful here given gives in
        let garbage : Garbage = record { entries = given.entries; objects = given.files } in
        record {
          after = with_event W (event.Collect by);
          does = Goes (at_member by member is up) (Goes (Says (garbage, now.garbage, refl)) Saved);
          caused = steady_caused old.post.faults;
          stored = one_stored W.events old.events (event.Collect by) (event.Collect by);
          stands =
              saved_stands volume W old stands by member given.replica is up (event.Collect by) (event.Collect by) refl
              refl refl (collection_comes given gives);
        }
    collection_follows result left (CollectsNot {given = given} gives) =
        let here = replica_stands volume W old stands by member is in
        let now = collected_stands W.events stands.lawful here given gives in
        let garbage : Garbage = record { entries = given.entries; objects = given.files } in
        record {
          after = with_standing W by (model.Down (Some (event.Collect by)));
          does = Goes (at_member by member is up) (Goes (Says (garbage, now.garbage, refl)) NotSaved);
          caused = steady_caused old.post.faults;
          stored = refl;
          stands =
              unsaved_stands volume W old stands by member given.replica is up (event.Collect by) (event.Collect by)
              refl refl refl (collection_comes given gives);
        }

  follow_change : (tells disks_tell : Type 0) (by : ℕ) (change : Change) (result : Result Answer Refusal)
      (left : Effect Whole) → CarriesOut tells disks_tell (command.Change by change) old result left
      → FollowsIn volume W old (Does volume (command.Change by change)) result left
  follow_change tells disks_tell by change result left (Ends (FindsNoneAt none)) =
      stays volume W old stands (Ends (at_none by none))
  follow_change tells disks_tell by change result left (Ends (FindsDown {member = member} is down)) =
      stays volume W old stands (Ends (at_down by member is down))
  follow_change tells disks_tell by change result left
      (Goes (FindsAt {member = member} is up) (Ends {refusal = refusal} (Says refused))) =
      let same = stands_same stands.lawful (replica_stands volume W old stands by member is).saved in
      stays volume W old stands
      (Goes (at_member by member is up) (Ends (Says (change_along same change (Err refusal) refused))))
  follow_change tells disks_tell by change result left
      (Goes (FindsAt {member = member} is up) (Goes {a = op} {left = last} (Says decided) keeps)) =
      follow_update by member is up change op decided result last keeps

  follow_look : (tells disks_tell : Type 0) (by : ℕ) (look : Look) (result : Result Answer Refusal)
      (left : Effect Whole) → CarriesOut tells disks_tell (command.Look by look) old result left
      → FollowsIn volume W old (Does volume (command.Look by look)) result left
  follow_look tells disks_tell by look result left (Ends (FindsNoneAt none)) =
      stays volume W old stands (Ends (at_none by none))
  follow_look tells disks_tell by look result left (Ends (FindsDown {member = member} is down)) =
      stays volume W old stands (Ends (at_down by member is down))
  follow_look tells disks_tell by look result left (Goes (FindsAt {member = member} is up) (Says answer)) =
      let same = stands_same stands.lawful (replica_stands volume W old stands by member is).saved in
      stays volume W old stands (Goes (at_member by member is up) (Says (look_answer_along same look result answer)))

  follow_collect : (tells disks_tell : Type 0) (by : ℕ) (result : Result Answer Refusal) (left : Effect Whole)
      → CarriesOut tells disks_tell (command.Collect by) old result left
      → FollowsIn volume W old (Does volume (command.Collect by)) result left
  follow_collect tells disks_tell by result left (Ends (FindsNoneAt none)) =
      stays volume W old stands (Ends (at_none by none))
  follow_collect tells disks_tell by result left (Ends (FindsDown {member = member} is down)) =
      stays volume W old stands (Ends (at_down by member is down))
  follow_collect tells disks_tell by result left (Goes {left = last} (FindsAt {member = member} is up) keeps) =
      collection_follows by member is up result last keeps

  -- what a restart finds, over disks that tell what they hold
  follow_opening : (disks_tell : Type 0) → disks_tell → (by : ℕ) (was : Member) (is : IsNumbered old.members by was)
      (result : Result Answer Refusal) (left : Effect Whole) → Reopens disks_tell by was old result left
      → FollowsIn volume W old (Opens volume by) result left
  follow_opening disks_tell told by was is result left (ReopenedAsWas {read = read} reads) =
      let standing = standing_of volume W old stands by is.member in
      record {
        after = restarted_model W by None;
        does = Opened standing.1;
        caused = steady_caused old.post.faults;
        stored = one_stored W.events old.events (event.Restart by) (event.Restart by);
        stands = reopened_stands volume W old stands by was is read (reads.told told);
      }
  follow_opening disks_tell told by was is result left
      (ReopenedAsPending {pending = pending} {read = read} down reads) =
      let standing = standing_of volume W old stands by is.member in
      let waits = pending_comes volume W.events (raise volume W old stands) by was.state standing.0 pending
      (member_stands volume W old stands by was is standing.0 standing.1) down in
      record {
        after = restarted_model W by (Some waits.0);
        does = Found (subst (IsNumbered W.standings by) waits.1 standing.1)
            (comes_now volume W.events (raise volume W old stands) by pending waits.0 stands.lawful waits.2).lawful;
        caused = steady_caused old.post.faults;
        stored =
            two_stored W.events old.events waits.0 (event.Restart by) pending.event (event.Restart by);
        stands =
            found_reopened_stands volume W old stands by was is pending waits.0 waits.2 read (reads.told told);
      }
  follow_opening disks_tell told by was is result left NotReopened =
      let standing = standing_of volume W old stands by is.member in
      record {
        after = with_standing W by (down_from standing.0);
        does = NotOpened standing.1;
        caused = steady_caused old.post.faults;
        stored = refl;
        stands = unopened_stands volume W old stands by was standing.0 is standing.1;
      }
  follow_opening disks_tell told by was is result left (NoImageFound untold) = absurd (untold told)

  follow_restart : (tells disks_tell : Type 0) → disks_tell → (by : ℕ) (result : Result Answer Refusal)
      (left : Effect Whole) → CarriesOut tells disks_tell (command.Restart by) old result left
      → FollowsIn volume W old (Does volume (command.Restart by)) result left
  follow_restart tells disks_tell told by result left (Ends (FindsNone none)) =
      stays volume W old stands
      (Ends (Says (inl ((λ member. none (member_from volume W old stands by member)), refl))))
  follow_restart tells disks_tell told by result left (Goes {left = last} (Finds {member = was} is) reopens) =
      let follows = follow_opening disks_tell told by was is result last reopens in
      record {
        after = follows.after;
        does = Goes (Says (member_of volume W old stands by is.member, refl)) follows.does;
        caused = follows.caused;
        stored = follows.stored;
        stands = follows.stands;
      }

  -- a member without a fuse has none in the model
  no_fuse : (by : ℕ) (was : Member) → IsNumbered old.members by was → was.fused ≡ false → IsFused by W → ⊥
  no_fuse by was is none fused =
      let same = sym none ∙ fuses_stand volume W old stands by was is true fused in absurd (cc)

  follow_stop : (tells disks_tell : Type 0) (by calls pick : ℕ) (result : Result Answer Refusal) (left : Effect Whole)
      → CarriesOut tells disks_tell (command.Stop by calls pick) old result left
      → FollowsIn volume W old (Does volume (command.Stop by calls pick)) result left
  follow_stop tells disks_tell by calls pick result left (Ends (FindsNoneAt none)) =
      stays volume W old stands (Ends (at_none by none))
  follow_stop tells disks_tell by calls pick result left (Ends (FindsDown {member = member} is down)) =
      stays volume W old stands (Ends (at_down by member is down))
  follow_stop tells disks_tell by calls pick result left (Goes (FindsAt {member = was} is up) (ArmsIn fused)) =
      let fuses = fuses_of volume W old stands by is.member in
      record {
        after = W;
        does =
            Goes (at_member by was is up)
            (Goes (Says (
              subst (IsNumbered W.fused by)
                  (sym (fuses_stand volume W old stands by was is fuses.0 fuses.1) ∙ fused) fuses.1,
              refl,
            )) Armed);
        caused = steady_caused old.post.faults;
        stored = refl;
        stands = stands;
      }
  follow_stop tells disks_tell by calls pick result left (Goes (FindsAt {member = was} is up) (ArmsNone none)) =
      stays volume W old stands
      (Goes (at_member by was is up) (Ends {refusal = refusal.NoFuse} (Says (inl (no_fuse by was is none, refl)))))

  -- what two different members are in the model, and the other way round
  peers_of : (by other : ℕ) → ArePeers (length old.members) by other → ArePeers volume.members by other
  peers_of by other peers = record {
    first = member_of volume W old stands by peers.first;
    second = member_of volume W old stands other peers.second;
    differ = peers.differ;
  }

  peers_from : (by other : ℕ) → ArePeers volume.members by other → ArePeers (length old.members) by other
  peers_from by other peers = record {
    first = member_from volume W old stands by peers.first;
    second = member_from volume W old stands other peers.second;
    differ = peers.differ;
  }

  -- they are found up in the model where they are in the code
  at_peers : (by other : ℕ) (one two : Member) → ArePeers (length old.members) by other → IsNumbered old.members by one
      → IsNumbered old.members other two → one.state ≡ state.Up → two.state ≡ state.Up
      → AtPeers volume by other W (Ok tt) (unchanged W)
  at_peers by other one two peers is is_too up up_too =
      Goes (Says (peers_of by other peers, refl))
      (Says ((up_in volume W old stands by one is up, up_in volume W old stands other two is_too up_too), refl))

  no_peers : (by other : ℕ) → (ArePeers (length old.members) by other → ⊥)
      → AtPeers volume by other W (Err refusal.Member) (unchanged W)
  no_peers by other none = Ends (Says (inl (λ peers. none (peers_from by other peers), refl)))

  one_down : (by other : ℕ) (one two : Member) → ArePeers (length old.members) by other → IsNumbered old.members by one
      → IsNumbered old.members other two → ((one.state ≡ state.Up) × (two.state ≡ state.Up) → ⊥)
      → AtPeers volume by other W (Err refusal.Down) (unchanged W)
  one_down by other one two peers is is_too down =
      Goes (Says (peers_of by other peers, refl))
      (Says (inl (
        λ both. down (
          up_from volume W old stands by one is both.0,
          up_from volume W old stands other two is_too both.1,
        ),
        refl,
      )))

  follow_alike : (tells disks_tell : Type 0) (by other : ℕ) (result : Result Answer Refusal) (left : Effect Whole)
      → CarriesOut tells disks_tell (command.Alike by other) old result left
      → FollowsIn volume W old (Does volume (command.Alike by other)) result left
  follow_alike tells disks_tell by other result left (Ends (FindsNoPeers none)) =
      stays volume W old stands (Ends (no_peers by other none))
  follow_alike tells disks_tell by other result left
      (Ends (FindsOneDown {one = one} {two = two} peers is is_too down)) =
      stays volume W old stands (Ends (one_down by other one two peers is is_too down))
  follow_alike tells disks_tell by other result left
      (Goes (FindsBoth {one = one} {two = two} peers is is_too up up_too) (Says answer)) =
      let same = stands_same stands.lawful (replica_stands volume W old stands by one is).saved in
      let same_too = stands_same stands.lawful (replica_stands volume W old stands other two is_too).saved in
      stays volume W old stands
      (Goes (at_peers by other one two peers is is_too up up_too)
      (Says (alike_answer_along same same_too result answer)))

  -- nothing refuses a member that is up
  module _ (by : ℕ) (up : IsUp by W) (member : IsMember volume.members by) where
    pub at_refused : (refusal : Refusal) (left : Effect ModelWorld) → AtMember volume by W (Err refusal) left → ⊥
    at_refused refusal left (Ends (Says (inl refused))) = refused.0 member
    at_refused refusal left (Ends (Says (inr nothing))) = nothing.1
    at_refused refusal left (Goes (Says is) (Says (inl refused))) = refused.0 up
    at_refused refusal left (Goes (Says is) (Says (inr nothing))) = nothing.1

    -- where a member is found, nothing was done
    at_stays : (left : Effect ModelWorld) → AtMember volume by W (Ok tt) left → left ≡ unchanged W
    at_stays left (Goes (Says is) (Says also)) = refl

    -- a look is refused nowhere, where its rule refuses nothing
    look_told : (look : Look) (told : ModelWorld) → told ≡ W
        → RefusesNothing (LookRule (history_view volume W.events by) look) → (refusal : Refusal)
        → LookAnswer (history_view volume told.events by) look (Err refusal) → ⊥
    look_told look told same none refusal (inl refused) =
        none refusal
        (subst (λ (w : ModelWorld). LookRule (history_view volume w.events by) look (Err refusal)) same refused)
    look_told look told same none refusal (inr nothing) = nothing.2

    look_refused : (look : Look) → RefusesNothing (LookRule (history_view volume W.events by) look)
        → (refusal : Refusal) (left : Effect ModelWorld) → Does volume (command.Look by look) W (Err refusal) left → ⊥
    look_refused look none refusal left (Ends refused) = at_refused refusal left refused
    look_refused look none refusal left (Goes {middle = middle} at (Says told)) =
        look_told look middle.after (ap (λ (e : Effect ModelWorld). e.after) (at_stays middle at)) none refusal told

    -- a member collects without a refusal, where its save is done
    collect_done : (result : Result Answer Refusal) (refusal : Refusal) (left : Effect ModelWorld)
        → Does volume (command.Collect by) W result left → AllDone left.outcomes → result ≡ Err refusal → ⊥
    collect_done result refusal left (Ends {refusal = other} refused) done is = at_refused other left refused
    collect_done result refusal left (Goes at (Ends (Says none))) done is = none
    collect_done result refusal left (Goes (Goes (Says at) (Says up_too)) (Goes (Says counted) Saved)) done is = cc
    collect_done result refusal left (Goes (Goes (Says at) (Says up_too)) (Goes (Says counted) NotSaved)) done is =
        let first = done.0 in absurd (cc)

  -- two members are compared without a refusal
  module _ (by other : ℕ) (peers : ArePeers volume.members by other) (up : IsUp by W × IsUp other W) where
    peers_refused : (refusal : Refusal) (left : Effect ModelWorld) → AtPeers volume by other W (Err refusal) left → ⊥
    peers_refused refusal left (Ends (Says (inl refused))) = refused.0 peers
    peers_refused refusal left (Ends (Says (inr nothing))) = nothing.1
    peers_refused refusal left (Goes (Says is) (Says (inl refused))) = refused.0 up
    peers_refused refusal left (Goes (Says is) (Says (inr nothing))) = nothing.1

    alike_refused : (refusal : Refusal) (left : Effect ModelWorld)
        → Does volume (command.Alike by other) W (Err refusal) left → ⊥
    alike_refused refusal left (Ends refused) = peers_refused refusal left refused
    alike_refused refusal left (Goes at (Says none)) = none

  -- a member that is up in the code is up in the model
  is_up : (by : ℕ) → IsUpIn old by → IsUp by W
  is_up by up = up_in volume W old stands by up.member up.is up.up

  -- where the command may want memory by what the members hold, it may by what has happened
  wanted : (command : Command) → TablesMayWantMemory old command → CommandMayWantMemory volume W command
  wanted (command.Change by change) wants =
      let same = stands_same stands.lawful (replica_stands volume W old stands by wants.member wants.is).saved in (
        member_of volume W old stands by wants.is.member,
        up_in volume W old stands by wants.member wants.is wants.up,
        may_there same change wants.so,
      )
  wanted (command.Look by look) wants = λ refusal left done does.
      let same = stands_same stands.lawful (replica_stands volume W old stands by wants.member wants.is).saved in
      look_refused by (up_in volume W old stands by wants.member wants.is wants.up)
      (member_of volume W old stands by wants.is.member) look
      (λ other refused. wants.so other (look_along (view_back same) look (Err other) refused)) refusal left does
  wanted (command.Collect by) up = λ refusal left done does.
      collect_done by (is_up by up) (member_of volume W old stands by up.is.member) (Err refusal) refusal left does done
      refl
  wanted (command.Ask by to) wants = (peers_of by to wants.0, is_up by wants.1)
  wanted (command.Give number) some = subst (λ n. IsMember n number) (stands.counted ∙ sym stands.posted) some
  wanted (command.Pull by to) wants = (peers_of by to wants.peers, is_up by wants.one, is_up to wants.two)
  wanted (command.Alike by other) wants = λ refusal left done does.
      alike_refused by other (peers_of by other wants.peers) (is_up by wants.one, is_up other wants.two) refusal left
      does
  wanted (command.Restart by) member = member_of volume W old stands by member
  wanted (command.Stop by calls pick) none = none
  wanted (command.Sweep order) none = absurd none
  wanted (command.Why by) none = absurd none

-- where the command may want memory by what the members hold, it may by what has happened
pub follow_wanted : (volume : Volume) (W : ModelWorld) (old : Whole) → WorldStandsFor volume W old
    → (command : Command) → TablesMayWantMemory old command → CommandMayWantMemory volume W command
follow_wanted volume W old stands command wants = wanted volume W old stands command wants

-- over a link that tells its posts
module _ (tells : Type 0) (told : tells) (volume : Volume) where
  -- what a pull does behind the look for its members
  pulling : (by to : ℕ) → Lifts volume
      (First (KeepsAsk tells by to)
      (λ number. First (GivesMessage tells number) (λ given. GivesMessages tells (mails_of given))))
      (First (Asks volume by to)
      (λ number. First (GivesMail volume number) (λ given. GivesEach volume (mails_of given))))
  pulling by to =
      first_lifts volume (ask_lifts tells told volume by to)
      (λ number. first_lifts volume (give_lifts tells told volume number)
      (λ given. gives_each_lift tells told volume (mails_of given)))

  pulling_cut : (by to : ℕ) → CutLifts volume
      (CutFirst (KeepsAsk tells by to) NothingDone
      (λ number. CutFirst (GivesMessage tells number) NothingDone
      (λ given. GivesSomeMessages tells (mails_of given))))
      (CutFirst (Asks volume by to) NothingDone
      (λ number. CutFirst (GivesMail volume number) NothingDone (λ given. GivesSome volume (mails_of given))))
  pulling_cut by to =
      cut_lifts volume (ask_lifts tells told volume by to) (nothing_lifts volume)
      (λ number. cut_lifts volume (give_lifts tells told volume number) (nothing_lifts volume)
      (λ given. gives_some_lift tells told volume (mails_of given)))

  pull_lifts : (disks_tell : Type 0) (by to : ℕ)
      → Lifts volume (CarriesOut tells disks_tell (command.Pull by to)) (Does volume (command.Pull by to))
  pull_lifts disks_tell by to W old stands result left (Ends (FindsNoPeers none)) =
      stays volume W old stands (Ends (no_peers volume W old stands by to none))
  pull_lifts disks_tell by to W old stands result left
      (Ends (FindsOneDown {one = one} {two = two} peers is is_too down)) =
      stays volume W old stands (Ends (one_down volume W old stands by to one two peers is is_too down))
  pull_lifts disks_tell by to W old stands result left
      (Goes {left = last} (FindsBoth {one = one} {two = two} peers is is_too up up_too) pulls) =
      let follows = pulling by to W old stands result last pulls in
      record {
        after = follows.after;
        does = Goes (at_peers volume W old stands by to one two peers is is_too up up_too) follows.does;
        caused = follows.caused;
        stored = follows.stored;
        stands = follows.stands;
      }

  pull_cut_lifts : (by to : ℕ) → CutLifts volume (CutShort tells (command.Pull by to))
      (DoesPart volume (command.Pull by to))
  pull_cut_lifts by to W old stands left (InFirst same) =
      part_first volume (nothing_lifts volume W old stands left same)
  pull_cut_lifts by to W old stands left
      (InRest {left = last} (FindsBoth {one = one} {two = two} peers is is_too up up_too) cut) =
      let follows = pulling_cut by to W old stands last cut in
      record {
        after = follows.after;
        does = InRest (at_peers volume W old stands by to one two peers is is_too up up_too) follows.does;
        caused = follows.caused;
        stored = follows.stored;
        stands = follows.stands;
      }

  -- what a command does is lifted where the disks tell, if it opens any again; and so is what is cut short of it
  record PlanLifts (disks_tell : Type 0) (command : Command) : Type 0 where
    does : TellsFor disks_tell command → Lifts volume (CarriesOut tells disks_tell command) (Does volume command)
    part : CutLifts volume (CutShort tells command) (DoesPart volume command)

  plan_lifts : (disks_tell : Type 0) (command : Command) → PlanLifts disks_tell command
  plan_lifts disks_tell (command.Change by change) = record {
    does = λ disks_told W old stands. follow_change volume W old stands tells disks_tell by change;
    part = nothing_lifts volume;
  }
  plan_lifts disks_tell (command.Look by look) = record {
    does = λ disks_told W old stands. follow_look volume W old stands tells disks_tell by look;
    part = nothing_lifts volume;
  }
  plan_lifts disks_tell (command.Collect by) = record {
    does = λ disks_told W old stands. follow_collect volume W old stands tells disks_tell by;
    part = nothing_lifts volume;
  }
  plan_lifts disks_tell (command.Ask by to) = record {
    does = λ disks_told. first_lifts volume (ask_lifts tells told volume by to) (λ number. gives_lifts volume (Mail number));
    part = nothing_lifts volume;
  }
  plan_lifts disks_tell (command.Give number) =
      record { does = λ disks_told. give_lifts tells told volume number; part = nothing_lifts volume }
  plan_lifts disks_tell (command.Pull by to) =
      record { does = λ disks_told. pull_lifts disks_tell by to; part = pull_cut_lifts by to }
  plan_lifts disks_tell (command.Alike by other) = record {
    does = λ disks_told W old stands. follow_alike volume W old stands tells disks_tell by other;
    part = nothing_lifts volume;
  }
  plan_lifts disks_tell (command.Restart by) = record {
    does = λ disks_told W old stands. follow_restart volume W old stands tells disks_tell (disks_told tt) by;
    part = nothing_lifts volume;
  }
  plan_lifts disks_tell (command.Stop by calls pick) = record {
    does = λ disks_told W old stands. follow_stop volume W old stands tells disks_tell by calls pick;
    part = nothing_lifts volume;
  }
  plan_lifts disks_tell (command.Sweep order) = record {
    does = λ disks_told W old stands result left none. absurd none;
    part = λ W old stands left none. absurd none;
  }
  plan_lifts disks_tell (command.Why by) = record {
    does = λ disks_told W old stands result left none. absurd none;
    part = λ W old stands left none. absurd none;
  }

-- whatever a command does to the world, it does to what the world stands for
pub follow : (tells disks_tell : Type 0) (told : tells) (volume : Volume) (W : ModelWorld) (old : Whole)
    → WorldStandsFor volume W old → (command : Command) → TellsFor disks_tell command → (outcomes : List Outcome)
    (answer : Answer) (new : Whole) → Moves tells disks_tell old command outcomes answer new
    → Follows volume W old command outcomes answer new
follow tells disks_tell told volume W old stands command disks_told outcomes answer new moves =
    let follows = (plan_lifts tells told volume disks_tell command).does disks_told W old stands moves.result
    (record { outcomes = outcomes; after = new }) moves.does in
    record {
      after = follows.after;
      step = record { result = moves.result; does = follows.does; answer_is = moves.answer_is };
      caused = follows.caused;
      stored = follows.stored;
      stands = follows.stands;
    }

-- also where memory is refused on the way
pub follow_cut : (tells : Type 0) (told : tells) (volume : Volume) (command : Command) (W : ModelWorld) (old : Whole)
    → WorldStandsFor volume W old → (left : Effect Whole) → CutShort tells command old left
    → FollowsPart volume W old (DoesPart volume command) left
follow_cut tells told volume command W old stands left cut =
    (plan_lifts tells told volume ⊥ command).part W old stands left cut
