-- Machines stay one world, whatever each does.
use Rattle.std.proofs.Common.{◌≡◌, ◌≢◌, ℕ, ◌+◌, ◌-◌, List, [], ◌∷◌, ◌++◌, length, Result, refl, sym, ap, subst, ◌∙◌, inl, inr, ◌⊎◌, arith}
use Rattle.std.specs.Prelude.{slice_set}
use Rattle.std.proofs.lemmas.List.{append_cancel_left}
use Rattle.ficus_final_laws.proofs.Finishing.{final}
use Rattle.ficus_ids.specs.Members.{IsMember}
use Rattle.ficus_ids.specs.declared.refusal.Refusal.{Refusal}
use Rattle.ficus_laws.proofs.OneMore.{within_more}
use Rattle.ficus_laws.proofs.Shown.{removed_within}
use Rattle.ficus_model.specs.Final.{IsFinal}
use Rattle.ficus_model.specs.Known.{Knows}
use Rattle.ficus_model.specs.Lawful.{Volume}
use Rattle.ficus_model.specs.Live.{ModelEntry, IsLive, IsRemoved}
use Rattle.ficus_script.specs.declared.answer.Answer.{Answer}
use Rattle.ficus_script.specs.declared.command.Command.{Command}
use Rattle.ficus_runs.specs.Answers.{answer_as}
use Rattle.ficus_runs.specs.ModelWorld.{ModelWorld}
use Rattle.ficus_runs.specs.Numbered.{IsNumbered}
use Rattle.ficus_runs.specs.Outcome.{Outcome}
use Rattle.ficus_runs.proofs.Extending.{Extends, as_it_was, further, step_extends}
use Rattle.ficus_runs.proofs.Numbers.{number_cases, number_exists, number_once}
use Rattle.ficus_runs.proofs.Replaced.{replaced}
use Rattle.ficus_opening.specs.declared.member.Member.{Member}
use Rattle.ficus_world.specs.Follows.{Follows}
use Rattle.ficus_world.specs.Moves.{CarriesOut}
use Rattle.ficus_world.specs.Post.{Outbox}
use Rattle.ficus_world.specs.World.{Whole, WorldStandsFor}
use Rattle.ficus_world.proofs.Lifting.Following.{follow}
use Rattle.ficus_world.specs.Machines.Part.{AreAlike, AreGenuine, Deed, IsPartOf, IsSameDeed, IsStepOfAll, MayBeAsked, Changes, Looks, Collects, Asks, Gives, Restarts, command_of, seen_from}
use Rattle.ficus_world.specs.Machines.Together.{AreOneWorld, Happens, Hears, IsAskedIn, Renews, StaysOneWorld, Together, Told, with_total}
use Rattle.ficus_world.specs.Machines.Together.Happens.{Nothing, OneMore}
use Rattle.ficus_world.specs.Machines.Together.Together.{Rest, Does, Comes, Begins}
use Rattle.ficus_world.proofs.machines.Alike.{genuine_behind}
use Rattle.ficus_world.proofs.machines.Deeds.{deed_steps}

-- what a link has counted says nothing of what a world stands for
recounted : (volume : Volume) (W : ModelWorld) (all : Whole) (total faults : ℕ) → WorldStandsFor volume W all
    → WorldStandsFor volume (with_total W total)
    (record all { post = record all.post { total = total; faults = faults } })
recounted volume W all total faults stands = record {
  count = stands.count;
  members = stands.members;
  standings = stands.standings;
  fuses = stands.fuses;
  lawful = stands.lawful;
  stored = stands.stored;
  began = stands.began;
  each = stands.each;
  run = record { serves = record { each = stands.run.serves.each }; pending = stands.run.pending };
  served = stands.served;
  total = refl;
  posted = stands.posted;
  counted = stands.counted;
  mail = λ number place bytes behind posts.
      let is = stands.mail number place bytes behind posts in
      record { numbered = is.numbered; message = is.message; is = is.is; spelled = is.spelled };
}

-- the message that is given has its bytes in the model too
asked_in : (volume : Volume) (W : ModelWorld) (all : Whole) → WorldStandsFor volume W all → (r : ℕ) (deed : Deed)
    (asked : Command) → IsSameDeed r all deed asked → IsAskedIn volume W r deed asked
asked_in volume W all stands r (Changes change) asked same = same
asked_in volume W all stands r (Looks look) asked same = same
asked_in volume W all stands r Collects asked same = same
asked_in volume W all stands r (Asks to) asked same = same
asked_in volume W all stands r (Gives number bytes) asked same =
    let place = number_exists all.post.behind same.0 (subst (λ n. IsMember n same.0) stands.counted same.1.member) in (
      same.0,
      place.0.position + length stands.stored.earlier,
      place.0.index,
      stands.mail same.0 place.0 bytes place.1 same.1,
      same.2,
    )
asked_in volume W all stands r Restarts asked same = same

module _ (tells disks_tell : Type 0) (told : tells) (disks_told : disks_tell) (volume : Volume) where
  module _ (W : ModelWorld) (all : Whole) (machines : List Whole) (sent : List (List ℕ))
      (one : AreOneWorld volume W all machines sent) (r : ℕ) (machine after : Whole)
      (is : IsNumbered machines r machine) where
    part : IsPartOf r machine all
    part = one.parts r machine is

    -- one machine does something
    module _ (deed : Deed) (may : MayBeAsked r machine deed) (result : Result Answer Refusal)
        (outcomes : List Outcome) (more : List (List ℕ))
        (does : CarriesOut tells disks_tell (command_of r deed) machine result
        (record { outcomes = outcomes; after = after }))
        (posted : after.post.posts ≡ machine.post.posts ++ more) where
      step : IsStepOfAll tells disks_tell r machine all deed result outcomes after
      step =
          deed_steps tells disks_tell told r machine all part one.stands.counted deed may result
          (record { outcomes = outcomes; after = after }) does

      abbrev counted : ModelWorld
      counted = with_total W machine.post.total

      follows : Follows volume counted (seen_from machine all) step.asked outcomes (answer_as step.again) step.new
      follows =
          follow tells disks_tell told volume counted (seen_from machine all)
          (recounted volume W all machine.post.total machine.post.faults one.stands) step.asked (λ opens. disks_told)
          outcomes (answer_as step.again) step.new
          (record { result = step.again; does = step.does; answer_is = refl })

      same_more : step.more ≡ more
      same_more = append_cancel_left machine.post.posts step.more more (sym step.posted ∙ posted)

      -- the other machines are parts of the world after it too
      other_part : (q : ℕ) (other : Whole) → r ≢ q → IsPartOf q other all → IsPartOf q other step.new
      other_part q other differs was = record {
        count = was.count ∙ sym step.count;
        alike = λ mine theirs at at_there.
            let found = number_exists all.members q (subst (λ n. IsMember n q) was.count at.member) in
            let same : theirs ≡ found.0 =
            number_once at_there (step.others q found.0 (λ is_same. differs (sym is_same)) found.1) in
            subst (λ (m : Member). AreAlike mine m) (sym same) (was.alike mine found.0 at found.1);
        genuine =
            subst (λ (posts : List (List ℕ)). AreGenuine other.post.posts posts) (sym step.sent)
            (genuine_behind step.more other.post.posts all.post.posts was.genuine);
      }

      each_part : (q : ℕ) (other : Whole) → ((q ≡ r) × (other ≡ after)) ⊎ ((r ≢ q) × IsNumbered machines q other)
          → IsPartOf q other step.new
      each_part q other (inl here) =
          subst (λ n. IsPartOf n other step.new) (sym here.0)
          (subst (λ (w : Whole). IsPartOf r w step.new) (sym here.1) step.part)
      each_part q other (inr there) = other_part q other there.0 (one.parts q other there.1)

      one_after : AreOneWorld volume follows.after step.new (slice_set machines (r - 1) after) (sent ++ more)
      one_after = record {
        stands = follows.stands;
        parts = λ q other at. each_part q other (replaced machines r q after other is.member.at_least at);
        posts =
            step.sent ∙ ap (λ (front : List (List ℕ)). front ++ step.more) one.posts
            ∙ ap (λ (back : List (List ℕ)). sent ++ back) same_more;
      }

    -- one machine is another world around the same member
    module _ (renewed : IsPartOf r after all) where
      renewed_part : (q : ℕ) (other : Whole)
          → ((q ≡ r) × (other ≡ after)) ⊎ ((r ≢ q) × IsNumbered machines q other) → IsPartOf q other all
      renewed_part q other (inl here) =
          subst (λ n. IsPartOf n other all) (sym here.0)
          (subst (λ (w : Whole). IsPartOf r w all) (sym here.1) renewed)
      renewed_part q other (inr there) = one.parts q other there.1

      one_renewed : AreOneWorld volume W all (slice_set machines (r - 1) after) sent
      one_renewed = record {
        stands = one.stands;
        parts = λ q other at. renewed_part q other (replaced machines r q after other is.member.at_least at);
        posts = one.posts;
      }

    -- a message comes to it
    module _ (number : ℕ) (bytes : List ℕ) (posted : IsNumbered sent number bytes) where
      heard_part : (post : Outbox) → post.posts ≡ machine.post.posts ++ bytes ∷ []
          → IsPartOf r (record machine { post = post }) all
      heard_part post posts = record {
        count = part.count;
        alike = part.alike;
        genuine = λ n found at.
            go n found
            (number_cases machine.post.posts bytes (subst (λ (p : List (List ℕ)). IsNumbered p n found) posts at));
      }
        where
          go : (n : ℕ) (found : List ℕ)
              → IsNumbered machine.post.posts n found ⊎ ((n ≡ length machine.post.posts + 1) × (found ≡ bytes))
              → (there : ℕ) × IsNumbered all.post.posts there found
          go n found (inl was) = part.genuine n found was
          go n found (inr new) = (
            number,
            subst (λ (p : List (List ℕ)). IsNumbered p number found) (sym one.posts)
                (subst (IsNumbered sent number) (sym new.1) posted),
          )

      hears_part : Hears bytes machine after → IsPartOf r after all
      hears_part hears = subst (λ (w : Whole). IsPartOf r w all) (sym hears.is) (heard_part hears.post hears.posts)

    -- a new process begins on it
    renews_part : Renews r machine after → IsPartOf r after all
    renews_part renews = record {
      count = renews.count ∙ part.count;
      alike = λ mine theirs at at_there.
          subst (λ (m : Member). AreAlike m theirs) (number_once renews.is at)
          (part.alike renews.member theirs renews.was at_there);
      genuine = λ n found at.
          let none = (subst (λ (p : List (List ℕ)). IsNumbered p n found) renews.posts at).member in
          absurd (omega (arith, none.at_least, none.at_most));
    }

  pub stay_one : {machines last : List Whole} {sent last_sent : List (List ℕ)} {did : List Told}
      → Together tells disks_tell machines sent did last last_sent → (W : ModelWorld) (all : Whole)
      → AreOneWorld volume W all machines sent → StaysOneWorld volume W did last last_sent
  stay_one Rest W all one = record { after = W; all = all; happens = Nothing; are = one }
  stay_one {machines = machines} {sent = sent}
      (Does {r = r} {machine = machine} {deed = deed} {result = result} after outcomes more is may does posted rest) W all one =
      let did = step W all machines sent one r machine after is deed may result outcomes more does posted in
      let so = follows W all machines sent one r machine after is deed may result outcomes more does posted in
      let behind = stay_one rest so.after did.new
      (one_after W all machines sent one r machine after is deed may result outcomes more does posted) in
      record {
        after = behind.after;
        all = behind.all;
        happens =
            OneMore machine.post.total did.asked outcomes did.again
            (asked_in volume W all one.stands r deed did.asked did.same) did.like so.step behind.happens;
        are = behind.are;
      }
  stay_one {machines = machines} {sent = sent}
      (Comes {r = r} {number = number} {machine = machine} {bytes = bytes} after is posted hears rest) W all
      one =
      stay_one rest W all
      (one_renewed W all machines sent one r machine after is
      (hears_part W all machines sent one r machine after is number bytes posted hears))
  stay_one {machines = machines} {sent = sent}
      (Begins {r = r} {machine = machine} after is renews rest) W all one =
      stay_one rest W all
      (one_renewed W all machines sent one r machine after is
      (renews_part W all machines sent one r machine after is renews))

-- what happens only adds
pub happens_extends : {volume : Volume} {W after : ModelWorld} {did : List Told} → Happens volume W did after
    → Extends W.events after.events
happens_extends {W = W} Nothing = as_it_was W.events
happens_extends (OneMore total asked outcomes again same like step rest) = further (step_extends step) (happens_extends rest)

pub nothing_returns : {volume : Volume} {W after : ModelWorld} {did : List Told} → Happens volume W did after
    → (replica : ℕ) (entry : ModelEntry) → IsRemoved W.events (Knows W.events replica) entry.id
    → IsLive after.events (Knows after.events replica) entry → ⊥
nothing_returns {W = W} happens replica entry removed live =
    let more = happens_extends happens in
    let there = subst (λ H. IsLive H (Knows H replica) entry) more.is live in
    there.not_removed (removed_within (within_more W.events more.later replica) removed)

pub one_is_final : {volume : Volume} {W : ModelWorld} {all : Whole} {machines : List Whole} {sent : List (List ℕ)}
    → AreOneWorld volume W all machines sent → IsFinal volume.members W.events
one_is_final {volume} {W} one = final volume W.events one.stands.lawful
