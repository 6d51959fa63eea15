-- A world is a part of itself, so that what it does is told by the law.
use Rattle.std.proofs.Common.{◌≡◌, ℕ, ◌+◌, List, [], ◌∷◌, ◌++◌, length, refl, sym, ap, subst}
use Rattle.std.proofs.lemmas.List.{append-nil}
use Rattle.ficus_script.specs.declared.answer.Answer.{Answer}
use Rattle.ficus_script.specs.declared.command.Command.{Command}
use Rattle.ficus_runs.specs.Outcome.{Outcome}
use Rattle.ficus_script.specs.declared.command.Command.TheVariants as command
use Rattle.ficus_runs.specs.Message.{IsSpelled}
use Rattle.ficus_runs.specs.Numbered.{IsNumbered}
use Rattle.ficus_runs.proofs.Numbers.{number_end, number_once}
use Rattle.ficus_opening.specs.declared.member.Member.{Member}
use Rattle.ficus_world.specs.Moves.{CarriesOut, Moves, with_post}
use Rattle.ficus_world.specs.Post.{IsSent, lies_behind}
use Rattle.ficus_world.specs.World.{IsWorld, Whole}
use Rattle.ficus_world.specs.Machines.Acting.{ActsAlone, ActsFor, IsMailFor}
use Rattle.ficus_world.specs.Machines.Part.{AreAlike, Deed, Gives, IsOwnMail, IsPartOf, IsStepOfAll, MayBeAsked, command_of}
use Rattle.ficus_world.specs.Machines.Together.Alone.{Acted, Ended, Heard}
use Rattle.ficus_world.proofs.machines.Alike.{alike_self}
use Rattle.ficus_world.proofs.machines.Deeds.{deed_steps}

part_of_itself : (r : ℕ) (machine : Whole) → IsPartOf r machine machine
part_of_itself r machine = record {
  count = refl;
  alike = λ one other at at_too. subst (λ (m : Member). AreAlike one m) (number_once at at_too) (alike_self one);
  genuine = λ number bytes is. (number, is);
}

pub acts_alone : (tells disks_tell : Type 0) → tells → (machine after : Whole) → IsWorld machine
    → (command : Command) (outcomes : List Outcome) (answer : Answer)
    → Moves tells disks_tell machine command outcomes answer after → (r : ℕ) (deed : Deed)
    → command ≡ command_of r deed → MayBeAsked r machine deed
    → ActsAlone tells disks_tell r [] deed answer machine after
acts_alone tells disks_tell told machine after world command outcomes answer moves r deed is may =
    let does = subst (λ (c : Command). CarriesOut tells disks_tell c machine moves.result
    (record { outcomes = outcomes; after = after })) is moves.does in
    let step : IsStepOfAll tells disks_tell r machine machine deed moves.result outcomes after =
    deed_steps tells disks_tell told r machine machine (part_of_itself r machine) world.counted deed may moves.result
    (record { outcomes = outcomes; after = after }) does in
    record {
      result = moves.result;
      answer_is = moves.answer_is;
      posted = step.more ++ [];
      alone = Acted after outcomes step.more may does step.posted Ended;
      sent =
          subst (λ (posts : List (List ℕ)). after.post.posts ≡ posts ++ (step.more ++ []))
          (sym (append-nil machine.post.posts))
          (subst (λ (more : List (List ℕ)). after.post.posts ≡ machine.post.posts ++ more) (sym (append-nil step.more))
          step.posted);
    }

-- what has come to a machine and is then given there
pub takes_alone : (tells disks_tell : Type 0) → tells → (machine middle after : Whole)
    (bytes : List ℕ) (number : ℕ) → IsSent tells machine.post (lies_behind 0 0) bytes number middle.post
    → middle ≡ with_post machine middle.post → (answer : Answer)
    → ActsFor tells disks_tell (command.Give number) answer middle after → (r : ℕ)
    → IsMailFor (length machine.members) r bytes
    → ActsAlone tells disks_tell r (bytes ∷ []) (Gives number bytes) answer machine after
takes_alone tells disks_tell told machine middle after bytes number sent rest answer acts_for r own =
    let numbered : IsNumbered middle.post.posts number bytes =
    subst (λ n. IsNumbered middle.post.posts n bytes) (sym sent.number_is)
    (subst (λ (posts : List (List ℕ)). IsNumbered posts (length machine.post.posts + 1) bytes) (sym (sent.told told))
    (number_end machine.post.posts bytes)) in
    let mail : IsOwnMail r middle number bytes = record {
      is = numbered;
      own = λ m spelled.
          own m (subst (λ n. IsSpelled n bytes m) (ap (λ (w : Whole). length w.members) rest) spelled);
    } in
    let acts = acts_for r (Gives number bytes) refl mail in
    record {
      result = acts.result;
      answer_is = acts.answer_is;
      posted = acts.posted;
      alone = Heard middle (record { post = middle.post; posts = sent.told told; is = rest }) acts.alone;
      sent =
          subst (λ (posts : List (List ℕ)). after.post.posts ≡ posts ++ acts.posted) (sent.told told)
          (subst (λ (posts : List (List ℕ)). after.post.posts ≡ posts ++ acts.posted) (append-nil middle.post.posts)
          acts.sent);
    }
