-- Commands are served one after the other.
use Rattle.std.proofs.Common.{◌≡◌, ℕ, ◌+◌, ◌<◌, ◌≤◌, List, [], ◌∷◌, ◌++◌, Option, length, get_or, take, drop, refl, sym, ◌∙◌, ap, subst, inl, inr, ⊎_elim, arith, length-append, length-take, append_assoc}
use Rattle.std.specs.Prelude.{All}
use Rattle.std.proofs.lemmas.List.{append-nil, take-take, take_more, drop-append-le, take-append-drop}
use Rattle.std.proofs.lemmas.List.Concat.{flat_map-append}
use Rattle.std.proofs.Math.Seq.{take-append-add, drop-append-add}
use Rattle.ficus_disk.specs.declared.disk.Disk.{Ghosts as Disk}
use Rattle.ficus_disk.specs.declared.pair.Pair.{Pair}
use Rattle.ficus_keeper.specs.Kept.{Kept}
use Rattle.ficus_keeper.specs.declared.keep.Keep.{Ghosts as Keep}
use Rattle.ficus_model.specs.Lawful.{Volume}
use Rattle.ficus_script.specs.declared.command.Command.{Command}
use Rattle.ficus_script.specs.declared.answer.Answer.{Answer}
use Rattle.ficus_script.specs.Answer.{answer_text_of}
use Rattle.ficus_runs.specs.Outcomes.{all_outcomes}
use Rattle.ficus_runs.specs.ModelWorld.{ModelWorld}
use Rattle.ficus_runs.specs.Outcome.{Outcome, link_failures}
use Rattle.ficus_runs.specs.Run.{Run}
use Rattle.ficus_runs.specs.Run.Run.{End, Then}
use Rattle.ficus_world.specs.Causes.{AreCaused}
use Rattle.ficus_world.specs.Disks.{DisksFollow}
use Rattle.ficus_world.specs.Follows.{FollowsOn, StopsOn}
use Rattle.ficus_world.specs.Kills.{IsDeedOf}
use Rattle.ficus_world.specs.World.{Whole, WorldStandsFor}
use Rattle.ficus_world.specs.Fuses.{FusesFollow, FusesPermit}
use Rattle.ficus_world.proofs.Fuses.{fuses_none, fuses_then, permit_then}
use Rattle.ficus_world.proofs.Disks.{follows_none, follows_then}
use Rattle.ficus_world.proofs.Lifting.Outcomes.{both_caused, steady_caused}
use Rattle.ficus_loop.specs.Trail.{FrontOn, RunOn, TrailOf}
use Rattle.ficus_loop.specs.Trail.RunOn.{EndOn, ThenOn}
use Rattle.ficus_loop.proofs.Stepping.{run_on_append}
use Rattle.ficus_loop.specs.Puts.{PutsFront}
use Rattle.ficus_loop.specs.Serving.{texts_of, Serves, IsCut, ServesFront, ServesWorld, ServesWorldFront}
use Rattle.ficus_loop.specs.Serving.IsCut.{Uncut, CutIn}

pub run_append : {volume : Volume} {W M N : ModelWorld} {commands others : List Command}
    {outcomes later : List (List Outcome)}
    {answers more : List Answer} → Run volume W commands outcomes answers M → Run volume M others later more N
    → Run volume W (commands ++ others) (outcomes ++ later) (answers ++ more) N
run_append End behind = behind
run_append (Then first rest) behind = Then first (run_append rest behind)

pub texts_append : (old : List ℕ) (answers more : List Answer)
    → (old ++ texts_of answers) ++ texts_of more ≡ old ++ texts_of (answers ++ more)
texts_append old answers more =
    append_assoc old (texts_of answers) (texts_of more)
    ∙ ap (λ (texts : List ℕ). old ++ texts) (sym (flat_map-append answer_text_of answers more))

-- what one command asked, and what some and then others did
pub one_asked : (outcomes : List Outcome) → outcomes ≡ all_outcomes (outcomes ∷ [])
one_asked outcomes = sym (append-nil outcomes)

pub both_asked : (outcomes later : List (List Outcome))
    → all_outcomes outcomes ++ all_outcomes later ≡ all_outcomes (outcomes ++ later)
both_asked outcomes later = sym (flat_map-append (λ each. each) outcomes later)

all_asked : (outcomes later : List (List Outcome)) (more : List Outcome)
    → all_outcomes outcomes ++ (all_outcomes later ++ more) ≡ all_outcomes (outcomes ++ later) ++ more
all_asked outcomes later more =
    sym (append_assoc (all_outcomes outcomes) (all_outcomes later) more)
    ∙ ap (λ (asked : List Outcome). asked ++ more) (both_asked outcomes later)

module _ {tells : Type 0} {volume : Volume} where
  -- no command
  abbrev pub serves_none : (W : ModelWorld) (old : List ℕ) → Serves tells volume W [] W old old
  serves_none W old = record { outcomes = []; answers = []; run = End; put = λ told. sym (append-nil old) }

  -- commands, and then others
  abbrev serves_append : {W M N : ModelWorld} {all commands others : List Command} {old mid new : List ℕ}
      → all ≡ commands ++ others → Serves tells volume W commands M old mid → Serves tells volume M others N mid new
      → Serves tells volume W all N old new
  serves_append {W} {M} {N} {all} {commands} {others} {old} split first behind = record {
    outcomes = first.outcomes ++ behind.outcomes;
    answers = first.answers ++ behind.answers;
    run = subst (λ (some : List Command). Run volume W some (first.outcomes ++ behind.outcomes)
        (first.answers ++ behind.answers) N)
        (sym split) (run_append first.run behind.run);
    put = λ told. behind.put told ∙ ap (λ (l : List ℕ). l ++ texts_of behind.answers) (first.put told)
        ∙ texts_append old first.answers behind.answers;
  }

module _ {may : Type 0} {volume : Volume} where
  -- what is cut stays so with more commands behind
  cut_more : {W after : ModelWorld} {last : List Answer} {some : List Command} {outcomes : List Outcome}
      (more : List Command) → IsCut may volume W last some outcomes after
      → IsCut may volume W last (some ++ more) outcomes after
  cut_more more Uncut = Uncut
  cut_more more (CutIn allowed does) = CutIn allowed does

module _ {tells may : Type 0} {volume : Volume} where
  -- where nothing was put, no command was answered
  abbrev pub front_nothing : (W : ModelWorld) (commands : List Command) (old new : List ℕ) → new ≡ old
      → ServesFront tells may volume W commands W old new
  front_nothing W commands old new same = record {
    count = 0;
    within = omega arith;
    outcomes = [];
    whole = [];
    last = [];
    at_most_one = omega arith;
    middle = W;
    run = End;
    more_outcomes = [];
    cut = Uncut;
    put = λ told. record {
      front = [];
      rest = [];
      is = refl;
      put = same ∙ sym (append-nil old)
          ∙ sym (append-nil (old ++ []));
    };
  }

  abbrev front_behind : {W M N : ModelWorld} {all commands others : List Command} {old mid new : List ℕ}
      → all ≡ commands ++ others → Serves tells volume W commands M old mid
      → ServesFront tells may volume M others N mid new → ServesFront tells may volume W all N old new
  front_behind {W} {M} {N} {all} {commands} {others} {old} {mid} {new} split first behind = record {
    count = length commands + behind.count;
    within = omega (arith, behind.within, ap length split, length-append commands others);
    outcomes = first.outcomes ++ behind.outcomes;
    whole = first.answers ++ behind.whole;
    last = behind.last;
    at_most_one = behind.at_most_one;
    middle = behind.middle;
    run = subst (λ (some : List Command). Run volume W some (first.outcomes ++ behind.outcomes)
        ((first.answers ++ behind.whole) ++ behind.last) behind.middle)
        (sym (ap (take (length commands + behind.count)) split ∙ take-append-add commands others behind.count))
        (subst (λ (answers : List Answer). Run volume W (commands ++ take behind.count others)
        (first.outcomes ++ behind.outcomes) answers behind.middle)
        (sym (append_assoc first.answers behind.whole behind.last)) (run_append first.run behind.run));
    more_outcomes = behind.more_outcomes;
    cut = subst (λ (left : List Command). IsCut may volume behind.middle behind.last left behind.more_outcomes N)
        (sym (ap (drop (length commands + behind.count)) split ∙ drop-append-add commands others behind.count))
        behind.cut;
    put = λ told. subst (λ (before : List ℕ). PutsFront before (texts_of behind.last) new)
        (ap (λ (l : List ℕ). l ++ texts_of behind.whole) (first.put told) ∙ texts_append old first.answers behind.whole)
        (behind.put told);
  }

  -- some first ones of first ones are first ones
  abbrev front_more : {W after : ModelWorld} {old new : List ℕ} (commands : List Command) (n : ℕ)
      → ServesFront tells may volume W (take n commands) after old new
      → ServesFront tells may volume W commands after old new
  front_more {W} {after} commands n front =
      let split : drop front.count commands ≡ drop front.count (take n commands) ++ drop n commands =
      ap (drop front.count) (sym (take-append-drop n commands))
      ∙ drop-append-le front.count (take n commands) (drop n commands) front.within in
      record {
        count = front.count;
        within = omega (arith, front.within, length-take n commands);
        outcomes = front.outcomes;
        whole = front.whole;
        last = front.last;
        at_most_one = front.at_most_one;
        middle = front.middle;
        run = subst (λ (some : List Command). Run volume W some front.outcomes (front.whole ++ front.last) front.middle)
            (take-take front.count n commands (omega (arith, front.within, length-take n commands))) front.run;
        more_outcomes = front.more_outcomes;
        cut = subst (λ (left : List Command). IsCut may volume front.middle front.last left front.more_outcomes after)
            (sym split) (cut_more (drop n commands) front.cut);
        put = front.put;
      }

module _ {K D : Type 0} {tells : Type 0} {keep : Keep K} {disk : Disk D} {volume : Volume} where
  module _ (W : ModelWorld) (before : Whole) (command : Command) (answer : Answer) (world : Whole)
      (old_disks new_disks : List (Pair D))
      (on : FollowsOn keep disk volume W before command answer world old_disks new_disks)
      (trail : disk.tells
      → TrailOf keep.kept disk volume (IsDeedOf command) W on.follows.after old_disks new_disks)
      (old new : List ℕ) where
    -- one command, whose answer's text was put
    abbrev pub world_one : (tells → new ≡ old ++ answer_text_of answer)
        → ServesWorld tells keep disk volume W before (command ∷ []) world old new old_disks new_disks
    world_one put = record {
      after = on.follows.after;
      serves = record {
        outcomes = on.outcomes ∷ [];
        answers = answer ∷ [];
        run = Then on.follows.step End;
        put = λ told. put told ∙ ap (λ (text : List ℕ). old ++ text) (sym (append-nil (answer_text_of answer)));
      };
      caused = subst (λ (asked : List Outcome). AreCaused before.post.faults world.post.faults (link_failures asked))
          (one_asked on.outcomes) on.follows.caused;
      stored = on.follows.stored;
      stands = on.follows.stands;
      disks = subst (λ (asked : List Outcome). DisksFollow disk.faults disk.armings asked old_disks new_disks)
          (one_asked on.outcomes) on.disks;
      fuses = subst (λ (asked : List Outcome). FusesFollow keep disk asked before.members world.members old_disks
          new_disks) (one_asked on.outcomes) on.fuses;
      runs = λ told. ThenOn on.follows.step (trail told) EndOn;
    }

    -- one command, of whose answer's text a front was put
    pub world_front : {may : Type 0} → (tells → PutsFront old (answer_text_of answer) new)
        → ServesWorldFront tells may keep disk volume W before (command ∷ []) world old new old_disks
        new_disks
    world_front put =
        let asked_is : on.outcomes ≡ all_outcomes (on.outcomes ∷ []) ++ [] =
        one_asked on.outcomes ∙ sym (append-nil (all_outcomes (on.outcomes ∷ []))) in
        record {
          after = on.follows.after;
          serves = record {
            count = 1;
            within = omega arith;
            outcomes = on.outcomes ∷ [];
            whole = [];
            last = answer ∷ [];
            at_most_one = omega arith;
            middle = on.follows.after;
            run = Then on.follows.step End;
            more_outcomes = [];
            cut = Uncut;
            put = λ told. subst (λ (texts : List ℕ). PutsFront (old ++ []) texts new)
                (sym (append-nil (answer_text_of answer)))
                (subst (λ (before : List ℕ). PutsFront before (answer_text_of answer) new) (sym (append-nil old))
                (put told));
          };
          caused = subst (λ (asked : List Outcome). AreCaused before.post.faults world.post.faults
              (link_failures asked)) asked_is
              on.follows.caused;
          stands = on.follows.stands;
          disks = subst (λ (asked : List Outcome). DisksFollow disk.faults disk.armings asked old_disks new_disks)
              asked_is
              on.disks;
          fuses = subst (λ (asked : List Outcome). FusesPermit keep disk asked before.members old_disks) asked_is
              on.fuses.permit;
          runs = λ told. record {
            mid = new_disks;
            run = ThenOn on.follows.step (trail told) EndOn;
            rest = inl (refl, refl);
          };
        }

  -- one command, which was cut short
  pub world_stopped : {may : Type 0} (W : ModelWorld) (before : Whole) (command : Command) (world : Whole)
      (old new : List ℕ) (old_disks new_disks : List (Pair D)) → may
      → (on : StopsOn keep disk volume W before command world old_disks new_disks)
      → (disk.tells → TrailOf keep.kept disk volume (IsDeedOf command) W on.stops.after old_disks new_disks) → new ≡ old
      → ServesWorldFront tells may keep disk volume W before (command ∷ []) world old new old_disks new_disks
  world_stopped W before command world old new old_disks new_disks allowed on trail same = record {
    after = on.stops.after;
    serves = record {
      count = 0;
      within = omega arith;
      outcomes = [];
      whole = [];
      last = [];
      at_most_one = omega arith;
      middle = W;
      run = End;
      more_outcomes = on.outcomes;
      cut = CutIn allowed on.stops.does;
      put = λ told. record {
        front = [];
        rest = [];
        is = refl;
        put = same ∙ sym (append-nil old)
            ∙ sym (append-nil (old ++ []));
      };
    };
    caused = on.stops.caused;
    stands = on.stops.stands;
    disks = on.disks;
    fuses = on.fuses;
    runs = λ told. record { mid = old_disks; run = EndOn; rest = inr (record { command = command; later = []; is = refl; does = trail told }) };
  }

pub take_command : (commands : List Command) (index : ℕ) (command : Command) → index < length commands
    → command ≡ get_or commands index command → take (index + 1) commands ≡ take index commands ++ command ∷ []
take_command commands index command within is =
    take_more commands index command within ∙ ap (λ (next : Command). take index commands ++ next ∷ []) (sym is)

-- what holds of all commands holds of the next one
pub command_at : (P : Command → Type 0) (commands : List Command) (index : ℕ) (command : Command)
    → index < length commands
    → command ≡ get_or commands index command → All P commands → P command
command_at P commands index command within is all = subst P (sym is) (all index command within)

-- some first commands of first ones, with the disks
module _ {D : Type 0} {kept : List ℕ → List ℕ → Option Kept} {disk : Disk D} {volume : Volume} where
  pub front_runs : {W M N after : ModelWorld} (some others commands : List Command) (n : ℕ)
      {outcomes later : List (List Outcome)} {answers : List Answer} (whole last : List Answer) (count : ℕ)
      {x y z : List (Pair D)} → take n commands ≡ some ++ others → count ≤ length others
      → RunOn kept disk volume W some outcomes answers M x y
      → FrontOn kept disk volume M (take count others) (drop count others) later (whole ++ last) N after y z
      → FrontOn kept disk volume W (take (length some + count) commands) (drop (length some + count) commands)
      (outcomes ++ later)
      ((answers ++ whole) ++ last) N after x z
  front_runs {W} {M} {N} some others commands n {outcomes} {later} {answers} whole last count {x} split within first
      behind =
      let all : take (length some + count) commands ≡ some ++ take count others =
      sym (take-take (length some + count) n commands
      (omega (arith, within, ap length split, length-append some others, length-take n commands)))
      ∙ ap (take (length some + count)) split ∙ take-append-add some others count in
      let left : drop (length some + count) commands ≡ drop count others ++ drop n commands =
      ap (drop (length some + count)) (sym (take-append-drop n commands))
      ∙ drop-append-le (length some + count) (take n commands) (drop n commands)
      (omega (arith, within, ap length split, length-append some others))
      ∙ ap (λ (l : List Command). drop (length some + count) l ++ drop n commands) split
      ∙ ap (λ (l : List Command). l ++ drop n commands) (drop-append-add some others count) in
      record {
        mid = behind.mid;
        run = subst (λ (given : List Command). RunOn kept disk volume W given (outcomes ++ later)
            ((answers ++ whole) ++ last) N x behind.mid) (sym all)
            (subst (λ (given : List Answer). RunOn kept disk volume W (some ++ take count others) (outcomes ++ later)
            given N x behind.mid) (sym (append_assoc answers whole last)) (run_on_append first behind.run));
        rest = ⊎_elim (λ ended. inl ended)
            (λ cut. inr (record {
              command = cut.command;
              later = cut.later ++ drop n commands;
              is = left ∙ ap (λ (l : List Command). l ++ drop n commands) cut.is;
              does = cut.does;
            })) behind.rest;
      }

module _ {K D : Type 0} {tells : Type 0} {keep : Keep K} {disk : Disk D} {volume : Volume} where
  -- no command, over a world that stands for it
  abbrev pub world_none : (W : ModelWorld) (world : Whole) (old : List ℕ) (disks : List (Pair D))
      → WorldStandsFor volume W world
      → ServesWorld tells keep disk volume W world [] world old old disks disks
  world_none W world old disks stands = record {
    after = W;
    serves = serves_none W old;
    caused = steady_caused world.post.faults;
    stored = refl;
    stands = stands;
    disks = follows_none;
    fuses = fuses_none;
    runs = λ told. EndOn;
  }

  module _ {W : ModelWorld} {before world : Whole} {old mid new : List ℕ} {old_disks mid_disks : List (Pair D)}
      (commands : List Command) (index : ℕ) (command : Command) (next : Whole) (new_disks : List (Pair D))
      (within : index < length commands) (is : command ≡ get_or commands index command)
      (first : ServesWorld tells keep disk volume W before (take index commands) world old mid old_disks
      mid_disks) where
    -- the first commands and the next one are served
    abbrev pub world_more : ((M : ModelWorld) → WorldStandsFor volume M world
        → ServesWorld tells keep disk volume M world (command ∷ []) next mid new mid_disks
        new_disks)
        → ServesWorld tells keep disk volume W before (take (index + 1) commands) next old new old_disks
        new_disks
    world_more serve =
        let behind = serve first.after first.stands in
        let asked = both_asked first.serves.outcomes behind.serves.outcomes in
        record {
          after = behind.after;
          serves = serves_append (take_command commands index command within is) first.serves behind.serves;
          caused = subst (λ (asked : List Outcome). AreCaused before.post.faults next.post.faults
              (link_failures asked)) asked
              (both_caused (all_outcomes first.serves.outcomes) (all_outcomes behind.serves.outcomes) first.caused
              behind.caused);
          stored = omega (arith, first.stored, behind.stored);
          stands = behind.stands;
          disks = subst (λ (asked : List Outcome). DisksFollow disk.faults disk.armings asked old_disks new_disks) asked
              (follows_then first.disks behind.disks);
          fuses = subst (λ (asked : List Outcome). FusesFollow keep disk asked before.members next.members old_disks
              new_disks) asked (fuses_then first.fuses behind.fuses);
          runs = λ told. subst
              (λ (some : List Command). RunOn keep.kept disk volume W some
              (first.serves.outcomes ++ behind.serves.outcomes) (first.serves.answers ++ behind.serves.answers)
              behind.after old_disks new_disks) (sym (take_command commands index command within is))
              (run_on_append (first.runs told) (behind.runs told));
        }

    -- the first commands are served, and of the next one's answer a front was put
    pub front_next : {may : Type 0} → ((M : ModelWorld) → WorldStandsFor volume M world
        → ServesWorldFront tells may keep disk volume M world (command ∷ []) next mid new
        mid_disks new_disks)
        → ServesWorldFront tells may keep disk volume W before commands next old new old_disks new_disks
    front_next serve =
        let behind = serve first.after first.stands in
        let more = all_outcomes behind.serves.outcomes ++ behind.serves.more_outcomes in
        let asked = all_asked first.serves.outcomes behind.serves.outcomes behind.serves.more_outcomes in
        record {
          after = behind.after;
          serves = front_more commands (index + 1)
              (front_behind (take_command commands index command within is) first.serves behind.serves);
          caused = subst (λ (asked : List Outcome). AreCaused before.post.faults next.post.faults
              (link_failures asked)) asked
              (both_caused (all_outcomes first.serves.outcomes) more first.caused behind.caused);
          stands = behind.stands;
          disks = subst (λ (asked : List Outcome). DisksFollow disk.faults disk.armings asked old_disks new_disks) asked
              (follows_then first.disks behind.disks);
          fuses = subst (λ (asked : List Outcome). FusesPermit keep disk asked before.members old_disks) asked
              (permit_then first.fuses behind.fuses);
          runs = λ told. front_runs (take index commands) (command ∷ []) commands (index + 1) behind.serves.whole
              behind.serves.last behind.serves.count (take_command commands index command within is)
              behind.serves.within (first.runs told) (behind.runs told);
        }

-- what may be may be wherever this is so
module _ {may other : Type 0} (further : may → other) {volume : Volume} where
  pub cut_where : {W after : ModelWorld} {last : List Answer} {commands : List Command} {outcomes : List Outcome}
      → IsCut may volume W last commands outcomes after → IsCut other volume W last commands outcomes after
  cut_where Uncut = Uncut
  cut_where (CutIn allowed does) = CutIn (further allowed) does

  abbrev pub front_where : {tells : Type 0} {W after : ModelWorld} {commands : List Command} {old new : List ℕ}
      → ServesFront tells may volume W commands after old new → ServesFront tells other volume W commands after old new
  front_where front = record {
    count = front.count;
    within = front.within;
    outcomes = front.outcomes;
    whole = front.whole;
    last = front.last;
    at_most_one = front.at_most_one;
    middle = front.middle;
    run = front.run;
    more_outcomes = front.more_outcomes;
    cut = cut_where front.cut;
    put = front.put;
  }

  pub world_front_where : {K D : Type 0} {tells : Type 0} {keep : Keep K} {disk : Disk D} {W : ModelWorld}
      {before : Whole} {commands : List Command} {world : Whole} {old new : List ℕ}
      {old_disks new_disks : List (Pair D)}
      → ServesWorldFront tells may keep disk volume W before commands world old new old_disks new_disks
      → ServesWorldFront tells other keep disk volume W before commands world old new old_disks new_disks
  world_front_where front = record {
    after = front.after;
    serves = front_where front.serves;
    caused = front.caused;
    stands = front.stands;
    disks = front.disks;
    fuses = front.fuses;
    runs = front.runs;
  }
