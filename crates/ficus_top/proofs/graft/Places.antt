-- One of several volumes, in its place among them.
use Rattle.std.proofs.Common.{◌≡◌, ℕ, ◌-◌, ◌+◌, ◌≤◌, List, [], ◌∷◌, refl, sym, ap, ◌∙◌, subst, inl, inr, arith}
use Rattle.std.specs.Prelude.{Option, Some, Result, Ok, Err, IfErr, IfOk, OnErr, Vec, vec_items, slice_set}
use Rattle.std.specs.declared.alloc.Global.{Global}
use Rattle.std.proofs.lemmas.List.{length-set}
use Rattle.ficus_disk.specs.declared.disk.Disk.{Ghosts as Disk}
use Rattle.ficus_disk.specs.declared.pair.Pair.{Pair}
use Rattle.ficus_ids.specs.declared.memory.Memory.{Memory}
use Rattle.ficus_ids.specs.declared.refusal.Refusal.{Refusal}
use Rattle.ficus_keeper.specs.declared.keep.Keep.{Ghosts as Keep}
use Rattle.ficus_model.specs.Lawful.{Volume}
use Rattle.ficus_script.specs.declared.answer.Answer.{Answer}
use Rattle.ficus_script.specs.declared.answer.Answer.TheVariants.{Refused}
use Rattle.ficus_script.specs.declared.command.Command.{Command}
use Rattle.ficus_runs.proofs.Numbers.{number_once}
use Rattle.ficus_runs.proofs.Replaced.{replaced}
use Rattle.ficus_runs.specs.ModelWorld.{ModelWorld}
use Rattle.ficus_runs.specs.Numbered.{IsNumbered}
use Rattle.ficus_path.specs.declared.path.Path.{Path}
use Rattle.ficus_world.specs.Follows.{FollowsOn, StopsOn, TellsFor}
use Rattle.ficus_world.specs.Stepped.{CutOn, Stepped}
use Rattle.ficus_world.specs.World.{Backed, WorldStandsFor, foreseen, most_unforeseen}
use Rattle.ficus_world.proofs.Lifting.Sets.{set_same}
use Rattle.ficus_top.specs.declared.graft.following.Stop.{Stop}
use Rattle.ficus_top.specs.declared.graft.following.Stop.TheVariants as stop
use Rattle.ficus_top.specs.Graft.Answered.{Sent, sent_so}
use Rattle.ficus_top.specs.Graft.Following.{IsRefusedBy}
use Rattle.ficus_top.specs.Graft.Paths.{along}
use Rattle.ficus_top.specs.Graft.Route.{Sending, ls}
use Rattle.ficus_world.specs.Disks.{IsBacked}
use Rattle.ficus_top.specs.Graft.Runs.{AreHeld, Disks, EachRuns, ForeseeFew, IsCutShort, MayBeCut, Sends}
use Rattle.ficus_top.proofs.graft.Commands.{tells_along}
use Rattle.ficus_top.proofs.graft.Running.{each_one, each_where}

module _ {K D : Type 0} (keep : Keep K) (disk : Disk D) (worlds : List (Backed K)) (disks : Disks D) (v : ℕ)
    (world next : Backed K) (pairs later : Vec (Pair D) Global) (is : IsNumbered worlds v world)
    (of : IsNumbered disks v pairs) where
  -- the command was sent there, and answered
  pub sends_at : (link told : Type 0) (command : Command) (result : Result Answer Memory)
      → IfOk result (λ answer. Stepped link keep disk world.whole command answer next.whole (vec_items pairs)
      (vec_items later))
      → (told → (volume : Volume) (W : ModelWorld) → WorldStandsFor volume W world.whole
      → IfOk result (λ answer. FollowsOn keep disk volume W world.whole command answer next.whole (vec_items pairs)
      (vec_items later)))
      → IfOk result (λ answer. Sends link told keep disk (sent_so v command answer) worlds (slice_set worlds (v - 1) next)
      disks (slice_set disks (v - 1) later))
  sends_at link told command (Err memory) stepped follows = tt
  sends_at link told command (Ok answer) stepped follows = record {
    next = next;
    later = later;
    member = is.member;
    set = refl;
    set_disks = refl;
    steps = record {
      world = world;
      pairs = pairs;
      next = next;
      later = later;
      is = is;
      of = of;
      set = refl;
      set_disks = refl;
      step = stepped;
    };
    follows = λ is_told volume W own own_pairs here there stands.
        let same : world ≡ own = number_once is here in
        let alike : pairs ≡ own_pairs = number_once of there in
        let standing : WorldStandsFor volume W world.whole =
        subst (λ (w : Backed K). WorldStandsFor volume W w.whole) (sym same) stands in
        subst (λ (w : Backed K). FollowsOn keep disk volume W w.whole command answer next.whole (vec_items own_pairs)
        (vec_items later)) same
        (subst (λ (p : Vec (Pair D) Global). FollowsOn keep disk volume W world.whole command answer next.whole
        (vec_items p) (vec_items later)) alike (follows is_told volume W standing));
  }

  -- or it was cut short
  pub cut_at : (told : Type 0) (command : Command) (result : Result Answer Memory)
      → (told → (volume : Volume) (W : ModelWorld) → WorldStandsFor volume W world.whole
      → OnErr result (StopsOn keep disk volume W world.whole command next.whole (vec_items pairs) (vec_items later)))
      → OnErr result (CutOn told keep disk command world.whole next.whole (vec_items pairs) (vec_items later))
      → OnErr result (IsCutShort told keep disk v command worlds (slice_set worlds (v - 1) next) disks
      (slice_set disks (v - 1) later))
  cut_at told command (Ok answer) stops cut = tt
  cut_at told command (Err memory) stops cut = record {
    next = next;
    later = later;
    member = is.member;
    set = refl;
    set_disks = refl;
    stops = λ is_told volume W own own_pairs here there stands.
        let same : world ≡ own = number_once is here in
        let alike : pairs ≡ own_pairs = number_once of there in
        let standing : WorldStandsFor volume W world.whole =
        subst (λ (w : Backed K). WorldStandsFor volume W w.whole) (sym same) stands in
        subst (λ (w : Backed K). StopsOn keep disk volume W w.whole command next.whole (vec_items own_pairs)
        (vec_items later)) same
        (subst (λ (p : Vec (Pair D) Global). StopsOn keep disk volume W world.whole command next.whole (vec_items p)
        (vec_items later)) alike (stops is_told volume W standing));
    cut = λ own own_pairs here there.
        let same : world ≡ own = number_once is here in
        let alike : pairs ≡ own_pairs = number_once of there in
        subst (λ (w : Backed K). CutOn told keep disk command w.whole next.whole (vec_items own_pairs) (vec_items later)) same
        (subst (λ (p : Vec (Pair D) Global). CutOn told keep disk command world.whole next.whole (vec_items p) (vec_items later))
        alike cut);
  }

  -- the disks are still those of the worlds
  pub held_at : AreHeld keep disk worlds disks → IsBacked keep disk next (vec_items later)
      → AreHeld keep disk (slice_set worlds (v - 1) next) (slice_set disks (v - 1) later)
  held_at held here = record {
    count = length-set disks (v - 1) later ∙ held.count ∙ sym (length-set worlds (v - 1) next);
    each = λ u own own_pairs now becomes.
        elim (replaced worlds v u next own is.member.at_least now) [
          | inl mine ↦ elim (replaced disks v u later own_pairs of.member.at_least becomes) [
            | inl ours ↦
                subst (λ (w : Backed K). IsBacked keep disk w (vec_items own_pairs)) (sym mine.1)
                (subst (λ (p : Vec (Pair D) Global). IsBacked keep disk next (vec_items p)) (sym ours.1) here)
            | inr theirs ↦ absurd (theirs.0 (sym mine.0))
          ]
          | inr others ↦ elim (replaced disks v u later own_pairs of.member.at_least becomes) [
            | inl ours ↦ absurd (others.0 (sym ours.0))
            | inr theirs ↦ held.each u own own_pairs others.1 theirs.1
          ]
        ];
  }

  -- there is room for what comes
  pub room_at : (limit : ℕ) → ForeseeFew limit worlds → foreseen next.whole ≤ foreseen world.whole + most_unforeseen
      → ForeseeFew (limit + most_unforeseen) (slice_set worlds (v - 1) next)
  room_at limit room grows u own now =
      elim (replaced worlds v u next own is.member.at_least now) [
        | inl mine ↦
            let few = room v world is in
            let same : foreseen own.whole ≡ foreseen next.whole = ap (λ (w : Backed K). foreseen w.whole) mine.1 in
            omega (arith, few, same, grows)
        | inr others ↦ let few = room u own others.1 in omega (arith, few)
      ]

  -- what is as it was changes nothing
  pub same_at : next ≡ world → slice_set worlds (v - 1) next ≡ worlds
  same_at same = ap (λ (w : Backed K). slice_set worlds (v - 1) w) same ∙ set_same worlds v world is

  pub same_disks_at : later ≡ pairs → slice_set disks (v - 1) later ≡ disks
  same_disks_at same =
      ap (λ (p : Vec (Pair D) Global). slice_set disks (v - 1) p) same ∙ set_same disks v pairs of

-- less has to be told
pub sends_where : {K D : Type 0} {link told more : Type 0} {keep : Keep K} {disk : Disk D} {one : Sent}
    {old new : List (Backed K)} {old_disks new_disks : Disks D} → (more → told)
    → Sends link told keep disk one old new old_disks new_disks → Sends link more keep disk one old new old_disks new_disks
sends_where further sends = record {
  next = sends.next;
  later = sends.later;
  member = sends.member;
  set = sends.set;
  set_disks = sends.set_disks;
  steps = sends.steps;
  follows = λ is_told. sends.follows (further is_told);
}

module _ {K D : Type 0} (keep : Keep K) (disk : Disk D) (link tells : Type 0) (v : ℕ) (old new : List (Backed K))
    (old_disks new_disks : Disks D) where
  -- what is left of the command was sent in its place
  pub sends_rest : (f g : Path → Path) (command rest : Command) (result : Result Answer Memory) → rest ≡ along f g command
      → IfOk result (λ answer. Sends link (link × TellsFor tells rest) keep disk (sent_so v rest answer) old new old_disks
      new_disks)
      → IfOk result (λ answer. Sends link (link × TellsFor tells command) keep disk (sent_so v (along f g command) answer) old
      new old_disks new_disks)
  sends_rest f g command rest (Err memory) same sends = tt
  sends_rest f g command rest (Ok answer) same sends =
      sends_where (λ told. (told.0, tells_along f g tells command told.1))
      (subst (λ (it : Command). Sends link (link × TellsFor tells it) keep disk (sent_so v it answer) old new old_disks
      new_disks) same sends)

  -- or that was cut short
  pub cuts_rest : (f g : Path → Path) (command rest : Command) (result : Result Answer Memory) → rest ≡ along f g command
      → OnErr result (IsCutShort link keep disk v rest old new old_disks new_disks)
      → OnErr result (MayBeCut link keep disk v (along f g command) old new old_disks new_disks)
  cuts_rest f g command rest (Ok answer) same cut = tt
  cuts_rest f g command rest (Err memory) same cut =
      inr (subst (λ (it : Command). IsCutShort link keep disk v it old new old_disks new_disks) same cut)

  -- a look was sent, and changed nothing
  pub look_runs : (by : ℕ) (path own : Path) (answer : Answer) → path ≡ own → new ≡ old → new_disks ≡ old_disks
      → Sends link (link × TellsFor tells (ls by path)) keep disk (sent_so v (ls by path) answer) old new old_disks new_disks
      → EachRuns link link keep disk (sent_so v (ls by own) answer ∷ []) old old old_disks old_disks
  look_runs by path own answer same unchanged kept sends =
      subst (λ (p : Path). EachRuns link link keep disk (sent_so v (ls by p) answer ∷ []) old old old_disks old_disks) same
      (subst (λ (w : List (Backed K)). EachRuns link link keep disk (sent_so v (ls by path) answer ∷ []) old w old_disks
      old_disks) unchanged
      (subst (λ (d : Disks D). EachRuns link link keep disk (sent_so v (ls by path) answer ∷ []) old new old_disks d) kept
      (each_where (λ told. (told, λ none. absurd none)) (each_one (sent_so v (ls by path) answer) old new old_disks new_disks sends))))

-- what stops for a refusal that was found stops for what was sent; want of memory is free
pub stops_refused : {K D A : Type 0} (keep : Keep K) (disk : Disk D) (link : Type 0) (what : Sending)
    (worlds : List (Backed K)) (disks : Disks D) (found : Result (Option Refusal) Memory) (result : Result A Stop)
    → ((why : Refusal) → found ≡ Ok (Some why)
    → EachRuns link link keep disk (record { what = what; answer = Refused why } ∷ []) worlds worlds disks disks)
    → IfErr result (λ why. (refusal : Refusal) → why ≡ stop.Refused refusal → found ≡ Ok (Some refusal))
    → IfErr result (λ why. IsRefusedBy link keep disk what why worlds disks)
stops_refused keep disk link what worlds disks found (Ok done) runs refused = tt
stops_refused keep disk link what worlds disks found (Err stop.Memory) runs refused = tt
stops_refused keep disk link what worlds disks found (Err (stop.Refused why)) runs refused = runs why (refused why refl)
