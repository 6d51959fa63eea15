-- How a line is answered, by what was sent for it.
use Rattle.std.proofs.Common.{◌≡◌, ◌≢◌, ℕ, ◌-◌, ◌≤◌, List, [], ◌∷◌, ◌++◌, length, take, drop, refl, sym, ap, ap₂, ◌∙◌, subst, inl, inr, arith}
use Rattle.std.specs.Prelude.{All, slice_set}
use Rattle.std.proofs.lemmas.Bool.{cases_eq}
use Rattle.std.proofs.lemmas.List.{append_assoc, get_or-set_other, length-set, map-append}
use Rattle.std.proofs.lemmas.List.Elements.{All-append, All-nil}
use Rattle.std.proofs.lemmas.Option.{get_or_from_slice_get}
use Rattle.ficus_disk.specs.declared.disk.Disk.{Ghosts as Disk}
use Rattle.ficus_ids.specs.Members.{IsMember}
use Rattle.ficus_ids.specs.declared.refusal.Refusal.{Refusal}
use Rattle.ficus_ids.specs.declared.refusal.Refusal.TheVariants as refusal
use Rattle.ficus_keeper.specs.declared.keep.Keep.{Ghosts as Keep}
use Rattle.ficus_path.specs.declared.path.Path.{Path}
use Rattle.ficus_script.specs.declared.answer.Answer.{Answer}
use Rattle.ficus_script.specs.declared.answer.Answer.TheVariants.{Refused}
use Rattle.ficus_script.specs.declared.command.Command.{Command}
use Rattle.ficus_runs.proofs.Numbers.{number_read}
use Rattle.ficus_world.specs.World.{Backed}
use Rattle.ficus_top.specs.declared.graft.courses.Course.{Course}
use Rattle.ficus_top.specs.declared.graft.following.End.{End}
use Rattle.ficus_script.specs.declared.volume_line.VolumeLine.{VolumeLine}
use Rattle.ficus_top.specs.Graft.Answered.{IsUnrefused, Sent, sent_so, sendings}
use Rattle.ficus_top.specs.Graft.Answered.IsAnswered.{AtLook, AtCrossing, AtEnd}
use Rattle.ficus_top.specs.declared.graft.courses.Courses.TheVariants as courses
use Rattle.ficus_top.specs.declared.graft.following.Stop.{Stop}
use Rattle.ficus_top.specs.declared.graft.following.Stop.TheVariants as stop
use Rattle.ficus_top.specs.Graft.Courses.{AreCourses, IsCourse}
use Rattle.ficus_top.specs.Graft.Following.{CourseLeads, Halts, IsStopped, LineHalts, Reaches, course_path}
use Rattle.ficus_top.specs.Graft.Paths.{actor_of, along, crossable, names_entries, paths_of, rest_behind, with_paths}
use Rattle.ficus_top.specs.Graft.Route.{Ending, Follows, LeadsBy, Route, Sending}
use Rattle.ficus_top.specs.Graft.Route.Route.{WithoutPath, WithOne, Together, Parting}
use Rattle.ficus_top.specs.Graft.Route.Ending.{Apart, Arrives}
use Rattle.ficus_top.specs.Graft.Runs.{AnswersLine, Disks, EachRuns, IsCutShort, IsKeptAt, MayBeCut, Sends, StopsLine}
use Rattle.ficus_top.proofs.graft.Commands.{along_one, along_two}
use Rattle.ficus_top.proofs.graft.Crossings.{always_leads}
use Rattle.ficus_top.proofs.graft.Running.{each_none, each_one, each_then, each_where}

-- what stands elsewhere stays
kept_by_set : {A : Type 0} (list : List A) (r v : ℕ) (next : A) → 1 ≤ r → v ≢ r
    → IsKeptAt v list (slice_set list (r - 1) next)
kept_by_set list r v next from_one other x is =
    let one = is.member.at_least in
    let apart : v - 1 ≢ r - 1 = omega arith in
    number_read (slice_set list (r - 1) next) v x x
    (subst (λ n. IsMember n v) (sym (length-set list (r - 1) next)) is.member)
    (get_or-set_other list (r - 1) (v - 1) next x apart ∙ get_or_from_slice_get list (v - 1) x x is.is)

module _ {K D : Type 0} {link told : Type 0} {keep : Keep K} {disk : Disk D} (line : VolumeLine) (old new : List (Backed K))
    (old_disks new_disks : Disks D) where
  -- the paths were followed, and the command was sent
  pub line_ends : (passed : List Sent) (volume : ℕ) (command : Command) (answer : Answer)
      → Route (length old) line (sendings passed) (Arrives volume command) → All IsUnrefused passed
      → EachRuns link told keep disk passed old old old_disks old_disks
      → Sends link told keep disk (sent_so volume command answer) old new old_disks new_disks
      → AnswersLine link told keep disk line answer old new old_disks new_disks
  line_ends passed volume command answer route unrefused runs sends = record {
    sent = passed ++ sent_so volume command answer ∷ [];
    answered = AtEnd passed route unrefused refl;
    runs = each_then runs (each_one (sent_so volume command answer) old new old_disks new_disks sends);
    others = λ v not_last.
        let other : v ≢ volume = λ same. not_last (record {
          front = passed;
          last = sent_so volume command answer;
          is = refl;
          to = sym same;
        }) in (
          subst (λ (list : List (Backed K)). IsKeptAt v old list) (sym sends.set)
              (kept_by_set old volume v sends.next sends.member.at_least other),
          subst (λ (list : Disks D). IsKeptAt v old_disks list) (sym sends.set_disks)
              (kept_by_set old_disks volume v sends.later sends.member.at_least other),
        );
  }

module _ {K D : Type 0} {told : Type 0} {keep : Keep K} {disk : Disk D} (line : VolumeLine) (old new : List (Backed K))
    (old_disks new_disks : Disks D) where
  -- or it may have been cut short
  pub line_cut : (passed : List Sent) (volume : ℕ) (command : Command)
      → Route (length old) line (sendings passed) (Arrives volume command) → All IsUnrefused passed
      → EachRuns told told keep disk passed old old old_disks old_disks
      → MayBeCut told keep disk volume command old new old_disks new_disks
      → StopsLine told keep disk line old new old_disks new_disks
  line_cut passed volume command route unrefused runs (inl same) = inl same
  line_cut passed volume command route unrefused runs (inr cut) = inr (record {
    passed = passed;
    volume = volume;
    command = command;
    route = route;
    unrefused = unrefused;
    runs = runs;
    cut = cut;
  })

module _ {K D : Type 0} {link told : Type 0} {keep : Keep K} {disk : Disk D} (line : VolumeLine) (worlds : List (Backed K))
    (disks : Disks D) where
  -- a look was refused
  pub line_stops : (passed : List Sent) (last : Sent) (behind : List Sending) {ending : Ending} (refusal : Refusal)
      → Route (length worlds) line (sendings passed ++ last.what ∷ behind) ending → All IsUnrefused passed
      → last.answer ≡ Refused refusal → EachRuns link told keep disk (passed ++ last ∷ []) worlds worlds disks disks
      → AnswersLine link told keep disk line (Refused refusal) worlds worlds disks disks
  line_stops passed last behind refusal route unrefused refused runs = record {
    sent = passed ++ last ∷ [];
    answered = AtLook passed last behind route unrefused refused refl;
    runs = runs;
    others = λ v not_last. (λ x is. is, λ x is. is);
  }

  -- the paths lead to different volumes
  pub line_parts : (passed : List Sent) → Route (length worlds) line (sendings passed) Apart → All IsUnrefused passed
      → EachRuns link told keep disk passed worlds worlds disks disks
      → AnswersLine link told keep disk line (Refused refusal.Crossing) worlds worlds disks disks
  line_parts passed route unrefused runs = record {
    sent = passed;
    answered = AtCrossing route unrefused;
    runs = runs;
    others = λ v not_last. (λ x is. is, λ x is. is);
  }

-- where a course leads, its path leads
module _ (count : ℕ) (line : VolumeLine) (course : Course) (path : Path)
    (is : IsCourse (names_entries line.command) course path) where
  pub path_leads : (by : ℕ) → by ≡ actor_of line.command → (looks : List Sending) (end : ℕ) (rest : Path)
      → CourseLeads count by line.volume course looks end rest → LeadsBy count line path looks end rest
  path_leads by actor looks end rest leads =
      subst (λ (p : Path). LeadsBy count line p looks end rest) (sym is.is)
      (subst (λ (most : ℕ). Follows count (actor_of line.command) (drop most course.parts.now) line.volume course.base
      (take most course.parts.now) looks end rest) is.most
      (subst (λ (actor : ℕ). CourseLeads count actor line.volume course looks end rest) actor leads))

  -- what is left of the course is what is left of the path
  pub rest_is : (passed : ℕ) → rest_behind passed (course_path course) ≡ rest_behind passed path
  rest_is passed = ap (rest_behind passed) (sym is.is)

-- two paths lead to one volume or to two
pub ends_somehow : {count : ℕ} {line : VolumeLine} {path other rest left : Path} {looks more : List Sending} {end far : ℕ}
    → paths_of line.command ≡ path ∷ other ∷ [] → LeadsBy count line path looks end rest
    → LeadsBy count line other more far left → (ending : Ending) × Route count line (looks ++ more) ending
ends_somehow {count} {line} {other} {rest} {left} {more} {end} {far} paths leads also = elim (cases_eq end far) [
  | inl same ↦ (
    Arrives end (with_paths rest left line.command),
    Together paths leads (subst (λ v. LeadsBy count line other more v left) (sym same) also) refl refl,
  )
  | inr apart ↦ (Apart, Parting paths leads also refl apart)
]

module _ {K D : Type 0} (told also_told : Type 0) (further : also_told → told) (keep : Keep K) (disk : Disk D) (by : ℕ)
    (line : VolumeLine) (actor : by ≡ actor_of line.command) (worlds : List (Backed K)) (disks : Disks D) where
  module _ (course : Course) (path : Path) (paths : paths_of line.command ≡ path ∷ [])
      (is : IsCourse (names_entries line.command) course path) where
    -- a command with one path: a look was refused
    pub one_stops : (refusal : Refusal) → IsStopped told keep disk by line.volume course refusal worlds disks
        → AnswersLine told also_told keep disk line (Refused refusal) worlds worlds disks disks
    one_stops refusal stopped =
        line_stops line worlds disks stopped.passed stopped.last stopped.behind refusal
        (WithOne paths (path_leads (length worlds) line course path is by actor _ _ _ stopped.leads) refl)
        stopped.unrefused stopped.refused (each_where further stopped.runs)

    -- or it was followed to its end
    one_arrives : (end : End) → (reaches : Reaches told keep disk by line.volume course end worlds disks)
        → Route (length worlds) line (sendings reaches.passed)
        (Arrives end.volume (along (rest_behind end.passed) (rest_behind 0) line.command))
    one_arrives end reaches =
        WithOne paths (path_leads (length worlds) line course path is by actor _ _ _ reaches.leads)
        (along_one (rest_behind end.passed) (rest_behind 0) line.command path paths
        ∙ ap (λ (p : Path). with_paths p p line.command) (sym (rest_is (length worlds) line course path is end.passed)))

    -- what is left of it may have been cut short
    pub one_cut : (end : End) (new : List (Backed K)) (new_disks : Disks D)
        → Reaches told keep disk by line.volume course end worlds disks
        → MayBeCut told keep disk end.volume (along (rest_behind end.passed) (rest_behind 0) line.command) worlds new
        disks new_disks
        → StopsLine told keep disk line worlds new disks new_disks
    one_cut end new new_disks reaches cut =
        line_cut line worlds new disks new_disks reaches.passed end.volume
        (along (rest_behind end.passed) (rest_behind 0) line.command) (one_arrives end reaches) reaches.unrefused
        reaches.runs cut

    -- or it was sent
    pub one_ends : (end : End) (new : List (Backed K)) (new_disks : Disks D) (answer : Answer)
        → Reaches told keep disk by line.volume course end worlds disks
        → Sends told also_told keep disk
        (sent_so end.volume (along (rest_behind end.passed) (rest_behind 0) line.command) answer) worlds new disks
        new_disks
        → AnswersLine told also_told keep disk line answer worlds new disks new_disks
    one_ends end new new_disks answer reaches sends =
        line_ends line worlds new disks new_disks reaches.passed end.volume
        (along (rest_behind end.passed) (rest_behind 0) line.command) answer
        (one_arrives end reaches) reaches.unrefused (each_where further reaches.runs) sends

  module _ (first second : Course) (path other : Path) (paths : paths_of line.command ≡ path ∷ other ∷ [])
      (is : IsCourse (names_entries line.command) first path)
      (also : IsCourse (names_entries line.command) second other) where
    -- a command with two: a look on the first was refused
    pub first_stops : (refusal : Refusal) → IsStopped told keep disk by line.volume first refusal worlds disks
        → AnswersLine told also_told keep disk line (Refused refusal) worlds worlds disks disks
    first_stops refusal stopped =
        let leads = path_leads (length worlds) line first path is by actor _ _ _ stopped.leads in
        let most = crossable (names_entries line.command) other.parts in
        let more = always_leads (length worlds) (actor_of line.command) (drop most other.parts) line.volume other.base
        (take most other.parts) in
        let route = ends_somehow paths leads more.follows in
        line_stops line worlds disks stopped.passed stopped.last (stopped.behind ++ more.looks) refusal
        (subst (λ (looks : List Sending). Route (length worlds) line looks route.0)
        (append_assoc (sendings stopped.passed) (stopped.last.what ∷ stopped.behind) more.looks) route.1)
        stopped.unrefused stopped.refused (each_where further stopped.runs)

    module _ (end : End) (reaches : Reaches told keep disk by line.volume first end worlds disks) where
      leads : LeadsBy (length worlds) line path (sendings reaches.passed) end.volume
          (rest_behind end.passed (course_path first))
      leads = path_leads (length worlds) line first path is by actor _ _ _ reaches.leads

      -- a look on the second was
      pub second_stops : (refusal : Refusal) → IsStopped told keep disk by line.volume second refusal worlds disks
          → AnswersLine told also_told keep disk line (Refused refusal) worlds worlds disks disks
      second_stops refusal stopped =
          let more = path_leads (length worlds) line second other also by actor _ _ _ stopped.leads in
          let route = ends_somehow paths leads more in
          let passed = reaches.passed ++ stopped.passed in
          let looks : sendings reaches.passed ++ (sendings stopped.passed ++ stopped.last.what ∷ stopped.behind)
          ≡ sendings passed ++ stopped.last.what ∷ stopped.behind =
          sym (append_assoc (sendings reaches.passed) (sendings stopped.passed) (stopped.last.what ∷ stopped.behind))
          ∙ ap (λ (l : List Sending). l ++ stopped.last.what ∷ stopped.behind)
          (sym (map-append (λ (s : Sent). s.what) reaches.passed stopped.passed)) in
          line_stops line worlds disks passed stopped.last stopped.behind refusal
          (subst (λ (l : List Sending). Route (length worlds) line l route.0) looks route.1)
          (All-append IsUnrefused reaches.passed stopped.passed reaches.unrefused stopped.unrefused) stopped.refused
          (subst (λ (sent : List Sent). EachRuns told also_told keep disk sent worlds worlds disks disks)
          (sym (append_assoc reaches.passed stopped.passed (stopped.last ∷ [])))
          (each_where further (each_then reaches.runs stopped.runs)))

      module _ (far : End) (reaches_too : Reaches told keep disk by line.volume second far worlds disks) where
        more : LeadsBy (length worlds) line other (sendings reaches_too.passed) far.volume
            (rest_behind far.passed (course_path second))
        more = path_leads (length worlds) line second other also by actor _ _ _ reaches_too.leads

        passed : List Sent
        passed = reaches.passed ++ reaches_too.passed

        looks_are : sendings reaches.passed ++ sendings reaches_too.passed ≡ sendings passed
        unfolding passed
        looks_are = sym (map-append (λ (s : Sent). s.what) reaches.passed reaches_too.passed)

        unrefused : All IsUnrefused passed
        unfolding passed
        unrefused = All-append IsUnrefused reaches.passed reaches_too.passed reaches.unrefused reaches_too.unrefused

        looked : EachRuns told told keep disk passed worlds worlds disks disks
        unfolding passed
        looked = each_then reaches.runs reaches_too.runs

        runs : EachRuns told also_told keep disk passed worlds worlds disks disks
        runs = each_where further looked

        -- they lead to different volumes
        pub two_part : end.volume ≢ far.volume
            → AnswersLine told also_told keep disk line (Refused refusal.Crossing) worlds worlds disks disks
        two_part apart =
            line_parts line worlds disks passed
            (Parting paths leads more (sym looks_are) apart)
            unrefused runs

        -- or to one
        two_arrive : end.volume ≡ far.volume → Route (length worlds) line (sendings passed)
            (Arrives end.volume (along (rest_behind end.passed) (rest_behind far.passed) line.command))
        two_arrive same =
            Together paths leads
            (subst (λ v. LeadsBy (length worlds) line other (sendings reaches_too.passed) v
            (rest_behind far.passed (course_path second))) (sym same) more) (sym looks_are)
            (along_two (rest_behind end.passed) (rest_behind far.passed) line.command path other paths
            ∙ ap₂ (λ (p q : Path). with_paths p q line.command)
            (sym (rest_is (length worlds) line first path is end.passed))
            (sym (rest_is (length worlds) line second other also far.passed)))

        -- where what is left of the command may have been cut short
        pub two_cut : (new : List (Backed K)) (new_disks : Disks D) → end.volume ≡ far.volume
            → MayBeCut told keep disk end.volume
            (along (rest_behind end.passed) (rest_behind far.passed) line.command) worlds new disks new_disks
            → StopsLine told keep disk line worlds new disks new_disks
        two_cut new new_disks same cut =
            line_cut line worlds new disks new_disks passed end.volume
            (along (rest_behind end.passed) (rest_behind far.passed) line.command) (two_arrive same) unrefused
            looked cut

        -- or was sent
        pub two_end : (new : List (Backed K)) (new_disks : Disks D) (answer : Answer) → end.volume ≡ far.volume
            → Sends told also_told keep disk
            (sent_so end.volume (along (rest_behind end.passed) (rest_behind far.passed) line.command) answer) worlds new
            disks new_disks
            → AnswersLine told also_told keep disk line answer worlds new disks new_disks
        two_end new new_disks answer same sends =
            let sent = along (rest_behind end.passed) (rest_behind far.passed) line.command in
            line_ends line worlds new disks new_disks passed end.volume sent answer
            (two_arrive same) unrefused runs sends

-- a command without a path
pub without_path : {K D : Type 0} {link told : Type 0} {keep : Keep K} {disk : Disk D} (line : VolumeLine)
    (old new : List (Backed K)) (old_disks new_disks : Disks D) (answer : Answer) → paths_of line.command ≡ []
    → Sends link told keep disk (sent_so line.volume line.command answer) old new old_disks new_disks
    → AnswersLine link told keep disk line answer old new old_disks new_disks
without_path line old new old_disks new_disks answer none sends =
    line_ends line old new old_disks new_disks [] line.volume line.command answer (WithoutPath none)
    (All-nil IsUnrefused) (each_none old old_disks) sends

-- it may have been cut short
pub pathless_cut : {K D : Type 0} {told : Type 0} {keep : Keep K} {disk : Disk D} (line : VolumeLine)
    (old new : List (Backed K)) (old_disks new_disks : Disks D) → paths_of line.command ≡ []
    → IsCutShort told keep disk line.volume line.command old new old_disks new_disks
    → StopsLine told keep disk line old new old_disks new_disks
pathless_cut line old new old_disks new_disks none cut =
    line_cut line old new old_disks new_disks [] line.volume line.command (WithoutPath none) (All-nil IsUnrefused)
    (each_none old old_disks) (inr cut)

pub cut_as : {K D : Type 0} {told : Type 0} {keep : Keep K} {disk : Disk D} {v : ℕ} {command : Command}
    {old mid new : List (Backed K)} {old_disks mid_disks new_disks : Disks D} → mid ≡ old → mid_disks ≡ old_disks
    → MayBeCut told keep disk v command mid new mid_disks new_disks
    → MayBeCut told keep disk v command old new old_disks new_disks
cut_as {told} {keep} {disk} {v} {command} {old} {mid} {new} {old_disks} {mid_disks} {new_disks} same kept cut =
    subst (λ (w : List (Backed _)). MayBeCut told keep disk v command w new old_disks new_disks) same
    (subst (λ (d : Disks _). MayBeCut told keep disk v command mid new d new_disks) kept cut)

-- the same of equal worlds and disks
pub halts_as : {K D : Type 0} (link told : Type 0) (keep : Keep K) (disk : Disk D) (line : VolumeLine) (stop : Stop)
    {old new : List (Backed K)} {old_disks new_disks : Disks D} → new ≡ old → new_disks ≡ old_disks
    → LineHalts link told keep disk line stop old old old_disks old_disks
    → LineHalts link told keep disk line stop old new old_disks new_disks
halts_as link told keep disk line stop {old} {new} {old_disks} {new_disks} same kept halts =
    subst (λ (w : List (Backed _)). LineHalts link told keep disk line stop old w old_disks new_disks) (sym same)
    (subst (λ (d : Disks _). LineHalts link told keep disk line stop old old old_disks d) (sym kept) halts)

pub sends_as : {K D : Type 0} {link told : Type 0} {keep : Keep K} {disk : Disk D} {one : Sent} {old mid new : List (Backed K)}
    {old_disks mid_disks new_disks : Disks D} → mid ≡ old → mid_disks ≡ old_disks
    → Sends link told keep disk one mid new mid_disks new_disks → Sends link told keep disk one old new old_disks new_disks
sends_as {link} {told} {keep} {disk} {one} {old} {mid} {new} {old_disks} {mid_disks} {new_disks} same kept sends =
    subst (λ (w : List (Backed _)). Sends link told keep disk one w new old_disks new_disks) same
    (subst (λ (d : Disks _). Sends link told keep disk one mid new d new_disks) kept sends)

module _ {K D : Type 0} (told also_told : Type 0) (further : also_told → told) (keep : Keep K) (disk : Disk D)
    (line : VolumeLine) (worlds : List (Backed K)) (disks : Disks D) where
  -- why a line with one path stopped
  pub one_halts : (by : ℕ) (course : Course) (stop : Stop) (new : List (Backed K)) (new_disks : Disks D)
      → AreCourses line.command (courses.One by course) → new ≡ worlds → new_disks ≡ disks
      → Halts told keep disk by line.volume course stop worlds disks
      → LineHalts told also_told keep disk line stop worlds new disks new_disks
  one_halts by course stop.Memory new new_disks are same kept halts = tt
  one_halts by course (stop.Refused refusal) new new_disks (actor, path, paths, is) same kept halts =
      halts_as told also_told keep disk line (stop.Refused refusal) same kept
      (one_stops told also_told further keep disk by line actor worlds disks course path paths is refusal halts)

  -- or with two, at the first or the second
  pub first_halts : (by : ℕ) (first second : Course) (stop : Stop) (new : List (Backed K)) (new_disks : Disks D)
      → AreCourses line.command (courses.Two by first second) → new ≡ worlds → new_disks ≡ disks
      → Halts told keep disk by line.volume first stop worlds disks
      → LineHalts told also_told keep disk line stop worlds new disks new_disks
  first_halts by first second stop.Memory new new_disks are same kept halts = tt
  first_halts by first second (stop.Refused refusal) new new_disks (actor, path, other, paths, is, also) same kept halts =
      halts_as told also_told keep disk line (stop.Refused refusal) same kept
      (first_stops told also_told further keep disk by line actor worlds disks first second path other paths is also
      refusal halts)

  pub second_halts : (by : ℕ) (first second : Course) (end : End) (stop : Stop) (mid new : List (Backed K))
      (mid_disks new_disks : Disks D) → AreCourses line.command (courses.Two by first second) → mid ≡ worlds
      → mid_disks ≡ disks → new ≡ mid → new_disks ≡ mid_disks
      → Reaches told keep disk by line.volume first end worlds disks
      → Halts told keep disk by line.volume second stop mid mid_disks
      → LineHalts told also_told keep disk line stop worlds new disks new_disks
  second_halts by first second end stop.Memory mid new mid_disks new_disks are begun kept_first same kept reaches halts = tt
  second_halts by first second end (stop.Refused refusal) mid new mid_disks new_disks (actor, path, other, paths, is, also)
      begun kept_first same kept reaches halts =
      halts_as told also_told keep disk line (stop.Refused refusal) (same ∙ begun) (kept ∙ kept_first)
      (second_stops told also_told further keep disk by line actor worlds disks first second path other paths is also
      end reaches refusal
      (subst (λ (w : List (Backed K)). IsStopped told keep disk by line.volume second refusal w disks) begun
      (subst (λ (d : Disks D). IsStopped told keep disk by line.volume second refusal mid d) kept_first halts)))

  pub reached_as : (by : ℕ) (course : Course) (end : End) (mid : List (Backed K)) (mid_disks : Disks D) → mid ≡ worlds
      → mid_disks ≡ disks → Reaches told keep disk by line.volume course end mid mid_disks
      → Reaches told keep disk by line.volume course end worlds disks
  reached_as by course end mid mid_disks begun kept reaches =
      subst (λ (w : List (Backed K)). Reaches told keep disk by line.volume course end w disks) begun
      (subst (λ (d : Disks D). Reaches told keep disk by line.volume course end mid d) kept reaches)

  -- the paths lead to different volumes
  pub parted_halts : (by : ℕ) (first second : Course) (end far : End) (new : List (Backed K)) (new_disks : Disks D)
      → AreCourses line.command (courses.Two by first second) → new ≡ worlds → new_disks ≡ disks
      → Reaches told keep disk by line.volume first end worlds disks
      → Reaches told keep disk by line.volume second far worlds disks → end.volume ≢ far.volume
      → LineHalts told also_told keep disk line (stop.Refused refusal.Crossing) worlds new disks new_disks
  parted_halts by first second end far new new_disks (actor, path, other, paths, is, also) same kept reaches reaches_too
      apart =
      halts_as told also_told keep disk line (stop.Refused refusal.Crossing) same kept
      (two_part told also_told further keep disk by line actor worlds disks first second path other paths is also end
      reaches far reaches_too apart)

  -- what is left of the command may have been cut short
  pub one_stays : (by : ℕ) (course : Course) (end : End) (mid new : List (Backed K)) (mid_disks new_disks : Disks D)
      → AreCourses line.command (courses.One by course) → mid ≡ worlds → mid_disks ≡ disks
      → Reaches told keep disk by line.volume course end worlds disks
      → MayBeCut told keep disk end.volume (along (rest_behind end.passed) (rest_behind 0) line.command) mid new
      mid_disks new_disks
      → StopsLine told keep disk line worlds new disks new_disks
  one_stays by course end mid new mid_disks new_disks (actor, path, paths, is) same kept reaches cut =
      one_cut told also_told further keep disk by line actor worlds disks course path paths is end new new_disks reaches
      (cut_as same kept cut)

  pub two_stay : (by : ℕ) (first second : Course) (end far : End) (mid new : List (Backed K))
      (mid_disks new_disks : Disks D) → AreCourses line.command (courses.Two by first second)
      → mid ≡ worlds → mid_disks ≡ disks → Reaches told keep disk by line.volume first end worlds disks
      → Reaches told keep disk by line.volume second far worlds disks → end.volume ≡ far.volume
      → MayBeCut told keep disk end.volume (along (rest_behind end.passed) (rest_behind far.passed) line.command) mid new
      mid_disks new_disks
      → StopsLine told keep disk line worlds new disks new_disks
  two_stay by first second end far mid new mid_disks new_disks (actor, path, other, paths, is, also) same kept reaches
      reaches_too together cut =
      two_cut told also_told further keep disk by line actor worlds disks first second path other paths is also end
      reaches far reaches_too new new_disks together (cut_as same kept cut)

  -- or was sent
  pub one_answers : (by : ℕ) (course : Course) (end : End) (mid new : List (Backed K)) (mid_disks new_disks : Disks D)
      (answer : Answer) → AreCourses line.command (courses.One by course) → mid ≡ worlds → mid_disks ≡ disks
      → Reaches told keep disk by line.volume course end worlds disks
      → Sends told also_told keep disk
      (sent_so end.volume (along (rest_behind end.passed) (rest_behind 0) line.command) answer) mid new mid_disks
      new_disks
      → AnswersLine told also_told keep disk line answer worlds new disks new_disks
  one_answers by course end mid new mid_disks new_disks answer (actor, path, paths, is) same kept reaches sends =
      one_ends told also_told further keep disk by line actor worlds disks course path paths is end new new_disks answer
      reaches (sends_as same kept sends)

  pub two_answers : (by : ℕ) (first second : Course) (end far : End) (mid new : List (Backed K))
      (mid_disks new_disks : Disks D) (answer : Answer) → AreCourses line.command (courses.Two by first second)
      → mid ≡ worlds → mid_disks ≡ disks → Reaches told keep disk by line.volume first end worlds disks
      → Reaches told keep disk by line.volume second far worlds disks → end.volume ≡ far.volume
      → Sends told also_told keep disk
      (sent_so end.volume (along (rest_behind end.passed) (rest_behind far.passed) line.command) answer) mid new
      mid_disks new_disks
      → AnswersLine told also_told keep disk line answer worlds new disks new_disks
  two_answers by first second end far mid new mid_disks new_disks answer (actor, path, other, paths, is, also) same kept
      reaches reaches_too together sends =
      two_end told also_told further keep disk by line actor worlds disks first second path other paths is also end
      reaches far reaches_too new new_disks answer together (sends_as same kept sends)
