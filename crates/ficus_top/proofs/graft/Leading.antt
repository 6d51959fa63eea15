-- A course is followed from one look to the next.
use Rattle.std.proofs.Common.{◌≡◌, ℕ, ◌+◌, ◌-◌, ◌≤◌, List, [], ◌∷◌, ◌++◌, length, take, drop, refl, sym, ap, ◌∙◌, subst, arith}
use Rattle.std.specs.Prelude.{All}
use Rattle.std.proofs.lemmas.Bool.{ne_eqb}
use Rattle.std.proofs.lemmas.List.{append-nil, append_assoc, drop-append-le, drop-drop, drop-take, drop_at, length-append, length-drop, length-take-le, map-append, take-append-drop, take_at}
use Rattle.std.proofs.lemmas.List.Elements.{All-nil, All-push, All-same}
use Rattle.ficus_disk.specs.declared.disk.Disk.{Ghosts as Disk}
use Rattle.ficus_ids.specs.Members.{IsMember}
use Rattle.ficus_keeper.specs.declared.keep.Keep.{Ghosts as Keep}
use Rattle.ficus_path.specs.declared.path.Base.{Base}
use Rattle.ficus_path.specs.declared.path.Base.TheVariants.{Root}
use Rattle.ficus_path.specs.declared.path.Part.{Part}
use Rattle.ficus_path.specs.declared.path.Path.{Path}
use Rattle.ficus_path.specs.Path.{path_from}
use Rattle.ficus_ids.specs.declared.refusal.Refusal.{Refusal}
use Rattle.ficus_script.specs.declared.answer.Answer.TheVariants.{Refused}
use Rattle.ficus_world.specs.World.{Backed}
use Rattle.ficus_top.specs.declared.graft.courses.Course.{Course}
use Rattle.ficus_top.specs.declared.graft.following.End.{End}
use Rattle.ficus_top.specs.Graft.Answered.{IsUnrefused, Sent, sendings}
use Rattle.ficus_top.specs.Graft.Crossing.{IsFirstCrossing, IsPlain}
use Rattle.ficus_top.specs.declared.graft.following.Stop.{Stop}
use Rattle.ficus_top.specs.declared.graft.following.Stop.TheVariants as stop
use Rattle.ficus_top.specs.Graft.Following.{CourseLeads, Halts, IsRefusedBy, IsStopped, Passes, Reaches, course_path}
use Rattle.ficus_top.specs.Graft.Paths.{base_behind, rest_behind}
use Rattle.ficus_top.specs.Graft.Route.{Follows, Sending, ls, sending}
use Rattle.ficus_top.specs.Graft.Runs.{Disks, EachRuns}
use Rattle.ficus_top.specs.Graft.Route.Follows.{Stays, Crosses}
use Rattle.ficus_top.proofs.graft.Crossings.{always_leads}
use Rattle.ficus_top.proofs.graft.Running.{each_none, each_then}

-- the parts that may lead to volumes, those that may not, and those that are left of the first ones
abbrev pub most_of : Course → List Part
most_of course = take course.most course.parts.now

abbrev pub kept_of : Course → List Part
kept_of course = drop course.most course.parts.now

abbrev pub left_of : Course → ℕ → List Part
left_of course passed = drop passed (most_of course)

-- The course was followed to here: whatever comes of what is left of it comes of the whole, behind these looks.
pub record IsUnderway {K D : Type 0} (told : Type 0) (keep : Keep K) (disk : Disk D) (by volume : ℕ) (course : Course)
    (end : End) (worlds : List (Backed K)) (disks : Disks D) : Type 0 where
  pub passed : List Sent
  pub goes : (looks : List Sending) (last : ℕ) (rest : Path)
      → Follows (length worlds) by (kept_of course) end.volume (base_behind end.passed course.base)
      (left_of course end.passed) looks last rest
      → CourseLeads (length worlds) by volume course (sendings passed ++ looks) last rest
  pub unrefused : All IsUnrefused passed
  pub runs : EachRuns told told keep disk passed worlds worlds disks disks
  pub among : IsMember (length worlds) end.volume
  pub within : end.passed ≤ course.most

-- what is left of the parts that may lead to volumes
pub slice_is : (course : Course) (passed : ℕ) → passed ≤ course.most
    → take (course.most - passed) (drop passed course.parts.now) ≡ left_of course passed
slice_is course passed within =
    let counted : passed + (course.most - passed) ≡ course.most = omega (arith, within) in
    sym (drop-take passed (course.most - passed) course.parts.now)
    ∙ ap (λ (n : ℕ). drop passed (take n course.parts.now)) counted

-- the parts up to the first crossing among them
pub looked_at : (count : ℕ) (course : Course) (passed place next : ℕ)
    (first : IsFirstCrossing count (left_of course passed) place next) → passed ≤ course.most
    → course.most ≤ length course.parts.now
    → take (passed + place + 1 - passed) (drop passed course.parts.now) ≡ first.before ++ first.crossing ∷ []
looked_at count course passed place next first within most =
    let counted : passed ≤ length (most_of course) =
    omega (arith, within, length-take-le course.most course.parts.now most) in
    let parts : drop passed course.parts.now ≡ (first.before ++ first.crossing ∷ []) ++ (first.behind ++ kept_of course) =
    ap (drop passed) (sym (take-append-drop course.most course.parts.now))
    ∙ drop-append-le passed (most_of course) (kept_of course) counted
    ∙ ap (λ (l : List Part). l ++ kept_of course) first.is
    ∙ append_assoc first.before (first.crossing ∷ first.behind) (kept_of course)
    ∙ sym (append_assoc first.before (first.crossing ∷ []) (first.behind ++ kept_of course)) in
    let place_is : length (first.before ++ first.crossing ∷ []) ≡ passed + place + 1 - passed =
    omega (arith, first.counted, length-append first.before (first.crossing ∷ [])) in
    ap (take (passed + place + 1 - passed)) parts
    ∙ take_at (first.before ++ first.crossing ∷ []) (first.behind ++ kept_of course) (passed + place + 1 - passed) place_is

-- the same of equal lists
pub first_as : {count other : ℕ} {parts others : List Part} {place next : ℕ} → count ≡ other → parts ≡ others
    → IsFirstCrossing count parts place next → IsFirstCrossing other others place next
first_as {count} {other} {parts} {others} {place} {next} same alike first =
    subst (λ (n : ℕ). IsFirstCrossing n others place next) same
    (subst (λ (l : List Part). IsFirstCrossing count l place next) alike first)

pub plain_as : {count other : ℕ} {parts others : List Part} → count ≡ other → parts ≡ others
    → All (IsPlain count) parts → All (IsPlain other) others
plain_as {count} {other} {parts} {others} same alike plain =
    subst (λ (n : ℕ). All (IsPlain n) others) same (All-same (IsPlain count) others parts (sym alike) plain)

module _ {K D : Type 0} (told : Type 0) (keep : Keep K) (disk : Disk D) (by volume : ℕ) (course : Course)
    (worlds : List (Backed K)) (disks : Disks D) where
  abbrev At : End → Type 0
  At end = IsUnderway told keep disk by volume course end worlds disks

  -- at first nothing was sent
  pub sets_out : IsMember (length worlds) volume → At (record { volume = volume; passed = 0 })
  sets_out member = record {
    passed = [];
    goes = λ looks last rest follows. follows;
    unrefused = All-nil IsUnrefused;
    runs = each_none worlds disks;
    among = member;
    within = omega arith;
  }

  module _ (end : End) (at : At end) where
    -- where nothing that is left leads on, the course was followed to its end
    pub arrives : course.most ≤ length course.parts.now → All (IsPlain (length worlds)) (left_of course end.passed)
        → Reaches told keep disk by volume course end worlds disks
    arrives most plain =
        let counted : end.passed ≤ length (most_of course) =
        omega (arith, at.within, length-take-le course.most course.parts.now most) in
        let parts : left_of course end.passed ++ kept_of course ≡ drop end.passed course.parts.now =
        sym (drop-append-le end.passed (most_of course) (kept_of course) counted)
        ∙ ap (drop end.passed) (take-append-drop course.most course.parts.now) in
        let rest : rest_behind end.passed (course_path course)
        ≡ path_from (base_behind end.passed course.base) (left_of course end.passed ++ kept_of course) =
        ap (path_from (base_behind end.passed course.base)) (sym parts) in
        record {
          passed = at.passed;
          leads = subst (λ (looks : List Sending). CourseLeads (length worlds) by volume course looks end.volume
              (rest_behind end.passed (course_path course))) (append-nil (sendings at.passed))
              (at.goes [] end.volume (rest_behind end.passed (course_path course)) (Stays plain rest));
          unrefused = at.unrefused;
          runs = at.runs;
          among = at.among;
          within = at.within;
        }

    module _ (place next : ℕ) (first : IsFirstCrossing (length worlds) (left_of course end.passed) place next) where
      -- the look at the directory that the crossing is in
      abbrev pub look_here : Sending
      look_here = sending end.volume
          (ls by (path_from (base_behind end.passed course.base) (first.before ++ first.crossing ∷ [])))

      crossed : (looks : List Sending) (last : ℕ) (rest : Path)
          → Follows (length worlds) by (kept_of course) next Root first.behind looks last rest
          → CourseLeads (length worlds) by volume course (sendings at.passed ++ look_here ∷ looks) last rest
      crossed looks last rest follows =
          at.goes (look_here ∷ looks) last rest
          (Crosses first.before first.behind first.crossing first.is first.plain first.leads follows)

      associated : end.passed + place + 1 ≡ end.passed + (place + 1)
      associated = omega arith

      base_is : base_behind (end.passed + place + 1) course.base ≡ Root
      base_is = rw (ne_eqb (end.passed + place + 1) 0 (λ same. omega (arith, same))) refl

      -- what is left behind it
      behind_is : left_of course (end.passed + place + 1) ≡ first.behind
      behind_is =
          ap (λ (n : ℕ). drop n (most_of course)) associated ∙ sym (drop-drop (place + 1) end.passed (most_of course)) ∙ ap (drop (place + 1)) first.is
          ∙ ap (λ (l : List Part). drop (place + 1) l) (sym (append_assoc first.before (first.crossing ∷ []) first.behind))
          ∙ drop_at (first.before ++ first.crossing ∷ []) first.behind (place + 1)
          (omega (arith, first.counted, length-append first.before (first.crossing ∷ [])))

      -- it isn't refused, and the course goes on
      pub goes_on : course.most ≤ length course.parts.now → Passes told keep disk look_here worlds disks
          → At (record { volume = next; passed = end.passed + place + 1 })
      goes_on most passes =
          let one : Sent = record { what = look_here; answer = passes.answer } in
          record {
            passed = at.passed ++ one ∷ [];
            goes = λ looks last rest follows.
                subst (λ (all : List Sending). CourseLeads (length worlds) by volume course all last rest)
                (sym (ap (λ (l : List Sending). l ++ looks) (map-append (λ (s : Sent). s.what) at.passed (one ∷ []))
                ∙ append_assoc (sendings at.passed) (look_here ∷ []) looks))
                (crossed looks last rest
                (subst (λ (l : List Part). Follows (length worlds) by (kept_of course) next Root l looks last rest)
                behind_is
                (subst (λ (b : Base). Follows (length worlds) by (kept_of course) next b
                (left_of course (end.passed + place + 1)) looks last rest) base_is follows)));
            unrefused = All-push IsUnrefused at.passed one at.unrefused passes.unrefused;
            runs = each_then at.runs passes.runs;
            among = first.leads.among;
            within = omega (
              arith,
              at.within,
              first.counted,
              ap length first.is,
              length-append first.before (first.crossing ∷ first.behind),
              length-drop end.passed (most_of course),
              length-take-le course.most course.parts.now most,
            );
          }

      -- or it is, and that is the answer
      pub halts_here : (refusal : Refusal)
          → EachRuns told told keep disk (record { what = look_here; answer = Refused refusal } ∷ []) worlds worlds disks disks
          → IsStopped told keep disk by volume course refusal worlds disks
      halts_here refusal runs =
          let rest = always_leads (length worlds) by (kept_of course) next Root first.behind in
          record {
            passed = at.passed;
            last = record { what = look_here; answer = Refused refusal };
            behind = rest.looks;
            end = rest.last;
            rest = rest.rest;
            leads = crossed rest.looks rest.last rest.rest rest.follows;
            unrefused = at.unrefused;
            refused = refl;
            runs = each_then at.runs runs;
          }

      -- a look, as the code sends it
      module _ (path : Path) (mid : List (Backed K)) (mid_disks : Disks D)
          (is : path ≡ path_from (base_behind end.passed course.base) (first.before ++ first.crossing ∷ []))
          (same : mid ≡ worlds) (kept : mid_disks ≡ disks) where
        pub goes_on_so : course.most ≤ length course.parts.now
            → Passes told keep disk (sending end.volume (ls by path)) mid mid_disks
            → At (record { volume = next; passed = end.passed + place + 1 })
        goes_on_so most passes =
            goes_on most
            (subst (λ (p : Path). Passes told keep disk (sending end.volume (ls by p)) worlds disks) is
            (subst (λ (w : List (Backed K)). Passes told keep disk (sending end.volume (ls by path)) w disks) same
            (subst (λ (d : Disks D). Passes told keep disk (sending end.volume (ls by path)) mid d) kept passes)))

        pub halts_so : (stop : Stop) → IsRefusedBy told keep disk (sending end.volume (ls by path)) stop mid mid_disks
            → Halts told keep disk by volume course stop worlds disks
        halts_so stop.Memory refused = tt
        halts_so (stop.Refused refusal) refused =
            halts_here refusal
            (subst (λ (p : Path). IsRefusedBy told keep disk (sending end.volume (ls by p)) (stop.Refused refusal) worlds
            disks) is
            (subst (λ (w : List (Backed K)). IsRefusedBy told keep disk (sending end.volume (ls by path))
            (stop.Refused refusal) w disks) same
            (subst (λ (d : Disks D). IsRefusedBy told keep disk (sending end.volume (ls by path)) (stop.Refused refusal)
            mid d) kept refused)))
