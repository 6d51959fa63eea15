-- What the modes promise, in the words of those who rely on it.
use Rattle.std.proofs.Common.{◌≡◌, ◌⊎◌, ℕ, ◌+◌, ◌-◌, ◌<◌, suc, zero, List, [], ◌∷◌, ◌++◌, get_or, length, take, Option, Some, refl, sym, ap, subst, ◌∙◌, inl, inr, arith, append_assoc}
use Rattle.std.proofs.lemmas.List.{append-nil, take_at}
use Rattle.std.proofs.lemmas.Option.{get_or_from_slice_get}
use Rattle.ficus_disk.specs.declared.disk.Disk.{Ghosts as Disk}
use Rattle.ficus_disk.specs.declared.pair.Pair.{Pair}
use Rattle.ficus_keeper.specs.Kept.{Kept}
use Rattle.ficus_loop.specs.Trail.{CutTrail, Killed, KilledFront, Trail, whole}
use Rattle.ficus_loop.specs.Trail.Trail.{Joined, Still}
use Rattle.ficus_model.specs.Known.{Knows}
use Rattle.ficus_model.specs.Lawful.{IsLawful, MayCome, Volume}
use Rattle.ficus_model.specs.Live.{IsLive, IsRemoved, ModelEntry}
use Rattle.ficus_model.specs.declared.event.Event.{Event}
use Rattle.ficus_laws.proofs.Lawful.{lawful_more}
use Rattle.ficus_opening.specs.Check.Lines.{numbered_lines}
use Rattle.ficus_runs.specs.ModelWorld.{Down, ModelWorld}
use Rattle.ficus_runs.specs.Numbered.{IsNumbered}
use Rattle.ficus_runs.specs.Outcome.{Outcome}
use Rattle.ficus_runs.specs.Run.{Run}
use Rattle.ficus_runs.specs.Run.Run.{End, Then}
use Rattle.ficus_runs.proofs.Extending.{Extends, as_it_was, run_extends}
use Rattle.ficus_script.specs.declared.answer.Answer.{Answer}
use Rattle.ficus_script.specs.declared.command.Command.{Command}
use Rattle.ficus_top.specs.Headline.{IsSound}
use Rattle.ficus_world.specs.Stand.{ArePending}

lines_at : {A : Type 0} (line : ℕ → A → List ℕ) (first : ℕ) (list : List A) (k : ℕ) (d : A) → k < length list
    → (front : List ℕ) × (rest : List ℕ)
    × (numbered_lines line first list ≡ front ++ (line (first + k) (get_or list k d) ++ rest))
lines_at line first [] k d within = absurd (omega (arith, within))
lines_at line first (one ∷ others) zero d within = (
  [],
  numbered_lines line (first + 1) others,
  let same : first ≡ first + 0 = omega arith in
      ap (λ (n : ℕ). line n one ++ numbered_lines line (first + 1) others) same,
)
lines_at line first (one ∷ others) (suc k) d within =
    let behind = lines_at line (first + 1) others k d (omega (arith, within)) in
    let same : first + 1 + k ≡ first + suc k = omega arith in (
      line first one ++ behind.0,
      behind.1,
      ap (λ (text : List ℕ). line first one ++ text) behind.2
          ∙ ap (λ (n : ℕ). line first one ++ (behind.0 ++ (line n (get_or others k d) ++ behind.1))) same
          ∙ sym (append_assoc (line first one) behind.0 (line (first + suc k) (get_or others k d) ++ behind.1)),
    )

-- the line of each of several stands among the lines of all
pub lines_have : {A : Type 0} (line : ℕ → A → List ℕ) (list : List A) (r : ℕ) (one : A) → IsNumbered list r one
    → (front : List ℕ) × (rest : List ℕ) × (numbered_lines line 1 list ≡ front ++ (line r one ++ rest))
lines_have line list r one is =
    let low = is.member.at_least in
    let high = is.member.at_most in
    let at = lines_at line 1 list (r - 1) one (omega (arith, low, high)) in
    let place : 1 + (r - 1) ≡ r = omega (arith, low) in
    let read : get_or list (r - 1) one ≡ one = get_or_from_slice_get list (r - 1) one one is.is in (
      at.0,
      at.1,
      at.2 ∙ ap (λ (n : ℕ). at.0 ++ (line n (get_or list (r - 1) one) ++ at.1)) place
          ∙ ap (λ (it : _). at.0 ++ (line r it ++ at.1)) read,
    )

-- what was so when the first k commands were answered
pub run_first : {volume : Volume} {W after : ModelWorld} {commands : List Command} {outcomes : List (List Outcome)}
    {answers : List Answer} → Run volume W commands outcomes answers after → (k : ℕ)
    → (middle : ModelWorld) × Run volume W (take k commands) (take k outcomes) (take k answers) middle
    × Extends middle.events after.events
run_first {W = W} run zero = (W, End, run_extends run)
run_first {W = W} End (suc k) = (W, End, as_it_was W.events)
run_first (Then step rest) (suc k) = let first = run_first rest k in (first.0, Then step first.1, first.2)

-- what was removed before isn't alive behind it
pub removed_before : (volume : Volume) (earlier later : List Event) → IsSound volume (earlier ++ later) → (r : ℕ)
    (entry : ModelEntry) → IsRemoved earlier (Knows earlier r) entry.id
    → IsLive (earlier ++ later) (Knows (earlier ++ later) r) entry → ⊥
removed_before volume earlier later sound r entry removed =
    sound.no_return (length earlier) r entry
    (subst (λ (past : List Event). IsRemoved past (Knows past r) entry.id)
    (sym (take_at earlier later (length earlier) refl)) removed)

pub removed_since : (volume : Volume) (H longer : List Event) → IsSound volume longer → Extends H longer → (r : ℕ)
    (entry : ModelEntry) → IsRemoved H (Knows H r) entry.id → IsLive longer (Knows longer r) entry → ⊥
removed_since volume H longer sound extends r entry removed live =
    removed_before volume H extends.later (subst (λ (l : List Event). IsSound volume l) extends.is sound) r entry removed
    (subst (λ (l : List Event). IsLive l (Knows l r) entry) extends.is live)

-- the history with what is pending is lawful
pub pending_lawful : (volume : Volume) (W : ModelWorld) → IsLawful volume W.events → ArePending volume W → (r : ℕ)
    (event : Event) → IsNumbered W.standings r (Down (Some event)) → IsLawful volume (W.events ++ event ∷ [])
pending_lawful volume W lawful pending r event is =
    lawful_more volume W.events event lawful
    (subst (λ (l : List Event). MayCome volume l event) (append-nil W.events)
    (pending.comes r event is [] tt (subst (λ (l : List Event). IsLawful volume l) (sym (append-nil W.events)) lawful)))

module _ {D : Type 0} {kept : List ℕ → List ℕ → Option Kept} {disk : Disk D} {volume : Volume} {W : ModelWorld}
    {commands : List Command} {outcomes : List (List Outcome)} {answers : List Answer} {entry now : List (Pair D)} where
  -- the trail of a run, from its openings on
  pub killed_trail : {after : ModelWorld} → Killed kept disk volume W commands outcomes answers after entry now
      → Trail kept disk volume W after entry now
  killed_trail killed = whole (Still killed.opens) killed.run

-- and of one that was cut short
pub front_trail : {D : Type 0} {kept : List ℕ → List ℕ → Option Kept} {disk : Disk D} {volume : Volume}
    {W middle after : ModelWorld} {commands behind : List Command} {outcomes : List (List Outcome)} {answers : List Answer}
    {entry now : List (Pair D)}
    → KilledFront kept disk volume W commands behind outcomes answers middle after entry now
    → Trail kept disk volume W after entry now
front_trail {D} {kept} {disk} {volume} {W} {middle} {after} {behind = behind} {entry = entry} {now = now} front = go front.rest
  where
    go : ((after ≡ middle) × (now ≡ front.mid)) ⊎ CutTrail kept disk volume behind middle after front.mid now
        → Trail kept disk volume W after entry now
    go (inl (same, still)) =
        subst (λ (V : ModelWorld). Trail kept disk volume W V entry now) (sym same)
        (subst (λ (d : List (Pair D)). Trail kept disk volume W middle entry d) (sym still) (killed_trail front.killed))
    go (inr more) = Joined (killed_trail front.killed) more.does.trail
