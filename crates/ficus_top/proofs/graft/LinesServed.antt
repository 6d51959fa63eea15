-- Lines are answered one after the other.
use Rattle.std.proofs.Common.{◌≡◌, ◌⊎◌, ℕ, ◌+◌, ◌-◌, ◌<◌, List, [], ◌∷◌, ◌++◌, length, get_or, take, refl, sym, ap, ◌∙◌, subst, inl, inr, arith}
use Rattle.std.proofs.lemmas.List.{append-nil, append_assoc, take_more}
use Rattle.ficus_disk.specs.declared.disk.Disk.{Ghosts as Disk}
use Rattle.ficus_keeper.specs.declared.keep.Keep.{Ghosts as Keep}
use Rattle.ficus_script.specs.declared.answer.Answer.{Answer}
use Rattle.ficus_script.specs.Answer.{answer_text_of}
use Rattle.ficus_loop.specs.Puts.{PutsFront}
use Rattle.ficus_loop.specs.Serving.{texts_of}
use Rattle.ficus_loop.proofs.Serves.{texts_append}
use Rattle.ficus_runs.proofs.Numbers.{number_read}
use Rattle.ficus_runs.specs.Numbered.{IsNumbered}
use Rattle.ficus_world.specs.World.{Backed}
use Rattle.ficus_script.specs.declared.volume_line.VolumeLine.{VolumeLine}
use Rattle.ficus_top.specs.Graft.Answered.{AreAnswered, IsAnswered, Sent}
use Rattle.ficus_top.specs.Graft.Answered.AreAnswered.{None, Next}
use Rattle.ficus_top.specs.Graft.Runs.{AnswersFront, AnswersLines, Disks, IsNextCut, StopsLine}
use Rattle.ficus_world.specs.Follows.{TellsFor}
use Rattle.ficus_top.specs.Graft.Serving.{IsPutInPart, PutsLine, Told}
use Rattle.ficus_top.proofs.graft.Running.{each_none, each_then, each_where}

module _ {count : ℕ} where
  pub answered_then : {lines others : List VolumeLine} {sent more : List Sent} {answers later : List Answer}
      → AreAnswered count lines sent answers → AreAnswered count others more later
      → AreAnswered count (lines ++ others) (sent ++ more) (answers ++ later)
  answered_then None behind = behind
  answered_then {more} (Next {sent = own} {more = rest} first others is) behind =
      Next first (answered_then others behind) (ap (λ (l : List Sent). l ++ more) is ∙ append_assoc own rest more)

  pub answered_one : {line : VolumeLine} {sent : List Sent} {answer : Answer} → IsAnswered count line sent answer
      → AreAnswered count (line ∷ []) sent (answer ∷ [])
  answered_one {sent} is = Next is None (sym (append-nil sent))

module _ {K D : Type 0} {tells link told : Type 0} {keep : Keep K} {disk : Disk D} where
  -- no line
  pub lines_none : (worlds : List (Backed K)) (disks : Disks D) (was : List ℕ)
      → AnswersLines tells link told keep disk [] worlds worlds disks disks was was
  lines_none worlds disks was = record {
    sent = [];
    answers = [];
    answered = None;
    runs = each_none worlds disks;
    put = λ tell. sym (append-nil was);
  }

  module _ {more : Type 0} {old mid : List (Backed K)} {old_disks mid_disks : Disks D} {was then : List ℕ}
      (lines : List VolumeLine) (index : ℕ) (line : VolumeLine) (within : index < length lines)
      (is : line ≡ get_or lines index line) (further : told → more) (counted : length mid ≡ length old)
      (first : AnswersLines tells link told keep disk (take index lines) old mid old_disks mid_disks was then) where
    line_behind : take (index + 1) lines ≡ take index lines ++ line ∷ []
    line_behind = take_more lines index line within ∙ ap (λ (l : VolumeLine). take index lines ++ l ∷ []) (sym is)

    -- the first lines, and the next one
    pub lines_more : (new : List (Backed K)) (new_disks : Disks D) (now : List ℕ)
        → PutsLine tells link more keep disk line mid new mid_disks new_disks then now
        → AnswersLines tells link told keep disk (take (index + 1) lines) old new old_disks new_disks was now
    lines_more new new_disks now puts = record {
      sent = first.sent ++ puts.answers.sent;
      answers = first.answers ++ puts.answer ∷ [];
      answered = subst (λ (some : List VolumeLine). AreAnswered (length old) some (first.sent ++ puts.answers.sent)
          (first.answers ++ puts.answer ∷ [])) (sym line_behind)
          (answered_then first.answered (answered_one
          (subst (λ n. IsAnswered n line puts.answers.sent puts.answer) counted puts.answers.answered)));
      runs = each_then first.runs (each_where further puts.answers.runs);
      put = λ tell. puts.put tell
          ∙ ap (λ (l : List ℕ). l ++ answer_text_of puts.answer) (first.put tell)
          ∙ ap (λ (text : List ℕ). (was ++ texts_of first.answers) ++ text) (sym (append-nil (answer_text_of puts.answer)))
          ∙ texts_append was first.answers (puts.answer ∷ []);
    }

    -- the first lines, and of the next one's answer a front was put
    front_more : (new : List (Backed K)) (new_disks : Disks D) (now : List ℕ)
        → IsPutInPart tells link more keep disk line mid new mid_disks new_disks then now
        → AnswersFront tells link told keep disk lines old new old_disks new_disks was now
    front_more new new_disks now part = record {
      count = index + 1;
      within = omega arith;
      sent = first.sent ++ part.answers.sent;
      whole = first.answers;
      last = part.answer ∷ [];
      at_most_one = omega arith;
      answered = subst (λ (some : List VolumeLine). AreAnswered (length old) some (first.sent ++ part.answers.sent)
          (first.answers ++ part.answer ∷ [])) (sym line_behind)
          (answered_then first.answered (answered_one
          (subst (λ n. IsAnswered n line part.answers.sent part.answer) counted part.answers.answered)));
      worlds = new;
      disks = new_disks;
      left = inl (refl, refl);
      runs = each_then first.runs (each_where further part.answers.runs);
      put = λ tell. subst (λ (texts : List ℕ). PutsFront (was ++ texts_of first.answers) texts now)
          (sym (append-nil (answer_text_of part.answer)))
          (subst (λ (before : List ℕ). PutsFront before (answer_text_of part.answer) now) (first.put tell) (part.put tell));
    }

    -- the first lines, and the next one was stopped
    is_next : IsNumbered lines (index + 1) line
    is_next =
        let place : index + 1 - 1 ≡ index = omega arith in
        number_read lines (index + 1) line line (record { at_least = omega arith; at_most = omega arith })
        (subst (λ n. get_or lines n line ≡ line) (sym place) (sym is))

    left_by : (new : List (Backed K)) (new_disks : Disks D)
        → StopsLine link keep disk line mid new mid_disks new_disks
        → ((new ≡ mid) × (new_disks ≡ mid_disks))
        ⊎ IsNextCut link keep disk lines index [] mid new mid_disks new_disks
    left_by new new_disks (inl same) = inl same
    left_by new new_disks (inr cut) = inr (record { all = refl; line = line; next = is_next; cut = cut })

    front_same : (new : List (Backed K)) (new_disks : Disks D) (now : List ℕ)
        → (now ≡ then) × StopsLine link keep disk line mid new mid_disks new_disks
        → AnswersFront tells link told keep disk lines old new old_disks new_disks was now
    front_same new new_disks now (same, stops) = record {
      count = index;
      within = omega arith;
      sent = first.sent;
      whole = first.answers;
      last = [];
      at_most_one = omega arith;
      answered = subst (λ (answers : List Answer). AreAnswered (length old) (take index lines) first.sent answers)
          (sym (append-nil first.answers)) first.answered;
      worlds = mid;
      disks = mid_disks;
      left = left_by new new_disks stops;
      runs = first.runs;
      put = λ tell. record {
        front = [];
        rest = [];
        is = refl;
        put = same ∙ first.put tell ∙ sym (append-nil (was ++ texts_of first.answers));
      };
    }

    -- either of them
    pub front_next : (new : List (Backed K)) (new_disks : Disks D) (now : List ℕ)
        → ((now ≡ then) × StopsLine link keep disk line mid new mid_disks new_disks)
        ⊎ IsPutInPart tells link more keep disk line mid new mid_disks new_disks then now
        → AnswersFront tells link told keep disk lines old new old_disks new_disks was now
    front_next new new_disks now (inl same) = front_same new new_disks now same
    front_next new new_disks now (inr part) = front_more new new_disks now part

-- what is told of all lines is told of each
pub told_at : {link tells : Type 0} (lines : List VolumeLine) (index : ℕ) (line : VolumeLine) → index < length lines
    → line ≡ get_or lines index line → Told link tells lines → link × TellsFor tells line.command
told_at {tells} lines index line within is told =
    (told.posts, subst (λ (l : VolumeLine). TellsFor tells l.command) (sym is) (told.held index line within))
