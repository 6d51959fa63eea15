-- What is put of commands that are carried out one after the other.
use Rattle.std.proofs.Common.{◌≡◌, ℕ, ◌+◌, ◌<◌, List, [], ◌∷◌, ◌++◌, get_or, length, take, drop, refl, sym, ◌∙◌, ap, subst, arith, append_assoc}
use Rattle.std.proofs.lemmas.List.{append-nil, take-append-drop}
use Rattle.ficus_disk.specs.declared.disk.Disk.{Ghosts as Disk}
use Rattle.ficus_disk.specs.declared.pair.Pair.{Pair}
use Rattle.ficus_keeper.specs.declared.keep.Keep.{Ghosts as Keep}
use Rattle.ficus_script.specs.Answer.{answer_text_of}
use Rattle.ficus_script.specs.declared.answer.Answer.{Answer}
use Rattle.ficus_script.specs.declared.command.Command.{Command}
use Rattle.ficus_loop.specs.Performed.{IsLeftOf, PutsPerformed, PutsPerformedFront}
use Rattle.ficus_loop.specs.Performed.IsLeftOf.{InPart, Unbegun}
use Rattle.ficus_loop.specs.Performing.{Performs, PerformsAll, PerformsPart}
use Rattle.ficus_loop.specs.Performing.PerformsAll.{CommandThen, NoCommand}
use Rattle.ficus_loop.specs.Puts.{PutsFront}
use Rattle.ficus_loop.specs.Serving.{texts_of}
use Rattle.ficus_world.specs.World.{Whole}
use Rattle.ficus_loop.proofs.Performing.{performs_append}
use Rattle.ficus_loop.proofs.Serves.{take_command, texts_append}

module _ {K D : Type 0} {link : Type 0} {keep : Keep K} {disk : Disk D} where
  -- what is left stays so with more commands behind
  left_more : {may : Type 0} {last : List Answer} {some : List Command} {old new : Whole} {x y : List (Pair D)}
      (more : List Command) → IsLeftOf may link keep disk last some old new x y
      → IsLeftOf may link keep disk last (some ++ more) old new x y
  left_more more Unbegun = Unbegun
  left_more more (InPart allowed part) = InPart allowed part

  -- what may be may be wherever this is so
  pub performed_where : {tells may other : Type 0} {old new : Whole} {commands : List Command} {was now : List ℕ}
      {x y : List (Pair D)} → (may → other) → PutsPerformedFront tells may link keep disk old commands new was now x y
      → PutsPerformedFront tells other link keep disk old commands new was now x y
  performed_where {may} {other} further front = record {
    first = front.first;
    rest = front.rest;
    is = front.is;
    whole = front.whole;
    last = front.last;
    at_most_one = front.at_most_one;
    middle = front.middle;
    mid_disks = front.mid_disks;
    performed = front.performed;
    left = left_where front.left;
    put = front.put;
  }
    where
      left_where : {last : List Answer} {some : List Command} {old new : Whole} {x y : List (Pair D)}
          → IsLeftOf may link keep disk last some old new x y → IsLeftOf other link keep disk last some old new x y
      left_where Unbegun = Unbegun
      left_where (InPart allowed part) = InPart (further allowed) part

  module _ {tells : Type 0} where
    -- no command
    pub performed_none : (world : Whole) (was : List ℕ) (disks : List (Pair D))
        → PutsPerformed tells link keep disk world [] world was was disks disks
    performed_none world was disks = record {
      answers = [];
      performed = NoCommand;
      put = λ told. sym (append-nil was);
    }

    module _ {old new : Whole} {x y : List (Pair D)} (command : Command) (was now : List ℕ) where
      -- one command, whose answer's text was put
      pub performed_one : (answer : Answer) → Performs link keep disk old command answer new x y
          → (tells → now ≡ was ++ answer_text_of answer)
          → PutsPerformed tells link keep disk old (command ∷ []) new was now x y
      performed_one answer performs put = record {
        answers = answer ∷ [];
        performed = CommandThen performs NoCommand;
        put = λ told. put told ∙ ap (λ (text : List ℕ). was ++ text) (sym (append-nil (answer_text_of answer)));
      }

      -- or a front of it
      pub performed_front : {may : Type 0} (answer : Answer) → Performs link keep disk old command answer new x y
          → (tells → PutsFront was (answer_text_of answer) now)
          → PutsPerformedFront tells may link keep disk old (command ∷ []) new was now x y
      performed_front answer performs put = record {
        first = command ∷ [];
        rest = [];
        is = refl;
        whole = [];
        last = answer ∷ [];
        at_most_one = omega arith;
        middle = new;
        mid_disks = y;
        performed = CommandThen performs NoCommand;
        left = Unbegun;
        put = λ told. subst (λ (texts : List ℕ). PutsFront (was ++ []) texts now)
            (sym (append-nil (answer_text_of answer)))
            (subst (λ (before : List ℕ). PutsFront before (answer_text_of answer) now) (sym (append-nil was))
            (put told));
      }

      -- or it was cut short
      pub performed_part : {may : Type 0} → may → PerformsPart link keep disk old command new x y → now ≡ was
          → PutsPerformedFront tells may link keep disk old (command ∷ []) new was now x y
      performed_part allowed part same = record {
        first = [];
        rest = command ∷ [];
        is = refl;
        whole = [];
        last = [];
        at_most_one = omega arith;
        middle = old;
        mid_disks = x;
        performed = NoCommand;
        left = InPart allowed part;
        put = λ told. record {
          front = [];
          rest = [];
          is = refl;
          put = same ∙ sym (append-nil was) ∙ sym (append-nil (was ++ []));
        };
      }

    module _ {old middle : Whole} {was then : List ℕ} {x y : List (Pair D)} (commands : List Command) (index : ℕ)
        (command : Command) (within : index < length commands) (is : command ≡ get_or commands index command)
        (first : PutsPerformed tells link keep disk old (take index commands) middle was then x y) where
      -- the first commands, and the next one
      pub performed_more : {new : Whole} {now : List ℕ} {z : List (Pair D)}
          → PutsPerformed tells link keep disk middle (command ∷ []) new then now y z
          → PutsPerformed tells link keep disk old (take (index + 1) commands) new was now x z
      performed_more {new} {now} {z} behind = record {
        answers = first.answers ++ behind.answers;
        performed = subst
            (λ (some : List Command). PerformsAll link keep disk old some (first.answers ++ behind.answers) new x z)
            (sym (take_command commands index command within is)) (performs_append first.performed behind.performed);
        put = λ told. behind.put told ∙ ap (λ (l : List ℕ). l ++ texts_of behind.answers) (first.put told)
            ∙ texts_append was first.answers behind.answers;
      }

      -- the first ones, and of the next one's answer a front was put, or it was cut short
      pub performed_next : {may : Type 0} {new : Whole} {now : List ℕ} {z : List (Pair D)}
          → PutsPerformedFront tells may link keep disk middle (command ∷ []) new then now y z
          → PutsPerformedFront tells may link keep disk old commands new was now x z
      performed_next {new} {now} {z} behind =
          let some = take index commands in
          let more = drop (index + 1) commands in
          record {
            first = some ++ behind.first;
            rest = behind.rest ++ more;
            is = sym (take-append-drop (index + 1) commands)
                ∙ ap (λ (l : List Command). l ++ more) (take_command commands index command within is)
                ∙ ap (λ (l : List Command). (some ++ l) ++ more) behind.is
                ∙ ap (λ (l : List Command). l ++ more) (sym (append_assoc some behind.first behind.rest))
                ∙ append_assoc (some ++ behind.first) behind.rest more;
            whole = first.answers ++ behind.whole;
            last = behind.last;
            at_most_one = behind.at_most_one;
            middle = behind.middle;
            mid_disks = behind.mid_disks;
            performed = subst
                (λ (answers : List Answer). PerformsAll link keep disk old (some ++ behind.first) answers behind.middle x
                behind.mid_disks) (sym (append_assoc first.answers behind.whole behind.last))
                (performs_append first.performed behind.performed);
            left = left_more more behind.left;
            put = λ told. subst (λ (before : List ℕ). PutsFront before (texts_of behind.last) now)
                (ap (λ (l : List ℕ). l ++ texts_of behind.whole) (first.put told)
                ∙ texts_append was first.answers behind.whole) (behind.put told);
          }
