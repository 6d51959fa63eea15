-- What a machine does, one thing after the other.
use Rattle.std.proofs.Common.{◌≡◌, ℕ, List, [], ◌∷◌, ◌++◌, length, refl, sym, ap, subst, ◌∙◌, append_assoc}
use Rattle.std.specs.Prelude.{All, Contains}
use Rattle.std.proofs.lemmas.List.{append-nil}
use Rattle.std.proofs.lemmas.List.Elements.{All-append, All-nil, All-weaker, Contains-append_left, Contains-append_right}
use Rattle.ficus_mailbox.specs.Letter.{Letter}
use Rattle.ficus_mailbox.specs.declared.found.Given.{Given}
use Rattle.ficus_mailbox.specs.declared.mailbox.Mailbox.{Ghosts as Mailbox}
use Rattle.ficus_script.specs.declared.answer.Answer.{Answer}
use Rattle.ficus_world.specs.World.{Whole}
use Rattle.ficus_world.specs.Machines.Acting.{ActsAlone}
use Rattle.ficus_world.specs.Machines.Part.{Deed}
use Rattle.ficus_world.specs.Machines.Together.{Alone, Renews, Told}
use Rattle.ficus_world.specs.Machines.Together.Alone.{Acted, Ended, Heard, Renewed}
use Rattle.ficus_machine.specs.Came.{CameIn, IsLetterOfOne}
use Rattle.ficus_machine.specs.Line.{GoesOn, Grows, GrowsBy, told_of}

-- what is posted may be written otherwise
posted_as : {tells disks_tell : Type 0} {r : ℕ} {machine after : Whole} {came one two : List (List ℕ)}
    {told : List Told} → one ≡ two → Alone tells disks_tell r machine came one told after
    → Alone tells disks_tell r machine came two told after
posted_as {tells} {disks_tell} {r} {machine} {after} {came} {told = told} same alone =
    subst (λ (list : List (List ℕ)). Alone tells disks_tell r machine came list told after) same alone

-- what one process does may stand behind what it did before
pub alone_then : {tells disks_tell : Type 0} {r : ℕ} {machine middle after : Whole}
    {came more posted further : List (List ℕ)} {told then : List Told}
    → Alone tells disks_tell r machine came posted told middle
    → Alone tells disks_tell r middle more further then after
    → Alone tells disks_tell r machine (came ++ more) (posted ++ further) (told ++ then) after
alone_then Ended behind = behind
alone_then {further = further} (Acted {posted = posted} next outcomes first may does posts rest) behind =
    posted_as (sym (append_assoc first posted further))
    (Acted next outcomes first may does posts (alone_then rest behind))
alone_then (Heard next hears rest) behind = Heard next hears (alone_then rest behind)
alone_then (Renewed next renews rest) behind = Renewed next renews (alone_then rest behind)

-- a list that has grown twice
pub grows_then : {A : Type 0} {one two three : List A} → Grows one two → Grows two three → Grows one three
grows_then {A} {one} {two} {three} first then = record {
  more = first.more ++ then.more;
  is = then.is ∙ ap (λ (list : List A). list ++ then.more) first.is ∙ append_assoc one first.more then.more;
}

pub grows_none : {A : Type 0} (list : List A) → Grows list list
grows_none list = record { more = []; is = sym (append-nil list) }

pub by_none : {A : Type 0} (P : A → Type 0) {old new : List A} → new ≡ old → GrowsBy P old new
by_none {A} P {old} {new} same = record { more = []; is = same ∙ sym (append-nil old); each = All-nil P }

pub by_then : {A : Type 0} {P : A → Type 0} {one two three : List A} → GrowsBy P one two → GrowsBy P two three
    → GrowsBy P one three
by_then {A} {P} {one} {two} {three} first then = record {
  more = first.more ++ then.more;
  is = then.is ∙ ap (λ (list : List A). list ++ then.more) first.is ∙ append_assoc one first.more then.more;
  each = All-append P first.more then.more first.each then.each;
}

pub by_weaker : {A : Type 0} {P Q : A → Type 0} {old new : List A} → ((x : A) → P x → Q x) → GrowsBy P old new
    → GrowsBy Q old new
by_weaker {P = P} {Q = Q} weaker by =
    record { more = by.more; is = by.is; each = All-weaker P Q weaker by.more by.each }

-- what came in a file came in it still, of a volume of as many members, once more was given
pub came_still : {tag : List ℕ} {members me : ℕ} {old new : List Given} {bytes : List ℕ} → Grows old new
    → CameIn tag members me old bytes → CameIn tag members me new bytes
came_still {tag} {members} {me} {old} {new} {bytes} grown came = record {
  message = came.message;
  spelled = came.spelled;
  file = came.file;
  is =
      subst (λ (list : List Given). Contains list came.file) (sym grown.is)
      (Contains-append_left old grown.more came.file came.is);
  sealed = came.sealed;
}

-- a letter is one of more messages
pub letter_left : {tag : List ℕ} {members : ℕ} {posted : List (List ℕ)} (more : List (List ℕ)) {letter : Letter}
    → IsLetterOfOne tag members posted letter → IsLetterOfOne tag members (posted ++ more) letter
letter_left {posted = posted} more one = record {
  bytes = one.bytes;
  is = Contains-append_left posted more one.bytes one.is;
  spells = one.spells;
}

pub letter_right : {tag : List ℕ} {members : ℕ} {posted : List (List ℕ)} (before : List (List ℕ)) {letter : Letter}
    → IsLetterOfOne tag members posted letter → IsLetterOfOne tag members (before ++ posted) letter
letter_right {posted = posted} before one = record {
  bytes = one.bytes;
  is = Contains-append_right before posted one.bytes one.is;
  spells = one.spells;
}

module _ {M : Type 0} {mailbox : Mailbox M} {disks_tell : Type 0} {me : ℕ} {tag : List ℕ} where
  -- nothing is done, and nothing put
  pub goes_idle : {old new : Whole} {was now : M} → new ≡ old → (mailbox.tells → Grows (mailbox.given was) (mailbox.given now))
      → (mailbox.tells → mailbox.posted now ≡ mailbox.posted was) → GoesOn mailbox disks_tell me tag [] old new was now
  goes_idle {old} {new} {was} {now} same given posted = record {
    came = [];
    posted = [];
    alone = subst (λ (w : Whole). Alone (Unit {0}) disks_tell me old [] [] [] w) (sym same) Ended;
    count = ap (λ (w : Whole). length w.members) same;
    given = given;
    each_came = λ tells. All-nil (CameIn tag (length old.members) me (mailbox.given now));
    put = λ tells. by_none (IsLetterOfOne tag (length old.members) []) (posted tells);
  }

  -- one thing, and then another
  pub goes_then : {told then : List Told} {old middle new : Whole} {was there now : M}
      → GoesOn mailbox disks_tell me tag told old middle was there
      → GoesOn mailbox disks_tell me tag then middle new there now
      → GoesOn mailbox disks_tell me tag (told ++ then) old new was now
  goes_then {old = old} {middle = middle} {was = was} {there = there} {now = now} first then = record {
    came = first.came ++ then.came;
    posted = first.posted ++ then.posted;
    alone = alone_then first.alone then.alone;
    count = then.count ∙ first.count;
    given = λ tells. grows_then (first.given tells) (then.given tells);
    each_came = λ tells.
        All-append (CameIn tag (length old.members) me (mailbox.given now)) first.came then.came
        (All-weaker (CameIn tag (length old.members) me (mailbox.given there))
        (CameIn tag (length old.members) me (mailbox.given now)) (λ bytes came. came_still (then.given tells) came)
        first.came (first.each_came tells))
        (subst (λ n. All (CameIn tag n me (mailbox.given now)) then.came) first.count (then.each_came tells));
    put = λ tells.
        by_then
        (by_weaker (λ letter one. letter_left then.posted one) (first.put tells))
        (by_weaker (λ letter one. letter_right first.posted one)
        (subst (λ n. GrowsBy (IsLetterOfOne tag n then.posted) (mailbox.posted there) (mailbox.posted now)) first.count
        (then.put tells)));
  }

  -- a new process begins
  pub goes_renews : {old new : Whole} {now : M} → Renews me old new → GoesOn mailbox disks_tell me tag [] old new now now
  goes_renews {old} {new} {now} renews = record {
    came = [];
    posted = [];
    alone = Renewed new renews Ended;
    count = renews.count;
    given = λ tells. grows_none (mailbox.given now);
    each_came = λ tells. All-nil (CameIn tag (length old.members) me (mailbox.given now));
    put = λ tells. by_none (IsLetterOfOne tag (length old.members) []) refl;
  }

  -- the world does something, with messages that came in files
  pub goes_acts : {old new : Whole} {now : M} {came : List (List ℕ)} {deed : Deed} {answer : Answer}
      → (acts : ActsAlone (Unit {0}) disks_tell me came deed answer old new)
      → length new.members ≡ length old.members
      → (mailbox.tells → All (CameIn tag (length old.members) me (mailbox.given now)) came)
      → GoesOn mailbox disks_tell me tag (told_of me deed acts.result ∷ []) old new now now
  goes_acts {old} {new} {now} {came} acts count each = record {
    came = came;
    posted = acts.posted;
    alone = acts.alone;
    count = count;
    given = λ tells. grows_none (mailbox.given now);
    each_came = each;
    put = λ tells. by_none (IsLetterOfOne tag (length old.members) acts.posted) refl;
  }
