-- Where the other pieces of an answer are found.
use Rattle.std.proofs.Common.{◌≡◌, ◌↔◌, Bool, false, IsTrue, ℕ, ◌+◌, List, [], ◌∷◌, ◌++◌, length, drop, Vec, Ok, Err, refl, sym, ap, subst, ◌∙◌, inl}
use Rattle.std.specs.Prelude.{Contains}
use Rattle.std.specs.declared.alloc.Global.{Global}
use Rattle.std.proofs.lemmas.List.Elements.{Contains-push}
use Rattle.std.proofs.Math.Seq.{drop-append_seam}
use Rattle.ficus_ids.specs.declared.refusal.Refusal.TheVariants as refusal
use Rattle.ficus_mailbox.specs.Calls.{given_as}
use Rattle.ficus_mailbox.specs.declared.found.Found.{Found}
use Rattle.ficus_mailbox.specs.declared.found.Found.TheVariants.{Bytes}
use Rattle.ficus_mailbox.specs.declared.found.Given.{Given}
use Rattle.ficus_mailbox.specs.declared.mailbox.Mailbox.{Ghosts as Mailbox}
use Rattle.ficus_wire.specs.Message.{head_of, message_bytes, piece_of}
use Rattle.ficus_wire.specs.declared.message.Message.{Message}
use Rattle.ficus_wire.specs.declared.message.Message.TheVariants as message
use Rattle.ficus_wire.specs.declared.message.PieceHead.{PieceHead}
use Rattle.ficus_world.proofs.Lifting.Spelling.{one_message}
use Rattle.ficus_machine.specs.Answers.{SpellsPiece, sibling, sibling_name}
use Rattle.ficus_machine.specs.Came.{CameIn, IsComing, IsSealedFor}
use Rattle.ficus_machine.specs.Gathering.{FindsPiece}
use Rattle.ficus_machine.specs.Machine.{MachineState}
use Rattle.ficus_machine.specs.declared.coming.Coming.{Coming}
use Rattle.ficus_machine.specs.declared.coming.Coming.TheVariants as coming
use Rattle.ficus_machine.specs.declared.fault.Halt.TheVariants as halt

-- what is found is one message at most
sealed_once : {tag : List ℕ} {members me : ℕ} {found : Found} {one other : Message}
    → IsSealedFor tag members me found one → IsSealedFor tag members me found other → one ≡ other
sealed_once {tag} {members} {me} {found} {one} {other} first second =
    let same : Bytes (tag ++ message_bytes one) ≡ Bytes (tag ++ message_bytes other) = sym first.is ∙ second.is in
    let bytes : tag ++ message_bytes one ≡ tag ++ message_bytes other = cc in
    one_message members one other first.fits second.fits
    (sym (drop-append_seam tag (message_bytes one)) ∙ ap (λ (list : List ℕ). drop (length tag) list) bytes
    ∙ drop-append_seam tag (message_bytes other))

-- what stands in front of the bytes of a piece
abbrev head_in : PieceHead → Message → PieceHead
head_in none (message.Ask from to number) = none
head_in none (message.Piece from to number state pieces index bytes) = head_of from to number state pieces index

same_head : (one other : PieceHead) (bytes more : List ℕ) → piece_of one bytes ≡ piece_of other more → one ≡ other
same_head one other bytes more same = ap (λ (m : Message). head_in one m) same

-- what came isn't the piece
no_sibling : {tag : List ℕ} {members me : ℕ} {found : Found} (wanted : PieceHead) (came : Coming)
    → IsComing tag members me found came
    → ((head : PieceHead) (spelled : Vec ℕ Global) → came ≡ coming.Piece head spelled → head ≡ wanted → ⊥)
    → (bytes : List ℕ) → IsSealedFor tag members me found (piece_of wanted bytes) → ⊥
no_sibling wanted coming.Nothing is other bytes sealed = cc
no_sibling wanted coming.NoMessage is other bytes sealed = is.1 _ sealed
no_sibling wanted (coming.Ask way spelled) is other bytes sealed =
    let same = sealed_once is.0 sealed in cc
no_sibling wanted (coming.Piece head spelled) is other bytes sealed =
    other head spelled refl (same_head head wanted is.0 bytes (sealed_once is.1 sealed))

-- it is the piece, and came out of the file that was given
module _ (tag : List ℕ) (members me : ℕ) (found : Found) (head wanted : PieceHead) (spelled : Vec ℕ Global)
    (is : IsComing tag members me found (coming.Piece head spelled)) (same : head ≡ wanted) where
  spells_sibling : SpellsPiece members wanted spelled.items
  spells_sibling =
      subst (λ (h : PieceHead). SpellsPiece members h spelled.items) same
      (record { bytes = is.0; fits = is.1.fits; is = is.2 })

  came_sibling : {given : List Given} (before : List Given) (name : List ℕ)
      → given ≡ before ++ given_as name found ∷ [] → CameIn tag members me given spelled.items
  came_sibling before name grown = record {
    message = piece_of head is.0;
    spelled = record { fits = is.1.fits; is = is.2 };
    file = given_as name found;
    is =
        subst (λ (list : List Given). Contains list (given_as name found)) (sym grown)
        (Contains-push before (given_as name found));
    sealed = is.1;
  }

-- what came is a piece, but not this one
pub not_this : {came : Coming} {there wanted : PieceHead} {spelled : Vec ℕ Global} {answer : Bool}
    → came ≡ coming.Piece there spelled → IsTrue answer ↔ (there ≡ wanted) → answer ≡ false
    → (head : PieceHead) (more : Vec ℕ Global) → came ≡ coming.Piece head more → head ≡ wanted → ⊥
not_this {came} {there} {wanted} {spelled} {answer} is tests untrue head more also here =
    let same : there ≡ head = cc in
    let yes : IsTrue answer = tests.1 (same ∙ here) in
    let never : IsTrue false = subst (λ (b : Bool). IsTrue b) untrue yes in absurd (cc never)

module _ {K M : Type 0} {mailbox : Mailbox M} {machine : MachineState K} {head : PieceHead} {index : ℕ}
    {was now : M} (found : Found)
    (gave : mailbox.tells → mailbox.given now ≡ mailbox.given was ++ given_as (sibling_name head index) found ∷ [])
    (posted : mailbox.posted now ≡ mailbox.posted was) (came : Coming)
    (is : IsComing machine.tag (length machine.world.whole.members) machine.me found came) where
  -- it is in its file
  pub finds_sibling : {there : PieceHead} {spelled : Vec ℕ Global} → came ≡ coming.Piece there spelled
      → there ≡ sibling head index → FindsPiece mailbox machine head index (Ok spelled) was now
  finds_sibling {there} {spelled} same here =
      let piece = subst (IsComing machine.tag (length machine.world.whole.members) machine.me found) same is in
      record {
        piece = (
          spells_sibling machine.tag (length machine.world.whole.members) machine.me found there (sibling head index)
              spelled piece here,
          λ tells.
              came_sibling machine.tag (length machine.world.whole.members) machine.me found there (sibling head index)
              spelled piece here (mailbox.given was) (sibling_name head index) (gave tells),
        );
        missing = λ never. absurd (cc);
        failed = λ never. absurd (cc);
        one = λ r never. absurd (cc);
        no_note = λ never. cc;
        given = λ tells. record { more = given_as (sibling_name head index) found ∷ []; is = gave tells };
        posted = posted;
      }

  -- it isn't
  pub finds_none : ((there : PieceHead) (spelled : Vec ℕ Global) → came ≡ coming.Piece there spelled
      → there ≡ sibling head index → ⊥)
      → FindsPiece mailbox machine head index (Err (halt.Refused refusal.Missing)) was now
  finds_none other = record {
    piece = tt;
    missing = λ same. (found, gave, no_sibling (sibling head index) came is other);
    failed = λ never. absurd (cc);
    one = λ r same. let so : r ≡ refusal.Missing = cc in inl so;
    no_note = λ never. cc;
    given = λ tells. record { more = given_as (sibling_name head index) found ∷ []; is = gave tells };
    posted = posted;
  }
