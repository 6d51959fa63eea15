-- The words ask for one mode of a member, and then for no mode of a volume.
use Rattle.std.proofs.Common.{◌≡◌, ◌∙◌, ◌<◌, ◌-◌, ◌^◌, ℕ, List, Option, Some, None, sym, ap, subst, arith, codes}
use Rattle.std.specs.Fmt.{decimal}
use Rattle.std.specs.Prelude.{Result, Ok, Err, IsErrOf}
use Rattle.ficus_words.specs.Grammar.{Text, Use, Gives}
use Rattle.ficus_words.specs.declared.fault.WordsFault.{WordsFault}
use Rattle.ficus_words.specs.declared.fault.WordsFault.TheVariants.{Usage, Memory}
use Rattle.ficus_words.specs.Given.{Texts, texts_of, IsNumber, IsTagOrNone}
use Rattle.ficus_words.specs.Mode.{AsksFor, AreWords, HasNoMember, IsSize}
use Rattle.ficus_words.specs.MemberMode.{AsksForMember, AreMemberWords, AreNoMemberWords, IsMemberReadingOf}
use Rattle.ficus_words.proofs.OneMode.{one_uses, same_number, same_size, same_text}
use Rattle.ficus_words.specs.declared.member_mode.MemberMode.{MemberMode}
use Rattle.ficus_words.specs.declared.member_mode.MemberMode.TheVariants as member
use Rattle.ficus_words.specs.declared.mode.Mode.{Mode}
use Rattle.ficus_words.specs.declared.mode.Mode.TheVariants.{Init, Run, Check, Replay, Volumes, Gen}
use Rattle.ficus_words.specs.declared.mode.Size.{Size}

-- a text spells one tag
same_tag : (text : Option Text) (one other : List ℕ) → IsTagOrNone text one → IsTagOrNone text other → one ≡ other
same_tag None one other is also = is ∙ sym also
same_tag (Some text) one other is also = let same : Ok one ≡ Ok other = sym is.bytes ∙ also.bytes in cc

-- two texts of a number are of the same one, also below other limits
same_replica : {text : Option Text} {least most limit one other : ℕ} → most < 2 ^ 64 → limit < 2 ^ 64 →
    IsNumber least most text one → IsNumber least limit text other → one ≡ other
same_replica {text} {least} {most} {limit} {one} {other} fits also_fits is also =
    let wide : IsNumber least (2 ^ 64 - 1) text one = record { spelled = is.spelled; at_least = is.at_least; at_most = omega (arith, is.at_most) } in
    let both : IsNumber least (2 ^ 64 - 1) text other = record { spelled = also.spelled; at_least = also.at_least; at_most = omega (arith, also.at_most) } in
    same_number (omega arith) wide both

one_asked : (texts : Texts) (mode other : MemberMode) → AsksForMember texts mode → AsksForMember texts other → mode ≡ other
one_asked texts (member.Init size replica tag root) (member.Init same number other folder) is also = λ i. member.Init
    (same_size texts size same is.sized also.sized i)
    (same_replica (omega (arith, is.sized.members.at_most)) (omega (arith, also.sized.members.at_most)) is.numbered also.numbered i)
    (same_tag texts.tag tag other is.tagged also.tagged i)
    (same_text root folder is.folder.is also.folder.is i)
one_asked texts (member.Run replica root) (member.Run number folder) is also = λ i. member.Run
    (same_number (omega arith) is.numbered also.numbered i)
    (same_text root folder is.alone.folder.is also.alone.folder.is i)
one_asked texts (member.Init size replica tag root) (member.Run number folder) is also =
    let clash : codes "init" ≡ codes "member" = same_text (codes "init") (codes "member") is.mode also.mode in cc
one_asked texts (member.Run number folder) (member.Init size replica tag root) is also =
    let clash : codes "member" ≡ codes "init" = same_text (codes "member") (codes "init") is.mode also.mode in cc

-- the same words are those of one mode of a member
pub one_member_mode : (words : List Text) (mode other : MemberMode) → AreMemberWords words mode →
    AreMemberWords words other → mode ≡ other
one_member_mode words mode other is also =
    one_asked (texts_of also.uses) mode other
    (subst (λ (u : List Use). AsksForMember (texts_of u) mode) (one_uses is.gives also.gives) is.asks) also.asks

-- what is asked of a member names it
names_member : (texts : Texts) (mode : MemberMode) → AsksForMember texts mode → (n : ℕ) × (texts.replica ≡ Some (decimal n))
names_member texts (member.Init size replica tag root) is = (replica, is.numbered.spelled)
names_member texts (member.Run replica root) is = (replica, is.numbered.spelled)

-- and what is asked of a volume names none
names_no_member : (texts : Texts) (mode : Mode) → AsksFor texts mode → HasNoMember texts
names_no_member texts (Init size root) is = is.no_member
names_no_member texts (Run root) is = is.no_member
names_no_member texts (Check root) is = is.no_member
names_no_member texts (Replay size) is = is.no_member
names_no_member texts (Volumes size count) is = is.no_member
names_no_member texts (Gen members seed steps) is = is.no_member

-- so no words ask for both
pub one_call : (words : List Text) (mode : Mode) (member : MemberMode) → AreWords words mode →
    AreMemberWords words member → ⊥
one_call words mode member are also =
    let named = names_member (texts_of also.uses) member also.asks in
    let asks = subst (λ (u : List Use). AsksFor (texts_of u) mode) (one_uses are.gives also.gives) are.asks in
    let clash : None ≡ Some (decimal named.0) = sym (names_no_member (texts_of also.uses) mode asks).replica ∙ named.1 in cc

-- words whose texts ask for no mode of a member are those of none
pub no_member_words : (words : List Text) (texts : Texts) (read : Result MemberMode WordsFault) →
    (uses : List Use) × Gives words uses × (texts ≡ texts_of uses) → IsMemberReadingOf texts read →
    IsErrOf read Usage → AreNoMemberWords words
no_member_words words texts (Ok mode) given reads usage = cc
no_member_words words texts (Err Memory) given reads usage = cc
no_member_words words texts (Err Usage) given none usage = λ mode are.
    none mode (subst (λ t. AsksForMember t mode) (ap texts_of (one_uses are.gives given.1) ∙ sym given.2) are.asks)

-- texts that ask for a fresh volume name no member where they name none of it
pub no_replica : (texts : Texts) (size : Size) (count : ℕ) → texts.mode ≡ Some (codes "init") → IsSize texts size →
    count ≡ size.members → ((number : ℕ) → IsNumber 1 count texts.replica number → ⊥) →
    (mode : MemberMode) → AsksForMember texts mode → ⊥
no_replica texts size count init sized counted none (member.Init same replica tag root) is =
    let is_count : same.members ≡ count = ap (λ (s : Size). s.members) (same_size texts same size is.sized sized) ∙ sym counted in
    none replica (subst (λ n. IsNumber 1 n texts.replica replica) is_count is.numbered)
no_replica texts size count init sized counted none (member.Run replica root) is =
    let clash : codes "init" ≡ codes "member" = same_text (codes "init") (codes "member") init is.mode in cc
