-- The spelling of a path, and that no two paths share one.
use Rattle.std.proofs.Common.{◌≡◌, ℕ, ◌-◌, ◌<◌, ◌≤◌, List, [], ◌∷◌, ◌++◌, length, take, drop, All, refl, sym, ◌∙◌, ap, arith, length-append}
use Rattle.std.specs.List.{AllByRecursion, flat_map}
use Rattle.std.proofs.lemmas.List.{append_assoc, append-nil}
use Rattle.std.proofs.lemmas.List.Concat.{flat_map-append}
use Rattle.std.proofs.lemmas.List.Elements.{recursion_from_All, All-push, All-nil, All-cons, All-append}
use Rattle.ficus_ids.specs.declared.id.Id.{Id}
use Rattle.ficus_ids.specs.Id.{id_text}
use Rattle.ficus_path.specs.declared.path.Base.{Base}
use Rattle.ficus_path.specs.declared.path.Base.TheVariants.{Root, Orphan}
use Rattle.ficus_path.specs.declared.path.Part.{Part}
use Rattle.ficus_path.specs.declared.path.Path.{Path}
use Rattle.ficus_path.specs.Path.{IsBase, IsIssued, IsPart, IsPath}
use Rattle.ficus_path.specs.Spelling.{name_text, target_text, component_text, part_text, path_text, start_text, IsEndOr}
use Rattle.ficus_path.proofs.Lists.{cons_same, head_same, tail_same, All-flat_map}
use Rattle.ficus_path.proofs.CutLaws.{IsFreeOf, cut_same, behind_first}
use Rattle.ficus_path.proofs.IdLaws.{IsFreeOf-id_text, id_text_injective, id_text_visible}
use Rattle.ficus_path.proofs.NameLaws.{name_text_not_empty, name_text_visible}
use Rattle.ficus_path.proofs.PartLaws.{IsFreeOf-component_text, component_text_injective, target_text_visible}

-- the parts, one after the other
abbrev pub texts : List Part → List ℕ
texts parts = flat_map part_text parts

abbrev pub AreParts : List Part → Type 0
AreParts parts = AllByRecursion IsPart parts

pub IsEndOr-texts : (parts : List Part) → IsEndOr 47 (texts parts)
IsEndOr-texts [] = tt
IsEndOr-texts (part ∷ parts) = refl

IsEndOr-texts_append : (front : List Part) (rest : List ℕ) → IsEndOr 47 rest → IsEndOr 47 (texts front ++ rest)
IsEndOr-texts_append [] rest end = end
IsEndOr-texts_append (part ∷ front) rest end = refl

-- the first part of a spelling is one part
first_same : (part other : Part) (x y : List ℕ) → IsPart part → IsPart other → IsEndOr 47 x → IsEndOr 47 y →
    component_text part ++ x ≡ component_text other ++ y → (part ≡ other) × (x ≡ y)
first_same part other x y is_part also end_x end_y e =
    let cut = cut_same 47 (component_text part) x (component_text other) y (IsFreeOf-component_text part is_part) end_x
    (IsFreeOf-component_text other also) end_y e in
    (component_text_injective part other is_part also cut.0, cut.1)

texts_injective : (parts others : List Part) → AreParts parts → AreParts others → texts parts ≡ texts others →
    parts ≡ others
texts_injective [] [] are also e = refl
texts_injective [] (other ∷ others) are also e = cc
texts_injective (part ∷ parts) [] are also e = cc
texts_injective (part ∷ parts) (other ∷ others) are also e =
    let first = first_same part other (texts parts) (texts others) are.0 also.0 (IsEndOr-texts parts) (IsEndOr-texts others) (tail_same e) in
    cons_same first.0 (texts_injective parts others are.1 also.1 first.1)

-- parts whose spelling begins as other parts' are the first of these
pub texts_front : (front parts : List Part) (rest : List ℕ) → AreParts front → AreParts parts → IsEndOr 47 rest →
    texts front ++ rest ≡ texts parts →
    (others : List Part) × (parts ≡ front ++ others) × AreParts others × (rest ≡ texts others)
texts_front [] parts rest are all end e = (parts, refl, all, e)
texts_front (part ∷ front) [] rest are all end e = cc
texts_front (part ∷ front) (other ∷ parts) rest are all end e =
    let first = first_same part other (texts front ++ rest) (texts parts) are.0 all.0
    (IsEndOr-texts_append front rest end) (IsEndOr-texts parts)
    (sym (append_assoc (component_text part) (texts front) rest) ∙ tail_same e) in
    let more = texts_front front parts rest are.1 all.1 end first.1 in
    (more.0, cons_same (sym first.0) more.1, more.2, more.3)

-- no part is empty
no_empty_part : (part : Part) (rest : List ℕ) → IsPart part → component_text part ++ rest ≡ [] → ⊥
no_empty_part part rest is_part e =
    name_text_not_empty part.name (target_text part.target ++ rest) is_part.name.not_empty
    (sym (append_assoc (name_text part.name) (target_text part.target) rest) ∙ e)

-- a path's text, of its base and its parts
abbrev pub text_from : Base → List Part → List ℕ
text_from base parts = start_text base parts ++ texts parts

at_root_injective : (parts others : List Part) → AreParts parts → AreParts others →
    text_from Root parts ≡ text_from Root others → parts ≡ others
at_root_injective [] [] are also e = refl
at_root_injective [] (other ∷ others) are also e = absurd (no_empty_part other (texts others) also.0 (sym (tail_same e)))
at_root_injective (part ∷ parts) [] are also e = absurd (no_empty_part part (texts parts) are.0 (tail_same e))
at_root_injective (part ∷ parts) (other ∷ others) are also e = texts_injective (part ∷ parts) (other ∷ others) are also e

-- the text of a path that begins at the root begins with a slash, and with no tilde
pub at_root_begins : (parts : List Part) → (rest : List ℕ) × (text_from Root parts ≡ 47 ∷ rest)
at_root_begins [] = ([], refl)
at_root_begins (part ∷ parts) = (component_text part ++ texts parts, refl)

no_tilde : (parts : List Part) (rest : List ℕ) → text_from Root parts ≡ 126 ∷ rest → ⊥
no_tilde parts rest e =
    let begins = at_root_begins parts in
    absurd (omega (arith, head_same (sym begins.1 ∙ e)))

-- an identifier and parts behind it are cut at the first slash
pub orphan_cut : (id : Id) (parts : List Part) (front rest : List ℕ) → IsIssued id → IsFreeOf 47 front →
    IsEndOr 47 rest → front ++ rest ≡ id_text id ++ texts parts → (front ≡ id_text id) × (rest ≡ texts parts)
orphan_cut id parts front rest issued free end e =
    cut_same 47 front rest (id_text id) (texts parts) free end (IsFreeOf-id_text id issued) (IsEndOr-texts parts) e

text_injective : (base other : Base) (parts others : List Part) → IsBase base → IsBase other → AreParts parts →
    AreParts others → text_from base parts ≡ text_from other others → (base ≡ other) × (parts ≡ others)
text_injective Root Root parts others is_base also are all e = (refl, at_root_injective parts others are all e)
text_injective Root (Orphan other) parts others is_base also are all e =
    absurd (no_tilde parts (id_text other ++ texts others) e)
text_injective (Orphan id) Root parts others is_base also are all e =
    absurd (no_tilde others (id_text id ++ texts parts) (sym e))
text_injective (Orphan id) (Orphan other) parts others is_base also are all e =
    let cut = orphan_cut other others (id_text id) (texts parts) also (IsFreeOf-id_text id is_base) (IsEndOr-texts parts)
    (tail_same e) in
    (ap Orphan (id_text_injective id other is_base also cut.0), texts_injective parts others are all cut.1)

-- behind the tilde of a path stand the identifier of an orphan, and the parts
pub record BeginsAtOrphan (path : Path) (front rest : List ℕ) : Type 0 where
  pub orphan : Id
  pub issued : IsIssued orphan
  pub identifier : front ≡ id_text orphan
  pub parts : rest ≡ texts path.parts

orphan_of : (base : Base) (parts : List Part) (front rest : List ℕ) → IsBase base → IsFreeOf 47 front →
    IsEndOr 47 rest → 126 ∷ (front ++ rest) ≡ text_from base parts →
    (id : Id) × IsIssued id × (front ≡ id_text id) × (rest ≡ texts parts)
orphan_of Root parts front rest is_base free end e = absurd (no_tilde parts (front ++ rest) (sym e))
orphan_of (Orphan id) parts front rest is_base free end e =
    let cut = orphan_cut id parts front rest is_base free end (tail_same e) in
    (id, is_base, cut.0, cut.1)

pub behind_tilde : (path : Path) (behind front rest : List ℕ) → IsPath path → IsFreeOf 47 front → IsEndOr 47 rest →
    behind ≡ front ++ rest → 126 ∷ behind ≡ path_text path → BeginsAtOrphan path front rest
behind_tilde path behind front rest is_path free end cut e =
    let found = orphan_of path.base path.parts front rest is_path.base free end (ap (λ t. 126 ∷ t) (sym cut) ∙ e) in
    record { orphan = found.0; issued = found.1; identifier = found.2; parts = found.3 }

path_same : (path other : Path) → path.base ≡ other.base → path.parts ≡ other.parts → path ≡ other
path_same path other e f =
    let with_base = λ (base : Base). let made : Path = record { base = base; parts = path.parts } in made in
    let with_parts = λ (parts : List Part). let made : Path = record { base = other.base; parts = parts } in made in
    ap with_base e ∙ ap with_parts f

pub path_text_injective : (path other : Path) → IsPath path → IsPath other → path_text path ≡ path_text other →
    path ≡ other
path_text_injective path other is_path also e =
    let same = text_injective path.base other.base path.parts other.parts is_path.base also.base
    (recursion_from_All IsPart path.parts is_path.each) (recursion_from_All IsPart other.parts also.each) e in
    path_same path other same.0 same.1

-- the text is the spelling of these parts, and a rest that may go on with more
pub record IsReadTo (text : List ℕ) (parts : List Part) (rest : List ℕ) : Type 0 where
  pub within_limit : length parts ≤ 32
  pub each : All IsPart parts
  pub whole : text ≡ texts parts ++ rest
  pub next : IsEndOr 47 rest

-- what a pattern binds behind the first byte
abbrev pub tail_of : List ℕ → List ℕ
tail_of rest = take (length rest - 1) (drop 1 rest)

begins_with_slash : (rest : List ℕ) → IsEndOr 47 rest → 1 ≤ length rest → rest ≡ 47 ∷ tail_of rest
begins_with_slash [] next more = absurd (omega arith)
begins_with_slash (x ∷ rest) next more = cons_same next (sym (behind_first x rest (x ∷ rest) refl))

texts_push : (parts : List Part) (part : Part) (others : List ℕ) →
    texts (parts ++ part ∷ []) ++ others ≡ texts parts ++ (part_text part ++ others)
texts_push parts part others =
    let last : texts (part ∷ []) ≡ part_text part = append-nil (part_text part) in
    ap (λ t. t ++ others) (flat_map-append part_text parts (part ∷ []) ∙ ap (λ t. texts parts ++ t) last) ∙ append_assoc (texts parts) (part_text part) others

-- one more part is read
pub IsReadTo-more : (text component others : List ℕ) (parts : List Part) (rest : List ℕ) (part : Part) →
    IsReadTo text parts rest → 1 ≤ length rest → length parts < 32 → tail_of rest ≡ component ++ others →
    IsEndOr 47 others → IsPart part → component ≡ component_text part → IsReadTo text (parts ++ part ∷ []) others
IsReadTo-more text component others parts rest part so_far more room cut next is_part spelled =
    let rest_is : rest ≡ part_text part ++ others = begins_with_slash rest so_far.next more ∙ ap (λ t. 47 ∷ t) (cut ∙ ap (λ t. t ++ others) spelled) in
    record {
      within_limit = omega (arith, length-append parts (part ∷ []));
      each = All-push IsPart parts part so_far.each is_part;
      whole = so_far.whole ∙ ap (λ t. texts parts ++ t) rest_is ∙ sym (texts_push parts part others);
      next = next;
    }

-- parts with this spelling go on behind those that are read
pub record GoesOn (front parts : List Part) (rest : List ℕ) : Type 0 where
  pub part : Part
  pub others : List Part
  pub whole : parts ≡ front ++ part ∷ others
  pub is_part : IsPart part
  pub spelled : tail_of rest ≡ component_text part ++ texts others

first_other : (front parts : List Part) (rest : List ℕ) (others : List Part) → parts ≡ front ++ others →
    AreParts others → rest ≡ texts others → 1 ≤ length rest → GoesOn front parts rest
first_other front parts rest [] whole are same more = absurd (omega (arith, ap length same))
first_other front parts rest (part ∷ others) whole are same more = record {
  part = part;
  others = others;
  whole = whole;
  is_part = are.0;
  spelled = behind_first 47 (component_text part ++ texts others) rest same;
}

pub goes_on : (text : List ℕ) (front parts : List Part) (rest : List ℕ) → IsReadTo text front rest → 1 ≤ length rest →
    All IsPart parts → text ≡ texts parts → GoesOn front parts rest
goes_on text front parts rest so_far more all e =
    let others = texts_front front parts rest (recursion_from_All IsPart front so_far.each)
    (recursion_from_All IsPart parts all) so_far.next (sym so_far.whole ∙ e) in
    first_other front parts rest others.0 others.1 others.2 others.3 more

pub GoesOn-longer : {front parts : List Part} {rest : List ℕ} → GoesOn front parts rest → length front < length parts
GoesOn-longer {front} more =
    omega (arith, ap length more.whole, length-append front (more.part ∷ more.others))

-- the component behind the slash is that of a part
pub GoesOn-component : {front parts : List Part} {rest : List ℕ} (component others : List ℕ) → GoesOn front parts rest →
    tail_of rest ≡ component ++ others → IsFreeOf 47 component → IsEndOr 47 others →
    (part : Part) × IsPart part × (component ≡ component_text part)
GoesOn-component component others more cut free next =
    let same = cut_same 47 component others (component_text more.part) (texts more.others) free next
    (IsFreeOf-component_text more.part more.is_part) (IsEndOr-texts more.others) (sym cut ∙ more.spelled) in
    (more.part, more.is_part, same.0)

-- no blank and no control byte stands in the spelling of a path
part_text_visible : (part : Part) → IsPart part → All (λ byte. 33 ≤ byte) (part_text part)
part_text_visible part is_part =
    let P = λ (byte : ℕ). 33 ≤ byte in
    All-cons P 47 (component_text part) (omega arith)
    (All-append P (name_text part.name) (target_text part.target)
    (name_text_visible part.name) (target_text_visible part.target is_part.target))

start_text_visible : (base : Base) (parts : List Part) → IsBase base → All (λ byte. 33 ≤ byte) (start_text base parts)
start_text_visible Root [] is_base =
    let P = λ (byte : ℕ). 33 ≤ byte in
    All-cons P 47 [] (omega arith) (All-nil P)
start_text_visible Root (part ∷ parts) is_base = All-nil (λ byte. 33 ≤ byte)
start_text_visible (Orphan id) parts is_base =
    All-cons (λ byte. 33 ≤ byte) 126 (id_text id) (omega arith) (id_text_visible id is_base)

pub path_text_visible : (path : Path) → IsPath path → All (λ byte. 33 ≤ byte) (path_text path)
path_text_visible path is_path =
    let P = λ (byte : ℕ). 33 ≤ byte in
    All-append P (start_text path.base path.parts) (texts path.parts)
    (start_text_visible path.base path.parts is_path.base)
    (All-flat_map P IsPart part_text part_text_visible path.parts is_path.each)
