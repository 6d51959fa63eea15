-- The spelling of a part: where it is cut, and that no two parts share one.
use Rattle.std.proofs.Common.{◌≡◌, ◌≢◌, ℕ, ◌≤◌, List, ◌∷◌, ◌++◌, length, take, drop, ◌-◌, Option, Some, None, IfSome, All, refl, ◌∙◌, ap, arith}
use Rattle.std.proofs.lemmas.List.Elements.{All-nil, All-cons, All-append, All-weaker}
use Rattle.ficus_ids.specs.declared.id.Id.{Id}
use Rattle.ficus_ids.specs.Id.{id_text}
use Rattle.ficus_ids.specs.Name.{IsName, IsNameByte}
use Rattle.ficus_path.specs.declared.path.Part.{Part}
use Rattle.ficus_path.specs.Path.{IsIssued, IsPart}
use Rattle.ficus_path.specs.Spelling.{name_text, target_text, component_text, IsEndOr}
use Rattle.ficus_path.proofs.CutLaws.{IsFreeOf, cut_same, behind_first}
use Rattle.ficus_path.proofs.IdLaws.{IsFreeOf-id_text, id_text_injective, id_text_visible}
use Rattle.ficus_path.proofs.NameLaws.{name_text_injective, IsFreeOf-name_text}

-- no `#` stands in the spelling of a name
no_sign : (name : List ℕ) → IsName name → IsFreeOf 35 (name_text name)
no_sign name is_name = IsFreeOf-name_text 35 name (omega arith)
    (All-weaker IsNameByte (λ byte. byte ≢ 35) (λ byte allowed. allowed.not_number_sign) name is_name.each)

IsEndOr-target_text : (target : Option Id) → IsEndOr 35 (target_text target)
IsEndOr-target_text None = tt
IsEndOr-target_text (Some id) = refl

-- a component is cut at its `#`
pub component_cut : (front rest : List ℕ) (part : Part) → IsPart part → IsFreeOf 35 front → IsEndOr 35 rest →
    front ++ rest ≡ component_text part → (front ≡ name_text part.name) × (rest ≡ target_text part.target)
component_cut front rest part is_part free end e =
    cut_same 35 front rest (name_text part.name) (target_text part.target) free end (no_sign part.name is_part.name) (IsEndOr-target_text part.target) e

-- behind the `#` of a component stands an identifier
pub target_behind : (rest : List ℕ) (target : Option Id) → IfSome target IsIssued → rest ≡ target_text target →
    1 ≤ length rest → (id : Id) × IsIssued id × (take (length rest - 1) (drop 1 rest) ≡ id_text id)
target_behind rest None issued e more = absurd (omega (arith, ap length e))
target_behind rest (Some id) issued e more = (id, issued, behind_first 35 (id_text id) rest e)

-- no slash stands in the spelling of a part, but for the one before it
IsFreeOf-target_text : (target : Option Id) → IfSome target IsIssued → IsFreeOf 47 (target_text target)
IsFreeOf-target_text None issued = All-nil (λ byte. byte ≢ 47)
IsFreeOf-target_text (Some id) issued =
    All-cons (λ byte. byte ≢ 47) 35 (id_text id) (λ e. omega arith) (IsFreeOf-id_text id issued)

pub IsFreeOf-component_text : (part : Part) → IsPart part → IsFreeOf 47 (component_text part)
IsFreeOf-component_text part is_part =
    let name = IsFreeOf-name_text 47 part.name (omega arith)
    (All-weaker IsNameByte (λ byte. byte ≢ 47) (λ byte allowed. allowed.not_slash) part.name is_part.name.each) in
    All-append (λ byte. byte ≢ 47) (name_text part.name) (target_text part.target) name (IsFreeOf-target_text part.target is_part.target)

target_same : (target other : Option Id) → IfSome target IsIssued → IfSome other IsIssued →
    target_text target ≡ target_text other → target ≡ other
target_same None None issued also e = refl
target_same None (Some id) issued also e = cc
target_same (Some id) None issued also e = cc
target_same (Some id) (Some other) issued also e =
    let texts : id_text id ≡ id_text other = cc in
    ap Some (id_text_injective id other issued also texts)

-- a part is its name and its target
part_same : (part other : Part) → part.name ≡ other.name → part.target ≡ other.target → part ≡ other
part_same part other e f =
    let with_name = λ (name : List ℕ). let made : Part = record { name = name; target = part.target } in made in
    let with_target = λ (target : Option Id). let made : Part = record { name = other.name; target = target } in made in
    ap with_name e ∙ ap with_target f

pub component_text_injective : (part other : Part) → IsPart part → IsPart other →
    component_text part ≡ component_text other → part ≡ other
component_text_injective part other is_part also e =
    let cut = component_cut (name_text part.name) (target_text part.target) other also (no_sign part.name is_part.name) (IsEndOr-target_text part.target) e in
    part_same part other (name_text_injective part.name other.name cut.0) (target_same part.target other.target is_part.target also.target cut.1)

-- no blank and no control byte stands in the spelling of a target
pub target_text_visible : (target : Option Id) → IfSome target IsIssued → All (λ byte. 33 ≤ byte) (target_text target)
target_text_visible None issued = All-nil (λ byte. 33 ≤ byte)
target_text_visible (Some id) issued = All-cons (λ byte. 33 ≤ byte) 35 (id_text id) (omega arith) (id_text_visible id issued)
