-- The spelling of a name, and that no two names share one.
use Rattle.std.proofs.Common.{◌≡◌, ◌≢◌, ℕ, ◌<◌, ◌≤◌, List, [], ◌++◌, length, Result, Ok, Err, IfNone, refl, sym, ◌∙◌, subst, All}
use Rattle.std.specs.Result.{result_ok}
use Rattle.ficus_ids.specs.Name.{IsName}
use Rattle.ficus_ids.specs.declared.name.NameFault.{NameFault}
use Rattle.ficus_ids.specs.declared.name.NameFault.TheVariants.{NotName, Memory}
use Rattle.ficus_path.specs.Spelling.{byte_text, name_text}
use Rattle.ficus_path.proofs.CutLaws.{IsFreeOf}
use Rattle.ficus_path.proofs.ByteLaws.{IsSpelling-byte_text, IsFreeOf-byte_text, byte_text_visible}
use Rattle.ficus_path.proofs.SpelledLaws.{spelled_injective, spelled_not_empty}
use Rattle.ficus_path.proofs.Lists.{All-flat_map}

pub name_text_injective : (name other : List ℕ) → name_text name ≡ name_text other → name ≡ other
name_text_injective name other e = spelled_injective byte_text IsSpelling-byte_text name other e

-- where bytes give no name, no name has their spelling
pub no_name : (bytes text : List ℕ) (r : Result (List ℕ) NameFault) → text ≡ name_text bytes →
    (r ≡ Err NotName → IsName bytes → ⊥) → (r ≡ Err Memory → ⊥) →
    IfNone (result_ok r) ((name : List ℕ) → IsName name → text ≡ name_text name → ⊥)
no_name bytes text (Ok name) spelled not_name memory = tt
no_name bytes text (Err NotName) spelled not_name memory = λ name is_name e.
    not_name refl (subst IsName (name_text_injective name bytes (sym e ∙ spelled)) is_name)
no_name bytes text (Err Memory) spelled not_name memory = absurd (memory refl)

-- the name's spelling is free of what the name is free of
pub IsFreeOf-name_text : (s : ℕ) (name : List ℕ) → s < 48 → IsFreeOf s name → IsFreeOf s (name_text name)
IsFreeOf-name_text s name low free =
    All-flat_map (λ byte. byte ≢ s) (λ byte. byte ≢ s) byte_text (λ b other. IsFreeOf-byte_text s b low other) name free

-- no blank and no control byte stands in the spelling of a name
pub name_text_visible : (name : List ℕ) → All (λ byte. 33 ≤ byte) (name_text name)
name_text_visible name =
    All-flat_map (λ byte. 33 ≤ byte) (λ _. Unit {0}) byte_text (λ b _. byte_text_visible b) name (λ _ _ _. tt)

pub name_text_not_empty : (name rest : List ℕ) → 1 ≤ length name → name_text name ++ rest ≡ [] → ⊥
name_text_not_empty name rest more e = spelled_not_empty byte_text IsSpelling-byte_text name rest more e
