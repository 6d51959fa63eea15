use Rattle.std.proofs.Common.{◌≡◌, ◌≢◌, ℕ, Result, Ok, Err, IfOk, IsErrOf, refl, sym, ap, ◌∙◌}
use Rattle.ficus_image.specs.declared.image_fault.ImageFault.{ImageFault}
use Rattle.ficus_image.specs.declared.image_fault.ImageFault.TheVariants.{NotImage, Memory}
use Rattle.ficus_durable_state.specs.declared.saved.Saved.{Saved}
use Rattle.ficus_stable_storage.proofs.reading.read_image.Goals as goal

-- what was decoded is this, or it is nothing
none_else : (decoded : Result Saved ImageFault) (generation : ℕ) (base : Saved) → generation ≡ base.generation
    → IfOk decoded (λ found. found.generation ≢ generation) → IfOk decoded (λ found. found ≡ base)
    → (IsErrOf decoded NotImage → ⊥) → (IsErrOf decoded Memory → ⊥) → ⊥
none_else (Ok found) generation base of differs is image memory =
    differs (ap (λ (saved : Saved). saved.generation) is ∙ sym of)
none_else (Err NotImage) generation base of differs is image memory = image refl
none_else (Err Memory) generation base of differs is image memory = memory refl

pub returns-clause-none : goal.returns-clause-none
returns-clause-none c is base spelled =
    let told = c.of_generation.ensures in
    let one = rw c.items.ensures at c.decode_image.ensures.one in
    let none = rw c.items.ensures at c.decode_image.ensures.not_image in
    none_else c.decode_image.result c.args.opened.now.generation base spelled.generation (told.none is)
    (one base spelled.image) (λ not. none not base spelled.image)
    (λ wanted. let memory = told.memory.1 wanted in absurd (cc))
