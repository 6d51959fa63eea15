-- Texts in byte order, and how a text is ended.
use Rattle.std.specs.Prelude.{◌≡◌, ◌↔◌, ◌==◌, ◌||◌, ◌-◌, if◌then◌else◌, ℕ, List, [], ◌∷◌, length, map, slice_index, AllPairs, Contains}
use Rattle.std.specs.Borrow.{Bor}
use Rattle.std.specs.Cmp.Lexicographic.{slice_cmp}
use Rattle.std.specs.Ordering.{nat_cmp}
use Rattle.std.specs.declared.cmp.Ordering.TheVariants.{Less}

-- the texts to which the references lead
abbrev pub texts_of : List (Bor (List ℕ)) → List (List ℕ)
texts_of texts = map (λ text. text.now) texts

-- the texts that belong, each once, in byte order
pub record IsInOrder (belongs : List ℕ → Type 0) (texts : List (List ℕ)) : Type 0 where
  pub members : (text : List ℕ) → Contains texts text ↔ belongs text
  pub rising : AllPairs (λ a b. slice_cmp nat_cmp a b ≡ Less) texts

-- byte 10, where the content isn't empty and doesn't end with it
abbrev pub ending : List ℕ → List ℕ
ending content = if length content == 0 || slice_index content (length content - 1) == 10 then [] else 10 ∷ []
