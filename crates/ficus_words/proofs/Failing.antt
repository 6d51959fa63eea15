-- Searches for faults that give up, and faults that are some.
use Rattle.std.proofs.Common.{◌≡◌, ◌∙◌, Bool, true, false, refl, sym, ap, List, [], ◌∷◌, true≢false}
use Rattle.clap.specs.Kinds.{Kinds, or_else}

pub cons≢nil : {X : Type 0} (x : X) (xs : List X) → x ∷ xs ≡ [] → ⊥
cons≢nil {X} x xs e = true≢false (ap some e)
  where
    some : List X → Bool
    some [] = false
    some (y ∷ ys) = true

-- the kinds are some
abbrev pub Fails : Kinds → Type 0
Fails kinds = kinds ≡ [] → ⊥

pub or_else_nil : (k : Kinds) → or_else k [] ≡ k
or_else_nil [] = refl
or_else_nil (x ∷ xs) = refl

pub or_else_assoc : (a b c : Kinds) → or_else (or_else a b) c ≡ or_else a (or_else b c)
or_else_assoc [] b c = refl
or_else_assoc (x ∷ xs) b c = refl

pub fails_left : (a b : Kinds) → Fails a → Fails (or_else a b)
fails_left [] b fails = absurd (fails refl)
fails_left (x ∷ xs) b fails = fails

pub fails_right : (a b : Kinds) → Fails b → Fails (or_else a b)
fails_right [] b fails = fails
fails_right (x ∷ xs) b fails = cons≢nil x xs

pub fails_as : {a b : Kinds} → a ≡ b → Fails b → Fails a
fails_as same fails = λ e. fails (sym same ∙ e)
