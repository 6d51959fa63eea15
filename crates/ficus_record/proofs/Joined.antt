-- What is spelled in steps.
use Rattle.std.specs.Prelude.{◌≡◌, ℕ, List, ◌++◌}
use Rattle.std.proofs.Common.{append_assoc}

-- what was appended in two steps are both parts, one after the other
pub two_joined : (out one two a b : List ℕ) → one ≡ out ++ a → two ≡ one ++ b → two ≡ out ++ (a ++ b)
two_joined out one two a b p q = rw (q, p) (simp append_assoc)

-- and what was appended in three steps are all three
pub three_joined : (out one two three a b c : List ℕ) → one ≡ out ++ a → two ≡ one ++ b → three ≡ two ++ c →
    three ≡ out ++ (a ++ (b ++ c))
three_joined out one two three a b c p q r = rw (r, q, p) (simp append_assoc)
