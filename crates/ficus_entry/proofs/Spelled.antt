-- An entry is spelled in three steps.
use Rattle.std.specs.Prelude.{◌≡◌, ℕ, List, ◌++◌}
use Rattle.std.proofs.Common.{append_assoc}

-- what was written in three steps are the parts of an entry, one after the other
pub parts_joined : (out one two three a b c d e f : List ℕ) → one ≡ out ++ (a ++ (b ++ c)) → two ≡ one ++ d →
    three ≡ two ++ (e ++ f) → three ≡ out ++ (a ++ (b ++ ((c ++ d) ++ (e ++ f))))
parts_joined out one two three a b c d e f p q r = rw (r, q, p) (simp append_assoc)
