use Rattle.std.specs.Prelude.{◌≡◌, List, ℕ, ◌++◌, codes}
use Rattle.std.proofs.Common.{append_assoc}
use Rattle.ficus_formats.specs.Format.{byte, number32, number64}
use Rattle.ficus_image.proofs.front.put_front.Goals as goal

joined : (out one two three four five six seven eight a b c d e f g h : List ℕ) → one ≡ out ++ a → two ≡ one ++ b →
    three ≡ two ++ c → four ≡ three ++ d → five ≡ four ++ e → six ≡ five ++ f → seven ≡ six ++ g → eight ≡ seven ++ h →
    eight ≡ out ++ (a ++ (b ++ (c ++ (d ++ (e ++ (f ++ (g ++ h)))))))
joined out one two three four five six seven eight a b c d e f g h p q r s t u v w =
    rw (w, v, u, t, s, r, q, p) (simp append_assoc)

pub returns-clause-put : goal.returns-clause-put
returns-clause-put c =
    let s = c.args.saved.now in
    joined c.args.out.now.items _ _ _ _ _ _ _ _ (codes "FIC2") (byte.spell s.me) (byte.spell s.members)
    (number32.spell s.ids) (number32.spell s.bytes) (number32.spell s.next) (number32.spell s.used)
    (number64.spell s.generation) c.in_ok-put_bytes.ensures.put c.in_ok-put_u8.ensures.put
    (rw c.count.ensures.value at c.in_ok-put_u8-2.ensures.put) c.in_ok-put_u32.ensures.put c.in_ok-put_u32-2.ensures.put
    c.in_ok-put_u32-3.ensures.put c.in_ok-put_u32-4.ensures.put c.in_ok-put_u64.ensures.put
