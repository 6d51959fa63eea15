use Rattle.std.proofs.Common.{◌≡◌, sym, ◌∙◌, length, arith, rules}
use Rattle.ficus_path.specs.Spelling.{byte_text}
use Rattle.ficus_path.proofs.ByteLaws.{IsSpelling-byte_text}
use Rattle.ficus_path.proofs.SpelledLaws.{spelled_goes_on, GoesOn-longer}
use Rattle.ficus_path.proofs.name.read_bytes.Goals as goal

pub returns-then-is_full-clause-none : goal.returns-then-is_full-clause-none
returns-then-is_full-clause-none c = λ bytes fits e.
    let more = spelled_goes_on byte_text IsSpelling-byte_text _ bytes c.loop-rest.rest.now (sym c.loop-rest.invariant ∙ e) (search rules) in
    let full : length c.loop-rest.bytes.items ≡ 64 = search rules in
    absurd (omega (arith, GoesOn-longer more))

pub returns-in_err-byte-clause-none : goal.returns-in_err-byte-clause-none
returns-in_err-byte-clause-none c = rw c.from_residual.ensures (λ bytes fits e.
    let more = spelled_goes_on byte_text IsSpelling-byte_text _ bytes c.loop-rest.rest.now (sym c.loop-rest.invariant ∙ e) (search rules) in
    c.in_err-byte.ensures.none more.byte _ more.spelled)

pub loop-rest-smaller : goal.loop-rest-smaller
loop-rest-smaller c =
    let shorter = IsSpelling-byte_text.shorter c.in_ok-byte.byte c.in_ok-byte.after.now in
    rw c.in_ok-byte.ensures.found shorter
