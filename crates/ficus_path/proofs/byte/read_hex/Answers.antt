use Rattle.std.proofs.Common.{◌≡◌, ◌/◌, ◌%◌, subst, arith}
use Rattle.std.proofs.lemmas.Bool.{false≢true}
use Rattle.ficus_path.specs.Spelling.{hex_text, byte_text}
use Rattle.ficus_path.proofs.ByteLaws.{IsHexed-from, IsHexed-value}
use Rattle.ficus_path.proofs.byte.read_hex.Goals as goal

pub returns-in_err-hex_value-clause-none : goal.returns-in_err-hex_value-clause-none
returns-in_err-hex_value-clause-none c = rw c.from_residual.ensures (λ byte e.
    let hexed = IsHexed-from byte c.args.high c.args.low e in
    c.in_err-hex_value.ensures.none (byte / 16) (omega (arith, hexed.small)) hexed.high_is)

pub returns-in_err-byte-clause-none : goal.returns-in_err-byte-clause-none
returns-in_err-byte-clause-none c = rw c.from_residual-in_err-byte.ensures (λ byte e.
    let hexed = IsHexed-from byte c.args.high c.args.low e in
    c.in_err-byte.ensures.none (byte % 16) (omega arith) hexed.low_is)

pub returns-else-is_hexed-clause-none : goal.returns-else-is_hexed-clause-none
returns-else-is_hexed-clause-none c = λ byte e.
    let hexed = IsHexed-from byte c.args.high c.args.low e in
    let value = IsHexed-value byte c.args.high c.args.low _ _ hexed c.in_ok-hex_value.ensures.found c.in_ok-byte.ensures.found in
    false≢true (c.if-is_hexed.ensures.1 (subst (λ n. byte_text n ≡ hex_text n) value hexed.text))
