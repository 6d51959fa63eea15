use Rattle.std.proofs.Common.{refl, subst, sym, arith}
use Rattle.std.proofs.lemmas.Bool.{false≢true}
use Rattle.std.specs.Str.{IsUtf8}
use Rattle.ficus_ids.proofs.NumberLaws.{BeginsPlainly, BeginsPlainly-decimal, IsUtf8-decimal, found_by_parse, none_by_parse}
use Rattle.ficus_ids.proofs.number.read_number.Goals as goal

pub returns-then-not-begins_plainly-clause-none : goal.returns-then-not-begins_plainly-clause-none
returns-then-not-begins_plainly-clause-none c = λ n small same.
    false≢true (c.if-not-begins_plainly.ensures.1 (subst BeginsPlainly (sym same) (BeginsPlainly-decimal n (omega arith))))

pub returns-in-Ok-clause-found : goal.returns-in-Ok-clause-found
returns-in-Ok-clause-found c =
    let parsed = rw c.in-Ok.ensures.cases.0 at c.parse.ensures.value.0 in
    rw c.ok.ensures.value (found_by_parse _ c.parse.result (c.if-not-begins_plainly.ensures.0 refl) parsed)

pub returns-in-Ok-clause-none : goal.returns-in-Ok-clause-none
returns-in-Ok-clause-none c =
    let parsed = rw c.in-Ok.ensures.cases.0 at c.parse.ensures.value.0 in
    rw c.ok.ensures.value (none_by_parse c.args.bytes.now c.parse.result parsed)

pub returns-in-Err-clause-none : goal.returns-in-Err-clause-none
returns-in-Err-clause-none c = λ n small same.
    c.in-Err.ensures.cases.0 (subst IsUtf8 (sym same) (IsUtf8-decimal n (omega arith)))
