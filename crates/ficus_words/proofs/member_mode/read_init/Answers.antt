use Rattle.std.proofs.Common.{rules, ◌≡◌, sym, subst, ℕ}
use Rattle.std.specs.Prelude.{Err}
use Rattle.ficus_words.specs.Given.{given_texts, IsNumber}
use Rattle.ficus_words.specs.MemberMode.{IsMemberReadingOf}
use Rattle.ficus_words.specs.Mode.{IsSize}
use Rattle.ficus_words.specs.declared.fault.WordsFault.TheVariants.{Usage}
use Rattle.ficus_words.proofs.OneMember.{no_replica}
use Rattle.ficus_words.proofs.member_mode.read_init.Goals as goal

pub returns-in_err-replica : goal.returns-in_err-replica
returns-in_err-replica c =
    let texts = given_texts c.args.given.now in
    let sized : IsSize texts c.in_ok-size.size = search rules in
    let none : (number : ℕ) → IsNumber 1 c.count.result texts.replica number → ⊥ = search rules in
    let is : c.from_residual-in_err-replica.result ≡ Err Usage = search rules in
    subst (λ r. IsMemberReadingOf texts r) (sym is)
    (no_replica texts c.in_ok-size.size c.count.result c.requires sized c.count.ensures.value none)
