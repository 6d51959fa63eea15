use Rattle.std.proofs.Common.{◌≡◌, ◌++◌, Ok, subst}
use Rattle.ficus_file_laws.proofs.Resolving.{HaveBytes, resolve_shows, alike_merge}
use Rattle.ficus_laws.proofs.Positions.{agree_more}
use Rattle.ficus_rules.proofs.Resolvers.{resolvers_agree, agree_itself}
use Rattle.ficus_rules.proofs.laws.resolvers_agree.Goals as goal

pub returns-clause-agree : goal.returns-clause-agree
returns-clause-agree c = λ volume H replica other file one again same resolved resolved_too.
    resolvers_agree volume H H replica other file one again (agree_itself H) same resolved resolved_too

pub returns-clause-later : goal.returns-clause-later
returns-clause-later c = λ volume H later replica other file one again same resolved resolved_too.
    resolvers_agree volume H (H ++ later) replica other file one again (agree_more H later) same resolved resolved_too

pub returns-clause-merged : goal.returns-clause-merged
returns-clause-merged c =
    λ volume H later replica other file one again mine theirs both same resolved resolved_too own brought merged two.
    let alike = resolvers_agree volume H (H ++ later) replica other file (Ok one) (Ok again) (agree_more H later) same
    resolved resolved_too in
    let bytes : again ≡ one = cc in
    alike_merge mine theirs both one
    (resolve_shows H replica file one mine own)
    (subst (HaveBytes theirs) bytes (resolve_shows (H ++ later) other file again theirs brought))
    merged two
