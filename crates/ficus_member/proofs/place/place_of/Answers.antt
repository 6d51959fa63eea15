use Rattle.std.proofs.Common.{Err, List, ap, subst}
use Rattle.std.specs.Prelude.{String}
use Rattle.std.specs.declared.alloc.Global.{Global}
use Rattle.ficus_top.specs.Words.{texts}
use Rattle.ficus_words.specs.MemberMode.{AreNoMemberWords}
use Rattle.ficus_member.proofs.place.place_of.Goals as goal

pub returns-in-Err-Usage-clause-none : goal.returns-in-Err-Usage-clause-none
returns-in-Err-Usage-clause-none c = λ root replica named.
    subst (λ (given : List (String Global)). AreNoMemberWords (texts given)) c.as_slice.ensures.value
    (c.in-Err-Usage.ensures.usage (ap (λ fault. Err fault) c.in-Err-Usage.field-0-is)) named.mode named.are
