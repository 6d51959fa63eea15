use Rattle.std.proofs.Common.{List, subst, ap, Err}
use Rattle.std.specs.Prelude.{String}
use Rattle.std.specs.declared.alloc.Global.{Global}
use Rattle.ficus_words.specs.Mode.{AreNoWords, AreWords}
use Rattle.ficus_top.specs.Words.{texts}
use Rattle.ficus_top.proofs.WordLaws.{none_found, none_named}
use Rattle.ficus_top.proofs.words.root_of.Goals as goal

pub returns-in-Ok-clause-none : goal.returns-in-Ok-clause-none
returns-in-Ok-clause-none c =
    none_found c.in-Ok.mode c.root_in.result
    (subst (λ (words : List (String Global)). AreWords (texts words) c.in-Ok.mode) c.as_slice.ensures.value
    c.in-Ok.ensures.read) c.root_in.ensures.found

pub returns-in-Err-Usage-clause-none : goal.returns-in-Err-Usage-clause-none
returns-in-Err-Usage-clause-none c =
    none_named (subst (λ (words : List (String Global)). AreNoWords (texts words)) c.as_slice.ensures.value
    (c.in-Err-Usage.ensures.usage (ap Err c.in-Err-Usage.field-0-is)))
