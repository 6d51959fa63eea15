use Rattle.std.proofs.Common.{List, Err, ap, refl, subst}
use Rattle.std.specs.Prelude.{String}
use Rattle.std.specs.declared.alloc.Global.{Global}
use Rattle.ficus_top.specs.Words.{texts}
use Rattle.ficus_words.specs.MemberMode.{AreMemberWords, AreNoMemberWords}
use Rattle.ficus_member.proofs.Calls.{as_mode, fits_member, refused}
use Rattle.ficus_member.proofs.program.member.Goals as goal

pub carry_out-requires-clause-fits : goal.carry_out-requires-clause-fits
carry_out-requires-clause-fits g c = fits_member c.in-Ok.mode c.in-Ok.ensures.read

pub returns-in-Ok : goal.returns-in-Ok
returns-in-Ok g c =
    as_mode c.in-Ok.mode c.carry_out.result
    (subst (λ (given : List (String Global)). AreMemberWords (texts given) c.in-Ok.mode) c.as_slice.ensures.value
    c.in-Ok.ensures.read)
    c.of.ensures c.carry_out.ensures.read c.carry_out.ensures.does

pub returns-in-Err : goal.returns-in-Err
returns-in-Err g c =
    refused (texts c.args.words.now.items) c.in-Err.fault c.of-in-Err.ensures
    (λ is. subst (λ (given : List (String Global)). AreNoMemberWords (texts given)) c.as_slice.ensures.value
    (c.in-Err.ensures.usage (ap Err is)))
    (record { input = refl; output = refl; there = record { disks = refl; beside = refl; mail = refl } })
