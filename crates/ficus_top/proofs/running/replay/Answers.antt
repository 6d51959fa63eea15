use Rattle.std.proofs.Common.{[], inl, inr, subst, ◌∙◌, arith}
use Rattle.std.proofs.lemmas.Result.{IfErr-at_err, IfErr-weaker, err_from_is_err_and, on_ok_weaker}
use Rattle.ficus_opening.specs.declared.fault.WorldFault.TheVariants.{Store}
use Rattle.ficus_top.specs.declared.fault.Fault.TheVariants.{Reading}
use Rattle.ficus_top.specs.declared.fault.Fault.{Fault}
use Rattle.ficus_opening.specs.Rests.{AllRest, OthersRest}
use Rattle.ficus_opening.proofs.Rests.{all_rest_none}
use Rattle.ficus_opening.proofs.Made.{made_rests}
use Rattle.ficus_opening.proofs.Stand.{first_opens}
use Rattle.ficus_opening.proofs.Others.{all_others_rest, others_rest_then, stay_rests}
use Rattle.ficus_opening.proofs.Steadies.{fault_behind, steady_trans}
use Rattle.ficus_top.specs.Summary.Keeper.{kept_in}
use Rattle.ficus_top.specs.Ending.{IsIdle}
use Rattle.ficus_top.specs.Making.{volume_of}
use Rattle.ficus_top.proofs.Answering.{answers_of, front_of}
use Rattle.ficus_top.proofs.Earlier.{ends_since, front_since}
use Rattle.ficus_top.proofs.Resting.{rest_made}
use Rattle.ficus_top.proofs.Stored.{handed_on, idle_both}
use Rattle.ficus_top.proofs.Storing.{making_behind, making_handed, making_unasked}
use Rattle.ficus_top.proofs.running.replay.Goals as goal

pub returns-in_err-make-clause-unfailing : goal.returns-in_err-make-clause-unfailing
returns-in_err-make-clause-unfailing g c = λ fused none r is.
    let given = err_from_is_err_and c.from_residual-in_err-make.result c.from_residual-in_err-make.ensures.1 in
    (c.make.ensures.makes.unfailing fused).unfailing none r
    (handed_on c.make.result c.from_residual-in_err-make.result _ _ c.in_err-make.was given.1 given.2 (Store r) is)

pub returns-clause-unfailing : goal.returns-clause-unfailing
returns-clause-unfailing g c = λ fused none r is.
    c.run_on.ensures.unfailing fused ((c.make.ensures.makes.unfailing fused).unarmed none) r is

pub returns-clause-answers : goal.returns-clause-answers
returns-clause-answers g c = λ source_tells tells.
    let stands = c.in_ok-make.ensures.stands tells in
    on_ok_weaker c.run_on.result (λ ends.
    answers_of {new = c.run_on.new.disks.items} stands.lawful (c.in_ok-commands.ensures.script source_tells).1
    c.deref.ensures.value
    (ends_since g.D.Disk c.in_ok-make.ensures.makes.steady c.make.ensures.makes.armings []
    (λ F rest. rest_made rest (c.make.ensures.makes.unfailing rest.tells) (c.in_ok-make.ensures.makes.regular tells))
    (ends (volume_of c.args.size) [] stands)))
    (c.run_on.ensures.answers tells)

pub returns-clause-prefix : goal.returns-clause-prefix
returns-clause-prefix g c = λ source_tells tells.
    let stands = c.in_ok-make.ensures.stands tells in
    IfErr-weaker c.run_on.result _ _ (λ fault front answering.
    front_of {new = c.run_on.new.disks.items} stands.lawful (c.in_ok-commands.ensures.script source_tells).1
    c.deref.ensures.value
    (front_since g.D.Disk c.in_ok-make.ensures.makes.steady c.make.ensures.makes.armings []
    (λ F rest. rest_made rest (c.make.ensures.makes.unfailing rest.tells) (c.in_ok-make.ensures.makes.regular tells))
    (front answering (volume_of c.args.size) [] stands)))
    (c.run_on.ensures.prefix tells)

pub returns-clause-idle : goal.returns-clause-idle
returns-clause-idle g c =
    idle_both c.run_on.result (λ put unarmed. record {
      put = put;
      unarmed = steady_trans g.D.Disk.armings _ _ _ c.make.ensures.makes.armings unarmed;
      besides = tt;
    }) c.run_on.ensures.idle c.run_on.ensures.unarmed

pub returns-in_err-make-clause-pairs : goal.returns-in_err-make-clause-pairs
returns-in_err-make-clause-pairs g c = c.make.ensures.makes.armings.count

pub returns-clause-pairs : goal.returns-clause-pairs
returns-clause-pairs g c = c.run_on.ensures.opens.pairs ∙ c.make.ensures.makes.armings.count

pub returns-clause-failed : goal.returns-clause-failed
returns-clause-failed g c = λ r is.
    fault_behind g.D.Disk.faults _ _ _ r c.in_ok-make.ensures.makes.steady (c.run_on.ensures.opens.failed r is)

pub returns-clause-never_image : goal.returns-clause-never_image
returns-clause-never_image g c = λ tells r is.
    c.run_on.ensures.opens.never_image tells (volume_of c.args.size) [] (c.in_ok-make.ensures.stands tells) r is

pub returns-in_err-make-clause-spared : goal.returns-in_err-make-clause-spared
returns-in_err-make-clause-spared g c = λ fault unfailed is.
    let given = err_from_is_err_and c.from_residual-in_err-make.result c.from_residual-in_err-make.ensures.1 in
    c.make.ensures.makes.spared fault unfailed
    (handed_on c.make.result c.from_residual-in_err-make.result _ _ c.in_err-make.was given.1 given.2 fault is)

pub returns-clause-spared : goal.returns-clause-spared
returns-clause-spared g c = λ fault unfailed is.
    steady_trans g.D.Disk.faults _ _ _ c.in_ok-make.ensures.makes.steady (c.run_on.ensures.opens.spared fault unfailed is)

pub returns-in_err-make-clause-partly : goal.returns-in_err-make-clause-partly
returns-in_err-make-clause-partly g c = λ tells empty synced fault is.
    let given = err_from_is_err_and c.from_residual-in_err-make.result c.from_residual-in_err-make.ensures.1 in
    inr (IfErr-at_err _ (handed_on c.make.result c.from_residual-in_err-make.result _ _ c.in_err-make.was given.1 given.2 fault is)
    (c.make.ensures.makes.partly tells empty synced))

pub returns-clause-partly : goal.returns-clause-partly
returns-clause-partly g c = λ tells empty synced fault is.
    let old = c.args.disks.now.items in
    let mid = c.make.new.disks.items in
    let new = c.run_on.new.disks.items in
    let members = c.args.size.members in
    let none = IfErr-at_err (λ (f : Fault). IsIdle f → AllRest g.D.Disk mid new) is c.run_on.ensures.opens.rests in
    let rests = none tt in
    inl (record {
      made = made_rests kept_in g.D.Disk (volume_of c.args.size) mid new (c.in_ok-make.ensures.makes.made tells)
          (c.in_ok-make.ensures.makes.synced tells synced) rests;
      rest = others_rest_then g.D.Disk members g.met.D.Disk.left_earlier old mid new
          (stay_rests g.D.Disk members old mid c.make.ensures.makes.others) (all_others_rest g.D.Disk members mid new rests);
    })

pub returns-in_err-make-clause-member : goal.returns-in_err-make-clause-member
returns-in_err-make-clause-member g c = λ tells r is.
    let given = err_from_is_err_and c.from_residual-in_err-make.result c.from_residual-in_err-make.ensures.1 in
    c.make.ensures.makes.member r
    (handed_on c.make.result c.from_residual-in_err-make.result _ _ c.in_err-make.was given.1 given.2 (Store r) is)

pub returns-clause-member : goal.returns-clause-member
returns-clause-member g c = λ tells r is.
    let first =
    first_opens kept_in g.D.Disk.seen (volume_of c.args.size) [] c.make.new.disks.items (c.in_ok-make.ensures.stands tells)
    (omega (arith, c.requires.pairs, c.make.ensures.makes.armings.count)) in
    let within = c.run_on.ensures.opens.member tells r is first.0 first.1 in
    omega (arith, within, first.2)

pub returns-in_err-commands-clause-others : goal.returns-in_err-commands-clause-others
returns-in_err-commands-clause-others g c = λ tells.
    all_others_rest g.D.Disk c.args.size.members c.args.disks.now.items c.args.disks.now.items
    (all_rest_none g.D.Disk c.args.disks.now.items)

pub returns-in_err-make-clause-others : goal.returns-in_err-make-clause-others
returns-in_err-make-clause-others g c = λ tells.
    stay_rests g.D.Disk c.args.size.members c.args.disks.now.items c.make.new.disks.items c.make.ensures.makes.others

pub returns-clause-others : goal.returns-clause-others
returns-clause-others g c = λ tells.
    others_rest_then g.D.Disk c.args.size.members g.met.D.Disk.left_earlier c.args.disks.now.items
    c.make.new.disks.items c.run_on.new.disks.items
    (stay_rests g.D.Disk c.args.size.members c.args.disks.now.items c.make.new.disks.items c.make.ensures.makes.others)
    (let first =
    first_opens kept_in g.D.Disk.seen (volume_of c.args.size) [] c.make.new.disks.items (c.in_ok-make.ensures.stands tells)
    (omega (arith, c.requires.pairs, c.make.ensures.makes.armings.count)) in
    subst (λ n. OthersRest g.D.Disk n c.make.new.disks.items c.run_on.new.disks.items) first.2
    (c.run_on.ensures.opens.others tells first.0 first.1))

pub returns-in_err-commands-clause-makes : goal.returns-in_err-commands-clause-makes
returns-in_err-commands-clause-makes g c =
    let given = err_from_is_err_and c.from_residual.result c.from_residual.ensures.1 in
    rw (given.1, given.2)
    (making_unasked g.D.Disk c.args.size.members (Reading c.in_err-commands.field-0.0) tt c.args.disks.now.items)

pub returns-in_err-make-clause-makes : goal.returns-in_err-make-clause-makes
returns-in_err-make-clause-makes g c =
    let given = err_from_is_err_and c.from_residual-in_err-make.result c.from_residual-in_err-make.ensures.1 in
    making_handed g.D.Disk c.make.result c.from_residual-in_err-make.result _ _ c.in_err-make.was given.1 given.2
    c.make.ensures.makes

pub returns-clause-makes : goal.returns-clause-makes
returns-clause-makes g c =
    making_behind g.D.Disk c.run_on.result c.run_on.ensures.kinds c.in_ok-make.ensures.makes
