use Rattle.ficus_script.specs.Verb.{kind_command, path_command, paths_command, text_command}
use Rattle.ficus_script.proofs.VerbLaws.{told_by_verb}
use Rattle.ficus_script.proofs.verbs.is_command_of.Goals as goal

pub returns-in-Some-OnePath : goal.returns-in-Some-OnePath
returns-in-Some-OnePath c =
    let arm = c.in-Some-OnePath in
    rw (c.is_some.ensures, arm.is-0, arm.is-1)
    (told_by_verb (path_command arm.field-0-0 c.args.paths.now.first) _ _
    (c.path_verb.ensures arm.field-0-0 (rw arm.is-0 at c.requires.replica)))

pub returns-in-Some-PathAndKind : goal.returns-in-Some-PathAndKind
returns-in-Some-PathAndKind c =
    let arm = c.in-Some-PathAndKind in
    let kind = rw arm.is-1 at c.requires.arguments in
    rw (c.is_some-in-Some-PathAndKind.ensures, arm.is-0, arm.is-1)
    (told_by_verb (kind_command arm.field-0-0 c.args.paths.now.first arm.field-0-1) _ _
    (c.kind_verb.ensures arm.field-0-0 arm.field-0-1 (rw arm.is-0 at c.requires.replica) kind.1))

pub returns-in-Some-PathAndText : goal.returns-in-Some-PathAndText
returns-in-Some-PathAndText c =
    let arm = c.in-Some-PathAndText in
    let are = rw arm.is-1 at c.requires.arguments in
    rw (c.is_some-in-Some-PathAndText.ensures, arm.is-0, arm.is-1, are.1.1)
    (told_by_verb (text_command arm.field-0-0 c.args.paths.now.first are.1.0) _ _
    (c.text_verb.ensures arm.field-0-0 are.1.0 (rw arm.is-0 at c.requires.replica) are.1.1))

pub returns-in-Some-TwoPaths : goal.returns-in-Some-TwoPaths
returns-in-Some-TwoPaths c =
    let arm = c.in-Some-TwoPaths in
    rw (c.is_some-in-Some-TwoPaths.ensures, arm.is-0, arm.is-1)
    (told_by_verb (paths_command arm.field-0-0 c.args.paths.now.first c.args.paths.now.second) _ _
    (c.paths_verb.ensures arm.field-0-0 (rw arm.is-0 at c.requires.replica)))

pub returns-in-Some-Nothing : goal.returns-in-Some-Nothing
returns-in-Some-Nothing c =
    rw (c.in-Some-Nothing.is-0, c.in-Some-Nothing.is-1) (c.is_one.ensures _ c.with_nothing.ensures)

pub returns-in-None-OneNumber : goal.returns-in-None-OneNumber
returns-in-None-OneNumber c =
    rw (c.in-None-OneNumber.is-0, c.in-None-OneNumber.is-1) (c.is_one-in-None-OneNumber.ensures _ c.with_number.ensures)

pub returns-in-None-OneOrder : goal.returns-in-None-OneOrder
returns-in-None-OneOrder c =
    rw (c.in-None-OneOrder.is-0, c.in-None-OneOrder.is-1) (c.is_one-in-None-OneOrder.ensures _ c.with_order.ensures)

pub returns-in-None-TwoReplicas : goal.returns-in-None-TwoReplicas
returns-in-None-TwoReplicas c =
    rw (c.in-None-TwoReplicas.is-0, c.in-None-TwoReplicas.is-1)
    (c.is_one-in-None-TwoReplicas.ensures _ c.with_replicas.ensures)

pub returns-in-None-Arming : goal.returns-in-None-Arming
returns-in-None-Arming c =
    rw (c.in-None-Arming.is-0, c.in-None-Arming.is-1) (c.is_one-in-None-Arming.ensures _ c.with_arming.ensures)
