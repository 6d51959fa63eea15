use Rattle.ficus_script.proofs.verbs.is_step_of.Goals as goal

pub returns-in-Some-Nothing : goal.returns-in-Some-Nothing
returns-in-Some-Nothing c =
    rw (c.in-Some-Nothing.is-0, c.in-Some-Nothing.is-1) (c.is_step.ensures _ c.with_nothing.ensures)

pub returns-in-None-OneOrder : goal.returns-in-None-OneOrder
returns-in-None-OneOrder c =
    rw (c.in-None-OneOrder.is-0, c.in-None-OneOrder.is-1) (c.is_step-in-None-OneOrder.ensures _ c.with_order.ensures)
