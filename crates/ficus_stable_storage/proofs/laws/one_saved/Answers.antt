use Rattle.ficus_stable_storage.proofs.laws.one_saved.Goals as goal

pub returns : goal.returns
returns c = c.one_led.ensures.held
