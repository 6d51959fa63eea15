use Rattle.ficus_merge_laws.proofs.Following.{states_stay, collect_stands, entered_stands, killed_stands}
use Rattle.ficus_merge_laws.proofs.states.states_follow_events.Goals as goal

pub returns-clause-stay : goal.returns-clause-stay
returns-clause-stay c = states_stay

pub returns-clause-entered : goal.returns-clause-entered
returns-clause-entered c = entered_stands

pub returns-clause-removed : goal.returns-clause-removed
returns-clause-removed c = killed_stands

pub returns-clause-collected : goal.returns-clause-collected
returns-clause-collected c = collect_stands
