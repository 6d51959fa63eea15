use Rattle.ficus_final_laws.proofs.Using.{user_sees}
use Rattle.ficus_final_laws.proofs.uses.users_see_life.Goals as goal

pub returns : goal.returns
returns c = user_sees
