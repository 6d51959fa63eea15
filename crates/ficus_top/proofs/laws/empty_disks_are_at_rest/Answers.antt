use Rattle.ficus_top.proofs.summary.Keepers.{nothing_regular}
use Rattle.ficus_top.proofs.laws.empty_disks_are_at_rest.Goals as goal

pub returns : goal.returns
returns g c = λ members disks F tells empty unarmed states. record {
  tells = tells;
  unarmed = unarmed;
  own = record {
    each = λ r pair at most.
        let nothing = empty.each r pair at most in
        nothing_regular nothing.0 nothing.1;
  };
  states = states;
}
