use Rattle.std.proofs.Common.{◌≤◌, length, vec_capacity, arith, refl, sym, subst}
use Rattle.ficus_ids.specs.Rising.{IsRisingBy}
use Rattle.ficus_table.specs.Edits.{IsMadeAtOnce}
use Rattle.ficus_table.proofs.Shown.{overlaid_none}
use Rattle.ficus_table.proofs.Sound.{sound_fresh, rising_seen}
use Rattle.ficus_table.proofs.table.Table.hold.Goals as goal

pub invariant_of-self : goal.invariant_of-self
invariant_of-self g c =
    let list = c.args.list in
    let room : length list ≤ vec_capacity c.clear.new.self = omega
    (arith, c.if-len-capacity.false, c.len.ensures, c.capacity.ensures, c.clear.ensures.capacity) in
    rw c.clear.ensures.items
    (sound_fresh g.R.Row.id_of g.R.Row.seen g.R.Row.formed list (vec_capacity c.clear.new.self) c.requires room
    (subst IsMadeAtOnce (sym c.clear.ensures.capacity) c.self.invariant.made))

pub returns : goal.returns
returns g c =
    let same = overlaid_none g.R.Row.formed g.R.Row.seen c.args.list in
    record {
      items = rw c.clear.ensures.items same;
      edited = rw c.clear.ensures.items refl;
      kept = tt;
      rising = rw c.clear.ensures.items (subst (IsRisingBy g.R.Row.id_of) (sym same)
          (rising_seen g.R.Row.id_of g.R.Row.seen g.R.Row.formed c.args.list c.requires));
    }
