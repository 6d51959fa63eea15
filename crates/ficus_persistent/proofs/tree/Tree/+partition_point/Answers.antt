use Rattle.std.proofs.Common.{◌≡◌, ◌+◌, ◌≤◌, length, arith}
use Rattle.std.proofs.lemmas.Grind.{common_steps}
use Rattle.ficus_persistent.proofs.Cuts.{parted_in, cut_in_row}
use Rattle.ficus_persistent.proofs.Rows.{length-joined_more, length_in_front}
use Rattle.ficus_persistent.specs.Shape.{joined}
use Rattle.ficus_persistent.proofs.tree.Tree.+partition_point.Goals as goal
use Rattle.ficus_persistent.proofs.tree.Tree.+partition_point.Goals.{After-partition_point}

pub count_of-before-requires : goal.count_of-before-requires
count_of-before-requires g t c =
    let row = c.as_slice-below.result.now in
    let is : c.args.self.now.items ≡ joined row = grind arith in
    grind (arith, length_in_front row c.cut_through-child.result, is)

pub partition_point-requires : goal.partition_point-requires
partition_point-requires g t c κs within =
    let row = c.as_slice-below.result.now in
    let is : c.args.self.now.items ≡ joined row = grind arith in
    let i = c.cut_through-child.result in (
      grind (arith, common_steps),
      (
        within.0,
        (
          within.1,
          rw c.index-below-child.is
              (parted_in (g.C.Cut.is_before c.args.cut.now) row (rw is at c.requires) i c.index-below-child.result (omega arith)),
        ),
      ),
    )

-- the place in the tree is, behind the items in front of it, one in the row
within : (g : _) (t : _) (c : After-partition_point g t) →
    c.count_of-before.result + c.partition_point.result ≤ length c.args.self.now.items
within g t c =
    let row = c.as_slice-below.result.now in
    let is : c.args.self.now.items ≡ joined row = grind arith in
    let i = c.cut_through-child.result in
    grind (
      arith,
      length-joined_more row i c.index-below-child.result c.cut_through-child.ensures.child,
      length_in_front row (i + 1),
      c.index-below-child.is,
      is,
    )

pub overflow_add-result : goal.overflow_add-result
overflow_add-result g t c = let inside = within g t (goal.at.overflow_add-result g t c).After-partition_point in omega arith

pub returns-in-Fork-clause-within : goal.returns-in-Fork-clause-within
returns-in-Fork-clause-within g t c = within g t (goal.at.returns-in-Fork-clause-within g t c).After-partition_point

pub returns-in-Fork-clause-point : goal.returns-in-Fork-clause-point
returns-in-Fork-clause-point g t c =
    let row = c.as_slice-below.result.now in
    let is : c.args.self.now.items ≡ joined row = grind arith in
    let through = c.cut_through-child in
    rw is
    (cut_in_row (g.C.Cut.is_before c.args.cut.now) row (rw is at c.requires) through.result c.index-below-child.result
    (omega arith) c.partition_point.result (c.count_of-before.result + c.partition_point.result) (grind arith)
    (rw (← c.index-below-child.is) c.partition_point.ensures.within) through.ensures.front through.ensures.back
    (rw (← c.index-below-child.is) c.partition_point.ensures.point))
