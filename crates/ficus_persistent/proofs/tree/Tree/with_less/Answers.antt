use Rattle.std.proofs.Common.{◌≡◌, ◌<◌, ◌+◌, ◌-◌, ◌++◌, length, take, drop, get_or, suc, arith, ap, ◌∙◌}
use Rattle.std.specs.List.{remove}
use Rattle.std.proofs.lemmas.List.{take_rest}
use Rattle.std.proofs.lemmas.Result.{IfOk-weaker}
use Rattle.ficus_persistent.proofs.Rows.{joined_set, below_at, below_set, below_take, below_drop, below-append, mended_in_front, mended_behind}
use Rattle.ficus_persistent.specs.Node.{trees}
use Rattle.ficus_persistent.specs.Shape.{joined, IsBelow, AreBelow}
use Rattle.ficus_persistent.proofs.tree.Tree.with_less.Goals as goal

pub with_front-requires : goal.with_front-requires
with_front-requires g c =
    let stands : 0 < c.args.less.height = grind (arith, c.is_empty.ensures.height) in
    let beside : IsBelow c.args.height c.index-row-1.result =
    rw c.index-row-1.is
    (below_at c.args.height c.args.row.now 1 c.index-row-1.result c.requires.level (omega arith)) in
    record { above = grind (arith, beside.above); stands = stands; filled = c.height.ensures.filled stands }

pub with_behind-requires : goal.with_behind-requires
with_behind-requires g c =
    let stands : 0 < c.args.less.height = grind (arith, c.is_empty.ensures.height) in
    let beside : IsBelow c.args.height c.index-row-child.result =
    rw c.index-row-child.is
    (below_at c.args.height c.args.row.now (c.args.child - 1) c.index-row-child.result c.requires.level (omega arith)) in
    record { above = grind (arith, beside.above); stands = stands; filled = c.height.ensures.filled stands }

pub returns-then-height-clause-level : goal.returns-then-height-clause-level
returns-then-height-clause-level g c =
    let stands : 0 < c.args.less.height = grind (arith, c.is_empty.ensures.height) in
    let below : IsBelow c.args.height c.args.less =
    record { above = grind arith; stands = stands; filled = c.height.ensures.filled stands } in
    IfOk-weaker c.with_other.result _ _
    (λ new is. rw is (below_set c.args.height c.args.row.now c.args.child c.args.less c.requires.level below))
    c.with_other.ensures

pub returns-then-height-clause-items : goal.returns-then-height-clause-items
returns-then-height-clause-items g c =
    IfOk-weaker c.with_other.result _ _
    (λ new is. ap joined is ∙ joined_set c.args.row.now c.args.child c.args.less c.requires.child c.args.less)
    c.with_other.ensures

pub returns-in_ok-grown-clause-items : goal.returns-in_ok-grown-clause-items
returns-in_ok-grown-clause-items g c =
    let row = c.args.row.now in
    let here : c.args.child ≡ 0 = omega arith in
    let more : 1 < length row = omega arith in
    let grown : joined (trees c.in_ok-grown.grown) ≡ c.args.less.items ++ (get_or row 1 c.index-row-1.result).items =
    rw (← c.index-row-1.is) c.in_ok-grown.ensures.items in
    IfOk-weaker c.with_grown.result _ _
    (λ new is. rw here (ap joined is ∙ mended_in_front row c.index-row-1.result c.args.less.items
    (trees c.in_ok-grown.grown) (take (length row - 1) (drop 1 row)) more (take_rest row 1) grown))
    c.with_grown.ensures

pub returns-in_ok-rest-clause-level : goal.returns-in_ok-rest-clause-level
returns-in_ok-rest-clause-level g c =
    let row = c.args.row.now in
    let rest = c.deref.result.now in
    let left : rest ≡ remove row c.args.child = c.deref.ensures.value ∙ c.in_ok-rest.ensures in
    let level : AreBelow c.args.height rest =
    rw left
    (below-append c.args.height (take c.args.child row) (drop (suc c.args.child) row)
    (below_take c.args.height row c.args.child c.requires.level)
    (below_drop c.args.height row (suc c.args.child) c.requires.level)) in
    let beside : IsBelow c.args.height c.index-row-child.result =
    rw c.index-row-child.is
    (below_at c.args.height row (c.args.child - 1) c.index-row-child.result c.requires.level (omega arith)) in
    let grown : AreBelow c.args.height (trees c.in_ok-grown-2.grown) =
    rw beside.above c.in_ok-grown-2.ensures.level in
    IfOk-weaker c.with_grown-else-child-eq0.result _ _
    (λ new is. rw is
    (below-append c.args.height (take (c.args.child - 1) rest)
    (trees c.in_ok-grown-2.grown ++ drop (c.args.child - 1 + 1) rest)
    (below_take c.args.height rest (c.args.child - 1) level)
    (below-append c.args.height (trees c.in_ok-grown-2.grown) (drop (c.args.child - 1 + 1) rest) grown
    (below_drop c.args.height rest (c.args.child - 1 + 1) level)))) c.with_grown-else-child-eq0.ensures

pub returns-in_ok-rest-clause-items : goal.returns-in_ok-rest-clause-items
returns-in_ok-rest-clause-items g c =
    let row = c.args.row.now in
    let rest = c.deref.result.now in
    let i = c.args.child - 1 in
    let one : i + 1 ≡ c.args.child = omega arith in
    let left : rest ≡ remove row c.args.child = c.deref.ensures.value ∙ c.in_ok-rest.ensures in
    let grown : joined (trees c.in_ok-grown-2.grown) ≡ (get_or row i c.index-row-child.result).items ++ c.args.less.items =
    rw (← c.index-row-child.is) c.in_ok-grown-2.ensures.items in
    IfOk-weaker c.with_grown-else-child-eq0.result _ _
    (λ new is. ap joined is ∙ mended_behind row c.index-row-child.result c.args.less.items
    (trees c.in_ok-grown-2.grown) rest i c.args.child one c.requires.child left grown)
    c.with_grown-else-child-eq0.ensures
