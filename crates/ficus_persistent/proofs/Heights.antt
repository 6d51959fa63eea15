-- How high a tree stands.
use Rattle.std.proofs.Common.{◌≡◌, ℕ, ◌+◌, ◌-◌, ◌*◌, ◌/◌, ◌^◌, ◌<◌, ◌≤◌, List, [], ◌∷◌, ◌++◌, length, ap, ◌∙◌, arith, inl, inr, length-append}
use Rattle.std.proofs.Math.Nat.{mul-le-mul}
use Rattle.std.proofs.Math.Pow.{pow_mono}
use Rattle.std.proofs.lemmas.Bool.{cases_lt}
use Rattle.std.proofs.lemmas.Nat.{pow-add}
use Rattle.ficus_persistent.specs.Node.{items_of, IsSound}
use Rattle.ficus_persistent.specs.declared.tree.Node.{Node}
use Rattle.ficus_persistent.specs.declared.tree.Node.TheVariants.{Empty, Leaf, Fork}
use Rattle.ficus_persistent.specs.Shape.{Shape, joined, IsBelow, AreBelow, IsLow}

twice_power : (k : ℕ) → 2 ^ (k + 1) ≡ 2 ^ k * 2
twice_power k = pow-add 2 k 1

-- two trees below a node of this height have as many items as a tree of that height has at the least
pub below_filled : {T : Type 0} (height : ℕ) (trees : List (Shape T)) → AreBelow height trees → 2 ≤ length trees →
    2 ^ height ≤ 2 * length (joined trees)
below_filled height [] level several = absurd (omega arith)
below_filled height (tree ∷ []) level several = absurd (omega arith)
below_filled height (first ∷ second ∷ rest) level several =
    let up : 2 ^ height ≡ 2 ^ first.height * 2 = ap (λ h. 2 ^ h) level.0.above ∙ twice_power first.height in
    let same : first.height ≡ second.height = omega (arith, level.0.above, level.1.0.above) in
    let also : 2 ^ first.height ≤ 2 * length second.items = rw same level.1.0.filled in
    omega (
      arith,
      up,
      level.0.filled,
      also,
      length-append first.items (second.items ++ joined rest),
      length-append second.items (joined rest),
    )

-- they stand, so a node above them is higher than one
fork_stands : {T : Type 0} (height : ℕ) (trees : List (Shape T)) → 2 ≤ length trees → AreBelow height trees →
    height ≡ 0 → ⊥
fork_stands height [] several level none = omega arith
fork_stands height (tree ∷ trees) several level none = omega (arith, level.0.above)

pub node_filled : {T : Type 0} (height : ℕ) (n : Node T) → IsSound height n → 0 < height →
    2 ^ height ≤ 2 * length (items_of n)
node_filled height Empty sound some = absurd (omega arith)
node_filled height (Leaf items) sound some =
    let one : 2 ^ height ≡ 2 = ap (λ h. 2 ^ h) sound.high in omega (arith, one, sound.some)
node_filled height (Fork below) sound some = below_filled height below.value.items sound.level sound.several

-- of no height are the trees without items
pub node_stands : {T : Type 0} (height : ℕ) (n : Node T) → IsSound height n → length (items_of n) ≡ 0 → height ≡ 0
node_stands height n sound none =
    elim (cases_lt 0 height) [
      | inl some ↦
          let more : 2 ^ 0 ≤ 2 ^ height = pow_mono {i = 0} {j = height} (omega arith) in
          absurd (omega (arith, node_filled height n sound some, more))
      | inr none_stand ↦ omega arith
    ]

pub node_lies : {T : Type 0} (height : ℕ) (n : Node T) → IsSound height n → height ≡ 0 → length (items_of n) ≡ 0
node_lies height Empty sound none = omega arith
node_lies height (Leaf items) sound none = absurd (omega (arith, sound.high))
node_lies height (Fork below) sound none = absurd (fork_stands height below.value.items sound.several sound.level none)

-- a fork stands above its trees
pub above_row : {T : Type 0} (height : ℕ) (row : List (Shape T)) (tree : Shape T) → AreBelow height row →
    2 ≤ length row → tree.items ≡ joined row → tree.height ≡ height → IsBelow (height + 1) tree
above_row height row tree level several items high = record {
  above = omega arith;
  stands =
      elim (cases_lt 0 tree.height) [
        | inl some ↦ some
        | inr none ↦ absurd (fork_stands height row several level (omega arith))
      ];
  filled = rw (high, items) (below_filled height row level several);
}

-- a tree with so many items for its height is low
pub low_where_filled : (count height : ℕ) → (0 < height → 2 ^ height ≤ 2 * count) → IsLow count height
low_where_filled count height filled =
    elim (cases_lt 1 height) [
      | inl more ↦
          let down : 2 ^ ((height + 1) / 2) ≤ 2 ^ (height - 1) = pow_mono (omega arith) in
          let at : height ≡ height - 1 + 1 = omega arith in
          let up : 2 ^ height ≡ 2 ^ (height - 1) * 2 = ap (λ h. 2 ^ h) at ∙ twice_power (height - 1) in
          omega (arith, down, up, filled (omega arith))
      | inr few ↦ elim (cases_lt 0 height) [
        | inl one ↦
            let at : (height + 1) / 2 ≡ 1 = omega arith in
            let is : 2 ^ ((height + 1) / 2) ≡ 2 = ap (λ h. 2 ^ h) at in
            let high : height ≡ 1 = omega arith in
            let two : 2 ^ height ≡ 2 = ap (λ h. 2 ^ h) high in
            omega (arith, is, two, filled one)
        | inr none ↦
            let at : (height + 1) / 2 ≡ 0 = omega arith in
            let is : 2 ^ ((height + 1) / 2) ≡ 1 = ap (λ h. 2 ^ h) at in
            omega (arith, is)
      ]
    ]

-- a tree that a `u32` can count is at most 64 high
pub low_fits : (count height : ℕ) → IsLow count height → count < 4294967296 → height ≤ 64
low_fits count height low few =
    elim (cases_lt 64 height) [
      | inl higher ↦
          let more : 2 ^ 33 ≤ 2 ^ ((height + 1) / 2) = pow_mono {i = 33} {j = (height + 1) / 2} (omega arith) in
          absurd (omega (arith, more, low))
      | inr within ↦ within
    ]

-- the height is at most twice the binary logarithm of one more than the count
pub low_square : (count height : ℕ) → IsLow count height → 2 ^ height ≤ (count + 1) * (count + 1)
low_square count height low =
    let half = (height + 1) / 2 in
    let up : 2 ^ height ≤ 2 ^ (half + half) = pow_mono (omega arith) in
    let square : 2 ^ half * 2 ^ half ≤ (count + 1) * (count + 1) = mul-le-mul low low in
    omega (arith, up, pow-add 2 half half, square)

pub leaf_below : {T : Type 0} (tree : Shape T) → tree.height ≡ 1 → 1 ≤ length tree.items → IsBelow 2 tree
leaf_below tree high some =
    let one : 2 ^ tree.height ≡ 2 = ap (λ h. 2 ^ h) high in
    record { above = omega arith; stands = omega arith; filled = omega (arith, one) }
