use Rattle.std.proofs.Common.{◌≡◌, ◌-◌, ◌++◌, ◌∷◌, ◌∙◌, length, take, drop, arith, ap, sym}
use Rattle.std.specs.List.{flat_map}
use Rattle.std.proofs.lemmas.List.Concat.{flat_map-append}
use Rattle.std.proofs.lemmas.Result.{IfOk-weaker}
use Rattle.ficus_persistent.proofs.Spellings.{to_the_end, long, bytes_before, bytes_behind}
use Rattle.ficus_persistent.proofs.leaf.Leaf.spelled_with.Goals as goal

pub overflow_sub-end : goal.overflow_sub-end
overflow_sub-end g c =
    let spell = g.T.Spelled.spell in
    let items = c.deref.result.now in
    let is : c.in-Some.bytes.items ≡ flat_map spell items =
    rw (c.in-Some.is, ← c.deref.ensures.value) at c.self.invariant in
    let all : c.len.result ≡ length c.in-Some.bytes.items = grind arith in
    omega (
      arith,
      c.in_ok-end-in-Some.ensures ∙ ap (λ part. length (flat_map spell part)) (to_the_end items c.args.to),
      all ∙ ap length is,
      long spell items c.args.from c.args.to c.requires.order,
    )

pub overflow_sub-start : goal.overflow_sub-start
overflow_sub-start g c =
    let spell = g.T.Spelled.spell in
    let items = c.deref.result.now in
    let is : c.in-Some.bytes.items ≡ flat_map spell items =
    rw (c.in-Some.is, ← c.deref.ensures.value) at c.self.invariant in
    let all : c.len.result ≡ length c.in-Some.bytes.items = grind arith in
    let same : c.deref-in-Some.result.now ≡ items = c.deref-in-Some.ensures.value ∙ sym c.deref.ensures.value in
    omega (
      arith,
      c.in_ok-end-in-Some.ensures ∙ ap (λ part. length (flat_map spell part)) (to_the_end items c.args.to),
      c.in_ok-start-in-Some.ensures
          ∙ ap (λ whole. length (flat_map spell (take (c.args.to - c.args.from) (drop c.args.from whole)))) same,
      all ∙ ap length is,
      long spell items c.args.from c.args.to c.requires.order,
    )

pub returns-in_ok-start-in-Some : goal.returns-in_ok-start-in-Some
returns-in_ok-start-in-Some g c =
    let spell = g.T.Spelled.spell in
    let items = c.deref.result.now in
    let bytes = c.in-Some.bytes.items in
    let is : bytes ≡ flat_map spell items = rw (c.in-Some.is, ← c.deref.ensures.value) at c.self.invariant in
    let all : c.len.result ≡ length bytes = grind arith in
    let same : c.deref-in-Some.result.now ≡ items = c.deref-in-Some.ensures.value ∙ sym c.deref.ensures.value in
    let items_are : c.args.self.now ≡ items = grind arith in
    let from = c.args.from in
    let to = c.args.to in
    let order = c.requires.order in
    let rest : c.in_ok-end-in-Some.field-0 ≡ length (flat_map spell (drop to items)) =
    c.in_ok-end-in-Some.ensures ∙ ap (λ part. length (flat_map spell part)) (to_the_end items to) in
    let part : c.in_ok-start-in-Some.field-0 ≡ length (flat_map spell (take (to - from) (drop from items))) =
    c.in_ok-start-in-Some.ensures
    ∙ ap (λ whole. length (flat_map spell (take (to - from) (drop from whole)))) same in
    let end = c.len.result - c.in_ok-end-in-Some.field-0 in
    let start = end - c.in_ok-start-in-Some.field-0 in
    let wide = long spell items from to order in
    let front : take start bytes ≡ flat_map spell (take from items) =
    bytes_before spell items from to order bytes is start end (omega (arith, rest, part, all ∙ ap length is, wide))
    (omega (arith, rest, part, all ∙ ap length is, wide)) in
    let back : drop end bytes ≡ flat_map spell (drop to items) =
    bytes_behind spell items from to order bytes is start end (omega (arith, rest, part, all ∙ ap length is, wide))
    (omega (arith, rest, part, all ∙ ap length is, wide)) in
    let second = c.deref-in-Some-3.result.now in
    IfOk-weaker c.between.result _ _
    (λ made made_is.
    rw items_are
    (made_is
    ∙ ap (λ whole. take start whole ++ (spell c.args.item.now ++ take (length second - end) (drop end second)))
    c.deref-in-Some-2.ensures.value
    ∙ ap (λ whole. take start bytes ++ (spell c.args.item.now ++ take (length whole - end) (drop end whole)))
    c.deref-in-Some-3.ensures.value
    ∙ ap (λ some. take start bytes ++ (spell c.args.item.now ++ some)) (to_the_end bytes end)
    ∙ ap (λ some. some ++ (spell c.args.item.now ++ drop end bytes)) front
    ∙ ap (λ some. flat_map spell (take from items) ++ (spell c.args.item.now ++ some)) back
    ∙ sym (flat_map-append spell (take from items) (c.args.item.now ∷ drop to items))))
    c.between.ensures
