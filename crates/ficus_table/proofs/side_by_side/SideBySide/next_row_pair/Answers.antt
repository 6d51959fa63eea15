use Rattle.std.proofs.Common.{◌≡◌, ◌+◌, None, option_copied, sym, ap, ◌∙◌}
use Rattle.std.specs.Int.{from_bool}
use Rattle.std.proofs.lemmas.Bool.{false≢true}
use Rattle.ficus_table.proofs.Walk.{walked_on, passes_on, taken, taken-copied, copied_none}
use Rattle.ficus_table.proofs.side_by_side.SideBySide.next_row_pair.Goals as goal
use Rattle.ficus_table.proofs.side_by_side.SideBySide.next_row_pair.Goals.{After-self-2-1, else-is_none-via-then-is_none+else-is_none-2, else-is_none-via-else-is_none}

some_next : (g : _) (c : After-self-2-1 g) → option_copied c.seen_at-my_next.result ≡ None →
    option_copied c.seen_at-their_next.result ≡ None → ⊥
some_next g c mine_ended theirs_ended =
    elim c.else-is_none.branch [
      | else-is_none-via-then-is_none+else-is_none-2 w ↦
          false≢true (sym (copied_none c.seen_at-their_next.result theirs_ended) ∙ w.if-is_none-2.ensures)
      | else-is_none-via-else-is_none w ↦
          false≢true (sym (copied_none c.seen_at-my_next.result mine_ended) ∙ w.if-is_none.ensures)
    ]

mine_on : (g : _) (c : After-self-2-1 g) →
    c.self.inside.mine_done + c.from.result ≡ c.self.inside.mine_done + taken (option_copied c.lowest-pair.result.mine)
mine_on g c =
    ap (λ n. c.self.inside.mine_done + n)
    (c.from.ensures ∙ ap from_bool c.is_some.ensures ∙ sym (taken-copied c.lowest-pair.result.mine))

theirs_on : (g : _) (c : After-self-2-1 g) → c.self.inside.theirs_done + c.from-2.result ≡
    c.self.inside.theirs_done + taken (option_copied c.lowest-pair.result.theirs)
theirs_on g c =
    ap (λ n. c.self.inside.theirs_done + n)
    (c.from-2.ensures ∙ ap from_bool c.is_some-2.ensures ∙ sym (taken-copied c.lowest-pair.result.theirs))

pub invariant_of-self : goal.invariant_of-self
invariant_of-self g c =
    walked_on g.R.Row.id_of c.self.inside.mine.now c.self.inside.theirs.now c.self.inside.mine_done c.self.inside.theirs_done
    (c.self.inside.mine_done + c.from.result) (c.self.inside.theirs_done + c.from-2.result)
    (option_copied c.seen_at-my_next.result) (option_copied c.seen_at-their_next.result)
    (option_copied c.lowest-pair.result.mine) (option_copied c.lowest-pair.result.theirs) c.self.invariant
    (sym c.seen_at-my_next.ensures.value) (sym c.seen_at-their_next.ensures.value) c.lowest-pair.ensures
    (some_next g c) (mine_on g c) (theirs_on g c)

pub returns-clause-some : goal.returns-clause-some
returns-clause-some g c =
    rw (← c.self.view_is)
    (passes_on g.R.Row.id_of c.self.inside.mine.now c.self.inside.theirs.now c.self.inside.mine_done c.self.inside.theirs_done
    (c.self.inside.mine_done + c.from.result) (c.self.inside.theirs_done + c.from-2.result)
    (option_copied c.seen_at-my_next.result) (option_copied c.seen_at-their_next.result)
    (option_copied c.lowest-pair.result.mine) (option_copied c.lowest-pair.result.theirs) c.self.invariant
    (sym c.seen_at-my_next.ensures.value) (sym c.seen_at-their_next.ensures.value) c.lowest-pair.ensures
    (some_next g c) (mine_on g c) (theirs_on g c))
