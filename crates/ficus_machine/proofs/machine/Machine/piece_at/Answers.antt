use Rattle.std.proofs.Common.{◌≡◌, List, [], ◌∷◌, ◌++◌, Vec, ℕ, refl, subst, ◌∙◌}
use Rattle.std.specs.declared.alloc.Global.{Global}
use Rattle.ficus_mailbox.specs.Calls.{given_as}
use Rattle.ficus_wire.specs.declared.message.PieceHead.{PieceHead}
use Rattle.ficus_machine.proofs.Siblings.{finds_none, finds_sibling, not_this}
use Rattle.ficus_machine.proofs.machine.Machine.piece_at.Goals as goal
use Rattle.ficus_machine.proofs.machine.Machine.piece_at.Goals.{in_default-via-in-Piece+else-is_sibling, in_default-via-in_default}
use Rattle.ficus_machine.specs.Answers.{sibling, sibling_name}
use Rattle.ficus_machine.specs.Came.{IsComing}
use Rattle.ficus_machine.specs.declared.coming.Coming.TheVariants as coming

pub returns-in-Piece : goal.returns-in-Piece
returns-in-Piece g c =
    let named : c.as_bytes.result.now ≡ sibling_name c.args.piece.now.head c.args.index =
    c.as_bytes.ensures.value ∙ c.deref-2.ensures.0 ∙ c.text-name.ensures ∙ c.sibling_name.ensures in
    let count = rw (← c.self.view_is) at c.members.ensures in
    let is =
    subst (λ n. IsComing c.self.inside.tag n c.self.inside.me c.in-Ok.found c.in_ok-head.field-0) count
    c.in_ok-head.ensures in
    rw (← c.self.view_is)
    (finds_sibling c.in-Ok.found
    (λ tells.
    subst (λ (name : List ℕ). g.M.Mailbox.given c.find.new.self
    ≡ g.M.Mailbox.given c.args.mailbox.now ++ given_as name c.in-Ok.found ∷ []) named (c.in-Ok.ensures.told tells))
    c.find.ensures.kept c.in_ok-head.field-0 is c.in-Piece.is (c.if-is_sibling.ensures.0 refl))

pub returns : goal.returns
returns g c =
    let named : c.as_bytes.result.now ≡ sibling_name c.args.piece.now.head c.args.index =
    c.as_bytes.ensures.value ∙ c.deref-2.ensures.0 ∙ c.text-name.ensures ∙ c.sibling_name.ensures in
    let count = rw (← c.self.view_is) at c.members.ensures in
    let is =
    subst (λ n. IsComing c.self.inside.tag n c.self.inside.me c.in-Ok.found c.in_ok-head.field-0) count
    c.in_ok-head.ensures in
    let other : (there : PieceHead) (spelled : Vec ℕ Global) → c.in_ok-head.field-0 ≡ coming.Piece there spelled
    → there ≡ sibling c.args.piece.now.head c.args.index → ⊥ =
    elim c.in_default.branch [
      | in_default-via-in-Piece+else-is_sibling w ↦ not_this w.in-Piece.is w.is_sibling.ensures w.if-is_sibling.false
      | in_default-via-in_default w ↦ λ there spelled same here. w.in_default.not-Piece there spelled same
    ] in
    rw (← c.self.view_is)
    (finds_none c.in-Ok.found
    (λ tells.
    subst (λ (name : List ℕ). g.M.Mailbox.given c.find.new.self
    ≡ g.M.Mailbox.given c.args.mailbox.now ++ given_as name c.in-Ok.found ∷ []) named (c.in-Ok.ensures.told tells))
    c.find.ensures.kept c.in_ok-head.field-0 is other)
