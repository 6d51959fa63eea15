use Rattle.std.proofs.Common.{◌≡◌, ◌∙◌, Some, ap, inl, inr, refl, subst, sym}
use Rattle.ficus_opening.specs.declared.member.MemberState.{MemberState}
use Rattle.ficus_opening.specs.declared.member.MemberState.TheVariants.{Down}
use Rattle.ficus_opening.specs.declared.member.Pending.{Pending}
use Rattle.ficus_world.proofs.Tests.{untrue}
use Rattle.ficus_world.specs.Moves.{IsLike, still_pending}
use Rattle.ficus_world.proofs.Likeness.{like_or_not}
use Rattle.ficus_world.proofs.member.come_up.Goals as goal

pub returns-in-Down-Some : goal.returns-in-Down-Some
returns-in-Down-Some c =
    let pending = c.in-Down-Some.pending in
    let was : c.args.state.now ≡ Down (Some pending) =
    sym c.replace.ensures.value ∙ c.in-Down-Some.is ∙ ap Down c.in-Down-Some.field-0-is in
    let unlike = untrue c.is_like.result c.is_like.ensures c.if-is_like.false in
    elim (like_or_not pending.replica.saved c.args.read.now) [
      | inl like ↦
          let happened = c.come_with.ensures.happened like in
          rw (happened.0, happened.1) (pending, was, refl, like, unlike, refl)
      | inr not ↦
          let stays = c.come_with.ensures.stays not in
          rw (stays.0, stays.1) (
            sym (ap (λ (state : MemberState). Down (still_pending state)) was),
            unlike,
            λ other same like.
                let one : pending ≡ other = cc in
                not (subst (λ (p : Pending). IsLike p.replica.saved c.args.read.now) (sym one) like),
          )
    ]
