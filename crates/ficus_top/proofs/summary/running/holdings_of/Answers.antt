use Rattle.std.proofs.Common.{◌≡◌, ℕ, ◌+◌, ◌-◌, List, Vec, Global, ap, ap₂, arith, subst, sym, ◌∙◌}
use Rattle.ficus_top.specs.Summary.Running.{HoldingsIn}
use Rattle.ficus_opening.specs.Check.Holding.{holding_of}
use Rattle.ficus_opening.specs.declared.check.holding.Holding.{Holding}
use Rattle.ficus_top.proofs.summary.Holdings.{holdings_more}
use Rattle.ficus_top.proofs.summary.running.holdings_of.Goals.{else-loop-member-test, then-loop-member-test+in-Some+in_ok-push+else-member-member-end}
use Rattle.ficus_top.proofs.summary.running.holdings_of.Goals as goal

pub loop-member-preserved : goal.loop-member-preserved
loop-member-preserved c =
    let place : c.loop-member.member ≡ c.loop-member.member + 1 - 1 = omega arith in
    record {
      within = omega (arith, c.loop-member-test.true, c.count-member-end.ensures.value);
      held = subst (λ (count : ℕ). HoldingsIn c.args.world.now.whole count c.push.new.self.items) place
          (holdings_more c.args.world.now.whole (c.loop-member.member - 1) c.loop-member.member
          c.loop-member.holdings.items
          c.push.new.self.items c.holding_of.result c.in-Some.replica.now (omega (arith, c.loop-member.auto.member))
          c.loop-member.invariant.held c.in-Some.ensures.replica
          (c.holding_of.ensures ∙ ap₂ holding_of c.tables.ensures.entries c.tables.ensures.files)
          c.in_ok-push.ensures.items);
    }

pub returns : goal.returns
returns c = elim c.loop-member-test.branch [
  | else-loop-member-test w ↦
      let place : c.loop-member.member - 1 ≡ c.args.members =
      omega (arith, w.loop-member-test.false, c.count-member-end.ensures.value, c.loop-member.invariant.within) in
      subst (λ (all : List Holding). HoldingsIn c.args.world.now.whole c.args.members all)
      (ap (λ (all : Vec Holding Global). all.items) (sym w.holdings-is))
      (subst (λ (count : ℕ). HoldingsIn c.args.world.now.whole count c.loop-member.holdings.items) place
      c.loop-member.invariant.held)
  | then-loop-member-test+in-Some+in_ok-push+else-member-member-end w ↦
      let place : c.loop-member.member ≡ c.args.members =
      omega (arith, w.loop-member-test.true, c.count-member-end.ensures.value) in
      subst (λ (count : ℕ). HoldingsIn c.args.world.now.whole count c.loop-member-test.holdings.items) place
      (holdings_more c.args.world.now.whole (c.loop-member.member - 1) c.loop-member.member c.loop-member.holdings.items
      c.loop-member-test.holdings.items w.holding_of.result w.in-Some.replica.now
      (omega (arith, c.loop-member.auto.member)) c.loop-member.invariant.held w.in-Some.ensures.replica
      (w.holding_of.ensures ∙ ap₂ holding_of w.tables.ensures.entries w.tables.ensures.files)
      (ap (λ (all : Vec Holding Global). all.items) w.holdings-is ∙ w.in_ok-push.ensures.items))
]
