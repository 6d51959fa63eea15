use Rattle.std.proofs.Common.{◌≡◌, ◌≤◌, ◌-◌, ℕ, List, sym, ◌∙◌, refl, inl, inr}
use Rattle.std.specs.Prelude.{slice_set}
use Rattle.std.proofs.lemmas.List.{length-set}
use Rattle.ficus_world.proofs.Disks.{disks_set, follows_at, fused_same, holds_still, pair_follows_none, same_numbered}
use Rattle.ficus_keeper.proofs.Results.{in_ok}
use Rattle.ficus_runs.proofs.Numbers.{number_read}
use Rattle.ficus_runs.proofs.Replaced.{replaced}
use Rattle.ficus_runs.specs.Numbered.{IsNumbered}
use Rattle.ficus_world.proofs.Fuses.{fuses_prepared}
use Rattle.ficus_opening.proofs.Rests.{rests_pair}
use Rattle.ficus_world.proofs.Sparing.{spared_set}
use Rattle.ficus_world.proofs.pairs.prepare_at.Goals as goal

-- what stands where one was replaced is that one
in_place : {A : Type 0} (list : List A) (r : ℕ) (next found : A) → 1 ≤ r → IsNumbered (slice_set list (r - 1) next) r found
    → found ≡ next
in_place list r next found from_one is =
    elim (replaced list r r next found from_one is) [
      | inl here ↦ here.1
      | inr other ↦ absurd (other.0 refl)
    ]

pub returns-clause-prepared : goal.returns-clause-prepared
returns-clause-prepared g c =
    in_ok c.prepare.result
    (λ prepared. record {
      each = λ stable pair is_stable is_pair.
          rw (
            in_place c.args.stables.now.items c.args.by c.prepare.new.self stable c.requires.member.at_least is_stable,
            in_place c.args.disks.now.items c.args.by c.prepare.new.disks pair c.requires.pair.at_least is_pair,
          )
          prepared;
    })
    c.prepare.ensures.prepared

pub returns-clause-stays : goal.returns-clause-stays
returns-clause-stays g c =
    let is_stable = number_read c.args.stables.now.items c.args.by c.index_mut.result.now _ c.requires.member
    (sym c.index_mut.ensures.value) in
    let is_pair = number_read c.args.disks.now.items c.args.by c.index_mut-2.result.now _ c.requires.pair
    (sym c.index_mut-2.ensures.value) in
    record {
      disks =
          disks_set c.args.by (λ old new stay r x differs is. same_numbered r x stay is) c.prepare.new.self
          c.prepare.new.disks c.requires.member.at_least
          (λ old new stay own member is.
          let was = own member _ _ (same_numbered c.args.by member stay is) is_stable is_pair in
          record {
            fused = was.fused ∙ sym (fused_same g.D.Disk.armings c.prepare.ensures.armings);
            holds = λ told. holds_still g.K.Keep g.D.Disk member.state
                member.replica.saved _ _ _ _ c.prepare.ensures.crash (c.prepare.ensures.ready told member.replica.saved)
                (was.holds told);
          });
      follows = λ members. record {
        disks =
            follows_at c.args.by is_pair (pair_follows_none c.prepare.ensures.steady c.prepare.ensures.armings)
            (λ r differs. refl) (λ r differs. refl);
        fuses =
            fuses_prepared g.K.Keep g.D.Disk c.args.by members c.args.disks.now.items c.index_mut-2.result.now
            c.prepare.new.disks is_pair c.prepare.ensures.crash c.prepare.ensures.fuses;
      };
      rests = rests_pair g.D.Disk c.args.by c.args.disks.now.items c.index_mut-2.result.now c.prepare.new.disks is_pair
          c.prepare.ensures.crash c.prepare.ensures.moments c.prepare.ensures.spans;
      spared = spared_set g.D.Disk c.args.by c.args.disks.now.items c.index_mut-2.result.now c.prepare.new.disks is_pair
          (record {
            within = c.prepare.ensures.crash;
            leaves = c.prepare.ensures.moments;
            spans = c.prepare.ensures.spans;
          }) c.prepare.ensures.same c.prepare.ensures.steady;
      count = length-set c.args.stables.now.items (c.args.by - 1) c.prepare.new.self;
    }
