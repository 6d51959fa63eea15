use Rattle.std.proofs.Common.{◌≡◌, ◌⊎◌, ℕ, List, [], length, Err, ap, ◌∙◌, inr, arith}
use Rattle.std.specs.Prelude.{IsErrOf}
use Rattle.std.proofs.lemmas.Result.{err_from_is_err_and}
use Rattle.ficus_disk.specs.declared.disk.Disk.{Ghosts as Disk}
use Rattle.ficus_disk.specs.declared.pair.Pair.{Pair}
use Rattle.ficus_ids.specs.Members.{IsMember}
use Rattle.ficus_keeper.specs.Pairs.{PairSame}
use Rattle.ficus_keeper.specs.declared.keep.Keep.{Ghosts as Keep}
use Rattle.ficus_runs.specs.Numbered.{IsNumbered}
use Rattle.ficus_opening.specs.Check.Judged.{HoldsNoneOf, IsEmptyPair}
use Rattle.ficus_opening.specs.Opening.{DisksAsked, IsStoreFault, opened_member}
use Rattle.ficus_opening.specs.Rests.{PairRests}
use Rattle.ficus_opening.specs.declared.fault.WorldFault.{WorldFault}
use Rattle.ficus_opening.specs.declared.fault.WorldFault.TheVariants.{Image, Memory, Occupied}
use Rattle.ficus_opening.proofs.Asking.{disks_err, disks_steady, err_as, looks_none, never_store}
use Rattle.ficus_world.specs.Machines.Alone.{OpensWorldAlone}
use Rattle.ficus_world.specs.Post.{Outbox}
use Rattle.ficus_world.specs.World.{Backed, whole_of}
use Rattle.ficus_world.proofs.OpenedWorlds.{empty_post}
use Rattle.ficus_world.proofs.machines.Opened.{alone_world, begins_anew, fused_as, stands_alone}
use Rattle.ficus_world.proofs.world.World.open_alone.Goals as goal

pub invariant_of-group : goal.invariant_of-group
invariant_of-group g c =
    alone_world c.args.me c.in_ok-members.field-0.members.items c.in_ok-members.ensures.alone
    c.in_ok-history.history.events c.new.result.now c.in_ok-history.ensures
    (empty_post c.new.result.now _ _ _ c.new.ensures c.requires.link)

-- a fault is told
unopened : {K D : Type 0} {keep : Keep K} {disk : Disk D} {me faults total : ℕ} {fault : WorldFault}
    {old new : List (Pair D)}
    → (disk.tells → (r : ℕ) → IsErrOf {T = Backed K} (Err fault) (Image r)
    → (r ≡ me) × ((pair : Pair D) → IsNumbered old me pair → HoldsNoneOf keep.kept disk.seen me pair))
    → (disk.tells → ((pair : Pair D) → IsNumbered old me pair → HoldsNoneOf keep.kept disk.seen me pair)
    → (fault ≡ Image me) ⊎ IsStoreFault fault)
    → (disk.tells → (q : ℕ) → IsErrOf {T = Backed K} (Err fault) (Occupied q)
    → (q ≡ me → ⊥) × IsMember 8 q × ((pair : Pair D) → IsNumbered old q pair → IsEmptyPair disk.seen pair → ⊥))
    → ((was now : Pair D) → IsNumbered old me was → IsNumbered new me now → PairRests disk was now)
    → (disk.tells → (was now : Pair D) → IsNumbered old me was → IsNumbered new me now → PairSame disk.seen was now)
    → DisksAsked {A = Backed K} disk (Err fault) old new
    → OpensWorldAlone keep disk me faults total (Err fault) old new
unopened image comes occupied rests same asked = record {
  alone = tt;
  events = tt;
  post = tt;
  backed = tt;
  read = λ told. tt;
  stands = λ told. tt;
  begins = λ told. tt;
  image = image;
  image_comes = comes;
  empty = λ told. tt;
  occupied = occupied;
  rests = rests;
  same = same;
  asked = asked;
}

pub returns-in_err-history : goal.returns-in_err-history
returns-in_err-history g c =
    let given = err_from_is_err_and c.from_residual.result c.from_residual.ensures.1 in
    let looked = looks_none {disk = g.D.Disk} {A = Backed g.row.K.Denot} {result = Err Memory} c.args.disks.now.items
    (never_store Memory tt) in
    rw (given.1, given.2)
    (unopened (λ told r is. absurd (cc)) (λ told none. inr tt) (λ told q is. absurd (cc))
    (λ was now at at_now. looked.rests.each c.args.me was now at at_now)
    (λ told was now at at_now. (looked.same told).each c.args.me was now at at_now) looked.asked)

pub returns-in_err-members : goal.returns-in_err-members
returns-in_err-members g c =
    let given = err_from_is_err_and c.from_residual-in_err-members.result c.from_residual-in_err-members.ensures.1 in
    let fault = c.in_err-members.field-0.0 in
    let fails = c.in_err-members.ensures in
    rw (given.1, given.2)
    (unopened (λ told r is. fails.image told r (err_as fault (Image r) is)) fails.image_comes
    (λ told q is. fails.occupied told q (err_as fault (Occupied q) is)) fails.rests fails.same
    (disks_err fault fails.asked))

pub returns : goal.returns
returns g c =
    let me = c.args.me in
    let old = c.args.disks.now.items in
    let new = c.open_alone.new.disks.items in
    let opened = c.in_ok-members.field-0 in
    let opens = c.in_ok-members.ensures in
    let alone = opens.alone in
    let world = whole_of opened.members.items c.in_ok-history.history.events c.new.result.now in
    let none : world.post.posts ≡ [] = ap (λ (p : Outbox). p.posts) c.new.ensures ∙ c.requires.link in
    let is_fused =
    fused_as g.K.Keep g.D.Disk me opened old new (opened_member alone.saved alone.among.fused) opens.kept
    opens.asked.armings alone.among.is in
    record {
      alone = alone;
      events = c.in_ok-history.ensures;
      post = c.new.ensures
          ∙ ap (λ (posts : List (List ℕ)). record {
            behind = [];
            posts = posts;
            total = g.L.Link.total c.args.link;
            faults = g.L.Link.faults c.args.link;
          }) c.requires.link;
      backed = record {
        pairs = omega (arith, alone.among.count, alone.fits.members.at_most, opens.asked.armings.count, c.requires.pairs);
        disks = opens.kept.disks;
      };
      read = opens.read;
      stands = λ told.
          stands_alone g.K.Keep g.D.Disk c.one_saved.ensures me old world alone none (opens.read told) is_fused;
      begins = λ told.
          begins_anew g.K.Keep g.D.Disk c.one_saved.ensures me old world alone none (opens.read told) is_fused;
      image = λ told r is. absurd (cc);
      image_comes = λ told none_held. opens.image_comes told none_held;
      empty = opens.empty;
      occupied = λ told q is. absurd (cc);
      rests = opens.rests;
      same = opens.same;
      asked = disks_steady _ old new opens.asked.steady opens.asked.armings
          (λ fused. (opens.asked.unfailing fused).unarmed) (λ r is. absurd (cc));
    }
