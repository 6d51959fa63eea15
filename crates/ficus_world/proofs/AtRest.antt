-- How the fuses stand of a world that is opened on disks of which none is armed.
use Rattle.std.proofs.Common.{◌≡◌, ℕ, List, length, refl, sym, ap, subst, ◌∙◌, arith}
use Rattle.ficus_disk.specs.declared.disk.Disk.{Ghosts as Disk}
use Rattle.ficus_disk.specs.declared.pair.Pair.{Pair}
use Rattle.ficus_ids.specs.Members.{IsMember}
use Rattle.ficus_keeper.specs.Fuses.{found_again, fuses_of}
use Rattle.ficus_keeper.specs.declared.keep.Keep.{Ghosts as Keep}
use Rattle.ficus_model.specs.Lawful.{Volume}
use Rattle.ficus_replica.specs.SavedOf.{fresh_saved}
use Rattle.ficus_runs.specs.Fuses.{FuseState}
use Rattle.ficus_runs.specs.Numbered.{IsNumbered}
use Rattle.ficus_opening.specs.declared.member.Member.{Member}
use Rattle.ficus_opening.specs.Disks.{ArePairsOf}
use Rattle.ficus_world.specs.Fuses.{AreAtRest, FuseStands, FusesStand, StandsSo, at_rest}
use Rattle.ficus_opening.specs.Fuses.{AreRegular, AreUnarmed}
use Rattle.ficus_opening.specs.Opening.{AreMade, AreOpened, AreRead, Steady}
use Rattle.ficus_runs.proofs.Numbers.{number_exists}
use Rattle.ficus_world.proofs.Fuses.{same_generation}
use Rattle.ficus_world.proofs.Saves.{up_ready}

-- how the fuses stand of the members of a world that was opened
module _ {K D : Type 0} (keep : Keep K) (disk : Disk D) (told : disk.tells) (members : List Member)
    (old new : List (Pair D)) (opened : AreOpened members) (own : ArePairsOf keep disk members new)
    (same : Steady disk.seen old new) (none : AreUnarmed disk.fuse new)
    (regular : AreRegular keep.Regular disk.seen old (length members)) where
  stands_opened : (r : ℕ) (member : Member) (pair : Pair D) → IsNumbered members r member → IsNumbered new r pair
      → FuseStands keep disk (at_rest member.replica.saved.generation) member pair
  stands_opened r member pair at at_pair =
      let first = number_exists members 1
      (record { at_least = omega arith; at_most = omega (arith, at.member.at_least, at.member.at_most) }) in
      let up = (opened.each r first.0 member first.1 at).up in
      let of = own.each r member pair at at_pair in
      let was = number_exists old r (subst (λ n. IsMember n r) same.count at_pair.member) in
      let seen = same.each r was.0 pair was.1 at_pair in
      let ready = up_ready keep disk member of.0 pair up (of.1.holds told) in
      let is = regular.each r was.0 was.1 at.member.at_most in
      record {
        generation = refl;
        regular = record {
          each = λ a b left_a left_b.
              subst (λ (bytes : List ℕ). keep.Regular bytes b) (sym (ready.settled.synced_a a left_a ∙ seen.a))
              (subst (λ (bytes : List ℕ). keep.Regular (disk.seen was.0.a) bytes)
              (sym (ready.settled.synced_b b left_b ∙ seen.b)) is);
        };
        so = subst (λ state. StandsSo (at_rest member.replica.saved.generation) (fuses_of disk.fuse pair)
            (found_again keep.kept disk.image disk.fuse pair) member.replica.saved state) (sym up)
            (none.each r pair at_pair, refl);
      }

  pub fuses_at_rest : (F : ℕ → FuseState) → AreAtRest F members → FusesStand keep disk F members new
  fuses_at_rest F rest = record {
    each = λ r member pair at at_pair.
        subst (λ state. FuseStands keep disk state member pair) (sym (rest.each r member at))
        (stands_opened r member pair at at_pair);
  }

-- members that are opened on what was made have saved nothing yet
pub made_at_rest : {K D : Type 0} (keep : Keep K) (disk : Disk D) (volume : Volume) (disks : List (Pair D))
    (members : List Member) → length members ≡ volume.members → AreMade keep.kept disk.seen volume disks
    → AreRead keep.kept disk.seen disks members → AreAtRest (λ r. at_rest 0) members
made_at_rest keep disk volume disks members counted made read = record {
  each = λ r member at.
      let opens = (read.each r member at).1 in
      let fresh = made.each r opens.pair opens.is (subst (λ n. IsMember n r) counted at.member) in
      ap at_rest (same_generation _ (fresh_saved volume r) member.replica.saved fresh opens.holds);
}
