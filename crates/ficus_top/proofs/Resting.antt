-- How the fuses stand of a world that was opened on disks whose fuses are at rest.
use Rattle.std.proofs.Common.{◌≡◌, ℕ, Bool, List, [], ◌∷◌, ◌++◌, cond, length, map, Result, refl, sym, ap, subst, ◌∙◌, arith}
use Rattle.std.specs.List.{range_with_len}
use Rattle.std.proofs.lemmas.List.Sums.{sum_by-append, sum_by-cons}
use Rattle.ficus_disk.specs.declared.disk.Disk.{Ghosts as Disk}
use Rattle.ficus_disk.specs.declared.pair.Pair.{Pair}
use Rattle.ficus_keeper.specs.declared.keep.Keep.{Ghosts as Keep}
use Rattle.ficus_model.specs.Events.{generation_of, is_saved}
use Rattle.ficus_model.specs.Lawful.{Volume}
use Rattle.ficus_model.specs.declared.event.Event.{Event}
use Rattle.ficus_model.specs.declared.event.Event.TheVariants.{Restart}
use Rattle.ficus_runs.proofs.Numbers.{number_exists}
use Rattle.ficus_runs.specs.Fuses.{FuseState}
use Rattle.ficus_runs.specs.Start.{restarts, start}
use Rattle.ficus_top.specs.Summary.Keeper.{IsRegular}
use Rattle.ficus_world.specs.Fuses.{AreAtRest, FusesStand, at_rest}
use Rattle.ficus_opening.specs.Fuses.{AreRegular, AreUnarmed}
use Rattle.ficus_opening.specs.Opening.{Unfailing}
use Rattle.ficus_world.specs.World.{Whole, WorldStandsFor}
use Rattle.ficus_opening.specs.declared.fault.WorldFault.{WorldFault}
use Rattle.ficus_top.specs.Ends.{StandNow}
use Rattle.ficus_top.specs.Headline.{AreFusesAtRest}

-- no restart is saved
none_saved : (r : ℕ) (numbers : List ℕ) → generation_of r (map (λ n. Restart n) numbers) ≡ 0
none_saved r [] = refl
none_saved r (n ∷ numbers) =
    omega (
      arith,
      sum_by-cons (λ event. cond (is_saved r event) 1 0) (Restart n) (map (λ k. Restart k) numbers),
      none_saved r numbers,
    )

same_saves : (r members : ℕ) (H : List Event) → generation_of r (H ++ restarts members) ≡ generation_of r H
same_saves r members H =
    omega (
      arith,
      sum_by-append (λ event. cond (is_saved r event) 1 0) H (restarts members),
      none_saved r (range_with_len 1 members),
    )

-- the members of a world that was opened have saved as often as the history says
at_rest_in : {volume : Volume} (H : List Event) {total : ℕ} {fused : List Bool} {world : Whole}
    → WorldStandsFor volume (start H volume.members total fused) world → (F : ℕ → FuseState)
    → ((r : ℕ) → F r ≡ at_rest (generation_of r H)) → AreAtRest F world.members
at_rest_in {volume} H {total} {fused} stands F states = record {
  each = λ r member is.
      let W = start H volume.members total fused in
      let standing = number_exists W.standings r (record {
        at_least = is.member.at_least;
        at_most = omega (arith, is.member.at_most, stands.members, stands.standings);
      }) in
      let fuse = number_exists W.fused r (record {
        at_least = is.member.at_least;
        at_most = omega (arith, is.member.at_most, stands.members, stands.fuses);
      }) in
      let saved = (stands.each r member standing.0 fuse.0 is standing.1 fuse.1).replica.saved in
      states r ∙ ap at_rest (sym (same_saves r volume.members H) ∙ sym saved.generation);
}

-- the fuses of the members stand as those of the disks at rest
pub rests_open : {K D : Type 0} (keep : Keep K) (disk : Disk D) {volume : Volume} (H : List Event) {total : ℕ}
    {fused : List Bool} {world : Whole} → WorldStandsFor volume (start H volume.members total fused) world
    → (old new : List (Pair D))
    → (disk.tells_fuse → AreUnarmed disk.fuse old → AreRegular IsRegular disk.seen old (length world.members)
    → (F : ℕ → FuseState) → AreAtRest F world.members → FusesStand keep disk F world.members new)
    → (F : ℕ → FuseState) → AreFusesAtRest disk volume.members H old F → StandNow keep disk world new F
rests_open keep disk H stands old new opened F rest = (
  rest.tells,
  opened rest.tells rest.unarmed
      (subst (λ (count : ℕ). AreRegular IsRegular disk.seen old count) (sym stands.members) rest.own) F
      (at_rest_in H stands F rest.states),
)

-- on disks at rest a volume was made, and nothing was armed
pub rest_made : {D A : Type 0} {disk : Disk D} {members : ℕ} {old made : List (Pair D)} {F : ℕ → FuseState}
    {result : Result A WorldFault} → AreFusesAtRest disk members [] old F → Unfailing disk.fuse result old made
    → AreRegular IsRegular disk.seen made members → AreFusesAtRest disk members [] made F
rest_made rest unfailing regular = record {
  tells = rest.tells;
  unarmed = unfailing.unarmed rest.unarmed;
  own = regular;
  states = rest.states;
}
