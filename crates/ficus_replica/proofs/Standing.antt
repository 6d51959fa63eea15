-- A history has one replica.
use Rattle.std.proofs.Common.{◌≡◌, ℕ, List}
use Rattle.ficus_model.specs.declared.event.Event.{Event}
use Rattle.ficus_model.specs.Lawful.{Volume}
use Rattle.ficus_replica.specs.declared.replica.Replica.{Replica}
use Rattle.ficus_replica.specs.SavedOf.{StandsFor}
use Rattle.ficus_replica.proofs.OpenAsks.{ask_once}
use Rattle.ficus_replica.proofs.Saves.{saved_once}

pub replica_once : {volume : Volume} {H : List Event} {number : ℕ} {one other : Replica} →
    StandsFor volume H number one → StandsFor volume H number other → one ≡ other
replica_once {H = H} {number = number} {one = one} {other = other} stands stands_too = λ i. record {
  saved = saved_once stands.saved stands_too.saved i;
  ask = ask_once H number one.ask other.ask stands.ask stands_too.ask i;
}
