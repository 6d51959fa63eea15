-- Where changes want memory.
use Rattle.std.proofs.Common.{◌⊎◌, ◌↔◌, inl, inr}
use Rattle.ficus_commands.specs.declared.change.Change.{Change}
use Rattle.ficus_commands.specs.declared.change.Change.TheVariants as change
use Rattle.ficus_rules.specs.Change.{ChangeRule, MayWantMemory}
use Rattle.ficus_rules.specs.Rule.{RefusesNothing}
use Rattle.ficus_rules.specs.View.{View}
use Rattle.ficus_command_laws.specs.Laws.{TakesMemoryEarly}

itself : {P : Type 0} → P ↔ P
itself = (λ p. p, λ p. p)

-- the one, where the other is never so
pub the_one : {P Q : Type 0} → (Q → ⊥) → (P ⊎ Q) ↔ P
the_one {P} {Q} none = (λ either. go either, λ p. inl p)
  where
    go : P ⊎ Q → P
    go (inl p) = p
    go (inr q) = absurd (none q)

pub others_late : (view : View) (asked : Change) → (TakesMemoryEarly asked → ⊥) →
    MayWantMemory view asked ↔ RefusesNothing (ChangeRule view asked)
others_late view (change.MkDir path) late = itself
others_late view (change.Create path kind) late = itself
others_late view (change.Symlink path text) late = itself
others_late view (change.Write path text) late = itself
others_late view (change.Settle path text) late = itself
others_late view (change.Resolve path) late = absurd (late tt)
others_late view (change.Rm path) late = absurd (late tt)
others_late view (change.Ln from path) late = itself
others_late view (change.Mv from path) late = absurd (late tt)
others_late view (change.Adopt orphan path) late = absurd (late tt)
others_late view (change.Discard orphan) late = itself
