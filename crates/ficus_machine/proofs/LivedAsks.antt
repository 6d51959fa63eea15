-- What becomes of a machine while its member asks: what was noted is cleared, and room is taken; its world acts, with
-- nothing noted; and then the ask is noted, or the one that is open still.
use Rattle.std.proofs.Common.{◌≡◌, ◌⊎◌, List, Option, Result, Ok, refl, sym, ap, subst, ◌∙◌}
use Rattle.std.specs.Prelude.{IsErrOf}
use Rattle.ficus_disk.specs.declared.disk.Disk.{Ghosts as Disk}
use Rattle.ficus_disk.specs.declared.pair.Pair.{Pair}
use Rattle.ficus_keeper.specs.declared.keep.Keep.{Ghosts as Keep}
use Rattle.ficus_note.specs.declared.asked.Asked.{Asked as Noted}
use Rattle.ficus_replica.specs.declared.replica.Asked.{Asked as Ask}
use Rattle.ficus_script.specs.declared.command.Command.{Command}
use Rattle.ficus_world.specs.Kills.{IsDeedOf, Passes}
use Rattle.ficus_world.specs.World.{Backed, Whole}
use Rattle.ficus_machine.specs.Asking.{NotesAsk, PreparesAsk}
use Rattle.ficus_machine.specs.Machine.{KeepsRest, MachineState}
use Rattle.ficus_machine.specs.Moments.{LivesTo, NotesTo, Works}
use Rattle.ficus_machine.specs.Noting.{SettlesNote}
use Rattle.ficus_machine.specs.declared.fault.LineFault.{LineFault}
use Rattle.ficus_machine.specs.declared.fault.LineFault.TheVariants.{Note as NoteFault}
use Rattle.ficus_machine.proofs.Asks.{IsBare}
use Rattle.ficus_machine.proofs.Lived.{lives_notes, lives_same, lives_then, lives_where, lives_works, never_note, works_none}

module _ {K D N : Type 0} (keep : Keep K) (disk : Disk D) (slot : Disk N) (old ready : MachineState K)
    (disks : List (Pair D)) (slots ready_slots : Pair N) where
  -- what was noted is cleared, and room is taken
  pub lives_prepared : {A : Type 0} (result : Result A LineFault) → PreparesAsk slot result old ready slots ready_slots
      → NotesTo slot result old.note ready.note slots ready_slots
      → LivesTo keep disk slot (IsErrOf result NoteFault → ⊥) old ready disks disks slots ready_slots
  lives_prepared result prepares notes =
      lives_notes keep disk slot result old ready disks slots ready_slots
      (ap (λ (w : Backed K). w.whole) prepares.world) notes

  module _ (mid : MachineState K) (mid_disks : List (Pair D)) (command : Command)
      (prepares : PreparesAsk {A = Unit {0}} slot (Ok tt) old ready slots ready_slots)
      (notes : NotesTo {A = Unit {0}} slot (Ok tt) old.note ready.note slots ready_slots)
      (rest : KeepsRest ready mid)
      (passes : Passes (Unit {0}) keep disk (IsDeedOf command) ready.world.whole mid.world.whole disks mid_disks
      ⊎ ((mid.world.whole ≡ ready.world.whole) × (mid_disks ≡ disks))) where
    -- its world acts
    acts_none : Works keep disk ready.me ready.note.asked ready.world.whole mid.world.whole disks mid_disks
    acts_none =
        subst (λ (o : Option Noted). Works keep disk ready.me o ready.world.whole mid.world.whole disks mid_disks)
        (sym prepares.none)
        (works_none keep disk ready.me command ready.world.whole mid.world.whole disks mid_disks passes)

    pub lives_acted : (all : Type 0) → LivesTo keep disk slot all old mid disks mid_disks slots ready_slots
    lives_acted all =
        lives_then keep disk slot (IsErrOf {T = Unit {0}} {E = LineFault} (Ok tt) NoteFault → ⊥) all old ready mid disks
        disks mid_disks slots ready_slots ready_slots (λ is. never_note (Ok tt) tt refl is) prepares.same.me
        (lives_prepared (Ok tt) prepares notes)
        (lives_works keep disk slot all ready mid disks mid_disks ready_slots acts_none rest.note)

    acted_me : mid.me ≡ old.me
    acted_me = rest.me ∙ prepares.same.me

    module _ (bare : MachineState K) (is : IsBare mid bare) where
      -- its messages are gone
      lives_bare : (all : Type 0) → LivesTo keep disk slot all old bare disks mid_disks slots ready_slots
      lives_bare all =
          lives_then keep disk slot (Unit {0}) all old mid bare disks mid_disks mid_disks slots ready_slots ready_slots
          tt acted_me (lives_acted (Unit {0}))
          (lives_same keep disk slot all mid bare mid_disks mid_disks ready_slots ready_slots
          (ap (λ (w : Whole). w.members) is.bare) is.rest.note refl refl)

      -- and what is open is noted
      pub lives_settled : {A : Type 0} (result : Result A LineFault) (new : MachineState K) (new_slots : Pair N)
          → SettlesNote slot result bare new ready_slots new_slots
          → NotesTo slot result bare.note new.note ready_slots new_slots
          → LivesTo keep disk slot (IsErrOf result NoteFault → ⊥) old new disks mid_disks slots new_slots
      lives_settled result new new_slots settles noted =
          lives_then keep disk slot (Unit {0}) (IsErrOf result NoteFault → ⊥) old bare new disks mid_disks mid_disks
          slots ready_slots new_slots tt (is.rest.me ∙ acted_me) (lives_bare (Unit {0}))
          (lives_notes keep disk slot result bare new mid_disks ready_slots new_slots
          (ap (λ (w : Backed K). w.whole) settles.world) noted)

    module _ (noted : MachineState K) (noted_slots : Pair N) where
      -- the ask is noted
      pub lives_asked : (result : Result Ask LineFault) → NotesAsk slot result mid noted ready_slots noted_slots
          → NotesTo slot result mid.note noted.note ready_slots noted_slots
          → LivesTo keep disk slot (IsErrOf result NoteFault → ⊥) old noted disks mid_disks slots noted_slots
      lives_asked result asks then =
          lives_then keep disk slot (Unit {0}) (IsErrOf result NoteFault → ⊥) old mid noted disks mid_disks mid_disks
          slots ready_slots noted_slots tt acted_me (lives_acted (Unit {0}))
          (lives_notes keep disk slot result mid noted mid_disks ready_slots noted_slots
          (ap (λ (w : Backed K). w.whole) asks.world) then)

      module _ (asked : Ask) (asks : NotesAsk slot (Ok asked) mid noted ready_slots noted_slots)
          (then : NotesTo {A = Ask} slot (Ok asked) mid.note noted.note ready_slots noted_slots) where
        -- whether or not its message is put
        pub lives_put : (all : Type 0) → LivesTo keep disk slot all old noted disks mid_disks slots noted_slots
        lives_put all =
            lives_where keep disk slot (IsErrOf {T = Ask} {E = LineFault} (Ok asked) NoteFault → ⊥) all old noted disks
            mid_disks slots noted_slots (λ any is. never_note (Ok asked) asked refl is)
            (lives_asked (Ok asked) asks then)

        -- and its messages are gone
        pub lives_ended : (all : Type 0) (new : MachineState K) → IsBare noted new
            → LivesTo keep disk slot all old new disks mid_disks slots noted_slots
        lives_ended all new is =
            lives_then keep disk slot (Unit {0}) all old noted new disks mid_disks mid_disks slots noted_slots
            noted_slots tt (asks.same.me ∙ acted_me) (lives_put (Unit {0}))
            (lives_same keep disk slot all noted new mid_disks mid_disks noted_slots noted_slots
            (ap (λ (w : Whole). w.members) is.bare) is.rest.note refl refl)
