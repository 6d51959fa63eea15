use Rattle.std.proofs.Common.{inl, inr}
use Rattle.ficus_laws.proofs.AfterUpdate.{make_live, make_kept, make_new, make_made, make_made_kept, make_made_new}
use Rattle.ficus_laws.proofs.Issued.{next_not_removed}
use Rattle.ficus_laws.proofs.live.make_enters_one.Goals as goal

pub returns-clause-live : goal.returns-clause-live
returns-clause-live c = λ volume H replica dir name kind text entry lawful. (
  make_live H replica dir name kind text,
  elim [
    | inl was ↦ make_kept H replica dir name kind text was
    | inr new ↦ rw new (make_new H replica dir name kind text (next_not_removed volume H replica lawful))
  ],
)

pub returns-clause-made : goal.returns-clause-made
returns-clause-made c = λ H replica dir name kind text object made. (
  make_made H replica dir name kind text,
  elim [
    | inl was ↦ make_made_kept H replica dir name kind text was
    | inr new ↦ rw (new.0, new.1) (make_made_new H replica dir name kind text)
  ],
)
