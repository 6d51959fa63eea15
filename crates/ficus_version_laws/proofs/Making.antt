-- What a Make leaves of the versions.
use Rattle.std.proofs.Common.{◌≢◌, ℕ, List, [], ◌∷◌, ◌++◌, length}
use Rattle.ficus_ids.specs.ListLaws.{not_inside_none}
use Rattle.ficus_ids.specs.declared.id.Id.{Id}
use Rattle.ficus_ids.specs.declared.kind.Kind.{Kind}
use Rattle.ficus_ids.specs.declared.kind.Kind.TheVariants.{Dir}
use Rattle.ficus_model.specs.declared.event.Event.{Event}
use Rattle.ficus_model.specs.declared.event.Event.TheVariants.{Update}
use Rattle.ficus_model.specs.declared.event.Op.TheVariants.{Make}
use Rattle.ficus_model.specs.Known.{Knows}
use Rattle.ficus_model.specs.Lawful.{Volume, IsLawful}
use Rattle.ficus_model.specs.Live.{IsFile}
use Rattle.ficus_model.specs.Versions.{IsVersion}
use Rattle.ficus_model.specs.Vectors.{IsCoverOf}
use Rattle.ficus_laws.specs.Updates.{next_number}
use Rattle.ficus_version_laws.specs.Listed.{AreShown, advanced}
use Rattle.ficus_version_laws.proofs.Counting.{counts_none}
use Rattle.ficus_version_laws.proofs.Objects.{none_is, next_no_version, next_not_covered}
use Rattle.ficus_version_laws.proofs.Operations.{made_file_of}
use Rattle.ficus_version_laws.proofs.Advancing.{advanced_shown}
use Rattle.ficus_version_laws.proofs.Covering.{coverings_back, cover_kept}

-- the Make of a file is a version of it
pub made_version : {H : List Event} {U : ℕ → Type 0} {file : Id} (f : IsFile H U file) →
    IsVersion H file f.made.position
made_version {file = file} f = record {
  number = file;
  op = Make f.made.dir f.made.name f.kind f.made.text;
  update = f.made.update;
  versions = made_file_of file f.kind f.other;
}

module _ (volume : Volume) (H : List Event) (replica : ℕ) (lawful : IsLawful volume H) where
  -- of the object that the next update would make no version is shown
  pub none_shown : AreShown H (Knows H replica) (next_number replica H) []
  none_shown = record {
    each = λ item inside. absurd (not_inside_none item inside);
    all = λ position s. absurd (next_no_version volume H replica replica lawful s.version s.known);
  }

  pub none_covered : IsCoverOf H (Knows H replica) (next_number replica H) (λ by. 0)
  none_covered = record {
    counts = λ by. counts_none (length H)
        (λ number l p. next_not_covered volume H replica replica lawful p.covering p.known);
  }

  module _ (dir : Id) (name : List ℕ) (kind : Kind) (text : List ℕ) where
    pub make_shown : kind ≢ Dir → AreShown (H ++ Update replica (Make dir name kind text) ∷ [])
        (Knows (H ++ Update replica (Make dir name kind text) ∷ []) replica) (next_number replica H) (advanced replica text [])
    make_shown differs = advanced_shown H replica (Make dir name kind text) (made_file_of (next_number replica H) kind differs) none_shown

    pub make_covered : IsCoverOf (H ++ Update replica (Make dir name kind text) ∷ [])
        (Knows (H ++ Update replica (Make dir name kind text) ∷ []) replica) (next_number replica H) (λ by. 0)
    make_covered = cover_kept H
        (Update replica (Make dir name kind text)) replica
        (coverings_back H replica (Make dir name kind text) (none_is (next_number replica H)))
        none_covered
