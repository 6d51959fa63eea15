-- The making of an object has a spelling exactly where its name has one and its text is one of its kind.
use Rattle.std.proofs.Common.{ℕ, List}
use Rattle.ficus_ids.specs.Kind.{FitsKind}
use Rattle.ficus_ids.specs.Name.{IsName}
use Rattle.ficus_ids.specs.declared.id.Id.{Id}
use Rattle.ficus_ids.specs.declared.kind.Kind.{Kind}
use Rattle.ficus_ids.specs.declared.kind.Kind.TheVariants.{Symlink}
use Rattle.ficus_formats.specs.Format.{id as id_format}
use Rattle.ficus_model.specs.declared.event.Op.TheVariants.{Make}
use Rattle.ficus_record.specs.Record.{FitsOp}

-- what has a spelling has a text of its kind
pub fitting_kind : (dir : Id) (called : List ℕ) (kind : Kind) (text : List ℕ) → FitsOp (Make dir called kind text) →
    FitsKind kind text
fitting_kind dir called Symlink text fits = fits.1.1
fitting_kind dir called kind text fits = fits.1

-- and what has a name and a text of its kind has a spelling
pub making_fits : (dir : Id) (called : List ℕ) (kind : Kind) (text : List ℕ) → id_format.fits dir → IsName called →
    FitsKind kind text → FitsOp (Make dir called kind text)
making_fits dir called Symlink text short named fits = (short, (named, fits))
making_fits dir called kind text short named fits = ((short, (named, (λ is. cc))), fits)
