use Rattle.std.proofs.Common.{◌≡◌, List, ℕ, Bool, Result, Ok, Err, true, false, ap, subst, sym}
use Rattle.std.specs.Prelude.{◌↔◌, IfOk, IsTrue, IsErrOf}
use Rattle.ficus_formats.specs.Format.{ReadsAll, Spells}
use Rattle.ficus_formats.specs.declared.fault.ReadFault.{ReadFault}
use Rattle.ficus_formats.specs.declared.fault.ReadFault.TheVariants.{Unspelled}
use Rattle.ficus_ids.specs.declared.memory.Memory.{Memory}
use Rattle.ficus_image.specs.Image.{FitsSpelled, image, image_parts}
use Rattle.ficus_image.specs.declared.decoding.Spelled.{Spelled}
use Rattle.ficus_image.proofs.Images.{spelled_begins, unfit}
use Rattle.ficus_image.proofs.decoding.read_image.Goals as goal

-- what the parts spell is read as an image exactly where it may stand in one
fits_read : (s : Spelled) (bytes : List ℕ) (fits : Result Bool Memory) (result : Result Spelled ReadFault)
    → Spells image_parts s bytes → IfOk fits (λ fits. IsTrue fits ↔ FitsSpelled s)
    → IfOk result (λ read. (read ≡ s) × (fits ≡ Ok true)) → (IsErrOf result Unspelled ↔ (fits ≡ Ok false))
    → ReadsAll image bytes result
fits_read s bytes (Ok true) (Ok x) spells said read unspelled =
    let is : IsTrue true = cc in
    subst (λ (y : Spelled). Spells image y bytes) (sym read.0) (record { fits = said.0 is; is = spells.is })
fits_read s bytes (Ok false) (Ok x) spells said read unspelled = let no = read.1 in absurd (cc)
fits_read s bytes (Err m) (Ok x) spells said read unspelled = let no = read.1 in absurd (cc)
fits_read s bytes (Ok true) (Err fault) spells said read unspelled = λ is.
    let no = unspelled.0 (ap (λ (f : ReadFault). Err f) is) in absurd (cc)
fits_read s bytes (Ok false) (Err fault) spells said read unspelled = λ is.
    unfit s bytes spells (λ fit. let no : IsTrue false = said.1 fit in cc)
fits_read s bytes (Err m) (Err fault) spells said read unspelled = λ is.
    let no = unspelled.0 (ap (λ (f : ReadFault). Err f) is) in absurd (cc)

pub returns-clause-reads : goal.returns-clause-reads
returns-clause-reads c =
    fits_read c.in_ok-spelled.spelled c.args.reader c.fits_spelled-fits.result c.where_it_fits.result
    c.in_ok-spelled.ensures.reads c.fits_spelled-fits.ensures c.where_it_fits.ensures.read c.where_it_fits.ensures.unspelled

pub returns-clause-memory : goal.returns-clause-memory
returns-clause-memory c = λ wanted.
    spelled_begins c.in_ok-spelled.spelled c.args.reader c.in_ok-spelled.ensures.reads
