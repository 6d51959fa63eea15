-- What stands for the files of tables may be held.
use Rattle.std.specs.Prelude.{ℕ, List}
use Rattle.std.proofs.Common.{ap, arith}
use Rattle.std.proofs.lemmas.List.Elements.{All-contains}
use Rattle.ficus_ids.specs.declared.id.Id.{Id}
use Rattle.ficus_entry.specs.declared.entry.Entry.{Entry}
use Rattle.ficus_file.specs.Files.{AreFiles}
use Rattle.ficus_file.specs.declared.file.FileReplica.{FileReplica}
use Rattle.ficus_durable_state.specs.Tables.{FitsFile, FitsTables}

pub are_files : (members : ℕ) (es : List Entry) (fs : List FileReplica) → FitsTables members es fs → AreFiles fs
are_files members es fs fits = record {
  rising = fits.rising_files;
  each = λ f inside.
      let fit = All-contains (FitsFile members) fs f fits.each_file inside in
      record {
        well_formed = fit.well_formed;
        not_root = λ is. omega (arith, fit.id.at_least, ap (λ (x : Id). x.number) is);
        not_attic = λ is. omega (arith, fit.id.replica.at_least, ap (λ (x : Id). x.replica) is);
      };
}
