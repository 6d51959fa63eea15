use Rattle.ficus_deciding.proofs.NamedEntries.{named_tables}
use Rattle.ficus_entry.proofs.Within.{IfOk-both}
use Rattle.ficus_deciding.proofs.names.named_entries.Goals as goal

pub returns : goal.returns
returns c =
    IfOk-both c.names_of.result _ _ _ (λ ids are rising. record {
      all = λ id. let same = named_tables c.args.saved.now id c.args.dir c.args.name.now c.args.target in
          (λ inside. same.0 ((are id).0 inside), λ by. (are id).1 (same.1 by));
      rising = rising;
    }) c.names_of.ensures.entries c.names_of.ensures.rising
