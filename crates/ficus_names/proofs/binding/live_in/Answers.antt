use Rattle.std.proofs.Common.{ap, sym, ◌∙◌}
use Rattle.std.proofs.lemmas.Bool.{false≢true}
use Rattle.ficus_ids.specs.RisingLaws.{one_item}
use Rattle.ficus_entry.specs.declared.entry.Entry.{Entry}
use Rattle.ficus_names.proofs.binding.live_in.Goals as goal
use Rattle.ficus_names.proofs.binding.live_in.Goals.{in_default-via-in-Some+else-is_live_in, in_default-via-in_default}

pub returns-in_default-clause-none : goal.returns-in_default-clause-none
returns-in_default-clause-none c = λ entry is.
    elim c.in_default.branch [
      | in_default-via-in-Some+else-is_live_in w ↦
          let found = w.in-Some.ensures.found in
          let one = one_item (λ (e : Entry). e.id) c.args.entries.now w.in-Some.entry.now entry c.get.ensures.rising
          found.0 is.inside (found.1 ∙ sym is.has_id) in
          false≢true (w.if-is_live_in.ensures.1 (ap (λ (e : Entry). e.state) one ∙ is.live, ap (λ (e : Entry). e.dir) one ∙ is.in_dir))
      | in_default-via-in_default w ↦ w.in_default.ensures.found (record { item = entry; inside = is.inside; has_id = is.has_id })
    ]
