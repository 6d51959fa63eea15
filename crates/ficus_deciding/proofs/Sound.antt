-- What tables show gives each change and look one answer.
use Rattle.std.proofs.Common.{◌≡◌, Ok, sym, ap, ◌∙◌, inl, inr, arith}
use Rattle.std.proofs.lemmas.List.Elements.{All-contains}
use Rattle.ficus_ids.specs.KindLaws.{fixed_file}
use Rattle.ficus_ids.specs.RisingLaws.{one_item}
use Rattle.ficus_ids.specs.declared.id.Id.{Id}
use Rattle.ficus_ids.specs.declared.kind.Kind.TheVariants.{Dir}
use Rattle.ficus_ids.specs.declared.kind.Sort.TheVariants.{Fixed}
use Rattle.ficus_file.specs.Files.{id_of}
use Rattle.ficus_file.specs.declared.file.FileReplica.{FileReplica}
use Rattle.ficus_model.specs.declared.event.Op.{Op}
use Rattle.ficus_durable_state.specs.Saved.{FitsImage}
use Rattle.ficus_durable_state.specs.Tables.{FitsFile}
use Rattle.ficus_durable_state.specs.declared.saved.Saved.{Saved}
use Rattle.ficus_commands.specs.declared.change.Change.{Change}
use Rattle.ficus_rules.specs.Change.{ChangeRule, MayWantMemory}
use Rattle.ficus_rules.specs.View.{IsDirectoryIn, IsForIn}
use Rattle.ficus_rules.proofs.Changes.{change_once, may_where_none}
use Rattle.ficus_rules.proofs.Rules.{given_none}
use Rattle.ficus_rules.proofs.Sound.{IsSound}
use Rattle.ficus_deciding.specs.View.{HasObject, tables_view}

module _ {saved : Saved} (fits : FitsImage saved) where
  -- an object is one file
  one_file : {object : Id} {is is_too : FileReplica → Type 0} (has : HasObject saved object is)
      (has_too : HasObject saved object is_too) → has.file ≡ has_too.file
  one_file has has_too =
      one_item id_of saved.files has.file has_too.file fits.tables.rising_files has.inside has_too.inside
      (has.has_id ∙ sym has_too.has_id)

  pub tables_sound : IsSound (tables_view saved)
  tables_sound = record {
    one_kind = λ object kind other has has_too.
        sym has.so ∙ ap (λ (file : FileReplica). file.kind) (one_file has has_too) ∙ has_too.so;
    one_list = λ object versions others has has_too.
        sym has.so ∙ ap (λ (file : FileReplica). file.versions) (one_file has has_too) ∙ has_too.so;
  }

  -- the text of a directory doesn't stay
  pub directory_not_fixed : {object : Id} → IsDirectoryIn (tables_view saved) object →
      IsForIn (tables_view saved) Fixed object → ⊥
  directory_not_fixed (inl root) is =
      let has = is.of_kind in
      let fit = All-contains (FitsFile saved.members) saved.files has.file fits.tables.each_file has.inside in
      let zero : has.file.id.replica ≡ 0 = ap (λ (id : Id). id.replica) (has.has_id ∙ root) in
      omega (arith, fit.id.replica.at_least)
  directory_not_fixed {object} (inr directory) is =
      fixed_file is.is (sym (tables_sound.one_kind object Dir is.kind directory is.of_kind))

  -- where a change is an operation, memory may be wanted for it
  pub may_where_given : (change : Change) (op : Op) → ChangeRule (tables_view saved) change (Ok op) →
      MayWantMemory (tables_view saved) change
  may_where_given change op given =
      may_where_none (tables_view saved) change
      (given_none (change_once (tables_view saved) tables_sound change) op given)
