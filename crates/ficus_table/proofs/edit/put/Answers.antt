use Rattle.std.proofs.Common.{◌≡◌, sym, ◌∙◌, ap, Some, None, get_or}
use Rattle.std.specs.Prelude.{position, ◌==◌}
use Rattle.std.proofs.lemmas.List.Quantifiers.{position-Some}
use Rattle.ficus_table.specs.declared.edit.Edit.{Edit}
use Rattle.ficus_table.specs.Edits.{form_at}
use Rattle.ficus_table.proofs.Shown.{form_by, form_none}
use Rattle.ficus_table.proofs.Sound.{put_some, put_none}
use Rattle.ficus_table.proofs.edit.put.Goals as goal
use Rattle.ficus_table.proofs.edit.put.Goals.{In-None, In-Some}

no_form : (g : _) (c : In-None g) → form_at c.args.edits.now.items c.args.edit.index ≡ None
no_form g c =
    let none : position (λ edit. edit.index == c.args.edit.index) c.args.edits.now.items ≡ None =
    cc (c.in-None.ensures, c.deref.ensures.value) in
    form_none c.args.edits.now.items c.args.edit.index none

pub push_reserved-requires : goal.push_reserved-requires
push_reserved-requires g c = c.requires.room (no_form g (goal.at.push_reserved-requires g c).In-None)

pub returns-in-None-clause-put : goal.returns-in-None-clause-put
returns-in-None-clause-put g c =
    c.push_reserved.ensures.items ∙ sym (put_none c.args.edits.now.items c.args.edit
    (no_form g (goal.at.returns-in-None-clause-put g c).In-None))

pub returns-in-None-clause-earlier : goal.returns-in-None-clause-earlier
returns-in-None-clause-earlier g c = sym (no_form g (goal.at.returns-in-None-clause-earlier g c).In-None)

found_place : (g : _) (c : In-Some g) →
    position (λ edit. edit.index == c.args.edit.index) c.args.edits.now.items ≡ Some c.in-Some.place
found_place g c = cc (c.in-Some.ensures, c.deref.ensures.value)

pub returns-in-Some-clause-put : goal.returns-in-Some-clause-put
returns-in-Some-clause-put g c =
    let edits = c.args.edits.now.items in
    let parts = position-Some (λ edit. edit.index == c.args.edit.index) edits c.in-Some.place c.index_mut.result.now
    (found_place g (goal.at.returns-in-Some-clause-put g c).In-Some) in
    rw c.replace-earlier.ensures.after
    (sym (put_some edits c.args.edit c.in-Some.place c.index_mut.result.now parts.0 parts.1 parts.2))

pub returns-in-Some-clause-earlier : goal.returns-in-Some-clause-earlier
returns-in-Some-clause-earlier g c =
    let edits = c.args.edits.now.items in
    let is : c.replace-earlier.result ≡ get_or edits c.in-Some.place c.index_mut.result.now =
    c.replace-earlier.ensures.value ∙ c.index_mut.ensures.value in
    ap (λ (edit : Edit _). Some edit.form) is ∙
    sym (form_by edits c.args.edit.index c.in-Some.place c.index_mut.result.now
    (found_place g (goal.at.returns-in-Some-clause-earlier g c).In-Some))
