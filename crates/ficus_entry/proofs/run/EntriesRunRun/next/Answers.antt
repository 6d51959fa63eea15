use Rattle.std.proofs.Common.{◌≡◌, ◌+◌, ◌<◌, ◌∷◌, ◌∙◌, ap, drop, get_or, length, sym, Result, Ok, Some, None, refl}
use Rattle.std.specs.Prelude.{List}
use Rattle.std.proofs.lemmas.List.{drop_more}
use Rattle.std.proofs.lemmas.Option.{slice_get_within, get_or_from_slice_get}
use Rattle.ficus_entry.specs.declared.entry.Entry.{Entry}
use Rattle.ficus_entry.proofs.run.EntriesRunRun.next.Goals as goal

given : {E : Type 0} (result : Result Entry E) (one other : Entry) → result ≡ Ok one → result ≡ Ok other → one ≡ other
given result one other is is_too = cc

not_none : (one : Entry) → Some one ≡ None → ⊥
not_none one is = cc

pub returns-clause-taken : goal.returns-clause-taken
returns-clause-taken c =
    let entries = c.self.inside.entries.now in
    let n = c.self.inside.done in
    let entry = c.at.result.now in
    let within : n < length entries = slice_get_within entries n entry c.at.ensures in
    let is : get_or entries n entry ≡ entry = get_or_from_slice_get entries n entry entry c.at.ensures in
    let more : drop n entries ≡ entry ∷ drop (n + 1) entries =
    drop_more entries n entry within ∙ ap (λ (e : Entry). e ∷ drop (n + 1) entries) is in
    let same : c.in_ok-entry.entry ≡ entry = given (Ok c.in_ok-entry.entry) c.in_ok-entry.entry entry refl c.in_ok-entry.ensures in
    record {
      is = ap (λ r. r.left) (sym c.self.view_is) ∙ more ∙ ap (λ (e : Entry). e ∷ drop (n + 1) entries) (sym same);
      none = λ none. absurd (not_none c.in_ok-entry.entry none);
    }
