-- What a map from directories to their bindings has after the bindings of one directory were put back.
use Rattle.std.specs.Prelude.{◌≡◌, ◌≢◌, ◌↔◌, ℕ, ◌+◌, false, List, [], ◌∷◌, ◌++◌, take, slice_get, Option, Some, None, unwrap_or, Vec}
use Rattle.std.specs.BTreeMap.{BTreeMap, get, is_at, UpdatesBy, Updates}
use Rattle.std.specs.Ordering.{is_eq}
use Rattle.std.specs.declared.alloc.Global.{Global}
use Rattle.std.specs.declared.cmp.Ordering.{Ordering}
use Rattle.std.specs.declared.cmp.Ordering.TheVariants.{Less, Equal, Greater}
use Rattle.std.proofs.Common.{refl, sym, ap, subst, ◌∙◌, inl, inr}
use Rattle.ficus_ids.specs.Id.{id_cmp}
use Rattle.ficus_ids.specs.IdLaws.{id_cmp-Equal, same_id_or_not}
use Rattle.ficus_ids.specs.declared.id.Id.{Id}
use Rattle.ficus_entry.specs.declared.entry.Entry.{Entry}
use Rattle.ficus_entry.specs.declared.entry.State.TheVariants.{Live}
use Rattle.ficus_names.specs.Binding.{Binds}
use Rattle.ficus_names.specs.Binds.{BindsIn}
use Rattle.ficus_names.specs.Directories.{items_of, bindings_of}
use Rattle.ficus_names.specs.declared.binding.Binding.{Binding}
use Rattle.ficus_names.specs.declared.directories.Directories.{Directories}
use Rattle.ficus_names.proofs.Known.{bindings_push, bindings_stay}

not_at : (dir other : Id) → other ≢ dir → (answer : Ordering) → id_cmp dir other ≡ answer → is_eq answer ≡ false
not_at dir other differs Less is = refl
not_at dir other differs Equal is = absurd (differs (sym (id_cmp-Equal dir other is)))
not_at dir other differs Greater is = refl

pub items_or : (found : Option (Vec Binding Global)) (empty : Vec Binding Global) → empty.items ≡ [] →
    (unwrap_or found empty).items ≡ items_of found
items_or None empty none = none
items_or (Some bindings) empty none = refl

module _ (old between new : BTreeMap Id (Vec Binding Global)) (dir : Id) (bindings : Vec Binding Global)
    (taken : UpdatesBy id_cmp (id_cmp dir) old between None)
    (put : Updates id_cmp between new dir (Some bindings)) where
  pub put_here : items_of (get id_cmp new dir) ≡ bindings.items
  put_here = ap items_of put.1

  pub put_others : (other : Id) → other ≢ dir → items_of (get id_cmp new other) ≡ items_of (get id_cmp old other)
  put_others other differs =
      let away : is_at (id_cmp dir) other ≡ false = not_at dir other differs (id_cmp dir other) refl in
      ap items_of (put.2 other away ∙ taken.2 other away)

-- the names of each directory are those that the entries in front of the place have in it
abbrev pub AreBindings : Directories → List Entry → ℕ → Type 0
AreBindings directories entries index =
    (dir target : Id) (name : List ℕ) →
    Binds (bindings_of directories dir) name target ↔ BindsIn (take index entries) dir name target

module _ (entries : List Entry) (index : ℕ) (entry : Entry) (at : slice_get entries index ≡ Some entry) where
  -- one more name in the directory of a live entry
  pub directories_push : (old new : Directories) → entry.state ≡ Live →
      bindings_of new entry.dir ≡
      bindings_of old entry.dir ++ record { name = entry.name; target = entry.target } ∷ [] →
      ((other : Id) → other ≢ entry.dir → bindings_of new other ≡ bindings_of old other) →
      AreBindings old entries index → AreBindings new entries (index + 1)
  directories_push old new live here others are dir target name =
      elim (same_id_or_not dir entry.dir) [
        | inl same ↦
            let now : bindings_of new dir ≡
            bindings_of old dir ++ record { name = entry.name; target = entry.target } ∷ [] =
            subst (λ d. bindings_of new d ≡
            bindings_of old d ++ record { name = entry.name; target = entry.target } ∷ []) (sym same) here in
            subst (λ bindings. Binds bindings name target ↔ BindsIn (take (index + 1) entries) dir name target) (sym now)
            (bindings_push entries index entry at (bindings_of old dir) dir live (sym same) (λ n t. are dir t n) name target)
        | inr differs ↦
            subst (λ bindings. Binds bindings name target ↔ BindsIn (take (index + 1) entries) dir name target) (sym (others dir differs))
            (bindings_stay entries index entry at (bindings_of old dir) dir (λ own. differs (sym own.1)) (λ n t. are dir t n) name target)
      ]

  -- a dead entry adds none
  pub directories_stay : (directories : Directories) → (entry.state ≡ Live → ⊥) →
      AreBindings directories entries index → AreBindings directories entries (index + 1)
  directories_stay directories dead are dir target name =
      bindings_stay entries index entry at (bindings_of directories dir) dir (λ own. dead own.0) (λ n t. are dir t n) name target
