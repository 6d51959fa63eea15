-- The lines of a directory, one shown name after the other.
use Rattle.std.proofs.Common.{◌≡◌, List, [], ◌∷◌, ◌++◌, refl, sym, ap, subst, ◌∙◌, append_assoc, inl, inr}
use Rattle.std.specs.Prelude.{All}
use Rattle.std.proofs.lemmas.List.{append-nil, map-append}
use Rattle.std.proofs.lemmas.List.Elements.{All-tail, Contains-push_cases}
use Rattle.ficus_ids.specs.ListLaws.{not_inside_none}
use Rattle.ficus_ids.specs.declared.id.Id.{Id}
use Rattle.ficus_names.specs.declared.listing.Line.{Line}
use Rattle.ficus_names.specs.declared.listing.ShownName.{ShownName}
use Rattle.ficus_rules.specs.Lines.{AreLinesOf, TellsObject}
use Rattle.ficus_durable_state.specs.declared.saved.Saved.{Saved}
use Rattle.ficus_deciding.specs.View.{IsVisibleBy, tables_view}

-- the line of a shown name
pub record IsLineOf (saved : Saved) (dir : Id) (shown : ShownName) (line : Line) : Type 0 where
  pub dir_is : line.dir ≡ dir
  pub shown_is : line.shown ≡ shown
  pub object : TellsObject (tables_view saved) line

-- the lines of the names done stand behind those from before, and the names left are of visible objects
pub record HasAdded (saved : Saved) (dir : Id) (names left : List ShownName) (before lines : List Line) : Type 0 where
  pub done : List ShownName
  pub own : List Line
  pub whole : done ++ left ≡ names
  pub is : lines ≡ before ++ own
  pub of_dir : AreLinesOf (tables_view saved) dir done own
  pub visible : All (λ shown. IsVisibleBy saved shown.target) left

module _ (saved : Saved) (dir : Id) where
  no_lines_of : AreLinesOf (tables_view saved) dir [] []
  no_lines_of = record {
    names = refl;
    in_dir = λ line listed. absurd (not_inside_none line listed);
    objects = λ line listed. absurd (not_inside_none line listed);
  }

  more_lines_of : (done : List ShownName) (own : List Line) (shown : ShownName) (line : Line) →
      AreLinesOf (tables_view saved) dir done own → IsLineOf saved dir shown line →
      AreLinesOf (tables_view saved) dir (done ++ shown ∷ []) (own ++ line ∷ [])
  more_lines_of done own shown line of_dir is = record {
    names = map-append (λ (l : Line). l.shown) own (line ∷ [])
        ∙ (λ i. of_dir.names i ++ is.shown_is i ∷ []);
    in_dir = λ other listed. elim (Contains-push_cases own line other listed) as (λ _. other.dir ≡ dir) [
      | inl earlier ↦ of_dir.in_dir other earlier
      | inr last ↦ subst (λ (l : Line). l.dir ≡ dir) last is.dir_is
    ];
    objects = λ other listed. elim (Contains-push_cases own line other listed)
        as (λ _. TellsObject (tables_view saved) other) [
          | inl earlier ↦ of_dir.objects other earlier
          | inr last ↦ subst (TellsObject (tables_view saved)) last is.object
        ];
  }

  pub added_none : (names : List ShownName) (before : List Line) →
      All (λ shown. IsVisibleBy saved shown.target) names → HasAdded saved dir names names before before
  added_none names before visible = record {
    done = [];
    own = [];
    whole = refl;
    is = sym (append-nil before);
    of_dir = no_lines_of;
    visible = visible;
  }

  pub added_more : (names left : List ShownName) (shown : ShownName) (before lines : List Line) (line : Line) →
      HasAdded saved dir names (shown ∷ left) before lines → IsLineOf saved dir shown line →
      HasAdded saved dir names left before (lines ++ line ∷ [])
  added_more names left shown before lines line added is = record {
    done = added.done ++ shown ∷ [];
    own = added.own ++ line ∷ [];
    whole = append_assoc added.done (shown ∷ []) left ∙ added.whole;
    is = ap (λ so_far. so_far ++ line ∷ []) added.is ∙ append_assoc before added.own (line ∷ []);
    of_dir = more_lines_of added.done added.own shown line added.of_dir is;
    visible = All-tail (λ item. IsVisibleBy saved item.target) shown left added.visible;
  }

  -- all of them
  pub added_all : (names : List ShownName) (before lines : List Line) → HasAdded saved dir names [] before lines →
      (more : List Line) × AreLinesOf (tables_view saved) dir names more × (lines ≡ before ++ more)
  added_all names before lines added = (
    added.own,
    subst (λ done. AreLinesOf (tables_view saved) dir done added.own) (sym (append-nil added.done) ∙ added.whole)
        added.of_dir,
    added.is,
  )
