-- The command that `clap` builds, and its arguments by their names.
use Rattle.std.proofs.Common.{◌≡◌, ◌||◌, ℕ, Bool, codes, true, false, refl, sym, subst, List, [], ◌∷◌, Option, Some, None, inl, inr, true≢false}
use Rattle.std.specs.Str.{bytes_eq}
use Rattle.std.proofs.lemmas.Slice.Eq.{bytes_eq-Decides}
use Rattle.clap.specs.Walk.{Row, Rule, arg_by_id, arg_by_long}
use Rattle.clap.specs.Simple.{Shape, built}
use Rattle.clap.specs.Kinds.{or_else}
use Rattle.std.proofs.lemmas.Bool.{or_parts, or_cases}
use Rattle.clap.specs.Faults.{use_fault, repeat_fault}
use Rattle.clap.specs.Words.{new_rule}
use Rattle.clap.specs.declared.builder.action.ArgAction.TheVariants.{Set}
use Rattle.clap.specs.declared.builder.value_parser.ValueParser.TheVariants as vp
use Rattle.ficus_words.specs.Clap.{ficus_app}
use Rattle.ficus_words.specs.Grammar.{Text}
use Rattle.ficus_words.proofs.Uses.{is_option}
use Rattle.ficus_words.proofs.Failing.{cons≢nil, Fails}

abbrev pub shaped : Text → Option Text → Option ℕ → Rule
shaped name long index = record (new_rule name) {
  long = long;
  index = index;
  action = Some Set;
  range = Some (record { start_inclusive = 1; end_inclusive = 1 });
  parser = Some vp.String;
}

abbrev pub the_option : Text → Rule
the_option name = shaped name (Some name) None

abbrev pub the_place : Text → ℕ → Rule
the_place name index = shaped name None (Some index)

abbrev pub the_rules : List Rule
the_rules = the_place (codes "mode") 1 ∷ the_place (codes "root") 2 ∷ the_option (codes "members") ∷ the_option (codes "ids")
    ∷ the_option (codes "bytes") ∷ the_option (codes "seed") ∷ the_option (codes "steps")
    ∷ the_option (codes "volumes") ∷ the_option (codes "replica") ∷ the_option (codes "tag") ∷ []

abbrev pub the_shape : Shape
the_shape = (built ficus_app).top

-- the use of an argument without a value is refused
pub waits_in_vain : (name : Text) (long : Option Text) (index : Option ℕ) (held : List Row) →
    Fails (use_fault false (shaped name long index) [] held)
waits_in_vain name long index held = cons≢nil _ _

pub use_is : (name value : Text) (long : Option Text) (index : Option ℕ) (rows : List Row) →
    use_fault false (shaped name long index) (value ∷ []) rows ≡ or_else (repeat_fault false name rows) []
use_is name value long index rows = refl

-- the name is that of an argument
pub record IsKnown (name : Text) : Type 0 where
  pub long : Option Text
  pub index : Option ℕ
  pub found : arg_by_id the_rules name ≡ Some (shaped name long index)

-- the name is that of an option
abbrev pub IsNamed : Text → Type 0
IsNamed name = (arg_by_long the_rules name ≡ Some (the_option name)) × IsKnown name

named : (name : Text) → arg_by_long the_rules name ≡ Some (the_option name) → arg_by_id the_rules name ≡ Some (the_option name) →
    IsNamed name
named name long id = (long, record { long = Some name; index = None; found = id })

-- the name is this one, or one of others
this_or : (known name : Text) (others : Bool) → IsNamed known → (others ≡ true → IsNamed name) →
    (bytes_eq known name || others) ≡ true → IsNamed name
this_or known name others here more is = elim (or_cases (bytes_eq known name) others is) [
  | inl e ↦ subst IsNamed ((bytes_eq-Decides known name).0 e) here
  | inr e ↦ more e
]

pub names_option : (name : Text) → is_option name ≡ true → IsNamed name
names_option name =
    this_or (codes "members") name _ (named (codes "members") refl refl) (
    this_or (codes "ids") name _ (named (codes "ids") refl refl) (
    this_or (codes "bytes") name _ (named (codes "bytes") refl refl) (
    this_or (codes "seed") name _ (named (codes "seed") refl refl) (
    this_or (codes "steps") name _ (named (codes "steps") refl refl) (
    this_or (codes "volumes") name _ (named (codes "volumes") refl refl) (
    this_or (codes "replica") name _ (named (codes "replica") refl refl) (
    this_or (codes "tag") name _ (named (codes "tag") refl refl) (
    λ none. absurd (true≢false (sym none))))))))))

pub names_nothing : (name : Text) → is_option name ≡ false → arg_by_long the_rules name ≡ None
names_nothing name is =
    let a = or_parts (bytes_eq (codes "members") name) _ is in
    let b = or_parts (bytes_eq (codes "ids") name) _ a.1 in
    let d = or_parts (bytes_eq (codes "bytes") name) _ b.1 in
    let e = or_parts (bytes_eq (codes "seed") name) _ d.1 in
    let f = or_parts (bytes_eq (codes "steps") name) _ e.1 in
    let g = or_parts (bytes_eq (codes "volumes") name) _ f.1 in
    let h = or_parts (bytes_eq (codes "replica") name) _ g.1 in
    let i = or_parts (bytes_eq (codes "tag") name) _ h.1 in
    rw (a.0, b.0, d.0, e.0, f.0, g.0, h.0, i.0) refl

pub mode_known : IsKnown (codes "mode")
mode_known = record { long = None; index = Some 1; found = refl }

pub root_known : IsKnown (codes "root")
root_known = record { long = None; index = Some 2; found = refl }
