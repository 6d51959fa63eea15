-- The text of a file is one, and the same over views that show the same.
use Rattle.std.proofs.Common.{◌≡◌, ◌≢◌, ℕ, List, [], ◌∷◌, Contains, refl, sym, subst, ◌∙◌}
use Rattle.ficus_ids.specs.ListLaws.{here}
use Rattle.ficus_ids.specs.declared.id.Id.{Id}
use Rattle.ficus_file.specs.declared.version.Version.{Version}
use Rattle.ficus_rules.specs.Text.{IsTextOf}
use Rattle.ficus_rules.specs.View.{View, SameShown}
use Rattle.ficus_rules.proofs.Sound.{IsSound}

-- there is a version, and it has both
one_text : (versions : List Version) (bytes other : List ℕ) → versions ≢ [] →
    ((version : Version) → Contains versions version → version.bytes ≡ bytes) →
    ((version : Version) → Contains versions version → version.bytes ≡ other) → bytes ≡ other
one_text [] bytes other some each each_too = absurd (some refl)
one_text (version ∷ versions) bytes other some each each_too =
    let inside = here version versions in
    sym (each version inside) ∙ each_too version inside

pub text_once : {view : View} → IsSound view → (file : Id) (bytes other : List ℕ) → IsTextOf view file bytes →
    IsTextOf view file other → bytes ≡ other
text_once sound file bytes other is is_too =
    let same = sound.one_list file is_too.versions is.versions is_too.shown is.shown in
    one_text is.versions bytes other is.some is.each
    (subst (λ versions. (version : Version) → Contains versions version → version.bytes ≡ other) same is_too.each)

pub text_along : {one other : View} → SameShown one other → (file : Id) (bytes : List ℕ) → IsTextOf one file bytes →
    IsTextOf other file bytes
text_along same file bytes is = record {
  versions = is.versions;
  shown = (same.versions file is.versions).0 is.shown;
  some = is.some;
  each = is.each;
}
