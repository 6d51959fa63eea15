-- Laws of files, for the proofs of this crate and of those above it.
use Rattle.std.specs.Prelude.{◌≡◌, ℕ, List, [], ◌∷◌, Contains}
use Rattle.std.proofs.Common.{refl, sym, ap, subst, inl, inr, ◌∙◌, arith}
use Rattle.ficus_ids.specs.declared.id.Id.{Id}
use Rattle.ficus_ids.specs.Kind.{sort_of, FitsKind}
use Rattle.ficus_ids.specs.KindLaws.{versioned_file}
use Rattle.ficus_ids.specs.ListLaws.{here_or_there, not_inside_none}
use Rattle.ficus_ids.specs.declared.kind.Kind.{Kind}
use Rattle.ficus_ids.specs.declared.kind.Kind.TheVariants.{Dir, Symlink}
use Rattle.ficus_ids.specs.declared.kind.Sort.TheVariants.{Versioned, Fixed}
use Rattle.ficus_file.specs.declared.file.FileReplica.{FileReplica}
use Rattle.ficus_file.specs.declared.version.Version.{Version}
use Rattle.ficus_file.specs.Version.{AreCurrent, HasTwoTexts}
use Rattle.ficus_file.specs.File.{HaveOneText, IsWellFormed, over_all, made_file, advanced, covered_file}

-- one version is current
pub one_current : (version : Version) → AreCurrent (version ∷ [])
one_current version = record {
  at_least = omega arith;
  at_most = omega arith;
  apart = λ i j d before within. absurd (omega arith);
  ordered = λ i j d before within. absurd (omega arith);
}

pub made_well_formed : (id : Id) (kind : Kind) (by : ℕ) (text : List ℕ) → FitsKind kind text →
    IsWellFormed (made_file id kind by text)
made_well_formed id Dir by text fits =
    record { directory = λ _. refl; current = λ other. absurd (other refl); fixed = λ is. absurd cc }
made_well_formed id Symlink by text fits = record {
  directory = λ is. absurd cc;
  current = λ _. one_current (over_all by text []);
  fixed = λ _. record { version = over_all by text []; alone = refl; text = fits };
}
made_well_formed id kind by text fits = record {
  directory = λ is. absurd cc;
  current = λ _. one_current (over_all by text []);
  fixed = λ is. absurd cc;
}

pub advanced_well_formed : (by : ℕ) (bytes : List ℕ) (file : FileReplica) → sort_of file.kind ≡ Versioned →
    IsWellFormed (advanced by bytes file)
advanced_well_formed by bytes file changes = record {
  directory = λ is. absurd (versioned_file changes is);
  current = λ _. one_current (over_all by bytes file.versions);
  fixed = λ is. absurd (let differ : Versioned ≡ Fixed = sym changes ∙ is in cc);
}

-- one version has one text
pub one_text_settled : {versions : List Version} → HaveOneText versions → HasTwoTexts versions → ⊥
one_text_settled {versions} one two =
    two.differ (ap (λ (v : Version). v.bytes) (is_it two.one two.inside ∙ sym (is_it two.other two.inside_too)))
  where
    is_it : (version : Version) → Contains versions version → version ≡ one.version
    is_it version inside = elim (here_or_there one.version version []
        (subst (λ list. Contains list version) one.alone inside)) [
          | inl is ↦ is
          | inr none ↦ absurd (not_inside_none version none)
        ]

pub covered_well_formed : (file : FileReplica) → IsWellFormed file → IsWellFormed (covered_file file)
covered_well_formed file well = record { directory = well.directory; current = well.current; fixed = well.fixed }
