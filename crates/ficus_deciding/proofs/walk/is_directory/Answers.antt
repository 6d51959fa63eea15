use Rattle.std.proofs.Common.{◌≡◌, ◌≢◌, ◌↔◌, inl, inr, rules}
use Rattle.std.specs.Prelude.{IsTrue}
use Rattle.ficus_ids.specs.declared.id.TheConstants.{ROOT}
use Rattle.ficus_ids.specs.declared.kind.Kind.TheVariants.{Dir}
use Rattle.ficus_deciding.proofs.Tables.{so_of_file}
use Rattle.ficus_deciding.proofs.walk.is_directory.Goals as goal

pub returns-else-eq : goal.returns-else-eq
returns-else-eq c =
    let not_root : c.args.object ≢ ROOT = search rules in
    let is_dir : IsTrue c.eq-else-eq.result ↔ (c.visible.result.now.kind ≡ Dir) = search rules in
    let told = so_of_file c.requires.fits c.visible.ensures (λ file. file.kind ≡ Dir) in (
      λ truth. inr (told.0 (is_dir.0 truth)),
      λ directory. elim directory [ inl root ↦ absurd (not_root root) | inr has ↦ is_dir.1 (told.1 has) ],
    )
