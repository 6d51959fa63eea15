use Rattle.std.proofs.Common.{◌≡◌, ◌≤◌, length, refl, subst, arith, rules}
use Rattle.std.specs.Prelude.{◌≢◌, All}
use Rattle.std.proofs.lemmas.List.{take_all}
use Rattle.std.proofs.lemmas.List.Elements.{All-contains}
use Rattle.std.proofs.lemmas.Bool.{false≢true}
use Rattle.ficus_file.proofs.Changed.{contains_at}
use Rattle.ficus_file.specs.declared.file.FileReplica.{FileReplica}
use Rattle.ficus_ids.specs.declared.kind.Kind.TheVariants.{Symlink}
use Rattle.ficus_durable_state.proofs.AllRows.{all_more}
use Rattle.ficus_image.proofs.decoding.are_no_links.Goals as goal

-- it is no symbolic link
abbrev IsNoLink : FileReplica → Type 0
IsNoLink file = file.kind ≢ Symlink

pub returns-then-eq : goal.returns-then-eq
returns-then-eq c = (
  λ yes. absurd (false≢true yes),
  λ none.
      let link : c.at.result.now.kind ≡ Symlink = search rules in
      absurd (none c.at.result.now (contains_at c.args.files.now c.loop-index.index c.at.result.now c.at.ensures) link),
)

pub loop-index-preserved : goal.loop-index-preserved
loop-index-preserved c =
    let other : IsNoLink c.at.result.now = search rules in
    all_more IsNoLink c.args.files.now c.loop-index.index c.at.result.now c.at.ensures c.loop-index.invariant other

pub returns : goal.returns
returns c =
    let past : length c.args.files.now ≤ c.loop-index.index =
    omega (arith, c.len-index-end.ensures.value) in (
      λ _ file inside. All-contains IsNoLink c.args.files.now file
          (subst (All IsNoLink) (take_all c.loop-index.index c.args.files.now past) c.loop-index.invariant) inside,
      λ _. refl,
    )
