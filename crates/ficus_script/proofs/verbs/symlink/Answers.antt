use Rattle.std.proofs.Common.{◌≡◌, [], sym, ◌∙◌, subst}
use Rattle.std.proofs.lemmas.Bool.{false≢true}
use Rattle.ficus_path.specs.Text.{quoted_text}
use Rattle.ficus_path.proofs.TextLaws.{quoted_text_injective}
use Rattle.ficus_script.proofs.CommandLaws.{is_symlink, no_symlink}
use Rattle.ficus_script.proofs.verbs.symlink.Goals as goal

pub returns-then-is_empty : goal.returns-then-is_empty
returns-then-is_empty c = λ by it number is.
    no_symlink by c.args.path.now it
    (quoted_text_injective it [] (sym is ∙ c.is_empty.ensures.0 c.if-is_empty.true))

pub returns-else-is_empty : goal.returns-else-is_empty
returns-else-is_empty c = λ by it number is.
    is_symlink by c.args.path.now it number c.requires.path c.requires.new
    (λ none. false≢true (sym c.if-is_empty.false ∙ c.is_empty.ensures.1 (subst (λ t. c.args.text.now ≡ quoted_text t) none is)))
