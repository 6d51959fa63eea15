use Rattle.std.proofs.Common.{◌≡◌, ◌∙◌, ◌++◌, sym, ap, subst}
use Rattle.std.proofs.lemmas.Bool.{false≢true}
use Rattle.ficus_path.specs.Spelling.{byte_text}
use Rattle.ficus_path.specs.Text.{quoted_byte_text}
use Rattle.ficus_path.proofs.ByteLaws.{IsSpelling-byte_text}
use Rattle.ficus_path.proofs.SpelledLaws.{first_same}
use Rattle.ficus_path.proofs.TextLaws.{quoted_as_in_names}
use Rattle.ficus_path.proofs.text.read_as_in_names.Goals as goal

pub returns-else-is_as_in_names-clause-none : goal.returns-else-is_as_in_names-clause-none
returns-else-is_as_in_names-clause-none c = λ byte rest not_mark not_space e.
    let as_in_names = quoted_as_in_names byte not_mark not_space in
    let spelled = sym (e ∙ ap (λ t. t ++ rest) as_in_names) ∙ c.in_ok-byte.ensures.found in
    let same = first_same byte_text IsSpelling-byte_text byte c.in_ok-byte.byte rest c.in_ok-byte.rest.now spelled in
    false≢true (c.if-is_as_in_names.ensures.1 (subst (λ b. quoted_byte_text b ≡ byte_text b) same.0 as_in_names))
