use Rattle.std.specs.Prelude.{OnOk}
use Rattle.std.proofs.Common.{◌≡◌, ◌+◌, ◌-◌, ◌++◌, ◌∷◌, ◌∙◌, [], List, ℕ, subst, ap, arith, length, take, drop}
use Rattle.std.proofs.lemmas.List.{length-drop, take_all}
use Rattle.std.specs.List.{flat_map}
use Rattle.ficus_formats.specs.Format.{id as id_format}
use Rattle.ficus_codec.specs.Formats.{kind_number}
use Rattle.ficus_codec.proofs.CountFormats.{bare_cut}
use Rattle.ficus_codec.proofs.file_format.put_bare.Goals as goal

pub returns-clause-put : goal.returns-clause-put
returns-clause-put c =
    let all : List ℕ = c.as_flattened-spelled.result.now in
    let members : c.from.result ≡ c.args.members = c.from.ensures ∙ c.count.ensures.value in
    subst (λ (l : List ℕ). OnOk c.put_bytes.result (c.put_bytes.new.out.items ≡ c.args.out.now.items ++ l))
    (take_all (length all - 1) (drop 1 all) (omega (arith, length-drop 1 all))
    ∙ ap (drop 1) (c.as_flattened-spelled.ensures.value
    ∙ ap (λ (n : ℕ). flat_map (λ (l : List ℕ). l) (take (2 + n) c.bare_rows-rows.result)) members)
    ∙ bare_cut c.args.covered c.args.members 0 (take 3 (id_format.spell c.args.id))
    (drop 3 (id_format.spell c.args.id) ++ kind_number c.args.kind ∷ 0 ∷ []) c.bare_rows-rows.result
    c.bare_rows-rows.ensures)
    c.put_bytes.ensures.put
