use Rattle.std.specs.Prelude.{◌≡◌, ◌*◌, ◌++◌, ℕ, List, take, replicate}
use Rattle.std.specs.List.{flat_map}
use Rattle.std.specs.Int.{w32, w64, to_be_bytes, to_le_bytes}
use Rattle.std.proofs.Common.{◌∙◌, ap}
use Rattle.ficus_vectors.specs.Vector.{no_counts}
use Rattle.ficus_formats.specs.Format.{byte, id}
use Rattle.ficus_codec.specs.Formats.{kind, member_counts}
use Rattle.ficus_codec.proofs.Bare.{bare_joined, front_of_zeros}
use Rattle.ficus_codec.proofs.file_format.put_bare_in.Goals as goal

pub returns : goal.returns
returns c =
    let members : c.from.result ≡ c.args.members = c.from.ensures ∙ c.count.ensures.value in
    let head : take 7 (to_le_bytes w64 c.file_head.result) ≡ id.spell c.args.id ++ (kind.spell c.args.kind ++ byte.spell 0) =
    ap (take 7) c.file_head.ensures in
    bare_joined c.args.window.now c.put_number.new.self c.put_front.new.self (take (4 * c.from.result) (replicate 32 0))
    (id.spell c.args.id) (kind.spell c.args.kind) (byte.spell 0)
    (flat_map (to_be_bytes w32) (member_counts c.args.members no_counts))
    (c.put_number.ensures ∙ ap (λ (l : List ℕ). c.args.window.now ++ l) head) c.put_front.ensures
    (ap (λ (n : ℕ). take (4 * n) (replicate 32 0)) members ∙ front_of_zeros c.args.members c.count.ensures.valid.at_most)
