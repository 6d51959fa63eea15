use Rattle.std.proofs.Common.{◌≡◌, ◌∷◌, ◌++◌, ℕ, [], List, map, ap, ap₂, subst, sym, ◌∙◌, arith, rules}
use Rattle.std.specs.List.{range_with_len}
use Rattle.std.proofs.lemmas.List.FromFn.{map-range_with_len_more}
use Rattle.ficus_wire.specs.Message.{message_bytes, piece_of}
use Rattle.ficus_world.proofs.Sending.{spelled_piece}
use Rattle.ficus_world.proofs.serving.messages_of.Goals as goal

pub loop-index-preserved : goal.loop-index-preserved
loop-index-preserved c =
    let index = c.loop-index.index in
    let pushed : c.push.new.self.items ≡ c.loop-index.messages.items ++ c.of.result ∷ [] = search rules in
    let spelled : c.of.result ≡ spelled_piece c.args.head c.args.tables.now index =
    c.of.ensures ∙ c.in_ok-message.ensures
    ∙ ap (λ (bytes : List ℕ). message_bytes (piece_of (record c.args.head { index = index }) bytes)) c.piece_at.ensures in
    pushed ∙ ap₂ (λ (list : List (List ℕ)) (bytes : List ℕ). list ++ bytes ∷ []) c.loop-index.invariant spelled
    ∙ sym (map-range_with_len_more (spelled_piece c.args.head c.args.tables.now) 0 index index (omega arith))

pub returns : goal.returns
returns c =
    let end : c.loop-index.index ≡ c.args.head.pieces =
    omega (arith, c.loop-index-test.false, c.loop-index.auto.index-end) in
    subst (λ n. c.loop-index.messages.items ≡ map (spelled_piece c.args.head c.args.tables.now) (range_with_len 0 n)) end
    c.loop-index.invariant
