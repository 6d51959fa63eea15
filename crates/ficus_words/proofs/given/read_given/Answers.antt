use Rattle.std.proofs.Common.{◌≡◌, ◌∙◌, codes, map, string_bytes}
use Rattle.ficus_words.proofs.Found.{gives_of, gives_nothing, value_found, past_first}
use Rattle.ficus_words.specs.Given.{Texts, texts_of}
use Rattle.ficus_words.proofs.given.read_given.Goals as goal

same_texts : (one other : Texts) → one.mode ≡ other.mode → one.root ≡ other.root → one.members ≡ other.members →
    one.ids ≡ other.ids → one.bytes ≡ other.bytes → one.seed ≡ other.seed → one.steps ≡ other.steps →
    one.volumes ≡ other.volumes → one.replica ≡ other.replica → one.tag ≡ other.tag → one ≡ other
same_texts one other mode root members ids bytes seed steps volumes replica tag = λ i. record {
  mode = mode i;
  root = root i;
  members = members i;
  ids = ids i;
  bytes = bytes i;
  seed = seed i;
  steps = steps i;
  volumes = volumes i;
  replica = replica i;
  tag = tag i;
}

pub returns-in-Ok-clause-given : goal.returns-in-Ok-clause-given
returns-in-Ok-clause-given c =
    let words = map string_bytes c.args.words.now in
    let got = gives_of words (past_first c.args.words.now) c.in-Ok.ensures.fails in
    let m = c.in-Ok.found in
    let rows = c.in-Ok.ensures.rows in (
      got.0,
      got.1.0,
      same_texts _ (texts_of got.0)
          (c.get_str.ensures ∙ value_found m words got.0 (codes "mode") rows got.1.1)
          (c.get_str-in-Ok.ensures ∙ value_found m words got.0 (codes "root") rows got.1.1)
          (c.get_str-in-Ok-2.ensures ∙ value_found m words got.0 (codes "members") rows got.1.1)
          (c.get_str-in-Ok-3.ensures ∙ value_found m words got.0 (codes "ids") rows got.1.1)
          (c.get_str-in-Ok-4.ensures ∙ value_found m words got.0 (codes "bytes") rows got.1.1)
          (c.get_str-in-Ok-5.ensures ∙ value_found m words got.0 (codes "seed") rows got.1.1)
          (c.get_str-in-Ok-6.ensures ∙ value_found m words got.0 (codes "steps") rows got.1.1)
          (c.get_str-in-Ok-7.ensures ∙ value_found m words got.0 (codes "volumes") rows got.1.1)
          (c.get_str-in-Ok-8.ensures ∙ value_found m words got.0 (codes "replica") rows got.1.1)
          (c.get_str-in-Ok-9.ensures ∙ value_found m words got.0 (codes "tag") rows got.1.1),
    )

pub returns-in-Err-clause-usage : goal.returns-in-Err-clause-usage
returns-in-Err-clause-usage c =
    λ usage uses gives. gives_nothing (map string_bytes c.args.words.now) c.in-Err.error (past_first c.args.words.now) c.in-Err.ensures.fails
    (c.fault_of.ensures.usage (cc usage)) uses gives
