-- What was read is of the same generation as what is known, or it isn't.
use Rattle.std.proofs.Common.{◌⊎◌, inl, inr}
use Rattle.std.proofs.lemmas.Bool.{cases_eq}
use Rattle.ficus_durable_state.specs.declared.saved.Saved.{Saved}
use Rattle.ficus_world.specs.Moves.{IsLike}

pub like_or_not : (known read : Saved) → IsLike known read ⊎ (IsLike known read → ⊥)
like_or_not known read =
    elim (cases_eq read.me known.me) [
      | inr differ ↦ inr (λ like. differ like.me)
      | inl me ↦ elim (cases_eq read.members known.members) [
        | inr differ ↦ inr (λ like. differ like.members)
        | inl members ↦ elim (cases_eq read.ids known.ids) [
          | inr differ ↦ inr (λ like. differ like.ids)
          | inl ids ↦ elim (cases_eq read.bytes known.bytes) [
            | inr differ ↦ inr (λ like. differ like.bytes)
            | inl bytes ↦ elim (cases_eq read.generation known.generation) [
              | inr differ ↦ inr (λ like. differ like.generation)
              | inl generation ↦ inl (record {
                me = me;
                members = members;
                ids = ids;
                bytes = bytes;
                generation = generation;
              })
            ]
          ]
        ]
      ]
    ]
