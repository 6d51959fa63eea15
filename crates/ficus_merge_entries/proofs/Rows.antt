-- What the table says of an entry by what it says of its state.
use Rattle.std.proofs.Common.{◌≡◌, ℕ, Option, Some, None, refl, inl, inr}
use Rattle.std.specs.Option.{option_or}
use Rattle.ficus_ids.specs.MarksLaws.{full_or_one_missing}
use Rattle.ficus_entry.specs.declared.entry.Entry.{Entry}
use Rattle.ficus_entry.specs.declared.entry.State.{State}
use Rattle.ficus_entry.specs.declared.entry.State.TheVariants.{Live, Dead}
use Rattle.ficus_merge_entries.specs.Table.{Merges, MergesEntry, state_of}

not_nothing : (r members : ℕ) (mine : State) (theirs : Option State) → Merges r members (Some mine) theirs None → ⊥
not_nothing r members Live None is = cc
not_nothing r members Live (Some Live) is = cc
not_nothing r members Live (Some (Dead one two)) is = is
not_nothing r members (Dead one two) (Some Live) is = is
not_nothing r members (Dead one two) (Some (Dead peers_one peers_two)) is = is
not_nothing r members (Dead one two) None is =
    elim (full_or_one_missing one members) [
      | inl full ↦ is.0 full
      | inr missing ↦ is.1 (λ full. cc (full missing.0 missing.1, missing.2))
    ]

-- nothing is to stand where the table makes no state, and the taker has no entry there
pub none_merges : (r members : ℕ) (mine theirs : Option Entry) (state : Option State) →
    (option_or mine theirs ≡ None) → Merges r members (state_of mine) (state_of theirs) state →
    MergesEntry r members mine theirs None
none_merges r members None None state none merges = record { state = refl; place = tt }
none_merges r members None (Some theirs) state none merges = cc
none_merges r members (Some mine) theirs state none merges = cc

-- where the table makes no state, none stood there
pub kept_or_new : (r members : ℕ) (mine theirs state : Option State) → Merges r members mine theirs state →
    Merges r members mine theirs (option_or state mine)
kept_or_new r members mine theirs (Some state) merges = merges
kept_or_new r members None theirs None merges = merges
kept_or_new r members (Some mine) theirs None merges = absurd (not_nothing r members mine theirs merges)
