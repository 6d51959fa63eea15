-- The merge table determines what stands at the taker.
use Rattle.std.proofs.Common.{◌≡◌, ℕ, Bool, true, false, List, Contains, Option, Some, None, MatchBool, sym, subst, ◌∙◌, ap, inl, inr, refl}
use Rattle.std.proofs.lemmas.Option.{same_Some}
use Rattle.ficus_ids.specs.Marks.{has, IsFull}
use Rattle.ficus_ids.specs.MarksLaws.{same_marks, full_or_one_missing}
use Rattle.ficus_ids.specs.RisingLaws.{held_or_not, same_items}
use Rattle.ficus_entry.specs.Entry.{IsRising, HoldsUnder}
use Rattle.ficus_entry.specs.declared.entry.Entry.{Entry}
use Rattle.ficus_entry.specs.declared.entry.State.{State}
use Rattle.ficus_entry.specs.declared.entry.State.TheVariants.{Live, Dead}
use Rattle.ficus_merge_entries.specs.Merge.{MergesEntries}
use Rattle.ficus_merge_entries.specs.Table.{everyone, with, union, StandFor, HasMarks, IsDead, Merges, MergesEntry, KeepsPlace, state_of}

same_set : (a b : ℕ) (set : ℕ → Bool) → StandFor a set → StandFor b set → a ≡ b
same_set a b set is_a is_b = same_marks a b (λ replica. is_a replica ∙ sym (is_b replica))

module _ (r members : ℕ) where
  same_second : (one two : ℕ → Bool) (first a b : ℕ) → HasMarks r members one two first a →
      HasMarks r members one two first b → a ≡ b
  same_second one two first a b is_a is_b =
      elim (full_or_one_missing first members) [
        | inl full ↦ same_set a b (with two r) (is_a.two_with_r full) (is_b.two_with_r full)
        | inr missing ↦
            let not_full : IsFull first members → ⊥ = λ full. cc (full missing.0 missing.1, missing.2) in
            same_set a b two (is_a.two_as_said not_full) (is_b.two_as_said not_full)
      ]

  same_dead : (one two : ℕ → Bool) (a b : Option State) → IsDead r members one two a →
      IsDead r members one two b → a ≡ b
  same_dead one two None b is_a is_b = absurd is_a
  same_dead one two (Some Live) b is_a is_b = absurd is_a
  same_dead one two (Some (Dead first second)) None is_a is_b = absurd is_b
  same_dead one two (Some (Dead first second)) (Some Live) is_a is_b = absurd is_b
  same_dead one two (Some (Dead first second)) (Some (Dead other_first other_second)) is_a is_b =
      let firsts : other_first ≡ first = same_set other_first first one is_b.one_as_said is_a.one_as_said in
      let seconds : second ≡ other_second =
      same_second one two first second other_second is_a
      (subst (λ f. HasMarks r members one two f other_second) firsts is_b) in
      cc

  same_taken : (own : Bool) (one two : ℕ → Bool) (a b : Option State) →
      MatchBool own (a ≡ None) (IsDead r members one two a) →
      MatchBool own (b ≡ None) (IsDead r members one two b) → a ≡ b
  same_taken true one two a b is_a is_b = is_a ∙ sym is_b
  same_taken false one two a b is_a is_b = same_dead one two a b is_a is_b

  -- where the peer has nothing
  same_inferred : (one two : ℕ) (a b : Option State) → Merges r members (Some (Dead one two)) None a →
      Merges r members (Some (Dead one two)) None b → a ≡ b
  same_inferred one two a b is_a is_b =
      elim (full_or_one_missing one members) [
        | inl full ↦ same_dead (has one) (everyone members) a b (is_a.0 full) (is_b.0 full)
        | inr missing ↦
            let not_full : IsFull one members → ⊥ = λ full. cc (full missing.0 missing.1, missing.2) in
            same_dead (has one) (has two) a b (is_a.1 not_full) (is_b.1 not_full)
      ]

  same_state : (mine theirs a b : Option State) → Merges r members mine theirs a →
      Merges r members mine theirs b → a ≡ b
  same_state None None a b is_a is_b = is_a ∙ sym is_b
  same_state None (Some Live) a b is_a is_b = is_a ∙ sym is_b
  same_state None (Some (Dead one two)) a b is_a is_b =
      same_taken (has one r) (with (has one) r) (has two) a b is_a is_b
  same_state (Some Live) None a b is_a is_b = is_a ∙ sym is_b
  same_state (Some Live) (Some Live) a b is_a is_b = is_a ∙ sym is_b
  same_state (Some Live) (Some (Dead one two)) a b is_a is_b = same_dead (with (has one) r) (has two) a b is_a is_b
  same_state (Some (Dead one two)) (Some Live) a b is_a is_b = same_dead (has one) (has two) a b is_a is_b
  same_state (Some (Dead one two)) (Some (Dead peers_one peers_two)) a b is_a is_b =
      same_dead (union (has one) (has peers_one)) (union (has two) (has peers_two)) a b is_a is_b
  same_state (Some (Dead one two)) None a b is_a is_b = same_inferred one two a b is_a is_b

  same_place : (mine theirs : Option Entry) (a b : Entry) → KeepsPlace mine theirs (Some a) →
      KeepsPlace mine theirs (Some b) → a.state ≡ b.state → a ≡ b
  same_place (Some mine) theirs a b is_a is_b states =
      is_a ∙ ap (λ state. record mine { state = state }) states ∙ sym is_b
  same_place None (Some theirs) a b is_a is_b states =
      is_a ∙ ap (λ state. record theirs { state = state }) states ∙ sym is_b
  same_place None None a b is_a is_b states = absurd is_a

  same_places : (mine theirs a b : Option Entry) → state_of a ≡ state_of b → KeepsPlace mine theirs a →
      KeepsPlace mine theirs b → a ≡ b
  same_places mine theirs None None states is_a is_b = refl
  same_places mine theirs None (Some b) states is_a is_b = cc
  same_places mine theirs (Some a) None states is_a is_b = cc
  same_places mine theirs (Some a) (Some b) states is_a is_b =
      ap Some (same_place mine theirs a b is_a is_b (same_Some a.state b.state states))

  -- the table says one thing of what stands at r and at the peer
  pub same_entry : (mine theirs a b : Option Entry) → MergesEntry r members mine theirs a →
      MergesEntry r members mine theirs b → a ≡ b
  same_entry mine theirs a b is_a is_b =
      same_places mine theirs a b
      (same_state (state_of mine) (state_of theirs) (state_of a) (state_of b) is_a.state is_b.state) is_a.place
      is_b.place

  same_inside : (mine theirs one other : List Entry) → MergesEntries r members mine theirs one →
      MergesEntries r members mine theirs other → (entry : Entry) → Contains one entry → Contains other entry
  same_inside mine theirs one other merges_one merges_other entry inside =
      let at_r = held_or_not (λ e. e.id) mine entry.id in
      let at_peer = held_or_not (λ e. e.id) theirs entry.id in
      let found = held_or_not (λ e. e.id) other entry.id in
      let row = merges_one.each entry.id at_r.0 at_peer.0 (Some entry) at_r.1 at_peer.1 (inside, refl) in
      let other_row = merges_other.each entry.id at_r.0 at_peer.0 found.0 at_r.1 at_peer.1 found.1 in
      let is : Some entry ≡ found.0 = same_entry at_r.0 at_peer.0 (Some entry) found.0 row other_row in
      (subst (HoldsUnder other entry.id) (sym is) found.1).0

  -- two lists have one merge
  pub same_merge : (mine theirs one other : List Entry) → IsRising one → IsRising other →
      MergesEntries r members mine theirs one → MergesEntries r members mine theirs other → one ≡ other
  same_merge mine theirs one other rising_one rising_other merges_one merges_other =
      same_items (λ e. e.id) one other rising_one rising_other (λ entry. (
        same_inside mine theirs one other merges_one merges_other entry,
        same_inside mine theirs other one merges_other merges_one entry,
      ))
