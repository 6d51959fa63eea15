-- What the merge table makes of entries that fit tables fits them too.
use Rattle.std.proofs.Common.{◌≡◌, ℕ, Bool, true, false, ◌==◌, List, Option, Some, None, IsTrue, MatchBool, IfSome, refl, sym, subst, ◌∙◌, inl, inr}
use Rattle.std.specs.Prelude.{All, Contains}
use Rattle.std.proofs.lemmas.Bool.{or_cases, or_left, and_parts, eqb-true, leb-true}
use Rattle.std.proofs.lemmas.List.Elements.{All-contains_itself, All-weaker}
use Rattle.std.proofs.lemmas.Option.{same_Some}
use Rattle.ficus_ids.specs.Marks.{has, HasMembersOnly}
use Rattle.ficus_ids.specs.MarksLaws.{full_or_one_missing}
use Rattle.ficus_ids.specs.Members.{IsMember}
use Rattle.ficus_ids.specs.RisingLaws.{held_or_not}
use Rattle.ficus_ids.specs.declared.id.Id.{Id}
use Rattle.ficus_entry.specs.declared.entry.Entry.{Entry}
use Rattle.ficus_entry.specs.declared.entry.State.{State}
use Rattle.ficus_entry.specs.declared.entry.State.TheVariants.{Live, Dead}
use Rattle.ficus_merge_entries.specs.Merge.{MergesEntries}
use Rattle.ficus_merge_entries.specs.Table.{everyone, with, union, HasMarks, IsDead, Merges, MergesEntry}
use Rattle.ficus_durable_state.specs.Saved.{IsEntryOfPast}
use Rattle.ficus_durable_state.specs.Tables.{FitsState, FitsAttic, FitsEntry}
use Rattle.ficus_durable_state.proofs.Held.{all_under}

module _ (r members : ℕ) (me : IsMember members r) where
  -- sets of members
  record OfMembers (set : ℕ → Bool) : Type 0 where
    each : (replica : ℕ) → IsTrue (set replica) → IsMember members replica

  of_everyone : OfMembers (everyone members)
  of_everyone = record {
    each = λ replica inside. let parts = and_parts _ _ inside in record { at_least = leb-true 1 replica parts.0; at_most = leb-true replica members parts.1 };
  }

  of_with : (set : ℕ → Bool) → OfMembers set → OfMembers (with set r)
  of_with set of = record {
    each = λ replica inside. elim (or_cases (set replica) (replica == r) inside) [
      | inl was ↦ of.each replica was
      | inr is ↦ subst (IsMember members) (sym (eqb-true replica r is)) me
    ];
  }

  of_union : (left right : ℕ → Bool) → OfMembers left → OfMembers right → OfMembers (union left right)
  of_union left right of_left of_right = record {
    each = λ replica inside. elim (or_cases (left replica) (right replica) inside) [
      | inl was ↦ of_left.each replica was
      | inr was ↦ of_right.each replica was
    ];
  }

  -- sets of members in which there is somebody
  record IsKnownBy (set : ℕ → Bool) : Type 0 where
    of : OfMembers set
    one : ℕ
    inside : IsTrue (set one)

  known_with : (set : ℕ → Bool) → IsKnownBy set → IsKnownBy (with set r)
  known_with set known = record { of = of_with set known.of; one = known.one; inside = or_left (set known.one) (known.one == r) known.inside }

  known_union : (left right : ℕ → Bool) → IsKnownBy left → IsKnownBy right → IsKnownBy (union left right)
  known_union left right known_left known_right = record {
    of = of_union left right known_left.of known_right.of;
    one = known_left.one;
    inside = or_left (left known_left.one) (right known_left.one) known_left.inside;
  }

  -- the sets of a dead state that fits
  known_one : (one two : ℕ) → FitsState members (Dead one two) → IsKnownBy (has one)
  known_one one two fits = record { of = record { each = fits.first }; one = fits.somebody; inside = fits.knows }

  of_two : (one two : ℕ) → FitsState members (Dead one two) → OfMembers (has two)
  of_two one two fits = record { each = fits.second }

  same_members : (marks : ℕ) (set : ℕ → Bool) → OfMembers set → ((replica : ℕ) → has marks replica ≡ set replica) →
      HasMembersOnly marks members
  same_members marks set of same replica inside = of.each replica (sym (same replica) ∙ inside)

  second_fits : (one two : ℕ → Bool) (first second : ℕ) → OfMembers two → HasMarks r members one two first second →
      HasMembersOnly second members
  second_fits one two first second of marks =
      elim (full_or_one_missing first members) [
        | inl full ↦ same_members second (with two r) (of_with two of) (marks.two_with_r full)
        | inr missing ↦ same_members second two of (marks.two_as_said (λ full. cc (full missing.0 missing.1, missing.2)))
      ]

  -- The state afterwards fits, and it is live only where the state of the entry that is kept was.
  record FitsAfter (kept after : State) : Type 0 where
    fits : FitsState members after
    live : after ≡ Live → kept ≡ Live

  fits_same : (kept after : State) → FitsState members kept → Some after ≡ Some kept → FitsAfter kept after
  fits_same kept after fits is =
      let same = same_Some after kept is in
      record { fits = subst (FitsState members) (sym same) fits; live = λ live. sym same ∙ live }

  fits_dead : (kept after : State) (one two : ℕ → Bool) → IsKnownBy one → OfMembers two →
      IsDead r members one two (Some after) → FitsAfter kept after
  fits_dead kept Live one two known of dead = absurd dead
  fits_dead kept (Dead first second) one two known of marks = record {
    fits = record {
      first = same_members first one known.of marks.one_as_said;
      second = second_fits one two first second of marks;
      somebody = known.one;
      knows = marks.one_as_said known.one ∙ known.inside;
    };
    live = λ live. cc;
  }

  fits_taken : (own : Bool) (kept after : State) (one two : ℕ → Bool) → IsKnownBy one → OfMembers two →
      MatchBool own (Some after ≡ None) (IsDead r members one two (Some after)) → FitsAfter kept after
  fits_taken true kept after one two known of none = cc
  fits_taken false kept after one two known of dead = fits_dead kept after one two known of dead

  -- where the peer has nothing
  fits_inferred : (one two : ℕ) (after : State) → FitsState members (Dead one two) →
      Merges r members (Some (Dead one two)) None (Some after) → FitsAfter (Dead one two) after
  fits_inferred one two after fits row =
      elim (full_or_one_missing one members) [
        | inl full ↦ fits_dead (Dead one two) after (has one) (everyone members) (known_one one two fits) of_everyone (row.0 full)
        | inr missing ↦ fits_dead (Dead one two) after (has one) (has two) (known_one one two fits)
            (of_two one two fits) (row.1 (λ full. cc (full missing.0 missing.1, missing.2)))
      ]

  fits_mine : (mine : State) (theirs : Option State) (after : State) → FitsState members mine →
      IfSome theirs (FitsState members) → Merges r members (Some mine) theirs (Some after) → FitsAfter mine after
  fits_mine Live None after fits fits_theirs row = fits_same Live after fits row
  fits_mine Live (Some Live) after fits fits_theirs row = fits_same Live after fits row
  fits_mine Live (Some (Dead one two)) after fits fits_theirs row =
      fits_dead Live after (with (has one) r) (has two) (known_with (has one) (known_one one two fits_theirs))
      (of_two one two fits_theirs) row
  fits_mine (Dead one two) None after fits fits_theirs row = fits_inferred one two after fits row
  fits_mine (Dead one two) (Some Live) after fits fits_theirs row =
      fits_dead (Dead one two) after (has one) (has two) (known_one one two fits) (of_two one two fits) row
  fits_mine (Dead one two) (Some (Dead peers_one peers_two)) after fits fits_theirs row =
      fits_dead (Dead one two) after (union (has one) (has peers_one)) (union (has two) (has peers_two))
      (known_union (has one) (has peers_one) (known_one one two fits) (known_one peers_one peers_two fits_theirs))
      (of_union (has two) (has peers_two) (of_two one two fits) (of_two peers_one peers_two fits_theirs))
      row

  fits_theirs : (theirs : State) (after : State) → FitsState members theirs →
      Merges r members None (Some theirs) (Some after) → FitsAfter theirs after
  fits_theirs Live after fits row = fits_same Live after fits row
  fits_theirs (Dead one two) after fits row =
      fits_taken (has one r) (Dead one two) after (with (has one) r) (has two) (known_with (has one) (known_one one two fits)) (of_two one two fits) row

  attic_after : (dir : Id) (kept after : State) → FitsAttic dir kept → (after ≡ Live → kept ≡ Live) →
      FitsAttic dir after
  attic_after dir kept Live fits live = subst (FitsAttic dir) (live refl) fits
  attic_after dir kept (Dead one two) fits live = tt

  -- an entry that is kept, in its new state
  tables_after : (kept after : Entry) → FitsEntry members kept → after ≡ record kept { state = after.state } →
      FitsAfter kept.state after.state → FitsEntry members after
  tables_after kept after fits is state =
      let P : Entry → Type 0 = FitsEntry members in
      subst P (sym is) (record {
        id = fits.id;
        dir = fits.dir;
        name = fits.name;
        target = fits.target;
        state = state.fits;
        attic = attic_after kept.dir kept.state after.state fits.attic state.live;
      })

  past_after : (next : ℕ) (kept after : Entry) → IsEntryOfPast r next kept →
      after ≡ record kept { state = after.state } → IsEntryOfPast r next after
  past_after next kept after past is =
      let P : Entry → Type 0 = IsEntryOfPast r next in
      subst P (sym is) (record { id = past.id; dir = past.dir; target = past.target })

  module _ (next : ℕ) where
    -- an entry of a replica's tables
    record FitsAsEntry (entry : Entry) : Type 0 where
      tables : FitsEntry members entry
      past : IsEntryOfPast r next entry

    replica_mine : (mine : Entry) (theirs : Option Entry) (after : Entry) → FitsAsEntry mine →
        IfSome theirs FitsAsEntry → MergesEntry r members (Some mine) theirs (Some after) → FitsAsEntry after
    replica_mine mine None after fits fits_other row = record {
      tables = tables_after mine after fits.tables row.place (fits_mine mine.state None after.state fits.tables.state tt row.state);
      past = past_after next mine after fits.past row.place;
    }
    replica_mine mine (Some theirs) after fits fits_other row = record {
      tables = tables_after mine after fits.tables row.place
          (fits_mine mine.state (Some theirs.state) after.state fits.tables.state fits_other.tables.state row.state);
      past = past_after next mine after fits.past row.place;
    }

    replica_after : (mine theirs : Option Entry) (after : Entry) → IfSome mine FitsAsEntry → IfSome theirs FitsAsEntry →
        MergesEntry r members mine theirs (Some after) → FitsAsEntry after
    replica_after (Some mine) theirs after fits fits_other row = replica_mine mine theirs after fits fits_other row
    replica_after None (Some theirs) after fits fits_other row = record {
      tables = tables_after theirs after fits_other.tables row.place (fits_theirs theirs.state after.state fits_other.tables.state row.state);
      past = past_after next theirs after fits_other.past row.place;
    }
    replica_after None None after fits fits_other row = absurd row.place

    merged_replica : (mine theirs merged : List Entry) → All FitsAsEntry mine → All FitsAsEntry theirs →
        MergesEntries r members mine theirs merged → All FitsAsEntry merged
    merged_replica mine theirs merged all_mine all_theirs merges =
        All-weaker (Contains merged) FitsAsEntry (λ entry inside.
        let at_r = held_or_not (λ (e : Entry). e.id) mine entry.id in
        let at_peer = held_or_not (λ (e : Entry). e.id) theirs entry.id in
        replica_after at_r.0 at_peer.0 entry
        (all_under FitsAsEntry (λ (e : Entry). e.id) mine entry.id at_r.0 all_mine at_r.1)
        (all_under FitsAsEntry (λ (e : Entry). e.id) theirs entry.id at_peer.0 all_theirs at_peer.1)
        (merges.each entry.id at_r.0 at_peer.0 (Some entry) at_r.1 at_peer.1 (inside, refl))) merged (All-contains_itself merged)

    replicas : (entries : List Entry) → All (FitsEntry members) entries → All (IsEntryOfPast r next) entries →
        All FitsAsEntry entries
    replicas entries tables past k d within = record { tables = tables k d within; past = past k d within }

    -- What the merge of tables that fit holds fits.
    pub merged_tables : (mine theirs merged : List Entry) → All (FitsEntry members) mine →
        All (IsEntryOfPast r next) mine → All (FitsEntry members) theirs → All (IsEntryOfPast r next) theirs →
        MergesEntries r members mine theirs merged → All (FitsEntry members) merged × All (IsEntryOfPast r next) merged
    merged_tables mine theirs merged tables past tables_theirs past_theirs merges =
        let all = merged_replica mine theirs merged (replicas mine tables past) (replicas theirs tables_theirs past_theirs) merges in
        (λ k d within. (all k d within).tables, λ k d within. (all k d within).past)
