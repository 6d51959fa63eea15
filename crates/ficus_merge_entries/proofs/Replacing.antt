-- What becomes of the taker's entries, and what the table says of it.
use Rattle.std.specs.Prelude.{All, length}
use Rattle.std.proofs.Common.{◌≡◌, ℕ, List, [], ◌∷◌, Option, Some, None, ◌∙◌, sym, ap, subst, refl}
use Rattle.std.specs.Option.{option_or}
use Rattle.std.proofs.lemmas.List.Elements.{All-contains}
use Rattle.ficus_ids.specs.declared.id.Id.{Id}
use Rattle.ficus_ids.specs.ListLaws.{not_inside_none}
use Rattle.ficus_ids.specs.RisingLaws.{held_or_not, one_held}
use Rattle.ficus_table.specs.Made.{IsMadeBy, HasId}
use Rattle.ficus_entry.specs.Entry.{IsRising, HoldsUnder, ReplacesEntries}
use Rattle.ficus_entry.specs.declared.entry.Entry.{Entry}
use Rattle.ficus_entry.specs.declared.entry.State.{State}
use Rattle.ficus_entry.specs.declared.entry.State.TheVariants.{Live}
use Rattle.ficus_merge_entries.specs.Merge.{MergesEntries, IsReplacement}
use Rattle.ficus_merge_entries.specs.Runs.{id_of}
use Rattle.ficus_merge_entries.specs.Table.{Merges, MergesEntry, state_of}

module _ (r members : ℕ) where
  -- of nothing the table makes nothing
  pub nothing_merges : MergesEntry r members None None None
  nothing_merges = record { state = refl; place = tt }

  -- what the table makes of entries with an identifier has it too
  pub after_has_id : (mine theirs after : Option Entry) (id : Id) → MergesEntry r members mine theirs after →
      HasId id_of id mine → HasId id_of id theirs → HasId id_of id after
  after_has_id mine theirs None id merges has_mine has_theirs = tt
  after_has_id (Some mine) theirs (Some after) id merges has_mine has_theirs =
      ap (λ (e : Entry). e.id) merges.place ∙ has_mine
  after_has_id None (Some theirs) (Some after) id merges has_mine has_theirs =
      ap (λ (e : Entry). e.id) merges.place ∙ has_theirs
  after_has_id None None (Some after) id merges has_mine has_theirs = absurd merges.place

  -- and so has a replacement
  pub replacement_has_id : (mine theirs replacement : Option Entry) → IsReplacement r members mine theirs replacement → (id : Id) →
      HasId id_of id mine → HasId id_of id theirs → HasId id_of id replacement
  replacement_has_id mine theirs None replacements id has_mine has_theirs = tt
  replacement_has_id mine theirs (Some replacement) replacements id has_mine has_theirs =
      after_has_id mine theirs (Some replacement) id replacements has_mine has_theirs

  -- what lives at both stays as it stands
  pub live_stays : (mine theirs : Option Entry) → state_of mine ≡ Some Live → state_of theirs ≡ Some Live →
      IsReplacement r members mine theirs None
  live_stays None theirs live also = cc
  live_stays (Some mine) theirs live also = record {
    state = subst (λ (s : Option State). Merges r members s (state_of theirs) s) (sym live)
        (subst (λ (s : Option State). Merges r members (Some Live) s (Some Live)) (sym also) refl);
    place = refl;
  }

  -- what lives at the peer alone is taken as it is
  pub new_stays : (mine theirs : Option Entry) (entry : Entry) → mine ≡ None → theirs ≡ Some entry →
      entry.state ≡ Live → IsReplacement r members mine theirs (Some entry)
  new_stays None (Some theirs) entry none is live = rw is (record {
    state = subst (λ (s : State). Merges r members None (Some s) (Some s)) (sym live) refl;
    place = refl;
  })
  new_stays None None entry none is live = cc
  new_stays (Some mine) theirs entry none is live = cc

  -- where nothing stands at r and none of the peer's is removed, these are taken as they are
  pub all_new_merges : (mine theirs : List Entry) → length mine ≡ 0 → IsRising theirs →
      All (λ entry. entry.state ≡ Live) theirs → MergesEntries r members mine theirs theirs
  all_new_merges [] theirs none rising live = record { each = each }
    where
      taken : (at_peer after : Option Entry) → after ≡ at_peer →
          ((entry : Entry) → at_peer ≡ Some entry → entry.state ≡ Live) → MergesEntry r members None at_peer after
      taken None after same lives = subst (MergesEntry r members None None) (sym same) nothing_merges
      taken (Some entry) after same lives =
          subst (MergesEntry r members None (Some entry)) (sym same)
          (new_stays None (Some entry) entry refl refl (lives entry refl))

      lives : (id : Id) (at_peer : Option Entry) → HoldsUnder theirs id at_peer → (entry : Entry) →
          at_peer ≡ Some entry → entry.state ≡ Live
      lives id (Some item) there entry same =
          let is : item ≡ entry = cc same in
          subst (λ (e : Entry). e.state ≡ Live) is
          (All-contains (λ (e : Entry). e.state ≡ Live) theirs item live there.0)
      lives id None there entry same = absurd (cc same)

      each : (id : Id) (at_r at_peer after : Option Entry) → HoldsUnder [] id at_r → HoldsUnder theirs id at_peer →
          HoldsUnder theirs id after → MergesEntry r members at_r at_peer after
      each id None at_peer after here there now =
          taken at_peer after (one_held id_of theirs id after at_peer rising now there) (lives id at_peer there)
      each id (Some item) at_peer after here there now = absurd (not_inside_none item here.0)
  all_new_merges (entry ∷ mine) theirs none rising live = absurd (cc)

  -- the replacements in place of what stood there are what the table says
  pub replaced_merges : (mine theirs replacements merged : List Entry) →
      IsMadeBy (λ (e : Entry). e.id) (IsReplacement r members) mine theirs replacements → ReplacesEntries mine replacements merged →
      MergesEntries r members mine theirs merged
  replaced_merges mine theirs replacements merged made replaces = record {
    each = λ id at_r at_peer after mine_holds theirs_holds merged_holds.
        let replacement = held_or_not (λ (e : Entry). e.id) replacements id in
        let is : after ≡ option_or replacement.0 at_r =
        replaces.each id at_r replacement.0 after mine_holds replacement.1 merged_holds in
        rw is (made.each id at_r at_peer replacement.0 mine_holds theirs_holds replacement.1);
  }
