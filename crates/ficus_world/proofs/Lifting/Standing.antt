-- A world stands for one of the model, also after each event, and after a save that failed.
use Rattle.std.proofs.Common.{◌≡◌, ◌≢◌, ℕ, ◌+◌, ◌-◌, ◌≤◌, Bool, true, List, [], ◌∷◌, ◌++◌, length, Some, None, refl, sym, ap, subst, ◌∙◌, inl, inr, ◌⊎◌, arith}
use Rattle.std.specs.Prelude.{slice_set}
use Rattle.std.proofs.lemmas.List.{length-set, length_push}
use Rattle.ficus_ids.specs.Members.{IsMember}
use Rattle.ficus_model.specs.declared.event.Event.{Event}
use Rattle.ficus_model.specs.declared.event.Event.TheVariants.{Restart, Serve, Take}
use Rattle.ficus_model.specs.Events.{IsAt, actor, raised, through, traits}
use Rattle.ficus_model.specs.Lawful.{Volume, IsLawful, MayCome}
use Rattle.ficus_laws.proofs.Lawful.{lawful_more}
use Rattle.ficus_laws.proofs.Positions.{at_cases, at_within}
use Rattle.ficus_replica.specs.declared.replica.Replica.{Replica}
use Rattle.ficus_replica.specs.SavedOf.{IsSavedOf, StandsFor, StandsAfter}
use Rattle.ficus_replica.proofs.Events.{quiet_stands, restart_stands}
use Rattle.ficus_replica.proofs.OpenAsks.{through_end, through_more}
use Rattle.ficus_replica.proofs.Saves.{saved_once}
use Rattle.ficus_durable_state.specs.Tables.{FitsTables}
use Rattle.ficus_durable_state.specs.declared.saved.Saved.{Saved}
use Rattle.ficus_wire.specs.Parts.{HeldParts}
use Rattle.ficus_wire.specs.declared.message.Message.{Message}
use Rattle.ficus_runs.specs.Actions.{with_event, with_post, with_standing, down_from, restarted as restarted_model}
use Rattle.ficus_runs.specs.Exchange.{IsServedNow, Served, behind}
use Rattle.ficus_runs.specs.Message.{IsMessageAt, IsSpelled}
use Rattle.ficus_runs.specs.ModelWorld.{ModelWorld, Standing, IsUp}
use Rattle.ficus_runs.specs.ModelWorld as model
use Rattle.ficus_runs.specs.Numbered.{IsNumbered}
use Rattle.ficus_runs.specs.RunWorld.{IsNoServe, IsRunWorld}
use Rattle.ficus_opening.specs.declared.member.Member.{Member}
use Rattle.ficus_opening.specs.declared.member.MemberState.TheVariants as state
use Rattle.ficus_opening.specs.declared.member.Pending.{Pending}
use Rattle.ficus_world.specs.Moves.{advanced, gathered, downed, parts_after, pending_of, restarted, still_pending, with_event as event_in, with_member, with_post as post_in}
use Rattle.ficus_world.specs.declared.post.Behind.{Behind}
use Rattle.ficus_world.specs.Post.{Outbox, IsSent, HasFailed, lies_behind}
use Rattle.ficus_world.specs.World.{Whole, AreOthers, IsPendingFor, FitsServed, PartsStandFor, StateStandsFor, MemberStandsFor, IsPosted, WorldStandsFor}
use Rattle.ficus_world.proofs.Lifting.LastPart.{length_part, part_more}
use Rattle.ficus_runs.proofs.Messages.{message_more}
use Rattle.ficus_runs.proofs.Numbers.{number_exists, number_end, number_more, number_cases}
use Rattle.ficus_runs.proofs.Runs.{world_kept}
use Rattle.ficus_world.proofs.Lifting.Parts.{others_leave_taken, parts_after_saved, parts_ended, parts_left, saved_serves_none, serve_leaves}
use Rattle.ficus_world.proofs.Lifting.Pending.{comes_now, down_stands, modelled_up, others_leave, state_later, state_up, up_stands}
use Rattle.ficus_runs.proofs.Replaced.{replaced}
use Rattle.ficus_world.proofs.Lifting.Sets.{number_set, set_again, set_same}

-- the member that restarts, with what was pending
abbrev pub found_member : Member → Pending → Member
found_member was pending =
    record was { replica = pending.replica; state = state.Up; parts = parts_after pending.event was.parts }

module _ (volume : Volume) (W : ModelWorld) (old : Whole) (stands : WorldStandsFor volume W old) where
  pub member_of : (r : ℕ) → IsMember (length old.members) r → IsMember volume.members r
  member_of r member = subst (λ n. IsMember n r) stands.members member

  pub member_from : (r : ℕ) → IsMember volume.members r → IsMember (length old.members) r
  member_from r member = subst (λ n. IsMember n r) (sym stands.members) member

  -- where a stored event is raised by the events before the stored ones
  abbrev pub raise : ℕ
  raise = length stands.stored.earlier

  pub raised_length : length old.events + raise ≡ length W.events
  raised_length = omega (arith, length_part old.events W.events stands.stored)

  -- each member has a standing, and its disks are said to have fuses or not
  pub standing_of : (r : ℕ) → IsMember (length old.members) r
      → (standing : Standing) × IsNumbered W.standings r standing
  standing_of r member =
      number_exists W.standings r (subst (λ n. IsMember n r) (sym stands.standings) (member_of r member))

  pub fuses_of : (r : ℕ) → IsMember (length old.members) r → (fused : Bool) × IsNumbered W.fused r fused
  fuses_of r member =
      number_exists W.fused r (subst (λ n. IsMember n r) (sym stands.fuses) (member_of r member))

  module _ (r : ℕ) (member : Member) (is : IsNumbered old.members r member) where
    pub member_stands : (modelled : Standing) → IsNumbered W.standings r modelled
        → StateStandsFor volume W.events raise r member.state modelled
    member_stands modelled standing =
        let fused = fuses_of r is.member in
        (stands.each r member modelled fused.0 is standing fused.1).state

    pub replica_stands : StandsFor volume W.events r member.replica
    replica_stands =
        let standing = standing_of r is.member in
        let fused = fuses_of r is.member in
        (stands.each r member standing.0 fused.0 is standing.1 fused.1).replica

    pub parts_stand : PartsStandFor volume W.events r member.parts
    parts_stand =
        let standing = standing_of r is.member in
        let fused = fuses_of r is.member in
        (stands.each r member standing.0 fused.0 is standing.1 fused.1).parts

    pub fuses_stand : (fused : Bool) → IsNumbered W.fused r fused → member.fused ≡ fused
    fuses_stand fused at =
        let standing = standing_of r is.member in
        (stands.each r member standing.0 fused is standing.1 at).fuses

    -- a member is up in the code where it is in the model
    pub up_in : member.state ≡ state.Up → IsUp r W
    up_in up =
        let standing = standing_of r is.member in
        subst (IsNumbered W.standings r)
        (modelled_up volume W.events raise r member.state standing.0 (member_stands standing.0 standing.1) up)
        standing.1

    pub up_from : IsUp r W → member.state ≡ state.Up
    up_from up = state_up volume W.events raise r member.state model.Up (member_stands model.Up up) refl

  -- one event more leaves each posted message as it is
  posted_more : (standings : List Standing) (event : Event) (number position index : ℕ) (bytes : List ℕ)
      → IsPosted volume W number position index bytes
      → IsPosted volume (record (with_event W event) { standings = standings }) number position index bytes
  posted_more standings event number position index bytes posted = record {
    numbered = posted.numbered;
    message = posted.message;
    is = message_more volume W.events event position index posted.message posted.is;
    spelled = posted.spelled;
  }

  posted_same : (standings : List Standing) (number position index : ℕ) (bytes : List ℕ)
      → IsPosted volume W number position index bytes
      → IsPosted volume (record W { standings = standings }) number position index bytes
  posted_same standings number position index bytes posted = record {
    numbered = posted.numbered;
    message = posted.message;
    is = posted.is;
    spelled = posted.spelled;
  }

  -- what is served is what fits, also with one event more
  module _ (event : Event) (fit : (server ask state pieces : ℕ) (saved : Saved)
      → event ≡ Serve server ask state pieces → IsSavedOf volume (W.events ++ event ∷ []) server saved
      → FitsTables volume.members saved.entries saved.files) where
    fits_case : (position server ask state pieces : ℕ) (saved : Saved) → W.earlier ≤ position
        → IsAt W.events position (Serve server ask state pieces)
        ⊎ ((position ≡ length W.events) × (Serve server ask state pieces ≡ event))
        → IsSavedOf volume (through position (W.events ++ event ∷ [])) server saved
        → FitsTables volume.members saved.entries saved.files
    fits_case position server ask state pieces saved since (inl was) is =
        stands.served position server ask state pieces saved since was
        (subst (λ K. IsSavedOf volume K server saved) (sym (through_more W.events event position (at_within was))) is)
    fits_case position server ask state pieces saved since (inr (end, same)) is =
        fit server ask state pieces saved (sym same)
        (subst (λ K. IsSavedOf volume K server saved)
        (ap (λ n. through n (W.events ++ event ∷ [])) end ∙ through_end W.events event) is)

    fits_more : FitsServed volume (with_event W event)
    fits_more position server ask state pieces saved since at is =
        fits_case position server ask state pieces saved since (at_cases event at) is

  fits_other : (event : Event) → IsNoServe event → FitsServed volume (with_event W event)
  fits_other event none =
      fits_more event (λ server ask state pieces saved same is.
      absurd (let serves : Some ask ≡ None = subst IsNoServe same none in cc))

  -- how each member stands after these events, where these standings are the model's
  abbrev EachStands : List Event → List Member → List Standing → Type 0
  EachStands H members standings =
      (r : ℕ) (member : Member) (modelled : Standing) (fused : Bool) → IsNumbered members r member
      → IsNumbered standings r modelled → IsNumbered W.fused r fused
      → MemberStandsFor volume H raise r member modelled fused

  -- an event happens, and the members stand for what has happened then
  next_stands : (stored event : Event) → raised raise stored ≡ event → MayCome volume W.events event
      → (members : List Member) (standings : List Standing)
      → IsRunWorld volume (record (with_event W event) { standings = standings })
      → FitsServed volume (with_event W event) → length members ≡ length old.members
      → length standings ≡ length W.standings → EachStands (W.events ++ event ∷ []) members standings
      → WorldStandsFor volume (record (with_event W event) { standings = standings })
      (record old { members = members; events = old.events ++ stored ∷ [] })
  next_stands stored event raises may members standings run fits count count_too each = record {
    count = stands.count;
    members = count ∙ stands.members;
    standings = count_too ∙ stands.standings;
    fuses = stands.fuses;
    lawful = lawful_more volume W.events event stands.lawful may;
    stored = record {
      earlier = stands.stored.earlier;
      is = part_more old.events W.events stands.stored stored event raises;
    };
    began = stands.began;
    each = each;
    run = run;
    served = fits;
    total = stands.total;
    posted = stands.posted;
    counted = stands.counted;
    mail = λ number place bytes behind posts.
        posted_more standings event number (place.position + raise) place.index bytes
        (stands.mail number place bytes behind posts);
  }

  -- nothing happens, and the members stand for what has happened
  same_stands : (members : List Member) (standings : List Standing)
      → IsRunWorld volume (record W { standings = standings }) → length members ≡ length old.members
      → length standings ≡ length W.standings → EachStands W.events members standings
      → WorldStandsFor volume (record W { standings = standings }) (record old { members = members })
  same_stands members standings run count count_too each = record {
    count = stands.count;
    members = count ∙ stands.members;
    standings = count_too ∙ stands.standings;
    fuses = stands.fuses;
    lawful = stands.lawful;
    stored = stands.stored;
    began = stands.began;
    each = each;
    run = run;
    served = stands.served;
    total = stands.total;
    posted = stands.posted;
    counted = stands.counted;
    mail = λ number place bytes behind posts.
        posted_same standings number (place.position + raise) place.index bytes
        (stands.mail number place bytes behind posts);
  }

  -- what another member does leaves a member as it is
  others_stand : (event : Event) (r : ℕ) (member : Member) (modelled : Standing) (fused : Bool) → actor event ≢ r
      → MemberStandsFor volume W.events raise r member modelled fused
      → MemberStandsFor volume (W.events ++ event ∷ []) raise r member modelled fused
  others_stand event r member modelled fused other is = record {
    replica = quiet_stands volume W.events r member.replica event is.replica (inl other);
    parts = parts_left W.events event r volume (others_leave_taken r event other) member.parts is.parts;
    state = state_later volume W.events raise r event other member.state modelled is.state;
    fuses = is.fuses;
  }

  -- one member is another one now, which stands so
  module _ (r : ℕ) (was new : Member) (is : IsNumbered old.members r was) (standing : Standing)
      (unserved : (event : Event) → standing ≡ model.Down (Some event)
      → IsNoServe event ⊎ IsNumbered W.standings r (model.Down (Some event)))
      (fuses : new.fused ≡ was.fused) where
    abbrev members_with : List Member
    members_with = slice_set old.members (r - 1) new

    abbrev standings_with : List Standing
    standings_with = slice_set W.standings (r - 1) standing

    module _ (H : List Event) (replica : StandsFor volume H r new.replica) (parts : PartsStandFor volume H r new.parts)
        (state_is : StateStandsFor volume H raise r new.state standing)
        (others : (q : ℕ) (member : Member) (modelled : Standing) (fused : Bool) → r ≢ q
        → MemberStandsFor volume W.events raise q member modelled fused
        → MemberStandsFor volume H raise q member modelled fused) where
      each_with : (q : ℕ) (member : Member) (modelled : Standing) (fused : Bool)
          → ((q ≡ r) × (member ≡ new)) ⊎ ((r ≢ q) × IsNumbered old.members q member)
          → ((q ≡ r) × (modelled ≡ standing)) ⊎ ((r ≢ q) × IsNumbered W.standings q modelled)
          → IsNumbered W.fused q fused → MemberStandsFor volume H raise q member modelled fused
      each_with q member modelled fused (inl (here, swapped)) (inl (also, stood)) at =
          subst (λ n. MemberStandsFor volume H raise n member modelled fused) (sym here)
          (subst (λ (m : Member). MemberStandsFor volume H raise r m modelled fused) (sym swapped)
          (subst (λ (s : Standing). MemberStandsFor volume H raise r new s fused) (sym stood) (record {
            replica = replica;
            parts = parts;
            state = state_is;
            fuses = fuses ∙ fuses_stand r was is fused (subst (λ n. IsNumbered W.fused n fused) here at);
          })))
      each_with q member modelled fused (inr (differs, kept)) (inr (too, stood)) at =
          others q member modelled fused differs (stands.each q member modelled fused kept stood at)
      each_with q member modelled fused (inl (here, swapped)) (inr (differs, stood)) at = absurd (differs (sym here))
      each_with q member modelled fused (inr (differs, kept)) (inl (here, stood)) at = absurd (differs (sym here))

      each_replaced : EachStands H members_with standings_with
      each_replaced q member modelled fused found stood at =
          each_with q member modelled fused (replaced old.members r q new member is.member.at_least found)
          (replaced W.standings r q standing modelled is.member.at_least stood) at

    -- an event of its own happens
    pub changed_stands : (stored event : Event) → raised raise stored ≡ event → MayCome volume W.events event
        → IsRunWorld volume (with_event W event) → FitsServed volume (with_event W event) → actor event ≡ r
        → StandsFor volume (W.events ++ event ∷ []) r new.replica
        → PartsStandFor volume (W.events ++ event ∷ []) r new.parts
        → StateStandsFor volume (W.events ++ event ∷ []) raise r new.state standing
        → WorldStandsFor volume (with_standing (with_event W event) r standing)
        (event_in (with_member old r new) stored)
    changed_stands stored event raises may run fits own replica parts state_is =
        next_stands stored event raises may members_with standings_with
        ((world_kept volume).standing (with_event W event) r standing unserved run) fits
        (length-set old.members (r - 1) new)
        (length-set W.standings (r - 1) standing)
        (each_replaced (W.events ++ event ∷ []) replica parts state_is
        (λ q member modelled fused differs here.
        others_stand event q member modelled fused (λ same. differs (sym own ∙ same)) here))

    -- its state changes
    pub stood_stands : StandsFor volume W.events r new.replica → PartsStandFor volume W.events r new.parts
        → StateStandsFor volume W.events raise r new.state standing
        → WorldStandsFor volume (with_standing W r standing) (with_member old r new)
    stood_stands replica parts state_is =
        same_stands members_with standings_with ((world_kept volume).standing W r standing unserved stands.run)
        (length-set old.members (r - 1) new) (length-set W.standings (r - 1) standing)
        (each_replaced W.events replica parts state_is (λ q member modelled fused differs here. here))

  -- a member that is up has nothing pending
  none_unserved : (r : ℕ) (event : Event) → model.Up ≡ model.Down (Some event)
      → IsNoServe event ⊎ IsNumbered W.standings r (model.Down (Some event))
  none_unserved r event is = absurd (cc)

  -- an event that is saved leaves the world one of a run
  saved_runs : (event : Event) → (traits event).saves ≡ true → MayCome volume W.events event
      → IsRunWorld volume (with_event W event)
  saved_runs event saves may = (world_kept volume).other W event (saved_serves_none event saves) may stands.run

  -- a member that is up changes with an event of its own, which it saves
  module _ (r : ℕ) (was : Member) (next : Replica) (is : IsNumbered old.members r was) (up : was.state ≡ state.Up)
      (stored event : Event) (raises : raised raise stored ≡ event) (own : actor event ≡ r)
      (saves : (traits event).saves ≡ true) where
    -- whatever others do meanwhile, it may come, and the member is this one then
    abbrev pub Comes : Type 0
    Comes =
        (later : List Event) → AreOthers r later → IsLawful volume (W.events ++ later)
        → StandsFor volume (W.events ++ later) r was.replica → StandsAfter volume (W.events ++ later) r event next

    waits : Comes → IsPendingFor volume W.events raise r (pending_of next stored) event
    waits comes = record {
      raises = raises;
      own = own;
      saves = saves;
      follows = λ later others lawful.
          comes later others lawful
          (others_leave volume W.events r was.replica later others (replica_stands r was is));
    }

    -- it is saved
    pub saved_stands : Comes → WorldStandsFor volume (with_event W event) (advanced old r was next stored)
    saved_stands comes =
        let now = comes_now volume W.events raise r (pending_of next stored) event stands.lawful (waits comes) in
        subst (λ list. WorldStandsFor volume (record (with_event W event) { standings = list })
        (advanced old r was next stored)) (set_same W.standings r model.Up (up_in r was is up))
        (changed_stands r was (record was { replica = next; parts = parts_after stored was.parts }) is model.Up
        (none_unserved r) refl stored event raises now.lawful (saved_runs event saves now.lawful)
        (fits_other event (saved_serves_none event saves)) own now.stands
        (parts_after_saved volume W.events raise r was.parts (parts_stand r was is) stored event raises own saves)
        (up_stands volume (W.events ++ event ∷ []) raise r was.state up))

    -- its save fails
    pub unsaved_stands : Comes → WorldStandsFor volume (with_standing W r (model.Down (Some event)))
        (downed old r was (Some (pending_of next stored)))
    unsaved_stands comes =
        stood_stands r was (record was { state = state.Down (Some (pending_of next stored)) }) is
        (model.Down (Some event))
        (λ other same. let is_it : event ≡ other = cc in inl (subst IsNoServe is_it (saved_serves_none event saves))) refl
        (replica_stands r was is) (parts_stand r was is) (waits comes)

  -- what is pending was so before
  was_pending : (r : ℕ) (standing : Standing) → IsNumbered W.standings r standing → (event : Event)
      → down_from standing ≡ model.Down (Some event)
      → IsNoServe event ⊎ IsNumbered W.standings r (model.Down (Some event))
  was_pending r model.Up at event is = absurd (cc)
  was_pending r (model.Down pending) at event is = inr (subst (λ (s : Standing). IsNumbered W.standings r s) is at)

  -- the disks of a member fail as they are opened
  pub unopened_stands : (r : ℕ) (was : Member) (standing : Standing) → IsNumbered old.members r was
      → IsNumbered W.standings r standing → WorldStandsFor volume (with_standing W r (down_from standing))
      (downed old r was (still_pending was.state))
  unopened_stands r was standing is at =
      stood_stands r was (record was { state = state.Down (still_pending was.state) }) is (down_from standing)
      (was_pending r standing at) refl (replica_stands r was is) (parts_stand r was is)
      (down_stands volume W.events raise r was.state standing (member_stands r was is standing at))

  -- a member restarts with what it has saved
  pub reopened_stands : (r : ℕ) (was : Member) → IsNumbered old.members r was → (read : Saved)
      → read ≡ was.replica.saved → WorldStandsFor volume (restarted_model W r None)
      (event_in (with_member old r (restarted was read)) (Restart r))
  reopened_stands r was is read same =
      changed_stands r was (restarted was read) is model.Up (none_unserved r) refl (Restart r) (Restart r) refl
      (member_of r is.member) ((world_kept volume).other W (Restart r) refl (member_of r is.member) stands.run) (fits_other (Restart r) refl)
      refl
      (restart_stands volume W.events r was.replica.saved (restarted was read).replica (replica_stands r was is).saved
      same refl) (parts_ended W.events (Restart r) r volume refl) tt

  -- what is pending at a member comes, and it is up
  pub found_stands : (r : ℕ) (was : Member) → IsNumbered old.members r was → (pending : Pending) (waits : Event)
      → IsPendingFor volume W.events raise r pending waits
      → WorldStandsFor volume (with_standing (with_event W waits) r model.Up)
      (event_in (with_member old r (found_member was pending)) pending.event)
  found_stands r was is pending waits waiting =
      let now = comes_now volume W.events raise r pending waits stands.lawful waiting in
      changed_stands r was (found_member was pending) is model.Up (none_unserved r) refl pending.event waits
      waiting.raises
      now.lawful (saved_runs waits waiting.saves now.lawful)
      (fits_other waits (saved_serves_none waits waiting.saves)) waiting.own now.stands
      (parts_after_saved volume W.events raise r was.parts (parts_stand r was is) pending.event waits waiting.raises
      waiting.own waiting.saves) tt

  -- a member that is up takes a piece of an answer
  pub piece_stands : (r place position index : ℕ) (was : Member) (parts : HeldParts) → IsNumbered old.members r was
      → was.state ≡ state.Up → place + raise ≡ position → MayCome volume W.events (Take r position index)
      → PartsStandFor volume (W.events ++ Take r position index ∷ []) r (Some parts)
      → WorldStandsFor volume (with_event W (Take r position index)) (gathered old r was parts (Take r place index))
  piece_stands r place position index was parts is up raises may parts_are =
      let take = Take r position index in
      subst (λ list. WorldStandsFor volume (record (with_event W take) { standings = list })
      (gathered old r was parts (Take r place index))) (set_same W.standings r model.Up (up_in r was is up))
      (changed_stands r was (record was { parts = Some parts }) is model.Up (none_unserved r) refl (Take r place index)
      take (ap (λ n. Take r n index) raises) may ((world_kept volume).other W take refl may stands.run)
      (fits_other take refl) refl (quiet_stands volume W.events r was.replica take (replica_stands r was is) (inr tt))
      parts_are (up_stands volume (W.events ++ take ∷ []) raise r was.state up))

  -- a member serves what it holds
  pub served_stands : (to position : ℕ) (stored : Event) (peer : Member) (served : Served)
      → IsNumbered old.members to peer → peer.state ≡ state.Up
      → raised raise stored ≡ Serve to position served.state (length served.messages)
      → IsServedNow volume W.events to position served
      → FitsTables volume.members peer.replica.saved.entries peer.replica.saved.files
      → WorldStandsFor volume (with_event W (Serve to position served.state (length served.messages)))
      (event_in old stored)
  served_stands to position stored peer served is up raises now fits =
      let serve = Serve to position served.state (length served.messages) in
      let here = quiet_stands volume W.events to peer.replica serve (replica_stands to peer is) (inr tt) in
      let changed = changed_stands to peer peer is model.Up (none_unserved to) refl stored serve raises now.may
      ((world_kept volume).serve W to position served now stands.run)
      (fits_more serve (λ server ask state pieces saved same is_too.
      let servers : to ≡ server = cc in
      let one = saved_once here.saved (subst (λ n. IsSavedOf volume (W.events ++ serve ∷ []) n saved) (sym servers) is_too) in
      subst (λ (s : Saved). FitsTables volume.members s.entries s.files) one fits)) refl here
      (parts_left W.events serve to volume (serve_leaves to to position served.state (length served.messages)) peer.parts
      (parts_stand to peer is))
      (up_stands volume (W.events ++ serve ∷ []) raise to peer.state up) in
      subst (λ list. WorldStandsFor volume (with_event W serve) (record (event_in old stored) { members = list }))
      (set_same old.members to peer is)
      (subst (λ list. WorldStandsFor volume (record (with_event W serve) { standings = list })
      (record (event_in old stored) { members = slice_set old.members (to - 1) peer }))
      (set_same W.standings to model.Up (up_in to peer is up)) changed)

  -- what was posted changes alone
  posted_stands : (posted : List model.Posted) (total : ℕ) (post : Outbox)
      → IsRunWorld volume (record W { posted = posted; total = total }) → post.total ≡ total
      → length posted ≡ length post.behind → length post.posts ≡ length post.behind
      → ((number : ℕ) (place : Behind) (bytes : List ℕ) → IsNumbered post.behind number place
      → IsNumbered post.posts number bytes
      → IsPosted volume (record W { posted = posted; total = total }) number (place.position + raise) place.index bytes)
      → WorldStandsFor volume (record W { posted = posted; total = total }) (post_in old post)
  posted_stands posted total post run total_is posted_as_many counted mail = record {
    count = stands.count;
    members = stands.members;
    standings = stands.standings;
    fuses = stands.fuses;
    lawful = stands.lawful;
    stored = stands.stored;
    began = stands.began;
    each = stands.each;
    run = run;
    served = stands.served;
    total = total_is;
    posted = posted_as_many;
    counted = counted;
    mail = mail;
  }

  -- the link fails
  pub failed_stands : (post : Outbox) → HasFailed old.post post → WorldStandsFor volume W (post_in old post)
  failed_stands post failed =
      subst (λ (p : Outbox). WorldStandsFor volume W (post_in old p)) (sym failed.same)
      (posted_stands W.posted W.total (record old.post { faults = post.faults }) stands.run stands.total stands.posted
      stands.counted stands.mail)

  -- the message behind a position is posted
  module _ {tells : Type 0} (told : tells) (place index position size : ℕ) (bytes : List ℕ) (number : ℕ) (post : Outbox)
      (sent : IsSent tells old.post (lies_behind place index) bytes number post) (raises : place + raise ≡ position)
      (message : Message) (at : IsMessageAt volume W.events position index message) (spelled : IsSpelled volume.members bytes message)
      (sized : length bytes ≡ size) where
    abbrev world_after : ModelWorld
    world_after = with_post W (behind position index) size

    still_posted : (n where_to found_index : ℕ) (found : List ℕ) → IsPosted volume W n where_to found_index found
        → IsPosted volume world_after n where_to found_index found
    still_posted n where_to found_index found posted = record {
      numbered = number_more W.posted (behind position index) posted.numbered;
      message = posted.message;
      is = posted.is;
      spelled = posted.spelled;
    }

    newly_posted : IsPosted volume world_after (length old.post.behind + 1) (place + raise) index bytes
    newly_posted = record {
      numbered =
          subst (λ n. IsNumbered world_after.posted (n + 1) (behind (place + raise) index)) stands.posted
          (subst (λ p. IsNumbered world_after.posted (length W.posted + 1) (behind p index)) (sym raises)
          (number_end W.posted (behind position index)));
      message = message;
      is = subst (λ p. IsMessageAt volume W.events p index message) (sym raises) at;
      spelled = spelled;
    }

    mail_posted : (n : ℕ) (found_place : Behind) (found : List ℕ)
        → IsNumbered old.post.behind n found_place
        ⊎ ((n ≡ length old.post.behind + 1) × (found_place ≡ lies_behind place index))
        → IsNumbered old.post.posts n found ⊎ ((n ≡ length old.post.posts + 1) × (found ≡ bytes))
        → IsPosted volume world_after n (found_place.position + raise) found_place.index found
    mail_posted n found_place found (inl before) (inl post) =
        still_posted n (found_place.position + raise) found_place.index found (stands.mail n found_place found before post)
    mail_posted n found_place found (inr last) (inr post) =
        subst (λ k. IsPosted volume world_after k (found_place.position + raise) found_place.index found) (sym last.0)
        (subst (λ (p : Behind). IsPosted volume world_after (length old.post.behind + 1) (p.position + raise) p.index found)
        (sym last.1)
        (subst (IsPosted volume world_after (length old.post.behind + 1) (place + raise) index) (sym post.1)
        newly_posted))
    mail_posted n found_place found (inl before) (inr post) =
        absurd (omega (arith, before.member.at_most, post.0, stands.counted))
    mail_posted n found_place found (inr last) (inl post) =
        absurd (omega (arith, post.member.at_most, last.0, stands.counted))

    pub sent_stands : WorldStandsFor volume world_after (post_in old post)
    sent_stands =
        posted_stands world_after.posted world_after.total post
        ((world_kept volume).post W (behind position index) size stands.run)
        (omega (arith, stands.total, sent.total, sized))
        (omega (
          arith,
          length_push W.posted (behind position index),
          length_push old.post.behind (lies_behind place index),
          ap (λ (list : List Behind). length list) sent.behind_is,
          stands.posted,
        ))
        (omega (
          arith,
          sent.counted,
          length_push old.post.behind (lies_behind place index),
          ap (λ (list : List Behind). length list) sent.behind_is,
          stands.counted,
        ))
        (λ n found_place found before posts.
        mail_posted n found_place found
        (number_cases old.post.behind (lies_behind place index)
        (subst (λ list. IsNumbered list n found_place) sent.behind_is before))
        (number_cases old.post.posts bytes (subst (λ list. IsNumbered list n found) (sent.told told) posts)))

-- a member restarts with what was pending
module _ (volume : Volume) (W : ModelWorld) (old : Whole) (stands : WorldStandsFor volume W old) (r : ℕ) (was : Member)
    (is : IsNumbered old.members r was) (pending : Pending) (waits : Event)
    (waiting : IsPendingFor volume W.events (raise volume W old stands) r pending waits) where
  abbrev found : Member
  found = found_member was pending

  abbrev found_model : ModelWorld
  found_model = with_standing (with_event W waits) r model.Up

  abbrev found_world : Whole
  found_world = event_in (with_member old r found) pending.event

  here : IsNumbered found_world.members r found
  here = number_set old.members r was found is

  pub found_reopened_stands : (read : Saved) → read ≡ pending.replica.saved
      → WorldStandsFor volume (restarted_model W r (Some waits))
      (event_in (event_in (with_member old r (restarted was read)) pending.event) (Restart r))
  found_reopened_stands read same =
      let now = reopened_stands volume found_model found_world
      (found_stands volume W old stands r was is pending waits waiting) r found here read same in
      subst (λ list. WorldStandsFor volume (restarted_model W r (Some waits))
      (record (event_in (event_in old pending.event) (Restart r)) { members = list }))
      (set_again old.members (r - 1) found (restarted was read))
      (subst (λ list. WorldStandsFor volume (record (restarted_model W r (Some waits)) { standings = list })
      (event_in (with_member found_world r (restarted found read)) (Restart r)))
      (set_again W.standings (r - 1) model.Up model.Up) now)
