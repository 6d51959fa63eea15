-- A member that serves an ask of the run may, and each Serve of a run has all pieces of what was saved.
use Rattle.std.proofs.Common.{◌≡◌, ℕ, ◌<◌, ◌≤◌, List, [], ◌∷◌, ◌++◌, length, Some, None, refl, sym, ap, subst, ◌∙◌, inl, inr, ◌⊎◌, arith}
use Rattle.std.proofs.lemmas.List.FromFn.{length-map-range_with_len}
use Rattle.ficus_codec.specs.Formats.{tables_bytes}
use Rattle.ficus_entry.specs.declared.entry.Entry.{Entry}
use Rattle.ficus_file.specs.declared.file.FileReplica.{FileReplica}
use Rattle.ficus_formats.specs.Pieces.{piece_count}
use Rattle.ficus_formats.proofs.Joining.{count_reaches}
use Rattle.ficus_model.specs.declared.event.Event.{Event}
use Rattle.ficus_model.specs.declared.event.Event.TheVariants.{Ask, Serve}
use Rattle.ficus_model.specs.Events.{IsAt, through, generation_of}
use Rattle.ficus_model.specs.Lawful.{Volume, IsLawful, MayServe}
use Rattle.ficus_laws.proofs.Positions.{at_cases, at_from_before, at_within}
use Rattle.ficus_runs.specs.Pieces.Laws.{HasServedAll}
use Rattle.ficus_runs.proofs.pieces.Serving.{serve_may_come}
use Rattle.ficus_replica.proofs.OpenAsks.{through_end, through_more}
use Rattle.ficus_replica.proofs.Saves.{saved_kept}
use Rattle.ficus_replica.specs.SavedOf.{IsSavedOf}
use Rattle.ficus_durable_state.specs.declared.saved.Saved.{Saved}
use Rattle.ficus_runs.specs.Actions.{with_event}
use Rattle.ficus_runs.specs.Exchange.{IsServedNow, Served, ServesAll}
use Rattle.ficus_wire.specs.Message.{messages_of_tables, piece_message}
use Rattle.ficus_runs.specs.ModelWorld.{ModelWorld}
use Rattle.ficus_runs.specs.RunWorld.{IsNoServe}

abbrev bytes_of : Volume → Saved → List ℕ
bytes_of volume saved = tables_bytes volume.members saved.entries saved.files

-- tables have a byte at least, and so a piece
some_bytes : (members : ℕ) (entries : List Entry) (files : List FileReplica)
    → 1 ≤ length (tables_bytes members entries files)
some_bytes members entries files = omega arith

pub some_pieces : (members : ℕ) (entries : List Entry) (files : List FileReplica)
    → 1 ≤ piece_count (tables_bytes members entries files)
some_pieces members entries files =
    omega (arith, some_bytes members entries files, count_reaches (tables_bytes members entries files))

-- what is served has as many messages as the tables have pieces
pub count_served : {volume : Volume} {H : List Event} {server ask : ℕ} {served : Served}
    → (now : IsServedNow volume H server ask served)
    → length served.messages ≡ piece_count (bytes_of volume now.saved)
count_served {volume} {H} {server} {ask} now =
    ap length now.messages
    ∙ length-map-range_with_len
    (piece_message server now.asker (generation_of now.asker (through ask H)) now.saved.generation
    (bytes_of volume now.saved)) 0 (piece_count (bytes_of volume now.saved))

pub some_messages : {volume : Volume} {H : List Event} {server ask : ℕ} {served : Served}
    → IsServedNow volume H server ask served → 1 ≤ length served.messages
some_messages {volume} now =
    subst (λ n. 1 ≤ n) (sym (count_served now)) (some_pieces volume.members now.saved.entries now.saved.files)

-- so the Serve has all pieces
module _ (volume : Volume) (H : List Event) (server ask : ℕ) (served : Served)
    (now : IsServedNow volume H server ask served) where
  abbrev the_serve : Event
  the_serve = Serve server ask served.state (length served.messages)

  pub serves_all : (by of state pieces : ℕ) → the_serve ≡ Serve by of state pieces
      → HasServedAll (tables_bytes volume.members) volume (H ++ the_serve ∷ []) (length H) by pieces
  serves_all by of state pieces same =
      let servers : server ≡ by = cc in
      let counts : length served.messages ≡ pieces = cc in
      record {
        saved = now.saved;
        is = subst (λ r. IsSavedOf volume (through (length H) (H ++ the_serve ∷ [])) r now.saved) servers
            (subst (λ K. IsSavedOf volume K server now.saved) (sym (through_end H the_serve))
            (saved_kept the_serve (inr tt) refl now.is refl));
        count = sym counts ∙ count_served now;
      }

-- what is no Serve is none
no_serve : (event : Event) → IsNoServe event → (server ask state pieces : ℕ)
    → event ≡ Serve server ask state pieces → ⊥
no_serve event none server ask state pieces is =
    let e : Some ask ≡ None = subst IsNoServe is none in cc

module _ (volume : Volume) (W : ModelWorld) (serves : ServesAll volume W) (next : Event) where
  served_before : (position server pieces : ℕ) → position < length W.events
      → HasServedAll (tables_bytes volume.members) volume W.events position server pieces
      → HasServedAll (tables_bytes volume.members) volume (W.events ++ next ∷ []) position server pieces
  served_before position server pieces within all = record {
    saved = all.saved;
    is = subst (λ H. IsSavedOf volume H server all.saved) (through_more W.events next position within) all.is;
    count = all.count;
  }

  -- with one event more each Serve of the run has all pieces, if that event, where it is one, has
  pub serves_more : ((server ask state pieces : ℕ) → next ≡ Serve server ask state pieces
      → HasServedAll (tables_bytes volume.members) volume (W.events ++ next ∷ []) (length W.events) server pieces)
      → ServesAll volume (with_event W next)
  serves_more all = record {
    each = λ position server ask state pieces since at.
        served position server ask state pieces since (at_cases next at);
  }
    where
      served : (position server ask state pieces : ℕ) → W.earlier ≤ position
          → IsAt W.events position (Serve server ask state pieces)
          ⊎ ((position ≡ length W.events) × (Serve server ask state pieces ≡ next))
          → HasServedAll (tables_bytes volume.members) volume (W.events ++ next ∷ []) position server pieces
      served position server ask state pieces since (inl was) =
          served_before position server pieces (at_within was)
          (serves.each position server ask state pieces since was)
      served position server ask state pieces since (inr (end, is)) =
          subst (λ n. HasServedAll (tables_bytes volume.members) volume (W.events ++ next ∷ []) n server pieces) (sym end)
          (all server ask state pieces (sym is))

  pub serves_other : IsNoServe next → ServesAll volume (with_event W next)
  serves_other none =
      serves_more (λ server ask state pieces is. absurd (no_serve next none server ask state pieces is))

-- A member serves an ask of a run, in which each Serve has all pieces: what it saves now may be served.
module _ (volume : Volume) (W : ModelWorld) (lawful : IsLawful volume W.events) (serves : ServesAll volume W)
    (server asker ask : ℕ) (since : W.earlier ≤ ask) (asked : IsAt W.events ask (Ask asker server)) (saved : Saved)
    (is : IsSavedOf volume W.events server saved) where
  abbrev pub served_now : Served
  served_now = record {
    state = saved.generation;
    messages = messages_of_tables server asker (generation_of asker (through ask W.events)) saved.generation
        (bytes_of volume saved);
  }

  served_all : (position state other : ℕ) → IsAt W.events position (Serve server ask state other)
      → HasServedAll (tables_bytes volume.members) volume W.events position server other
  served_all position state other at =
      let may = lawful.each position (Serve server ask state other) at in
      serves.each position server ask state other (omega (arith, since, (at_from_before position may.asked).0)) at

  pub may_serve : MayServe volume W.events server ask saved.generation (length served_now.messages)
  may_serve =
      let counted = length-map-range_with_len
      (piece_message server asker (generation_of asker (through ask W.events)) saved.generation (bytes_of volume saved))
      0 (piece_count (bytes_of volume saved)) in
      subst (λ state. MayServe volume W.events server ask state (length served_now.messages)) (sym is.generation)
      (subst (MayServe volume W.events server ask (generation_of server W.events)) (sym counted)
      (serve_may_come (tables_bytes volume.members) volume W.events server asker ask saved lawful asked is
      (some_pieces volume.members saved.entries saved.files) served_all))

  pub serves_now : IsServedNow volume W.events server ask served_now
  serves_now = record {
    asker = asker;
    asked = asked;
    saved = saved;
    is = is;
    state = refl;
    messages = refl;
    may = may_serve;
  }
