-- Messages of one name are one.
use Rattle.std.proofs.Common.{◌≡◌, ℕ, ◌≤◌, List, sym, ap, subst, ◌∙◌}
use Rattle.ficus_codec.specs.Formats.{tables_bytes}
use Rattle.ficus_durable_state.specs.declared.saved.Saved.{Saved}
use Rattle.ficus_entry.specs.declared.entry.Entry.{Entry}
use Rattle.ficus_file.specs.declared.file.FileReplica.{FileReplica}
use Rattle.ficus_held_file_laws.proofs.Entries.{entries_once}
use Rattle.ficus_held_file_laws.proofs.Files.{files_once}
use Rattle.ficus_model.specs.Events.{through, generation_of}
use Rattle.ficus_model.specs.Lawful.{IsLawful, Volume}
use Rattle.ficus_replica.specs.Accept.{IsServed}
use Rattle.ficus_replica.specs.SavedOf.{IsSavedOf}
use Rattle.ficus_runs.specs.Exchange.{ServesAll}
use Rattle.ficus_runs.specs.Message.{IsMessageAt}
use Rattle.ficus_runs.specs.Message.IsMessageAt.{IsAsk, IsPiece}
use Rattle.ficus_runs.specs.ModelWorld.{ModelWorld}
use Rattle.ficus_runs.specs.Pieces.Laws.{HasServedAll}
use Rattle.ficus_runs.proofs.pieces.Saving.{saved_same}
use Rattle.ficus_runs.proofs.pieces.Taken.{served_generation}
use Rattle.ficus_wire.specs.Message.{piece_message}
use Rattle.ficus_wire.specs.declared.message.Message.{Message}
use Rattle.ficus_wire.specs.declared.message.Message.TheVariants as message
use Rattle.ficus_world.specs.Machines.Names.{ArePiecesAlike, IsNamedAlike}

module _ (volume : Volume) (W : ModelWorld) (lawful : IsLawful volume W.events) (serves : ServesAll volume W) where
  -- the tables that were served at a position are those of what the server saved there
  module _ (position : ℕ) (since : W.earlier ≤ position) {asker server number : ℕ} (entries : List Entry)
      (files : List FileReplica) (served : IsServed volume W.events asker server number entries files position) where
    abbrev all : HasServedAll (tables_bytes volume.members) volume W.events position server served.pieces
    all = serves.each position server served.ask served.state served.pieces since served.served

    tables_saved : tables_bytes volume.members entries files
        ≡ tables_bytes volume.members all.saved.entries all.saved.files
    tables_saved =
        let same_entries = entries_once served.held all.is.entries in
        let same_files = files_once served.held_files all.is.files in
        λ i. tables_bytes volume.members (same_entries i) (same_files i)

    state_there : generation_of server (through position W.events) ≡ served.state
    state_there = served_generation lawful served.served

  pieces_once : (position other : ℕ) → W.earlier ≤ position → W.earlier ≤ other
      → {asker server number state index peer_asker peer same_number same_state same_index : ℕ}
      {entries others : List Entry} {files theirs : List FileReplica}
      → (is : IsServed volume W.events asker server number entries files position) → state ≡ is.state
      → (too : IsServed volume W.events peer_asker peer same_number others theirs other) → same_state ≡ too.state
      → ArePiecesAlike server asker number state index peer peer_asker same_number same_state same_index
      → piece_message server asker number state (tables_bytes volume.members entries files) index
      ≡ piece_message peer peer_asker same_number same_state (tables_bytes volume.members others theirs) same_index
  pieces_once position other since since_too {server = server} {peer = peer} {entries = entries} {others = others}
      {files = files} {theirs = theirs} is states too states_too named =
      let one = all position since entries files is in
      let two = all other since_too others theirs too in
      let generations : generation_of server (through position W.events) ≡ generation_of server (through other W.events) =
      state_there position since entries files is ∙ sym states ∙ named.state_same ∙ states_too
      ∙ sym (state_there other since_too others theirs too)
      ∙ ap (λ n. generation_of n (through other W.events)) (sym named.from_same) in
      let saved : one.saved ≡ two.saved =
      saved_same W.events position other generations one.is
      (subst (λ n. IsSavedOf volume (through other W.events) n two.saved) (sym named.from_same) two.is) in
      let tables : tables_bytes volume.members entries files ≡ tables_bytes volume.members others theirs =
      tables_saved position since entries files is
      ∙ ap (λ (s : Saved). tables_bytes volume.members s.entries s.files) saved
      ∙ sym (tables_saved other since_too others theirs too) in
      λ i. piece_message (named.from_same i) (named.to_same i) (named.number_same i) (named.state_same i) (tables i) (named.index_same i)

  pub message_once : (position other index again : ℕ) → W.earlier ≤ position → W.earlier ≤ other → (one two : Message)
      → IsMessageAt volume W.events position index one → IsMessageAt volume W.events other again two
      → IsNamedAlike one two → one ≡ two
  message_once position other index again since since_too one two (IsAsk at counted) (IsAsk at_too counted_too) named =
      λ i. message.Ask (named.from_same i) (named.to_same i) (named.number_same i)
  message_once position other index again since since_too one two (IsPiece served states below) (IsAsk at counted)
      named = absurd named
  message_once position other index again since since_too one two (IsAsk at counted) (IsPiece served states below)
      named = absurd named
  message_once position other index again since since_too one two (IsPiece served states below)
      (IsPiece served_too states_too below_too) named =
      pieces_once position other since since_too served states served_too states_too named
