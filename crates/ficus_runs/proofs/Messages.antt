-- The message behind a position stays the same as the history grows, and is one.
use Rattle.std.proofs.Common.{◌≡◌, ℕ, List, [], ◌∷◌, ◌++◌, sym, ap, subst, ◌∙◌}
use Rattle.ficus_codec.specs.Formats.{tables_bytes}
use Rattle.ficus_entry.specs.declared.entry.Entry.{Entry}
use Rattle.ficus_file.specs.declared.file.FileReplica.{FileReplica}
use Rattle.ficus_model.specs.declared.event.Event.{Event}
use Rattle.ficus_model.specs.declared.event.Event.TheVariants as event
use Rattle.ficus_model.specs.Events.{IsAt, through, generation_of}
use Rattle.ficus_model.specs.Lawful.{Volume}
use Rattle.ficus_laws.proofs.Positions.{at_more, at_same, at_within}
use Rattle.ficus_held_file_laws.specs.Tables.{AreHeldEntries, AreHeldFiles}
use Rattle.ficus_held_file_laws.proofs.Entries.{entries_once}
use Rattle.ficus_held_file_laws.proofs.Files.{files_once}
use Rattle.ficus_replica.specs.Accept.{IsServed}
use Rattle.ficus_replica.proofs.OpenAsks.{through_more}
use Rattle.ficus_wire.specs.declared.message.Message.{Message}
use Rattle.ficus_runs.specs.Message.{IsMessageAt}
use Rattle.ficus_wire.specs.Message.{piece_message}
use Rattle.ficus_runs.specs.Message.IsMessageAt.{IsAsk, IsPiece}

module _ (volume : Volume) (H : List Event) (event : Event) where
  abbrev later : List Event
  later = H ++ event ∷ []

  abbrev pub served_more : {asker server number serve : ℕ} {entries : List Entry} {files : List FileReplica}
      → IsServed volume H asker server number entries files serve
      → IsServed volume later asker server number entries files serve
  served_more {asker} {server} {number} {serve} {entries} {files} is = record {
    ask = is.ask;
    state = is.state;
    pieces = is.pieces;
    asked = at_more (event ∷ []) is.asked;
    served = at_more (event ∷ []) is.served;
    numbered = is.numbered ∙ ap (generation_of asker) (through_more H event is.ask (at_within is.asked));
    held =
        subst (λ K. AreHeldEntries volume.members K server entries) (through_more H event serve (at_within is.served))
        is.held;
    held_files =
        subst (λ K. AreHeldFiles volume.members K server files) (through_more H event serve (at_within is.served))
        is.held_files;
  }

  -- one event more leaves the message behind a position as it is
  pub message_more : (position index : ℕ) (message : Message) → IsMessageAt volume H position index message
      → IsMessageAt volume later position index message
  message_more position index message (IsAsk {asker = asker} at numbered) =
      IsAsk (at_more (event ∷ []) at)
      (numbered ∙ ap (generation_of asker) (through_more H event position (at_within at)))
  message_more position index message (IsPiece served state below) = IsPiece (served_more served) state below

module _ (volume : Volume) (H : List Event) (position : ℕ) where
  piece_once : {asker server number state other peer again same : ℕ} {entries others : List Entry}
      {files theirs : List FileReplica} (index : ℕ)
      → (is : IsServed volume H asker server number entries files position) → state ≡ is.state
      → (too : IsServed volume H other peer again others theirs position) → same ≡ too.state
      → piece_message server asker number state (tables_bytes volume.members entries files) index
      ≡ piece_message peer other again same (tables_bytes volume.members others theirs) index
  piece_once {asker} {server} {number} {state} {other} {peer} {again} {same} {entries} {others} {files} {theirs} index is
      numbered too numbered_too =
      let serves = at_same is.served too.served in
      let servers : server ≡ peer = cc in
      let states : state ≡ same = numbered ∙ (let alike : is.state ≡ too.state = cc in alike) ∙ sym numbered_too in
      let asks : is.ask ≡ too.ask = cc in
      let asked = at_same is.asked (subst (λ n. IsAt H n (event.Ask other peer)) (sym asks) too.asked) in
      let askers : asker ≡ other = cc in
      let numbers : number ≡ again =
      is.numbered ∙ ap (λ n. generation_of n (through is.ask H)) askers
      ∙ ap (λ n. generation_of other (through n H)) asks ∙ sym too.numbered in
      let same_entries = entries_once is.held
      (subst (λ n. AreHeldEntries volume.members (through position H) n others) (sym servers) too.held) in
      let same_files = files_once is.held_files
      (subst (λ n. AreHeldFiles volume.members (through position H) n theirs) (sym servers) too.held_files) in
      λ i. piece_message (servers i) (askers i) (numbers i) (states i)
      (tables_bytes volume.members (same_entries i) (same_files i)) index

  -- at most one message stands behind a position with an index
  pub message_once : (index : ℕ) (one other : Message) → IsMessageAt volume H position index one
      → IsMessageAt volume H position index other → one ≡ other
  message_once index one other (IsAsk {asker = r} at numbered) (IsAsk {asker = s} at_too numbered_too) =
      let same = at_same at at_too in
      let askers : r ≡ s = cc in
      let numbers = numbered ∙ ap (λ n. generation_of n (through position H)) askers ∙ sym numbered_too in
      cc
  message_once index one other (IsPiece served state below) (IsPiece served_too state_too below_too) =
      piece_once index served state served_too state_too
  message_once index one other (IsAsk at numbered) (IsPiece served state below) =
      let same = at_same at served.served in absurd (cc)
  message_once index one other (IsPiece served state below) (IsAsk at numbered) =
      let same = at_same served.served at in absurd (cc)
