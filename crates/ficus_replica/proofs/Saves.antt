-- What a replica saves, after one more event.
use Rattle.std.proofs.Common.{◌≡◌, ◌≢◌, ◌⊎◌, ℕ, ◌+◌, List, [], ◌∷◌, ◌++◌, length, true, false, refl, sym, ap, ◌∙◌, arith, rules}
use Rattle.std.proofs.lemmas.List.Sums.{sum_by_push}
use Rattle.ficus_ids.specs.Members.{IsMember}
use Rattle.ficus_model.specs.declared.event.Event.{Event}
use Rattle.ficus_model.specs.declared.event.Event.TheVariants.{Update, Ask, Accept, Collect}
use Rattle.ficus_model.specs.declared.event.Op.{Op}
use Rattle.ficus_model.specs.Events.{actor, is_update_of, count_of, is_saved, generation_of, traits}
use Rattle.ficus_model.specs.Lawful.{Volume}
use Rattle.ficus_model.specs.Versions.{bytes_of, written_in, written_of}
use Rattle.ficus_entry.specs.declared.entry.Entry.{Entry}
use Rattle.ficus_file.specs.declared.file.FileReplica.{FileReplica}
use Rattle.ficus_durable_state.specs.declared.saved.Saved.{Saved}
use Rattle.ficus_laws.proofs.Counts.{counted_one, counted_none}
use Rattle.ficus_laws.proofs.Updates.{count_no_update, not_own}
use Rattle.ficus_held_laws.specs.Entries.{IsIdle}
use Rattle.ficus_held_laws.proofs.Leaving.{objects_kept}
use Rattle.ficus_held_laws.proofs.Listing.{list_kept}
use Rattle.ficus_held_file_laws.specs.Tables.{AreHeldEntries, AreHeldFiles}
use Rattle.ficus_held_file_laws.proofs.Entries.{entries_once}
use Rattle.ficus_held_file_laws.proofs.Files.{files_once}
use Rattle.ficus_replica.specs.SavedOf.{IsSavedOf}
use Rattle.ficus_replica.proofs.Tables.{next_saved}

pub saved_of_other : (r : ℕ) (event : Event) → actor event ≢ r → is_saved r event ≡ false
saved_of_other r event n = not_own (traits event).saves (actor event) r n

pub update_is_saved : (r : ℕ) (op : Op) → is_saved r (Update r op) ≡ true
update_is_saved r op = search rules

pub ask_is_saved : (r to : ℕ) → is_saved r (Ask r to) ≡ true
ask_is_saved r to = search rules

pub accept_is_saved : (r serve piece : ℕ) → is_saved r (Accept r serve piece) ≡ true
accept_is_saved r serve piece = search rules

pub collect_is_saved : (r : ℕ) → is_saved r (Collect r) ≡ true
collect_is_saved r = search rules

pub generation_saved : (r : ℕ) (H : List Event) (event : Event) → is_saved r event ≡ true →
    generation_of r (H ++ event ∷ []) ≡ generation_of r H + 1
generation_saved r H event is = counted_one (is_saved r) H event is

written_none : (r : ℕ) (event : Event) → is_update_of r event ≡ false → written_in r event ≡ 0
written_none r event none = rw none refl

pub written_kept : (r : ℕ) (H : List Event) (event : Event) → is_update_of r event ≡ false →
    written_of r (H ++ event ∷ []) ≡ written_of r H
written_kept r H event none = omega (arith, sum_by_push (written_in r) H event, written_none r event none)

pub written_more : (r : ℕ) (H : List Event) (op : Op) →
    written_of r (H ++ Update r op ∷ []) ≡ written_of r H + length (bytes_of op)
written_more r H op =
    let own : written_in r (Update r op) ≡ length (bytes_of op) = search rules in
    sum_by_push (written_in r) H (Update r op) ∙ ap (λ more. written_of r H + more) own

-- in each of these an event of another replica has come, or one that is no update, takes nothing and collects nothing
module _ {members : ℕ} {H : List Event} {r : ℕ} (event : Event) (other : (actor event ≢ r) ⊎ IsIdle event) where
  entries_kept : {entries : List Entry} → IsMember members r → AreHeldEntries members H r entries →
      AreHeldEntries members (H ++ event ∷ []) r entries
  entries_kept member held = record { rising = held.rising; kept = list_kept event member other held.kept }

  files_kept : {files : List FileReplica} → AreHeldFiles members H r files →
      AreHeldFiles members (H ++ event ∷ []) r files
  files_kept held = record { rising = held.rising; ordered = held.ordered; kept = objects_kept H event r other held.kept }

-- a history has one saved record
pub saved_once : {volume : Volume} {H : List Event} {r : ℕ} {one other : Saved} → IsSavedOf volume H r one →
    IsSavedOf volume H r other → one ≡ other
saved_once is is_too = λ i. record {
  me = (is.me ∙ sym is_too.me) i;
  members = (is.members ∙ sym is_too.members) i;
  ids = (is.ids ∙ sym is_too.ids) i;
  bytes = (is.bytes ∙ sym is_too.bytes) i;
  next = (is.next ∙ sym is_too.next) i;
  used = (is.used ∙ sym is_too.used) i;
  generation = (is.generation ∙ sym is_too.generation) i;
  entries = (entries_once is.entries is_too.entries) i;
  files = (files_once is.files is_too.files) i;
}

module _ {volume : Volume} {H K : List Event} {r : ℕ} {old : Saved} (is : IsSavedOf volume H r old) where
  -- what is saved after more events, by its counts and its tables
  pub saved_then : {next used generation : ℕ} {entries : List Entry} {files : List FileReplica} →
      next ≡ count_of r K + 1 → used ≡ written_of r K → generation ≡ generation_of r K →
      AreHeldEntries volume.members K r entries → AreHeldFiles volume.members K r files →
      IsSavedOf volume K r (next_saved old next used generation entries files)
  saved_then next used generation entries files = record {
    member = is.member;
    me = is.me;
    members = is.members;
    ids = is.ids;
    bytes = is.bytes;
    next = next;
    used = used;
    generation = generation;
    entries = entries;
    files = files;
  }

module _ {volume : Volume} {H : List Event} {r : ℕ} {old : Saved} (event : Event)
    (other : (actor event ≢ r) ⊎ IsIdle event) (none : is_update_of r event ≡ false)
    (is : IsSavedOf volume H r old) where
  -- an event that changes no tables: only the generation may change
  pub saved_quietly : (generation : ℕ) → generation ≡ generation_of r (H ++ event ∷ []) →
      IsSavedOf volume (H ++ event ∷ []) r (record old { generation = generation })
  saved_quietly generation counted =
      saved_then is
      (is.next ∙ ap (λ count. count + 1) (sym (count_no_update r H event none)))
      (is.used ∙ sym (written_kept r H event none))
      counted (entries_kept event other is.member is.entries) (files_kept event other is.files)

  -- an event after which it doesn't save changes nothing
  pub saved_kept : is_saved r event ≡ false → IsSavedOf volume (H ++ event ∷ []) r old
  saved_kept no_save = saved_quietly old.generation (is.generation ∙ sym (counted_none (is_saved r) H event no_save))

  -- and one after which it does changes the generation
  pub saved_again : is_saved r event ≡ true →
      IsSavedOf volume (H ++ event ∷ []) r (record old { generation = old.generation + 1 })
  saved_again saved = saved_quietly (old.generation + 1) (ap (λ generation. generation + 1) is.generation ∙ sym (generation_saved r H event saved))
