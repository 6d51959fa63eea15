-- `accept`: what was served is taken exactly where it answers the open ask; the new replica stands for the history with
-- each Accept of it that the history allows, and fits an image.
use Rattle.std.proofs.Common.{◌≡◌, ℕ, ◌+◌, ◌-◌, ◌^◌, ◌<◌, ◌≤◌, List, [], ◌∷◌, ◌++◌, Option, Some, None, Result, Ok, Err, cond, refl, sym, ap, ap₂, subst, ◌∙◌, inl, inr, ◌⊎◌, arith}
use Rattle.std.specs.Prelude.{Contains, IfOk, IsErrAnd}
use Rattle.std.proofs.lemmas.Bool.{cases_order}
use Rattle.std.proofs.lemmas.List.Elements.{All-contains_itself, All-weaker}
use Rattle.std.proofs.lemmas.List.Sums.{sum_by-take-le}
use Rattle.ficus_ids.specs.Members.{IsCount}
use Rattle.ficus_ids.specs.declared.id.Id.{Id}
use Rattle.ficus_ids.specs.declared.id.TheConstants.{ATTIC}
use Rattle.ficus_ids.specs.declared.refusal.Refusal.{Refusal}
use Rattle.ficus_ids.specs.declared.refusal.Refusal.TheVariants.{Memory, Stale, BadMessage}
use Rattle.ficus_model.specs.declared.event.Event.{Event}
use Rattle.ficus_model.specs.declared.event.Event.TheVariants.{Ask, Serve, Accept}
use Rattle.ficus_model.specs.Events.{IsAt, is_update_of, through, count_of, is_saved, generation_of}
use Rattle.ficus_model.specs.Live.{IsDirectory}
use Rattle.ficus_model.specs.Lawful.{Volume, IsLawful, IsOpenAsk, MayAccept, AnswersOpenAsk}
use Rattle.ficus_entry.specs.declared.entry.Entry.{Entry}
use Rattle.ficus_file.specs.declared.file.FileReplica.{FileReplica}
use Rattle.ficus_durable_state.specs.Saved.{FitsImage, IsOfPast, IsEntryOfPast, IsFileOfPast, HasOwnPast}
use Rattle.ficus_durable_state.specs.Tables.{FitsTables}
use Rattle.ficus_durable_state.specs.declared.saved.Saved.{Saved}
use Rattle.ficus_record.specs.declared.record.Record.{Record}
use Rattle.ficus_record.specs.declared.record.Record.TheVariants as noted
use Rattle.ficus_mentions.specs.Touched.{touched_by}
use Rattle.ficus_durable_state.proofs.MergedTables.{merged_tables_fit}
use Rattle.ficus_durable_state.proofs.Touched.{touched_is}
use Rattle.ficus_merge_entries.specs.Merge.{MergesEntries}
use Rattle.ficus_laws.specs.Updates.{IsIssued}
use Rattle.ficus_laws.proofs.Positions.{at_same, of_at}
use Rattle.ficus_laws.proofs.Counts.{counted_rises}
use Rattle.ficus_laws.proofs.Updates.{count_no_update}
use Rattle.ficus_laws.proofs.Lawful.{lawful_before}
use Rattle.ficus_laws.proofs.Issued.{entered_issued, made_issued}
use Rattle.ficus_laws.proofs.OpenAsk.{open_once}
use Rattle.ficus_laws.proofs.Places.{entered_in_place, entered_target}
use Rattle.ficus_removal_laws.specs.Laws.{IsAnswer}
use Rattle.ficus_held_laws.specs.Entries.{IsKeptEntry}
use Rattle.ficus_held_laws.proofs.Keeping.{merged_kept}
use Rattle.ficus_held_file_laws.specs.Laws.{AreTouched}
use Rattle.ficus_held_file_laws.specs.Tables.{AreHeldEntries, AreHeldFiles}
use Rattle.ficus_held_file_laws.proofs.Files.{file_of_history}
use Rattle.ficus_held_file_laws.proofs.Merging.{files_fit, files_merged}
use Rattle.ficus_deciding.proofs.Refusals.{refused_so}
use Rattle.ficus_replica.specs.declared.replica.Asked.{Asked}
use Rattle.ficus_replica.specs.declared.replica.Replica.{Replica}
use Rattle.ficus_replica.specs.Accept.{IsOpen, MayTake, AreTablesMerged, MakesMerged, Accepted, AcceptGives, IsServed, AcceptStands, TakeGives}
use Rattle.ficus_replica.specs.Calls.{Accepts, FitsTaking}
use Rattle.ficus_replica.specs.Makes.{IsNoted}
use Rattle.ficus_replica.specs.SavedOf.{IsOpenAskOf, IsSavedOf, StandsFor}
use Rattle.ficus_replica.proofs.OpenAsks.{open_none}
use Rattle.ficus_replica.proofs.Saves.{accept_is_saved, ask_is_saved, generation_saved, saved_then, written_kept}
use Rattle.ficus_replica.proofs.Tables.{image_then, tables_of}

open_is : (H : List Event) (r from ask number : ℕ) (asked : Option Asked) → IsOpenAsk H ask r from →
    number ≡ generation_of r (through ask H) → IsOpenAskOf H r asked →
    asked ≡ Some (record { to = from; number = number })
open_is H r from ask number None open_ask is none = absurd (none ask from open_ask)
open_is H r from ask number (Some asked) open_ask is waits =
    let once = open_once waits.1 open_ask in
    let same : asked.number ≡ number =
    waits.2 ∙ ap (λ position. generation_of r (through position H)) once.0 ∙ sym is in
    ap₂ (λ (to : ℕ) (n : ℕ). Some (record { to = to; number = n })) once.1 same

-- the open ask that was answered is the one for which this was served
taken_ask : (volume : Volume) (H : List Event) (r from number : ℕ) (entries : List Entry) (files : List FileReplica)
    (serve : ℕ) →
    (served : IsServed volume H r from number entries files serve) → AnswersOpenAsk H serve r →
    IsOpenAsk H served.ask r from
taken_ask volume H r from number entries files serve served answer =
    let e : Serve answer.server answer.ask answer.state answer.pieces ≡
    Serve from served.ask served.state served.pieces = at_same answer.served served.served in
    let server : answer.server ≡ from = cc in
    let ask : answer.ask ≡ served.ask = cc in
    subst (λ position. IsOpenAsk H position r from) ask
    (subst (λ to. IsOpenAsk H answer.ask r to) server answer.open_ask)

-- so no answer to the open ask is stale
pub taken_open : (volume : Volume) (H : List Event) (r from number : ℕ) (entries : List Entry)
    (files : List FileReplica)
    (serve : ℕ)
    (old : Replica) →
    StandsFor volume H r old → IsServed volume H r from number entries files serve → AnswersOpenAsk H serve r →
    IsOpen old from number
taken_open volume H r from number entries files serve old stands served answer =
    open_is H r from served.ask number old.ask (taken_ask volume H r from number entries files serve served answer)
    served.numbered stands.ask

-- asks of a replica with one number are one ask
one_ask : {H : List Event} {r to other position again : ℕ} → IsAt H position (Ask r to) → IsAt H again (Ask r other) →
    generation_of r (through position H) ≡ generation_of r (through again H) → position ≡ again
one_ask {H} {r} {to} {other} {position} {again} a b same = go (cases_order position again)
  where
    go : (position ≡ again) ⊎ ((position < again) ⊎ (again < position)) → position ≡ again
    go (inl h) = h
    go (inr (inl h)) = absurd (omega (arith, counted_rises (is_saved r) b (ask_is_saved r other) h))
    go (inr (inr h)) = absurd (omega (arith, counted_rises (is_saved r) a (ask_is_saved r to) h))

-- and one that isn't stale answers the open ask
pub open_taken : (volume : Volume) (H : List Event) (r from number : ℕ) (entries : List Entry)
    (files : List FileReplica)
    (serve : ℕ)
    (old : Replica) →
    IsLawful volume H → StandsFor volume H r old → IsServed volume H r from number entries files serve →
    IsOpen old from number →
    AnswersOpenAsk H serve r
open_taken volume H r from number entries files serve old lawful stands served open_ask =
    let waits : IsOpenAskOf H r (Some (record { to = from; number = number })) =
    subst (IsOpenAskOf H r) open_ask stands.ask in
    let ask = one_ask waits.1.ask served.asked (sym waits.2 ∙ served.numbered) in
    record {
      server = from;
      ask = served.ask;
      state = served.state;
      pieces = served.pieces;
      served = served.served;
      open_ask = subst (λ position. IsOpenAsk H position r from) ask waits.1;
    }

-- what a replica holds that stands for the events through its Serve is what it served there
pub standing_serves : (volume : Volume) (H : List Event) (r from number : ℕ) (serve ask state pieces : ℕ)
    (peer : Replica) → StandsFor volume (through serve H) from peer → IsAt H ask (Ask r from) →
    IsAt H serve (Serve from ask state pieces) → number ≡ generation_of r (through ask H) →
    IsServed volume H r from number peer.saved.entries peer.saved.files serve
standing_serves volume H r from number serve ask state pieces peer stands asked_at served number_is = record {
  ask = ask;
  state = state;
  pieces = pieces;
  asked = asked_at;
  served = served;
  numbered = number_is;
  held = stands.saved.entries;
  held_files = stands.saved.files;
}

-- the answer is one that the history allows to be taken
answer_to : (volume : Volume) (H : List Event) (r from number : ℕ) (entries : List Entry) (files : List FileReplica)
    (serve piece : ℕ) → IsLawful volume H → IsServed volume H r from number entries files serve →
    MayAccept volume H r serve piece → IsAnswer volume H r serve piece from
answer_to volume H r from number entries files serve piece lawful served may =
    record { lawful = lawful; may = may; by = of_at served.served }

-- what the entries name or lie in, in the terms of the laws
pub touched_same : (entries : List Entry) → AreTouched entries (touched_by entries)
touched_same entries id = (
  λ inside.
      let found = (touched_is entries id).0 inside in
      record { entry = found.entry; inside = found.inside; touches = found.touches },
  λ touched. (touched_is entries id).1
      (record { entry = touched.entry; inside = touched.inside; touches = touched.touches }),
)

-- In each of these the replica takes what was served to it, where the history allows it.
module _ (volume : Volume) (H : List Event) (r from number : ℕ) (entries : List Entry) (files : List FileReplica)
    (serve piece : ℕ) (old : Saved) (lawful : IsLawful volume H) (is : IsSavedOf volume H r old)
    (served : IsServed volume H r from number entries files serve) (may : MayAccept volume H r serve piece) where
  abbrev after : List Event
  after = H ++ Accept r serve piece ∷ []

  answer : IsAnswer volume H r serve piece from
  answer = answer_to volume H r from number entries files serve piece lawful served may

  merged_held : {merged : List Entry} {both : List FileReplica} → AreTablesMerged old entries merged files both →
      AreHeldEntries volume.members after r merged
  merged_held {merged} tables = record {
    rising = tables.rising;
    kept = merged_kept volume H r serve piece from old.entries entries merged answer is.entries.kept served.held.kept
        (subst (λ members. MergesEntries r members old.entries entries merged) is.members
        (subst (λ me. MergesEntries me old.members old.entries entries merged) is.me tables.merges));
  }

  both_held : {merged : List Entry} {both : List FileReplica} → AreTablesMerged old entries merged files both →
      AreHeldFiles volume.members after r both
  both_held {merged} {both} tables =
      files_merged volume H r serve from lawful (of_at served.served) is.files served.held_files merged (touched_by merged)
      both (touched_same merged) tables.merges_files piece answer (merged_held tables) tables.held

  -- what is saved then is that of the history with the Accept
  pub merged_saved : (new : Saved) → MakesMerged old entries files new → IsSavedOf volume after r new
  merged_saved new makes =
      let accept = Accept r serve piece in
      subst (IsSavedOf volume after r) (sym makes.saved) (saved_then is
      (omega (arith, is.next, count_no_update r H accept refl))
      (is.used ∙ sym (written_kept r H accept refl))
      (omega (arith, is.generation, generation_saved r H accept (accept_is_saved r serve piece)))
      (merged_held makes.tables)
      (both_held makes.tables))

-- the new replica stands for the history with the Accept
pub accepted_stands : (volume : Volume) (H : List Event) (r from number : ℕ) (entries : List Entry)
    (files : List FileReplica) (serve piece : ℕ) (old : Replica) → IsLawful volume H → StandsFor volume H r old →
    IsServed volume H r from number entries files serve → MayAccept volume H r serve piece →
    (new : Replica) → Accepted old from number entries files new →
    StandsFor volume (H ++ Accept r serve piece ∷ []) r new
accepted_stands volume H r from number entries files serve piece old lawful stands served may new accepted =
    let after = H ++ Accept r serve piece ∷ [] in
    subst (StandsFor volume after r) (sym accepted.replica) (record {
      saved = merged_saved volume H r from number entries files serve piece old.saved lawful stands.saved served may _
          (record { merged = accepted.merged; both = accepted.both; tables = accepted.tables; saved = refl });
      ask = open_none H r (Accept r serve piece) refl (λ to is. cc);
    })

module _ (volume : Volume) (H : List Event) (r serve : ℕ) (me next : ℕ) (me_is : me ≡ r)
    (next_is : next ≡ count_of r H + 1) where
  -- no more is counted by a position than in the whole
  count_before : (by : ℕ) → count_of by (through serve H) ≤ count_of by H
  count_before by = sum_by-take-le (λ x. cond (is_update_of by x) 1 0) H (serve + 1)

  -- what a replica has issued by a position is of its past
  issued_past : (id : Id) → IsIssued (through serve H) id → IsOfPast me next id
  issued_past id issued own =
      let mine : id.replica ≡ r = own ∙ me_is in
      let count : count_of id.replica H ≡ count_of r H = ap (λ by. count_of by H) mine in
      omega (arith, issued.at_most, count_before id.replica)

  counted_past : (count : ℕ) → count ≤ count_of me (through serve H) → count < next
  counted_past count within =
      let same : count_of me H ≡ count_of r H = ap (λ by. count_of by H) me_is in
      omega (arith, count_before me)

  -- the root and the attic are nobody's
  directory_past : (1 ≤ me) → (id : Id) {U : ℕ → Type 0} {V : Type 0} →
      IsDirectory (through serve H) U id ⊎ ((id ≡ ATTIC) × V) → IsOfPast me next id
  directory_past some id (inl (inl root)) = λ own. let zero : id.replica ≡ 0 = ap (λ (i : Id). i.replica) root in
      omega arith
  directory_past some id (inl (inr made)) = issued_past id (made_issued made)
  directory_past some id (inr (attic, removed)) =
      λ own. let zero : id.replica ≡ 0 = ap (λ (i : Id). i.replica) attic in omega arith

  entry_past : (1 ≤ me) → (members from : ℕ) (entry : Entry) → IsLawful volume H →
      IsKeptEntry members (through serve H) from entry → IsEntryOfPast me next entry
  entry_past some members from entry lawful kept =
      let past = lawful_before volume H (serve + 1) lawful in
      record {
        id = issued_past entry.id (entered_issued kept.held.entered);
        dir = directory_past some entry.dir (entered_in_place volume (through serve H) past kept.held.entered);
        target = issued_past entry.target
            (made_issued (entered_target volume (through serve H) past kept.held.entered).1);
      }

  file_past : (members from : ℕ) (files : List FileReplica) (file : FileReplica) →
      AreHeldFiles members (through serve H) from files → Contains files file → IsFileOfPast me next file
  file_past members from files file held inside =
      let known = file_of_history held inside in
      record {
        id = issued_past file.id known.id;
        versions = λ version listed. counted_past _ (known.versions version listed me);
        covered = counted_past _ (known.covered me);
      }

-- what is served names and counts no update of the replica that it hasn't made
served_past : (volume : Volume) (H : List Event) (r from number : ℕ) (entries : List Entry) (files : List FileReplica)
    (serve : ℕ) (old : Saved) → IsLawful volume H → IsSavedOf volume H r old →
    IsServed volume H r from number entries files serve → HasOwnPast old.me old.next entries files
served_past volume H r from number entries files serve old lawful is served = record {
  each = All-weaker (Contains entries) (IsEntryOfPast old.me old.next)
      (λ entry inside. entry_past volume H r serve old.me old.next is.me is.next some volume.members from
      entry lawful (served.held.kept.each entry inside))
      entries (All-contains_itself entries);
  each_file = All-weaker (Contains files) (IsFileOfPast old.me old.next)
      (λ file inside. file_past volume H r serve old.me old.next is.me is.next volume.members from files file
      served.held_files inside)
      files (All-contains_itself files);
}
  where
    some : 1 ≤ old.me
    some = omega (arith, is.me, is.member.at_least)

-- so what is served may always be taken
pub served_fits : (volume : Volume) (H : List Event) (r from number : ℕ) (entries : List Entry)
    (files : List FileReplica) (serve : ℕ) (old : Saved) → volume.members ≤ 8 →
    IsLawful volume H → IsSavedOf volume H r old → IsServed volume H r from number entries files serve →
    MayTake old entries files
served_fits volume H r from number entries files serve old few lawful is served = record {
  past = served_past volume H r from number entries files serve old lawful is served;
  fit = files_fit volume H r serve from lawful (of_at served.served) is.files served.held_files few;
}

-- the members of a volume for which a replica stands whose record fits an image
pub few_members : {volume : Volume} {H : List Event} {r : ℕ} {old : Replica} → FitsImage old.saved →
    StandsFor volume H r old → volume.members ≤ 8
few_members fits stands = (subst IsCount stands.saved.members fits.members).at_most

-- what was served is taken exactly where it answers the open ask
pub accept_gives_stands : (volume : Volume) (H : List Event) (r from number : ℕ) (entries : List Entry)
    (files : List FileReplica) (serve : ℕ) (old : Replica) (result : Result Replica Refusal) →
    volume.members ≤ 8 → IsLawful volume H → StandsFor volume H r old →
    IsServed volume H r from number entries files serve →
    AcceptGives old from number entries files result → AcceptStands volume H r serve result
accept_gives_stands volume H r from number entries files serve old (Ok new) few lawful stands served gives =
    record {
      answers = open_taken volume H r from number entries files serve old lawful stands served gives.open_ask;
      stands = λ piece may.
          accepted_stands volume H r from number entries files serve piece old lawful stands served may new gives;
    }
accept_gives_stands volume H r from number entries files serve old (Err Memory) few lawful stands served open_ask =
    open_taken volume H r from number entries files serve old lawful stands served open_ask
accept_gives_stands volume H r from number entries files serve old (Err Stale) few lawful stands served gives =
    λ answers. gives (taken_open volume H r from number entries files serve old stands served answers)
accept_gives_stands volume H r from number entries files serve old (Err BadMessage) few lawful stands served gives =
    gives.1 (served_fits volume H r from number entries files serve old.saved few lawful stands.saved served)
accept_gives_stands volume H r from number entries files serve old (Err other) few lawful stands served gives =
    absurd gives

-- what is saved then fits an image
pub merged_fits : (entries : List Entry) (files : List FileReplica) (old new : Saved) → FitsImage old →
    FitsTables old.members entries files → old.generation < 2 ^ 63 - 1 → MayTake old entries files →
    MakesMerged old entries files new → FitsImage new
merged_fits entries files old new fits tables generation may makes =
    let merged = makes.tables in
    subst FitsImage (sym makes.saved)
    (image_then fits fits.next_at_least fits.next_at_most fits.used (omega arith)
    (merged_tables_fit old.members old.me old.next old.entries entries makes.merged old.files files makes.both fits.me
    (tables_of fits) (record { tables = tables; past = may.past }) merged.rising merged.merges merged.held
    merged.merges_files))

-- and the record of it makes the same
pub taken_noted : (entries : List Entry) (files : List FileReplica) (old : Saved) (result : Result Replica Refusal) →
    FitsImage old → FitsTables old.members entries files → old.generation < 2 ^ 63 - 1 →
    TakeGives old entries files result → IfOk result (λ replica. IsNoted old (noted.Accept entries files) replica.saved)
taken_noted entries files old (Ok new) fits tables generation gives = record {
  spelled = tables;
  fit = record { generation = generation; fits = gives.fits };
  makes = gives.makes;
  fits = merged_fits entries files old new.saved fits tables generation gives.fits gives.makes;
}
taken_noted entries files old (Err refusal) fits tables generation gives = tt

-- tables that were asked for are taken as any are
pub taken_accepts : (from number : ℕ) (entries : List Entry) (files : List FileReplica) (old : Replica)
    (result : Result Replica Refusal) → IsOpen old from number → TakeGives old.saved entries files result →
    AcceptGives old from number entries files result
taken_accepts from number entries files old (Ok new) open_ask gives = record {
  open_ask = open_ask;
  fits = gives.fits;
  merged = gives.makes.merged;
  both = gives.makes.both;
  tables = gives.makes.tables;
  replica = λ i. record { saved = gives.makes.saved i; ask = gives.ask i };
}
taken_accepts from number entries files old (Err BadMessage) open_ask gives = (open_ask, gives)
taken_accepts from number entries files old (Err Memory) open_ask gives = open_ask
taken_accepts from number entries files old (Err other) open_ask gives = absurd gives

-- so what is saved fits an image
pub noted_fits : (old : Saved) (event : Record) (result : Result Replica Refusal) →
    IfOk result (λ replica. IsNoted old event replica.saved) → IfOk result (λ replica. FitsImage replica.saved)
noted_fits old event (Ok new) made = made.fits
noted_fits old event (Err refusal) made = tt

-- so all is promised of what is given for tables that were asked for
pub accepts : (from number : ℕ) (entries : List Entry) (files : List FileReplica) (old : Replica)
    (result : Result Replica Refusal) → FitsTaking old.saved entries files →
    AcceptGives old from number entries files result →
    IfOk result (λ replica. IsNoted old.saved (noted.Accept entries files) replica.saved) →
    Accepts old from number entries files result
accepts from number entries files old result fits gives makes = record {
  gives = gives;
  fits = noted_fits old.saved (noted.Accept entries files) result makes;
  noted = makes;
  stands = λ volume H serve lawful stands served.
      accept_gives_stands volume H old.saved.me from number entries files serve old result
      (few_members fits.fits stands) lawful stands served gives;
}

-- of the refusal of what wasn't asked for
pub stale : {from number : ℕ} {entries : List Entry} {files : List FileReplica} {old : Replica} {refusal : Refusal}
    {result : Result Replica Refusal} → FitsTaking old.saved entries files →
    (refusal ≡ Stale) × (IsOpen old from number → ⊥) → IsErrAnd result (λ given. given ≡ refusal) →
    Accepts old from number entries files result
stale {from} {number} {entries} {files} {old} {refusal} {result} fits (is, closed) given =
    refused_so (Accepts old from number entries files) refusal
    (subst (λ refusal. Accepts old from number entries files (Err refusal)) (sym is)
    (accepts from number entries files old (Err Stale) fits closed tt)) result given

-- and of what is taken
pub taken : (from number : ℕ) (entries : List Entry) (files : List FileReplica) (old : Replica)
    (result : Result Replica Refusal) → FitsTaking old.saved entries files → IsOpen old from number →
    TakeGives old.saved entries files result → Accepts old from number entries files result
taken from number entries files old result fits open_ask gives =
    accepts from number entries files old result fits
    (taken_accepts from number entries files old result open_ask gives)
    (taken_noted entries files old.saved result fits.fits fits.tables fits.generation gives)
