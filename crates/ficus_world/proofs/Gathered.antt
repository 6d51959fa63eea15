-- What becomes of a world in which a member keeps a piece of an answer, and what taking a piece does to it.
use Rattle.std.proofs.Common.{◌≡◌, ◌≢◌, ℕ, ◌+◌, ◌-◌, ◌<◌, ◌≤◌, List, [], ◌∷◌, ◌++◌, length, Option, Some, None, Result, Ok, Err, refl, sym, ap, subst, ◌∙◌, inl, inr, ◌⊎◌, arith}
use Rattle.std.specs.Prelude.{slice_set, IfErr, IfOk, IsErrOf}
use Rattle.std.proofs.lemmas.List.{length-set, length_push}
use Rattle.ficus_codec.specs.Formats.{tables_bytes}
use Rattle.ficus_disk.specs.declared.disk.Disk.{Ghosts as Disk}
use Rattle.ficus_disk.specs.declared.pair.Pair.{Pair}
use Rattle.ficus_entry.specs.declared.entry.Entry.{Entry}
use Rattle.ficus_file.specs.declared.file.FileReplica.{FileReplica}
use Rattle.ficus_ids.specs.Members.{IsMember}
use Rattle.ficus_ids.specs.declared.refusal.Refusal.{Refusal}
use Rattle.ficus_ids.specs.declared.refusal.Refusal.TheVariants as refusal
use Rattle.ficus_keeper.specs.declared.keep.Keep.{Ghosts as Keep}
use Rattle.ficus_model.specs.declared.event.Event.{Event}
use Rattle.ficus_model.specs.Events.{actor}
use Rattle.ficus_model.specs.declared.event.Event.TheVariants.{Take}
use Rattle.ficus_runs.proofs.Numbers.{number_exists, number_once}
use Rattle.ficus_runs.proofs.Replaced.{replaced}
use Rattle.ficus_runs.specs.Answers.{OrMemory}
use Rattle.ficus_runs.specs.Fuses.{FuseState}
use Rattle.ficus_runs.specs.Numbered.{IsNumbered}
use Rattle.ficus_runs.specs.Sequence.{Effect, unchanged}
use Rattle.ficus_runs.specs.Sequence.First.{Ends, Goes}
use Rattle.ficus_durable_state.specs.Tables.{FitsTables}
use Rattle.ficus_script.specs.declared.answer.Answer.{Answer}
use Rattle.ficus_script.specs.declared.answer.Answer.TheVariants.{Done, Part}
use Rattle.ficus_stable_storage.specs.declared.stable.Stable.{Stable}
use Rattle.ficus_wire.specs.Parts.{HeldParts, joined as joined_parts, with_part}
use Rattle.ficus_wire.specs.declared.message.PieceHead.{PieceHead}
use Rattle.ficus_world.specs.declared.exchange.Delivery.{Delivery}
use Rattle.ficus_opening.specs.declared.member.Member.{Member}
use Rattle.ficus_world.specs.declared.post.Behind.{Behind}
use Rattle.ficus_world.specs.declared.taking.Fitting.{Fitting}
use Rattle.ficus_world.specs.declared.taking.Taking.{Taking}
use Rattle.ficus_world.specs.declared.taking.Fitting.TheVariants as fitting
use Rattle.ficus_world.specs.Acts.{Acts}
use Rattle.ficus_world.specs.Kills.Touches.{TouchesNone}
use Rattle.ficus_opening.specs.Disks.{IsPairOf}
use Rattle.ficus_world.specs.Disks.{CarriedOn, DisksPass, IsBacked}
use Rattle.ficus_world.specs.Fuses.{FuseStands, FusesFollow, FusesStand}
use Rattle.ficus_opening.specs.declared.member.Pending.{Pending}
use Rattle.ficus_world.specs.Moves.{FindsTaker, GivesTaking, IsPlaced, IsTaking, IsWaiting, TakesFitting, TakesPiece, TakesSpelled, TakesTables, advanced, gathered, not_saved, parts_held, pending_of, saved, spelled_with}
use Rattle.ficus_world.specs.Moves.FindsTaker.{AnswersNone, FindsIt, OfAnotherState, OfOtherPieces, TakerDown}
use Rattle.ficus_world.specs.Moves.TakesFitting.{IsHeld, IsOneMore, IsTheLast}
use Rattle.ficus_world.specs.Moves.TakesSpelled.{SpellsNone, SpellsTables}
use Rattle.ficus_world.specs.Moves.TakesTables.{Takes, TakesNot}
use Rattle.ficus_world.specs.Post.{Outbox}
use Rattle.ficus_world.specs.World.{IsSoundMember, IsUpIn, IsWorld, Whole, backed_by, whole_of}
use Rattle.ficus_world.proofs.Sparing.{spared_none}
use Rattle.ficus_world.proofs.Carrying.{carried_none, carried_then, or_refused}
use Rattle.ficus_world.proofs.Disks.{OthersStay, disks_moved, follows_none, others_as, set_as}
use Rattle.ficus_world.proofs.Placing.{joined_one}
use Rattle.ficus_world.proofs.SoundWorlds.{member_more, plain_with, world_after}

-- a member that holds other parts is to its disks what it was
module _ (members : List Member) (by : ℕ) (was : Member) (is : IsNumbered members by was) (parts : Option HeldParts) where
  abbrev now : Member
  now = record was { parts = parts }

  abbrev pub holding : List Member
  holding = slice_set members (by - 1) now

  which : (r : ℕ) (member : Member) → IsNumbered holding r member
      → ((r ≡ by) × (member ≡ now)) ⊎ ((by ≢ r) × IsNumbered members r member)
  which r member at = replaced members by r now member is.member.at_least at

  -- to its keeper too
  holding_disks : {K D : Type 0} (keep : Keep K) (disk : Disk D) (stables : List (Stable K)) (disks : List (Pair D))
      → DisksPass keep disk (λ before after. (before ≡ members) × (after ≡ holding)) stables stables disks disks
  holding_disks keep disk stables disks =
      disks_moved by
      (λ before after held. subst (λ (l : List Member). OthersStay by l after) (sym held.0)
      (others_as now is.member.at_least held.1)) (λ r x differs at. at) (λ r x differs at. at)
      (λ before after held own member stable pair at at_stable at_pair.
      let of = own was stable pair (subst (λ (l : List Member). IsNumbered l by was) (sym held.0) is) at_stable at_pair in
      subst (λ (m : Member). IsPairOf keep disk m stable pair)
      (sym (set_as members now member is.member.at_least held.1 at)) (record { fused = of.fused; holds = of.holds }))

  module _ {K D : Type 0} (keep : Keep K) (disk : Disk D) (disks : List (Pair D)) where
    holding_stand : (F : ℕ → FuseState) → FusesStand keep disk F members disks → FusesStand keep disk F holding disks
    holding_stand F stand = record { each = λ r member pair at at_pair. go r member pair at_pair (which r member at) }
      where
        go : (r : ℕ) (member : Member) (pair : Pair D) → IsNumbered disks r pair
            → ((r ≡ by) × (member ≡ now)) ⊎ ((by ≢ r) × IsNumbered members r member)
            → FuseStands keep disk (F r) member pair
        go r member pair at_pair (inr (differs, stays)) = stand.each r member pair stays at_pair
        go r member pair at_pair (inl (here, swapped)) =
            let so = stand.each r was pair (subst (λ n. IsNumbered members n was) (sym here) is) at_pair in
            subst (λ (m : Member). FuseStands keep disk (F r) m pair) (sym swapped)
            (record { generation = so.generation; regular = so.regular; so = so.so })

    pub holding_fuses : FusesFollow keep disk [] members holding disks disks
    holding_fuses = record {
      permit = record { all = λ fused told F stand. tt };
      stand = λ fused told F stand. holding_stand F stand;
    }

-- and the world with an event more is one still
pub gathered_world : (old : Whole) (by : ℕ) (was : Member) (parts : HeldParts) (event : Event) → IsWorld old
    → IsNumbered old.members by was → actor event ≡ by → IsWorld (gathered old by was parts event)
gathered_world old by was parts event world is own =
    let grown = length_push old.events event in
    let before = world.sound by was is in
    let sound : IsSoundMember (length old.members) (length old.events) by (record was { parts = Some parts }) =
    record { replica = before.replica; pending = before.pending } in
    world_after old (old.events ++ event ∷ []) by was (record was { parts = Some parts }) is world
    (member_more sound (omega (arith, grown))) (omega (arith, grown)) (plain_with world event is.member own)
    (slice_set old.members (by - 1) (record was { parts = Some parts })) refl

-- so it is where the code has come to that
pub gathered_inside : (members : List Member) (events : List Event) (post : Outbox) (by : ℕ) (was : Member)
    (parts : HeldParts) (event : Event) (after : List Member) (stored : List Event) → IsWorld (whole_of members events post)
    → IsNumbered members by was → actor event ≡ by → after ≡ slice_set members (by - 1) (record was { parts = Some parts })
    → stored ≡ events ++ event ∷ [] → IsWorld (whole_of after stored post)
gathered_inside members events post by was parts event after stored world is own now_is stored_is =
    let whole = whole_of members events post in
    subst (λ (list : List Member). IsWorld (whole_of list stored post)) (sym now_is)
    (subst (λ (list : List Event). IsWorld (whole_of (gathered whole by was parts event).members list post))
    (sym stored_is) (gathered_world whole by was parts event world is own))

collected_events : (old new : Whole) (by : ℕ) (was : Member) (parts : HeldParts) (event : Event)
    → new ≡ gathered old by was parts event → length new.events ≤ length old.events + 1
collected_events old new by was parts event is =
    let grown = ap (λ (w : Whole). length w.events) is ∙ length_push old.events event in omega (arith, grown)

pub gathered_members : (old new : Whole) (by : ℕ) (was : Member) (parts : HeldParts) (event : Event)
    → new ≡ gathered old by was parts event → length new.members ≡ length old.members
gathered_members old new by was parts event is =
    ap (λ (w : Whole). length w.members) is ∙ length-set old.members (by - 1) _

-- so it is one action
pub piece_acts : {K D A : Type 0} {keep : Keep K} {disk : Disk D} {given : A} {old new : Whole}
    {stables : List (Stable K)} {x : List (Pair D)} (by : ℕ) {was : Member} (parts : HeldParts) (event : Event)
    → IsNumbered old.members by was → new ≡ gathered old by was parts event
    → IsBacked keep disk (backed_by old stables) x
    → Acts keep disk 1 (Ok given) (backed_by old stables) (backed_by new stables) x x
piece_acts {keep = keep} {disk = disk} {old = old} {new = new} {stables = stables} {x = x} by {was} parts event is same backed =
    let members = gathered_members old new by was parts event same in
    record {
      grows = collected_events old new by was parts event same;
      members = members;
      stables = refl;
      memory = λ e. absurd (cc);
      touches = TouchesNone;
      spared = λ e. spared_none disk x;
      backed = record {
        pairs = omega (arith, members, backed.pairs);
        disks = holding_disks old.members by was is (Some parts) keep disk stables x old.members new.members
            (refl, ap (λ (w : Whole). w.members) same) backed.disks;
      };
    }

-- what is found of who takes a piece that came, and what the piece is to what it holds
abbrev pub FitsAt : Delivery → PieceHead → Whole → Fitting → Type 0
FitsAt came head old fits =
    (was : Member) × FindsTaker came head old (Ok was) (unchanged old)
    × IsPlaced (parts_held was.parts head) head.index fits

module _ (came : Delivery) (head : PieceHead) (old : Whole) where
  -- a piece for a member that is up, and waits for it, fits, or doesn't
  module _ (was : Member) (waiting : IsWaiting old came was) where
    abbrev before : HeldParts
    before = parts_held was.parts head

    pub fitting_found : (result : Result Fitting Refusal) → IfOk result (λ fits. (before.state ≡ head.state)
        × (before.pieces ≡ head.pieces) × IsPlaced before head.index fits) → IfOk result (FitsAt came head old)
    fitting_found (Ok fits) is = (was, FindsIt waiting is.0 is.1, is.2)
    fitting_found (Err r) is = tt

    pub fitting_refused : (result : Result Fitting Refusal)
        → (IsErrOf result refusal.Mixed → before.state ≢ head.state)
        → (IsErrOf result refusal.BadMessage → (before.state ≡ head.state) × (before.pieces ≢ head.pieces))
        → IfErr result (λ r. (r ≡ refusal.Mixed) ⊎ (r ≡ refusal.BadMessage))
        → IfErr result (λ r. (r ≢ refusal.Memory) × FindsTaker came head old (Err r) (unchanged old))
    fitting_refused (Ok fits) mixed otherwise either = tt
    fitting_refused (Err refusal.Mixed) mixed otherwise either = ((λ e. cc), OfAnotherState waiting (mixed refl))
    fitting_refused (Err refusal.BadMessage) mixed otherwise either =
        ((λ e. cc), OfOtherPieces waiting (otherwise refl).0 (otherwise refl).1)
    fitting_refused (Err r) mixed otherwise (inl is) = absurd (cc)
    fitting_refused (Err r) mixed otherwise (inr is) = absurd (cc)

  -- who takes it waits for it, and holds pieces of as many
  taker : (result : Result Member Refusal) (left : Effect Whole) → FindsTaker came head old result left → (was : Member)
      → result ≡ Ok was → IsWaiting old came was × ((parts_held was.parts head).pieces ≡ head.pieces)
  taker result left (FindsIt {was = found} waiting states counts) was is =
      let same : found ≡ was = cc in
      subst (λ (m : Member). IsWaiting old came m × ((parts_held m.parts head).pieces ≡ head.pieces)) same
      (waiting, counts)
  taker result left (TakerDown at down) was is = absurd (cc)
  taker result left (AnswersNone at up none) was is = absurd (cc)
  taker result left (OfAnotherState waiting differs) was is = absurd (cc)
  taker result left (OfOtherPieces waiting states differs) was is = absurd (cc)

  module _ (was : Member) (finds : FindsTaker came head old (Ok was) (unchanged old)) where
    pub taker_is : IsNumbered old.members came.to was
    taker_is = let takes = taker (Ok was) (unchanged old) finds was refl in takes.0.is

    pub taker_up : IsUpIn old came.to
    taker_up =
        let takes = taker (Ok was) (unchanged old) finds was refl in
        record { member = was; is = takes.0.is; up = takes.0.up }

    pub taker_pieces : (parts_held was.parts head).pieces ≡ head.pieces
    taker_pieces = let takes = taker (Ok was) (unchanged old) finds was refl in takes.1

  -- what the piece is to what the member holds to whom it came
  module _ (fits : Fitting) (at : FitsAt came head old fits) (was : Member) (is : IsNumbered old.members came.to was) where
    same_taker : at.0 ≡ was
    same_taker = number_once (taker_is at.0 at.1) is

    pub fits_placed : IsPlaced (parts_held was.parts head) head.index fits
    fits_placed =
        subst (λ (m : Member). IsPlaced (parts_held m.parts head) head.index fits) same_taker at.2

    pub fits_index : head.index < head.pieces → head.index < (parts_held was.parts head).pieces
    fits_index below =
        subst (λ (m : Member). head.index < (parts_held m.parts head).pieces) same_taker
        (subst (λ n. head.index < n) (sym (taker_pieces at.0 at.1)) below)

-- who takes a piece that is one more holds it beside the others
pub record HoldsMore (came : Delivery) (head : PieceHead) (bytes : List ℕ) (have : ℕ) (old new : Whole) : Type 0 where
  pub was : Member
  pub finds : FindsTaker came head old (Ok was) (unchanged old)
  pub placed : IsPlaced (parts_held was.parts head) head.index (fitting.OneMore have)
  pub place : Behind
  pub lies : IsNumbered old.post.behind came.mail place
  pub same : new ≡ gathered old came.to was (with_part (parts_held was.parts head) head.index bytes)
      (Take came.to place.position head.index)

pub holds_more : (came : Delivery) (head : PieceHead) (bytes : List ℕ) (have : ℕ) (old new : Whole) (fits : Fitting)
    → FitsAt came head old fits → fits ≡ fitting.OneMore have → IsMember (length old.post.behind) came.mail
    → ((was : Member) (place : Behind) → IsNumbered old.members came.to was
    → IsNumbered old.post.behind came.mail place
    → new ≡ gathered old came.to was (with_part (parts_held was.parts head) head.index bytes)
    (Take came.to place.position head.index)) → HoldsMore came head bytes have old new
holds_more came head bytes have old new fits at is mail gathers =
    let place = number_exists old.post.behind came.mail mail in
    let one = subst (λ (f : Fitting). FitsAt came head old f) is at in
    record {
      was = one.0;
      finds = one.1;
      placed = one.2;
      place = place.0;
      lies = place.1;
      same = gathers one.0 place.0 (taker_is came head old one.0 one.1) place.1;
    }

-- what is said of rows, and of the count of members, is said of those that are the same
pub at_rows : {count n : ℕ} {es entries : List Entry} {fs files : List FileReplica}
    (P : ℕ → List Entry → List FileReplica → Type 0) → n ≡ count → entries ≡ es → files ≡ fs → P n es fs
    → P count entries files
at_rows {count} {n} {es} {entries} {fs} {files} P counted entries_are files_are is =
    subst (λ k. P k entries files) counted
    (subst (λ (list : List Entry). P n list files) (sym entries_are)
    (subst (λ (list : List FileReplica). P n es list) (sym files_are) is))

-- the pieces that are held, joined with the last that was missing, are all
module _ (was : Member) (head : PieceHead) (bytes : List ℕ) where
  pub joined_some : {held : HeldParts} → was.parts ≡ Some held
      → joined_parts (with_part held head.index bytes) ≡ spelled_with was head bytes
  joined_some is =
      ap (λ (p : Option HeldParts). joined_parts (with_part (parts_held p head) head.index bytes)) (sym is)

  -- where none are held, the last is all
  pub joined_none : head.index < head.pieces → IsPlaced (parts_held was.parts head) head.index fitting.TheLast
      → was.parts ≡ None → bytes ≡ spelled_with was head bytes
  joined_none below placed is =
      let last = subst (λ (p : Option HeldParts). IsPlaced (parts_held p head) head.index fitting.TheLast) is placed in
      subst (λ (p : Option HeldParts). bytes ≡ joined_parts (with_part (parts_held p head) head.index bytes)) (sym is)
      (sym (joined_one head.state head.pieces head.index below bytes last.1))

-- What taking a piece does.
module _ {K D : Type 0} (keep : Keep K) (disk : Disk D) (came : Delivery) (head : PieceHead) (bytes : List ℕ)
    (old : Whole) (disks : List (Pair D)) where
  -- it is refused
  pub piece_refused : (r : Refusal) → FindsTaker came head old (Err r) (unchanged old)
      → CarriedOn keep disk (TakesPiece came head bytes) (Err r) old old disks disks
  piece_refused r finds =
      carried_none (TakesPiece came head bytes) (Err r) old disks
      (or_refused (λ given. TakesPiece came head bytes old given (unchanged old)) r (λ other. Ends finds))

  module _ (was : Member) (finds : FindsTaker came head old (Ok was) (unchanged old)) where
    abbrev held : HeldParts
    held = parts_held was.parts head

    -- it is held already
    pub piece_again : (have : ℕ) → IsPlaced held head.index (fitting.Again have)
        → CarriedOn keep disk (TakesPiece came head bytes) (Ok (Part have head.pieces)) old old disks disks
    piece_again have placed =
        carried_none (TakesPiece came head bytes) (Ok (Part have head.pieces)) old disks
        (subst (λ n. TakesPiece came head bytes old (Ok (Part n head.pieces)) (unchanged old)) (sym placed.1)
        (Goes finds (IsHeld placed.0)))

    -- it is one more
    pub piece_more : (have : ℕ) (new : Whole) (place : Behind) → IsPlaced held head.index (fitting.OneMore have)
        → IsNumbered old.post.behind came.mail place
        → new ≡ gathered old came.to was (with_part held head.index bytes) (Take came.to place.position head.index)
        → CarriedOn keep disk (TakesPiece came head bytes) (Ok (Part have head.pieces)) old new disks disks
    piece_more have new place placed place_is is = record {
      outcomes = [];
      does = subst (λ (w : Whole). TakesPiece came head bytes old (Ok (Part have head.pieces))
          (record { outcomes = []; after = w })) (sym is)
          (subst (λ n. TakesPiece came head bytes old (Ok (Part n head.pieces)) (record {
            outcomes = [];
            after =
                gathered old came.to was (with_part held head.index bytes) (Take came.to place.position head.index);
          })) (sym placed.2) (Goes finds (IsOneMore placed.0 placed.1 place_is)));
      disks = follows_none;
      fuses = subst (λ (w : Whole). FusesFollow keep disk [] old.members w.members disks disks) (sym is)
          (holding_fuses old.members came.to was (taker_is came head old was finds)
          (Some (with_part held head.index bytes)) keep disk disks);
    }

    -- it is the last
    pub piece_last : (result : Result Answer Refusal) (new : Whole) (after : List (Pair D))
        → IsPlaced held head.index fitting.TheLast
        → CarriedOn keep disk (TakesSpelled came head.index (joined_parts (with_part held head.index bytes))) result old
        new disks after → CarriedOn keep disk (TakesPiece came head bytes) result old new disks after
    piece_last result new after placed takes =
        carried_then (FindsTaker came head) (TakesFitting came head bytes) old old new disks disks after result
        (carried_none (FindsTaker came head) (Ok was) old disks finds) (record {
          outcomes = takes.outcomes;
          does = fits_last result takes.does;
          disks = takes.disks;
          fuses = takes.fuses;
        })
      where
        left : Effect Whole
        left = record { outcomes = takes.outcomes; after = new }

        fits_last : (result : Result Answer Refusal) → OrMemory (λ given. TakesSpelled came head.index
            (joined_parts (with_part held head.index bytes)) old given left) result
            → OrMemory (λ given. TakesFitting came head bytes was old given left) result
        fits_last (Ok answer) does = IsTheLast placed.0 placed.1 does
        fits_last (Err refusal.Memory) does = tt
        fits_last (Err r) does = IsTheLast placed.0 placed.1 does

-- whatever is given of a taking in a world, is given of it in the same world
pub taking_in : (came : Delivery) (head : PieceHead) (bytes : List ℕ) (result : Result Taking Refusal)
    {one other : Whole} → one ≡ other → ((was : Member) → IsNumbered one.members came.to was
    → GivesTaking came head.index (spelled_with was head bytes) one result) → (was : Member)
    → IsNumbered other.members came.to was → GivesTaking came head.index (spelled_with was head bytes) other result
taking_in came head bytes result same gives =
    subst (λ (w : Whole). (was : Member) → IsNumbered w.members came.to was
    → GivesTaking came head.index (spelled_with was head bytes) w result) same gives

-- What becomes of a member that takes tables.
module _ {came : Delivery} {index : ℕ} {bytes noted : List ℕ} {old : Whole} {next : Pending}
    (taking : IsTaking came index bytes old next noted) where
  pub taking_saved : TakesSpelled came index bytes old (Ok Done)
      (saved came.to (advanced old came.to taking.was next.replica next.event))
  taking_saved =
      SpellsTables taking.fits taking.spelled
      (subst (λ (happens : Event). TakesTables came index taking.entries taking.files old (Ok Done)
      (saved came.to (advanced old came.to taking.was next.replica happens))) (sym taking.happens)
      (Takes taking.is taking.up taking.is_place taking.gives))

  pub taking_unsaved : TakesSpelled came index bytes old (Err refusal.Store) (not_saved old came.to taking.was next)
  taking_unsaved =
      SpellsTables taking.fits taking.spelled
      (subst (λ (happens : Event). TakesTables came index taking.entries taking.files old (Err refusal.Store)
      (not_saved old came.to taking.was (pending_of next.replica happens))) (sym taking.happens)
      (TakesNot taking.is taking.up taking.is_place taking.gives))

-- bytes that spell no tables aren't taken
pub rows_refused : (came : Delivery) (index : ℕ) (tables : List ℕ) (old : Whole) (r : Refusal)
    → (r ≢ refusal.Memory → (r ≡ refusal.BadMessage) × ((entries : List Entry) (files : List FileReplica)
    → FitsTables (length old.members) entries files → tables ≡ tables_bytes (length old.members) entries files → ⊥))
    → r ≢ refusal.Memory → TakesSpelled came index tables old (Err r) (unchanged old)
rows_refused came index tables old r refused other =
    subst (λ (given : Refusal). TakesSpelled came index tables old (Err given) (unchanged old))
    (sym (refused other).0) (SpellsNone (refused other).1)
