-- What was opened is a world, and stands for what its disks stood for.
use Rattle.std.proofs.Common.{◌≡◌, ℕ, zero, suc, ◌+◌, ◌-◌, ◌≤◌, Bool, List, [], ◌∷◌, ◌++◌, length, replicate, take, Option, None, refl, sym, ap, subst, ◌∙◌, append_assoc, inl, inr, ◌⊎◌, arith}
use Rattle.std.specs.Prelude.{map}
use Rattle.std.specs.List.{range_with_len}
use Rattle.std.proofs.lemmas.Bool.{cases_eq}
use Rattle.std.proofs.lemmas.List.{append-nil, length-replicate, get_or-replicate, length-take-le, get_or-take, length-map, get_or-map}
use Rattle.std.proofs.lemmas.List.Elements.{All-nil, All-push}
use Rattle.std.proofs.lemmas.Option.{get_or_from_slice_get}
use Rattle.ficus_opening.proofs.check.Owning.{holds_same}
use Rattle.ficus_disk.specs.declared.pair.Pair.{Pair}
use Rattle.ficus_ids.specs.Members.{IsCount, IsMember}
use Rattle.ficus_keeper.specs.Kept.{Kept, found_in}
use Rattle.ficus_laws.proofs.Positions.{at_cases, at_within}
use Rattle.ficus_model.specs.declared.event.Event.{Event}
use Rattle.ficus_model.specs.declared.event.Event.TheVariants.{Restart, Serve}
use Rattle.ficus_model.specs.Events.{IsAt, actor, raised}
use Rattle.ficus_model.specs.Lawful.{Volume}
use Rattle.ficus_replica.proofs.Events.{quiet_stands, restart_stands}
use Rattle.ficus_replica.proofs.Saves.{saved_kept}
use Rattle.ficus_replica.specs.SavedOf.{IsSavedOf, StandsFor}
use Rattle.ficus_replica.specs.declared.replica.Replica.{Replica}
use Rattle.ficus_stable_storage.specs.Leads.Holds.{Holds, OneHeld}
use Rattle.ficus_runs.specs.ModelWorld.{Standing}
use Rattle.ficus_runs.specs.ModelWorld as model
use Rattle.ficus_runs.specs.Numbered.{IsNumbered}
use Rattle.ficus_runs.specs.Start.{restarts, start}
use Rattle.ficus_opening.specs.Disks.{are_fused}
use Rattle.ficus_opening.specs.Opening.{AreOpened, AreRead, StandsOn, Steady, fuses_in}
use Rattle.ficus_world.specs.Post.{Outbox}
use Rattle.ficus_world.specs.declared.post.Behind.{Behind}
use Rattle.ficus_world.specs.World.{IsPendingSound, IsSoundMember, IsWorld, MemberStandsFor, PartsStandFor, StateStandsFor, Whole, WorldStandsFor, whole_of}
use Rattle.ficus_wire.specs.Parts.{HeldParts}
use Rattle.ficus_opening.specs.declared.member.Member.{Member}
use Rattle.ficus_opening.specs.declared.member.MemberState.{MemberState}
use Rattle.ficus_opening.specs.declared.member.MemberState.TheVariants.{Up}
use Rattle.ficus_why.specs.Plain.{IsPlain}
use Rattle.ficus_runs.proofs.Numbers.{number_exists}
use Rattle.ficus_opening.proofs.Openings.{opens_of, opens_same}
use Rattle.ficus_world.proofs.Lifting.Parts.{others_leave_taken, parts_ended, parts_left}
use Rattle.ficus_runs.proofs.Starts.{restarts_more, restarts_raised, start_lawful, start_of_run}
use Rattle.ficus_opening.proofs.Stand.{saved_is}
use Rattle.ficus_opening.proofs.Steadies.{steady_back}

-- nothing is posted
pub record IsEmpty (post : Outbox) : Type 0 where
  pub behind : post.behind ≡ []
  pub posts : post.posts ≡ []

-- over a link without messages nothing is
pub empty_post : (post : Outbox) (posts : List (List ℕ)) (total faults : ℕ)
    → post ≡ record { behind = []; posts = posts; total = total; faults = faults } → posts ≡ [] → IsEmpty post
empty_post post posts total faults is none = record {
  behind = ap (λ (p : Outbox). p.behind) is;
  posts = ap (λ (p : Outbox). p.posts) is ∙ none;
}

restarts_plain : (count : ℕ) → count ≤ 8 → IsPlain (restarts count)
restarts_plain zero few = All-nil (λ e. IsMember 8 (actor e))
restarts_plain (suc count) few =
    let next : count + 1 ≡ suc count = omega arith in
    subst (λ n. IsPlain (restarts n)) next
    (subst IsPlain (sym (restarts_more count))
    (All-push (λ e. IsMember 8 (actor e)) (restarts count) (Restart (count + 1)) (restarts_plain count (omega arith))
    (record { at_least = omega arith; at_most = omega arith })))

module _ (members : List Member) (opened : AreOpened members) (count : IsCount (length members))
    (counted : (first : Member) → IsNumbered members 1 first → first.replica.saved.members ≡ length members) where
  pub first_member : (first : Member) × IsNumbered members 1 first
  first_member =
      number_exists members 1 (record { at_least = omega arith; at_most = omega (arith, count.at_least) })

  sound : (events r : ℕ) (member : Member) → IsNumbered members r member
      → IsSoundMember (length members) events r member
  sound events r member at =
      let so = opened.each r first_member.0 member first_member.1 at in
      let generation = so.may.own.generation in
      record {
        replica = record {
          me = so.may.own.me;
          members = so.may.same.members ∙ counted first_member.0 first_member.1;
          fits = so.fits;
          generation = omega (arith, generation);
        };
        pending =
            subst (λ (s : MemberState). IsPendingSound (length members) events r member.replica s) (sym so.up) tt;
      }

  pub opened_world : (events : List Event) (post : Outbox) → events ≡ restarts (length members) → IsEmpty post
      → IsWorld (whole_of members events post)
  opened_world events post restart empty = record {
    count = count;
    sound = sound (length events);
    plain = subst IsPlain (sym restart) (restarts_plain (length members) count.at_most);
    counted = ap (λ (l : List (List ℕ)). length l) empty.posts ∙ sym (ap (λ (l : List Behind). length l) empty.behind);
    few = omega (arith, ap (λ (l : List (List ℕ)). length l) empty.posts);
    within = omega (arith, ap (λ (l : List (List ℕ)). length l) empty.posts);
  }

  module _ {D : Type 0} (kept : List ℕ → List ℕ → Option Kept) (seen : D → List ℕ) (old now : List (Pair D))
      (same : Steady seen old now) (enough : length members ≤ length now)
      (held : (r : ℕ) (member : Member) (pair : Pair D) → IsNumbered members r member → IsNumbered now r pair
      → Holds (found_in kept seen pair) member.replica.saved) where
    pub opened_read : AreRead kept seen old members
    opened_read = record {
      first = first_member.0.replica.saved;
      counted = sym (counted first_member.0 first_member.1);
      each = λ r member at. (
        (opened.each r first_member.0 member first_member.1 at).up,
        opens_same kept seen now old first_member.0.replica.saved member.replica.saved r (steady_back seen old now same)
            (opens_of kept seen members now opened held r first_member.0 member first_member.1 at
            (omega (arith, at.member.at_most, enough))),
      );
    }

-- a member that waits for no answer stands for the history with the restarts
module _ (volume : Volume) (H : List Event) (r : ℕ) (replica : Replica) (is : IsSavedOf volume H r replica.saved)
    (quiet : replica.ask ≡ None) where
  abbrev behind : ℕ → List Event
  behind count = H ++ restarts count

  one_more : (count : ℕ) → behind (count + 1) ≡ behind count ++ Restart (count + 1) ∷ []
  one_more count =
      ap (λ (l : List Event). H ++ l) (restarts_more count)
      ∙ sym (append_assoc H (restarts count) (Restart (count + 1) ∷ []))

  saved_behind : (count : ℕ) → IsSavedOf volume (behind count) r replica.saved
  saved_behind zero = subst (λ (l : List Event). IsSavedOf volume l r replica.saved) (sym (append-nil H)) is
  saved_behind (suc count) =
      let next : count + 1 ≡ suc count = omega arith in
      subst (λ n. IsSavedOf volume (behind n) r replica.saved) next
      (subst (λ (l : List Event). IsSavedOf volume l r replica.saved) (sym (one_more count))
      (saved_kept (Restart (count + 1)) (inr tt) refl (saved_behind count) refl))

  restarted_next : (count : ℕ) → (r ≤ count → StandsFor volume (behind count) r replica) → r ≤ count + 1
      → StandsFor volume (behind count ++ Restart (count + 1) ∷ []) r replica
  restarted_next count before within = elim (cases_eq (count + 1) r) [
    | inl same ↦
        subst (λ k. StandsFor volume (behind count ++ Restart k ∷ []) r replica) (sym same)
        (restart_stands volume (behind count) r replica.saved replica (saved_behind count) refl quiet)
    | inr differs ↦
        quiet_stands volume (behind count) r replica (Restart (count + 1)) (before (omega (arith, within, differs)))
        (inl differs)
  ]

  pub restarted : (count : ℕ) → 1 ≤ r → r ≤ count → StandsFor volume (behind count) r replica
  restarted zero one within = absurd (omega (arith, one, within))
  restarted (suc count) one within =
      let next : count + 1 ≡ suc count = omega arith in
      subst (λ n. StandsFor volume (behind n) r replica) next
      (subst (λ (l : List Event). StandsFor volume l r replica) (sym (one_more count))
      (restarted_next count (λ earlier. restarted count one earlier) (omega (arith, within))))

-- and has taken nothing since
module _ (volume : Volume) (H : List Event) (r : ℕ) where
  parts_next : (count : ℕ) → (r ≤ count → PartsStandFor volume (H ++ restarts count) r None) → r ≤ count + 1
      → PartsStandFor volume ((H ++ restarts count) ++ Restart (count + 1) ∷ []) r None
  parts_next count before within = elim (cases_eq (count + 1) r) [
    | inl same ↦ parts_ended (H ++ restarts count) (Restart (count + 1)) r volume same
    | inr differs ↦
        parts_left (H ++ restarts count) (Restart (count + 1)) r volume
        (others_leave_taken r (Restart (count + 1)) differs) None (before (omega (arith, within, differs)))
  ]

  nothing_taken : (count : ℕ) → 1 ≤ r → r ≤ count → PartsStandFor volume (H ++ restarts count) r None
  nothing_taken zero one within = absurd (omega (arith, one, within))
  nothing_taken (suc count) one within =
      let next : count + 1 ≡ suc count = omega arith in
      let more : H ++ restarts (count + 1) ≡ (H ++ restarts count) ++ Restart (count + 1) ∷ [] =
      ap (λ (l : List Event). H ++ l) (restarts_more count)
      ∙ sym (append_assoc H (restarts count) (Restart (count + 1) ∷ [])) in
      subst (λ n. PartsStandFor volume (H ++ restarts n) r None) next
      (subst (λ (l : List Event). PartsStandFor volume l r None) (sym more)
      (parts_next count (λ earlier. nothing_taken count one earlier) (omega (arith, within))))

-- none of the restarts serves
restarts_serve_none : (H : List Event) (count : ℕ) {position server ask state pieces : ℕ} → length H ≤ position
    → IsAt (H ++ restarts count) position (Serve server ask state pieces) → ⊥
restarts_serve_none H zero {position} {server} {ask} {state} {pieces} since at =
    omega (
      arith,
      since,
      at_within (subst (λ (l : List Event). IsAt l position (Serve server ask state pieces)) (append-nil H) at),
    )
restarts_serve_none H (suc count) {position} {server} {ask} {state} {pieces} since at =
    go (λ was. restarts_serve_none H count since was) (at_cases (Restart (count + 1)) there)
  where
    there : IsAt ((H ++ restarts count) ++ Restart (count + 1) ∷ []) position (Serve server ask state pieces)
    there =
        subst (λ (l : List Event). IsAt l position (Serve server ask state pieces))
        (sym (append_assoc H (restarts count) (Restart (count + 1) ∷ [])))
        (subst (λ (l : List Event). IsAt (H ++ l) position (Serve server ask state pieces)) (restarts_more count)
        (subst (λ n. IsAt (H ++ restarts n) position (Serve server ask state pieces))
        (let next : suc count ≡ count + 1 = omega arith in next) at))

    go : (IsAt (H ++ restarts count) position (Serve server ask state pieces) → ⊥)
        → IsAt (H ++ restarts count) position (Serve server ask state pieces)
        ⊎ ((position ≡ length (H ++ restarts count)) × (Serve server ask state pieces ≡ Restart (count + 1))) → ⊥
    go earlier (inl was) = earlier was
    go earlier (inr (end, is)) = absurd (cc)

stands_up : (volume : Volume) (H : List Event) (raise r : ℕ) (s : MemberState) (modelled : Standing) → s ≡ Up
    → modelled ≡ model.Up → StateStandsFor volume H raise r s modelled
stands_up volume H raise r s modelled up also =
    subst (λ (m : Standing). StateStandsFor volume H raise r s m) (sym also)
    (subst (λ (x : MemberState). StateStandsFor volume H raise r x model.Up) (sym up) tt)

all_up : (count r : ℕ) (standing : Standing) → IsNumbered (replicate count model.Up) r standing → standing ≡ model.Up
all_up count r standing at =
    let one = at.member.at_least in
    let most = at.member.at_most in
    let long = length-replicate count model.Up in
    sym (get_or_from_slice_get (replicate count model.Up) (r - 1) standing standing at.is)
    ∙ get_or-replicate count (r - 1) model.Up standing (omega (arith, one, most, long))

-- whether the disks of a member have a fuse
fused_at : {D : Type 0} (armings : D → Option ℕ) (disks : List (Pair D)) (count r : ℕ) (fused : Bool) (pair : Pair D)
    → count ≤ length disks → IsNumbered (take count (fuses_in armings disks)) r fused → IsNumbered disks r pair
    → fused ≡ are_fused armings pair
fused_at {D} armings disks count r fused pair enough at at_pair =
    let one = at.member.at_least in
    let most = at.member.at_most in
    let long = length-map disks (are_fused armings) in
    let taken = length-take-le count (fuses_in armings disks) (omega (arith, enough, long)) in
    let within = at_pair.member.at_most in
    sym (get_or_from_slice_get (take count (fuses_in armings disks)) (r - 1) fused fused at.is)
    ∙ get_or-take count (fuses_in armings disks) (r - 1) fused (omega (arith, one, most, taken))
    ∙ get_or-map (are_fused armings) disks (r - 1) pair fused (omega (arith, one, within))
    ∙ ap (λ (p : Pair D). are_fused armings p) (get_or_from_slice_get disks (r - 1) pair pair at_pair.is)

module _ {K D : Type 0} (tells : Type 0) (kept : List ℕ → List ℕ → Option Kept)
    (fits : K → List ℕ → List ℕ → Type 0) (seen : D → List ℕ) (may_leave : D → List ℕ → Type 0)
    (armings : D → Option ℕ) (world : Whole) where
  -- what was opened on disks that stand for a history stands for it with the restarts
  pub opened_stands : OneHeld → (volume : Volume) (H : List Event) (old now : List (Pair D)) (total : ℕ) → tells
      → StandsOn kept seen volume H old → length old ≡ 8 → Steady seen old now → Steady armings old now
      → AreOpened world.members → IsCount (length world.members)
      → ((first : Member) → IsNumbered world.members 1 first → first.replica.saved.members ≡ length world.members)
      → ((r : ℕ) (member : Member) (pair : Pair D) → IsNumbered world.members r member → IsNumbered now r pair
      → Holds (found_in kept seen pair) member.replica.saved)
      → ((r : ℕ) (member : Member) (pair : Pair D) → IsNumbered world.members r member → IsNumbered now r pair
      → member.fused ≡ are_fused armings pair)
      → world.events ≡ restarts (length world.members) → IsEmpty world.post → world.post.total ≡ total
      → WorldStandsFor volume (start H volume.members total (take volume.members (fuses_in armings old))) world
  opened_stands held_once volume H old now total told on eight same unarmed opened count counted held fused events empty total_is =
      record {
        count = on.count;
        members = as_many;
        standings = length-replicate volume.members model.Up;
        fuses =
            length-take-le volume.members (fuses_in armings old)
            (omega (arith, length-map old (are_fused armings), eight, few));
        lawful = start_lawful volume H on.lawful;
        stored = record {
          earlier = H;
          is =
              ap (λ (l : List Event). H ++ l)
              (restarts_raised (length H) (range_with_len 1 volume.members)
              ∙ ap (λ (l : List Event). map (raised (length H)) l)
              (sym (events ∙ ap (λ n. restarts n) as_many)));
        };
        began = refl;
        each = each;
        run = start_of_run volume H volume.members total (take volume.members (fuses_in armings old));
        served = λ position server ask state pieces saved since at is.
            absurd (restarts_serve_none H volume.members since at);
        total = total_is;
        posted = sym (ap (λ (l : List Behind). length l) empty.behind);
        counted = ap (λ (l : List (List ℕ)). length l) empty.posts ∙ sym (ap (λ (l : List Behind). length l) empty.behind);
        mail = λ number place bytes behind_at posts.
            let none : 0 ≡ length world.post.behind = sym (ap (λ (l : List Behind). length l) empty.behind) in
            absurd (omega (arith, none, behind_at.member.at_least, behind_at.member.at_most));
      }
    where
      few : volume.members ≤ 8
      few = on.count.at_most

      first : (member : Member) × IsNumbered world.members 1 member
      first = first_member world.members opened count counted

      -- the disks of a member, as they were
      was_of : (r : ℕ) → IsMember 8 r → (pair : Pair D) × IsNumbered old r pair
      was_of r member = number_exists old r (subst (λ n. IsMember n r) (sym eight) member)

      is_of : (r : ℕ) (member : Member) → IsNumbered world.members r member → IsMember volume.members r
          → IsSavedOf volume H r member.replica.saved
      is_of r member at numbered =
          let was = was_of r (record { at_least = numbered.at_least; at_most = omega (arith, numbered.at_most, few) }) in
          let now_is = number_exists now r (subst (λ n. IsMember n r) (sym same.count) was.1.member) in
          saved_is kept seen volume H old on held_once r was.0 member.replica.saved was.1 numbered
          (holds_same kept seen was.0 now_is.0 member.replica.saved (same.each r was.0 now_is.0 was.1 now_is.1)
          (held r member now_is.0 at now_is.1))

      as_many : length world.members ≡ volume.members
      as_many =
          sym (counted first.0 first.1)
          ∙ (is_of 1 first.0 first.1
          (record { at_least = omega arith; at_most = omega (arith, on.count.at_least) })).members

      each : (r : ℕ) (member : Member) (modelled : Standing) (is_fused : Bool) → IsNumbered world.members r member
          → IsNumbered (replicate volume.members model.Up) r modelled
          → IsNumbered (take volume.members (fuses_in armings old)) r is_fused
          → MemberStandsFor volume (H ++ restarts volume.members) (length H) r member modelled is_fused
      each r member modelled is_fused at at_standing at_fused =
          let numbered : IsMember volume.members r = subst (λ n. IsMember n r) as_many at.member in
          let was = was_of r (record { at_least = numbered.at_least; at_most = omega (arith, numbered.at_most, few) }) in
          let now_is = number_exists now r (subst (λ n. IsMember n r) (sym same.count) was.1.member) in
          let stays = unarmed.each r was.0 now_is.0 was.1 now_is.1 in
          let so = opened.each r first.0 member first.1 at in
          record {
            replica =
                restarted volume H r member.replica (is_of r member at numbered) so.asks volume.members
                numbered.at_least numbered.at_most;
            parts =
                subst (λ (p : Option HeldParts). PartsStandFor volume (H ++ restarts volume.members) r p) (sym so.parts)
                (nothing_taken volume H r volume.members numbered.at_least numbered.at_most);
            state =
                stands_up volume (H ++ restarts volume.members) (length H) r member.state modelled so.up
                (all_up volume.members r modelled at_standing);
            fuses =
                fused r member now_is.0 at now_is.1 ∙ same_fuses was.0 now_is.0 stays.a stays.b
                ∙ sym (fused_at armings old volume.members r is_fused was.0 (omega (arith, few, eight)) at_fused was.1);
          }
        where
          same_fuses : (one two : Pair D) → armings two.a ≡ armings one.a → armings two.b ≡ armings one.b
              → are_fused armings two ≡ are_fused armings one
          same_fuses one two a b = cc
