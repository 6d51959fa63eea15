-- The world of one member that was opened alone: it is a world, and one of those that stand for what all disks stood for.
use Rattle.std.proofs.Common.{◌≡◌, ℕ, zero, suc, ◌+◌, ◌-◌, ◌≤◌, Bool, Option, List, [], ◌∷◌, ◌++◌, length, replicate, None, refl, sym, ap, subst, ◌∙◌, inl, inr, ◌⊎◌, arith}
use Rattle.std.specs.Prelude.{take}
use Rattle.std.proofs.lemmas.Bool.{cases_eq}
use Rattle.std.proofs.lemmas.List.{get_or-replicate, length-replicate, length_push}
use Rattle.std.proofs.lemmas.List.Elements.{All-cons, All-nil}
use Rattle.ficus_disk.specs.declared.disk.Disk.{Ghosts as Disk}
use Rattle.ficus_disk.specs.declared.pair.Pair.{Pair}
use Rattle.ficus_durable_state.specs.Saved.{FitsImage}
use Rattle.ficus_durable_state.specs.declared.saved.Saved.{Saved}
use Rattle.ficus_ids.specs.Members.{IsCount, IsMember}
use Rattle.ficus_keeper.specs.Kept.{Kept, found_in}
use Rattle.ficus_keeper.specs.Pairs.{PairSame}
use Rattle.ficus_keeper.specs.declared.keep.Keep.{Ghosts as Keep}
use Rattle.ficus_model.specs.Lawful.{Volume}
use Rattle.ficus_model.specs.declared.event.Event.{Event}
use Rattle.ficus_model.specs.declared.event.Event.TheVariants.{Restart}
use Rattle.ficus_model.specs.Events.{actor}
use Rattle.ficus_why.specs.Plain.{IsPlain}
use Rattle.ficus_runs.specs.ModelWorld.{IsUp}
use Rattle.ficus_runs.specs.ModelWorld as model
use Rattle.ficus_runs.specs.Numbered.{IsNumbered}
use Rattle.ficus_runs.specs.Start.{restarts, start}
use Rattle.ficus_runs.proofs.Numbers.{number_cases, number_end, number_exists, number_once, number_read}
use Rattle.ficus_stable_storage.specs.Leads.Holds.{Holds, OneHeld}
use Rattle.ficus_opening.specs.Alone.{AreKept, IsAbsent, IsAlone, volume_of}
use Rattle.ficus_opening.specs.Disks.{are_fused}
use Rattle.ficus_opening.specs.Opening.{IsOpened, StandsOn, Steady, fuses_in, opened_member}
use Rattle.ficus_opening.specs.Stand.{KeepsOf}
use Rattle.ficus_opening.specs.declared.member.Member.{Member}
use Rattle.ficus_opening.specs.declared.member.MemberState.{MemberState}
use Rattle.ficus_opening.specs.declared.member.MemberState.TheVariants.{Down, Up}
use Rattle.ficus_opening.specs.declared.opening.Opened.{Opened}
use Rattle.ficus_opening.proofs.Stand.{fresh_fits, opens_kept}
use Rattle.ficus_opening.proofs.Steadies.{steady_none}
use Rattle.ficus_world.specs.Machines.Alone.{BeginsAnew, StandsAlone}
use Rattle.ficus_world.specs.Machines.Killed.{BeginsWith}
use Rattle.ficus_world.specs.Machines.Together.{OpenedAt}
use Rattle.ficus_world.specs.Post.{Outbox}
use Rattle.ficus_world.specs.World.{IsPendingSound, IsSoundMember, IsWorld, Whole, WorldStandsFor, whole_of}
use Rattle.ficus_world.specs.declared.post.Behind.{Behind}
use Rattle.ficus_world.proofs.OpenedWorlds.{IsEmpty, opened_stands}

-- it is a world
module _ (me : ℕ) (members : List Member) (alone : IsAlone me members) where
  own_sound : (events : ℕ) → IsSoundMember (length members) events me (opened_member alone.saved alone.among.fused)
  own_sound events =
      let generation = alone.own.generation in
      record {
        replica = record {
          me = alone.own.me;
          members = sym alone.among.count;
          fits = alone.fits;
          generation = omega (arith, generation);
        };
        pending = tt;
      }

  absent_sound : (events r : ℕ) (member : Member) → IsMember (length members) r
      → IsAbsent (volume_of alone.saved) r member → IsSoundMember (length members) events r member
  absent_sound events r member numbered absent =
      let volume = volume_of alone.saved in
      let fits = alone.fits in
      let fresh =
      fresh_fits volume r fits.members fits.ids_at_least fits.ids_at_most fits.bytes
      (subst (λ n. IsMember n r) alone.among.count numbered) in
      let generation = ap (λ (s : Saved). s.generation) absent.saved in
      record {
        replica = record {
          me = ap (λ (s : Saved). s.me) absent.saved;
          members = ap (λ (s : Saved). s.members) absent.saved ∙ sym alone.among.count;
          fits = subst FitsImage (sym absent.saved) fresh;
          generation = omega (arith, generation);
        };
        pending =
            subst (λ (s : MemberState). IsPendingSound (length members) events r member.replica s) (sym absent.down) tt;
      }

  each_sound : (events r : ℕ) (member : Member) → IsNumbered members r member
      → IsSoundMember (length members) events r member
  each_sound events r member at = elim (cases_eq r me) [
    | inl same ↦
        let is =
        number_once alone.among.is (subst (λ n. IsNumbered members n member) same at) in
        subst (λ n. IsSoundMember (length members) events n member) (sym same)
        (subst (λ (m : Member). IsSoundMember (length members) events me m) is (own_sound events))
    | inr differs ↦ absent_sound events r member at.member (alone.among.absent r member differs at)
  ]

  pub alone_world : (events : List Event) (post : Outbox) → events ≡ Restart me ∷ [] → IsEmpty post
      → IsWorld (whole_of members events post)
  alone_world events post restart empty = record {
    count = subst IsCount (sym alone.among.count) alone.fits.members;
    sound = each_sound (length events);
    plain = subst IsPlain (sym restart)
        (All-cons (λ e. IsMember 8 (actor e)) (Restart me) []
        (record {
          at_least = alone.among.is.member.at_least;
          at_most = omega (arith, alone.among.is.member.at_most, alone.among.count, alone.fits.members.at_most);
        })
        (All-nil (λ e. IsMember 8 (actor e))));
    counted = ap (λ (l : List (List ℕ)). length l) empty.posts ∙ sym (ap (λ (l : List Behind). length l) empty.behind);
    few = omega (arith, ap (λ (l : List (List ℕ)). length l) empty.posts);
    within = omega (arith, ap (λ (l : List (List ℕ)). length l) empty.posts);
  }

-- a world of all members, opened on disks that stand for a history
module _ {D : Type 0} (kept : List ℕ → List ℕ → Option Kept) (seen : D → List ℕ) (armings : D → Option ℕ)
    (volume : Volume) (H : List Event) (every : List (Pair D)) (on : StandsOn kept seen volume H every)
    (eight : length every ≡ 8) where
  -- member r is opened with what its pair holds
  record IsOpenedOf (r : ℕ) (member : Member) : Type 0 where
    pub pair : Pair D
    pub is : IsNumbered every r pair
    pub keeps : KeepsOf volume H r (found_in kept seen pair)
    pub member_is : member ≡ opened_member keeps.saved (are_fused armings pair)

  -- so are the first ones
  record AreFirst (count : ℕ) : Type 0 where
    pub members : List Member
    pub counted : length members ≡ count
    pub each : (r : ℕ) (member : Member) → IsNumbered members r member → IsOpenedOf r member

  one_of : (r : ℕ) → IsMember volume.members r → (member : Member) × IsOpenedOf r member
  one_of r numbered =
      let pair = number_exists every r (record {
        at_least = numbered.at_least;
        at_most = omega (arith, numbered.at_most, on.count.at_most, eight);
      }) in
      let keeps = on.keeps.each r pair.0 pair.1 numbered in (
        opened_member keeps.saved (are_fused armings pair.0),
        record { pair = pair.0; is = pair.1; keeps = keeps; member_is = refl },
      )

  first_ones : (count : ℕ) → count ≤ volume.members → AreFirst count
  first_ones zero few = record {
    members = [];
    counted = refl;
    each = λ r member at. absurd (omega (arith, at.member.at_least, at.member.at_most));
  }
  first_ones (suc count) few =
      let before = first_ones count (omega (arith, few)) in
      let last = one_of (suc count) (record { at_least = omega arith; at_most = few }) in
      record {
        members = before.members ++ last.0 ∷ [];
        counted = length_push before.members last.0 ∙ (omega (arith, before.counted));
        each = λ r member at. elim (number_cases before.members last.0 at) [
          | inl here ↦ before.each r member here
          | inr end ↦
              let place : suc count ≡ r = omega (arith, end.0, before.counted) in
              subst (λ (m : Member). IsOpenedOf r m) (sym end.1) (subst (λ n. IsOpenedOf n last.0) place last.1)
        ];
      }

  all_ones : AreFirst volume.members
  all_ones = first_ones volume.members (omega arith)

  abbrev all_world : Whole
  all_world =
      whole_of all_ones.members (restarts (length all_ones.members))
      (record { behind = []; posts = []; total = 0; faults = 0 })

  opened_of : (r : ℕ) (first member : Member) → IsOpenedOf 1 first → IsOpenedOf r member
      → IsOpened first.replica.saved r member
  opened_of r first member one is =
      let opens = opens_kept kept seen volume H every on r one.pair is.pair is.is one.keeps is.keeps in
      subst (λ (m : Member). IsOpened first.replica.saved r m) (sym is.member_is)
      (subst (λ (m : Member). IsOpened m.replica.saved r (opened_member is.keeps.saved (are_fused armings is.pair)))
      (sym one.member_is)
      (record { up = refl; asks = refl; parts = refl; fits = is.keeps.fits; may = opens.may }))

  says : (r : ℕ) (member : Member) → IsOpenedOf r member → member.replica.saved.members ≡ length all_ones.members
  says r member is =
      ap (λ (m : Member). m.replica.saved.members) is.member_is ∙ is.keeps.is.members ∙ sym all_ones.counted

  holds : (r : ℕ) (member : Member) (pair : Pair D) → IsNumbered every r pair → IsOpenedOf r member
      → Holds (found_in kept seen pair) member.replica.saved
  holds r member pair at is =
      subst (λ (p : Pair D). Holds (found_in kept seen p) member.replica.saved) (number_once is.is at)
      (subst (λ (m : Member). Holds (found_in kept seen is.pair) m.replica.saved) (sym is.member_is) is.keeps.holds)

  fused : (r : ℕ) (member : Member) (pair : Pair D) → IsNumbered every r pair → IsOpenedOf r member
      → member.fused ≡ are_fused armings pair
  fused r member pair at is =
      ap (λ (m : Member). m.fused) is.member_is
      ∙ ap (λ (p : Pair D). are_fused armings p) (number_once is.is at)

  all_stand : OneHeld → WorldStandsFor volume (start H volume.members 0 (take volume.members (fuses_in armings every)))
      all_world
  all_stand held_once =
      opened_stands {K = Unit {0}} (Unit {0}) kept (λ k a b. ⊥) seen (λ d bytes. ⊥) armings all_world held_once volume H
      every every 0 tt on eight (steady_none seen every) (steady_none armings every)
      (record {
        each = λ r first member one at. opened_of r first member (all_ones.each 1 first one) (all_ones.each r member at);
      })
      (subst IsCount (sym all_ones.counted) on.count) (λ first one. says 1 first (all_ones.each 1 first one))
      (λ r member pair at at_pair. holds r member pair at_pair (all_ones.each r member at))
      (λ r member pair at at_pair. fused r member pair at_pair (all_ones.each r member at)) refl
      (record { behind = refl; posts = refl }) refl

  up_at : (r : ℕ) → IsMember volume.members r → (fuses : List Bool) → IsUp r (start H volume.members 0 fuses)
  up_at r numbered fuses =
      number_read (replicate volume.members model.Up) r model.Up model.Up
      (subst (λ n. IsMember n r) (sym (length-replicate volume.members model.Up)) numbered)
      (get_or-replicate volume.members (r - 1) model.Up model.Up
      (omega (arith, numbered.at_least, numbered.at_most)))

  -- the machine of one of them, which was opened with what its pair holds
  module _ (held_once : OneHeld) (me : ℕ) (numbered : IsMember volume.members me) (pair : Pair D)
      (at : IsNumbered every me pair) (machine : Whole) (alone : IsAlone me machine.members)
      (none : machine.post.posts ≡ []) (held : Holds (found_in kept seen pair) alone.saved)
      (is_fused : alone.among.fused ≡ are_fused armings pair) where
    there : (member : Member) × IsNumbered all_ones.members me member
    there = number_exists all_ones.members me (subst (λ n. IsMember n me) (sym all_ones.counted) numbered)

    same : opened_member alone.saved alone.among.fused ≡ there.0
    same =
        let is = all_ones.each me there.0 there.1 in
        let saved =
        held_once (found_in kept seen pair) alone.saved is.keeps.saved held
        (subst (λ (p : Pair D). Holds (found_in kept seen p) is.keeps.saved) (number_once is.is at) is.keeps.holds) in
        let fuses =
        is_fused ∙ ap (λ (p : Pair D). are_fused armings p) (number_once at is.is) in
        let both : opened_member alone.saved alone.among.fused ≡ opened_member is.keeps.saved (are_fused armings is.pair) =
        λ i. opened_member (saved i) (fuses i) in
        both ∙ sym is.member_is

    pub opened_at : OpenedAt volume (start H volume.members 0 (take volume.members (fuses_in armings every))) me machine
    opened_at = record {
      world = all_world;
      stands = all_stand held_once;
      up = up_at me numbered (take volume.members (fuses_in armings every));
      renews = record {
        count = alone.among.count ∙ ap (λ (m : Member). m.replica.saved.members) same
            ∙ says me there.0 (all_ones.each me there.0 there.1);
        member = there.0;
        was = there.1;
        is = subst (λ (m : Member). IsNumbered machine.members me m) same alone.among.is;
        posts = none;
      };
    }

-- whether its disks have a fuse is what they had before
pub fused_as : {K D : Type 0} (keep : Keep K) (disk : Disk D) (me : ℕ) (opened : Opened K) (old new : List (Pair D))
    (member : Member) → AreKept keep disk opened new → Steady disk.armings old new
    → IsNumbered opened.members.items me member → (pair : Pair D) → IsNumbered old me pair
    → member.fused ≡ are_fused disk.armings pair
fused_as {K} {D} keep disk me opened old new member kept steady at pair at_pair =
    let stable =
    number_exists opened.stables.items me (subst (λ n. IsMember n me) (sym kept.stables) at.member) in
    let now = number_exists new me (subst (λ n. IsMember n me) (sym steady.count) at_pair.member) in
    let stays = steady.each me pair now.0 at_pair now.1 in
    (kept.disks.each me member stable.0 now.0 at stable.1 now.1).fused
    ∙ same_fuses pair now.0 stays.a stays.b
  where
    same_fuses : (one two : Pair D) → disk.armings two.a ≡ disk.armings one.a
        → disk.armings two.b ≡ disk.armings one.b → are_fused disk.armings two ≡ are_fused disk.armings one
    same_fuses one two a b = cc

module _ {K D : Type 0} (keep : Keep K) (disk : Disk D) (held_once : OneHeld) (me : ℕ) (old : List (Pair D))
    (world : Whole) (alone : IsAlone me world.members) (none : world.post.posts ≡ [])
    (read : (member : Member) (pair : Pair D) → IsNumbered world.members me member → IsNumbered old me pair
    → Holds (found_in keep.kept disk.seen pair) member.replica.saved)
    (is_fused : (pair : Pair D) → IsNumbered old me pair → alone.among.fused ≡ are_fused disk.armings pair) where
  pub stands_alone : StandsAlone keep disk me old world
  stands_alone volume H every own on eight numbered at at_old =
      opened_at keep.kept disk.seen disk.armings volume H every on eight held_once me numbered own at world alone none
      (read _ own alone.among.is at_old) (is_fused own at_old)

  pub begins_anew : BeginsAnew keep disk me old world
  begins_anew machine found own at holds says fuses =
      let saved : alone.saved ≡ found =
      held_once (found_in keep.kept disk.seen own) alone.saved found (read _ own alone.among.is at) holds in
      record {
        count = alone.among.count ∙ ap (λ (s : Saved). s.members) saved ∙ says;
        member = opened_member alone.saved alone.among.fused;
        is = alone.among.is;
        replica = ap (λ (s : Saved). (opened_member s alone.among.fused).replica) saved;
        parts = refl;
        up = refl;
        fused = λ was at_was. is_fused own at ∙ sym (fuses was at_was);
        posts = none;
      }
