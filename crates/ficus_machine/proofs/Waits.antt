-- A member that waits for the answer to the ask that is noted.
use Rattle.std.proofs.Common.{◌≡◌, ℕ, ◌-◌, List, length, Option, Some, None, refl, sym, ap, subst, ◌∙◌}
use Rattle.std.specs.Prelude.{slice_set}
use Rattle.std.proofs.lemmas.List.{length-set}
use Rattle.ficus_disk.specs.declared.disk.Disk.{Ghosts as Disk}
use Rattle.ficus_disk.specs.declared.pair.Pair.{Pair}
use Rattle.ficus_keeper.specs.declared.keep.Keep.{Ghosts as Keep}
use Rattle.ficus_note.specs.declared.asked.Asked.{Asked as Noted}
use Rattle.ficus_opening.specs.declared.member.Member.{Member}
use Rattle.ficus_opening.specs.declared.member.MemberState.TheVariants.{Up}
use Rattle.ficus_runs.proofs.Numbers.{number_once}
use Rattle.ficus_runs.specs.Numbered.{IsNumbered}
use Rattle.ficus_world.proofs.machines.Parts.{number_put}
use Rattle.ficus_world.specs.Disks.{IsBacked}
use Rattle.ficus_world.specs.Hearing.{Awaits, awaiting}
use Rattle.ficus_world.specs.Machines.Killed.{BeginsWith}
use Rattle.ficus_world.specs.Machines.Together.{Renews}
use Rattle.ficus_world.specs.Moves.{with_member}
use Rattle.ficus_world.specs.World.{Backed, Whole}
use Rattle.ficus_machine.proofs.Held.{backed_same, backed_waiting}
use Rattle.ficus_machine.specs.Machine.{IsNoted, ask_of}
use Rattle.ficus_machine.specs.Opening.{WaitsAsNoted}

module _ (me : ℕ) (old new : Whole) where
  module _ (was : Member) (is : IsNumbered old.members me was) where
    -- there are as many members
    pub waits_count : (noted : Option Noted) → WaitsAsNoted me noted old new → length new.members ≡ length old.members
    waits_count None same = ap (λ (world : Whole). length world.members) same
    waits_count (Some noted) waits =
        ap (λ (world : Whole). length world.members) (waits was is)
        ∙ length-set old.members (me - 1) (awaiting was (Some (ask_of noted)))

    -- nothing is posted
    pub waits_post : (noted : Option Noted) → WaitsAsNoted me noted old new → new.post ≡ old.post
    waits_post None same = ap (λ (world : Whole). world.post) same
    waits_post (Some noted) waits = ap (λ (world : Whole). world.post) (waits was is)

    -- what is noted is right
    pub waits_noted : (noted : Option Noted) → was.state ≡ Up → was.replica.ask ≡ None → WaitsAsNoted me noted old new
        → IsNoted new me noted
    waits_noted None up none same = λ ask awaits.
        let found : awaits.member ≡ was =
        number_once (subst (λ (world : Whole). IsNumbered world.members me awaits.member) same awaits.is) is in
        let never : None ≡ Some ask = sym none ∙ ap (λ (m : Member). m.replica.ask) (sym found) ∙ awaits.asks in
        absurd (cc never)
    waits_noted (Some noted) up none waits = record {
      member = awaiting was (Some (ask_of noted));
      is =
          subst (λ (world : Whole). IsNumbered world.members me (awaiting was (Some (ask_of noted)))) (sym (waits was is))
          (number_put old.members me (awaiting was (Some (ask_of noted))) is.member);
      up = up;
      asks = refl;
      none_held = refl;
    }

  -- all is as before where nothing is noted
  pub waits_none : (noted : Option Noted) → noted ≡ None → WaitsAsNoted me noted old new → new ≡ old
  waits_none None none same = same
  waits_none (Some noted) none waits = absurd (cc)

  -- A machine that waited for this answer, and whose disks hold what its member had saved, goes on.
  module _ (machine : Whole) (member : Member) (is : IsNumbered machine.members me member) (noted : Noted)
      (awaits : Awaits machine me (ask_of noted)) (begins : BeginsWith me machine old member.replica.saved) where
    same_member : awaits.member ≡ member
    same_member = number_once awaits.is is

    asks : member.replica.ask ≡ Some (ask_of noted)
    asks = subst (λ (m : Member). m.replica.ask ≡ Some (ask_of noted)) same_member awaits.asks

    up : member.state ≡ Up
    up = subst (λ (m : Member). m.state ≡ Up) same_member awaits.up

    none_held : member.parts ≡ None
    none_held = subst (λ (m : Member). m.parts ≡ None) same_member awaits.none_held

    saved : begins.member.replica.saved ≡ member.replica.saved
    saved = ap (λ r. r.saved) begins.replica

    fused : begins.member.fused ≡ member.fused
    fused = begins.fused member is

    state : begins.member.state ≡ member.state
    state = begins.up ∙ sym up

    same : awaiting begins.member (Some (ask_of noted)) ≡ member
    same = λ i. record {
      replica = record { saved = saved i; ask = sym asks i };
      parts = sym none_held i;
      state = state i;
      fused = fused i;
    }

    renews : new ≡ with_member old me (awaiting begins.member (Some (ask_of noted))) → Renews me machine new
    renews waits = record {
      count =
          ap (λ (world : Whole). length world.members) waits
          ∙ length-set old.members (me - 1) (awaiting begins.member (Some (ask_of noted))) ∙ begins.count;
      member = member;
      was = is;
      is =
          subst (λ (world : Whole). IsNumbered world.members me member) (sym waits)
          (subst (λ (m : Member).
          IsNumbered (slice_set old.members (me - 1) (awaiting begins.member (Some (ask_of noted)))) me m) same
          (number_put old.members me (awaiting begins.member (Some (ask_of noted))) begins.is.member));
      posts = ap (λ (world : Whole). world.post.posts) waits ∙ begins.posts;
    }

    pub waits_renews : (one : Option Noted) → one ≡ Some noted → WaitsAsNoted me one old new → Renews me machine new
    waits_renews None some same_world = absurd (cc)
    waits_renews (Some other) some waits =
        let same_noted : other ≡ noted = cc in
        renews (subst (λ (n : Noted). new ≡ with_member old me (awaiting begins.member (Some (ask_of n)))) same_noted
        (waits begins.member begins.is))

-- the disks stand under its world still
pub waits_backed : {K D : Type 0} {keep : Keep K} {disk : Disk D} {old new : Backed K} {x : List (Pair D)} {me : ℕ}
    (was : Member) → IsNumbered old.whole.members me was → (noted : Option Noted)
    → WaitsAsNoted me noted old.whole new.whole → new.stables ≡ old.stables → IsBacked keep disk old x
    → IsBacked keep disk new x
waits_backed was is None same stables backed =
    backed_same (ap (λ (world : Whole). world.members) same) stables backed
waits_backed was is (Some noted) waits stables backed =
    backed_waiting (Some (ask_of noted)) is (ap (λ (world : Whole). world.members) (waits was is)) stables backed
