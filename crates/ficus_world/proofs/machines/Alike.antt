-- Members that are alike, and messages that are genuine.
use Rattle.std.proofs.Common.{◌≡◌, ℕ, ◌+◌, List, [], ◌∷◌, ◌++◌, length, Some, None, refl, sym, ap, subst, ◌∙◌, inl, inr, ◌⊎◌, append_assoc}
use Rattle.std.proofs.lemmas.List.{append-nil}
use Rattle.ficus_runs.specs.Numbered.{IsNumbered}
use Rattle.ficus_runs.proofs.Numbers.{number_cases, number_end, number_more}
use Rattle.ficus_opening.specs.declared.member.Member.{Member}
use Rattle.ficus_opening.specs.declared.member.MemberState.{MemberState}
use Rattle.ficus_opening.specs.declared.member.MemberState.TheVariants as state
use Rattle.ficus_opening.specs.declared.member.Pending.{Pending}
use Rattle.ficus_world.specs.Moves.{still_pending}
use Rattle.ficus_world.specs.Machines.Part.{AreAlike, AreGenuine, AreStatesAlike}

pub states_self : (stood : MemberState) → AreStatesAlike stood stood
states_self state.Up = tt
states_self (state.Down None) = tt
states_self (state.Down (Some pending)) = refl

pub alike_self : (member : Member) → AreAlike member member
alike_self member = record { replica = refl; parts = refl; state = states_self member.state; fused = refl }

-- one is up where the other is
pub up_there : (one other : MemberState) → AreStatesAlike one other → one ≡ state.Up → other ≡ state.Up
up_there state.Up state.Up alike up = refl
up_there state.Up (state.Down pending) alike up = absurd alike
up_there (state.Down pending) other alike up = absurd (cc)

pub up_here : (one other : MemberState) → AreStatesAlike one other → other ≡ state.Up → one ≡ state.Up
up_here state.Up other alike up = refl
up_here (state.Down None) state.Up alike up = absurd alike
up_here (state.Down (Some pending)) state.Up alike up = absurd alike
up_here one (state.Down pending) alike up = absurd (cc)

-- two members that are alike and up are one
pub alike_up : (one other : Member) → AreAlike one other → one.state ≡ state.Up → one ≡ other
alike_up one other alike up =
    let states : one.state ≡ other.state = up ∙ sym (up_there one.state other.state alike.state up) in
    λ i. record { replica = alike.replica i; parts = alike.parts i; state = states i; fused = alike.fused i }

-- what is pending at one is pending at the other
pub pending_there : (one other : MemberState) (pending : Pending) → AreStatesAlike one other
    → one ≡ state.Down (Some pending)
    → (found : Pending) × (other ≡ state.Down (Some found)) × (pending.replica ≡ found.replica)
pending_there (state.Down (Some p)) (state.Down (Some q)) pending alike is =
    let same : p ≡ pending = cc in
    (q, refl, ap (λ (x : Pending). x.replica) (sym same) ∙ alike)
pending_there (state.Down (Some p)) (state.Down None) pending alike is = absurd alike
pending_there (state.Down (Some p)) state.Up pending alike is = absurd alike
pending_there (state.Down None) other pending alike is = absurd (cc)
pending_there state.Up other pending alike is = absurd (cc)

-- what was pending at both stays so
pub still_alike : (one other : MemberState) → AreStatesAlike one other
    → AreStatesAlike (state.Down (still_pending one)) (state.Down (still_pending other))
still_alike state.Up state.Up alike = tt
still_alike (state.Down None) (state.Down None) alike = tt
still_alike (state.Down (Some p)) (state.Down (Some q)) alike = alike
still_alike one other alike = absurd alike

-- a message more on both sides is genuine too
pub genuine_more : (posts all : List (List ℕ)) (bytes : List ℕ) → AreGenuine posts all
    → AreGenuine (posts ++ bytes ∷ []) (all ++ bytes ∷ [])
genuine_more posts all bytes genuine number found is = go (number_cases posts bytes is)
  where
    go : IsNumbered posts number found ⊎ ((number ≡ length posts + 1) × (found ≡ bytes))
        → (there : ℕ) × IsNumbered (all ++ bytes ∷ []) there found
    go (inl was) = let there = genuine number found was in (there.0, number_more all bytes there.1)
    go (inr new) = (length all + 1, subst (IsNumbered (all ++ bytes ∷ []) (length all + 1)) (sym new.1) (number_end all bytes))

pub genuine_each : (more posts all : List (List ℕ)) → AreGenuine posts all → AreGenuine (posts ++ more) (all ++ more)
genuine_each [] posts all genuine =
    subst (λ (p : List (List ℕ)). AreGenuine p (all ++ [])) (sym (append-nil posts))
    (subst (λ (a : List (List ℕ)). AreGenuine posts a) (sym (append-nil all)) genuine)
genuine_each (bytes ∷ more) posts all genuine =
    subst (λ (p : List (List ℕ)). AreGenuine p (all ++ bytes ∷ more)) (append_assoc posts (bytes ∷ []) more)
    (subst (λ (a : List (List ℕ)). AreGenuine ((posts ++ bytes ∷ []) ++ more) a) (append_assoc all (bytes ∷ []) more)
    (genuine_each more (posts ++ bytes ∷ []) (all ++ bytes ∷ []) (genuine_more posts all bytes genuine)))

-- what was posted stays posted
pub genuine_behind : (more posts all : List (List ℕ)) → AreGenuine posts all → AreGenuine posts (all ++ more)
genuine_behind [] posts all genuine =
    subst (λ (a : List (List ℕ)). AreGenuine posts a) (sym (append-nil all)) genuine
genuine_behind (bytes ∷ more) posts all genuine =
    subst (λ (a : List (List ℕ)). AreGenuine posts a) (append_assoc all (bytes ∷ []) more)
    (genuine_behind more posts (all ++ bytes ∷ [])
    (λ number found is. let there = genuine number found is in (there.0, number_more all bytes there.1)))
