-- The three steps of a save: what each leaves where it is cut short, and where it is done.
use Rattle.std.proofs.Common.{◌≡◌, ◌≢◌, inl, inr, ℕ, suc, ◌+◌, ◌^◌, ◌<◌, ◌≤◌, Bool, true, false, ◌&&◌, None, if◌then◌else◌, List, [], ◌∷◌, ◌++◌, length, drop, refl, sym, ◌∙◌, ap, subst, arith}
use Rattle.std.proofs.lemmas.Bool.{cases_eq}
use Rattle.std.proofs.lemmas.Bool.Decides.{nat_tests}
use Rattle.ficus_disk.specs.Bytes.{patch, Torn}
use Rattle.ficus_disk.specs.Crash.{Only}
use Rattle.ficus_disk.specs.Fuse.{picked}
use Rattle.ficus_disk.specs.declared.fuse.Pick.{Pick}
use Rattle.ficus_disk.specs.declared.fuse.Pick.TheVariants.{Synced, Written, Ones, Halves}
use Rattle.ficus_keeper.specs.Fuses.{is_found}
use Rattle.ficus_slot.specs.Gate.{GateIs, IsShut}
use Rattle.ficus_slot.specs.Slot.{SlotContent, range_of, slot_in}
use Rattle.ficus_slot.specs.Stays.{IsFound, IsNew, IsOld, Stays}
use Rattle.ficus_slot.proofs.Written.{written_is_new}

-- a shut gate, or none, is no slot
shut_is_none : (c : List ℕ) → IsShut c → slot_in c ≡ None
shut_is_none [] shut = refl
shut_is_none (gate ∷ rest) shut = grind (arith, nat_tests)

short_is_none : (c : List ℕ) → length c ≤ 1 → slot_in c ≡ None
short_is_none [] short = refl
short_is_none (g ∷ []) short =
    elim (cases_eq g 1) [ inl is ↦ grind (arith, nat_tests) | inr shut ↦ shut_is_none (g ∷ []) shut ]
short_is_none (g ∷ h ∷ c) short = absurd (omega arith)

-- a gate stays where the range begins behind it
torn_behind : (n : ℕ) (old c : List ℕ) → IsShut old → Torn 1 n old c → IsShut c
torn_behind n [] c shut torn = elim shut [ ]
torn_behind n (g ∷ old) [] shut torn = absurd (omega (arith, torn.no_shorter))
torn_behind n (g ∷ old) (h ∷ c) shut torn = λ is. let same : h ∷ [] ≡ g ∷ [] = torn.before in shut (cc)

-- only the gate may change
torn_gate : (gate : ℕ) (rest c : List ℕ) → Torn 0 1 (gate ∷ rest) c → (h : ℕ) × (c ≡ h ∷ rest)
torn_gate gate rest [] torn = absurd (omega (arith, torn.no_shorter))
torn_gate gate rest (h ∷ c) torn = let same : c ≡ rest = torn.after in (h, ap (λ (l : List ℕ). h ∷ l) same)

-- the first step: the gate is shut, or stays so
first_torn : (shut : Bool) (old c : List ℕ) → GateIs shut old → Torn (if shut then 1 else 0) 1 old c
    → IsOld old c
first_torn true old c gate torn = inl (shut_is_none c (torn_behind 1 old c gate torn))
first_torn false [] c gate torn = inl (short_is_none c (omega (arith, torn.no_longer)))
first_torn false (g ∷ old) c gate torn =
    let is = torn_gate g old c torn in
    elim (cases_eq is.0 1) [
      | inl open_gate ↦ inr (is.1 ∙ ap (λ (h : ℕ). h ∷ old) (open_gate ∙ sym gate))
      | inr shut ↦ inl (ap slot_in is.1 ∙ shut_is_none (is.0 ∷ old) shut)
    ]

first_written : (shut : Bool) (old : List ℕ) → GateIs shut old → IsShut (patch old (if shut then 1 else 0) (0 ∷ []))
first_written true [] gate = elim gate [ ]
first_written true (g ∷ old) gate = gate
first_written false old gate = λ is. absurd (omega arith)

-- the second step: behind a shut gate
second_written : (old range : List ℕ) → IsShut old
    → (g : ℕ) × (rest : List ℕ) × (patch old 1 range ≡ g ∷ (range ++ rest)) × (g ≢ 1)
second_written [] range shut = elim shut [ ]
second_written (g ∷ old) range shut = (
  g,
  drop (length range) old,
  (let e : 1 + length range ≡ suc (length range) = omega arith in ap (λ (n : ℕ). g ∷ (range ++ drop n (g ∷ old))) e),
  shut,
)

-- what a range that was begun may leave
abbrev pub Begun : ℕ → ℕ → (List ℕ → Type 0) → List ℕ → Type 0
Begun at n may c = (d : List ℕ) × may d × Torn at n d c

pub first_step : (shut : Bool) (first : ℕ) (old : List ℕ) (may : List ℕ → Type 0) → first ≡ (if shut then 1 else 0)
    → Only old may → GateIs shut old → (c : List ℕ) → Begun first 1 may c → IsOld old c
first_step shut first old may is only gate c left =
    let torn = subst (λ (l : List ℕ). Torn first 1 l c) (only left.0 left.1) left.2 in
    first_torn shut old c gate (subst (λ (n : ℕ). Torn n 1 old c) is torn)

pub first_done : (shut : Bool) (first : ℕ) (old mid : List ℕ) → first ≡ (if shut then 1 else 0)
    → mid ≡ patch old first (0 ∷ []) → GateIs shut old → IsShut mid
first_done shut first old mid is written gate =
    subst IsShut (ap (λ (n : ℕ). patch old n (0 ∷ [])) (sym is) ∙ sym written) (first_written shut old gate)

pub second_step : (n : ℕ) (old mid : List ℕ) (may : List ℕ → Type 0) → Only mid may → IsShut mid
    → (c : List ℕ) → Begun 1 n may c → IsOld old c
second_step n old mid may only shut c left =
    inl (shut_is_none c (torn_behind n mid c shut (subst (λ (l : List ℕ). Torn 1 n l c) (only left.0 left.1) left.2)))

-- the body stands behind a shut gate
pub record IsReady (saved : SlotContent) (last : List ℕ) : Type 0 where
  pub gate : ℕ
  pub rest : List ℕ
  pub is : last ≡ gate ∷ (range_of saved.generation saved.body ++ rest)
  pub shut : gate ≢ 1

pub second_done : (saved : SlotContent) (mid range last : List ℕ) → IsShut mid → last ≡ patch mid 1 range
    → range ≡ range_of saved.generation saved.body → IsReady saved last
second_done saved mid range last shut written is =
    let parts = second_written mid range shut in
    record {
      gate = parts.0;
      rest = parts.1;
      is = written ∙ parts.2 ∙ ap (λ (l : List ℕ). parts.0 ∷ (l ++ parts.1)) is;
      shut = parts.3;
    }

-- the third step: the gate opens
module _ (saved : SlotContent) (small : saved.generation < 2 ^ 64) (fits : length saved.body < 2 ^ 64) where
  abbrev range : List ℕ
  range = range_of saved.generation saved.body

  third_torn : (old rest c : List ℕ) (g : ℕ) → Torn 0 1 (g ∷ (range ++ rest)) c → Stays old saved c
  third_torn old rest c g torn =
      let is = torn_gate g (range ++ rest) c torn in
      elim (cases_eq is.0 1) [
        | inl open_gate ↦ inr (written_is_new saved.generation saved.body rest small fits c
            (is.1 ∙ ap (λ (h : ℕ). h ∷ (range ++ rest)) open_gate))
        | inr shut ↦ inl (inl (ap slot_in is.1 ∙ shut_is_none (is.0 ∷ (range ++ rest)) shut))
      ]

  -- what a pick leaves where it has begun
  third_picked : (old rest : List ℕ) (g : ℕ) (pick : Pick) → g ≢ 1
      → IsFound (is_found pick) old saved (picked pick (g ∷ (range ++ rest)) 0 (1 ∷ []))
  third_picked old rest g Synced shut = inl (shut_is_none (g ∷ (range ++ rest)) shut)
  third_picked old rest g Written shut = written_is_new saved.generation saved.body rest small fits _ refl
  third_picked old rest g Ones shut = written_is_new saved.generation saved.body rest small fits _ refl
  third_picked old rest g Halves shut = inl (shut_is_none (255 ∷ (range ++ rest)) (λ is. absurd (omega arith)))

  pub third_step : (old last : List ℕ) (may : List ℕ → Type 0) → Only last may → IsReady saved last
      → (c : List ℕ) → Begun 0 1 may c → Stays old saved c
  third_step old last may only ready c left =
      third_torn old ready.rest c ready.gate (subst (λ (l : List ℕ). Torn 0 1 l c) (only left.0 left.1 ∙ ready.is) left.2)

  pub third_done : (last new : List ℕ) → IsReady saved last → new ≡ patch last 0 (1 ∷ []) → IsNew saved new
  third_done last new ready written =
      written_is_new saved.generation saved.body ready.rest small fits new
      (written ∙ ap (λ (l : List ℕ). patch l 0 (1 ∷ [])) ready.is)

  pub third_pick : (old : List ℕ) (pick : Pick) (last image new : List ℕ) (may : List ℕ → Type 0)
      → IsReady saved last → Only last may → may image → new ≡ picked pick image 0 (1 ∷ [])
      → IsFound (is_found pick) old saved new
  third_pick old pick last image new may ready only leaves is =
      subst (IsFound (is_found pick) old saved)
      (sym (is ∙ ap (λ (l : List ℕ). picked pick l 0 (1 ∷ [])) (only image leaves ∙ ready.is)))
      (third_picked old ready.rest ready.gate pick ready.shut)

-- what is found is decided by the calls that passed, and by the pick
pub early : (b found : Bool) (old : List ℕ) (saved : SlotContent) (c : List ℕ) → b ≡ false → IsOld old c
    → IsFound (b && found) old saved c
early false found old saved c is p = p
early true found old saved c is p = absurd (cc)

pub late : (b found : Bool) (old : List ℕ) (saved : SlotContent) (c : List ℕ) → b ≡ true → IsFound found old saved c
    → IsFound (b && found) old saved c
late false found old saved c is p = absurd (cc)
late true found old saved c is p = p
