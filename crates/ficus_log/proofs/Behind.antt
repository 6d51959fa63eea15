-- The two steps of an append: what each leaves where it is cut short, and where it is done.
use Rattle.std.proofs.Common.{◌≡◌, ◌≢◌, inl, inr, ℕ, ◌+◌, ◌<◌, ◌≤◌, Bool, true, false, ◌&&◌, List, [], ◌∷◌, ◌++◌, length, take, drop, get_or, refl, sym, ◌∙◌, ap, subst, arith, append_assoc, length-append, take-append-drop}
use Rattle.std.proofs.lemmas.List.{take_at, drop_at, drop_more, length-take-le}
use Rattle.std.proofs.lemmas.Bool.{cases_eq}
use Rattle.ficus_disk.specs.Bytes.{patch, Torn}
use Rattle.ficus_disk.specs.Crash.{Only}
use Rattle.ficus_disk.specs.Fuse.{picked}
use Rattle.ficus_disk.specs.declared.fuse.Pick.{Pick}
use Rattle.ficus_disk.specs.declared.fuse.Pick.TheVariants.{Synced, Written, Ones, Halves}
use Rattle.ficus_keeper.specs.Fuses.{is_found}
use Rattle.ficus_log.specs.Appending.{Appends, HasRecord, IsAppended, IsShutAt, StaysShut}
use Rattle.ficus_log.specs.Log.{record_range}

-- a gate behind some bytes
module _ (end : ℕ) (front : List ℕ) (counts : length front ≡ end) (gate : ℕ) (rest : List ℕ) where
  abbrev whole : List ℕ
  whole = front ++ gate ∷ rest

  -- as far as the gate
  upto : take (end + 1) whole ≡ front ++ gate ∷ []
  upto = ap (λ (l : List ℕ). take (end + 1) l) (sym (append_assoc front (gate ∷ []) rest))
      ∙ take_at (front ++ gate ∷ []) rest (end + 1) (omega (arith, counts, length-append front (gate ∷ [])))

  back : drop (end + 1) whole ≡ rest
  back = ap (λ (l : List ℕ). drop (end + 1) l) (sym (append_assoc front (gate ∷ []) rest))
      ∙ drop_at (front ++ gate ∷ []) rest (end + 1) (omega (arith, counts, length-append front (gate ∷ [])))

  -- what is torn behind it leaves it
  torn_behind : (n : ℕ) (c : List ℕ) → Torn (end + 1) n whole c → c ≡ front ++ gate ∷ drop (end + 1) c
  torn_behind n c torn =
      sym (take-append-drop (end + 1) c) ∙ ap (λ (l : List ℕ). l ++ drop (end + 1) c) (torn.before ∙ upto)
      ∙ append_assoc front (gate ∷ []) (drop (end + 1) c)

  written_behind : (range : List ℕ)
      → patch whole (end + 1) range ≡ front ++ gate ∷ (range ++ drop (end + 1 + length range) whole)
  written_behind range =
      ap (λ (l : List ℕ). l ++ range ++ drop (end + 1 + length range) whole) upto
      ∙ append_assoc (front ++ gate ∷ []) range (drop (end + 1 + length range) whole)
      ∙ append_assoc front (gate ∷ []) (range ++ drop (end + 1 + length range) whole)

  -- what is torn at the gate leaves all else
  torn_gate : (c : List ℕ) → Torn end 1 whole c → c ≡ front ++ get_or c end 0 ∷ rest
  torn_gate c torn =
      let before : take end c ≡ front = torn.before ∙ take_at front (gate ∷ rest) end counts in
      let long : end < length c = omega (arith, torn.no_shorter, counts, length-append front (gate ∷ rest)) in
      let split : drop end c ≡ get_or c end 0 ∷ rest =
      drop_more c end 0 long ∙ ap (λ (l : List ℕ). get_or c end 0 ∷ l) (torn.after ∙ back) in
      sym (take-append-drop end c) ∙ (λ i. before i ++ split i)

  written_gate : (g : ℕ) → patch whole end (g ∷ []) ≡ front ++ g ∷ rest
  written_gate g =
      (λ i. take_at front (gate ∷ rest) end counts i ++ (g ∷ []) ++ back i) ∙ append_assoc front (g ∷ []) rest

-- what a range that was begun may leave
abbrev pub Begun : ℕ → ℕ → (List ℕ → Type 0) → List ℕ → Type 0
Begun at n may c = (d : List ℕ) × may d × Torn at n d c

-- the record stands behind a gate that isn't open
pub record IsWaiting (end : ℕ) (range old mid : List ℕ) : Type 0 where
  pub gate : ℕ
  pub more : List ℕ
  pub is : mid ≡ take end old ++ gate ∷ (range ++ more)
  pub shut : gate ≢ 1

module _ (end : ℕ) (old : List ℕ) (at : IsShutAt end old) where
  front : List ℕ
  front = take end old

  counts : length (take end old) ≡ end
  counts = length-take-le end old at.long

  pub first_step : (n : ℕ) (may : List ℕ → Type 0) → Only old may → (c : List ℕ) → Begun (end + 1) n may c
      → StaysShut end old c
  first_step n may only c left =
      let torn = subst (λ (l : List ℕ). Torn (end + 1) n l c) (only left.0 left.1 ∙ at.is) left.2 in
      record {
        gate = at.gate;
        rest = drop (end + 1) c;
        is = torn_behind end (take end old) counts at.gate at.rest n c torn;
        shut = at.shut;
      }

  pub first_done : (range mid : List ℕ) → mid ≡ patch old (end + 1) range → IsWaiting end range old mid
  first_done range mid written = record {
    gate = at.gate;
    more = drop (end + 1 + length range) (take end old ++ at.gate ∷ at.rest);
    is = written ∙ ap (λ (l : List ℕ). patch l (end + 1) range) at.is
        ∙ written_behind end (take end old) counts at.gate at.rest range;
    shut = at.shut;
  }

  module _ (generation : ℕ) (body : List ℕ) where
    abbrev range : List ℕ
    range = record_range generation body

    opened : (gate : ℕ) (more c : List ℕ) → c ≡ take end old ++ gate ∷ (range ++ more)
        → Appends end generation body old c
    opened gate more c is = elim (cases_eq gate 1) [
      | inl opens ↦ inr (record {
        more = more;
        is = is ∙ ap (λ (g : ℕ). take end old ++ g ∷ (range ++ more)) opens;
      })
      | inr shut ↦ inl (record { gate = gate; rest = range ++ more; is = is; shut = shut })
    ]

    pub second_step : (mid : List ℕ) (may : List ℕ → Type 0) → Only mid may → IsWaiting end range old mid
        → (c : List ℕ) → Begun end 1 may c → Appends end generation body old c
    second_step mid may only waits c left =
        let torn = subst (λ (l : List ℕ). Torn end 1 l c) (only left.0 left.1 ∙ waits.is) left.2 in
        opened (get_or c end 0) waits.more c
        (torn_gate end (take end old) counts waits.gate (range ++ waits.more) c torn)

    pub second_done : (mid new : List ℕ) → IsWaiting end range old mid → new ≡ patch mid end (1 ∷ [])
        → HasRecord end generation body old new
    second_done mid new waits written = record {
      more = waits.more;
      is = written ∙ ap (λ (l : List ℕ). patch l end (1 ∷ [])) waits.is
          ∙ written_gate end (take end old) counts waits.gate (range ++ waits.more) 1;
    }

    -- what a pick leaves where it has begun
    picked_from : (gate : ℕ) (more : List ℕ) (pick : Pick) → gate ≢ 1
        → IsAppended (is_found pick) end generation body old
        (picked pick (take end old ++ gate ∷ (range ++ more)) end (1 ∷ []))
    picked_from gate more Synced shut = record { gate = gate; rest = range ++ more; is = refl; shut = shut }
    picked_from gate more Written shut = record {
      more = more;
      is = written_gate end (take end old) counts gate (range ++ more) 1;
    }
    picked_from gate more Ones shut = record {
      more = more;
      is = written_gate end (take end old) counts gate (range ++ more) 1;
    }
    picked_from gate more Halves shut = record {
      gate = 255;
      rest = range ++ more;
      is = written_gate end (take end old) counts gate (range ++ more) 255;
      shut = λ is. absurd (omega arith);
    }

    pub second_pick : (pick : Pick) (mid image new : List ℕ) (may : List ℕ → Type 0) → IsWaiting end range old mid
        → Only mid may → may image → new ≡ picked pick image end (1 ∷ [])
        → IsAppended (is_found pick) end generation body old new
    second_pick pick mid image new may waits only leaves is =
        subst (IsAppended (is_found pick) end generation body old)
        (sym (is ∙ ap (λ (l : List ℕ). picked pick l end (1 ∷ [])) (only image leaves ∙ waits.is)))
        (picked_from waits.gate waits.more pick waits.shut)

-- what is found is decided by the calls that passed, and by the pick
pub early : (b found : Bool) (end generation : ℕ) (body old c : List ℕ) → b ≡ false → StaysShut end old c
    → IsAppended (b && found) end generation body old c
early false found end generation body old c is p = p
early true found end generation body old c is p = absurd (cc)

pub late : (b found : Bool) (end generation : ℕ) (body old c : List ℕ) → b ≡ true
    → IsAppended found end generation body old c → IsAppended (b && found) end generation body old c
late false found end generation body old c is p = absurd (cc)
late true found end generation body old c is p = p

-- the places of the two writes
pub reaches : (end : ℕ) (old : List ℕ) → IsShutAt end old → end + 1 ≤ length old
reaches end old at =
    omega (
      arith,
      ap length at.is,
      length-append (take end old) (at.gate ∷ at.rest),
      length-take-le end old at.long,
    )

pub waits_at : (end : ℕ) (range old mid : List ℕ) → IsShutAt end old → IsWaiting end range old mid → end ≤ length mid
waits_at end range old mid at waits =
    omega (
      arith,
      ap length waits.is,
      length-append (take end old) (waits.gate ∷ (range ++ waits.more)),
      length-take-le end old at.long,
    )
