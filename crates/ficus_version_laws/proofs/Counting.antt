-- Counting the numbers below a bound that have a property.
use Rattle.std.proofs.Common.{◌≡◌, ◌⊎◌, inl, inr, ℕ, zero, suc, ◌+◌, ◌-◌, ◌<◌, ◌≤◌, max, arith, sym, subst}
use Rattle.std.proofs.lemmas.Bool.{cases_eq, cases_lt, cases_order}
use Rattle.ficus_model.specs.Vectors.{Counts}
use Rattle.ficus_model.specs.Vectors.Counts.{Nothing, OneMore, AsMany}

-- the first property holds only where the second does, below the bound
abbrev pub WithinBelow : ℕ → (ℕ → Type 0) → (ℕ → Type 0) → Type 0
WithinBelow bound P Q = (number : ℕ) → number < bound → P number → Q number

within_less : {P Q : ℕ → Type 0} {bound : ℕ} → WithinBelow (suc bound) P Q → WithinBelow bound P Q
within_less h number l = h number (omega arith)

-- what holds less often counts at most as much
pub counts_at_most : {P Q : ℕ → Type 0} {bound a b : ℕ} → Counts P bound a → Counts Q bound b → WithinBelow bound P Q →
    a ≤ b
counts_at_most Nothing Nothing h = omega arith
counts_at_most (OneMore p s) (OneMore q t) h = let l = counts_at_most s t (within_less h) in omega arith
counts_at_most (OneMore p s) (AsMany q t) h = absurd (q (h _ (omega arith) p))
counts_at_most (AsMany p s) (OneMore q t) h = let l = counts_at_most s t (within_less h) in omega arith
counts_at_most (AsMany p s) (AsMany q t) h = counts_at_most s t (within_less h)

-- and less where somewhere only the second holds
pub counts_less : {P Q : ℕ → Type 0} {bound a b : ℕ} (number : ℕ) → Counts P bound a → Counts Q bound b →
    WithinBelow bound P Q → number < bound → Q number → (P number → ⊥) → a < b
counts_less number Nothing Nothing h l q0 p0 = absurd (omega arith)
counts_less {P} number (OneMore {bound = bound} p s) (OneMore q t) h l q0 p0 =
    let other : number ≡ bound → ⊥ = λ e. p0 (subst P (sym e) p) in
    let r = counts_less number s t (within_less h) (omega arith) q0 p0 in
    omega arith
counts_less number (OneMore p s) (AsMany q t) h l q0 p0 = absurd (q (h _ (omega arith) p))
counts_less number (AsMany p s) (OneMore q t) h l q0 p0 = let r = counts_at_most s t (within_less h) in omega arith
counts_less {Q = Q} number (AsMany {bound = bound} p s) (AsMany q t) h l q0 p0 =
    let other : number ≡ bound → ⊥ = λ e. q (subst Q e q0) in
    counts_less number s t (within_less h) (omega arith) q0 p0

-- what holds of the same numbers counts the same
pub counts_same : {P Q : ℕ → Type 0} {bound a : ℕ} → Counts P bound a → WithinBelow bound P Q → WithinBelow bound Q P →
    Counts Q bound a
counts_same Nothing there back = Nothing
counts_same (OneMore p s) there back = OneMore (there _ (omega arith) p) (counts_same s (within_less there) (within_less back))
counts_same (AsMany p s) there back = AsMany (λ q. p (back _ (omega arith) q)) (counts_same s (within_less there) (within_less back))

counts_further : {P : ℕ → Type 0} {bound a : ℕ} (more : ℕ) → ((number : ℕ) → bound ≤ number → P number → ⊥) →
    Counts P bound a → Counts P (more + bound) a
counts_further {P} {bound} {a} zero none s = subst (λ m. Counts P m a) (omega arith) s
counts_further {P} {bound} {a} (suc more) none s =
    subst (λ m. Counts P m a) (omega arith) (AsMany (none (more + bound) (omega arith)) (counts_further more none s))

-- a greater bound adds nothing where nothing has the property from the lower one on
pub counts_to : {P : ℕ → Type 0} {bound a : ℕ} (wider : ℕ) → bound ≤ wider →
    ((number : ℕ) → bound ≤ number → P number → ⊥) → Counts P bound a → Counts P wider a
counts_to {P} {bound} {a} wider l none s =
    subst (λ m. Counts P m a) (let e : (wider - bound) + bound ≡ wider = omega arith in e) (counts_further (wider - bound) none s)

-- nothing is counted as none
pub counts_none : {P : ℕ → Type 0} (bound : ℕ) → ((number : ℕ) → number < bound → P number → ⊥) → Counts P bound 0
counts_none zero none = Nothing
counts_none (suc bound) none = AsMany (none bound (omega arith)) (counts_none bound (λ number l. none number (omega arith)))

-- a property is counted in one way
pub counts_once : {P : ℕ → Type 0} {bound a b : ℕ} → Counts P bound a → Counts P bound b → a ≡ b
counts_once Nothing Nothing = omega arith
counts_once (OneMore p s) (OneMore q t) = let e = counts_once s t in omega arith
counts_once (OneMore p s) (AsMany q t) = absurd (q p)
counts_once (AsMany p s) (OneMore q t) = absurd (p q)
counts_once (AsMany p s) (AsMany q t) = counts_once s t

-- what is counted is decided
pub counts_decide : {P : ℕ → Type 0} {bound a : ℕ} (number : ℕ) → Counts P bound a → number < bound →
    P number ⊎ (P number → ⊥)
counts_decide number Nothing l = absurd (omega arith)
counts_decide {P} number (OneMore {bound = bound} p s) l = pick (cases_eq number bound) (λ m. counts_decide number s m) l
  where
    pick : (number ≡ bound) ⊎ (number ≡ bound → ⊥) → (number < bound → P number ⊎ (P number → ⊥)) → number < suc bound →
        P number ⊎ (P number → ⊥)
    pick (inl e) f l = inl (subst P (sym e) p)
    pick (inr e) f l = f (omega arith)
counts_decide {P} number (AsMany {bound = bound} p s) l = pick (cases_eq number bound) (λ m. counts_decide number s m) l
  where
    pick : (number ≡ bound) ⊎ (number ≡ bound → ⊥) → (number < bound → P number ⊎ (P number → ⊥)) → number < suc bound →
        P number ⊎ (P number → ⊥)
    pick (inl e) f l = inr (λ q. p (subst P e q))
    pick (inr e) f l = f (omega arith)

-- P is a first part of T: it lies in T, and with each of its numbers it has the earlier ones of T
pub record IsFirstPart (T P : ℕ → Type 0) : Type 0 where
  pub part : (number : ℕ) → P number → T number
  pub down : (earlier number : ℕ) → P number → T earlier → earlier < number → P earlier

-- of two first parts the one with the smaller count lies in the other
pub first_part_within : {T P Q : ℕ → Type 0} {bound a b : ℕ} → IsFirstPart T P → IsFirstPart T Q → Counts P bound a →
    Counts Q bound b → a ≤ b → WithinBelow bound P Q
first_part_within {T} {P} {Q} {bound} {a} {b} fp fq s t l number m p = go (counts_decide number t m)
  where
    inside : (Q number → ⊥) → (other : ℕ) → Q other → (other ≡ number) ⊎ ((other < number) ⊎ (number < other)) → P other
    inside q other z (inl e) = absurd (q (subst Q e z))
    inside q other z (inr (inl w)) = fp.down other number p (fq.part other z) w
    inside q other z (inr (inr w)) = absurd (q (fq.down number other z (fp.part number p) w))

    go : Q number ⊎ (Q number → ⊥) → Q number
    go (inl q) = q
    go (inr q) = absurd
        (let c : b < a = counts_less number t s (λ other w z. inside q other z (cases_order other number)) m p q in omega arith)

-- the union of two first parts is one
pub first_parts_join : {T P Q : ℕ → Type 0} → IsFirstPart T P → IsFirstPart T Q →
    IsFirstPart T (λ number. P number ⊎ Q number)
first_parts_join {T} {P} {Q} fp fq = record { part = λ number z. part number z; down = λ earlier number z t l. down earlier number z t l }
  where
    part : (number : ℕ) → P number ⊎ Q number → T number
    part number (inl p) = fp.part number p
    part number (inr q) = fq.part number q

    down : (earlier number : ℕ) → P number ⊎ Q number → T earlier → earlier < number → P earlier ⊎ Q earlier
    down earlier number (inl p) t l = inl (fp.down earlier number p t l)
    down earlier number (inr q) t l = inr (fq.down earlier number q t l)

-- and counts the greater of the two
pub counts_join : {T P Q : ℕ → Type 0} {bound a b : ℕ} → IsFirstPart T P → IsFirstPart T Q → Counts P bound a →
    Counts Q bound b → Counts (λ number. P number ⊎ Q number) bound (max a b)
counts_join {T} {P} {Q} {bound} {a} {b} fp fq s t = go (cases_lt a b)
  where
    left : {number : ℕ} → (Q number → P number) → P number ⊎ Q number → P number
    left f (inl p) = p
    left f (inr q) = f q

    right : {number : ℕ} → (P number → Q number) → P number ⊎ Q number → Q number
    right f (inl p) = f p
    right f (inr q) = q

    go : (a < b) ⊎ (b ≤ a) → Counts (λ number. P number ⊎ Q number) bound (max a b)
    go (inl l) = subst
        (λ c. Counts (λ number. P number ⊎ Q number) bound c) (omega arith)
        (counts_same t (λ number m q. inr q)
        (λ number m z. right (first_part_within fp fq s t (omega arith) number m) z))
    go (inr l) = subst
        (λ c. Counts (λ number. P number ⊎ Q number) bound c) (omega arith)
        (counts_same s (λ number m p. inl p) (λ number m z. left (first_part_within fq fp t s l number m) z))
