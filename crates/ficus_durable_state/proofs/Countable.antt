-- How many entries and files tables may have that fit.
use Rattle.std.specs.Prelude.{◌≡◌, ℕ, ◌+◌, ◌*◌, ◌≤◌, ◌<◌, List, [], ◌∷◌, length, All, AllPairs, Contains, get_or}
use Rattle.std.specs.Cmp.{nat_cmp_is}
use Rattle.std.specs.declared.cmp.Ordering.TheVariants.{Less, Equal, Greater}
use Rattle.std.specs.Ordering.{nat_cmp}
use Rattle.std.proofs.Common.{sym, arith, inl, inr}
use Rattle.std.proofs.lemmas.Bool.{cases_order}
use Rattle.std.proofs.lemmas.List.Elements.{All-contains, All-weaker}
use Rattle.ficus_ids.specs.Id.{id_cmp}
use Rattle.ficus_ids.specs.ListLaws.{here, there, first_below, rest_rises}
use Rattle.ficus_ids.specs.Members.{IsCount}
use Rattle.ficus_ids.specs.Rising.{IsRisingBy}
use Rattle.ficus_ids.specs.declared.id.Id.{Id}
use Rattle.ficus_entry.specs.declared.entry.Entry.{Entry}
use Rattle.ficus_file.specs.Files.{id_of}
use Rattle.ficus_file.specs.declared.file.FileReplica.{FileReplica}
use Rattle.ficus_durable_state.specs.Laws.{TablesAreCountable}
use Rattle.ficus_durable_state.specs.Tables.{IsIssuable, FitsEntry, FitsFile, FitsTables}

-- the most identifiers that members may issue, by their ranks
abbrev pub most_issued : ℕ
most_issued = 900000

-- identifiers that members may issue, counted through
rank : Id → ℕ
rank id = id.replica * 100000 + id.number

number_less : (x y : ℕ) → nat_cmp x y ≡ Less → x < y
number_less x y is = elim (cases_order x y) [
  | inl same ↦ let tied : nat_cmp x y ≡ Equal = sym (nat_cmp_is x y Equal same) in absurd cc
  | inr (inl below) ↦ below
  | inr (inr above) ↦ let more : nat_cmp x y ≡ Greater = sym (nat_cmp_is x y Greater above) in absurd cc
]

rank_rises : (members : ℕ) (a b : Id) → IsIssuable members a → IsIssuable members b → id_cmp a b ≡ Less →
    rank a < rank b
unfolding rank id_cmp
rank_rises members a b fits also less = elim (cases_order a.replica b.replica) [
  | inl same ↦
      let tied : nat_cmp a.replica b.replica ≡ Equal = sym (nat_cmp_is a.replica b.replica Equal same) in
      omega (arith, same, number_less a.number b.number (rw tied at less))
  | inr (inl below) ↦ omega (arith, below, fits.at_most, also.at_least)
  | inr (inr above) ↦
      let more : nat_cmp a.replica b.replica ≡ Greater = sym (nat_cmp_is a.replica b.replica Greater above) in
      let no = rw more at less in
      absurd cc
]

rank_bounds : (members : ℕ) (a : Id) → IsCount members → IsIssuable members a → (0 < rank a) × (rank a ≤ most_issued)
unfolding rank
rank_bounds members a few fits = (
  omega (arith, fits.at_least),
  omega (arith, few.at_most, fits.replica.at_most, fits.at_most),
)

module _ {X : Type 0} (id_of : X → Id) where
  -- ranks that rise between two numbers are no more than lie between them
  few_between : (xs : List X) (bottom top : ℕ) → bottom ≤ top →
      AllPairs (λ x y. rank (id_of x) < rank (id_of y)) xs →
      ((x : X) → Contains xs x → (bottom < rank (id_of x)) × (rank (id_of x) ≤ top)) → length xs + bottom ≤ top
  few_between [] bottom top within rises each = omega arith
  few_between (x ∷ xs) bottom top within rises each =
      let first = each x (here x xs) in
      let rest = few_between xs (rank (id_of x)) top first.1 (rest_rises (λ x y. rank (id_of x) < rank (id_of y)) x xs rises)
      (λ y inside. (
        first_below (λ x y. rank (id_of x) < rank (id_of y)) x xs y rises inside,
        (each y (there x y xs inside)).1,
      )) in
      omega (arith, first.0, rest)

  -- of what members may issue there are no more than of their ranks
  few_issued : (members : ℕ) (xs : List X) → IsCount members → IsRisingBy id_of xs →
      All (λ x. IsIssuable members (id_of x)) xs → length xs ≤ most_issued
  few_issued members xs few rising each =
      let so = few_between xs 0 most_issued (omega arith)
      (λ i j d before within. rank_rises members (id_of (get_or xs i d)) (id_of (get_or xs j d)) (each i d (omega arith))
      (each j d within) (rising.each i j d before within))
      (λ x inside. rank_bounds members (id_of x) few
      (All-contains (λ x. IsIssuable members (id_of x)) xs x each inside)) in
      omega (arith, so)

module _ (members : ℕ) (entries : List Entry) (files : List FileReplica) (few : IsCount members)
    (fits : FitsTables members entries files) where
  pub few_entries : length entries ≤ most_issued
  few_entries =
      few_issued (λ (entry : Entry). entry.id) members entries few fits.rising
      (All-weaker (FitsEntry members) (λ entry. IsIssuable members entry.id) (λ entry fit. fit.id) entries fits.each)

  pub few_files : length files ≤ most_issued
  few_files =
      few_issued id_of members files few fits.rising_files
      (All-weaker (FitsFile members) (λ file. IsIssuable members file.id) (λ file fit. fit.id) files fits.each_file)

-- so many that a count in four bytes can say it
pub tables_countable : TablesAreCountable
tables_countable members entries files few fits = record {
  few_entries = omega (arith, few_entries members entries files few fits);
  few_files = omega (arith, few_files members entries files few fits);
}
