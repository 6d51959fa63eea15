-- The spelling of a list, in parts.
use Rattle.std.proofs.Common.{◌≡◌, ℕ, ◌+◌, ◌-◌, ◌≤◌, List, ◌++◌, length, take, drop, sym, ap, ◌∙◌, arith, length-append, append_assoc}
use Rattle.std.specs.List.{flat_map}
use Rattle.std.proofs.lemmas.List.{take_all, take_at, drop_at, drop-drop, take-append-drop, length-drop}
use Rattle.std.proofs.lemmas.List.Concat.{flat_map-append}

-- the part that a slice up to the end is
pub to_the_end : {T : Type 0} (items : List T) (to : ℕ) → take (length items - to) (drop to items) ≡ drop to items
to_the_end items to = take_all (length items - to) (drop to items) (omega (arith, length-drop to items))

module _ {T : Type 0} (spell : T → List ℕ) (items : List T) (from to : ℕ) (order : from ≤ to) where
  abbrev pub before : List ℕ
  before = flat_map spell (take from items)

  abbrev pub between : List ℕ
  between = flat_map spell (take (to - from) (drop from items))

  abbrev pub behind : List ℕ
  behind = flat_map spell (drop to items)

  pub in_parts : flat_map spell items ≡ before ++ (between ++ behind)
  in_parts =
      let at : from + (to - from) ≡ to = omega arith in
      ap (flat_map spell) (sym (take-append-drop from items))
      ∙ flat_map-append spell (take from items) (drop from items)
      ∙ ap (λ rest. before ++ rest)
      (ap (flat_map spell) (sym (take-append-drop (to - from) (drop from items)))
      ∙ flat_map-append spell (take (to - from) (drop from items)) (drop (to - from) (drop from items))
      ∙ ap (λ rest. between ++ flat_map spell rest) (drop-drop (to - from) from items ∙ ap (λ n. drop n items) at))

  pub long : length (flat_map spell items) ≡ length before + (length between + length behind)
  long = ap length in_parts ∙ length-append before (between ++ behind)
      ∙ ap (λ n. length before + n) (length-append between behind)

  module _ (bytes : List ℕ) (is : bytes ≡ flat_map spell items) (start end : ℕ)
      (starts : start ≡ length before) (ends : end ≡ length before + length between) where
    pub bytes_before : take start bytes ≡ before
    bytes_before =
        ap (λ all. take start all) (is ∙ in_parts) ∙ take_at before (between ++ behind) start (sym starts)

    pub bytes_behind : drop end bytes ≡ behind
    bytes_behind =
        ap (λ all. drop end all) (is ∙ in_parts ∙ sym (append_assoc before between behind))
        ∙ drop_at (before ++ between) behind end (length-append before between ∙ sym ends)
