-- Which parts lead to volumes, and the first one that does.
use Rattle.std.proofs.Common.{◌≡◌, ◌⊎◌, ℕ, suc, zero, ◌+◌, ◌<◌, List, [], ◌∷◌, ◌++◌, length, get_or, take, drop, refl, sym, ap, ◌∙◌, subst, inl, inr, arith}
use Rattle.std.specs.Prelude.{All}
use Rattle.std.specs.Str.{bytes_eq}
use Rattle.std.proofs.lemmas.Bool.{cases_Bool, cases_eq}
use Rattle.std.proofs.lemmas.List.{append-nil, append_assoc, drop_more, length-take-le, take-append-drop}
use Rattle.std.proofs.lemmas.List.Elements.{All-nil, All-push, All-same}
use Rattle.std.proofs.lemmas.Slice.Eq.{bytes_eq-Decides}
use Rattle.ficus_path.specs.declared.path.Base.{Base}
use Rattle.ficus_path.specs.declared.path.Base.TheVariants.{Root}
use Rattle.ficus_path.specs.declared.path.Part.{Part}
use Rattle.ficus_path.specs.declared.path.Path.{Path}
use Rattle.ficus_path.specs.Path.{path_from}
use Rattle.ficus_top.specs.Graft.Crossing.{IsFirstCrossing, IsPlain, LeadsTo, graft_name}
use Rattle.ficus_top.specs.Graft.Route.{Follows, Sending, ls, sending}
use Rattle.ficus_top.specs.Graft.Route.Follows.{Stays, Crosses}

-- a part leads to one of so many volumes, or to none
pub led : (count : ℕ) (part : Part) → ((volume : ℕ) × LeadsTo count part volume) ⊎ IsPlain count part
led zero part = inr (λ volume leads. absurd (omega (arith, leads.among.at_least, leads.among.at_most)))
led (suc count) part = elim (cases_Bool (bytes_eq part.name (graft_name (suc count)))) [
  | inl same ↦ inl (
    suc count,
    record {
      among = record { at_least = omega arith; at_most = omega arith };
      named = (bytes_eq-Decides part.name (graft_name (suc count))).0 same;
    },
  )
  | inr other ↦ elim (led count part) [
    | inl (volume, leads) ↦ inl (
      volume,
      record {
        among = record { at_least = leads.among.at_least; at_most = omega (arith, leads.among.at_most) };
        named = leads.named;
      },
    )
    | inr plain ↦ inr (λ volume leads. elim (cases_eq volume (suc count)) [
      | inl is ↦
          let named : part.name ≡ graft_name (suc count) = leads.named ∙ ap graft_name is in
          let same = (bytes_eq-Decides part.name (graft_name (suc count))).1 named in
          absurd (cc)
      | inr differs ↦ plain volume (record {
        among = record { at_least = leads.among.at_least; at_most = omega (arith, leads.among.at_most) };
        named = leads.named;
      })
    ])
  ]
]

-- the part at a place is the first that leads to a volume
pub first_at : (count : ℕ) (parts : List Part) (place : ℕ) (part : Part) (volume : ℕ) → place < length parts
    → part ≡ get_or parts place part → All (IsPlain count) (take place parts) → LeadsTo count part volume
    → IsFirstCrossing count parts place volume
first_at count parts place part volume within is plain leads = record {
  before = take place parts;
  crossing = part;
  behind = drop (place + 1) parts;
  is = sym (take-append-drop place parts) ∙ ap (λ (l : List Part). take place parts ++ l)
      (drop_more parts place part within ∙ ap (λ (p : Part). p ∷ drop (place + 1) parts) (sym is));
  counted = sym (length-take-le place parts (omega arith));
  plain = plain;
  leads = leads;
}

module _ (count by : ℕ) (kept : List Part) where
  -- where a path leads
  pub record Led (volume : ℕ) (base : Base) (parts : List Part) : Type 0 where
    pub looks : List Sending
    pub last : ℕ
    pub rest : Path
    pub follows : Follows count by kept volume base parts looks last rest

  led_behind : (before parts : List Part) (volume : ℕ) (base : Base) → All (IsPlain count) before
      → Led volume base (before ++ parts)
  led_behind before [] volume base plain = record {
    looks = [];
    last = volume;
    rest = path_from base ((before ++ []) ++ kept);
    follows = Stays (All-same (IsPlain count) (before ++ []) before (append-nil before) plain) refl;
  }
  led_behind before (part ∷ parts) volume base plain = elim (led count part) [
    | inl (next, leads) ↦
        let behind = led_behind [] parts next Root (All-nil (IsPlain count)) in
        record {
          looks = sending volume (ls by (path_from base (before ++ part ∷ []))) ∷ behind.looks;
          last = behind.last;
          rest = behind.rest;
          follows = Crosses before parts part refl plain leads behind.follows;
        }
    | inr none ↦
        subst (λ (l : List Part). Led volume base l) (append_assoc before (part ∷ []) parts)
        (led_behind (before ++ part ∷ []) parts volume base (All-push (IsPlain count) before part plain none))
  ]

  -- each path leads somewhere
  pub always_leads : (volume : ℕ) (base : Base) (parts : List Part) → Led volume base parts
  always_leads volume base parts = led_behind [] parts volume base (All-nil (IsPlain count))
