-- A line has one route.
use Rattle.std.proofs.Common.{◌≡◌, ℕ, ◌<◌, ◌^◌, List, [], ◌∷◌, ◌++◌, drop, refl, sym, ap, ap₂, ◌∙◌, subst, arith}
use Rattle.std.specs.Prelude.{All}
use Rattle.std.proofs.lemmas.Fmt.{decimal_injective}
use Rattle.std.proofs.lemmas.List.Elements.{All-head, All-same, All-tail}
use Rattle.ficus_path.specs.declared.path.Base.{Base}
use Rattle.ficus_path.specs.declared.path.Part.{Part}
use Rattle.ficus_path.specs.declared.path.Path.{Path}
use Rattle.ficus_path.specs.Path.{path_from}
use Rattle.ficus_script.specs.declared.volume_line.VolumeLine.{VolumeLine}
use Rattle.ficus_top.specs.Graft.Crossing.{IsPlain, LeadsTo}
use Rattle.ficus_top.specs.Graft.Paths.{with_paths}
use Rattle.ficus_top.specs.Graft.Route.{Ending, Follows, LeadsBy, Route, Sending, ls, sending}
use Rattle.ficus_top.specs.Graft.Route.Ending.{Arrives}
use Rattle.ficus_top.specs.Graft.Route.Follows.{Stays, Crosses}
use Rattle.ficus_top.specs.Graft.Route.Route.{WithoutPath, WithOne, Together, Parting}

module _ (count : ℕ) (few : count < 2 ^ 64) where
  -- a part leads to one volume
  leads_once : (part other : Part) (v w : ℕ) → part ≡ other → LeadsTo count part v → LeadsTo count other w → v ≡ w
  leads_once part other v w same is also =
      decimal_injective v w (omega (arith, is.among.at_most, few)) (omega (arith, also.among.at_most, few))
      (ap (drop 1) (sym is.named ∙ ap (λ (p : Part). p.name) same ∙ also.named))

  -- the first that leads to a volume is one
  one_split : (before others behind beyond : List Part) (crossing other : Part) (v w : ℕ) → All (IsPlain count) before
      → All (IsPlain count) others → LeadsTo count crossing v → LeadsTo count other w
      → before ++ crossing ∷ behind ≡ others ++ other ∷ beyond
      → (before ≡ others) × (crossing ≡ other) × (behind ≡ beyond)
  one_split [] [] behind beyond crossing other v w plain also leads leads_too same = (refl, cc, cc)
  one_split [] (part ∷ others) behind beyond crossing other v w plain also leads leads_too same =
      let first : part ≡ crossing = cc in
      absurd (subst (IsPlain count) first (All-head (IsPlain count) part others also) v leads)
  one_split (part ∷ before) [] behind beyond crossing other v w plain also leads leads_too same =
      let first : part ≡ other = cc in
      absurd (subst (IsPlain count) first (All-head (IsPlain count) part before plain) w leads_too)
  one_split (part ∷ before) (third ∷ others) behind beyond crossing other v w plain also leads leads_too same =
      let first : part ≡ third = cc in
      let rest : before ++ crossing ∷ behind ≡ others ++ other ∷ beyond = cc in
      let parts = one_split before others behind beyond crossing other v w (All-tail (IsPlain count) part before plain)
      (All-tail (IsPlain count) third others also) leads leads_too rest in
      (ap₂ (λ (p : Part) (l : List Part). p ∷ l) first parts.0, parts.1, parts.2)

  -- where none of the parts does, none stands among them
  none_among : (before behind : List Part) (crossing : Part) (v : ℕ) → All (IsPlain count) (before ++ crossing ∷ behind)
      → LeadsTo count crossing v → ⊥
  none_among [] behind crossing v plain leads = All-head (IsPlain count) crossing behind plain v leads
  none_among (part ∷ before) behind crossing v plain leads =
      none_among before behind crossing v (All-tail (IsPlain count) part (before ++ crossing ∷ behind) plain) leads

  module _ (by : ℕ) (kept : List Part) where
    -- a path leads to one place, by one list of looks
    pub one_way : {volume here end far : ℕ} {base from : Base} {parts others : List Part} {looks more : List Sending}
        {rest left : Path} → volume ≡ here → base ≡ from → parts ≡ others
        → Follows count by kept volume base parts looks end rest → Follows count by kept here from others more far left
        → (looks ≡ more) × (end ≡ far) × (rest ≡ left)
    one_way same_volume same_base same (Stays plain is) (Stays also too) =
        (refl, same_volume, is ∙ ap₂ (λ (b : Base) (l : List Part). path_from b (l ++ kept)) same_base same ∙ sym too)
    one_way same_volume same_base same (Stays {parts} plain is) (Crosses {next} before behind crossing cut also leads follows) =
        absurd (none_among before behind crossing next
        (All-same (IsPlain count) (before ++ crossing ∷ behind) parts (sym cut ∙ sym same) plain) leads)
    one_way same_volume same_base same (Crosses {next} before behind crossing cut also leads follows) (Stays {parts} plain is) =
        absurd (none_among before behind crossing next
        (All-same (IsPlain count) (before ++ crossing ∷ behind) parts (sym cut ∙ same) plain) leads)
    one_way same_volume same_base same
        (Crosses {next} before behind crossing cut plain leads follows)
        (Crosses {next = far} others beyond other split also leads_too goes) =
        let parts = one_split before others behind beyond crossing other next far plain also leads leads_too
        (sym cut ∙ same ∙ split) in
        let behind = one_way (leads_once crossing other next far parts.1 leads leads_too) refl parts.2 follows goes in (
          λ i. sending (same_volume i) (ls by (path_from (same_base i) (parts.0 i ++ parts.1 i ∷ []))) ∷ behind.0 i,
          behind.1,
          behind.2,
        )

  module _ (line : VolumeLine) where
    leads_so : (path other : Path) (looks more : List Sending) (end far : ℕ) (rest left : Path) → path ≡ other
        → LeadsBy count line path looks end rest → LeadsBy count line other more far left
        → (looks ≡ more) × (end ≡ far) × (rest ≡ left)
    leads_so path other looks more end far rest left same leads also =
        one_way _ _ refl refl refl leads
        (subst (λ (p : Path). LeadsBy count line p more far left) (sym same) also)

    pub one_route : {looks more : List Sending} {ending other : Ending} → Route count line looks ending
        → Route count line more other → (looks ≡ more) × (ending ≡ other)
    one_route (WithoutPath none) (WithoutPath too) = (refl, refl)
    one_route (WithoutPath none) (WithOne {path} paths leads sent) = let clash : [] ≡ path ∷ [] = sym none ∙ paths in cc
    one_route (WithoutPath none) (Together {path} {other} paths leads also all sent) =
        let clash : [] ≡ path ∷ other ∷ [] = sym none ∙ paths in cc
    one_route (WithoutPath none) (Parting {path} {other} paths leads also all apart) =
        let clash : [] ≡ path ∷ other ∷ [] = sym none ∙ paths in cc
    one_route (WithOne {path} paths leads sent) (WithoutPath none) = let clash : [] ≡ path ∷ [] = sym none ∙ paths in cc
    one_route (WithOne {path} paths leads sent) (WithOne {path = other} also goes too) =
        let same : path ≡ other = let both : path ∷ [] ≡ other ∷ [] = sym paths ∙ also in cc in
        let way = leads_so path other _ _ _ _ _ _ same leads goes in
        (way.0, ap₂ Arrives way.1 (sent ∙ ap (λ (p : Path). with_paths p p line.command) way.2 ∙ sym too))
    one_route (WithOne {path} paths leads sent) (Together {path = third} {other} also goes more all too) =
        let clash : path ∷ [] ≡ third ∷ other ∷ [] = sym paths ∙ also in cc
    one_route (WithOne {path} paths leads sent) (Parting {path = third} {other} also goes more all apart) =
        let clash : path ∷ [] ≡ third ∷ other ∷ [] = sym paths ∙ also in cc
    one_route (Together {path} {other} paths leads also all sent) (WithoutPath none) =
        let clash : [] ≡ path ∷ other ∷ [] = sym none ∙ paths in cc
    one_route (Together {path} {other} paths leads also all sent) (WithOne {path = third} is goes too) =
        let clash : third ∷ [] ≡ path ∷ other ∷ [] = sym is ∙ paths in cc
    one_route (Together {path} {other} paths leads also all sent) (Together {path = third} {other = fourth} is goes more every too) =
        let one : path ≡ third = let both : path ∷ other ∷ [] ≡ third ∷ fourth ∷ [] = sym paths ∙ is in cc in
        let two : other ≡ fourth = let both : path ∷ other ∷ [] ≡ third ∷ fourth ∷ [] = sym paths ∙ is in cc in
        let way = leads_so path third _ _ _ _ _ _ one leads goes in
        let on = leads_so other fourth _ _ _ _ _ _ two also more in (
          all ∙ ap₂ (λ (l m : List Sending). l ++ m) way.0 on.0 ∙ sym every,
          ap₂ Arrives way.1 (sent ∙ ap₂ (λ (p q : Path). with_paths p q line.command) way.2 on.2 ∙ sym too),
        )
    one_route (Together {path} {other} paths leads also all sent) (Parting {path = third} {other = fourth} is goes more every apart) =
        let one : path ≡ third = let both : path ∷ other ∷ [] ≡ third ∷ fourth ∷ [] = sym paths ∙ is in cc in
        let two : other ≡ fourth = let both : path ∷ other ∷ [] ≡ third ∷ fourth ∷ [] = sym paths ∙ is in cc in
        let way = leads_so path third _ _ _ _ _ _ one leads goes in
        let on = leads_so other fourth _ _ _ _ _ _ two also more in
        absurd (apart (sym way.1 ∙ on.1))
    one_route (Parting {path} {other} paths leads also all apart) (WithoutPath none) =
        let clash : [] ≡ path ∷ other ∷ [] = sym none ∙ paths in cc
    one_route (Parting {path} {other} paths leads also all apart) (WithOne {path = third} is goes too) =
        let clash : third ∷ [] ≡ path ∷ other ∷ [] = sym is ∙ paths in cc
    one_route (Parting {path} {other} paths leads also all apart) (Together {path = third} {other = fourth} is goes more every too) =
        let one : path ≡ third = let both : path ∷ other ∷ [] ≡ third ∷ fourth ∷ [] = sym paths ∙ is in cc in
        let two : other ≡ fourth = let both : path ∷ other ∷ [] ≡ third ∷ fourth ∷ [] = sym paths ∙ is in cc in
        let way = leads_so path third _ _ _ _ _ _ one leads goes in
        let on = leads_so other fourth _ _ _ _ _ _ two also more in
        absurd (apart (way.1 ∙ sym on.1))
    one_route (Parting {path} {other} paths leads also all apart) (Parting {path = third} {other = fourth} is goes more every too) =
        let one : path ≡ third = let both : path ∷ other ∷ [] ≡ third ∷ fourth ∷ [] = sym paths ∙ is in cc in
        let two : other ≡ fourth = let both : path ∷ other ∷ [] ≡ third ∷ fourth ∷ [] = sym paths ∙ is in cc in
        let way = leads_so path third _ _ _ _ _ _ one leads goes in
        let on = leads_so other fourth _ _ _ _ _ _ two also more in
        (all ∙ ap₂ (λ (l m : List Sending). l ++ m) way.0 on.0 ∙ sym every, refl)
