-- A resolver has one outcome for a set of contents.
use Rattle.std.specs.Prelude.{◌≡◌, ◌↔◌, ℕ, ◌≤◌, refl, List, Contains, Option, Some, None}
use Rattle.std.specs.Cmp.Lexicographic.{slice_cmp}
use Rattle.std.specs.Fmt.{decimal}
use Rattle.std.specs.List.{flat_map}
use Rattle.std.specs.Ordering.{nat_cmp}
use Rattle.std.specs.Str.Parse.{digits_value}
use Rattle.std.specs.declared.cmp.Ordering.TheVariants.{Less}
use Rattle.std.proofs.Common.{arith, ap, sym, ◌∙◌}
use Rattle.std.proofs.lemmas.Cmp.{nat_list_cmp_total, tied_itself}
use Rattle.std.proofs.lemmas.List.Elements.{All-contains}
use Rattle.ficus_ids.specs.ListLaws.{same_rising}
use Rattle.ficus_ids.specs.declared.kind.Kind.{Kind}
use Rattle.ficus_ids.specs.declared.kind.Kind.TheVariants.{Dir, Plain, Lines, Max, Keep, Symlink}
use Rattle.ficus_resolve.specs.Keep.{KeepsAll, kept_all}
use Rattle.ficus_resolve.specs.Lines.{line_text, IsLineAmong, IsUnionOfLines}
use Rattle.ficus_resolve.specs.Max.{IsNumeral, IsGreatest, HasNoNumeral, IsMaximum}
use Rattle.ficus_resolve.specs.Resolver.{IsResolution}
use Rattle.ficus_resolve.specs.Texts.{IsInOrder}

-- the same texts are in one order
one_order : {belongs others : List ℕ → Type 0} → ((text : List ℕ) → belongs text ↔ others text) →
    (texts other_texts : List (List ℕ)) → IsInOrder belongs texts → IsInOrder others other_texts → texts ≡ other_texts
one_order same texts other_texts ordered also =
    same_rising (λ a b. slice_cmp nat_cmp a b ≡ Less) (λ text below. cc (below, tied_itself nat_list_cmp_total text))
    nat_list_cmp_total.trans texts other_texts ordered.rising also.rising
    (λ text inside. (also.members text).1 ((same text).0 ((ordered.members text).0 inside)))
    (λ text inside. (ordered.members text).1 ((same text).1 ((also.members text).0 inside)))

IsLineAmong-along : (contents others : List (List ℕ)) →
    ((content : List ℕ) → Contains contents content → Contains others content) → (line : List ℕ) →
    IsLineAmong contents line → IsLineAmong others line
IsLineAmong-along contents others into line among = record {
  content = among.content;
  inside = into among.content among.inside;
  lines = among.lines;
  cut = among.cut;
  has = among.has;
}

at_most : (contents others : List (List ℕ)) (number other : ℕ) →
    ((content : List ℕ) → Contains contents content → Contains others content) → IsGreatest contents number →
    IsGreatest others other → number ≤ other
at_most contents others number other into greatest also =
    let inside = into greatest.content greatest.inside in
    let below = All-contains (λ content. digits_value 10 content ≤ other) others greatest.content also.above inside in
    omega (arith, below, greatest.value)

no_maximum : (contents others : List (List ℕ)) (number : ℕ) →
    ((content : List ℕ) → Contains contents content → Contains others content) → HasNoNumeral contents →
    IsGreatest others number → ⊥
no_maximum contents others number into none greatest =
    none.no_numeral (All-contains IsNumeral others none.content greatest.each (into none.content none.inside))

-- the contents are the same set
module _ (contents others : List (List ℕ))
    (same : (content : List ℕ) → Contains contents content ↔ Contains others content) where
  into : (content : List ℕ) → Contains contents content → Contains others content
  into content = (same content).0

  back : (content : List ℕ) → Contains others content → Contains contents content
  back content = (same content).1

  one_union : (text other : List ℕ) → IsUnionOfLines contents text → IsUnionOfLines others other → text ≡ other
  one_union text other union also =
      let alike : (line : List ℕ) → IsLineAmong contents line ↔ IsLineAmong others line =
      λ line. (IsLineAmong-along contents others into line, IsLineAmong-along others contents back line) in
      let lines = one_order alike union.lines also.lines union.ordered also.ordered in
      union.spelled ∙ ap (flat_map line_text) lines ∙ sym also.spelled

  one_maximum : (outcome other : Option (List ℕ)) → IsMaximum contents outcome → IsMaximum others other →
      outcome ≡ other
  one_maximum None None one also = refl
  one_maximum None (Some other) one also = absurd (no_maximum contents others also.number into one also.greatest)
  one_maximum (Some text) None one also = absurd (no_maximum others contents one.number back also one.greatest)
  one_maximum (Some text) (Some other) one also =
      let up = at_most contents others one.number also.number into one.greatest also.greatest in
      let down = at_most others contents also.number one.number back also.greatest one.greatest in
      let number : one.number ≡ also.number = omega (arith, up, down) in
      ap Some (one.spelled ∙ ap decimal number ∙ sym also.spelled)

  one_keeping : (text other : List ℕ) → KeepsAll contents text → KeepsAll others other → text ≡ other
  one_keeping text other kept also =
      let versions = one_order same kept.versions also.versions kept.ordered also.ordered in
      kept.spelled ∙ ap kept_all versions ∙ sym also.spelled

  pub one_resolution : (kind : Kind) (outcome other : Option (List ℕ)) → IsResolution kind contents outcome →
      IsResolution kind others other → outcome ≡ other
  one_resolution Dir outcome other one also = absurd one
  one_resolution Plain outcome other one also = one ∙ sym also
  one_resolution Lines (Some text) (Some other) one also = ap Some (one_union text other one also)
  one_resolution Lines (Some text) None one also = absurd also
  one_resolution Lines None other one also = absurd one
  one_resolution Max outcome other one also = one_maximum outcome other one also
  one_resolution Keep (Some text) (Some other) one also = ap Some (one_keeping text other one also)
  one_resolution Keep (Some text) None one also = absurd also
  one_resolution Keep None other one also = absurd one
  one_resolution Symlink outcome other one also = absurd one
