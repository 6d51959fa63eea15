-- The lines of directories: one directory after the other, over views that show the same, and one list of them only.
use Rattle.std.proofs.Common.{◌≡◌, ◌⊎◌, ◌↔◌, ℕ, ◌-◌, ◌<◌, List, [], ◌++◌, length, get_or, Bool, true, false, IsTrue, refl, sym, ap, subst, ◌∙◌, inl, inr, arith}
use Rattle.std.specs.Prelude.{AllPairs, Contains}
use Rattle.std.specs.Cmp.{IsTotalOrder}
use Rattle.std.specs.declared.cmp.Ordering.{Ordering}
use Rattle.std.specs.declared.cmp.Ordering.TheVariants.{Less, Equal}
use Rattle.std.specs.Ordering.{ordering_then}
use Rattle.std.proofs.Math.ListN.{get_or-append}
use Rattle.std.proofs.lemmas.Bool.{cases_lt}
use Rattle.std.proofs.lemmas.Cmp.{then_total, on_total, tied_itself}
use Rattle.std.proofs.lemmas.List.{get_or-map, length-map, length-append, get_or-append_right}
use Rattle.std.proofs.lemmas.List.Elements.{All-contains, Contains-append_cases, Contains-append_left, Contains-append_right, Contains-get_or}
use Rattle.ficus_ids.specs.Id.{id_cmp}
use Rattle.ficus_ids.specs.IdLaws.{id_cmp-self, id_cmp_total}
use Rattle.ficus_ids.specs.ListLaws.{not_inside_none, into_map, from_map, same_rising}
use Rattle.ficus_ids.specs.declared.id.Id.{Id}
use Rattle.ficus_model.specs.ShownNames.{IsShownAs}
use Rattle.ficus_names.specs.Listing.{shown_cmp, IsListing}
use Rattle.ficus_names.specs.ListingLaws.{shown_cmp_total, IsShownAs-along, one_suffix}
use Rattle.ficus_names.specs.declared.listing.Line.{Line}
use Rattle.ficus_names.specs.declared.listing.ShownName.{ShownName}
use Rattle.ficus_rules.specs.Lines.{line_cmp, TellsObject, IsShownLine, AreLinesOf, HasLine, AreLines}
use Rattle.ficus_rules.specs.View.{View, SameShown, IsBoundIn}
use Rattle.ficus_rules.proofs.Sound.{IsSound}
use Rattle.ficus_rules.proofs.Views.{bound_same, bound_there, same_back}

pairs_append : {X : Type 0} (R : X → X → Type 0) (xs ys : List X) → AllPairs R xs → AllPairs R ys →
    ((x y : X) → Contains xs x → Contains ys y → R x y) → AllPairs R (xs ++ ys)
pairs_append R xs ys first second across i j d before within =
    elim (cases_lt j (length xs)) as (λ _. R (get_or (xs ++ ys) i d) (get_or (xs ++ ys) j d)) [
      | inl early ↦ rw (get_or-append xs ys d i (omega arith), get_or-append xs ys d j early) (first i j d before early)
      | inr late ↦
          let at : get_or (xs ++ ys) j d ≡ get_or ys (j - length xs) d = get_or-append_right xs ys (length xs) j d refl late in
          let inside : j - length xs < length ys = omega (arith, length-append xs ys) in
          elim (cases_lt i (length xs)) as (λ _. R (get_or (xs ++ ys) i d) (get_or (xs ++ ys) j d)) [
            | inl early ↦ rw (get_or-append xs ys d i early, at)
                (across (get_or xs i d) (get_or ys (j - length xs) d) (Contains-get_or xs i d early)
                (Contains-get_or ys (j - length xs) d inside))
            | inr late_too ↦ rw (get_or-append_right xs ys (length xs) i d refl late_too, at) (second (i - length xs) (j - length xs) d (omega arith) inside)
          ]
    ]

at_one : (first second : Ordering) → first ≡ Equal → second ≡ Less → ordering_then first second ≡ Less
at_one first second one below = rw (one, below) refl

at_lower : (first second : Ordering) → first ≡ Less → ordering_then first second ≡ Less
at_lower first second lower = rw lower refl

module _ (view : View) where
  abbrev binds : Id → List ℕ → Id → Type 0
  binds = IsBoundIn view

  pub no_lines : AreLines view (λ dir. ⊥) []
  no_lines = record {
    each = λ line listed. absurd (not_inside_none line listed);
    all = λ dir target name none. absurd none;
    ordered = λ i j d before within. absurd (omega arith);
  }

  module _ (dir : Id) (names : List ShownName) (own : List Line) (listing : IsListing (IsBoundIn view dir) names)
      (of_dir : AreLinesOf view dir names own) where
    own_name : (line : Line) → Contains own line → Contains names line.shown
    own_name line listed =
        subst (λ items. Contains items line.shown) of_dir.names (into_map (λ (l : Line). l.shown) own line listed)

    own_is : (line : Line) → Contains own line → IsShownLine view line
    own_is line listed =
        let shown = All-contains (λ (item : ShownName). IsShownAs (binds dir) item.name item.target item.suffixed) names
        line.shown listing.shown (own_name line listed) in
        record {
          shown = subst (λ at. IsShownAs (binds at) line.shown.name line.shown.target line.shown.suffixed)
              (sym (of_dir.in_dir line listed)) shown;
          object = of_dir.objects line listed;
        }

    own_has : (target : Id) (name : List ℕ) → binds dir name target → HasLine own dir name target
    own_has target name bound =
        let shows = listing.complete name target bound in
        let found = from_map (λ (l : Line). l.shown) own shows.item
        (subst (λ items. Contains items shows.item) (sym of_dir.names) shows.inside) in
        record {
          line = found.0;
          listed = found.1;
          in_dir = of_dir.in_dir found.0 found.1;
          named = ap (λ (item : ShownName). item.name) found.2 ∙ shows.named;
          leads = ap (λ (item : ShownName). item.target) found.2 ∙ shows.leads;
        }

    module _ (i : ℕ) (d : Line) (inside : i < length own) where
      dir_at : (get_or own i d).dir ≡ dir
      dir_at = of_dir.in_dir (get_or own i d) (Contains-get_or own i d inside)

      name_at : get_or names i d.shown ≡ (get_or own i d).shown
      name_at = ap (λ items. get_or items i d.shown) (sym of_dir.names)
          ∙ get_or-map (λ (l : Line). l.shown) own i d d.shown inside

    own_ordered : AllPairs (λ a b. line_cmp a b ≡ Less) own
    own_ordered i j d before within =
        let first : i < length own = omega arith in
        let inside : j < length names =
        omega (arith, within, ap length of_dir.names, length-map own (λ (l : Line). l.shown)) in
        let one : id_cmp (get_or own i d).dir (get_or own j d).dir ≡ id_cmp dir dir =
        λ k. id_cmp (dir_at i d first k) (dir_at j d within k) in
        let names_at : shown_cmp (get_or names i d.shown) (get_or names j d.shown)
        ≡ shown_cmp (get_or own i d).shown (get_or own j d).shown =
        λ k. shown_cmp (name_at i d first k) (name_at j d within k) in
        at_one (id_cmp (get_or own i d).dir (get_or own j d).dir)
        (shown_cmp (get_or own i d).shown (get_or own j d).shown) (one ∙ id_cmp-self dir)
        (sym names_at ∙ listing.rising i j d.shown before inside)

    -- the lines of further directories, all above those so far, go behind
    pub lines_more : (shows more : Id → Type 0) (lines : List Line) → AreLines view shows lines →
        ((other : Id) → shows other → id_cmp other dir ≡ Less) → ((other : Id) → shows other → more other) → more dir →
        ((other : Id) → more other → shows other ⊎ (other ≡ dir)) → AreLines view more (lines ++ own)
    lines_more shows more lines are below kept new either = record {
      each = λ line listed. elim (Contains-append_cases lines own line listed) as (λ _. more line.dir × IsShownLine view line) [
        | inl earlier ↦ let is = are.each line earlier in (kept line.dir is.0, is.1)
        | inr mine ↦ (subst more (sym (of_dir.in_dir line mine)) new, own_is line mine)
      ];
      all = λ other target name shown bound. elim (either other shown) as (λ _. HasLine (lines ++ own) other name target) [
        | inl earlier ↦
            let has = are.all other target name earlier bound in
            record { line = has.line; listed = Contains-append_left lines own has.line has.listed; in_dir = has.in_dir; named = has.named; leads = has.leads }
        | inr is ↦
            let has = own_has target name (subst (λ at. binds at name target) is bound) in
            record {
              line = has.line;
              listed = Contains-append_right lines own has.line has.listed;
              in_dir =
                  has.in_dir ∙ sym is;
              named = has.named;
              leads = has.leads;
            }
      ];
      ordered = pairs_append (λ a b. line_cmp a b ≡ Less) lines own are.ordered own_ordered (λ a b earlier mine.
          at_lower (id_cmp a.dir b.dir) (shown_cmp a.shown b.shown)
          (subst (λ at. id_cmp a.dir at ≡ Less) (sym (of_dir.in_dir b mine)) (below a.dir (are.each a earlier).0)));
    }

    -- the lines of one directory
    pub lines_of_one : AreLines view (λ shown. shown ≡ dir) own
    lines_of_one = lines_more (λ other. ⊥) (λ other. other ≡ dir) [] no_lines (λ other none. absurd none) (λ other none. absurd none) refl (λ other is. inr is)

line_total : IsTotalOrder line_cmp
line_total = then_total (on_total (λ (line : Line). line.dir) id_cmp_total) (on_total (λ (line : Line). line.shown) shown_cmp_total)

module _ {one other : View} (same : SameShown one other) where
  object_told : {line : Line} → TellsObject one line → TellsObject other line
  object_told {line} tells =
      let either = same.conflicts line.shown.target in
      record {
        kind = (same.kinds line.shown.target line.kind).0 tells.kind;
        conflict = (λ flag. either.0 (tells.conflict.0 flag), λ conflict. tells.conflict.1 (either.1 conflict));
      }

  line_shown : {line : Line} → IsShownLine one line → IsShownLine other line
  line_shown {line} is = record {
    shown = IsShownAs-along (bound_same same line.dir) line.shown is.shown;
    object = object_told is.object;
  }

  -- views that show the same have the same lines
  pub lines_along : {shows more : Id → Type 0} {lines : List Line} → ((dir : Id) → shows dir ↔ more dir) →
      AreLines one shows lines → AreLines other more lines
  lines_along either are = record {
    each = λ line listed. let is = are.each line listed in ((either line.dir).0 is.0, line_shown is.1);
    all = λ dir target name shown bound. are.all dir target name ((either dir).1 shown) (bound_there (same_back same) bound);
    ordered = are.ordered;
  }

-- two flags that tell the same are the same
same_flag : {P : Type 0} (one other : Bool) → IsTrue one ↔ P → IsTrue other ↔ P → one ≡ other
same_flag true true tells tells_too = refl
same_flag true false tells tells_too = sym (tells_too.1 (tells.0 refl))
same_flag false true tells tells_too = tells.1 (tells_too.0 refl)
same_flag false false tells tells_too = refl

module _ {view : View} (sound : IsSound view) where
  -- two lines that tell of one object tell the same
  same_object : (line other : Line) → other.shown.target ≡ line.shown.target → TellsObject view line →
      TellsObject view other → (other.kind ≡ line.kind) × (other.conflict ≡ line.conflict)
  same_object line other leads tells tells_too = (
    sound.one_kind line.shown.target other.kind line.kind
        (subst (λ target. view.kinds target other.kind) leads tells_too.kind) tells.kind,
    same_flag other.conflict line.conflict
        (subst (λ target. IsTrue other.conflict ↔ view.conflicts target) leads tells_too.conflict) tells.conflict,
  )

module _ {view : View} (sound : IsSound view) {shows : Id → Type 0} where
  line_inside : (lines others : List Line) → AreLines view shows lines → AreLines view shows others → (line : Line) →
      Contains lines line → Contains others line
  line_inside lines others are are_too line inside =
      let own = are.each line inside in
      let found = are_too.all line.dir line.shown.target line.shown.name own.0 own.1.shown.bound in
      let his = (are_too.each found.line found.listed).1 in
      let in_dir : IsShownAs (IsBoundIn view line.dir) found.line.shown.name found.line.shown.target
      found.line.shown.suffixed =
      subst (λ dir. IsShownAs (IsBoundIn view dir) found.line.shown.name found.line.shown.target
      found.line.shown.suffixed) found.in_dir his.shown in
      let suffixed = one_suffix line.shown.suffixed found.line.shown.suffixed own.1.shown in_dir found.named found.leads in
      let told = same_object sound line found.line found.leads own.1.object his.object in
      let one : found.line ≡ line = λ i. record {
        dir = found.in_dir i;
        shown = record { name = found.named i; target = found.leads i; suffixed = suffixed i };
        kind = told.0 i;
        conflict = told.1 i;
      } in
      subst (Contains others) one found.listed

  -- there is one list of lines
  pub lines_once : (lines others : List Line) → AreLines view shows lines → AreLines view shows others → lines ≡ others
  lines_once lines others are are_too =
      same_rising (λ a b. line_cmp a b ≡ Less) (λ line below. cc (below, tied_itself line_total line)) line_total.trans lines others are.ordered are_too.ordered
      (line_inside lines others are are_too)
      (line_inside others lines are_too are)
