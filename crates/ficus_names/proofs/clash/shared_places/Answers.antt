use Rattle.std.proofs.Common.{◌≡◌, ◌-◌, ◌<◌, ◌≤◌, ◌∷◌, ◌++◌, [], length, refl, sym, ap, ◌∙◌, arith}
use Rattle.std.proofs.lemmas.Bool.{false≢true}
use Rattle.std.proofs.lemmas.Grind.{common_steps}
use Rattle.std.proofs.lemmas.List.{get_or_default}
use Rattle.std.proofs.lemmas.List.Elements.{at_read}
use Rattle.ficus_names.specs.declared.clash.Lead.{Lead}
use Rattle.ficus_names.proofs.Leads.{places_all, places_push, places_stay}
use Rattle.ficus_names.proofs.clash.shared_places.Goals as goal
use Rattle.ficus_names.proofs.clash.shared_places.Goals.{then-have_same_place+in_ok-copied+in_ok-push, else-have_same_place}

pub loop-index-preserved : goal.loop-index-preserved
loop-index-preserved c =
    let leads = c.args.leads.now in
    let index = c.loop-index.index in
    let places = c.loop-index.places.items in
    let lead = c.index-leads-index.result in
    let previous = c.index-leads-index-in-loop-index.result in
    let within : index < length leads = c.loop-index-test.true in
    let positive : 1 ≤ index = c.loop-index.auto.index in
    let before : index - 1 < length leads = omega arith in
    elim c.if-have_same_place.branch [
      | then-have_same_place+in_ok-copied+in_ok-push w ↦
          let pushed : c.if-have_same_place.places.items ≡ places ++ lead.place ∷ [] = grind (arith, common_steps) in
          rw pushed (places_push leads index places c.loop-index.invariant lead.place (omega arith) within
          (at_read leads (λ (l : Lead). l.place ≡ lead.place) index lead within c.index-leads-index.is refl)
          (at_read leads (λ (l : Lead). l.place ≡ lead.place) (index - 1) previous before
          c.index-leads-index-in-loop-index.is (w.if-have_same_place.ensures.0 refl)))
      | else-have_same_place w ↦
          let same : c.if-have_same_place.places.items ≡ places = grind (arith, common_steps) in
          rw same (places_stay leads index places c.loop-index.invariant (λ d one.
          let place = λ (l : Lead). l.place in
          let here : previous.place ≡ lead.place =
          ap place (c.index-leads-index-in-loop-index.is ∙ get_or_default leads (index - 1) previous d before) ∙ one
          ∙ ap place (get_or_default leads index d lead within ∙ sym c.index-leads-index.is) in
          false≢true (w.if-have_same_place.ensures.1 here)))
    ]

pub returns : goal.returns
returns c = λ place.
    let past : length c.args.leads.now ≤ c.loop-index.index = omega arith in
    places_all c.args.leads.now c.requires place c.loop-index.index c.loop-index.places.items past c.loop-index.invariant
