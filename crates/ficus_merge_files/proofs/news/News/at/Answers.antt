use Rattle.std.specs.Prelude.{vec_len}
use Rattle.std.proofs.Common.{◌≡◌, ◌<◌, ◌∙◌, ℕ, List, refl, sym, ap, subst, length, slice_get, arith}
use Rattle.std.proofs.lemmas.Option.{slice_get_read}
use Rattle.ficus_file.specs.declared.file.FileReplica.{FileReplica}
use Rattle.ficus_merge_files.specs.News.{Sides, at_places, AreInside}
use Rattle.ficus_merge_files.proofs.Places.{places_count, place_at}
use Rattle.ficus_merge_files.proofs.news.News.at.Goals as goal

-- an index below the number of new files has a place
has_place : (theirs : List FileReplica) (places : List ℕ) (sides : Sides) (index : ℕ) → AreInside theirs places
    → sides.new ≡ at_places theirs places → index < length sides.new → index < length places
has_place theirs places sides index inside new within =
    omega (arith, within, ap length new, places_count theirs places inside)

pub index-requires : goal.index-requires
index-requires c =
    let places = c.self.inside.places.items in
    let all : vec_len c.self.inside.places ≡ length places = grind arith in
    omega (
      arith,
      all,
      has_place c.self.inside.theirs places c.args.self.now c.args.index c.self.invariant.inside
          (ap (λ (sides : Sides). sides.new) (sym c.self.view_is)) c.requires,
    )

pub at-theirs-requires : goal.at-theirs-requires
at-theirs-requires c =
    let within = has_place c.self.inside.theirs c.self.inside.places.items c.args.self.now c.args.index
    c.self.invariant.inside (ap (λ (sides : Sides). sides.new) (sym c.self.view_is)) c.requires in
    subst (λ (n : ℕ). n < length c.self.inside.theirs) (sym c.index.ensures)
    (c.self.invariant.inside c.args.index c.index.result.now within)

pub returns-clause-theirs : goal.returns-clause-theirs
returns-clause-theirs c =
    let places = c.self.inside.places.items in
    let within = has_place c.self.inside.theirs places c.args.self.now c.args.index c.self.invariant.inside
    (ap (λ (sides : Sides). sides.new) (sym c.self.view_is)) c.requires in
    ap (λ (sides : Sides). slice_get sides.new c.args.index) (sym c.self.view_is)
    ∙ place_at c.self.inside.theirs places c.self.invariant.inside c.args.index c.index.result.now
    (slice_get_read places (length places) c.args.index c.index.result.now refl within c.index.ensures)
    ∙ c.at-theirs.ensures
