-- The walk to an entry answers as the whole walk does.
use Rattle.std.proofs.Common.{◌≡◌, ◌≢◌, ◌-◌, List, [], ◌∷◌, ◌++◌, Option, Some, None, Result, Ok, Err, length, take, refl, ap, subst, ◌∙◌, inl, inr, arith}
use Rattle.std.specs.List.{last_or}
use Rattle.std.proofs.Math.Seq.{take-append_seam}
use Rattle.std.proofs.lemmas.List.{length-append}
use Rattle.ficus_ids.specs.declared.id.Id.{Id}
use Rattle.ficus_ids.specs.declared.refusal.Refusal.{Refusal}
use Rattle.ficus_path.specs.declared.path.Base.{Base}
use Rattle.ficus_path.specs.declared.path.Part.{Part}
use Rattle.ficus_path.specs.declared.path.Path.{Path}
use Rattle.ficus_names.specs.Find.{FindAnswer}
use Rattle.ficus_rules.specs.Laws.{object_of}
use Rattle.ficus_rules.specs.Rule.{Then, Gives}
use Rattle.ficus_rules.specs.View.{View, IsBoundIn}
use Rattle.ficus_rules.specs.Walk.{PartsRule, WalkRule, DirectoryRule, EntryRule, Found, name_of, target_of}
use Rattle.ficus_rules.proofs.Walks.{found_at}

-- a list with something in it has a last item
record EndsWith (parts : List Part) : Type 0 where
  front : List Part
  last : Part
  whole : parts ≡ front ++ last ∷ []

last_of : (parts : List Part) → parts ≢ [] → EndsWith parts
last_of [] some = absurd (some refl)
last_of (part ∷ []) some = record { front = []; last = part; whole = refl }
last_of (part ∷ next ∷ parts) some =
    let ends = last_of (next ∷ parts) (λ none. absurd (omega (arith, ap length none))) in
    record { front = part ∷ ends.front; last = ends.last; whole = ap (λ (rest : List Part). part ∷ rest) ends.whole }

last_behind : (start : Option Part) (front : List Part) (last : Part) → last_or start (front ++ last ∷ []) ≡ Some last
last_behind start [] last = refl
last_behind start (part ∷ front) last = last_behind (Some part) front last

module _ (view : View) where
  -- a walk goes on where its first parts have led
  parts_on : (front rest : List Part) (object dir : Id) → PartsRule view front object (Ok dir) →
      (answer : Result Id Refusal) → PartsRule view rest dir answer → PartsRule view (front ++ rest) object answer
  parts_on [] rest object dir is answer so = subst (λ from. PartsRule view rest from answer) is so
  parts_on (part ∷ front) rest object dir (directory, (next, found, led)) (Ok target) so =
      (directory, (next, found, parts_on front rest next dir led (Ok target) so))
  parts_on (part ∷ front) rest object dir (directory, (next, found, led)) (Err refusal) so =
      inr (directory, inr (next, found, parts_on front rest next dir led (Err refusal) so))

  -- and ends where one of them is refused
  parts_end : (front rest : List Part) (object : Id) (refusal : Refusal) → PartsRule view front object (Err refusal) →
      PartsRule view (front ++ rest) object (Err refusal)
  parts_end [] rest object refusal none = absurd none
  parts_end (part ∷ front) rest object refusal (inl refuses) = inl refuses
  parts_end (part ∷ front) rest object refusal (inr (directory, inl stops)) = inr (directory, inl stops)
  parts_end (part ∷ front) rest object refusal (inr (directory, inr (next, found, stops))) =
      inr (directory, inr (next, found, parts_end front rest next refusal stops))

  module _ (base : Base) (front : List Part) where
    walk_on : (rest : List Part) (dir : Id) → WalkRule view base front (Ok dir) → (answer : Result Id Refusal) →
        PartsRule view rest dir answer → WalkRule view base (front ++ rest) answer
    walk_on rest dir (start, begun, led) (Ok target) so = (start, begun, parts_on front rest start dir led (Ok target) so)
    walk_on rest dir (start, begun, led) (Err refusal) so =
        inr (start, begun, parts_on front rest start dir led (Err refusal) so)

    walk_end : (rest : List Part) (refusal : Refusal) → WalkRule view base front (Err refusal) →
        WalkRule view base (front ++ rest) (Err refusal)
    walk_end rest refusal (inl stops) = inl stops
    walk_end rest refusal (inr (start, begun, stops)) = inr (start, begun, parts_end front rest start refusal stops)

    module _ (last : Part) where
      abbrev LastRule : Id → Result Found Refusal → Type 0
      LastRule dir = Then (FindAnswer (IsBoundIn view dir) last.name last.target) (λ object. Gives (found_at dir object))

      entry_walk : (answer : Result Found Refusal) → Then (DirectoryRule view base front) LastRule answer →
          WalkRule view base (front ++ last ∷ []) (object_of answer)
      entry_walk (Ok found) (dir, (object, walk, (directory, is)), (target, finds, same)) =
          walk_on (last ∷ []) object walk (Ok found.object) (
            directory,
            (
              target,
              subst (λ at. FindAnswer (IsBoundIn view at) last.name last.target (Ok target)) is finds,
              ap (λ (f : Found). f.object) same,
            ),
          )
      entry_walk (Err refusal) (inl (inl stops)) = walk_end (last ∷ []) refusal stops
      entry_walk (Err refusal) (inl (inr (object, walk, inl no_directory))) =
          walk_on (last ∷ []) object walk (Err refusal) (inl no_directory)
      entry_walk (Err refusal) (inl (inr (object, walk, inr (directory, none)))) = absurd none
      entry_walk (Err refusal) (inr (dir, (object, walk, (directory, is)), inl finds)) =
          walk_on (last ∷ []) object walk (Err refusal)
          (inr (directory, inl (subst (λ at. FindAnswer (IsBoundIn view at) last.name last.target (Err refusal)) is finds)))
      entry_walk (Err refusal) (inr (dir, led, inr (target, finds, none))) = absurd none

  pub entry_is_walked : (path : Path) → path.parts ≢ [] → (answer : Result Found Refusal) →
      EntryRule view path answer → WalkRule view path.base path.parts (object_of answer)
  entry_is_walked path some answer rule =
      let ends = last_of path.parts some in
      let at : last_or None path.parts ≡ Some ends.last =
      ap (last_or None) ends.whole ∙ last_behind None ends.front ends.last in
      let front : take (length path.parts - 1) path.parts ≡ ends.front =
      ap (take (length path.parts - 1)) ends.whole
      ∙ ap (λ n. take n (ends.front ++ ends.last ∷ []))
      (omega (arith, ap length ends.whole, length-append ends.front (ends.last ∷ [])))
      ∙ take-append_seam ends.front (ends.last ∷ []) in
      let split : Then (DirectoryRule view path.base ends.front) (LastRule path.base ends.front ends.last) answer =
      rw (front, ap name_of at, ap target_of at) at rule in
      rw ends.whole (entry_walk path.base ends.front ends.last answer split)
