-- A lawful history in which an entry is removed, and dropped once all know that all know it.
use Rattle.std.proofs.Common.{◌≡◌, ◌↔◌, ◌⊎◌, ℕ, ◌+◌, ◌<◌, List, [], ◌∷◌, ◌++◌, refl, sym, ap, ◌∙◌, subst, inl, inr, arith}
use Rattle.std.specs.Prelude.{Contains, codes}
use Rattle.std.proofs.lemmas.Bool.{cases_eq}
use Rattle.ficus_ids.specs.ListLaws.{here, here_or_there, not_inside_none}
use Rattle.ficus_ids.specs.Members.{IsMember}
use Rattle.ficus_ids.specs.declared.id.Id.{Id}
use Rattle.ficus_ids.specs.declared.id.TheConstants.{ROOT}
use Rattle.ficus_ids.specs.declared.kind.Kind.TheVariants.{Dir, Plain}
use Rattle.ficus_model.specs.declared.event.Event.{Event}
use Rattle.ficus_model.specs.declared.event.Event.TheVariants.{Update, Collect}
use Rattle.ficus_model.specs.declared.event.Op.{Op}
use Rattle.ficus_model.specs.declared.event.Op.TheVariants.{Make, Remove}
use Rattle.ficus_model.specs.Known.{Knows}
use Rattle.ficus_model.specs.Live.{ModelEntry, IsLive, IsBoundBy, IsDirectory, IsMade, IsRemoved}
use Rattle.ficus_model.specs.Lawful.{AreNames, HasPlace, IsLawful}
use Rattle.ficus_model.specs.Reached.IsReached.{Base}
use Rattle.ficus_model.specs.View.{IsReachedDirectory}
use Rattle.ficus_model.specs.Knowledge.{KnowsThatKnows, KnowsThatAllKnow}
use Rattle.ficus_model.specs.Held.{IsDropped}
use Rattle.ficus_laws.specs.Accepts.{pulled}
use Rattle.ficus_laws.proofs.Positions.{of_within}
use Rattle.ficus_laws.proofs.Updates.{update_within, count_update}
use Rattle.ficus_laws.proofs.Lawful.{lawful_none, lawful_more}
use Rattle.ficus_laws.proofs.AfterUpdate.{make_live, make_new, make_made, removed_new}
use Rattle.ficus_laws.proofs.Issued.{next_not_removed}
use Rattle.ficus_laws.proofs.Pull.{lawful_pulled, pulled_agrees, pulled_brings}
use Rattle.ficus_removal_laws.specs.Example.{drop_volume, drop_entry, drop_history}
use Rattle.ficus_removal_laws.proofs.Carrying.{one_at, one_removed, all_at}
use Rattle.ficus_removal_laws.proofs.Hearing.{two_at_last, one_of_itself, two_of_itself}
use Rattle.ficus_removal_laws.proofs.Dropping.{dropped_now}

-- In each of these a replica pulls from a server: what the server knows of others' knowledge, it then knows.
module _ (H : List Event) (replica server last : ℕ) where
  one_pulled : {peer : ℕ} {entry : Id} → KnowsThatKnows H server peer entry →
      KnowsThatKnows (pulled H replica server last) replica peer entry
  one_pulled o =
      one_at (pulled_agrees H replica server last) o (of_within o.own) (pulled_brings H replica server last o.known)

  all_pulled : {members peer : ℕ} {entry : Id} → KnowsThatAllKnow members H server peer entry →
      KnowsThatAllKnow members (pulled H replica server last) replica peer entry
  all_pulled t =
      all_at (pulled_agrees H replica server last) t (of_within t.own) (pulled_brings H replica server last t.known)

made : Op
made = Make ROOT (codes "a") Plain []

removal : Op
removal = Remove (drop_entry ∷ []) drop_entry

with_file : List Event
with_file = Update 1 made ∷ []

without : List Event
without = with_file ++ Update 1 removal ∷ []

pub first : IsMember 2 1
first = record { at_least = omega arith; at_most = omega arith }

pub second : IsMember 2 2
second = record { at_least = omega arith; at_most = omega arith }

one_or_two : (member : ℕ) → IsMember 2 member → (member ≡ 1) ⊎ (member ≡ 2)
one_or_two member m = go (cases_eq member 1)
  where
    go : (member ≡ 1) ⊎ (member ≡ 1 → ⊥) → (member ≡ 1) ⊎ (member ≡ 2)
    go (inl one) = inl one
    go (inr other) = inr (omega (arith, other, m.at_least, m.at_most))

pub root_directory : {H : List Event} {U : ℕ → Type 0} → IsReachedDirectory H U ROOT
root_directory = record { directory = inl refl; reached = Base (inl refl) }

pub place : HasPlace [] (Knows [] 1) ROOT (codes "a")
place = record { parent = root_directory; free = λ t. absurd (omega (arith, update_within t.1.live.entered.update)) }

file_lawful : IsLawful drop_volume with_file
unfolding with_file made
file_lawful =
    lawful_more drop_volume [] (Update 1 made) (lawful_none drop_volume)
    (record {
      member = first;
      left = omega arith;
      bytes = record { one_file = omega arith; left = omega arith };
      allowed = record { place = place; fits = refl };
    })

abbrev file_entry : ModelEntry
file_entry = record { id = drop_entry; dir = ROOT; name = codes "a"; target = drop_entry }

file_lives : IsLive with_file (Knows with_file 1) file_entry
unfolding with_file made
file_lives = make_new [] 1 ROOT (codes "a") Plain [] (next_not_removed drop_volume [] 1 (lawful_none drop_volume))

file_alone : {entry : ModelEntry} → IsLive with_file (Knows with_file 1) entry → entry ≡ file_entry
unfolding with_file made
file_alone {entry} live = go (make_live [] 1 ROOT (codes "a") Plain [] live)
  where
    go : IsLive [] (Knows [] 1) entry ⊎ (entry ≡ file_entry) → entry ≡ file_entry
    go (inl was) = absurd (omega (arith, update_within was.entered.update))
    go (inr is) = is

names : AreNames with_file (Knows with_file 1) (drop_entry ∷ []) drop_entry
names = record { dir = ROOT; name = codes "a"; parent = root_directory; all = all; some = λ none. cc }
  where
    named : {id : Id} → id ≡ drop_entry → IsBoundBy with_file (Knows with_file 1) id ROOT (codes "a") drop_entry
    named is = record {
      bound = record { entry = file_entry; live = file_lives; in_dir = refl; named = refl; leads = refl };
      by = sym is;
    }

    only : {id : Id} → (id ≡ drop_entry) ⊎ Contains [] id → id ≡ drop_entry
    only (inl is) = is
    only {id} (inr none) = absurd (not_inside_none id none)

    all : (id : Id) →
        Contains (drop_entry ∷ []) id ↔ IsBoundBy with_file (Knows with_file 1) id ROOT (codes "a") drop_entry
    all id = (
      λ inside. named (only (here_or_there drop_entry id [] inside)),
      λ bound.
          let is = sym bound.by ∙ ap (λ (entry : ModelEntry). entry.id) (file_alone bound.bound.live) in
          subst (Contains (drop_entry ∷ [])) (sym is) (here drop_entry []),
    )

not_root : drop_entry ≡ ROOT → ⊥
not_root root = differs_from_less 1 0 (omega arith) (ap (λ (id : Id). id.replica) root)
  where
    differs_from_less : (replica other : ℕ) → other < replica → replica ≡ other → ⊥
    differs_from_less replica other less same = omega arith

no_directory : IsDirectory with_file (Knows with_file 1) drop_entry → ⊥
unfolding with_file made
no_directory (inl root) = not_root root
no_directory (inr m) = go (make_made [] 1 ROOT (codes "a") Plain [] m)
  where
    go : IsMade [] (Knows [] 1) drop_entry Dir ⊎ ((drop_entry ≡ drop_entry) × (Dir ≡ Plain)) → ⊥
    go (inl was) = omega (arith, update_within was.update)
    go (inr (same, kinds)) = cc

removal_lawful : IsLawful drop_volume without
unfolding with_file without made removal
removal_lawful =
    lawful_more drop_volume with_file (Update 1 removal) file_lawful
    (record {
      member = first;
      left = omega (arith, count_update 1 [] made);
      bytes = tt;
      allowed = record { names = names; left = λ directory inside. absurd (no_directory directory) };
    })

-- the other member pulls, and then the first one
told : List Event
told = pulled without 2 1 0

told_back : List Event
told_back = pulled told 1 2 0

collected : List Event
collected = told_back ++ Collect 1 ∷ []

collected_is : collected ≡ drop_history
unfolding with_file without made removal told told_back collected
collected_is = refl

collected_lawful : IsLawful drop_volume collected
unfolding told told_back collected
collected_lawful =
    let once = lawful_pulled without 2 1 0 drop_volume second first (omega arith) removal_lawful in
    let twice = lawful_pulled told 1 2 0 drop_volume first second (omega arith) once in
    lawful_more drop_volume told_back (Collect 1) twice first

removed : IsRemoved without (Knows without 1) drop_entry
unfolding without removal
removed = removed_new with_file 1 (Remove (drop_entry ∷ []) drop_entry) drop_entry (here drop_entry [])

told_one : (member : ℕ) → IsMember 2 member → KnowsThatKnows told 2 member drop_entry
unfolding told
told_one member m = go (one_or_two member m)
  where
    of_first : KnowsThatKnows (pulled without 2 1 0) 2 1 drop_entry
    of_first = one_pulled without 2 1 0 (one_of_itself removed)

    go : (member ≡ 1) ⊎ (member ≡ 2) → KnowsThatKnows (pulled without 2 1 0) 2 member drop_entry
    go (inl is) = rw is of_first
    go (inr is) = rw is (one_of_itself (one_removed of_first))

back_two : (member : ℕ) → IsMember 2 member → KnowsThatAllKnow 2 told_back 1 member drop_entry
unfolding told_back
back_two member m = go (one_or_two member m)
  where
    go : (member ≡ 1) ⊎ (member ≡ 2) → KnowsThatAllKnow 2 (pulled told 1 2 0) 1 member drop_entry
    go (inl is) = rw is (two_of_itself first (λ other o. one_pulled told 1 2 0 (told_one other o)))
    go (inr is) = rw is (all_pulled told 1 2 0 (two_of_itself second told_one))

dropped : IsDropped 2 collected 1 drop_entry
unfolding collected
dropped = dropped_now (Collect 1) refl (λ member m. two_at_last (back_two member m))

pub drop_lawful : IsLawful drop_volume drop_history
drop_lawful = subst (IsLawful drop_volume) collected_is collected_lawful

pub drop_dropped : IsDropped 2 drop_history 1 drop_entry
drop_dropped = subst (λ H. IsDropped 2 H 1 drop_entry) collected_is dropped
