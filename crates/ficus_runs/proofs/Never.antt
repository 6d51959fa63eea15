-- Which refusals never come of an exchange.
use Rattle.std.proofs.Common.{◌≡◌, ◌≢◌, ℕ, ◌+◌, Bool, true, false, List, [], ◌∷◌, Result, Ok, Err, refl, ap, inl, inr}
use Rattle.ficus_ids.specs.declared.refusal.Refusal.{Refusal}
use Rattle.ficus_ids.specs.declared.refusal.Refusal.TheVariants as refusal
use Rattle.ficus_ids.specs.declared.refusal.Refusal.TheVariants.{BadMessage}
use Rattle.ficus_model.specs.declared.event.Event.{Event}
use Rattle.ficus_model.specs.Lawful.{Volume}
use Rattle.ficus_rules.specs.Rule.{Gives, Tells}
use Rattle.ficus_script.specs.declared.answer.Answer.{Answer}
use Rattle.ficus_runs.specs.Actions.{ModelAction, AtPeers, GivesOnly, Wants, Adds, Saves, Posts, Fetches, next_mail, next_position}
use Rattle.ficus_runs.specs.Actions.Adds.{Added}
use Rattle.ficus_runs.specs.Actions.Saves.{Saved, NotSaved}
use Rattle.ficus_runs.specs.Actions.Posts.{IsPosted, NotPosted}
use Rattle.ficus_runs.specs.Actions.Fetches.{Fetched, NotFetched}
use Rattle.ficus_runs.specs.Exchange.{Asks, Behind, AnAsk, APiece, GivesMail, Handles, PostsEach, Serves, Taken, Taking, Again, OneMore, TakesPiece, TheLast}
use Rattle.ficus_runs.specs.ModelWorld.{ModelWorld, Posted}
use Rattle.ficus_runs.specs.Sequence.{ByRule, First, Effect}
use Rattle.ficus_runs.specs.Sequence.First.{Ends, Goes}
use Rattle.ficus_runs.specs.Sequence.ByRule.{Says}

-- asking, serving or saving may be refused so
abbrev pub of_asking : Refusal → Bool
of_asking refusal.Member = true
of_asking refusal.Down = true
of_asking refusal.LinkFull = true
of_asking refusal.Link = true
of_asking refusal.Store = true
of_asking other = false

-- taking what was posted may be refused so
abbrev pub of_taking : Refusal → Bool
of_taking refusal.Down = true
of_taking refusal.Link = true
of_taking refusal.Store = true
of_taking other = false

pub also_asking : (r : Refusal) → of_taking r ≡ true → of_asking r ≡ true
also_asking refusal.Down of = refl
also_asking refusal.Link of = refl
also_asking refusal.Store of = refl
also_asking other of = absurd (cc)

-- the action is never refused so
abbrev pub IsNever : {A : Type 0} → Refusal → ModelAction A → Type 0
IsNever {A} of does =
    (old : ModelWorld) (result : Result A Refusal) (left : Effect ModelWorld) → does old result left → result ≡ Err of
    → ⊥

module _ (of : Refusal) where
  module _ {A B : Type 0} (first : ModelAction A) (rest : A → ModelAction B) (never : IsNever of first)
      (never_behind : (a : A) → IsNever of (rest a)) where
    first_never : IsNever of (First first rest)
    first_never old result left (Ends {refusal = r} {left = l} is) same =
        never old (Err r) l is (let named : r ≡ of = cc in cc)
    first_never old result left (Goes {a = a} {middle = m} {left = l} is behind) same =
        never_behind a m.after result l behind same

  wants_never : (good : ModelWorld → Type 0) (r : Refusal) → r ≢ of → IsNever of (Wants good r)
  wants_never good r other old (Ok a) left is same = cc
  wants_never good r other old (Err s) left (Says (inl refused)) same =
      let named = refused.1 in other (let h : s ≡ of = cc in cc)
  wants_never good r other old (Err s) left (Says (inr none)) same = none.1

  -- a rule that tells something refuses nothing
  tells_never : {A B : Type 0} (told_as : A → B) (is_so : ModelWorld → A → Type 0)
      → IsNever of (ByRule (λ W. Tells told_as (is_so W)))
  tells_never told_as is_so old (Ok b) left is same = cc
  tells_never told_as is_so old (Err s) left (Says none) same = none

  gives_never : {A : Type 0} (given : ModelWorld → A) → IsNever of (ByRule (λ W. Gives (given W)))
  gives_never given old (Ok b) left is same = cc
  gives_never given old (Err s) left (Says none) same = none

  adds_never : {A : Type 0} (given : ModelWorld → A) (event : Event) → IsNever of (Adds given event)
  adds_never given event old result left Added same = cc

  module _ (store : refusal.Store ≢ of) where
    saves_never : {A : Type 0} (given : ModelWorld → A) (by : ℕ) (event : Event) → IsNever of (Saves given by event)
    saves_never given by event old result left Saved same = cc
    saves_never given by event old result left NotSaved same = store (cc)

  module _ (link : refusal.Link ≢ of) where
    posts_never : (posted : Posted) (size : ℕ) → IsNever of (Posts posted size)
    posts_never posted size old result left IsPosted same = cc
    posts_never posted size old result left NotPosted same = link (cc)

    pub fetches_never : IsNever of Fetches
    fetches_never old result left Fetched same = cc
    fetches_never old result left NotFetched same = link (cc)

    posts_each_never : (position index : ℕ) (sizes : List ℕ) → IsNever of (PostsEach position index sizes)
    posts_each_never position index [] = gives_never (λ W. tt)
    posts_each_never position index (size ∷ sizes) =
        first_never _ _ (posts_never _ _) (λ number. posts_each_never position (index + 1) sizes)

    -- once there is room for the messages of what is served
    pub served_never : (event : Event) (sizes : List ℕ) (given : ℕ → Answer)
        → IsNever of (First (Adds next_position event) (λ position. First (ByRule (λ W. Gives (next_mail W)))
        (λ first. First (PostsEach position 0 sizes) (λ posted. GivesOnly (given first)))))
    served_never event sizes given =
        first_never _ _ (adds_never _ _)
        (λ position. first_never _ _ (gives_never _)
        (λ first. first_never _ _ (posts_each_never _ _ _) (λ posted. gives_never _)))

    -- once there is room for the message of an ask
    pub asked_never : refusal.Store ≢ of → (by : ℕ) (event : Event) (posted : ℕ → Posted) (size : ℕ)
        → IsNever of (First (Saves next_position by event) (λ position. Posts (posted position) size))
    asked_never store by event posted size =
        first_never _ _ (saves_never store _ _ _) (λ position. posts_never _ _)

  pub peers_never : refusal.Member ≢ of → refusal.Down ≢ of → (volume : Volume) (by other : ℕ)
      → IsNever of (AtPeers volume by other)
  peers_never member down volume by other = first_never _ _ (wants_never _ _ member) (λ peers. wants_never _ _ down)

  -- where it isn't one of those
  module _ (apart : of_asking of ≡ false) where
    differs : (r : Refusal) → of_asking r ≡ true → r ≢ of
    differs r asking same = let e = ap of_asking same in cc

    wants_up_never : (up : ModelWorld → Type 0) → IsNever of (Wants up refusal.Down)
    wants_up_never up = wants_never up refusal.Down (differs refusal.Down refl)

    pub at_peers_never : (volume : Volume) (by other : ℕ) → IsNever of (AtPeers volume by other)
    at_peers_never volume by other =
        peers_never (differs refusal.Member refl) (differs refusal.Down refl) volume by other

    pub asks_never : (volume : Volume) (by to : ℕ) → IsNever of (Asks volume by to)
    asks_never volume by to =
        first_never _ _ (wants_never _ _ (differs refusal.Member refl))
        (λ may. first_never _ _ (wants_up_never _)
        (λ up. first_never _ _ (tells_never _ _)
        (λ message. first_never _ _ (wants_never _ _ (differs refusal.LinkFull refl))
        (λ room. asked_never (differs refusal.Link refl) (differs refusal.Store refl) _ _ _ _))))

    pub serves_never : (volume : Volume) (server ask : ℕ) → IsNever of (Serves volume server ask)
    serves_never volume server ask =
        first_never _ _ (tells_never _ _)
        (λ served. first_never _ _ (wants_never _ _ (differs refusal.LinkFull refl))
        (λ room. served_never (differs refusal.Link refl) _ _ _))

    taken_never : (asker serve index pieces : ℕ) (taking : Taking) → IsNever of (Taken asker serve index pieces taking)
    taken_never asker serve index pieces (Again have) = gives_never _
    taken_never asker serve index pieces (OneMore have) = adds_never _ _
    taken_never asker serve index pieces TheLast = saves_never (differs refusal.Store refl) _ _ _

-- no message is bad
module _ (volume : Volume) where
  takes_never : (serve asker index pieces : ℕ) → IsNever BadMessage (TakesPiece volume serve asker index pieces)
  takes_never serve asker index pieces =
      first_never BadMessage _ _ (wants_never BadMessage _ _ (λ e. cc))
      (λ answers. first_never BadMessage _ _ (wants_never BadMessage _ _ (λ e. cc))
      (λ one. first_never BadMessage _ _ (tells_never BadMessage _ _) (taken_never BadMessage refl asker serve index pieces)))

  handles_never : (behind : Behind) → IsNever BadMessage (Handles volume behind)
  handles_never (AnAsk position server) = serves_never BadMessage refl volume server position
  handles_never (APiece position asker index pieces) = takes_never position asker index pieces

  pub gives_mail_never : (number : ℕ) → IsNever BadMessage (GivesMail volume number)
  gives_mail_never number =
      first_never BadMessage _ _ (wants_never BadMessage _ _ (λ e. cc))
      (λ some. first_never BadMessage _ _ (fetches_never BadMessage (λ e. cc))
      (λ fetched. first_never BadMessage _ _ (tells_never BadMessage _ _)
      (λ behind. first_never BadMessage _ _ (wants_up_never BadMessage refl _) (λ up. handles_never behind))))
