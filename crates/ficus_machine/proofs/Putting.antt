-- What becomes of letters that are put.
use Rattle.std.proofs.Common.{◌≡◌, ◌≢◌, ℕ, zero, suc, ◌+◌, ◌-◌, ◌<◌, ◌≤◌, Bool, true, false, List, [], ◌∷◌, ◌++◌, length, map, take, get_or, Result, Ok, Err, Some, refl, sym, ap, subst, ◌∙◌, inl, inr, ◌⊎◌, append_assoc, arith}
use Rattle.std.specs.Prelude.{All, Contains, MatchResult, is_ok, slice_get}
use Rattle.std.specs.List.{range_with_len}
use Rattle.std.specs.Option.{option_map}
use Rattle.std.proofs.lemmas.List.{append-nil, get_or-append-add, get_or-map, length-append, length-map, take_all, take_more}
use Rattle.std.proofs.lemmas.List.Elements.{All-cons, All-contains, All-contains_itself, All-map, All-nil, All-take, All-weaker, Contains-append_left, Contains-get_or}
use Rattle.std.proofs.lemmas.Option.{get_or_from_slice_get, same_Some, slice_get-get_or, slice_get-map, slice_get_within}
use Rattle.ficus_envelope.specs.Envelope.{name_of}
use Rattle.ficus_faults.specs.Faults.{Rose}
use Rattle.ficus_ids.specs.declared.refusal.Refusal.{Refusal}
use Rattle.ficus_ids.specs.declared.refusal.Refusal.TheVariants as refusal
use Rattle.ficus_mailbox.specs.Calls.{Puts as CallPuts}
use Rattle.ficus_mailbox.specs.Letter.{Letter}
use Rattle.ficus_mailbox.specs.declared.mailbox.Mailbox.{Ghosts as Mailbox}
use Rattle.ficus_mailbox.specs.declared.message_name.MessageName.{MessageName}
use Rattle.ficus_mailbox.specs.declared.message_name.MessageName.TheVariants as name
use Rattle.ficus_runs.specs.Numbered.{IsNumbered}
use Rattle.ficus_runs.proofs.Numbers.{number_read}
use Rattle.ficus_wire.specs.Message.{FitsMessage, message_bytes, messages_of_tables, piece_message}
use Rattle.ficus_wire.specs.declared.message.Message.{Message}
use Rattle.ficus_world.specs.Hearing.{FetchesNot}
use Rattle.ficus_world.specs.Moves.{with_post}
use Rattle.ficus_world.specs.Post.{Outbox}
use Rattle.ficus_world.specs.World.{Whole}
use Rattle.ficus_machine.specs.Answers.{HasFailed, IsUnput}
use Rattle.ficus_machine.specs.Answers.IsUnput.{NotPut, NotFetched}
use Rattle.ficus_machine.specs.Came.{IsLetterOfOne, letter_of}
use Rattle.ficus_machine.specs.Line.{GrowsBy}
use Rattle.ficus_machine.specs.Machine.{KeepsRest, MachineState}
use Rattle.ficus_machine.specs.Posting.{ArePosted, IsPosted, OnlyFetches, Puts}
use Rattle.ficus_machine.specs.declared.fault.LineFault.{LineFault}
use Rattle.ficus_machine.specs.declared.fault.LineFault.TheVariants.{Memory, Note}
use Rattle.ficus_machine.specs.declared.serving.Serving.{Serving}
use Rattle.ficus_machine.proofs.Going.{by_none, by_then, by_weaker}

-- a letter of this name and these bytes is the message's
pub letter_is : (tag : List ℕ) (message : Message) (called : MessageName) (bytes spelled : List ℕ)
    → name_of message ≡ called → bytes ≡ tag ++ spelled → spelled ≡ message_bytes message
    → letter_of tag message ≡ record { name = called; bytes = bytes }
letter_is tag message called bytes spelled named sealed is =
    let made : MessageName → List ℕ → Letter = λ n b. record { name = n; bytes = b } in
    ap (λ n. made n (tag ++ message_bytes message)) named
    ∙ ap (λ b. made called b) (sym (sealed ∙ ap (λ (s : List ℕ). tag ++ s) is))

rose_behind : (first there now : ℕ) → first ≤ there → Rose there now → Rose first now
rose_behind first there now risen (inl rose) = inl (omega arith)
rose_behind first there now risen (inr last) = inr last

-- it is one of a list that is made of another
pub contains_made : {A B : Type 0} (f : A → B) (list : List A) (x : A) → Contains list x → Contains (map f list) (f x)
contains_made f list x (k, below, is) =
    (k, omega (arith, below, length-map list f), get_or-map f list k x (f x) below ∙ ap f is)

module _ {M : Type 0} {mailbox : Mailbox M} where
  unput_behind : {first there now : M} → mailbox.faults first ≤ mailbox.faults there → IsUnput mailbox there now
      → IsUnput mailbox first now
  unput_behind {first} {there} {now} risen (NotPut failed) =
      NotPut (rose_behind (mailbox.faults first) (mailbox.faults there) (mailbox.faults now) risen failed)
  unput_behind risen (NotFetched none no_memory) = NotFetched none no_memory

  -- nothing is put, since something hinders it, or memory was refused
  pub puts_not : (letters : List Letter) {now : M} → IsUnput mailbox now now → Puts mailbox letters (Ok false) now now
  puts_not letters unput = record {
    put = λ same. absurd (cc);
    hindered = λ same. unput;
    only = λ tells. by_none (Contains letters) refl;
    given = refl;
    risen = omega arith;
    no_note = λ same. cc;
  }

  pub puts_memory : (letters : List Letter) {now : M} → Puts mailbox letters (Err Memory) now now
  puts_memory letters = record {
    put = tt;
    hindered = tt;
    only = λ tells. by_none (Contains letters) refl;
    given = refl;
    risen = omega arith;
    no_note = λ same. cc;
  }

  -- a message that isn't fetched isn't put
  pub puts_unfetched : (letters : List Letter) {number : ℕ} {old new : Outbox} {r : Refusal} {now : M}
      (result : Result Bool LineFault) → FetchesNot number old new r
      → MatchResult result (λ is. (is ≡ false) × (r ≢ refusal.Memory)) (λ fault. fault ≡ Memory)
      → Puts mailbox letters result now now
  puts_unfetched letters {now = now} (Ok is) none so =
      subst (λ b. Puts mailbox letters (Ok b) now now) (sym so.0) (puts_not letters (NotFetched none so.1))
  puts_unfetched letters {now = now} (Err fault) none so =
      subst (λ f. Puts mailbox letters (Err f) now now) (sym so) (puts_memory letters)

  -- one is put, or the mailbox has failed
  pub puts_one : {A E : Type 0} (letter : Letter) (result : Result A E) (is : Bool) {was now : M} → is ≡ is_ok result
      → CallPuts mailbox.tells mailbox.given mailbox.posted mailbox.faults letter was now result
      → Puts mailbox (letter ∷ []) (Ok is) was now
  puts_one letter (Ok done) is same puts = record {
    put = λ so tells. puts.told tells;
    hindered = λ so. absurd (cc);
    only = λ tells. record {
      more = letter ∷ [];
      is = puts.told tells;
      each = All-contains_itself (letter ∷ []);
    };
    given = puts.kept;
    risen = puts.risen;
    no_note = λ so. cc;
  }
  puts_one letter (Err fault) is {was} {now} same puts = record {
    put = λ so. absurd (cc);
    hindered = λ so. NotPut puts.failed;
    only = λ tells. go (puts.either tells);
    given = puts.kept;
    risen = puts.risen;
    no_note = λ so. cc;
  } where
    go : (mailbox.posted now ≡ mailbox.posted was) ⊎ (mailbox.posted now ≡ mailbox.posted was ++ letter ∷ [])
        → GrowsBy (Contains (letter ∷ [])) (mailbox.posted was) (mailbox.posted now)
    go (inl same) = by_none (Contains (letter ∷ [])) same
    go (inr is) = record { more = letter ∷ []; is = is; each = All-contains_itself (letter ∷ []) }

-- the first so many of these letters are put
pub record ArePut {M : Type 0} (mailbox : Mailbox M) (letters : List Letter) (count : ℕ) (was now : M) : Type 0 where
  pub told : mailbox.tells → mailbox.posted now ≡ mailbox.posted was ++ take count letters
  pub given : mailbox.given now ≡ mailbox.given was
  pub risen : mailbox.faults was ≤ mailbox.faults now

one_of : (letters : List Letter) (count : ℕ) (letter : Letter) → slice_get letters count ≡ Some letter → (x : Letter)
    → Contains (letter ∷ []) x → Contains letters x
one_of letters count letter at x is =
    All-contains (Contains letters) (letter ∷ []) x
    (All-cons (Contains letters) letter []
    (count, slice_get_within letters count letter at, get_or_from_slice_get letters count letter letter at)
    (All-nil (Contains letters))) is

module _ {M : Type 0} {mailbox : Mailbox M} {letters : List Letter} where
  pub put_none : {now : M} → ArePut mailbox letters 0 now now
  put_none {now} = record {
    told = λ tells. sym (append-nil (mailbox.posted now));
    given = refl;
    risen = omega arith;
  }

  first_put : {count : ℕ} {was now : M} → ArePut mailbox letters count was now → mailbox.tells
      → GrowsBy (Contains letters) (mailbox.posted was) (mailbox.posted now)
  first_put {count} put tells = record {
    more = take count letters;
    is = put.told tells;
    each = All-take (Contains letters) count letters (All-contains_itself letters);
  }

  pub put_one_more : {count : ℕ} {letter : Letter} {was there now : M} → ArePut mailbox letters count was there
      → slice_get letters count ≡ Some letter → Puts mailbox (letter ∷ []) (Ok true) there now
      → ArePut mailbox letters (count + 1) was now
  put_one_more {count} {letter} {was} {there} {now} put at one = record {
    told = λ tells.
        one.put refl tells ∙ ap (λ (list : List Letter). list ++ letter ∷ []) (put.told tells)
        ∙ append_assoc (mailbox.posted was) (take count letters) (letter ∷ [])
        ∙ ap (λ (list : List Letter). mailbox.posted was ++ list) (sym next);
    given = one.given ∙ put.given;
    risen = omega (arith, put.risen, one.risen);
  } where
    next : take (count + 1) letters ≡ take count letters ++ letter ∷ []
    next =
        take_more letters count letter (slice_get_within letters count letter at)
        ∙ ap (λ (x : Letter). take count letters ++ x ∷ []) (get_or_from_slice_get letters count letter letter at)

  -- all are put
  pub puts_all : {count : ℕ} {was now : M} → length letters ≤ count → ArePut mailbox letters count was now
      → Puts mailbox letters (Ok true) was now
  puts_all {count} {was} enough put = record {
    put = λ same tells.
        put.told tells ∙ ap (λ (list : List Letter). mailbox.posted was ++ list) (take_all count letters enough);
    hindered = λ same. absurd (cc);
    only = first_put put;
    given = put.given;
    risen = put.risen;
    no_note = λ same. cc;
  }

  -- the next one isn't
  pub puts_some : {count : ℕ} {letter : Letter} {was there now : M} → ArePut mailbox letters count was there
      → slice_get letters count ≡ Some letter → Puts mailbox (letter ∷ []) (Ok false) there now
      → Puts mailbox letters (Ok false) was now
  puts_some {count} {letter} put at one = record {
    put = λ same. absurd (cc);
    hindered = λ same. unput_behind put.risen (one.hindered refl);
    only = λ tells. by_then (first_put put tells) (by_weaker (one_of letters count letter at) (one.only tells));
    given = one.given ∙ put.given;
    risen = omega (arith, put.risen, one.risen);
    no_note = λ same. cc;
  }

  pub puts_fault : {count : ℕ} {letter : Letter} {fault : LineFault} {was there now : M}
      → ArePut mailbox letters count was there
      → slice_get letters count ≡ Some letter → Puts mailbox (letter ∷ []) (Err fault) there now
      → Puts mailbox letters (Err fault) was now
  puts_fault {count} {letter} put at one = record {
    put = tt;
    hindered = tt;
    only = λ tells. by_then (first_put put tells) (by_weaker (one_of letters count letter at) (one.only tells));
    given = one.given ∙ put.given;
    risen = omega (arith, put.risen, one.risen);
    no_note = one.no_note;
  }

module _ {K : Type 0} where
  pub fetches_none : {machine : MachineState K} → OnlyFetches machine machine
  fetches_none = record {
    world = refl;
    posts = refl;
    stables = refl;
    rest = record { me = refl; tag = refl; note = refl };
  }

  pub fetches_then : {one two three : MachineState K} → OnlyFetches one two → OnlyFetches two three
      → OnlyFetches one three
  fetches_then {one} {two} {three} first then = record {
    world =
        then.world
        ∙ ap (λ (w : Whole). with_post w three.world.whole.post) first.world;
    posts = then.posts ∙ first.posts;
    stables = then.stables ∙ first.stables;
    rest = record {
      me = then.rest.me ∙ first.rest.me;
      tag = then.rest.tag ∙ first.rest.tag;
      note = then.rest.note ∙ first.rest.note;
    };
  }

  -- a fetch leaves what is posted
  pub only_fetched : {old new : MachineState K} → new.world.whole ≡ with_post old.world.whole new.world.whole.post
      → new.world.whole ≡ old.world.whole → new.world.stables ≡ old.world.stables → KeepsRest old new
      → OnlyFetches old new
  only_fetched rest same stables keeps = record {
    world = rest;
    posts = ap (λ (w : Whole). w.post.posts) same;
    stables = stables;
    rest = keeps;
  }

  pub only_unfetched : {old new : MachineState K} {number : ℕ} {r : Refusal}
      → new.world.whole ≡ with_post old.world.whole new.world.whole.post
      → FetchesNot number old.world.whole.post new.world.whole.post r → new.world.stables ≡ old.world.stables
      → KeepsRest old new → OnlyFetches old new
  only_unfetched {old} {new} {r = r} rest none stables keeps = record {
    world = rest;
    posts = go none.one;
    stables = stables;
    rest = keeps;
  } where
    go : (r ≡ refusal.NoMail) ⊎ ((r ≡ refusal.Link) ⊎ (r ≡ refusal.Memory))
        → new.world.whole.post.posts ≡ old.world.whole.post.posts
    go (inl is) = ap (λ (p : Outbox). p.posts) (none.kept (λ same. cc))
    go (inr (inl is)) = ap (λ (p : Outbox). p.posts) (none.failed is).same
    go (inr (inr is)) = ap (λ (p : Outbox). p.posts) (none.kept (λ same. cc))

  -- what is posted is so still
  pub posted_still : {old new : MachineState K} {serving : Serving} {index : ℕ} {message : Message}
      → OnlyFetches old new → IsPosted old serving index message → IsPosted new serving index message
  posted_still {old} {new} {serving} {index} {message} fetches posted = record {
    fits =
        subst (λ (w : Whole). FitsMessage (length w.members) message) (sym fetches.world) posted.fits;
    is =
        subst (λ (posts : List (List ℕ)). IsNumbered posts (serving.behind + 1 + index) (message_bytes message))
        (sym fetches.posts) posted.is;
    named =
        subst (λ me. name_of message ≡ name.Piece me serving.way.from serving.way.number serving.state index)
        (sym fetches.rest.me) posted.named;
  }

-- what stands behind other things has the number behind theirs
pub number_behind : {A : Type 0} (front back : List A) (index : ℕ) (x : A) → slice_get back index ≡ Some x
    → IsNumbered (front ++ back) (length front + 1 + index) x
number_behind front back index x at =
    let within : index < length back = slice_get_within back index x at in
    let there : length front + 1 + index - 1 ≡ length front + index = omega arith in
    number_read (front ++ back) (length front + 1 + index) x x
    (record { at_least = omega arith; at_most = omega (arith, length-append front back) })
    (ap (λ n. get_or (front ++ back) n x) there ∙ get_or-append-add front back index x
    ∙ get_or_from_slice_get back index x x at)

-- the message with an index, of those of which an answer consists
made_at : {X : Type 0} (f : ℕ → X) (first count index : ℕ) (x : X)
    → slice_get (map f (range_with_len first count)) index ≡ Some x → x ≡ f (first + index)
made_at f first zero index x is = absurd cc
made_at f first (suc count) zero x is = let e : first + 0 ≡ first = omega arith in rw e (cc is)
made_at f first (suc count) (suc index) x is = made_at f (first + 1) count index x is ∙ ap f (omega arith)

pub piece_named : (me from number state : ℕ) (tables : List ℕ) (index : ℕ) (message : Message)
    → slice_get (messages_of_tables me from number state tables) index ≡ Some message
    → name_of message ≡ name.Piece me from number state index
piece_named me from number state tables index message at =
    let is = made_at (piece_message me from number state tables) 0 _ index message at in
    ap name_of is ∙ ap (λ n. name.Piece me from number state n) (omega arith)

-- the letters of messages that were posted are letters of what was posted
pub letters_of_posted : (tag : List ℕ) (count : ℕ) (messages : List Message) (posted : List (List ℕ))
    → posted ≡ map message_bytes messages → All (FitsMessage count) messages → {old new : List Letter}
    → GrowsBy (Contains (map (letter_of tag) messages)) old new
    → GrowsBy (IsLetterOfOne tag count (posted ++ [])) old new
letters_of_posted tag count messages posted are fits grown = by_weaker one grown
  where
    each : All (λ (m : Message). IsLetterOfOne tag count (posted ++ []) (letter_of tag m)) messages
    each k d below =
        let m = get_or messages k d in
        record {
          bytes = message_bytes m;
          is =
              Contains-append_left posted [] (message_bytes m)
              (subst (λ (list : List (List ℕ)). Contains list (message_bytes m)) (sym are)
              (contains_made message_bytes messages m (Contains-get_or messages k d below)));
          spells = record {
            message = m;
            spelled = record { fits = fits k d below; is = refl };
            is = refl;
          };
        }

    one : (letter : Letter) → Contains (map (letter_of tag) messages) letter → IsLetterOfOne tag count (posted ++ []) letter
    one letter is =
        All-contains (IsLetterOfOne tag count (posted ++ [])) (map (letter_of tag) messages) letter
        (All-map (IsLetterOfOne tag count (posted ++ [])) (letter_of tag) messages each) is

-- the first so many pieces are put, and nothing of the machine has changed since but that its link may have failed
pub record PutsUpTo {K M : Type 0} (mailbox : Mailbox M) (machine : MachineState K) (serving : Serving)
    (pieces index : ℕ) (there : MachineState K) (was now : M) : Type 0 where
  pub fetches : OnlyFetches machine there
  pub put : (messages : List Message) → length messages ≡ pieces → ArePosted machine serving messages
      → ArePut mailbox (map (letter_of machine.tag) messages) index was now

module _ {K M : Type 0} {mailbox : Mailbox M} {machine : MachineState K} {serving : Serving} {pieces : ℕ} {was : M} where
  pub puts_begin : PutsUpTo mailbox machine serving pieces 0 machine was was
  puts_begin = record { fetches = fetches_none; put = λ messages counted are. put_none }

  pub puts_end : {there : MachineState K} {now : M} → PutsUpTo mailbox machine serving pieces pieces there was now
      → (messages : List Message) → length messages ≡ pieces → ArePosted machine serving messages
      → Puts mailbox (map (letter_of machine.tag) messages) (Ok true) was now
  puts_end up messages counted are =
      puts_all (omega (arith, length-map messages (letter_of machine.tag), counted)) (up.put messages counted are)

message_at : (messages : List Message) (index : ℕ) → index < length messages
    → (message : Message) × (slice_get messages index ≡ Some message)
message_at [] index below = absurd (omega (arith, below))
message_at (first ∷ messages) index below =
    (get_or (first ∷ messages) index first, slice_get-get_or (first ∷ messages) index first below)

letter_at : (tag : List ℕ) (messages : List Message) (index : ℕ) (message : Message)
    → slice_get messages index ≡ Some message
    → slice_get (map (letter_of tag) messages) index ≡ Some (letter_of tag message)
letter_at tag messages index message at =
    slice_get-map (letter_of tag) messages index ∙ ap (option_map (letter_of tag)) at

module _ {K M : Type 0} (mailbox : Mailbox M) (machine : MachineState K) (serving : Serving) (pieces index : ℕ)
    (there : MachineState K) (was mid : M) (up : PutsUpTo mailbox machine serving pieces index there was mid)
    (below : index < pieces) where
  -- the next piece stands in its place
  pub posted_next : (messages : List Message) → length messages ≡ pieces → ArePosted machine serving messages
      → (message : Message) × IsPosted there serving index message
  posted_next messages counted are =
      let at = message_at messages index (omega (arith, below, counted)) in
      (at.0, posted_still up.fetches (are.each index at.0 at.1))

  module _ (now : M) (result : Result Bool LineFault)
      (puts : (message : Message) → IsPosted there serving index message
      → Puts mailbox (letter_of there.tag message ∷ []) result mid now) where
    one_put : (messages : List Message) → length messages ≡ pieces → ArePosted machine serving messages
        → (message : Message) × (slice_get (map (letter_of machine.tag) messages) index
        ≡ Some (letter_of machine.tag message)) × Puts mailbox (letter_of machine.tag message ∷ []) result mid now
    one_put messages counted are =
        let at = message_at messages index (omega (arith, below, counted)) in (
          at.0,
          letter_at machine.tag messages index at.0 at.1,
          subst (λ (tag : List ℕ). Puts mailbox (letter_of tag at.0 ∷ []) result mid now) up.fetches.rest.tag
              (puts at.0 (posted_still up.fetches (are.each index at.0 at.1))),
        )

    pub puts_on : (next : MachineState K) → OnlyFetches there next → result ≡ Ok true
        → PutsUpTo mailbox machine serving pieces (index + 1) next was now
    puts_on next fetches is = record {
      fetches = fetches_then up.fetches fetches;
      put = λ messages counted are.
          let one = one_put messages counted are in
          put_one_more (up.put messages counted are) one.1
          (subst (λ (r : Result Bool LineFault). Puts mailbox (letter_of machine.tag one.0 ∷ []) r mid now) is one.2);
    }

    -- one isn't put
    pub puts_stop : (ended : Result Bool LineFault) → result ≡ ended → (ended ≡ Ok true → ⊥)
        → (messages : List Message) → length messages ≡ pieces → ArePosted machine serving messages
        → Puts mailbox (map (letter_of machine.tag) messages) ended was now
    puts_stop (Ok true) is never messages counted are = absurd (never refl)
    puts_stop (Ok false) is never messages counted are =
        let one = one_put messages counted are in
        puts_some (up.put messages counted are) one.1
        (subst (λ (r : Result Bool LineFault). Puts mailbox (letter_of machine.tag one.0 ∷ []) r mid now) is one.2)
    puts_stop (Err fault) is never messages counted are =
        let one = one_put messages counted are in
        puts_fault (up.put messages counted are) one.1
        (subst (λ (r : Result Bool LineFault). Puts mailbox (letter_of machine.tag one.0 ∷ []) r mid now) is one.2)
