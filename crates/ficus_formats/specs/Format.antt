-- Formats: which values have a spelling, and which bytes it is.
use Rattle.std.specs.Prelude.{◌≡◌, ℕ, ◌+◌, ◌<◌, ◌^◌, List, [], ◌∷◌, ◌++◌, length, drop, Option, Some, None, Result, Ok, Err, IsErrOf}
use Rattle.std.specs.List.{flat_map, AllByRecursion}
use Rattle.std.specs.Borrow.{Bor}
use Rattle.std.specs.Int.{w16, w32, w64, to_be_bytes}
use Rattle.ficus_ids.specs.Rising.{IsRisingBy}
use Rattle.ficus_ids.specs.declared.id.Id.{Id}
use Rattle.ficus_formats.specs.declared.fault.ReadFault.{ReadFault}
use Rattle.ficus_formats.specs.declared.fault.ReadFault.TheVariants.{Unspelled, Memory}

-- the bytes that a value is spelled with, and which values are
pub record Format (X : Type 0) : Type 1 where
  pub spell : X → List ℕ
  pub fits : X → Type 0

-- itself
abbrev pub byte : Format ℕ
byte = record { spell = λ n. n ∷ []; fits = λ _. Unit {0} }

-- numbers in two, four and eight bytes, the highest byte first
abbrev pub number16 : Format ℕ
number16 = record { spell = to_be_bytes w16; fits = λ n. n < 2 ^ 16 }

abbrev pub number32 : Format ℕ
number32 = record { spell = to_be_bytes w32; fits = λ n. n < 2 ^ 32 }

abbrev pub number64 : Format ℕ
number64 = record { spell = to_be_bytes w64; fits = λ n. n < 2 ^ 64 }

-- one after the other
infixr 20 ◌then◌
abbrev pub ◌then◌ : {X Y : Type 0} → Format X → Format Y → Format (X × Y)
f then g = record { spell = λ p. f.spell p.0 ++ g.spell p.1; fits = λ p. f.fits p.0 × g.fits p.1 }

-- a value is spelled as its parts are
abbrev pub shaped : {X Y : Type 0} → (X → Y) → Format Y → Format X
shaped parts f = record { spell = λ x. f.spell (parts x); fits = λ x. f.fits (parts x) }

-- spelled in the same way, the values that meet this condition in place of the format's own
abbrev pub meeting : {X : Type 0} → (X → Type 0) → Format X → Format X
meeting Meets f = record { spell = f.spell; fits = Meets }

-- of these values, those that meet the condition
abbrev pub checked : {X : Type 0} → (X → Type 0) → Format X → Format X
checked Meets f = meeting (λ x. f.fits x × Meets x) f

-- as many as said, one after the other
abbrev pub times : {X : Type 0} → ℕ → Format X → Format (List X)
times count f = record { spell = flat_map f.spell; fits = λ xs. (length xs ≡ count) × AllByRecursion f.fits xs }

-- a count, and as many
abbrev pub counted : {X : Type 0} → Format ℕ → Format X → Format (List X)
counted count f = record {
  spell = λ xs. count.spell (length xs) ++ flat_map f.spell xs;
  fits = λ xs. count.fits (length xs) × AllByRecursion f.fits xs;
}

-- a length, which stays below a bound, and as many bytes
abbrev pub string : Format ℕ → Format (List ℕ)
string count = record {
  spell = λ bytes. count.spell (length bytes) ++ bytes;
  fits = λ bytes. count.fits (length bytes);
}

-- an identifier: the replica in one byte, the number in four
abbrev pub id : Format Id
id = shaped (λ x. (x.replica, x.number)) (byte then number32)

-- a count in four bytes, and as many in strictly rising order of identifiers
abbrev pub rising : {X : Type 0} → (X → Id) → Format X → Format (List X)
rising id_of f = checked (IsRisingBy id_of) (counted number32 f)

-- the bytes begin with the spelling of the value, and this is left behind it
pub record Begins {X : Type 0} (f : Format X) (bytes : List ℕ) (x : X) (rest : List ℕ) : Type 0 where
  pub fits : f.fits x
  pub spelled : bytes ≡ f.spell x ++ rest

-- `Unspelled` comes only where no value's spelling begins the bytes
pub record Fails {X : Type 0} (f : Format X) (bytes : List ℕ) (fault : ReadFault) : Type 0 where
  pub none : fault ≡ Unspelled → (x : X) (rest : List ℕ) → Begins f bytes x rest → ⊥

-- what a reader gives, of the bytes before it and after it: the value with which they begin, or a fault
abbrev pub Reads : {X : Type 0} → Format X → List ℕ → Result X ReadFault → List ℕ → Type 0
Reads f before (Ok x) after = Begins f before x after
Reads f before (Err fault) after = Fails f before fault

-- the same of bytes that stay where they lie
abbrev pub ReadsBytes : Format (List ℕ) → List ℕ → Result (Bor (List ℕ)) ReadFault → List ℕ → Type 0
ReadsBytes f before (Ok bytes) after = Begins f before bytes.now after
ReadsBytes f before (Err fault) after = Fails f before fault

-- the bytes, from the first to the last, are the spelling of the value
pub record Spells {X : Type 0} (f : Format X) (x : X) (bytes : List ℕ) : Type 0 where
  pub fits : f.fits x
  pub is : bytes ≡ f.spell x

-- what reading all the bytes gives: the value that they spell, or a fault, `Unspelled` only where they spell none
abbrev pub ReadsAll : {X : Type 0} → Format X → List ℕ → Result X ReadFault → Type 0
ReadsAll f bytes (Ok x) = Spells f x bytes
ReadsAll {X} f bytes (Err fault) = fault ≡ Unspelled → (x : X) → Spells f x bytes → ⊥

-- what stands at a place of the bytes and takes so many of them, or nothing where fewer are left there
abbrev pub TakesAt : {X : Type 0} → Format X → ℕ → List ℕ → ℕ → Option X → Type 0
TakesAt f size bytes at (Some x) = Begins f (drop at bytes) x (drop (at + size) bytes)
TakesAt f size bytes at None = length bytes < at + size

-- no value has two spellings, no bytes are the spelling of two values, and none begins another
pub record IsUnique {X : Type 0} (f : Format X) : Type 0 where
  pub one : (x y : X) (a b : List ℕ) → f.fits x → f.fits y → f.spell x ++ a ≡ f.spell y ++ b → (x ≡ y) × (a ≡ b)

-- but for want of memory the bytes are read in one way: a value and what is left behind it, or no value
pub record IsReadOnce {X : Type 0} (f : Format X) : Type 0 where
  pub answer : (before after behind : List ℕ) (one other : Result X ReadFault) → Reads f before one after →
      Reads f before other behind → (IsErrOf one Memory → ⊥) → (IsErrOf other Memory → ⊥) → one ≡ other
  pub rest : (before after behind : List ℕ) (one other : X) → Begins f before one after →
      Begins f before other behind → after ≡ behind

-- what stands at a place and takes so many bytes is one thing
abbrev pub IsTakenOnce : {X : Type 0} → Format X → ℕ → Type 0
IsTakenOnce f size = (bytes : List ℕ) (at : ℕ) (one other : Option _) → TakesAt f size bytes at one →
    TakesAt f size bytes at other → one ≡ other

-- the bytes are those that stood there, and maybe more behind them
pub record Keeps (before after : List ℕ) : Type 0 where
  pub more : List ℕ
  pub is : after ≡ before ++ more
