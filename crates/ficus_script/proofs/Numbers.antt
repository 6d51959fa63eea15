-- The spellings of numbers, as words.
use Rattle.std.proofs.Common.{◌≡◌, ℕ, ◌<◌, ◌≤◌, ◌^◌, List, get_or, refl, sym, ◌∙◌, arith}
use Rattle.std.specs.Fmt.{decimal}
use Rattle.std.proofs.lemmas.Fmt.{decimal_injective, decimal_nonempty}
use Rattle.ficus_ids.proofs.NumberLaws.{decimal_at}
use Rattle.ficus_path.proofs.CutLaws.{IsFreeOf}
use Rattle.ficus_path.proofs.IdLaws.{IsFreeOf-decimal}
use Rattle.ficus_script.specs.Arguments.{IsReplicaNumber}

-- no space (32) stands in a number
pub IsFreeOf-number : (number : ℕ) → number < 2 ^ 32 → IsFreeOf 32 (decimal number)
IsFreeOf-number number fits = IsFreeOf-decimal 32 number (omega arith) (omega arith)

pub IsFreeOf-replica : (replica : ℕ) → IsReplicaNumber replica → IsFreeOf 32 (decimal replica)
IsFreeOf-replica replica number = IsFreeOf-number replica (omega (arith, number.at_most))

-- a word spells one number
pub same_number : (number other : ℕ) → number < 2 ^ 32 → other < 2 ^ 32 → decimal number ≡ decimal other
    → number ≡ other
same_number number other fits also same = decimal_injective number other (omega arith) (omega arith) same

pub one_number : (word : List ℕ) (number replica : ℕ) → number < 2 ^ 32 → word ≡ decimal number →
    IsReplicaNumber replica → word ≡ decimal replica → number ≡ replica
one_number word number replica fits found is_number same =
    same_number number replica fits (omega (arith, is_number.at_most)) (sym found ∙ same)

pub same_replica : (replica other : ℕ) → IsReplicaNumber replica → IsReplicaNumber other →
    decimal replica ≡ decimal other → replica ≡ other
same_replica replica other number also same =
    one_number (decimal replica) replica other (omega (arith, number.at_most)) refl also same

-- a number begins with a digit
pub first_digit : (number : ℕ) → number < 2 ^ 32 →
    (48 ≤ get_or (decimal number) 0 0) × (get_or (decimal number) 0 0 ≤ 57)
first_digit number small =
    let fits : number < 2 ^ 64 = omega arith in
    let digit = decimal_at number fits 0 (decimal_nonempty number fits) in
    (omega (arith, digit), omega (arith, digit))

pub first_digit_of_replica : (replica : ℕ) → IsReplicaNumber replica →
    (48 ≤ get_or (decimal replica) 0 0) × (get_or (decimal replica) 0 0 ≤ 57)
first_digit_of_replica replica number = first_digit replica (omega (arith, number.at_most))
