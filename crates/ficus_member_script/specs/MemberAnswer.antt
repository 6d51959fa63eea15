-- How the answers of a member that is on a machine of its own are written.
use Rattle.std.specs.Prelude.{ℕ, List, [], ◌∷◌, ◌++◌, codes}
use Rattle.std.specs.Fmt.{decimal}
use Rattle.ficus_script.specs.Answer.{answer_text_of}
use Rattle.ficus_member_script.specs.declared.member_answer.MemberAnswer.{MemberAnswer}
use Rattle.ficus_member_script.specs.declared.member_answer.MemberAnswer.TheVariants.{Plain, Asked, Served}

-- how many pieces there are, and of which state
abbrev pub served_text_of : ℕ → ℕ → List ℕ
served_text_of pieces state = codes "ok " ++ decimal pieces ++ 32 ∷ decimal state ++ 10 ∷ []

-- the text of each answer
abbrev pub member_answer_text_of : MemberAnswer → List ℕ
member_answer_text_of (Plain answer) = answer_text_of answer
member_answer_text_of (Asked number) = codes "ok " ++ decimal number ++ 10 ∷ []
member_answer_text_of (Served pieces state) = served_text_of pieces state
