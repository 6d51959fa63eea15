-- The script of a member, and the texts of its answers.
use Rattle.std.specs.Prelude.{ℕ, List}
use Rattle.std.specs.List.{flat_map}
use Rattle.ficus_member_script.specs.MemberAnswer.{member_answer_text_of}
use Rattle.ficus_member_script.specs.MemberLine.{IsFirstBadMemberLine, IsMemberScript}
use Rattle.ficus_member_script.specs.declared.member_answer.MemberAnswer.{MemberAnswer}
use Rattle.ficus_member_script.specs.declared.member_line.MemberLine.{MemberLine}
use Rattle.ficus_top.specs.Grammar.{Grammar}

-- scripts of the lines of a member
abbrev pub of_member_lines : Grammar
of_member_lines = record { Line = MemberLine; IsOf = IsMemberScript; IsFirstBad = IsFirstBadMemberLine }

-- the texts of the answers, one after the other
abbrev pub texts_of : List MemberAnswer → List ℕ
texts_of answers = flat_map member_answer_text_of answers
