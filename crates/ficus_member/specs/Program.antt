-- What the call for a member does, by the mode that the words are of.
use Rattle.std.specs.Prelude.{◌≡◌, ◌⊎◌, ℕ, ◌<◌, List, length, Result, Ok, Err, IfErr, IsErrAnd, IsErrOf}
use Rattle.ficus_ids.specs.Members.{IsMember}
use Rattle.ficus_opening.specs.declared.fault.WorldFault.{WorldFault}
use Rattle.ficus_top.specs.Making.{FitsSize}
use Rattle.ficus_top.specs.Status.{code_of, line_of, replica_of}
use Rattle.ficus_top.specs.declared.fault.Fault.{Fault}
use Rattle.ficus_top.specs.declared.fault.Fault.TheVariants.{Storing, Words}
use Rattle.ficus_top.specs.declared.status.Status.{Status}
use Rattle.ficus_words.specs.Grammar.{Text}
use Rattle.ficus_words.specs.MemberMode.{AreMemberWords, AreNoMemberWords}
use Rattle.ficus_words.specs.declared.fault.WordsFault.TheVariants.{Memory, Usage}
use Rattle.ficus_words.specs.declared.member_mode.MemberMode.{MemberMode}
use Rattle.ficus_words.specs.declared.member_mode.MemberMode.TheVariants.{Init, Run}
use Rattle.ficus_words.specs.declared.mode.Size.{Size}
use Rattle.ficus_member.specs.Making.{MakesMember}
use Rattle.ficus_member.specs.Running.{RunsScript}
use Rattle.ficus_member.specs.Seen.{IsUnasked, Seen, disks_after, disks_before}

-- the mode's numbers are within their bounds
abbrev pub FitsMember : MemberMode → Type 0
FitsMember (Init size me tag root) = FitsSize size × IsMember size.members me
FitsMember (Run me root) = IsMember 8 me

-- how a run ended, as numbers
abbrev pub status_of : Result (Unit {0}) Fault → Status
status_of ended = record { code = code_of ended; line = line_of ended; replica = replica_of ended }

-- what was to be made wasn't, for this fault
abbrev pub as_ended : Result (Unit {0}) WorldFault → Result (Unit {0}) Fault
as_ended (Ok done) = Ok done
as_ended (Err fault) = Err (Storing fault)

-- The words weren't read: they are those of no mode of a member, or memory was refused.
abbrev pub IsOfWords : Result (Unit {0}) Fault → Type 0
IsOfWords ended = IsErrOf ended (Words Usage) ⊎ IsErrOf ended (Words Memory)

module _ {S K D N M : Type 0} where
  -- The member is made. Nothing is taken from the source, and nothing put, neither to the sink nor to the mailbox.
  pub record DoesInit (size : Size) (me : ℕ) (tag : List ℕ) (seen : Seen S K D N M)
      (ended : Result (Unit {0}) Fault) : Type 0 where
    pub made : Result (Unit {0}) WorldFault
    pub ends : ended ≡ as_ended made
    pub unread : seen.input.new ≡ seen.input.old
    pub silent : seen.output.new ≡ seen.output.old
    pub unposted : seen.mail.new ≡ seen.mail.old
    pub makes : MakesMember seen.disk seen.slot size me tag made (disks_before seen) (disks_after seen)
        seen.beside.old seen.beside.new

  -- as the program does in this mode
  abbrev pub Does : MemberMode → Seen S K D N M → Result (Unit {0}) Fault → Type 0
  Does (Init size me tag root) seen ended = DoesInit size me tag seen ended
  Does (Run me root) seen ended = RunsScript me seen ended

  -- The call was made with these words: what the public call `member` promises, by name.
  pub record RunsMember (words : List Text) (seen : Seen S K D N M) (status : Status) : Type 0 where
    -- How it ended, of which the status gives the numbers.
    pub ended : Result (Unit {0}) Fault
    pub numbers : status ≡ status_of ended
    -- `Usage` comes exactly where the words are those of no mode of a member, unless memory is wanted. Nothing is asked
    -- of the outside where they weren't read.
    pub usage : IsErrOf ended (Words Usage) → AreNoMemberWords words
    pub usage_comes : AreNoMemberWords words → IsOfWords ended
    pub unasked : IsOfWords ended → IsUnasked seen
    -- Where they are those of a mode, all is as it does, unless memory was wanted for reading them. They are of one
    -- mode at most.
    pub does : (mode : MemberMode) → AreMemberWords words mode → IsErrOf ended (Words Memory) ⊎ Does mode seen ended
