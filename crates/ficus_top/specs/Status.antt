-- How a run of the program ends, as numbers.
use Rattle.std.specs.Prelude.{ℕ, ◌==◌, List, [], ◌∷◌, ◌++◌, codes, if◌then◌else◌, Result, Ok, Err}
use Rattle.std.specs.Fmt.{decimal}
use Rattle.ficus_top.specs.declared.fault.Fault.{Fault}
use Rattle.ficus_top.specs.declared.fault.Fault.TheVariants.{Words, Reading, Storing, Answering}
use Rattle.ficus_words.specs.declared.fault.WordsFault.TheVariants as words
use Rattle.ficus_opening.specs.declared.fault.WorldFault.TheVariants as world
use Rattle.ficus_top.specs.declared.fault.ReadingFault.TheVariants.{BadLine, Memory, Source, TooLong}
use Rattle.ficus_loop.specs.declared.fault.AnsweringFault.TheVariants.{Memory as NoMemory, Sink}

-- the code of a run that answered every command, or ended with a fault
abbrev pub code_of : {Done : Type 0} → Result Done Fault → ℕ
code_of (Ok done) = 0
code_of (Err (Words words.Usage)) = 1
code_of (Err (Words words.Memory)) = 3
code_of (Err (Reading (BadLine line))) = 2
code_of (Err (Reading Memory)) = 3
code_of (Err (Reading Source)) = 4
code_of (Err (Reading TooLong)) = 8
code_of (Err (Storing world.Memory)) = 3
code_of (Err (Storing (world.Store replica))) = 6
code_of (Err (Storing (world.Image replica))) = 7
code_of (Err (Storing (world.Occupied replica))) = 9
code_of (Err (Answering NoMemory)) = 3
code_of (Err (Answering Sink)) = 5

-- the line that the fault names
abbrev pub line_of : {Done : Type 0} → Result Done Fault → ℕ
line_of (Ok done) = 0
line_of (Err (Words fault)) = 0
line_of (Err (Reading (BadLine line))) = line
line_of (Err (Reading Memory)) = 0
line_of (Err (Reading Source)) = 0
line_of (Err (Reading TooLong)) = 0
line_of (Err (Storing fault)) = 0
line_of (Err (Answering NoMemory)) = 0
line_of (Err (Answering Sink)) = 0

-- the replica that the fault names
abbrev pub replica_of : {Done : Type 0} → Result Done Fault → ℕ
replica_of (Ok done) = 0
replica_of (Err (Words fault)) = 0
replica_of (Err (Reading fault)) = 0
replica_of (Err (Storing world.Memory)) = 0
replica_of (Err (Storing (world.Store replica))) = replica
replica_of (Err (Storing (world.Image replica))) = replica
replica_of (Err (Storing (world.Occupied replica))) = replica
replica_of (Err (Answering fault)) = 0

-- what is said on standard error of a code, a line and a replica: nothing, or a line of text
abbrev pub status_text_of : ℕ → ℕ → ℕ → List ℕ
status_text_of code line replica =
    if code == 1 then codes "ficus: usage\n" else
    if code == 2 then codes "ficus: bad line " ++ decimal line ++ 10 ∷ [] else
    if code == 3 then codes "ficus: memory\n" else
    if code == 4 then codes "ficus: read fault\n" else
    if code == 5 then codes "ficus: write fault\n" else
    if code == 6 then codes "ficus: store fault at replica " ++ decimal replica ++ 10 ∷ [] else
    if code == 7 then codes "ficus: no image at replica " ++ decimal replica ++ 10 ∷ [] else
    if code == 8 then codes "ficus: script too long\n" else
    if code == 9 then codes "ficus: replica " ++ decimal replica ++ codes " is occupied\n" else
    if code == 10 then codes "ficus: no words\n" else []
