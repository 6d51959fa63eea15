-- What is sent for a line of a script over several volumes, and to which of them.
use Rattle.std.specs.Prelude.{◌≡◌, ◌≢◌, ℕ, List, [], ◌∷◌, ◌++◌, take, drop, All}
use Rattle.ficus_path.specs.declared.path.Base.{Base}
use Rattle.ficus_path.specs.declared.path.Base.TheVariants.{Root}
use Rattle.ficus_path.specs.declared.path.Part.{Part}
use Rattle.ficus_path.specs.declared.path.Path.{Path}
use Rattle.ficus_path.specs.Path.{path_from}
use Rattle.ficus_commands.specs.declared.look.Look.TheVariants.{Ls}
use Rattle.ficus_script.specs.declared.command.Command.{Command}
use Rattle.ficus_script.specs.declared.command.Command.TheVariants as command
use Rattle.ficus_script.specs.declared.volume_line.VolumeLine.{VolumeLine}
use Rattle.ficus_top.specs.Graft.Crossing.{IsPlain, LeadsTo}
use Rattle.ficus_top.specs.Graft.Paths.{actor_of, crossable, names_entries, paths_of, with_paths}

-- a command, and the volume to which it is sent
pub record Sending : Type 0 where
  pub volume : ℕ
  pub command : Command

abbrev pub sending : ℕ → Command → Sending
sending volume command = record { volume = volume; command = command }

-- the look at the directory at a path
abbrev pub ls : ℕ → Path → Command
ls by path = command.Look by (Ls path)

-- Where a path leads that begins in this volume at this base, has parts that may lead to volumes, and then parts that
-- may not: at the first part that leads to one, the directory there is looked at; what is left is a path from the root
-- of the volume to which the part leads.
pub data Follows (count by : ℕ) (kept : List Part) : ℕ → Base → List Part → List Sending → ℕ → Path → Type 0 where
  Stays : {volume : ℕ} {base : Base} {parts : List Part} {rest : Path} → All (IsPlain count) parts
      → rest ≡ path_from base (parts ++ kept) → Follows count by kept volume base parts [] volume rest
  Crosses : {volume next end : ℕ} {base : Base} {parts : List Part} {looks : List Sending} {rest : Path}
      → (before behind : List Part) → (crossing : Part) → parts ≡ before ++ crossing ∷ behind
      → All (IsPlain count) before → LeadsTo count crossing next
      → Follows count by kept next Root behind looks end rest
      → Follows count by kept volume base parts
      (sending volume (ls by (path_from base (before ++ crossing ∷ []))) ∷ looks) end rest

-- a path of the line leads, by these looks, to this volume and this path there
abbrev pub LeadsBy : ℕ → VolumeLine → Path → List Sending → ℕ → Path → Type 0
LeadsBy count line path looks end rest =
    let most = crossable (names_entries line.command) path.parts in
    Follows count (actor_of line.command) (drop most path.parts) line.volume path.base (take most path.parts) looks end
    rest

-- What comes of a line after its paths are followed: they end in different volumes, or this command is sent to this
-- volume.
pub data Ending : Type 0 where
  Apart : Ending
  Arrives : ℕ → Command → Ending

-- The looks of a line, in order, and what comes after them.
pub data Route (count : ℕ) (line : VolumeLine) : List Sending → Ending → Type 0 where
  -- a command without a path is sent to the line's volume
  WithoutPath : paths_of line.command ≡ [] → Route count line [] (Arrives line.volume line.command)
  -- with one path, to where it leads, with what is left of it
  WithOne : {path rest : Path} {looks : List Sending} {end : ℕ} {sent : Command}
      → paths_of line.command ≡ path ∷ [] → LeadsBy count line path looks end rest
      → sent ≡ with_paths rest rest line.command → Route count line looks (Arrives end sent)
  -- of two paths the first is followed first; both may lead to one volume
  Together : {path other rest left : Path} {looks more all : List Sending} {end : ℕ} {sent : Command}
      → paths_of line.command ≡ path ∷ other ∷ [] → LeadsBy count line path looks end rest
      → LeadsBy count line other more end left → all ≡ looks ++ more → sent ≡ with_paths rest left line.command
      → Route count line all (Arrives end sent)
  -- or to different ones
  Parting : {path other rest left : Path} {looks more all : List Sending} {end far : ℕ}
      → paths_of line.command ≡ path ∷ other ∷ [] → LeadsBy count line path looks end rest
      → LeadsBy count line other more far left → all ≡ looks ++ more → end ≢ far → Route count line all Apart
