-- What each change of a replica answers.
use Rattle.std.specs.Prelude.{◌⊎◌, Result}
use Rattle.ficus_ids.specs.declared.kind.Kind.TheVariants.{Dir}
use Rattle.ficus_ids.specs.declared.refusal.Refusal.{Refusal}
use Rattle.ficus_model.specs.declared.event.Op.{Op}
use Rattle.ficus_commands.specs.declared.change.Change.{Change}
use Rattle.ficus_commands.specs.declared.change.Change.TheVariants.{MkDir, Create, Symlink, Write, Settle, Resolve, Rm, Ln, Mv, Adopt, Discard}
use Rattle.ficus_rules.specs.Adopt.{AdoptRule, NeedsSearchBelow}
use Rattle.ficus_rules.specs.Discard.{DiscardRule}
use Rattle.ficus_rules.specs.Link.{LinkRule}
use Rattle.ficus_rules.specs.Make.{MakeRule}
use Rattle.ficus_rules.specs.Remove.{NeedsNames, RemoveRule}
use Rattle.ficus_rules.specs.Rename.{NeedsSearch, RenameRule}
use Rattle.ficus_rules.specs.Resolve.{NeedsResolver, ResolveRule}
use Rattle.ficus_rules.specs.Rule.{RefusesNothing, UnlessMemoryWhere}
use Rattle.ficus_rules.specs.Settle.{SettleRule}
use Rattle.ficus_rules.specs.Symlink.{SymlinkRule}
use Rattle.ficus_rules.specs.View.{View}
use Rattle.ficus_rules.specs.Write.{WriteRule}

-- which operation the change is, or why it is refused
abbrev pub ChangeRule : View → Change → Result Op Refusal → Type 0
ChangeRule view (MkDir path) = MakeRule view path Dir
ChangeRule view (Create path kind) = MakeRule view path kind
ChangeRule view (Symlink path text) = SymlinkRule view path text
ChangeRule view (Write path text) = WriteRule view path text
ChangeRule view (Settle path text) = SettleRule view path text
ChangeRule view (Resolve path) = ResolveRule view path
ChangeRule view (Rm path) = RemoveRule view path
ChangeRule view (Ln from path) = LinkRule view from path
ChangeRule view (Mv from path) = RenameRule view from path
ChangeRule view (Adopt orphan path) = AdoptRule view orphan path
ChangeRule view (Discard orphan) = DiscardRule view orphan

-- where the change may be answered with want of memory: where its rule refuses nothing; and where memory has to be
-- taken before that is known
abbrev pub MayWantMemory : View → Change → Type 0
MayWantMemory view (Resolve path) = RefusesNothing (ResolveRule view path) ⊎ NeedsResolver view path
MayWantMemory view (Rm path) = RefusesNothing (RemoveRule view path) ⊎ NeedsNames view path
MayWantMemory view (Mv from path) = RefusesNothing (RenameRule view from path) ⊎ NeedsSearch view from path
MayWantMemory view (Adopt orphan path) = RefusesNothing (AdoptRule view orphan path) ⊎ NeedsSearchBelow view orphan path
MayWantMemory view change = RefusesNothing (ChangeRule view change)

-- what the change is answered: as its rule says, or there with want of memory
abbrev pub ChangeAnswer : View → Change → Result Op Refusal → Type 0
ChangeAnswer view change result = UnlessMemoryWhere (MayWantMemory view change) (ChangeRule view change) result
