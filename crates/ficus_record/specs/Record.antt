-- Records: how an event after which a replica saves is spelled.
use Rattle.std.specs.Prelude.{◌≡◌, ◌≢◌, ℕ, List, [], ◌∷◌}
use Rattle.ficus_ids.specs.declared.id.Id.{Id}
use Rattle.ficus_ids.specs.Kind.{IsFixedText}
use Rattle.ficus_ids.specs.declared.kind.Kind.{Kind}
use Rattle.ficus_ids.specs.declared.kind.Kind.TheVariants.{Symlink}
use Rattle.ficus_model.specs.declared.event.Op.{Op}
use Rattle.ficus_model.specs.declared.event.Op.TheVariants.{Make, Link, Remove, Move, Write, Settle, Resolve, Adopt, Discard}
use Rattle.ficus_formats.specs.Format.{Format, ◌then◌, id, meeting, number16, rising, string}
use Rattle.ficus_codec.specs.Formats.{kind, name, tables_bytes}
use Rattle.ficus_durable_state.specs.Tables.{FitsTables}
use Rattle.ficus_record.specs.declared.record.Record.{Record}
use Rattle.ficus_record.specs.declared.record.Record.TheVariants as record_

-- the identifiers of entries, rising
abbrev pub ids : Format (List Id)
ids = rising (λ x. x) id

-- the kinds of what is made without a text
abbrev pub textless : Format Kind
textless = meeting (λ what. what ≢ Symlink) kind

-- a text that stays
abbrev pub fixed_text : Format (List ℕ)
fixed_text = meeting IsFixedText (string number16)

-- the fields of the operations, in the order in which they are spelled: of the making of a symbolic link they have
-- its text in place of a kind
abbrev pub making : Format (Id × (List ℕ × Kind))
making = id then name then textless

abbrev pub symlinking : Format (Id × (List ℕ × List ℕ))
symlinking = id then name then fixed_text

abbrev pub linking : Format (Id × (List ℕ × Id))
linking = id then name then id

abbrev pub removing : Format (Id × List Id)
removing = id then ids

abbrev pub placing : Format (Id × (List ℕ × List Id))
placing = id then name then ids

abbrev pub moving : Format (Id × (Id × (List ℕ × List Id)))
moving = id then placing

abbrev pub writing : Format (Id × List ℕ)
writing = id then string number16

abbrev pub adopting : Format (Id × (Id × List ℕ))
adopting = id then id then name

-- how an operation is spelled: which it is, in a byte, and its fields, where they have a spelling
pub record OpLayout : Type 1 where
  pub tag : ℕ
  pub body : List ℕ
  pub fits : Type 0

-- the byte, and behind it these fields in this format
abbrev pub behind : {A : Type 0} → ℕ → Format A → A → OpLayout
behind tag format fields = record { tag = tag; body = format.spell fields; fits = format.fits fields }

-- what is made without a text has none. A later kind is spelled without one too, unless it is listed here: with a text
-- it would fit no record, and the code that spells asks of each kind which of the two it is
abbrev pub making_layout : Id → List ℕ → Kind → List ℕ → OpLayout
making_layout dir called Symlink text = behind 13 symlinking (dir, (called, text))
making_layout dir called what text =
    record {
      tag = 1;
      body = making.spell (dir, (called, what));
      fits = making.fits (dir, (called, what)) ×
          (text ≡ []);
    }

abbrev pub op_layout : Op → OpLayout
op_layout (Make dir called what text) = making_layout dir called what text
op_layout (Link dir called target) = behind 2 linking (dir, (called, target))
op_layout (Remove entries target) = behind 3 removing (target, entries)
op_layout (Move entries dir called target) = behind 4 moving (target, (dir, (called, entries)))
op_layout (Write file bytes) = behind 5 writing (file, bytes)
op_layout (Settle file bytes) = behind 6 writing (file, bytes)
op_layout (Resolve file bytes) = behind 7 writing (file, bytes)
op_layout (Adopt file dir called) = behind 8 adopting (file, (dir, called))
op_layout (Discard file) = behind 9 id file

abbrev pub op_tag : Op → ℕ
op_tag op = (op_layout op).tag

abbrev pub op_body : Op → List ℕ
op_body op = (op_layout op).body

abbrev pub FitsOp : Op → Type 0
FitsOp op = (op_layout op).fits

-- what stands behind such a byte
pub record IsOpUnder (tag : ℕ) (op : Op) : Type 0 where
  pub tagged : op_tag op ≡ tag
  pub fits : FitsOp op

abbrev pub op_under : ℕ → Format Op
op_under tag = record { spell = op_body; fits = IsOpUnder tag }

-- the event, in a byte
abbrev pub record_tag : Record → ℕ
record_tag (record_.Change op) = op_tag op
record_tag record_.Ask = 10
record_tag (record_.Accept entries files) = 11
record_tag record_.Collect = 12

abbrev pub record_body : ℕ → Record → List ℕ
record_body members (record_.Change op) = op_body op
record_body members record_.Ask = []
record_body members (record_.Accept entries files) = tables_bytes members entries files
record_body members record_.Collect = []

-- the record has a spelling in a volume of so many members
abbrev pub FitsRecord : ℕ → Record → Type 0
FitsRecord members (record_.Change op) = FitsOp op
FitsRecord members record_.Ask = Unit {0}
FitsRecord members (record_.Accept entries files) = FitsTables members entries files
FitsRecord members record_.Collect = Unit {0}

pub record IsRecordUnder (members tag : ℕ) (noted : Record) : Type 0 where
  pub tagged : record_tag noted ≡ tag
  pub fits : FitsRecord members noted

abbrev pub record_under : ℕ → ℕ → Format Record
record_under members tag = record { spell = record_body members; fits = IsRecordUnder members tag }

-- the byte, and what stands behind it
abbrev pub record_bytes : ℕ → Record → List ℕ
record_bytes members noted = record_tag noted ∷ record_body members noted

-- what stands in front of the tables in the record of their taking
abbrev pub accept_front : List ℕ
accept_front = record_tag (record_.Accept [] []) ∷ []

abbrev pub record_format : ℕ → Format Record
record_format members = record { spell = record_bytes members; fits = FitsRecord members }
