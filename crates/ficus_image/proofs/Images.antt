-- Where bytes spell no image, and that no image's spelling begins another's.
use Rattle.std.specs.Prelude.{◌≡◌, ℕ, List, [], ◌++◌, length, Option, Some, None, Result, Ok, Err, IfSome, IfNone, IsErrOf, ok_or}
use Rattle.std.specs.Result.{IsErrAnd}
use Rattle.std.proofs.Common.{get_or, refl, sym, ap, subst, ◌∙◌, append_assoc, arith}
use Rattle.std.proofs.lemmas.List.{append-nil}
use Rattle.ficus_ids.specs.Members.{IsCount}
use Rattle.ficus_entry.specs.declared.entry.Entry.{Entry}
use Rattle.ficus_file.specs.declared.file.FileReplica.{FileReplica}
use Rattle.ficus_formats.specs.Format.{IsUnique, Begins, Fails, Reads, Spells, byte, number32, number64, ◌then◌}
use Rattle.ficus_formats.specs.Unique.{unique-byte, unique-number32, unique-number64, unique-then, unique-shaped, unique-meeting, one_cut}
use Rattle.ficus_formats.specs.declared.fault.ReadFault.{ReadFault}
use Rattle.ficus_formats.specs.declared.fault.ReadFault.TheVariants as read
use Rattle.ficus_codec.specs.Formats.{tables, tables_bytes}
use Rattle.ficus_codec.proofs.TableFormats.{unique-tables}
use Rattle.ficus_durable_state.specs.Saved.{FitsImage}
use Rattle.ficus_durable_state.specs.Tables.{FitsTables}
use Rattle.ficus_durable_state.specs.declared.saved.Saved.{Saved}
use Rattle.ficus_image.specs.declared.decoding.Spelled.{Spelled}
use Rattle.ficus_image.specs.declared.front.Front.{Front}
use Rattle.ficus_image.specs.declared.image_fault.ImageFault.{ImageFault}
use Rattle.ficus_image.specs.declared.image_fault.ImageFault.TheVariants.{NotImage}
use Rattle.ficus_image.specs.declared.image_version.ImageVersion.{ImageVersion}
use Rattle.ficus_image.specs.declared.image_version.ImageVersion.TheVariants.{First, Second}
use Rattle.ficus_image.specs.ImageFault.{told}
use Rattle.ficus_image.specs.Image.{BeginsFront, FitsSpelled, IsImageOf, magic, magic_bytes, member_count, front_parts, front, front_of, image_parts, image, version_bytes}

-- the bytes begin with four that are those of no version
no_magic : (before four rest : List ℕ) (fault : ReadFault) → length four ≡ 4 → before ≡ four ++ rest →
    ((version : ImageVersion) → four ≡ magic_bytes version → ⊥) → Fails magic before fault
no_magic before four rest fault long cut none = record {
  none = λ unspelled version more begins. other version more (sym cut ∙ begins.spelled);
}
  where
    other : (version : ImageVersion) (more : List ℕ) → four ++ rest ≡ magic_bytes version ++ more → ⊥
    other First more same = none First (one_cut four (magic_bytes First) rest more long same).0
    other Second more same = none Second (one_cut four (magic_bytes Second) rest more long same).0

-- four bytes give the version that begins with them, or none
pub magic_reads : (before four rest : List ℕ) (found : Option ImageVersion) → length four ≡ 4 → before ≡ four ++ rest →
    IfSome found (λ version. four ≡ magic_bytes version) →
    IfNone found ((version : ImageVersion) → four ≡ magic_bytes version → ⊥) →
    Reads magic before (ok_or found read.Unspelled) rest
magic_reads before four rest (Some version) long cut is none =
    record { fits = tt; spelled = cut ∙ ap (λ (l : List ℕ). l ++ rest) is }
magic_reads before four rest None long cut is none = no_magic before four rest read.Unspelled long cut none

one_magic : (v w : ImageVersion) (a b : List ℕ) → magic_bytes v ++ a ≡ magic_bytes w ++ b → (v ≡ w) × (a ≡ b)
one_magic First First a b same = (refl, cc)
one_magic Second Second a b same = (refl, cc)
one_magic First Second a b same = absurd (omega (arith, ap (λ (l : List ℕ). get_or l 3 0) same))
one_magic Second First a b same = absurd (omega (arith, ap (λ (l : List ℕ). get_or l 3 0) same))

pub unique-magic : IsUnique magic
unique-magic = record { one = λ v w a b fits also same. one_magic v w a b same }

pub unique-member_count : IsUnique member_count
unique-member_count = unique-meeting IsCount byte (λ n fits. tt) unique-byte

-- two limits, and what two counts have come to
unique-numbers : IsUnique (number32 then number32 then number32 then number32 then number64)
unique-numbers =
    unique-then number32 (number32 then number32 then number32 then number64) unique-number32
    (unique-then number32 (number32 then number32 then number64) unique-number32
    (unique-then number32 (number32 then number64) unique-number32
    (unique-then number32 number64 unique-number32 unique-number64)))

pub unique-front : IsUnique front
unique-front = unique-shaped front_parts
    (magic then byte then member_count then number32 then number32 then number32 then number32 then number64)
    (λ p. record {
      version = p.0;
      me = p.1.0;
      members = p.1.1.0;
      ids = p.1.1.1.0;
      bytes = p.1.1.1.1.0;
      next = p.1.1.1.1.1.0;
      used = p.1.1.1.1.1.1.0;
      generation = p.1.1.1.1.1.1.1;
    }) (λ f. refl)
    (unique-then magic (byte then member_count then number32 then number32 then number32 then number32 then number64)
    unique-magic
    (unique-then byte (member_count then number32 then number32 then number32 then number32 then number64) unique-byte
    (unique-then member_count (number32 then number32 then number32 then number32 then number64) unique-member_count
    unique-numbers)))

-- what an image has in front of its tables has a spelling
pub image_narrows : (s : Spelled) → FitsImage s.saved → image_parts.fits s
image_narrows s fits = (
  (
    tt,
    (
      tt,
      (
        fits.members,
        (
          omega (arith, fits.ids_at_most),
          (
            omega (arith, fits.bytes),
            (
              omega (arith, fits.next_at_most, fits.ids_at_most),
              (omega (arith, fits.used, fits.bytes), omega (arith, fits.generation)),
            ),
          ),
        ),
      ),
    ),
  ),
  fits.tables,
)

-- what was read in front of the tables, and the tables, together
abbrev spelled_with : Front → List Entry × List FileReplica → Spelled
spelled_with f t = record {
  version = f.version;
  saved = record {
    me = f.me;
    members = f.members;
    ids = f.ids;
    bytes = f.bytes;
    next = f.next;
    used = f.used;
    generation = f.generation;
    entries = t.0;
    files = t.1;
  };
}

-- what stands in front of the tables of an image
abbrev front_in : Spelled → Front
front_in s = front_of s.version s.saved

-- and these
abbrev tables_in : Spelled → List ℕ
tables_in s = tables_bytes s.saved.members s.saved.entries s.saved.files

-- bytes that begin with what stands in front of an image's tables are cut in one way
module _ (f : Front) (rest : List ℕ) (s : Spelled) (b : List ℕ) (first : front.fits f)
    (fits : image_parts.fits s) (same : front.spell f ++ rest ≡ image_parts.spell s ++ b) where
  cut : (f ≡ front_in s) × (rest ≡ tables_in s ++ b)
  cut = unique-front.one f (front_in s) rest (tables_in s ++ b) first fits.0
      (same ∙ append_assoc (front.spell (front_in s)) (tables_in s) b)

  members_same : s.saved.members ≡ f.members
  members_same = ap (λ (g : Front). g.members) (sym cut.0)

  tables_fit : FitsTables f.members s.saved.entries s.saved.files
  tables_fit = subst (λ (n : ℕ). FitsTables n s.saved.entries s.saved.files) members_same fits.1

  tables_there : rest ≡ tables_bytes f.members s.saved.entries s.saved.files ++ b
  tables_there = cut.1 ∙ ap (λ (n : ℕ). tables_bytes n s.saved.entries s.saved.files ++ b) members_same

pub unique-image_parts : IsUnique image_parts
unique-image_parts = record {
  one = λ x y a b fits also same.
      let rest : List ℕ = tables_in x ++ a in
      let so = sym (append_assoc (front.spell (front_in x)) (tables_in x) a) ∙ same in
      let t = (unique-tables x.saved.members fits.0.1.1.0).one (x.saved.entries, x.saved.files)
      (y.saved.entries, y.saved.files) a b fits.1 (tables_fit (front_in x) rest y b fits.0 also so)
      (tables_there (front_in x) rest y b fits.0 also so) in
      let c = (cut (front_in x) rest y b fits.0 also so).0 in
      (ap (λ (f : Front). spelled_with f (x.saved.entries, x.saved.files)) c ∙ ap (λ p. spelled_with (front_in y) p) t.0, t.1);
}

-- what one version spells of something no version spells of something else
pub one_version : (v w : ImageVersion) (m n : Saved) (a b : List ℕ) → FitsImage m → FitsImage n →
    version_bytes v m ++ a ≡ version_bytes w n ++ b → (v ≡ w) × (m ≡ n) × (a ≡ b)
one_version v w m n a b fits also same =
    let one : Spelled = record { version = v; saved = m } in
    let other : Spelled = record { version = w; saved = n } in
    let both = unique-image_parts.one one other a b (image_narrows one fits) (image_narrows other also) same in
    (ap (λ (s : Spelled). s.version) both.0, ap (λ (s : Spelled). s.saved) both.0, both.1)

-- bytes are the image of one thing
pub one_imaged : (bytes : List ℕ) (m n : Saved) → IsImageOf bytes m → IsImageOf bytes n → m ≡ n
one_imaged bytes m n one other =
    (one_version one.version other.version m n [] [] one.fits other.fits
    (ap (λ (l : List ℕ). l ++ []) (sym one.is ∙ other.is))).1

module _ (before : List ℕ) (fault : ReadFault) where
  -- nothing stands in front of tables
  pub at_front : Fails front before fault → fault ≡ read.Unspelled → (s : Spelled) → Spells image_parts s before → ⊥
  at_front fails unspelled s spells =
      fails.none unspelled (front_in s) (tables_in s) (record { fits = spells.fits.0; spelled = spells.is })

  -- no tables stand behind it
  pub at_tables : (f : Front) (rest : List ℕ) → Begins front before f rest →
      (fault ≡ read.Unspelled → (t : List Entry × List FileReplica) → Spells (tables f.members) t rest → ⊥) →
      fault ≡ read.Unspelled → (s : Spelled) → Spells image_parts s before → ⊥
  at_tables f rest first none unspelled s spells =
      let same = sym first.spelled ∙ spells.is ∙ sym (append-nil (image_parts.spell s)) in
      none unspelled (s.saved.entries, s.saved.files) (record {
        fits = tables_fit f rest s [] first.fits spells.fits same;
        is = tables_there f rest s [] first.fits spells.fits same
            ∙ append-nil (tables_bytes f.members s.saved.entries s.saved.files);
      })

-- what one value spells no other does
pub one_spelled : (x y : Spelled) (bytes : List ℕ) → Spells image_parts x bytes → Spells image_parts y bytes → x ≡ y
one_spelled x y bytes first second =
    (unique-image_parts.one x y [] [] first.fits second.fits
    (append-nil (image_parts.spell x) ∙ sym first.is ∙ second.is ∙ sym (append-nil (image_parts.spell y)))).0

-- what the bytes spell may not stand in an image
pub unfit : (x : Spelled) (bytes : List ℕ) → Spells image_parts x bytes → (FitsSpelled x → ⊥) → (s : Spelled) →
    Spells image s bytes → ⊥
unfit x bytes first not s spells =
    not (subst FitsSpelled
    (one_spelled s x bytes (record { fits = image_narrows s spells.fits.fits; is = spells.is }) first) spells.fits)

-- what is spelled is an image
pub spelled_image : (bytes : List ℕ) (x : Spelled) → Spells image x bytes → IsImageOf bytes x.saved
spelled_image bytes x spells =
    record { fits = spells.fits.fits; version = x.version; has = spells.fits.version; is = spells.is }

-- and an image is spelled, so where nothing is the bytes are none
pub no_image : (bytes : List ℕ) (fault : ReadFault) (result : Result Saved ImageFault) →
    IsErrAnd result (λ given. given ≡ told fault) →
    (fault ≡ read.Unspelled → (s : Spelled) → Spells image s bytes → ⊥) →
    IsErrOf result NotImage → (saved : Saved) → IsImageOf bytes saved → ⊥
no_image bytes fault (Ok saved) is none wanted other image_of = absurd is
no_image bytes read.Memory (Err given) is none wanted saved image_of = absurd cc
no_image bytes read.Unspelled (Err given) is none wanted saved image_of =
    none refl (record { version = image_of.version; saved = saved })
    (record { fits = record { fits = image_of.fits; version = image_of.has }; is = image_of.is })

-- what the bytes spell is one
pub read_one : (bytes : List ℕ) (x : Spelled) → Spells image x bytes → (s : Saved) → IsImageOf bytes s → x.saved ≡ s
read_one bytes x spells s is = one_imaged bytes x.saved s (spelled_image bytes x spells) is

-- what is spelled by its parts begins with what stands in front of the tables
pub spelled_begins : (s : Spelled) (bytes : List ℕ) → Spells image_parts s bytes → BeginsFront bytes
spelled_begins s bytes spells = record {
  front_is = front_in s;
  rest = tables_in s;
  begins = record { fits = spells.fits.0; spelled = spells.is };
}
