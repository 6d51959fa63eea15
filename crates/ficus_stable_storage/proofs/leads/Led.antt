-- What a record makes, and where records lead.
use Rattle.std.proofs.Common.{◌≡◌, ℕ, ◌+◌, Bool, true, false, List, [], ◌∷◌, ◌++◌, length, Option, Some, None, refl, sym, ◌∙◌, ap, ap₂, subst, arith}
use Rattle.ficus_entry.specs.Entry.{IsRising}
use Rattle.ficus_entry.specs.declared.entry.Entry.{Entry}
use Rattle.ficus_file.specs.declared.file.FileReplica.{FileReplica}
use Rattle.ficus_collection.specs.declared.reclaiming.Reclaimed.{Reclaimed}
use Rattle.ficus_image.specs.Image.{IsImageOf, image_bytes}
use Rattle.ficus_image.specs.declared.image_version.ImageVersion.TheVariants.{Second}
use Rattle.ficus_image.proofs.Images.{one_imaged}
use Rattle.ficus_keeper.specs.Kept.{Kept, after_commit, generation_of, image_alone}
use Rattle.ficus_stable_storage.specs.Leads.Chain.{LeadAll}
use Rattle.ficus_stable_storage.specs.Leads.Holds.{Holds, Leads}
use Rattle.ficus_model.specs.declared.event.Op.{Op}
use Rattle.ficus_merge_entries.specs.Merge.{MergesEntries}
use Rattle.ficus_merge_files.specs.Merge.{AreMergedFiles}
use Rattle.ficus_merge_files.proofs.Determined.{same_merge}
use Rattle.ficus_record.specs.declared.record.Record.{Record}
use Rattle.ficus_record.specs.declared.record.Record.TheVariants.{Change, Ask, Accept, Collect}
use Rattle.ficus_record.proofs.Unique.{unique-record}
use Rattle.ficus_replica.specs.Effect.{Applied}
use Rattle.ficus_replica.specs.Makes.{Makes}
use Rattle.ficus_replica.proofs.Leaving.{reclaimed_once}
use Rattle.ficus_durable_state.specs.Saved.{FitsImage}
use Rattle.ficus_durable_state.specs.declared.saved.Saved.{Saved}
use Rattle.ficus_mentions.specs.Touched.{touched_by}

-- the laws that stand below as the contracts of functions
abbrev pub OneMerge : Type 0
OneMerge = (r members : ℕ) (mine theirs one other : List Entry) → IsRising one → IsRising other
    → MergesEntries r members mine theirs one → MergesEntries r members mine theirs other → one ≡ other

abbrev pub OneChange : Type 0
OneChange = (old one other : Saved) (op : Op) → FitsImage old → Applied old op one → Applied old op other → one ≡ other

-- and those that follow
abbrev pub OneMade : Type 0
OneMade = (old one other : Saved) (noted : Record) → FitsImage old → Makes old noted one → Makes old noted other
    → one ≡ other

abbrev pub OneLed : Type 0
OneLed = (bytes : List ℕ) (old one other : Saved) → FitsImage old → Leads bytes old one → Leads bytes old other
    → one ≡ other

abbrev with_tables : Saved → List Entry → List FileReplica → Saved
with_tables old entries files = record old { generation = old.generation + 1; entries = entries; files = files }

-- a record makes one thing
pub made_once : OneChange → OneMerge → OneMade
made_once change merge old one other (Change op) fits first second = change old one other op fits first second
made_once change merge old one other Ask fits first second = first ∙ sym second
made_once change merge old one other (Accept entries files) fits first second =
    let merged : first.merged ≡ second.merged = merge old.me old.members old.entries entries first.merged second.merged
    first.tables.rising second.tables.rising first.tables.merges second.tables.merges in
    let moved : AreMergedFiles (touched_by second.merged) old.files files first.both =
    subst (λ (es : List Entry). AreMergedFiles (touched_by es) old.files files first.both) merged
    first.tables.merges_files in
    let both : first.both ≡ second.both = same_merge (touched_by second.merged) old.files files first.both second.both
    first.tables.held.rising second.tables.held.rising moved second.tables.merges_files in
    first.saved ∙ ap₂ (with_tables old) merged both ∙ sym second.saved
made_once change merge old one other Collect fits first second =
    let same : first.reclaimed ≡ second.reclaimed =
    reclaimed_once old first.are second.are first.left second.left in
    first.saved ∙ ap (λ (r : Reclaimed). with_tables old r.entries r.files) same ∙ sym second.saved

-- so do bytes that spell one
pub led_once : OneMade → OneLed
led_once made bytes old one other fits first second =
    let noted = ((unique-record old.members fits.members).one first.noted second.noted [] [] first.step.spelled
    second.step.spelled (ap (λ (l : List ℕ). l ++ []) (sym first.is ∙ second.is))).0 in
    made old one other second.noted fits
    (subst (λ (n : Record). Makes old n one) noted first.step.makes) second.step.makes

abbrev image_of : Option Kept → List ℕ
image_of None = []
image_of (Some kept) = kept.image

abbrev records_of : Option Kept → List (List ℕ)
records_of None = []
records_of (Some kept) = kept.records

module _ (led : OneLed) where
  -- and so do some, one after the other
  pub all_led_once : (bodies : List (List ℕ)) (old one other : Saved) → FitsImage old → LeadAll Leads bodies old one
      → LeadAll Leads bodies old other → one ≡ other
  all_led_once [] old one other fits first second = sym first ∙ second
  all_led_once (body ∷ bodies) old one other fits (mid, step, on) (next, step_too, on_too) =
      let same : mid ≡ next = led body old mid next fits step step_too in
      all_led_once bodies next one other step_too.step.fits
      (subst (λ (m : Saved). LeadAll Leads bodies m one) same on) on_too

  -- what was found holds one thing
  pub held_once : (found : Option Kept) (one other : Saved) → Holds found one → Holds found other → one ≡ other
  held_once found one other first second =
      let image : first.image ≡ second.image = ap image_of (sym first.is ∙ second.is) in
      let records : first.records ≡ second.records = ap records_of (sym first.is ∙ second.is) in
      let base : first.base ≡ second.base = one_imaged first.image first.base second.base first.spelled
      (subst (λ (l : List ℕ). IsImageOf l second.base) (sym image) second.spelled) in
      all_led_once second.records second.base one other second.spelled.fits
      (subst (λ (s : Saved). LeadAll Leads second.records s one) base
      (subst (λ (rs : List (List ℕ)). LeadAll Leads rs first.base one) records first.leads)) second.leads

-- a record is one save
made_next : (old new : Saved) (noted : Record) → Makes old noted new → new.generation ≡ old.generation + 1
made_next old new (Change op) makes = ap (λ (s : Saved). s.generation) makes.saved
made_next old new Ask makes = ap (λ (s : Saved). s.generation) makes
made_next old new (Accept entries files) makes = ap (λ (s : Saved). s.generation) makes.saved
made_next old new Collect makes = ap (λ (s : Saved). s.generation) makes.saved

pub led_next : (bytes : List ℕ) (old new : Saved) → Leads bytes old new → new.generation ≡ old.generation + 1
led_next bytes old new leads = made_next old new leads.noted leads.step.makes

pub led_generation : (bodies : List (List ℕ)) (old new : Saved) → LeadAll Leads bodies old new
    → new.generation ≡ old.generation + length bodies
led_generation [] old new leads = omega (arith, ap (λ (s : Saved). s.generation) leads)
led_generation (body ∷ bodies) old new (mid, step, on) =
    omega (arith, led_next body old mid step, led_generation bodies mid new on)

-- what is found as this is holds what this holds
pub held_at : (found after : Option Kept) (saved : Saved) → found ≡ after → Holds after saved → Holds found saved
held_at found after saved is holds = subst (λ (k : Option Kept). Holds k saved) (sym is) holds

-- the generation that is kept is that of what is held
pub held_generation : (kept : Kept) (saved : Saved) → Holds (Some kept) saved → generation_of kept ≡ saved.generation
held_generation kept saved holds =
    let same : generation_of kept ≡ holds.base.generation + length holds.records = cc in
    omega (arith, same, led_generation holds.records holds.base saved holds.leads)

-- what is led to fits an image
pub all_led_fits : (bodies : List (List ℕ)) (old new : Saved) → FitsImage old → LeadAll Leads bodies old new
    → FitsImage new
all_led_fits [] old new fits leads = subst FitsImage leads fits
all_led_fits (body ∷ bodies) old new fits (mid, step, on) = all_led_fits bodies mid new step.step.fits on

pub held_fits : (found : Option Kept) (saved : Saved) → Holds found saved → FitsImage saved
held_fits found saved holds = all_led_fits holds.records holds.base saved holds.spelled.fits holds.leads

-- one more
pub led_on : (bodies : List (List ℕ)) (body : List ℕ) (old mid new : Saved) → LeadAll Leads bodies old mid
    → Leads body mid new → LeadAll Leads (bodies ++ body ∷ []) old new
led_on [] body old mid new leads step = (new, subst (λ (s : Saved). Leads body s new) (sym leads) step, refl)
led_on (first ∷ bodies) body old mid new (next, by, on) step = (next, by, led_on bodies body next mid new on step)

-- after a save of an image, and after one of a record
pub held_image : (found : Option Kept) (new : Saved) → FitsImage new
    → Holds (after_commit true new.generation (image_bytes new) found) new
held_image found new fits = record {
  base = new;
  image = image_bytes new;
  spelled = record { fits = fits; version = Second; has = tt; is = refl };
  records = [];
  is = refl;
  leads = refl;
}

pub held_record : (found : Option Kept) (generation : ℕ) (body : List ℕ) (old new : Saved) → Holds found old
    → Leads body old new → Holds (after_commit false generation body found) new
held_record found generation body old new holds step = record {
  base = holds.base;
  image = holds.image;
  spelled = holds.spelled;
  records = holds.records ++ body ∷ [];
  is = ap (after_commit false generation body) holds.is;
  leads = led_on holds.records body holds.base old new holds.leads step;
}

-- after either
pub held_after : (is_image : Bool) (found : Option Kept) (generation : ℕ) (bytes body : List ℕ) (old new : Saved)
    → generation ≡ new.generation → (is_image ≡ true → bytes ≡ image_bytes new) → (is_image ≡ false → bytes ≡ body)
    → Holds found old → Leads body old new → Holds (after_commit is_image generation bytes found) new
held_after true found generation bytes body old new same spelled noted holds step =
    subst (λ (k : Option Kept). Holds k new)
    (λ i. let both : Some (image_alone new.generation (image_bytes new)) ≡ Some (image_alone generation bytes) =
    (λ j. Some (image_alone ((sym same) j) ((sym (spelled refl)) j))) in both i)
    (held_image found new step.step.fits)
held_after false found generation bytes body old new same spelled noted holds step =
    held_record found generation bytes old new holds (subst (λ (l : List ℕ). Leads l old new) (sym (noted refl)) step)
