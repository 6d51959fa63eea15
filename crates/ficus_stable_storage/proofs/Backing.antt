-- What a keeper found holds what its records lead to from what its image spells.
use Rattle.std.proofs.Common.{◌≡◌, ℕ, List, [], Option, Some, None, refl, sym, ap, subst}
use Rattle.ficus_keeper.specs.Kept.{Kept, kept_of}
use Rattle.ficus_keeper.specs.declared.opened.Opened.{Opened}
use Rattle.ficus_stable_storage.specs.Leads.Chain.{LeadAll}
use Rattle.ficus_stable_storage.specs.Leads.Holds.{Holds, Leads}
use Rattle.ficus_image.specs.Image.{IsImageOf}
use Rattle.ficus_image.proofs.Images.{one_imaged}
use Rattle.ficus_record.specs.declared.fault.RecordFault.{RecordFault}
use Rattle.ficus_record.specs.declared.fault.RecordFault.TheVariants.{NotRecord, Unfit, Memory}
use Rattle.ficus_durable_state.specs.declared.saved.Saved.{Saved}
use Rattle.ficus_stable_storage.specs.Reading.{IsSpelledIn}

abbrev image_of : Option Kept → List ℕ
image_of None = []
image_of (Some kept) = kept.image

abbrev base_generation : Option Kept → ℕ
base_generation None = 0
base_generation (Some kept) = kept.generation

abbrev records_of : Option Kept → List (List ℕ)
records_of None = []
records_of (Some kept) = kept.records

-- it spells what that begins with
pub held_base : (opened : Opened) (saved : Saved) (holds : Holds (Some (kept_of opened)) saved) →
    IsSpelledIn opened holds.base
held_base opened saved holds = record {
  generation = ap base_generation holds.is;
  image = subst (λ (l : List ℕ). IsImageOf l holds.base) (sym (ap image_of holds.is)) holds.spelled;
}

module _ (opened : Opened) (base saved : Saved) (is : IsSpelledIn opened base)
    (holds : Holds (Some (kept_of opened)) saved) where
  same_base : holds.base ≡ base
  same_base = one_imaged holds.image holds.base base holds.spelled
      (subst (λ (l : List ℕ). IsImageOf l base) (ap image_of holds.is) is.image)

  -- whatever it holds, its records lead to it
  pub held_led : LeadAll Leads opened.records base saved
  held_led =
      subst (λ (rs : List (List ℕ)). LeadAll Leads rs base saved) (sym (ap records_of holds.is))
      (subst (λ (s : Saved). LeadAll Leads holds.records s saved) same_base holds.leads)

  -- so where they lead to nothing it holds nothing
  pub holds_nothing : (fault : RecordFault) → (fault ≡ Memory → ⊥)
      → (fault ≡ NotRecord → (end : Saved) → LeadAll Leads opened.records base end → ⊥)
      → (fault ≡ Unfit → (end : Saved) → LeadAll Leads opened.records base end → ⊥) → ⊥
  holds_nothing NotRecord memory not_record unfit = not_record refl saved held_led
  holds_nothing Unfit memory not_record unfit = unfit refl saved held_led
  holds_nothing Memory memory not_record unfit = memory refl
