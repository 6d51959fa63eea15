-- How far records have been applied, one after the other.
use Rattle.std.proofs.Common.{◌≡◌, ℕ, List, [], ◌∷◌, ◌++◌, Result, Err, refl, sym, ap, ◌∙◌, subst, append_assoc}
use Rattle.std.specs.Prelude.{IsErrOf}
use Rattle.std.proofs.lemmas.List.{append-nil}
use Rattle.ficus_stable_storage.specs.Leads.Chain.{LeadAll}
use Rattle.ficus_stable_storage.specs.Leads.Holds.{Leads}
use Rattle.ficus_stable_storage.proofs.leads.Led.{OneLed, all_led_once, led_on}
use Rattle.ficus_record.specs.Record.{FitsRecord, record_bytes}
use Rattle.ficus_record.specs.declared.fault.RecordFault.{RecordFault}
use Rattle.ficus_record.specs.declared.record.Record.{Record}
use Rattle.ficus_record.proofs.Unique.{unique-record}
use Rattle.ficus_replica.specs.Makes.{IsFit}
use Rattle.ficus_durable_state.specs.Saved.{FitsImage}
use Rattle.ficus_durable_state.specs.declared.saved.Saved.{Saved}

-- the records but for those that are left lead to this
pub record IsLedTo (records : List (List ℕ)) (base now : Saved) (left : List (List ℕ)) : Type 0 where
  pub done : List (List ℕ)
  pub is : records ≡ done ++ left
  pub leads : LeadAll Leads done base now
  pub fits : FitsImage now

pub none_led : (records : List (List ℕ)) (base : Saved) → FitsImage base → IsLedTo records base base records
none_led records base fits = record { done = []; is = refl; leads = refl; fits = fits }

pub one_more_led : (records : List (List ℕ)) (base now next : Saved) (body : List ℕ) (left : List (List ℕ))
    → IsLedTo records base now (body ∷ left) → Leads body now next → IsLedTo records base next left
one_more_led records base now next body left so_far leads = record {
  done = so_far.done ++ body ∷ [];
  is = so_far.is ∙ sym (append_assoc so_far.done (body ∷ []) left);
  leads = led_on so_far.done body base now next so_far.leads leads;
  fits = leads.step.fits;
}

pub all_led : (records : List (List ℕ)) (base now : Saved) → IsLedTo records base now [] → LeadAll Leads records base now
all_led records base now so_far =
    subst (λ (l : List (List ℕ)). LeadAll Leads l base now) (sym (so_far.is ∙ append-nil so_far.done)) so_far.leads

-- between some and those behind them something is saved
split : (done left : List (List ℕ)) (base end : Saved) → LeadAll Leads (done ++ left) base end
    → (mid : Saved) × LeadAll Leads done base mid × LeadAll Leads left mid end
split [] left base end leads = (base, refl, leads)
split (body ∷ done) left base end (next, step, on) =
    let rest = split done left next end on in
    (rest.0, (next, step, rest.1), rest.2)

-- whatever all of them lead to, the next one leads on from where they have come
pub next_leads : OneLed → (records : List (List ℕ)) (base now end : Saved) (body : List ℕ) (left : List (List ℕ))
    → FitsImage base → IsLedTo records base now (body ∷ left) → LeadAll Leads records base end
    → (next : Saved) × Leads body now next
next_leads led records base now end body left fits so_far leads =
    let parts = split so_far.done (body ∷ left) base end
    (subst (λ (l : List (List ℕ)). LeadAll Leads l base end) so_far.is leads) in
    let same : parts.0 ≡ now = all_led_once led so_far.done base parts.0 now fits parts.1 so_far.leads in
    (parts.2.0, subst (λ (s : Saved). Leads body s parts.2.0) same parts.2.1)

-- where bytes lead on, the record that they spell fits
pub led_fit : (body : List ℕ) (old next : Saved) (noted : Record) → FitsImage old → FitsRecord old.members noted
    → body ≡ record_bytes old.members noted → Leads body old next → IsFit old noted
led_fit body old next noted fits spelled is leads =
    let same : leads.noted ≡ noted = ((unique-record old.members fits.members).one leads.noted noted [] []
    leads.step.spelled spelled (ap (λ (l : List ℕ). l ++ []) (sym leads.is ∙ is))).0 in
    subst (IsFit old) same leads.step.fit

-- a fault is the same, whatever would have come in its place
pub same_fault : {A B : Type 0} (fault other : RecordFault) → (let one : Result A RecordFault = Err fault in IsErrOf one other)
    → (let two : Result B RecordFault = Err fault in IsErrOf two other)
same_fault fault other is = let same : fault ≡ other = cc in ap (λ (f : RecordFault). Err f) same
