-- Where bytes spell no record, by the byte in front and by what stands behind it.
use Rattle.std.proofs.Common.{◌≡◌, ℕ, List, ◌∷◌, ◌++◌, sym, subst, ◌∙◌}
use Rattle.ficus_formats.specs.Format.{Begins, Fails, Format, byte}
use Rattle.ficus_formats.specs.declared.fault.ReadFault.{ReadFault}
use Rattle.ficus_record.specs.Record.{record_body, record_format, record_tag, record_under}
use Rattle.ficus_record.specs.declared.record.Record.{Record}
use Rattle.ficus_record.proofs.Shapes.{IsShaped, fails_shaped}

-- where none of the parts begins the bytes behind this number, nothing of this number does
pub fails_at : {X Y : Type 0} (under : ℕ → Format X) (f : Format Y) (number tag : ℕ) → IsShaped (under number) f
    → tag ≡ number → (bytes : List ℕ) (fault : ReadFault) → Fails f bytes fault → Fails (under tag) bytes fault
fails_at under f number tag shaped is bytes fault fails =
    subst (λ (n : ℕ). Fails (under n) bytes fault) (sym is) (fails_shaped (under number) f shaped bytes fault fails)

-- the byte, and what stands behind it
pub fails_fields : (members tag : ℕ) (before mid : List ℕ) (fault : ReadFault) → Begins byte before tag mid
    → Fails (record_under members tag) mid fault → Fails (record_format members) before fault
fails_fields members tag before mid fault first fails = record {
  none = λ is noted rest begins.
      let whole : tag ∷ mid ≡ record_tag noted ∷ (record_body members noted ++ rest) = sym first.spelled ∙ begins.spelled in
      let tags : record_tag noted ≡ tag = cc in
      let bodies : mid ≡ record_body members noted ++ rest = cc in
      fails.none is noted rest (record { fits = record { tagged = tags; fits = begins.fits }; spelled = bodies });
}

pub begins_record : (members tag : ℕ) (before mid after : List ℕ) (noted : Record) → Begins byte before tag mid
    → Begins (record_under members tag) mid noted after → Begins (record_format members) before noted after
begins_record members tag before mid after noted first rest = record {
  fits = rest.fits.fits;
  spelled = first.spelled ∙ (λ i. ((sym rest.fits.tagged) i) ∷ (rest.spelled i));
}
