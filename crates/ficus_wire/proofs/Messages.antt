-- Where bytes spell no message.
use Rattle.std.specs.Prelude.{◌≡◌, ℕ, ◌<◌, ◌≤◌, List, ◌∷◌}
use Rattle.std.proofs.Common.{refl, sym, ◌∙◌, arith}
use Rattle.ficus_formats.specs.declared.fault.ReadFault.{ReadFault}
use Rattle.ficus_formats.specs.declared.fault.ReadFault.TheVariants.{Unspelled}
use Rattle.ficus_formats.specs.Format.{IsUnique, Begins, Fails, Spells, byte, number32, number64, ◌then◌}
use Rattle.ficus_formats.specs.Unique.{unique-byte, unique-number32, unique-number64, unique-then, unique-shaped}
use Rattle.ficus_formats.proofs.Reading.{fails-unmet}
use Rattle.ficus_wire.specs.declared.message.Message.{Message}
use Rattle.ficus_wire.specs.declared.message.Message.TheVariants.{Ask, Piece}
use Rattle.ficus_wire.specs.declared.message.PieceHead.{PieceHead}
use Rattle.ficus_wire.specs.declared.message.Route.{Route}
use Rattle.ficus_wire.specs.Message.{IsHead, FitsMessage, head, head_fields, head_of, head_parts, message_bytes, piece, piece_limit, route, route_fields, route_parts, way}

unique-route_fields : IsUnique route_fields
unique-route_fields = unique-shaped route_parts (byte then byte then number64)
    (λ p. record { from = p.0; to = p.1.0; number = p.1.1 }) (λ w. refl)
    (unique-then byte (byte then number64) unique-byte (unique-then byte number64 unique-byte unique-number64))

unique-head_fields : IsUnique head_fields
unique-head_fields = unique-shaped head_parts (route_fields then number64 then number32 then number32)
    (λ p. record { route = p.0; state = p.1.0; pieces = p.1.1.0; index = p.1.1.1 }) (λ h. refl)
    (unique-then route_fields (number64 then number32 then number32) unique-route_fields
    (unique-then number64 (number32 then number32) unique-number64
    (unique-then number32 number32 unique-number32 unique-number32)))

head_narrows : (members : ℕ) (h : PieceHead) → IsHead members h → head_fields.fits h
head_narrows members h fits =
    ((tt, (tt, fits.route.number)), (fits.state, (omega (arith, fits.index, fits.most), omega (arith, fits.index, fits.most))))

-- the place isn't one
pub misplaced : (members state pieces index : ℕ) (w : Route) (before one two three after : List ℕ) →
    Begins (route members) before w one → Begins number64 one state two → Begins number32 two pieces three →
    Begins number32 three index after → (index < pieces → pieces ≤ piece_limit → ⊥) →
    Fails (head members) before Unspelled
misplaced members state pieces index w before one two three after a b c d outside =
    let h : PieceHead = record { route = w; state = state; pieces = pieces; index = index } in
    fails-unmet (IsHead members) head_fields (head_narrows members) h before after Unspelled unique-head_fields
    (record {
      fits = ((tt, (tt, a.fits.number)), (b.fits, (c.fits, d.fits)));
      spelled = search (a.spelled, b.spelled, c.spelled, d.spelled);
    })
    (λ fits. outside fits.index fits.most)

-- no piece is spelled where nothing begins that may stand in front of one
pub headless : (members : ℕ) (before : List ℕ) (fault : ReadFault) → Fails (head members) before fault →
    fault ≡ Unspelled → (p : PieceHead × List ℕ) → Spells (piece members) p before → ⊥
headless members before fault fails is p spells =
    fails.none is p.0 p.1 (record { fits = spells.fits.head; spelled = spells.is })

behind_tags : (a b c d : ℕ) (xs ys : List ℕ) → a ∷ b ∷ xs ≡ c ∷ d ∷ ys → (b ≡ d) × (xs ≡ ys)
behind_tags a b c d xs ys same = (cc, cc)

-- no message is spelled where nothing of its kind stands behind the kind
module _ (members kind : ℕ) (bytes rest : List ℕ) (split : bytes ≡ 2 ∷ kind ∷ rest) where
  pub no_ask : kind ≡ 1 → ((w : Route) → Spells (route members) w rest → ⊥) → (m : Message) → FitsMessage members m →
      bytes ≡ message_bytes m → ⊥
  no_ask is none (Ask from to number) fits spelled =
      none (way from to number) (record { fits = fits; is = (behind_tags 2 kind 2 1 _ _ (sym split ∙ spelled)).1 })
  no_ask is none (Piece from to number state pieces index piece) fits spelled =
      absurd (omega (arith, is, (behind_tags 2 kind 2 3 _ _ (sym split ∙ spelled)).0))

  pub no_piece : kind ≡ 3 → ((p : PieceHead × List ℕ) → Spells (piece members) p rest → ⊥) → (m : Message) →
      FitsMessage members m → bytes ≡ message_bytes m → ⊥
  no_piece is none (Ask from to number) fits spelled =
      absurd (omega (arith, is, (behind_tags 2 kind 2 1 _ _ (sym split ∙ spelled)).0))
  no_piece is none (Piece from to number state pieces index bytes) fits spelled =
      none (head_of from to number state pieces index, bytes)
      (record { fits = fits; is = (behind_tags 2 kind 2 3 _ _ (sym split ∙ spelled)).1 })
