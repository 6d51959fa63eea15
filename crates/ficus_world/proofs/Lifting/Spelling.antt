-- No message has the spelling of another.
use Rattle.std.proofs.Common.{◌≡◌, ℕ, List, [], ◌++◌, refl, ap, ap₂, arith}
use Rattle.ficus_formats.specs.Format.{IsUnique, byte, number32, number64, ◌then◌}
use Rattle.ficus_formats.specs.Unique.{unique-byte, unique-number32, unique-number64, unique-then, unique-shaped}
use Rattle.ficus_wire.specs.declared.message.Message.{Message}
use Rattle.ficus_wire.specs.declared.message.Message.TheVariants.{Ask, Piece}
use Rattle.ficus_wire.specs.declared.message.PieceHead.{PieceHead}
use Rattle.ficus_wire.specs.declared.message.Route.{Route}
use Rattle.ficus_wire.specs.Message.{IsHead, FitsMessage, head_fields, head_of, head_parts, message_bytes, piece_of, route_fields, route_parts, way}

unique-route : IsUnique route_fields
unique-route = unique-shaped route_parts (byte then byte then number64)
    (λ p. record { from = p.0; to = p.1.0; number = p.1.1 }) (λ w. refl)
    (unique-then byte (byte then number64) unique-byte (unique-then byte number64 unique-byte unique-number64))

unique-head : IsUnique head_fields
unique-head = unique-shaped head_parts (route_fields then number64 then number32 then number32)
    (λ p. record { route = p.0; state = p.1.0; pieces = p.1.1.0; index = p.1.1.1 }) (λ h. refl)
    (unique-then route_fields (number64 then number32 then number32) unique-route
    (unique-then number64 (number32 then number32) unique-number64
    (unique-then number32 number32 unique-number32 unique-number32)))

head_narrows : (members : ℕ) (h : PieceHead) → IsHead members h → head_fields.fits h
head_narrows members h fits =
    ((tt, (tt, fits.route.number)), (fits.state, (omega (arith, fits.index, fits.most), omega (arith, fits.index, fits.most))))

one_ask : (w v : Route) → route_fields.fits w → route_fields.fits v → route_fields.spell w ≡ route_fields.spell v
    → w ≡ v
one_ask w v fits also same =
    (unique-route.one w v [] [] fits also (ap (λ (bytes : List ℕ). bytes ++ []) same)).0

pub one_message : (members : ℕ) (m n : Message) → FitsMessage members m → FitsMessage members n
    → message_bytes m ≡ message_bytes n → m ≡ n
one_message members (Ask from to number) (Ask f t k) fits also same =
    let behind : route_fields.spell (way from to number) ≡ route_fields.spell (way f t k) = cc in
    ap (λ (w : Route). Ask w.from w.to w.number)
    (one_ask (way from to number) (way f t k) (tt, (tt, fits.number)) (tt, (tt, also.number)) behind)
one_message members (Ask from to number) (Piece f t k state pieces index bytes) fits also same =
    let kinds : ◌≡◌ {A = ℕ} 1 3 = cc in absurd (omega (arith, kinds))
one_message members (Piece from to number state pieces index bytes) (Ask f t k) fits also same =
    let kinds : ◌≡◌ {A = ℕ} 3 1 = cc in absurd (omega (arith, kinds))
one_message members (Piece from to number state pieces index bytes) (Piece f t k s p i other) fits also same =
    let one = head_of from to number state pieces index in
    let two = head_of f t k s p i in
    let behind : head_fields.spell one ++ bytes ≡ head_fields.spell two ++ other = cc in
    let parts = unique-head.one one two bytes other (head_narrows members one fits.head)
    (head_narrows members two also.head) behind in
    ap₂ (λ (h : PieceHead) (piece : List ℕ). piece_of h piece) parts.0 parts.1
