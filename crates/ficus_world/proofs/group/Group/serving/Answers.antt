use Rattle.std.proofs.Common.{◌≡◌, refl, subst, ◌∙◌, arith}
use Rattle.ficus_world.specs.Moves.{HasRoomFor, IsServing, answers_of}
use Rattle.ficus_world.specs.Moves.ServesAsk.{NoRoomToServe, ServerDown}
use Rattle.ficus_formats.specs.Pieces.{piece_count}
use Rattle.ficus_wire.specs.Message.{sizes_of, way}
use Rattle.ficus_wire.specs.declared.message.PieceHead.{PieceHead}
use Rattle.ficus_world.proofs.Tests.{untrue}
use Rattle.ficus_world.proofs.Sending.{answers_may_go, answers_size, answers_spelled, few_pieces, fits_tables}
use Rattle.ficus_world.specs.World.{Whole}
use Rattle.ficus_world.proofs.group.Group.serving.Goals as goal

pub returns-then-not-is_up-clause-refused : goal.returns-then-not-is_up-clause-refused
returns-then-not-is_up-clause-refused g c = λ other.
    ServerDown c.member-peer.ensures.is (untrue c.is_up.result c.is_up.ensures c.if-not-is_up.true)

pub returns-then-not-has_room_for-clause-refused : goal.returns-then-not-has_room_for-clause-refused
returns-then-not-has_room_for-clause-refused g c = λ other.
    let old = c.args.self.now in
    let peer = c.member-peer.result.now in
    let serving : IsServing old c.args.came peer =
    record {
      is = c.member-peer.ensures.is;
      up = c.is_up.ensures.0 c.if-not-is_up.false;
      fits = fits_tables c.member-peer.ensures.sound.replica;
    } in
    let sized = answers_size old c.args.came peer c.member-peer.ensures.sound.replica.members c.in_ok-tables.tables.items
    c.in_ok-tables.ensures c.answer_size.result (rw c.deref.ensures.value at c.answer_size.ensures) in
    let full = subst (λ (w : Whole). HasRoomFor w c.answer_size.result → ⊥) c.self.view_is
    (untrue c.has_room_for.result c.has_room_for.ensures c.if-not-has_room_for.true) in
    NoRoomToServe serving (rw sized at full)

pub overflow_cast-head : goal.overflow_cast-head
overflow_cast-head g c =
    let tables = c.in_ok-tables.tables.items in
    let sized = rw c.deref.ensures.value at c.answer_size.ensures in
    let counted : c.piece_count.result ≡ piece_count tables = rw c.deref-2.ensures.value at c.piece_count.ensures in
    let few = few_pieces 0 0 0 0 tables
    (omega (arith, c.has_room_for.ensures.0 c.if-not-has_room_for.false, sized 0 0 0 0)) in
    omega (arith, counted, few)

pub returns-clause-serves : goal.returns-clause-serves
returns-clause-serves g c =
    let old = c.args.self.now in
    let peer = c.member-peer.result.now in
    let sound = c.member-peer.ensures.sound.replica in
    let tables = c.in_ok-tables.tables.items in
    let sized = answers_size old c.args.came peer sound.members tables c.in_ok-tables.ensures c.answer_size.result
    (rw c.deref.ensures.value at c.answer_size.ensures) in
    let room : HasRoomFor old (sizes_of (answers_of old c.args.came peer)) =
    rw sized at (subst (λ (w : Whole). HasRoomFor w c.answer_size.result) c.self.view_is
    (c.has_room_for.ensures.0 c.if-not-has_room_for.false)) in
    let head : PieceHead = record {
      route = way c.args.came.to c.args.came.from c.args.came.ask;
      state = peer.replica.saved.generation;
      pieces = c.piece_count.result;
      index = 0;
    } in
    let counted : c.piece_count.result ≡ piece_count tables = rw c.deref-2.ensures.value at c.piece_count.ensures in (
      peer,
      record {
        is = c.member-peer.ensures.is;
        up = c.is_up.ensures.0 c.if-not-is_up.false;
        fits = fits_tables sound;
      },
      refl,
      (rw c.deref-3.ensures.value at c.in_ok-messages.ensures)
          ∙ answers_spelled old c.args.came peer sound.members tables c.in_ok-tables.ensures head counted refl refl,
      room,
      answers_may_go old c.args.came peer sound.members tables c.in_ok-tables.ensures c.requires.route
          (omega (arith, sound.fits.generation)) room,
    )
