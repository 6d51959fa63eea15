use Rattle.ficus_formats.proofs.Reading.{passed}
use Rattle.ficus_record.specs.Record.{adopting, linking, making, moving, op_under, removing, symlinking, writing}
use Rattle.ficus_record.proofs.Reading.{fails_at}
use Rattle.ficus_record.proofs.Shapes.{make_shaped, symlink_shaped, link_shaped, remove_shaped, move_shaped, write_shaped, settle_shaped, resolve_shaped, adopt_shaped}
use Rattle.ficus_record.proofs.decoding.read_op.Goals as goal

pub returns-in_err-dir-in-1 : goal.returns-in_err-dir-in-1
returns-in_err-dir-in-1 c =
    passed (op_under c.args.tag) _ _ _ _ c.from_residual.ensures.1
    (fails_at op_under making 1 c.args.tag make_shaped c.in-1.is _ _ c.in_err-dir-in-1.ensures)

pub returns-in_err-dir-in-2 : goal.returns-in_err-dir-in-2
returns-in_err-dir-in-2 c =
    passed (op_under c.args.tag) _ _ _ _ c.from_residual-in_err-dir-in-2.ensures.1
    (fails_at op_under linking 2 c.args.tag link_shaped c.in-2.is _ _ c.in_err-dir-in-2.ensures)

pub returns-in_err-target-in-3 : goal.returns-in_err-target-in-3
returns-in_err-target-in-3 c =
    passed (op_under c.args.tag) _ _ _ _ c.from_residual-in_err-target-in-3.ensures.1
    (fails_at op_under removing 3 c.args.tag remove_shaped c.in-3.is _ _ c.in_err-target-in-3.ensures)

pub returns-in_err-target-in-4 : goal.returns-in_err-target-in-4
returns-in_err-target-in-4 c =
    passed (op_under c.args.tag) _ _ _ _ c.from_residual-in_err-target-in-4.ensures.1
    (fails_at op_under moving 4 c.args.tag move_shaped c.in-4.is _ _ c.in_err-target-in-4.ensures)

pub returns-in_err-file-in-5 : goal.returns-in_err-file-in-5
returns-in_err-file-in-5 c =
    passed (op_under c.args.tag) _ _ _ _ c.from_residual-in_err-file-in-5.ensures.1
    (fails_at op_under writing 5 c.args.tag write_shaped c.in-5.is _ _ c.in_err-file-in-5.ensures)

pub returns-in_err-file-in-6 : goal.returns-in_err-file-in-6
returns-in_err-file-in-6 c =
    passed (op_under c.args.tag) _ _ _ _ c.from_residual-in_err-file-in-6.ensures.1
    (fails_at op_under writing 6 c.args.tag settle_shaped c.in-6.is _ _ c.in_err-file-in-6.ensures)

pub returns-in_err-file-in-7 : goal.returns-in_err-file-in-7
returns-in_err-file-in-7 c =
    passed (op_under c.args.tag) _ _ _ _ c.from_residual-in_err-file-in-7.ensures.1
    (fails_at op_under writing 7 c.args.tag resolve_shaped c.in-7.is _ _ c.in_err-file-in-7.ensures)

pub returns-in_err-file-in-8 : goal.returns-in_err-file-in-8
returns-in_err-file-in-8 c =
    passed (op_under c.args.tag) _ _ _ _ c.from_residual-in_err-file-in-8.ensures.1
    (fails_at op_under adopting 8 c.args.tag adopt_shaped c.in-8.is _ _ c.in_err-file-in-8.ensures)

pub returns-in_err-dir-in-13 : goal.returns-in_err-dir-in-13
returns-in_err-dir-in-13 c =
    passed (op_under c.args.tag) _ _ _ _ c.from_residual-in_err-dir-in-13.ensures.1
    (fails_at op_under symlinking 13 c.args.tag symlink_shaped c.in-13.is _ _ c.in_err-dir-in-13.ensures)
