use Rattle.std.proofs.Common.{List, sym, ◌∙◌, subst, inl}
use Rattle.std.proofs.lemmas.Result.{err_from_is_err_and}
use Rattle.ficus_world.specs.World.{Backed}
use Rattle.ficus_top.specs.Graft.Runs.{ForeseeFew}
use Rattle.ficus_top.proofs.graft.Commands.{second_path}
use Rattle.ficus_top.proofs.graft.Lines.{first_halts, one_answers, one_halts, one_stays, parted_halts, pathless_cut, reached_as, second_halts, two_answers, two_stay, without_path}
use Rattle.ficus_top.proofs.graft.volumes.Volumes.answer.Goals as goal

pub returns-in_err-end-in-One-clause-halts : goal.returns-in_err-end-in-One-clause-halts
returns-in_err-end-in-One-clause-halts g c =
    let p = err_from_is_err_and c.from_residual-in_err-end-in-One.result c.from_residual-in_err-end-in-One.ensures.1 in
    let end = c.in_err-end-in-One.ensures in
    rw (p.1, p.2)
    (one_halts g.L.Link.tells _ (λ told. told.0) g.K.Keep g.D.Disk c.args.line.now c.args.self.now c.args.disks.now.items
    c.in-One.by c.in-One.course _ c.follow.new.self c.follow.new.disks.items c.in-One.ensures end.same end.same_disks
    end.halts)

pub returns-in_err-arrive-in-One-clause-grows : goal.returns-in_err-arrive-in-One-clause-grows
returns-in_err-arrive-in-One-clause-grows g c = λ limit room.
    c.in_err-arrive-in-One.ensures.grows limit
    (subst (λ (w : List (Backed _)). ForeseeFew limit w) (sym c.in_ok-end-in-One.ensures.same) room)

pub returns-in_err-end-in-Two-clause-halts : goal.returns-in_err-end-in-Two-clause-halts
returns-in_err-end-in-Two-clause-halts g c =
    let p = err_from_is_err_and c.from_residual-in_err-end-in-Two.result c.from_residual-in_err-end-in-Two.ensures.1 in
    let end = c.in_err-end-in-Two.ensures in
    rw (p.1, p.2)
    (first_halts g.L.Link.tells _ (λ told. told.0) g.K.Keep g.D.Disk c.args.line.now c.args.self.now
    c.args.disks.now.items c.in-Two.by c.in-Two.first c.in-Two.second _ c.follow-in-Two.new.self
    c.follow-in-Two.new.disks.items c.in-Two.ensures end.same end.same_disks end.halts)

pub follow-requires-in-Two-2-clause-path : goal.follow-requires-in-Two-2-clause-path
follow-requires-in-Two-2-clause-path g c =
    second_path c.args.line.now.command c.in-Two.by c.in-Two.first c.in-Two.second c.requires.command c.in-Two.ensures

pub returns-in_err-other-in-Two-clause-halts : goal.returns-in_err-other-in-Two-clause-halts
returns-in_err-other-in-Two-clause-halts g c =
    let p = err_from_is_err_and c.from_residual-in_err-other-in-Two.result c.from_residual-in_err-other-in-Two.ensures.1 in
    let end = c.in_ok-end-in-Two.ensures in
    let other = c.in_err-other-in-Two.ensures in
    rw (p.1, p.2)
    (second_halts g.L.Link.tells _ (λ told. told.0) g.K.Keep g.D.Disk c.args.line.now c.args.self.now
    c.args.disks.now.items c.in-Two.by c.in-Two.first c.in-Two.second c.in_ok-end-in-Two.end _ c.follow-in-Two.new.self
    c.follow-in-Two-2.new.self c.follow-in-Two.new.disks.items c.follow-in-Two-2.new.disks.items c.in-Two.ensures end.same
    end.same_disks other.same other.same_disks end.reaches other.halts)

pub returns-then-end-other-clause-halts : goal.returns-then-end-other-clause-halts
returns-then-end-other-clause-halts g c =
    let end = c.in_ok-end-in-Two.ensures in
    let other = c.in_ok-other-in-Two.ensures in
    parted_halts g.L.Link.tells _ (λ told. told.0) g.K.Keep g.D.Disk c.args.line.now c.args.self.now
    c.args.disks.now.items c.in-Two.by c.in-Two.first c.in-Two.second c.in_ok-end-in-Two.end c.in_ok-other-in-Two.other
    c.follow-in-Two-2.new.self c.follow-in-Two-2.new.disks.items c.in-Two.ensures (other.same ∙ end.same)
    (other.same_disks ∙ end.same_disks) end.reaches
    (reached_as g.L.Link.tells g.L.Link.tells (λ told. told) g.K.Keep g.D.Disk c.args.line.now c.args.self.now
    c.args.disks.now.items c.in-Two.by c.in-Two.second c.in_ok-other-in-Two.other c.follow-in-Two.new.self
    c.follow-in-Two.new.disks.items end.same end.same_disks other.reaches) c.if-end-other.true

pub returns-in_err-arrive-in-Two-clause-grows : goal.returns-in_err-arrive-in-Two-clause-grows
returns-in_err-arrive-in-Two-clause-grows g c = λ limit room.
    c.in_err-arrive-in-Two.ensures.grows limit
    (subst (λ (w : List (Backed _)). ForeseeFew limit w)
    (sym (c.in_ok-other-in-Two.ensures.same ∙ c.in_ok-end-in-Two.ensures.same)) room)

pub returns-in_ok-send-in-None-clause-answers : goal.returns-in_ok-send-in-None-clause-answers
returns-in_ok-send-in-None-clause-answers g c =
    without_path c.args.line.now c.args.self.now c.send.new.self c.args.disks.now.items c.send.new.disks.items _
    c.in-None.ensures c.in_ok-send-in-None.ensures.sends

pub returns-in_ok-arrive-in-One-clause-answers : goal.returns-in_ok-arrive-in-One-clause-answers
returns-in_ok-arrive-in-One-clause-answers g c =
    let end = c.in_ok-end-in-One.ensures in
    one_answers g.L.Link.tells _ (λ told. told.0) g.K.Keep g.D.Disk c.args.line.now c.args.self.now
    c.args.disks.now.items c.in-One.by c.in-One.course c.in_ok-end-in-One.end c.follow.new.self c.arrive.new.self
    c.follow.new.disks.items c.arrive.new.disks.items _ c.in-One.ensures end.same end.same_disks end.reaches
    c.in_ok-arrive-in-One.ensures.sends

pub returns-in_ok-arrive-in-One-clause-grows : goal.returns-in_ok-arrive-in-One-clause-grows
returns-in_ok-arrive-in-One-clause-grows g c = λ limit room.
    c.in_ok-arrive-in-One.ensures.grows limit
    (subst (λ (w : List (Backed _)). ForeseeFew limit w) (sym c.in_ok-end-in-One.ensures.same) room)

pub returns-in_ok-arrive-in-Two-clause-answers : goal.returns-in_ok-arrive-in-Two-clause-answers
returns-in_ok-arrive-in-Two-clause-answers g c =
    let end = c.in_ok-end-in-Two.ensures in
    let other = c.in_ok-other-in-Two.ensures in
    two_answers g.L.Link.tells _ (λ told. told.0) g.K.Keep g.D.Disk c.args.line.now c.args.self.now
    c.args.disks.now.items c.in-Two.by c.in-Two.first c.in-Two.second c.in_ok-end-in-Two.end c.in_ok-other-in-Two.other
    c.follow-in-Two-2.new.self c.arrive-in-Two.new.self c.follow-in-Two-2.new.disks.items c.arrive-in-Two.new.disks.items
    _ c.in-Two.ensures (other.same ∙ end.same) (other.same_disks ∙ end.same_disks) end.reaches
    (reached_as g.L.Link.tells g.L.Link.tells (λ told. told) g.K.Keep g.D.Disk c.args.line.now c.args.self.now
    c.args.disks.now.items c.in-Two.by c.in-Two.second c.in_ok-other-in-Two.other c.follow-in-Two.new.self
    c.follow-in-Two.new.disks.items end.same end.same_disks other.reaches) c.if-end-other.false
    c.in_ok-arrive-in-Two.ensures.sends

pub returns-in_ok-arrive-in-Two-clause-grows : goal.returns-in_ok-arrive-in-Two-clause-grows
returns-in_ok-arrive-in-Two-clause-grows g c = λ limit room.
    c.in_ok-arrive-in-Two.ensures.grows limit
    (subst (λ (w : List (Backed _)). ForeseeFew limit w)
    (sym (c.in_ok-other-in-Two.ensures.same ∙ c.in_ok-end-in-Two.ensures.same)) room)

pub returns-in_err-send-in-None-clause-stays : goal.returns-in_err-send-in-None-clause-stays
returns-in_err-send-in-None-clause-stays g c =
    let p = err_from_is_err_and c.from_residual.result c.from_residual.ensures.1 in
    rw p.1
    (pathless_cut c.args.line.now c.args.self.now c.send.new.self c.args.disks.now.items c.send.new.disks.items
    c.in-None.ensures c.in_err-send-in-None.ensures.memory)

pub returns-in_err-end-in-One-clause-stays : goal.returns-in_err-end-in-One-clause-stays
returns-in_err-end-in-One-clause-stays g c =
    let p = err_from_is_err_and c.from_residual-in_err-end-in-One.result c.from_residual-in_err-end-in-One.ensures.1 in
    let end = c.in_err-end-in-One.ensures in
    rw p.1 (inl (end.same, end.same_disks))

pub returns-in_err-arrive-in-One-clause-stays : goal.returns-in_err-arrive-in-One-clause-stays
returns-in_err-arrive-in-One-clause-stays g c =
    let p = err_from_is_err_and c.from_residual-in_err-arrive-in-One.result
    c.from_residual-in_err-arrive-in-One.ensures.1 in
    let end = c.in_ok-end-in-One.ensures in
    rw p.1
    (one_stays g.L.Link.tells g.L.Link.tells (λ told. told) g.K.Keep g.D.Disk c.args.line.now c.args.self.now
    c.args.disks.now.items c.in-One.by c.in-One.course c.in_ok-end-in-One.end c.follow.new.self c.arrive.new.self
    c.follow.new.disks.items c.arrive.new.disks.items c.in-One.ensures end.same end.same_disks end.reaches
    c.in_err-arrive-in-One.ensures.memory)

pub returns-in_err-end-in-Two-clause-stays : goal.returns-in_err-end-in-Two-clause-stays
returns-in_err-end-in-Two-clause-stays g c =
    let p = err_from_is_err_and c.from_residual-in_err-end-in-Two.result c.from_residual-in_err-end-in-Two.ensures.1 in
    let end = c.in_err-end-in-Two.ensures in
    rw p.1 (inl (end.same, end.same_disks))

pub returns-in_err-other-in-Two-clause-stays : goal.returns-in_err-other-in-Two-clause-stays
returns-in_err-other-in-Two-clause-stays g c =
    let p = err_from_is_err_and c.from_residual-in_err-other-in-Two.result
    c.from_residual-in_err-other-in-Two.ensures.1 in
    let end = c.in_ok-end-in-Two.ensures in
    let other = c.in_err-other-in-Two.ensures in
    rw p.1 (inl (other.same ∙ end.same, other.same_disks ∙ end.same_disks))

pub returns-then-end-other-clause-stays : goal.returns-then-end-other-clause-stays
returns-then-end-other-clause-stays g c =
    let end = c.in_ok-end-in-Two.ensures in
    let other = c.in_ok-other-in-Two.ensures in
    inl (other.same ∙ end.same, other.same_disks ∙ end.same_disks)

pub returns-in_err-arrive-in-Two-clause-stays : goal.returns-in_err-arrive-in-Two-clause-stays
returns-in_err-arrive-in-Two-clause-stays g c =
    let p = err_from_is_err_and c.from_residual-in_err-arrive-in-Two.result
    c.from_residual-in_err-arrive-in-Two.ensures.1 in
    let end = c.in_ok-end-in-Two.ensures in
    let other = c.in_ok-other-in-Two.ensures in
    rw p.1
    (two_stay g.L.Link.tells g.L.Link.tells (λ told. told) g.K.Keep g.D.Disk c.args.line.now c.args.self.now
    c.args.disks.now.items c.in-Two.by c.in-Two.first c.in-Two.second c.in_ok-end-in-Two.end c.in_ok-other-in-Two.other
    c.follow-in-Two-2.new.self c.arrive-in-Two.new.self c.follow-in-Two-2.new.disks.items c.arrive-in-Two.new.disks.items
    c.in-Two.ensures (other.same ∙ end.same) (other.same_disks ∙ end.same_disks) end.reaches
    (reached_as g.L.Link.tells g.L.Link.tells (λ told. told) g.K.Keep g.D.Disk c.args.line.now c.args.self.now
    c.args.disks.now.items c.in-Two.by c.in-Two.second c.in_ok-other-in-Two.other c.follow-in-Two.new.self
    c.follow-in-Two.new.disks.items end.same end.same_disks other.reaches) c.if-end-other.false
    c.in_err-arrive-in-Two.ensures.memory)
