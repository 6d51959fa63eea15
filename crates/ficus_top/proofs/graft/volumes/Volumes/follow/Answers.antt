use Rattle.std.proofs.Common.{[], ◌∷◌, ◌++◌, refl, ◌∙◌, ap}
use Rattle.std.proofs.lemmas.Result.{err_from_is_err_and}
use Rattle.ficus_path.specs.Path.{path_from}
use Rattle.ficus_top.specs.Graft.Following.{course_path}
use Rattle.ficus_top.proofs.graft.Commands.{part_path}
use Rattle.ficus_top.proofs.graft.Leading.{arrives, first_as, goes_on_so, halts_so, looked_at, plain_as, sets_out, slice_is}
use Rattle.ficus_top.proofs.graft.volumes.Volumes.follow.Goals as goal

pub loop-crossing-init : goal.loop-crossing-init
loop-crossing-init g c = record {
  same = refl;
  same_disks = refl;
  underway = sets_out g.L.Link.tells g.K.Keep g.D.Disk c.args.by c.args.volume c.args.course.now c.args.self.now
      c.args.disks.now.items c.requires.volume;
}

pub look-requires-clause-path : goal.look-requires-clause-path
look-requires-clause-path g c =
    rw c.base_behind-base.ensures
    (part_path _ c.loop-crossing.end.passed (course_path c.args.course.now) c.requires.path)

pub returns-in_err-look-clause-halts : goal.returns-in_err-look-clause-halts
returns-in_err-look-clause-halts g c =
    let course = c.args.course.now in
    let end = c.loop-crossing.end in
    let at = c.loop-crossing.invariant.underway in
    let first = first_as c.count-count.ensures (slice_is course end.passed at.within) c.in-Some.ensures.found in
    let path = ap (path_from c.base_behind-base.result)
    (looked_at _ course end.passed c.in-Some.crossing.place c.in-Some.crossing.volume first at.within c.requires.most) in
    let p = err_from_is_err_and c.from_residual.result c.from_residual.ensures.1 in
    rw (p.1, p.2)
    (halts_so g.L.Link.tells g.K.Keep g.D.Disk c.args.by c.args.volume course c.args.self.now c.args.disks.now.items end at
    c.in-Some.crossing.place c.in-Some.crossing.volume first _ c.loop-crossing.self c.loop-crossing.disks.items
    (path ∙ ap (λ b. path_from b (first.before ++ first.crossing ∷ [])) c.base_behind-base.ensures)
    c.loop-crossing.invariant.same c.loop-crossing.invariant.same_disks _ c.in_err-look.ensures.refused)

pub loop-crossing-preserved : goal.loop-crossing-preserved
loop-crossing-preserved g c =
    let course = c.args.course.now in
    let end = c.loop-crossing.end in
    let at = c.loop-crossing.invariant.underway in
    let first = first_as c.count-count.ensures (slice_is course end.passed at.within) c.in-Some.ensures.found in
    let path = ap (path_from c.base_behind-base.result)
    (looked_at _ course end.passed c.in-Some.crossing.place c.in-Some.crossing.volume first at.within c.requires.most) in
    record {
      same = c.in_ok-look.ensures.same ∙ c.loop-crossing.invariant.same;
      same_disks = c.in_ok-look.ensures.same_disks ∙ c.loop-crossing.invariant.same_disks;
      underway = goes_on_so g.L.Link.tells g.K.Keep g.D.Disk c.args.by c.args.volume course c.args.self.now
          c.args.disks.now.items end at c.in-Some.crossing.place c.in-Some.crossing.volume first _ c.loop-crossing.self
          c.loop-crossing.disks.items
          (path ∙ ap (λ b. path_from b (first.before ++ first.crossing ∷ [])) c.base_behind-base.ensures)
          c.loop-crossing.invariant.same c.loop-crossing.invariant.same_disks c.requires.most
          c.in_ok-look.ensures.passes;
    }

pub returns-clause-reaches : goal.returns-clause-reaches
returns-clause-reaches g c =
    let course = c.args.course.now in
    let end = c.loop-crossing.end in
    let at = c.loop-crossing.invariant.underway in
    arrives g.L.Link.tells g.K.Keep g.D.Disk c.args.by c.args.volume course c.args.self.now c.args.disks.now.items end at
    c.requires.most
    (plain_as c.count-count.ensures (slice_is course end.passed at.within) c.in_default.ensures.none)
