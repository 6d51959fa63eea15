use Rattle.std.proofs.Common.{◌≡◌, ◌<◌, subst, ℕ, List, length, Ok, ap, ◌∙◌}
use Rattle.std.proofs.lemmas.Result.{err_from_is_err_and}
use Rattle.ficus_machine.specs.Machine.{MachineState}
use Rattle.ficus_machine.proofs.ServedAsks.{ask_behind, ask_posted, ask_refused, ask_served, ask_stops, ask_unheard, ask_unput, ask_unserved, ask_up, ask_works, ask_works_put, is_heard, works_unheard}
use Rattle.ficus_machine.proofs.machine.Machine.serve.Goals as goal

pub returns-in-Err : goal.returns-in-Err
returns-in-Err g c =
    record {
      goes =
          ask_unheard g.K.Keep g.D.Disk g.M.Mailbox c.args.way c.args.self.now _ c.hear.new.self c.args.disks.now.items
          c.args.mailbox.now c.args.spelled.items c.in-Err.refusal c.unheard.result c.self.view_is c.requires.spelled
          c.requires.backed c.in-Err.ensures.refused c.hear.ensures.rest c.hear.ensures.stables c.unheard.ensures;
      works = λ noted opened.
          works_unheard g.K.Keep g.D.Disk c.args.self.now _ c.hear.new.self c.args.disks.now.items c.self.view_is
          c.hear.ensures.rest noted;
    }

pub returns-in_err-refusal : goal.returns-in_err-refusal
returns-in_err-refusal g c =
    let heard =
    is_heard g.M.Mailbox c.args.way c.args.self.now _ c.hear.new.self c.args.mailbox.now c.in-Ok.mail
    c.args.spelled.items c.self.view_is c.requires.spelled c.requires.to c.requires.fits c.in-Ok.ensures.heard
    c.hear.ensures.rest c.requires.came in
    let given = err_from_is_err_and c.from_residual.result c.from_residual.ensures.1 in
    rw (given.1, given.2)
    (record {
      goes =
          ask_stops g.K.Keep g.D.Disk g.M.Mailbox c.args.way c.args.self.now _ c.args.disks.now.items c.args.mailbox.now c.in-Ok.mail
          heard c.act.new.self c.act.new.disks.items c.act.result c.in_err-refusal.field-0.0 c.in_err-refusal.was c.act.ensures.acts;
      works = λ noted opened.
          ask_works g.K.Keep g.D.Disk g.M.Mailbox c.args.way c.args.self.now _ c.args.disks.now.items
          c.args.mailbox.now c.in-Ok.mail heard c.act.new.self c.act.new.disks.items c.act.result c.act.ensures.acts
          c.act.ensures.passes noted opened;
    })

pub returns-in-Refused : goal.returns-in-Refused
returns-in-Refused g c =
    let heard =
    is_heard g.M.Mailbox c.args.way c.args.self.now _ c.hear.new.self c.args.mailbox.now c.in-Ok.mail
    c.args.spelled.items c.self.view_is c.requires.spelled c.requires.to c.requires.fits c.in-Ok.ensures.heard
    c.hear.ensures.rest c.requires.came in
    record {
      goes =
          ask_refused g.K.Keep g.D.Disk g.M.Mailbox c.args.way c.args.self.now _ c.args.disks.now.items c.args.mailbox.now c.in-Ok.mail
          heard c.act.new.self c.act.new.disks.items c.act.result c.in_ok-refusal.field-0 c.in-Refused.refusal c.refused.result
          c.in_ok-refusal.was c.in-Refused.is c.refused.ensures c.act.ensures.acts;
      works = λ noted opened.
          ask_works g.K.Keep g.D.Disk g.M.Mailbox c.args.way c.args.self.now _ c.args.disks.now.items
          c.args.mailbox.now c.in-Ok.mail heard c.act.new.self c.act.new.disks.items c.act.result c.act.ensures.acts
          c.act.ensures.passes noted opened;
    }

pub generation-state-requires : goal.generation-state-requires
generation-state-requires g c =
    let heard =
    is_heard g.M.Mailbox c.args.way c.args.self.now _ c.hear.new.self c.args.mailbox.now c.in-Ok.mail
    c.args.spelled.items c.self.view_is c.requires.spelled c.requires.to c.requires.fits c.in-Ok.ensures.heard
    c.hear.ensures.rest c.requires.came in
    record {
      up = ask_up g.K.Keep g.D.Disk g.M.Mailbox c.args.way c.args.self.now _ c.args.disks.now.items c.args.mailbox.now c.in-Ok.mail
          heard c.act.new.self c.act.new.disks.items c.act.result c.in_ok-refusal.field-0 c.in_ok-refusal.was
          c.act.ensures.acts c.in_default.not-Refused;
    }

pub overflow_sub-pieces : goal.overflow_sub-pieces
overflow_sub-pieces g c =
    let heard =
    is_heard g.M.Mailbox c.args.way c.args.self.now _ c.hear.new.self c.args.mailbox.now c.in-Ok.mail
    c.args.spelled.items c.self.view_is c.requires.spelled c.requires.to c.requires.fits c.in-Ok.ensures.heard
    c.hear.ensures.rest c.requires.came in
    ask_behind g.K.Keep g.D.Disk g.M.Mailbox c.args.way c.args.self.now _ c.args.disks.now.items c.args.mailbox.now c.in-Ok.mail
    heard c.act.new.self c.act.new.disks.items c.act.result c.in_ok-refusal.field-0 c.in_ok-refusal.was
    c.act.ensures.acts c.in_default.not-Refused c.count-count.result
    (c.count-count.ensures ∙ ap (λ (list : List (List ℕ)). length list) c.link.ensures.posts
    ∙ ap (λ (m : MachineState g.row.K.Denot). length m.world.whole.post.posts) c.self-2.view_is)

pub put_pieces-requires : goal.put_pieces-requires
put_pieces-requires g c =
    let heard =
    is_heard g.M.Mailbox c.args.way c.args.self.now _ c.hear.new.self c.args.mailbox.now c.in-Ok.mail
    c.args.spelled.items c.self.view_is c.requires.spelled c.requires.to c.requires.fits c.in-Ok.ensures.heard
    c.hear.ensures.rest c.requires.came in
    let counted : c.count-count.result ≡ length c.act.new.self.world.whole.post.posts =
    c.count-count.ensures ∙ ap (λ (list : List (List ℕ)). length list) c.link.ensures.posts
    ∙ ap (λ (m : MachineState g.row.K.Denot). length m.world.whole.post.posts) c.self-2.view_is in
    record {
      few = subst (λ n. n < 4294967296) counted c.count-count.type_inv;
      posted = ask_posted g.K.Keep g.D.Disk g.M.Mailbox c.args.way c.args.self.now _ c.args.disks.now.items c.args.mailbox.now c.in-Ok.mail
          heard c.act.new.self c.act.new.disks.items c.act.result c.in_ok-refusal.field-0 c.in_ok-refusal.was
          c.act.ensures.acts c.in_default.not-Refused c.count-count.result
          (c.count-count.ensures ∙ ap (λ (list : List (List ℕ)). length list) c.link.ensures.posts
          ∙ ap (λ (m : MachineState g.row.K.Denot). length m.world.whole.post.posts) c.self-2.view_is) c.generation-state.result c.generation-state.ensures;
    }

pub returns-in_err-are_put : goal.returns-in_err-are_put
returns-in_err-are_put g c =
    let heard =
    is_heard g.M.Mailbox c.args.way c.args.self.now _ c.hear.new.self c.args.mailbox.now c.in-Ok.mail
    c.args.spelled.items c.self.view_is c.requires.spelled c.requires.to c.requires.fits c.in-Ok.ensures.heard
    c.hear.ensures.rest c.requires.came in
    let given = err_from_is_err_and c.from_residual-in_err-are_put.result c.from_residual-in_err-are_put.ensures.1 in
    rw (given.1, given.2)
    (record {
      goes =
          ask_unput g.K.Keep g.D.Disk g.M.Mailbox c.args.way c.args.self.now _ c.args.disks.now.items c.args.mailbox.now c.in-Ok.mail
          heard c.act.new.self c.act.new.disks.items c.act.result c.in_ok-refusal.field-0 c.in_ok-refusal.was
          c.act.ensures.acts c.in_default.not-Refused c.count-count.result
          (c.count-count.ensures ∙ ap (λ (list : List (List ℕ)). length list) c.link.ensures.posts
          ∙ ap (λ (m : MachineState g.row.K.Denot). length m.world.whole.post.posts) c.self-2.view_is) c.generation-state.result c.generation-state.ensures
          c.put_pieces.new.self c.put_pieces.new.mailbox c.put_pieces.result c.put_pieces.ensures.puts
          c.put_pieces.ensures.fetches c.in_err-are_put.field-0.0 c.in_err-are_put.was;
      works = λ noted opened.
          ask_works_put g.K.Keep g.D.Disk g.M.Mailbox c.args.way c.args.self.now _ c.args.disks.now.items
          c.args.mailbox.now c.in-Ok.mail heard c.act.new.self c.act.new.disks.items c.put_pieces.new.self noted
          (ask_works g.K.Keep g.D.Disk g.M.Mailbox c.args.way c.args.self.now _ c.args.disks.now.items
          c.args.mailbox.now c.in-Ok.mail heard c.act.new.self c.act.new.disks.items c.act.result c.act.ensures.acts
          c.act.ensures.passes noted opened)
          c.put_pieces.ensures.fetches;
    })

pub returns-then-are_put : goal.returns-then-are_put
returns-then-are_put g c =
    let heard =
    is_heard g.M.Mailbox c.args.way c.args.self.now _ c.hear.new.self c.args.mailbox.now c.in-Ok.mail
    c.args.spelled.items c.self.view_is c.requires.spelled c.requires.to c.requires.fits c.in-Ok.ensures.heard
    c.hear.ensures.rest c.requires.came in
    record {
      goes =
          ask_served g.K.Keep g.D.Disk g.M.Mailbox c.args.way c.args.self.now _ c.args.disks.now.items c.args.mailbox.now c.in-Ok.mail
          heard c.act.new.self c.act.new.disks.items c.act.result c.in_ok-refusal.field-0 c.in_ok-refusal.was
          c.act.ensures.acts c.in_default.not-Refused c.count-count.result
          (c.count-count.ensures ∙ ap (λ (list : List (List ℕ)). length list) c.link.ensures.posts
          ∙ ap (λ (m : MachineState g.row.K.Denot). length m.world.whole.post.posts) c.self-2.view_is) c.generation-state.result c.generation-state.ensures
          c.put_pieces.new.self c.put_pieces.new.mailbox c.put_pieces.result c.put_pieces.ensures.puts
          c.put_pieces.ensures.fetches (c.in_ok-are_put.was ∙ ap Ok c.if-are_put.true);
      works = λ noted opened.
          ask_works_put g.K.Keep g.D.Disk g.M.Mailbox c.args.way c.args.self.now _ c.args.disks.now.items
          c.args.mailbox.now c.in-Ok.mail heard c.act.new.self c.act.new.disks.items c.put_pieces.new.self noted
          (ask_works g.K.Keep g.D.Disk g.M.Mailbox c.args.way c.args.self.now _ c.args.disks.now.items
          c.args.mailbox.now c.in-Ok.mail heard c.act.new.self c.act.new.disks.items c.act.result c.act.ensures.acts
          c.act.ensures.passes noted opened)
          c.put_pieces.ensures.fetches;
    }

pub returns-else-are_put : goal.returns-else-are_put
returns-else-are_put g c =
    let heard =
    is_heard g.M.Mailbox c.args.way c.args.self.now _ c.hear.new.self c.args.mailbox.now c.in-Ok.mail
    c.args.spelled.items c.self.view_is c.requires.spelled c.requires.to c.requires.fits c.in-Ok.ensures.heard
    c.hear.ensures.rest c.requires.came in
    record {
      goes =
          ask_unserved g.K.Keep g.D.Disk g.M.Mailbox c.args.way c.args.self.now _ c.args.disks.now.items c.args.mailbox.now c.in-Ok.mail
          heard c.act.new.self c.act.new.disks.items c.act.result c.in_ok-refusal.field-0 c.in_ok-refusal.was
          c.act.ensures.acts c.in_default.not-Refused c.count-count.result
          (c.count-count.ensures ∙ ap (λ (list : List (List ℕ)). length list) c.link.ensures.posts
          ∙ ap (λ (m : MachineState g.row.K.Denot). length m.world.whole.post.posts) c.self-2.view_is) c.generation-state.result c.generation-state.ensures
          c.put_pieces.new.self c.put_pieces.new.mailbox c.put_pieces.result c.put_pieces.ensures.puts
          c.put_pieces.ensures.fetches (c.in_ok-are_put.was ∙ ap Ok c.if-are_put.false) c.refused-else-are_put.result
          c.refused-else-are_put.ensures;
      works = λ noted opened.
          ask_works_put g.K.Keep g.D.Disk g.M.Mailbox c.args.way c.args.self.now _ c.args.disks.now.items
          c.args.mailbox.now c.in-Ok.mail heard c.act.new.self c.act.new.disks.items c.put_pieces.new.self noted
          (ask_works g.K.Keep g.D.Disk g.M.Mailbox c.args.way c.args.self.now _ c.args.disks.now.items
          c.args.mailbox.now c.in-Ok.mail heard c.act.new.self c.act.new.disks.items c.act.result c.act.ensures.acts
          c.act.ensures.passes noted opened)
          c.put_pieces.ensures.fetches;
    }
