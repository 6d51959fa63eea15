use Rattle.std.proofs.Common.{◌≡◌, Err, List, Ok, ℕ, length, ap, subst, ◌∙◌, arith}
use Rattle.std.proofs.lemmas.Result.{err_from_is_err_and}
use Rattle.ficus_ids.specs.Members.{IsMember}
use Rattle.ficus_ids.specs.declared.refusal.Refusal.TheVariants.{Memory}
use Rattle.ficus_model.specs.declared.event.Event.{Event}
use Rattle.ficus_runs.specs.Message.{Reads}
use Rattle.ficus_world.specs.Disks.{Carried}
use Rattle.ficus_world.specs.Moves.{FetchesBytes}
use Rattle.ficus_world.specs.World.{Backed, Whole, backed_by}
use Rattle.ficus_world.proofs.Carrying.{whole_is}
use Rattle.ficus_world.proofs.Moved.{same_refusal}
use Rattle.ficus_world.proofs.Sending.{fetched_some, give_letter, give_unfetched, give_unread, serves_carried, taken_tells_none}
use Rattle.ficus_world.proofs.Acting.{acts_none, quiet_acts}
use Rattle.ficus_world.specs.Acts.{Acts}
use Rattle.ficus_world.proofs.world.World.give.Goals as goal

-- what was fetched is a message
some_mail : {K : Type 0} {tells : Type 0} {mail : ℕ} {one other : Backed K} {bytes : List ℕ} {new : Whole} → one ≡ other
    → Carried (FetchesBytes tells mail one.whole) (Ok bytes) new → IsMember (length other.whole.post.posts) mail
some_mail {mail = mail} same fetches =
    subst (λ (w : Whole). IsMember (length w.post.posts) mail) (whole_is same) (fetched_some fetches)

pub returns-in_err-bytes : goal.returns-in_err-bytes
returns-in_err-bytes g c =
    let refused = err_from_is_err_and c.from_residual.result c.from_residual.ensures.1 in
    let stored = ap (λ (list : List Event). length list) c.fetch.ensures.stored in
    record {
      gives =
          rw (refused.1, refused.2)
          (give_unfetched g.L.Link.tells c.args.mail c.args.self.now.whole c.args.disks.now.items c.in_err-bytes.field-0.0
          c.fetch.new.self (subst (λ (w : Whole). c.fetch.new.self.members ≡ w.members) (whole_is c.self.view_is)
          c.fetch.ensures.members) (subst (λ (w : Whole). Carried (FetchesBytes g.L.Link.tells c.args.mail w)
          (Err c.in_err-bytes.field-0.0) c.fetch.new.self) (whole_is c.self.view_is) c.in_err-bytes.ensures.fetches));
      wants =
          rw (refused.1, refused.2) (λ is. subst (λ (w : Whole). IsMember (length w.post.posts) c.args.mail)
          (whole_is c.self.view_is) (c.in_err-bytes.ensures.wants (same_refusal c.in_err-bytes.field-0.0 Memory is)));
      few = rw refused.1 tt;
      acts =
          rw (refused.1, refused.2, ← c.self.view_is)
          (quiet_acts (omega (arith, stored)) c.fetch.ensures.members
          (λ is. c.in_err-bytes.ensures.memory (same_refusal c.in_err-bytes.field-0.0 Memory is))
          (rw (← c.self.view_is) at c.requires.backed));
    }

pub returns-in_err-from : goal.returns-in_err-from
returns-in_err-from g c =
    let residual = c.from_residual-in_err-from in
    let refused = err_from_is_err_and residual.result residual.ensures.1 in
    let same = subst (λ (w : Whole). c.fetch.new.self.members ≡ w.members) (whole_is c.self.view_is)
    c.fetch.ensures.members in
    let fetches = subst (λ (w : Whole). Carried (FetchesBytes g.L.Link.tells c.args.mail w) (Ok c.in_ok-bytes.bytes)
    c.fetch.new.self) (whole_is c.self.view_is) c.in_ok-bytes.ensures.fetches in
    let reads = subst (λ (bytes : List ℕ). Reads (length c.fetch.new.self.members) bytes (Err c.in_err-from.field-0.0))
    c.items.ensures c.in_err-from.ensures in
    record {
      gives =
          rw (refused.1, refused.2)
          (give_unread g.L.Link.tells c.args.mail c.args.self.now.whole c.args.disks.now.items c.in_ok-bytes.bytes
          c.fetch.new.self same fetches c.in_err-from.field-0.0 reads);
      wants = λ is. some_mail c.self.view_is c.in_ok-bytes.ensures.fetches;
      few = rw refused.1 tt;
      acts =
          rw (refused.1, refused.2, c.in_ok-bytes.ensures.same, c.self.view_is) (acts_none c.requires.backed);
    }

pub returns-in-Ask : goal.returns-in-Ask
returns-in-Ask g c =
    let tells = g.L.Link.tells in
    let x = c.args.disks.now.items in
    let grows = rw c.in_ok-bytes.ensures.same at c.serve.ensures.grows in
    let members = rw c.in_ok-bytes.ensures.same at c.serve.ensures.members in
    record {
      gives =
          give_letter tells c.args.mail c.self.view_is c.fetch.ensures.members c.in_ok-bytes.ensures.fetches
          c.items.ensures _ _ c.in_ok-from.ensures c.in-Ask.is c.serve.result c.serve.new.self x
          (serves_carried tells _ c.fetch.new.self c.serve.new.self c.serve.result x c.serve.ensures.members
          c.serve.ensures.serves);
      wants = λ is. some_mail c.self.view_is c.in_ok-bytes.ensures.fetches;
      few = c.serve.ensures.few;
      acts =
          rw (← c.self.view_is)
          (quiet_acts grows members (λ is. c.serve.ensures.memory is ∙ c.in_ok-bytes.ensures.same)
          (rw (← c.self.view_is) at c.requires.backed));
    }

pub returns : goal.returns
returns g c =
    record {
      gives =
          give_letter g.L.Link.tells c.args.mail c.self.view_is c.fetch.ensures.members c.in_ok-bytes.ensures.fetches
          c.items.ensures _ _ c.in_ok-from.ensures c.in-Piece.is c.take_piece.result c.take_piece.new.self.whole
          c.take_piece.new.disks.items c.take_piece.ensures.takes;
      wants = λ is. some_mail c.self.view_is c.in_ok-bytes.ensures.fetches;
      few = taken_tells_none c.take_piece.result c.take_piece.ensures.takes;
      acts =
          let same : backed_by c.fetch.new.self c.self.inside.stables.items ≡ c.args.self.now =
          ap (λ (w : Whole). backed_by w c.self.inside.stables.items) c.in_ok-bytes.ensures.same ∙ c.self.view_is in
          subst (λ (b : Backed _). Acts g.K.Keep g.D.Disk 1 c.take_piece.result b c.take_piece.new.self c.args.disks.now.items
          c.take_piece.new.disks.items) same c.take_piece.ensures.acts;
    }

pub take_piece-requires-clause-backed : goal.take_piece-requires-clause-backed
take_piece-requires-clause-backed g c = rw (c.in_ok-bytes.ensures.same, c.self.view_is) c.requires.backed
