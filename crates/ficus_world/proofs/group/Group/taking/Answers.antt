use Rattle.std.proofs.Common.{List, refl, subst, sym, ap, arith, length, ◌∙◌, ◌++◌, ◌≡◌, ◌≢◌, ℕ}
use Rattle.std.proofs.lemmas.Result.{err_from_is_err_and}
use Rattle.ficus_codec.specs.Formats.{tables_bytes}
use Rattle.ficus_durable_state.specs.Tables.{FitsTables}
use Rattle.ficus_entry.specs.declared.entry.Entry.{Entry}
use Rattle.ficus_file.specs.declared.file.FileReplica.{FileReplica}
use Rattle.ficus_ids.specs.declared.refusal.Refusal.TheVariants.{BadMessage, Memory}
use Rattle.ficus_keeper.specs.Framed.{body_in}
use Rattle.ficus_record.specs.Record.{accept_front}
use Rattle.ficus_record.specs.declared.record.Record.TheVariants.{Accept as AcceptOf}
use Rattle.ficus_runs.specs.Numbered.{IsNumbered}
use Rattle.ficus_runs.proofs.Numbers.{number_once}
use Rattle.ficus_opening.specs.declared.member.Member.{Member}
use Rattle.ficus_opening.specs.declared.member.MemberState.TheVariants.{Up}
use Rattle.ficus_world.specs.Moves.{spelled_with}
use Rattle.ficus_world.specs.Moves.TakesSpelled.{SpellsTables}
use Rattle.ficus_world.specs.Moves.TakesTables.{Refuses}
use Rattle.ficus_world.specs.World.{IsUpIn, Whole}
use Rattle.ficus_world.proofs.Gathered.{at_rows, rows_refused}
use Rattle.ficus_world.proofs.SoundWorlds.{noted_sound}
use Rattle.ficus_world.proofs.group.Group.taking.Goals as goal

-- the member is up that is
is_up : {old : Whole} {r : ℕ} {was : Member} → IsUpIn old r → IsNumbered old.members r was → was.state ≡ Up
is_up {was = was} up is = subst (λ (m : Member). m.state ≡ Up) (number_once up.is is) up.up

pub framed_tables-requires : goal.framed_tables-requires
framed_tables-requires g c =
    let up = c.requires.up in
    omega (arith, ap length (c.deref.ensures.value ∙ c.in_ok-noted.ensures up.member up.is))

pub returns-in_err-noted : goal.returns-in_err-noted
returns-in_err-noted g c = λ was is.
    let wanted = err_from_is_err_and c.from_residual.result c.from_residual.ensures.1 in
    rw (wanted.1, wanted.2) (λ other. absurd (other refl))

pub returns-in_err-known : goal.returns-in_err-known
returns-in_err-known g c = λ was is.
    let wanted = err_from_is_err_and c.from_residual-in_err-known.result c.from_residual-in_err-known.ensures.1 in
    rw (wanted.1, wanted.2) (λ other. absurd (other refl))

pub returns-in_err-entries : goal.returns-in_err-entries
returns-in_err-entries g c = λ was is.
    let refused = err_from_is_err_and c.from_residual-in_err-entries.result c.from_residual-in_err-entries.ensures.1 in
    let r = c.in_err-entries.field-0.0 in
    let tables = c.framed_tables.ensures (spelled_with was c.args.head c.args.bytes.now)
    (c.deref.ensures.value ∙ c.in_ok-noted.ensures was is) in
    let unspelled = subst (λ n. r ≢ Memory → (r ≡ BadMessage) × ((entries : List Entry) (files : List FileReplica)
    → FitsTables n entries files → spelled_with was c.args.head c.args.bytes.now ≡ tables_bytes n entries files → ⊥))
    c.in_ok-known.ensures (rw tables at c.in_err-entries.ensures.refused) in
    rw (refused.1, refused.2)
    (rows_refused c.args.came c.args.head.index (spelled_with was c.args.head c.args.bytes.now) c.args.self.now r
    unspelled)

pub returns-in_err-taken : goal.returns-in_err-taken
returns-in_err-taken g c = λ was is.
    let refused = err_from_is_err_and c.from_residual-in_err-taken.result c.from_residual-in_err-taken.ensures.1 in
    let tables = c.framed_tables.ensures (spelled_with was c.args.head c.args.bytes.now)
    (c.deref.ensures.value ∙ c.in_ok-noted.ensures was is) in
    let fits = at_rows FitsTables c.in_ok-known.ensures c.items.ensures c.items-2.ensures c.in_ok-entries.ensures.fits in
    let spelled = at_rows (λ n entries files. c.framed_tables.result.now ≡ tables_bytes n entries files)
    c.in_ok-known.ensures c.items.ensures c.items-2.ensures c.in_ok-entries.ensures.spelled in
    let there = c.member.ensures.is in
    rw (refused.1, refused.2) (λ other. SpellsTables fits (sym tables ∙ spelled)
    (Refuses there (is_up c.requires.up there) other c.in_err-taken.ensures.gives))

pub returns : goal.returns
returns g c = λ was is.
    let tables = c.framed_tables.ensures (spelled_with was c.args.head c.args.bytes.now)
    (c.deref.ensures.value ∙ c.in_ok-noted.ensures was is) in
    let fits = at_rows FitsTables c.in_ok-known.ensures c.items.ensures c.items-2.ensures c.in_ok-entries.ensures.fits in
    let spelled = sym tables ∙ at_rows (λ n entries files. c.framed_tables.result.now ≡ tables_bytes n entries files)
    c.in_ok-known.ensures c.items.ensures c.items-2.ensures c.in_ok-entries.ensures.spelled in
    let there = c.member.ensures.is in
    let sound = c.member.ensures.sound.replica in
    let counted = subst (λ n. spelled_with was c.args.head c.args.bytes.now
    ≡ tables_bytes n c.items.result.now c.items-2.result.now) (sym sound.members) spelled in
    let place = subst (λ (w : Whole). IsNumbered w.post.behind c.args.came.mail c.behind-serve.result) c.self.view_is
    c.behind-serve.ensures in record {
      was = c.member.result.now;
      is = there;
      up = is_up c.requires.up there;
      place = c.behind-serve.result;
      is_place = place;
      entries = c.items.result.now;
      files = c.items-2.result.now;
      fits = fits;
      spelled = spelled;
      gives = c.in_ok-taken.ensures.gives;
      happens = refl;
      sound = noted_sound {noted = body_in c.in_ok-noted.noted.items} sound (record {
        noted = AcceptOf c.items.result.now c.items-2.result.now;
        is = ap body_in (c.in_ok-noted.ensures was is) ∙ ap (λ (tables : List ℕ). accept_front ++ tables) counted;
        step = c.in_ok-taken.ensures.noted;
      });
    }
