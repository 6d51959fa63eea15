use Rattle.std.proofs.Common.{sym, ◌∙◌, rules}
use Rattle.std.proofs.lemmas.Bool.{false≢true}
use Rattle.ficus_deciding.proofs.AlikeTables.{alike_names, alike_tables}
use Rattle.ficus_deciding.proofs.comparing.alike.Goals as goal

pub returns-then-not-branch : goal.returns-then-not-branch
returns-then-not-branch c = (
  λ flag. absurd (false≢true flag),
  λ alike. sym c.if-not-branch.true
      ∙ c.in_ok-same_names.ensures.1 (alike_names c.args.one.now c.args.other.now alike),
)

pub returns : goal.returns
returns c =
    let one = c.args.one.now in
    let other = c.args.other.now in
    let ids = c.in_ok-ids.ids.items in
    let others = c.in_ok-others.others.items in
    let same = alike_tables one other c.requires.fits c.requires.fits_too ids others c.in_ok-ids.ensures.visible
    c.in_ok-others.ensures.visible c.in_ok-ids.ensures.rising c.in_ok-others.ensures.rising in
    let names = c.in_ok-same_names.ensures.0 (search rules) in
    let tests = rw (c.deref.ensures.value, c.deref-2.ensures.value) at c.show_alike.ensures in (
      λ flag. let both = tests.0 flag in same.0 (record { names = names; same = both.0; each = both.1 }),
      λ alike. let shows = same.1 alike in tests.1 (shows.same, shows.each),
    )
