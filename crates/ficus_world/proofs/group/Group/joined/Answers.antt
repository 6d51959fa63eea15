use Rattle.std.proofs.Common.{List, ℕ, ap, ◌≡◌, ◌∙◌, ◌++◌}
use Rattle.ficus_opening.specs.declared.member.Member.{Member}
use Rattle.ficus_keeper.specs.Framed.{empty_head}
use Rattle.ficus_record.specs.Record.{accept_front}
use Rattle.ficus_runs.proofs.Numbers.{number_once}
use Rattle.ficus_wire.specs.Parts.{joined, with_part}
use Rattle.ficus_world.proofs.Gathered.{joined_none, joined_some}
use Rattle.ficus_world.proofs.group.Group.joined.Goals as goal
use Rattle.ficus_world.proofs.group.Group.joined.Goals.{in-Some+in_ok-put_whole_with-in-Some, in-None+in_ok-put_bytes-in-None}

pub returns : goal.returns
returns g c = λ was is.
    let head = c.args.head in
    let bytes = c.args.bytes.now in
    let here : was ≡ c.member.result.now = number_once is c.member.ensures.is in
    elim c.match-member.branch [
      | in-Some+in_ok-put_whole_with-in-Some w ↦ rw w.noted-is
          (w.in_ok-put_whole_with-in-Some.ensures.put
          ∙ ap (λ (front : List ℕ). front ++ joined (with_part w.in-Some.held head.index bytes)) c.in_ok-noted.ensures
          ∙ ap (λ (tables : List ℕ). empty_head ++ accept_front ++ tables)
          (joined_some was head bytes (ap (λ (m : Member). m.parts) here ∙ w.in-Some.is)))
      | in-None+in_ok-put_bytes-in-None w ↦ rw w.noted-is
          (w.in_ok-put_bytes-in-None.ensures.put ∙ ap (λ (front : List ℕ). front ++ bytes) c.in_ok-noted.ensures
          ∙ ap (λ (tables : List ℕ). empty_head ++ accept_front ++ tables)
          (joined_none was head bytes c.requires.index (c.requires.last was is)
          (ap (λ (m : Member). m.parts) here ∙ w.in-None.is)))
    ]
