use Rattle.ficus_image.proofs.decoding.has_version.Goals as goal

pub returns-in_ok-files-in-First : goal.returns-in_ok-files-in-First
returns-in_ok-files-in-First c =
    rw (c.in-First.is, ← c.in_ok-files-in-First.ensures.same) (
      λ yes. record { none = c.are_no_links.ensures.0 yes },
      λ has. c.are_no_links.ensures.1 has.none,
    )
