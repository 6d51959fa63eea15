-- What the calls take that look for clashes.
use Rattle.std.specs.Prelude.{List, length}
use Rattle.ficus_model.specs.Known.{Knows}
use Rattle.ficus_model.specs.declared.event.Event.{Event}
use Rattle.ficus_why.specs.Heard.{AreHeard}
use Rattle.ficus_why.specs.Latest.{AreLatest}
use Rattle.ficus_why.specs.Plain.{IsPlain}
use Rattle.ficus_why.specs.declared.heard.Heard.{Heard}
use Rattle.ficus_why.specs.declared.latest.KnownFile.{KnownFile}

-- the history is plain, this is heard of in it, and the file's rewrites that the reader knows have these ends
pub record FitsFile (H : List Event) (noted : Heard) (known : KnownFile) : Type 0 where
  pub plain : IsPlain H
  pub heard : AreHeard H (length H) noted.events.items noted.replicas.items
  pub latest : AreLatest H (Knows H known.reader) (length H) known.file known.ends
