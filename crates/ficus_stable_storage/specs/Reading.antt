-- What an image spells that a keeper found.
use Rattle.std.specs.Prelude.{◌≡◌}
use Rattle.ficus_image.specs.Image.{IsImageOf}
use Rattle.ficus_keeper.specs.declared.opened.Opened.{Opened}
use Rattle.ficus_durable_state.specs.declared.saved.Saved.{Saved}

-- the image spells this, which is of the generation that is told with it
pub record IsSpelledIn (opened : Opened) (base : Saved) : Type 0 where
  pub generation : opened.generation ≡ base.generation
  pub image : IsImageOf opened.image base
