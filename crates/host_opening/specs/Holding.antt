-- An image that holds a state.
-- Assumes nothing.
use Rattle.std.specs.Prelude.{Bool, true, ◌&&◌, List, ◌≡◌, ℕ}
use Rattle.decoder.specs.declared.Decoder.{Decoder}
use Rattle.decoder.specs.Sound.{sound_of}
use Rattle.image_fields.specs.Image.{state_of, image_fits}

-- Number 3 does not apply: the words are the image of a sound state.
abbrev pub sound_image : List ℕ → Bool
sound_image image = image_fits image && sound_of (state_of image)

-- The words are an image that reads as the state, and that the next call takes.
pub record Holds (image : List ℕ) (d : Decoder) : Type 0 where
  pub reads : state_of image ≡ d
  pub sound : sound_image image ≡ true
