-- An image that was written holds its state.
-- Assumes nothing.
use mathlib.Core.List.{List}
use mathlib.Core.Path.{◌≡◌}
use Prim.Native.Nat.{ℕ}
use lib.Dec.{T}
use lib.ListN.{length}
use Rattle.bits.proofs.Truth.{holds_true}
use Rattle.decoder.specs.declared.Decoder.{Decoder}
use Rattle.decoder.specs.Sound.{sound_of}
use Rattle.image_fields.specs.Image.{image_length, image_of, state_of}
use Rattle.image_fields.proofs.RoundTrip.{written_fits}
use Rattle.host_opening.specs.Holding.{Holds}

-- An image that was written holds the state, if that is sound.
pub holds : (d : Decoder) (image : List ℕ) → T (sound_of d) → length image ≡ image_length → image ≡ image_of d → state_of image ≡ d → Holds image d
holds d image sound long is back =
    let fits = written_fits d image long is back in
    record { reads = back; sound = rw (fits, back) (holds_true (sound_of d) sound) }
