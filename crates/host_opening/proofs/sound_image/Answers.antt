-- `sound_image` asks whether the words are an image, then whether its state is sound.
-- Assumes nothing.
use mathlib.Core.Path.{sym, ◌∙◌}
use Rattle.image_fields.proofs.RoundTrip.{fits_length}
use Rattle.host_opening.proofs.sound_image.Goals as goal

pub read-requires : goal.read-requires
read-requires c = fits_length c.args.image.now (sym c.fits.ensures ∙ c.if-fits.true)
