-- A fact about each command as one computed equation: a function's values in a list, and its value at a variable read off that list.
-- Assumes nothing.
use mathlib.Core.Path.{◌≡◌}
use mathlib.Core.List.{List, [], ◌∷◌}
use Rattle.clean_streams.specs.Commands.{Command, lv1, bcr, ecr, cal, sync}

module _ {A : Type 0} where
  -- the values at each command
  abbrev pub each : (Command → A) → List A
  each f = f lv1 ∷ f bcr ∷ f ecr ∷ f cal ∷ f sync ∷ []

  pub each_at : (f g : Command → A) → each f ≡ each g → (c : Command) → f c ≡ g c
  each_at f g e lv1 = cc
  each_at f g e bcr = cc
  each_at f g e ecr = cc
  each_at f g e cal = cc
  each_at f g e sync = cc
