-- The window and the bodies (document 01, "Hunting"), and which bit of an LV1 was hit (document 02, F-1).
-- Assumes nothing.
use Rattle.std.specs.Prelude.{Bool, cond, ◌||◌, List, [], ◌∷◌, ℕ, ◌-◌, ◌/◌, ◌%◌, ◌^◌, eqb, get_or}
use Rattle.windows.specs.declared.Meaning.{Meaning}
use Rattle.windows.specs.declared.Meaning.TheVariants.{Quiet, Trigger, Header}

-- "11101 is an exact LV1"; "11100, 11111, 11001, 10101 and 01101 are an LV1 with flip."
abbrev pub exact_lv1 : ℕ
exact_lv1 = 0b11101

abbrev pub is_lv1 : ℕ → Bool
is_lv1 w = eqb w exact_lv1 || (eqb w 0b11100 || (eqb w 0b11111 || (eqb w 0b11001 || (eqb w 0b10101 || eqb w 0b01101))))

-- A window's five bits: k is 1 for the first received, which stands highest, to 5.
abbrev pub received_bit : ℕ → ℕ → ℕ
received_bit w k = w / 2 ^ (5 - k) % 2

abbrev pub places : List ℕ
places = 1 ∷ 2 ∷ 3 ∷ 4 ∷ 5 ∷ []

-- Where a window differs from the exact LV1, of the places listed.
abbrev pub differences : ℕ → List ℕ → List ℕ
differences w [] = []
differences w (k ∷ ks) = cond (eqb (received_bit w k) (received_bit exact_lv1 k)) (differences w ks) (k ∷ differences w ks)

-- Document 02, F-1: "which of its five received bits differs, 1 for the first received to 5; an exact one tells 0".
abbrev pub position_of : ℕ → ℕ
position_of w = get_or (differences w places) 0 0

-- What a window means: an LV1 with its position, "10110 is a header", "any other window does nothing".
abbrev pub meaning_of : ℕ → Meaning
meaning_of w =
    cond (is_lv1 w) (Trigger (position_of w))
    (cond (eqb w 0b10110) Header Quiet)

-- "Bodies: 0001 BCR, 0010 ECR, 0100 CAL, 1000 SYNC"
abbrev pub is_fast : ℕ → Bool
is_fast body = eqb body 0b0001 || (eqb body 0b0010 || (eqb body 0b0100 || eqb body 0b1000))
