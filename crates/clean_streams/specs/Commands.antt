-- The commands of a clean stream and their bits (document 01, "The damage table"; the chip paper's Table 1-1).
-- Assumes nothing.
use Rattle.std.specs.Prelude.{Bool, true, false, ◌||◌, List, [], ◌∷◌, ◌++◌, ℕ, eqb, length}
use Rattle.records.specs.Records.{kind_lv1}
use Rattle.timing.specs.Table.{kind_bcr, kind_ecr, kind_cal, kind_sync}

-- "Its commands are the exact LV1, BCR, ECR, CAL and SYNC".
pub data Command : Type 0 where
  lv1 bcr ecr cal sync : Command

abbrev pub fasts : List Command
fasts = bcr ∷ ecr ∷ cal ∷ sync ∷ []

-- Which command a name is.
abbrev pub command_number : Command → ℕ
command_number lv1 = 0
command_number bcr = 1
command_number ecr = 2
command_number cal = 3
command_number sync = 4

abbrev pub among : Command → List Command → Bool
among c [] = false
among c (d ∷ ds) = eqb (command_number c) (command_number d) || among c ds

-- The header of a Fast command.
abbrev pub header : List ℕ
header = 1 ∷ 0 ∷ 1 ∷ 1 ∷ 0 ∷ []

abbrev pub code_of : Command → List ℕ
code_of lv1 = 1 ∷ 1 ∷ 1 ∷ 0 ∷ 1 ∷ []
code_of bcr = header ++ (0 ∷ 0 ∷ 0 ∷ 1 ∷ [])
code_of ecr = header ++ (0 ∷ 0 ∷ 1 ∷ 0 ∷ [])
code_of cal = header ++ (0 ∷ 1 ∷ 0 ∷ 0 ∷ [])
code_of sync = header ++ (1 ∷ 0 ∷ 0 ∷ 0 ∷ [])

-- How many bits a command has.
abbrev pub width_of : Command → ℕ
width_of c = length (code_of c)

abbrev pub is_fast_command : Command → Bool
is_fast_command lv1 = false
is_fast_command bcr = true
is_fast_command ecr = true
is_fast_command cal = true
is_fast_command sync = true

-- The kind of a command's record.
abbrev pub command_kind : Command → ℕ
command_kind lv1 = kind_lv1
command_kind bcr = kind_bcr
command_kind ecr = kind_ecr
command_kind cal = kind_cal
command_kind sync = kind_sync
