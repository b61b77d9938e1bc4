-- Texts as bytes: the codes of their characters, all of them ASCII.
-- Assumes nothing.
use Rattle.std.specs.Prelude.{List, [], ◌∷◌, ℕ}
use Prim.Native.Char.{code}
use Prim.Native.String as string
use Prim.Native.String.{String}

abbrev pub ascii : String → List ℕ
ascii string.[] = []
ascii (string.◌∷◌ c text) = code c ∷ ascii text

abbrev pub line_feed : ℕ
line_feed = code "\n"
