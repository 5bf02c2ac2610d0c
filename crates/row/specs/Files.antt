-- How a file of a folder is named. Assumes nothing.
use Rattle.std.specs.Prelude.{List, [], ◌∷◌, ℕ}

-- a name in a folder stands behind a slash
abbrev pub slash : ℕ
slash = 47

-- the bytes of `.csv`
abbrev pub csv : List ℕ
csv = 46 ∷ 99 ∷ 115 ∷ 118 ∷ []
