-- The name of a member's series: it has the member's own number, and no contract leaves a choice. Assumes nothing.
use mathlib.Core.Path.{◌≡◌, refl, ap, sym, ◌∙◌}
use mathlib.Core.List.{List, ◌∷◌, ◌++◌}
use Prim.Native.Nat.{ℕ, ◌<◌}
use native.Mathlib.Omega.{arith}
use lib.ListN.{length, take, drop}
use Rattle.row.specs.Numbers.{value}
use Rattle.row.specs.Files.{slash, csv}
use Rattle.tables.specs.Series.{series_name}

-- A member has one name of its series.
pub series_name_determined : (member : ℕ) (a b : List ℕ) → a ≡ series_name member → b ≡ series_name member → a ≡ b
series_name_determined member a b e f = e ∙ sym f

-- the two digits of the name
abbrev pub name_digits : ℕ → List ℕ
name_digits member = take 2 (drop 1 (series_name member))

-- It is seven bytes: a slash, two digits, `.csv`;
pub series_name_parts : (member : ℕ) → (series_name member ≡ slash ∷ name_digits member ++ csv) × (length (series_name member) ≡ 7)
unfolding series_name
series_name_parts member = (refl, refl)

-- below 100, so of every member from 1 to 64, the digits are the member's own number,
pub series_name_own : (member : ℕ) → member < 100 → value 0 (name_digits member) ≡ member
unfolding series_name
series_name_own member h = omega arith

-- and two members have two names.
pub series_name_one : (a b : ℕ) → a < 100 → b < 100 → series_name a ≡ series_name b → a ≡ b
series_name_one a b h k e = sym (series_name_own a h) ∙ ap (λ (l : List ℕ). value 0 (take 2 (drop 1 l))) e ∙ series_name_own b k
