-- Lines of a text judged in turn, whatever a line says: a sharing line, a register's entry. Over the whole text; how it is read is not
-- spoken of. Assumes nothing.
use Rattle.std.specs.Prelude.{Bool, cond, List, [], ◌∷◌, ◌++◌, ℕ, suc, min, ◌-◌, ltb, length, replicate}

-- How lines are judged: whether one is sound after the number of the line before it, its own number, how many there may be, and a line of
-- zeros. Then how the answer is told: number, place, how many lines there are, and the lines.
pub record Judge (A R : Type 0) : Type 0 where
  pub sound : ℕ → A → Bool
  pub number : A → ℕ
  pub most : ℕ
  pub blank : A
  pub answer : ℕ → ℕ → ℕ → List A → R

-- the lines, and lines of zeros behind them, up to as many as there may be
unfoldable pub filled_up : {A R : Type 0} → Judge A R → List A → List A
filled_up j xs = xs ++ replicate (j.most - length xs) j.blank

-- 10 at a line, otherwise zeros
abbrev pub refused_at : {A R : Type 0} → Judge A R → ℕ → R
refused_at j place = j.answer 10 place 0 (filled_up j [])

-- all the lines, and how many there are
abbrev pub all_taken : {A R : Type 0} → Judge A R → List A → R
all_taken j xs = j.answer 0 0 (length xs) (filled_up j xs)

-- the place of the first line that is not sound after the number before it, or the number of lines where all are
abbrev pub first_unsound : {A R : Type 0} → Judge A R → ℕ → List A → ℕ
first_unsound j before [] = 0
first_unsound j before (a ∷ xs) = cond (j.sound before a) (suc (first_unsound j (j.number a) xs)) 0

-- the place of the first bad line: the first that is not sound, or the first behind as many as there may be
abbrev pub first_bad : {A R : Type 0} → Judge A R → List A → ℕ
first_bad j xs = min (first_unsound j 0 xs) j.most

-- LINES ARE JUDGED IN TURN: the first bad one is refused, with 10 at its place; where there is none all are taken
unfoldable pub judged : {A R : Type 0} → Judge A R → List A → R
judged j xs = cond (ltb (first_bad j xs) (length xs)) (refused_at j (first_bad j xs)) (all_taken j xs)
