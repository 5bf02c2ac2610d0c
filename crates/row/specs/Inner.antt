-- Lines judged as they come, a byte or a line at a time: what the readers' contracts are said by. It serves those contracts alone; the rule
-- is in Judging. Assumes nothing.
use Rattle.std.specs.Prelude.{Bool, cond, ◌&&◌, List, [], ◌∷◌, map, ℕ, ◌+◌, ltb, set}
use Rattle.row.specs.Judging.{Judge, refused_at}

-- a line that is not sound after no number is as bad as a blank one
unfoldable pub fair_by : {A R : Type 0} → Judge A R → A → A
fair_by j a = cond (j.sound 0 a) a j.blank

-- n lines stand in `all` already, the last of number `before`; those that are left are judged in turn
abbrev pub judge_from : {A R : Type 0} → Judge A R → ℕ → List A → ℕ → List A → R
judge_from j before all n [] = j.answer 0 0 n all
judge_from j before all n (a ∷ xs) =
    cond (j.sound before a && ltb n j.most) (judge_from j (j.number a) (set all n a) (n + 1) xs) (refused_at j n)

-- the lines judged so far: whether one was refused, the number of the last sound one (else 0), how many were sound, and those lines
pub record SoFar (A : Type 0) : Type 0 where
  pub refused : Bool
  pub before : ℕ
  pub count : ℕ
  pub all : List A

-- the answer, if these lines are left: a refusal stays at its place
unfoldable pub judged_on : {A R : Type 0} → Judge A R → SoFar A → List A → R
judged_on j s xs = cond s.refused (refused_at j s.count) (judge_from j s.before s.all s.count xs)

-- what the lines that are left say: the one that is being read, by what is left of it, and whole lines behind it
abbrev pub left_from : {A : Type 0} → Bool → (List ℕ → A) → (List ℕ → A) → List (List ℕ) → List A
left_from begun this whole [] = cond begun (this [] ∷ []) []
left_from begun this whole (l ∷ ls) = this l ∷ map whole ls
