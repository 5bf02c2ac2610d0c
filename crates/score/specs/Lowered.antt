-- A score's answer once a record is taken out of the book: places of records behind it are one lower. Assumes nothing.
use Rattle.std.specs.Prelude.{Bool, cond, ◌&&◌, ℕ, ◌-◌, ltb, leb}
use Rattle.score.specs.declared.answer.Score.{Score}
use Rattle.score.specs.declared.answer.Earned.{Earned}
use Rattle.score.specs.declared.answer.Earned.TheVariants.{Accepted, Refused}

-- the place of record i where record j is taken out: one lower behind it
unfoldable pub lower_place : ℕ → ℕ → ℕ
lower_place j i = cond (ltb j i) (i - 1) i

-- 12 to 14 are refusals of a record, and have its place
unfoldable pub is_of_record : ℕ → Bool
is_of_record number = leb 12 number && leb number 14

-- the answer with the place of 12 to 14 so lowered
unfoldable pub lowered_earned : ℕ → Earned → Earned
lowered_earned j (Accepted g) = Accepted g
lowered_earned j (Refused number place) = Refused number (cond (is_of_record number) (lower_place j place) place)

-- the same of the score
unfoldable pub lowered : ℕ → Score → Score
lowered j r = record { number = r.number; place = cond (is_of_record r.number) (lower_place j r.place) r.place; grains = r.grains; fen = r.fen }
