-- The array form and the lent list of lines with limits: each says of its lines what `ceiling` says. Assumes nothing.
use Rattle.std.specs.Prelude.{◌≡◌, List, [], ◌∷◌, map, ℕ, pos, take}
use Rattle.share.specs.declared.Answer.{Answer}
use Rattle.share.specs.Forms.{filled}
use Rattle.ceiling.specs.declared.LimitedLine.{LimitedLine}
use Rattle.ceiling.specs.declared.Ceiled.{Ceiled}
use Rattle.ceiling.specs.Ceiling.{CeiledPart, first_bad_limited, CeilingOutcome, ceiling_in_turn, ceiling}

-- a line with what it gets filled in
abbrev pub ceiled_line : LimitedLine → CeiledPart → LimitedLine
ceiled_line l p =
    record {
      line = filled l.line (record { share = p.share; amount = p.amount });
      limit = l.limit;
      uncollected = record { 0 = p.uncollected };
      given = record { 0 = p.given };
    }

-- the lines with what they get filled in, as far as there are parts
abbrev pub ceiled_lines : List CeiledPart → List LimitedLine → List LimitedLine
ceiled_lines [] ls = ls
ceiled_lines (p ∷ ps) [] = []
ceiled_lines (p ∷ ps) (l ∷ ls) = ceiled_line l p ∷ ceiled_lines ps ls

-- share, amount, what is not collected and what is given up are 0
abbrev pub cleared_line : LimitedLine → LimitedLine
cleared_line l = ceiled_line l (record { share = pos 0; amount = pos 0; uncollected = 0; given = 0 })

abbrev pub cleared_lines : List LimitedLine → List LimitedLine
cleared_lines lines = map (λ l. cleared_line l) lines

-- The array form

-- an outcome with the lines of the array: on a refusal, and beyond the count, the four are 0
abbrev pub ceiled_of : List LimitedLine → CeilingOutcome → Ceiled
ceiled_of lines o =
    record {
      number = o.number;
      place = o.place;
      gap = record { 0 = o.gap };
      user = record { 0 = o.user };
      lines = ceiled_lines o.parts (cleared_lines lines);
    }

-- the answer of the array form: the first `count` of 64 lines
unfoldable pub ceiled_array : ℕ → List LimitedLine → ℕ → Ceiled
ceiled_array part lines count = ceiled_of lines (ceiling_in_turn part (first_bad_limited 0 (take count lines)) count (take count lines))

-- The lent list

-- number, place, R and the user's amount of an outcome
abbrev pub answer_of : CeilingOutcome → Answer
answer_of o = record { number = o.number; place = o.place; gap = record { 0 = o.gap }; user = record { 0 = o.user } }

-- the lines that were lent, as they were before and are after, and the answer: on a refusal no line changes, else the four alone
pub record LentLimited (part : ℕ) (before after : List LimitedLine) (answer : Answer) : Type 0 where
  pub says : answer ≡ answer_of (ceiling part before)
  pub lines : after ≡ ceiled_lines (ceiling part before).parts before
