-- What inner contracts speak of, and no sentence of the request. Assumes nothing.
use Rattle.std.specs.Prelude.{◌≡◌, false, List, ◌++◌, map, ℕ, ◌≤◌, ◌<◌, ◌^◌, nat_abs, length, get_or, take, drop}
use Rattle.apportion.specs.Apportion.{total}
use Rattle.share.specs.declared.Line.{Line}
use Rattle.share.specs.declared.Answer.{Answer}
use Rattle.share.specs.Sharing.{Part}
use Rattle.share.specs.Forms.{blank_line}
use Rattle.ceiling.specs.declared.LimitedLine.{LimitedLine}
use Rattle.ceiling.specs.declared.Ceiled.{Ceiled}
use Rattle.ceiling.specs.Ceiling.{positives, uncollected_sum, ceiled_parts, ceiling_refused, ceiling}
use Rattle.ceiling.specs.Forms.{ceiled_lines, answer_of}

-- a line of zeros with a limit of 0
abbrev pub blank_limited : LimitedLine
blank_limited =
    record { line = blank_line; limit = record { none = false; fen = record { 0 = 0 } }; uncollected = record { 0 = 0 }; given = record { 0 = 0 } }

-- share and amount of a line that the first sharing filled in
abbrev pub part_in : Line → Part
part_in l = record { share = l.share.0; amount = l.amount.0 }

abbrev pub parts_in : List Line → List Part
parts_in ls = map (λ l. part_in l) ls

-- amounts and sums that leave room in 64 bits
abbrev pub AmountsWithin : List Line → ℕ → Type 0
AmountsWithin ls count = (k : ℕ) → k < count → nat_abs (get_or ls k blank_line).amount.0 < 2 ^ 60

abbrev pub EachWithin : List ℕ → ℕ → Type 0
EachWithin xs count = (k : ℕ) → k < count → get_or xs k 0 < 2 ^ 60

-- the most that an amount of an accepted first sharing comes to, and that no part's is more
abbrev pub most_amount : ℕ
most_amount = 200000000000

abbrev pub Small : ℕ → List Part → Type 0
Small m ps = (i : ℕ) (p : Part) → i < length ps → nat_abs (get_or ps i p).amount ≤ m

-- the second sharing, by the parts of the first: 17, and no line changes, or what each line gets is filled in
pub data SecondShared (ls : List LimitedLine) (ps : List Part) (first : Answer) (after : List LimitedLine) (answer : Answer) : Type 0 where
  exceeds : total (positives ps) < uncollected_sum ls ps → answer ≡ answer_of (ceiling_refused 17 0) → after ≡ ls → SecondShared ls ps first after answer
  gives : uncollected_sum ls ps ≤ total (positives ps) → answer ≡ first → after ≡ ceiled_lines (ceiled_parts ls ps) ls → SecondShared ls ps first after answer

-- an answer, and lines beside it
abbrev pub beside_ceiled : Answer → List LimitedLine → Ceiled
beside_ceiled a lines = record { number = a.number; place = a.place; gap = a.gap; user = a.user; lines = lines }

-- the first `count` lines shared where they lie, the others as they are
unfoldable pub lend_limited : ℕ → List LimitedLine → ℕ → Ceiled
lend_limited part lines count =
    beside_ceiled (answer_of (ceiling part (take count lines))) (ceiled_lines (ceiling part (take count lines)).parts (take count lines) ++ drop count lines)
