-- The refusals of sharing with limits as a table, each with the condition under which it is given. Assumes nothing.
use Rattle.std.specs.Prelude.{◌≡◌, true, List, ◌⊎◌, ◌≢◌, ℕ, ◌≤◌, ◌<◌, pos, length, get_or}
use Rattle.apportion.specs.Apportion.{total}
use Rattle.share.specs.Sharing.{most_number, most_compensation, most_part, part_place, compensated, generators_gap, all_weights, parts, sharing_accepted}
use Rattle.share.specs.Verdict.{SoundLine, number_before}
use Rattle.ceiling.specs.declared.Limit.{Limit}
use Rattle.ceiling.specs.declared.LimitedLine.{LimitedLine}
use Rattle.ceiling.specs.Ceiling.{most_limit, plain_lines, positives, uncollected_sum, CeilingOutcome, ceiling_refused, ceiling_accepted}
use Rattle.ceiling.specs.Inner.{blank_limited}

-- a limit is none, or at most 10^11 fen
abbrev pub SoundLimit : Limit → Type 0
SoundLimit l = (l.none ≡ true) ⊎ (l.fen.0 ≤ most_limit)

-- the line at a place is sound, and its limit is
abbrev pub SoundAt : List LimitedLine → ℕ → Type 0
SoundAt ls k = SoundLine (number_before 0 (plain_lines ls) k) (get_or ls k blank_limited).line × SoundLimit (get_or ls k blank_limited).limit

-- every line is
abbrev pub AllSound : List LimitedLine → Type 0
AllSound ls = (k : ℕ) → k < length ls → SoundAt ls k

-- the line at p is not, and those before it are
pub record FirstBad (ls : List LimitedLine) (p : ℕ) : Type 0 where
  pub within : p < length ls
  pub before : (k : ℕ) → k < p → SoundAt ls k
  pub bad : SoundAt ls p → ⊥

-- the first sharing is done: part and lines are sound, C is within its limit, and the generators' R is 0 or there is a weight
pub record FirstShared (part : ℕ) (ls : List LimitedLine) : Type 0 where
  pub fair : part ≤ most_part
  pub sound : AllSound ls
  pub within : compensated (plain_lines ls) ≤ most_compensation
  pub way : (generators_gap part (plain_lines ls) ≡ pos 0) ⊎ (0 < all_weights (plain_lines ls))

-- the uncollected sum exceeds all positive amounts together
abbrev pub Exceeds : ℕ → List LimitedLine → Type 0
Exceeds part ls = total (positives (parts part (plain_lines ls))) < uncollected_sum ls (parts part (plain_lines ls))

-- No. 10 at 65 for the part, 10 at a line, 10 for a 65th line, 15, 16, 17, and the two sharings, each under its condition
pub data CeilingVerdict (part : ℕ) (ls : List LimitedLine) (o : CeilingOutcome) : Type 0 where
  above : most_part < part → o ≡ ceiling_refused 10 part_place → CeilingVerdict part ls o
  ten : part ≤ most_part → (p : ℕ) → p < most_number → FirstBad ls p → o ≡ ceiling_refused 10 p → CeilingVerdict part ls o
  more : part ≤ most_part → most_number < length ls → ((k : ℕ) → k < most_number → SoundAt ls k) → o ≡ ceiling_refused 10 most_number
      → CeilingVerdict part ls o
  fifteen : part ≤ most_part → AllSound ls → most_compensation < compensated (plain_lines ls) → o ≡ ceiling_refused 15 0 → CeilingVerdict part ls o
  sixteen : part ≤ most_part → AllSound ls → compensated (plain_lines ls) ≤ most_compensation → generators_gap part (plain_lines ls) ≢ pos 0
      → all_weights (plain_lines ls) ≡ 0 → o ≡ ceiling_refused 16 0 → CeilingVerdict part ls o
  seventeen : FirstShared part ls → Exceeds part ls → o ≡ ceiling_refused 17 0 → CeilingVerdict part ls o
  shared : FirstShared part ls → (Exceeds part ls → ⊥) → o ≡ ceiling_accepted ls (sharing_accepted part (plain_lines ls)) → CeilingVerdict part ls o
