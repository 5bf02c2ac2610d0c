-- The refusals of sharing as the paper's table has them, each with the condition under which it is given. Assumes nothing.
use Rattle.std.specs.Prelude.{◌≡◌, List, ◌⊎◌, ◌≢◌, ℕ, zero, suc, ◌≤◌, ◌<◌, pos, length, get_or}
use Rattle.share.specs.declared.Line.{Line}
use Rattle.share.specs.Sharing.{most_number, most_status, most_energy, most_compensation, most_assessment}
use Rattle.share.specs.Sharing.{most_part, part_place, compensated, generators_gap, all_weights, SharingOutcome, sharing_refused, sharing_accepted}
use Rattle.share.specs.Forms.{blank_line}

-- numbers 1 to 64 rising strictly, and each field within its limits
pub record SoundLine (before : ℕ) (l : Line) : Type 0 where
  pub rises : before < l.number
  pub number : l.number ≤ most_number
  pub status : l.status ≤ most_status
  pub energy : l.energy.0 ≤ most_energy
  pub compensation : l.compensation.0 ≤ most_compensation
  pub assessment : l.assessment.0 ≤ most_assessment

-- the number of the line before a place; `first` before the first
unfoldable pub number_before : ℕ → List Line → ℕ → ℕ
number_before first ls zero = first
number_before first ls (suc k) = (get_or ls k blank_line).number

-- the line at a place is sound
abbrev pub SoundAt : List Line → ℕ → Type 0
SoundAt ls k = SoundLine (number_before 0 ls k) (get_or ls k blank_line)

-- every line is sound
abbrev pub AllSound : List Line → Type 0
AllSound ls = (k : ℕ) → k < length ls → SoundAt ls k

-- the line at p is not sound, and those before it are
pub record FirstBad (ls : List Line) (p : ℕ) : Type 0 where
  pub within : p < length ls
  pub before : (k : ℕ) → k < p → SoundAt ls k
  pub bad : SoundAt ls p → ⊥

-- No. 10 at 65 for the part, 10 at a line, 10 for a 65th line, 15, 16, and the sharing, each under its condition
pub data SharingVerdict (part : ℕ) (ls : List Line) (o : SharingOutcome) : Type 0 where
  above : most_part < part → o ≡ sharing_refused 10 part_place → SharingVerdict part ls o
  ten : part ≤ most_part → (p : ℕ) → p < most_number → FirstBad ls p → o ≡ sharing_refused 10 p → SharingVerdict part ls o
  more : part ≤ most_part → most_number < length ls → ((k : ℕ) → k < most_number → SoundAt ls k) → o ≡ sharing_refused 10 most_number
      → SharingVerdict part ls o
  fifteen : part ≤ most_part → AllSound ls → most_compensation < compensated ls → o ≡ sharing_refused 15 0 → SharingVerdict part ls o
  sixteen : part ≤ most_part → AllSound ls → compensated ls ≤ most_compensation → generators_gap part ls ≢ pos 0 → all_weights ls ≡ 0
      → o ≡ sharing_refused 16 0 → SharingVerdict part ls o
  shared : part ≤ most_part → AllSound ls → compensated ls ≤ most_compensation → (generators_gap part ls ≡ pos 0) ⊎ (0 < all_weights ls)
      → o ≡ sharing_accepted part ls → SharingVerdict part ls o
