-- What inner contracts speak of, and no sentence of the paper. Assumes nothing.
use Rattle.std.specs.Prelude.{◌≡◌, Bool, List, ◌++◌, ℕ, ◌≤◌, ◌<◌, ℤ, length, get_or, take, drop}
use Rattle.share.specs.declared.Answer.{Answer}
use Rattle.share.specs.declared.Line.{Line}
use Rattle.share.specs.declared.Shared.{Shared}
use Rattle.share.specs.declared.settle.Carried.{Carried}
use Rattle.share.specs.Sharing.{SharingOutcome, below, gap, generators_amount, user_amount, parts_by, sharing, most_number, most_compensation}
use Rattle.share.specs.Forms.{answer_of, fill_in}
use Rattle.share.specs.Limits.{LinesWithin}

-- the generators' R of lines without its sign, whether R is below zero, the whole R, and the user's amount
abbrev pub GapIs : ℕ → List Line → ℕ → Bool → ℤ → ℤ → Type 0
GapIs part ls amount negative whole user =
    (amount ≡ generators_amount part ls) × (negative ≡ below ls) × (whole ≡ gap ls) × (user ≡ user_amount part ls)

-- where lines are shared: what each carries, without its sign, gives its part
pub record PartsGiven (ls : List Line) (o : SharingOutcome) (r : Carried) : Type 0 where
  pub few : length ls ≤ most_number
  pub within : LinesWithin ls
  pub small : (k : ℕ) → k < length ls → get_or r.shares.0 k 0 ≤ most_compensation
  pub parts : parts_by r.negative ls (take (length ls) r.shares.0) ≡ o.parts

-- an outcome before its parts are filled in
pub record Carries (ls : List Line) (o : SharingOutcome) (r : Carried) : Type 0 where
  pub number : r.number ≡ o.number
  pub place : r.place ≡ o.place
  pub gap : r.gap.0 ≡ o.gap
  pub user : r.user.0 ≡ o.user
  pub given : o.number ≡ 0 → PartsGiven ls o r

-- what is said of it, besides what each line carries
pub record Told (r : Carried) (a : Answer) : Type 0 where
  pub number : a.number ≡ r.number
  pub place : a.place ≡ r.place
  pub gap : a.gap ≡ r.gap
  pub user : a.user ≡ r.user

-- an answer, and lines beside it
abbrev pub beside : Answer → List Line → Shared
beside a lines = record { number = a.number; place = a.place; gap = a.gap; user = a.user; lines = lines }

-- the first `count` lines shared where they lie, the others as they are
unfoldable pub lend_front : ℕ → List Line → ℕ → Shared
lend_front part lines count =
    beside (answer_of (sharing part (take count lines))) (fill_in (sharing part (take count lines)).parts (take count lines) ++ drop count lines)
