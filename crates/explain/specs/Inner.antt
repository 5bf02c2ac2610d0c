-- What inner contracts speak of, and no sentence of the paper. Assumes nothing.
use Rattle.std.specs.Prelude.{◌≡◌, cond, Option, None, Some, List, [], ◌++◌, ℕ, zero, suc, ◌≤◌, length}
use Rattle.std.specs.Int.Signed.{mag}
use Rattle.book.specs.Book.{record_at}
use Rattle.pay.specs.declared.Member.{Member}
use Rattle.pay.specs.Sum.{total_z}
use Rattle.pay.specs.Inner.{most_month_wh}
use Rattle.score.specs.Scoring.{is_own_live, wh_at}
use Rattle.explain.specs.declared.CallPart.{CallPart}
use Rattle.explain.specs.declared.parts.PartsFound.{PartsFound}
use Rattle.explain.specs.Explaining.{call_part, own_part, filled_up}

-- the parts of the records before record n
unfoldable pub parts_before : Member → List ℕ → List ℕ → ℕ → List CallPart
parts_before m b series zero = []
parts_before m b series (suc n) = parts_before m b series n ++ own_part m series n (record_at b n)

-- the part of record i where it is a live call of the member, otherwise none
unfoldable pub part_turn : Member → List ℕ → List ℕ → ℕ → Option CallPart
part_turn m b series i = cond (is_own_live m (record_at b i)) (Some (call_part m series i (record_at b i))) None

-- what a pass over so many records finds
pub record Finds (m : Member) (b series : List ℕ) (n : ℕ) (r : PartsFound) : Type 0 where
  pub count : r.count ≡ length (parts_before m b series n)
  pub parts : r.parts ≡ filled_up (parts_before m b series n)
  pub energy : r.wh.0 ≡ total_z (wh_at m (record_at b)) n
  pub span : mag r.wh.0 ≤ most_month_wh
