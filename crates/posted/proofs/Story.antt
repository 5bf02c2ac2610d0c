-- A month settled, written and read: members 3 and 5 over the spare terminal's book alone, of the story of the stop that came back. Assumes nothing.
use mathlib.Core.Path.{◌≡◌, ap}
use native.Mathlib.Omega.{arith}
use Rattle.std.specs.Prelude.{Ok}
use Rattle.month.specs.declared.Statement.{Statement}
use Rattle.month.specs.Settling.{settling}
use Rattle.month.proofs.DrawerStory.{spare_month, still_early}
use Rattle.posted.specs.Posted.{posted_text}
use Rattle.posted.specs.Reading.{Posted, ReadPosted}
use Rattle.posted.proofs.Promises.{month_posted_back}

-- What is read of its text is its statement, and no other.
pub spare_read_back : {r : Posted} → ReadPosted (posted_text (settling spare_month)) r → r ≡ Ok (settling spare_month)
spare_read_back = month_posted_back spare_month (λ i. omega arith) (ap (λ (s : Statement). s.fault) still_early)
