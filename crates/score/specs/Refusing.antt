-- Refusals 14, 12 and 13 of a record, in this order. A book is here its records by their numbers. Assumes nothing.
use Rattle.std.specs.Prelude.{Bool, cond, not, ◌&&◌, ◌||◌, ℕ, ◌+◌, eqb, ltb, leb}
use Rattle.call.specs.declared.Call.{Call}
use Rattle.call.specs.Revising.{live, contested, withdrawn}
use Rattle.call.specs.Services.{standby, black_start, agc_availability, agc_contribution, avc}
use Rattle.pay.specs.declared.Member.{Member}
use Rattle.pay.specs.declared.open.Month.{Month}
use Rattle.pay.specs.Open.{open_to}
use Rattle.score.specs.First.{first_nonzero, any_below}

-- two spans share a minute; meeting is none
unfoldable pub overlaps : Call → Call → Bool
overlaps x y = ltb x.start (y.start + y.length) && ltb y.start (x.start + x.length)

-- services of which a month has one call
unfoldable pub is_once : ℕ → Bool
is_once service = eqb service black_start || eqb service agc_availability || eqb service agc_contribution || eqb service avc

-- y, where it is earlier, stands against x: a live call of the member and of the same service, 1 to 4 and overlapping, or one of which a month has one
unfoldable pub clashes : ℕ → Call → Call → Bool
clashes number x y =
    eqb y.participant number
    && eqb y.state live
    && eqb y.service x.service
    && (leb x.service standby && overlaps x y || is_once x.service)

unfoldable pub clash_at : ℕ → Call → (ℕ → Call) → ℕ → Bool
clash_at number x book j = clashes number x (book j)

-- a call earlier than record i stands against x
abbrev pub clash_before : ℕ → Call → (ℕ → Call) → ℕ → Bool
clash_before number x book i = any_below (clash_at number x book) i

-- 1 at a record of the member, 0 at others'
unfoldable pub own_at : ℕ → (ℕ → Call) → ℕ → ℕ
own_at number book i = cond (eqb (book i).participant number) 1 0

-- the index of the member's first record of so many, or their count
unfoldable pub first_own : ℕ → (ℕ → Call) → ℕ → ℕ
first_own number book count = first_nonzero (own_at number book) count

-- 12 where the service or its fields are not open to the kind, then 13 where an earlier call stands against it
unfoldable pub number_of : Bool → Bool → ℕ
number_of fit clash = cond (not fit) 12 (cond clash 13 0)

-- the refusal of record i for a member, 0 where there is none; others' and withdrawn records are skipped
unfoldable pub refusal_at : Month → Member → (ℕ → Call) → ℕ → ℕ
refusal_at month m book i =
    cond (not (eqb (book i).participant m.number)) 0
    (cond (eqb (book i).state withdrawn) 0
    (cond (eqb (book i).state contested) 14
    (number_of (open_to month m (book i)) (clash_before m.number (book i) book i))))
