-- The months of the story of the stop that came back: those that are settled, so that nothing is in their way; and one whose register has no line for the
-- member of the stop, so that it would not be settled. Assumes nothing.
use Rattle.std.proofs.Common.{◌≡◌, ℕ, zero, suc, ◌<◌, true, List, [], ◌∷◌, length, get_or, drop, ap, arith}
use Rattle.call.specs.declared.Call.{Call}
use Rattle.call.specs.Revising.{withdrawn}
use Rattle.book.specs.Book.{record_at}
use Rattle.book.proofs.Without.{call_place}
use Rattle.join.specs.Trees.{Plan, written, result, Room, Covers}
use Rattle.join.proofs.Story.{stop, early, spare, three}
use Rattle.join.proofs.NothingStory.{early_there}
use Rattle.score.specs.Outcomes.{ValuesWithin}
use Rattle.score.proofs.Empty.{still}
use Rattle.register.specs.Register.{blank_entry}
use Rattle.month.specs.declared.Statement.{Statement}
use Rattle.month.specs.Settling.{MonthGiven, settling}
use Rattle.month.proofs.Promises.{with_book}
use Rattle.month.proofs.DrawerStory.{register, given, spare_month, still_early, nothing_comes_back}
use Rattle.closing.specs.Closing.{is_settled, NothingHinders}
use Rattle.closing.proofs.Settled.{settled_exactly}

-- Nothing is in the way of the month over the spare terminal's book alone: it is settled, with the early entry.
pub spare_unhindered : NothingHinders spare_month
unfolding is_settled
spare_unhindered = (settled_exactly spare_month (omega arith)).0 (ap (λ (s : Statement). is_settled s.fault) still_early)

-- Nothing is in the way of the month over the three books, in any order and grouping: it is settled, without the stop.
pub three_unhindered : (s : List ℕ) → length s ≡ 2976 → ValuesWithin s 2976 → (p : Plan) → Covers p three → Room p → NothingHinders (with_book (given s) (written (result p)))
unfolding is_settled
three_unhindered s long within p c r =
    (settled_exactly (with_book (given s) (written (result p))) (omega arith)).0 (ap (λ (t : Statement). is_settled t.fault) (nothing_comes_back s long within p c r))

-- The spare terminal's book with a register of member 5 alone
abbrev pub lineless : MonthGiven
lineless = record { part = 10000; entries = drop 1 register; count = 1; book = spare; series = still 2976; lengths = 2976 ∷ []; ramped = [] }

-- its call is one of member 3, live and without a line
stop_without : (c : Call) → c ≡ early → (c.state ≡ withdrawn → ⊥) × ((k : ℕ) → k < 1 → (get_or (drop 1 register) k blank_entry).member.number ≡ c.participant → ⊥)
unfolding early stop
stop_without c e = rw e (λ w. omega (arith, w), none)
  where
    none : (k : ℕ) → k < 1 → (get_or (drop 1 register) k blank_entry).member.number ≡ 3 → ⊥
    none zero l f = omega (arith, f)
    none (suc k) l f = omega (arith, l)

-- That is in the way,
pub stop_hinders : NothingHinders lineless → ⊥
stop_hinders n =
    let at = call_place spare early early_there in
    let w = stop_without (record_at spare at.0) at.2 in
    n.lines at.0 at.1 (record { stands = w.0; no_line = w.1 })

-- so that the month would not be settled.
pub stop_unsettled : is_settled (settling lineless).fault ≡ true → ⊥
stop_unsettled y = stop_hinders ((settled_exactly lineless (omega arith)).0 y)
