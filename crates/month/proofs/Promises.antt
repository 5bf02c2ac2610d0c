-- What a month's statement promises. Assumes nothing.
use mathlib.Core.Path.{◌≡◌, refl, sym, ap, ap₂, ◌∙◌}
use mathlib.Core.Bool.{Bool, false}
use mathlib.Core.List.{List, [], ◌∷◌, ◌++◌, map}
use Prim.Native.Nat.{ℕ, zero, suc, ◌+◌, ◌-◌, ◌*◌, ◌≤◌, ◌<◌}
use native.Mathlib.Nat.{add-zero}
use native.Mathlib.Omega.{arith}
use lib.IntN.{ℤ, pos, ◌+ℤ◌, ◌-ℤ◌}
use lib.ListN.{length, get_or, take, drop, replicate, length-map}
use Rattle.units.specs.declared.Grains.{Grains}
use Rattle.units.specs.Money.{grains_to_fen, grains_plus, fen_per_thousandth}
use Rattle.book.specs.declared.Header.{Header}
use Rattle.book.specs.Book.{most_keys}
use Rattle.book.specs.Sound.{Sound, SaysSame}
use Rattle.book.proofs.Exact.{sound_accepted}
use Rattle.book.proofs.Same.{same_count}
use Rattle.join.specs.Joining.{key_count}
use Rattle.join.specs.Trees.{Plan, written, result, Room, OneMonth, Covers}
use Rattle.join.proofs.Orders.{same_bytes}
use Rattle.score.specs.declared.answer.Score.{Score}
use Rattle.score.specs.declared.answer.Earned.{Earned}
use Rattle.score.specs.Scoring.{grains_earned}
use Rattle.score.proofs.Turns.{score_is}
use Rattle.score.proofs.Exact.{fen_once}
use Rattle.score.proofs.ByCalls.{earned_by_calls}
use Rattle.score.proofs.Most.{most_ramping, hours_fit}
use Rattle.apportion.proofs.Promises.{each_one}
use Rattle.share.specs.declared.Line.{Line}
use Rattle.share.specs.Sharing.{Part, below, weight_of, sharing}
use Rattle.share.specs.Forms.{blank_line}
use Rattle.share.proofs.Lists.{get_d_mapped}
use Rattle.share.proofs.Promises.{sumℤ, SignOf, sum_last, gap_is, adds_to_gap, amount_is as shared-amount}
use Rattle.ceiling.specs.declared.Limit.{Limit}
use Rattle.ceiling.specs.declared.LimitedLine.{LimitedLine}
use Rattle.ceiling.specs.Ceiling.{paid, positive, uncollected_of, uncollected_sum, positives, given_up, CeiledPart, ceiled_by, ceiled_parts, CeilingOutcome, ceiling}
use Rattle.ceiling.specs.Inner.{blank_limited}
use Rattle.ceiling.proofs.Places.{length_uncollected}
use Rattle.ceiling.proofs.PastFirst.{long_parts}
use Rattle.ceiling.proofs.Outcomes.{taken_list, each_given}
use Rattle.ceiling.proofs.NoLimits.{untouched, as_before, no_limits}
use Rattle.ceiling.proofs.Promises.{gap_kept, user_kept, share_kept, within_limit, adds_to_zero_lem, amount_is as ceiling-amount, sign_kept as ceiling-sign}
use Rattle.register.specs.declared.Entry.{Entry}
use Rattle.register.specs.Register.{blank_entry, entry_line, entry_limited}
use Rattle.month.specs.declared.Fault.TheVariants.{NoFault}
use Rattle.month.specs.declared.Ramped.{Ramped}
use Rattle.month.specs.declared.Row.{Row}
use Rattle.month.specs.declared.Statement.{Statement}
use Rattle.month.specs.declared.members.MemberEarned.{MemberEarned}
use Rattle.month.specs.declared.members.MemberEarned.TheVariants.{NotScored}
use Rattle.month.specs.Settling.{MonthGiven, no_ramping, earned_with, earnings, earned_grains, shared_month, earned_month, row_of, no_part, rows_of, blank_row, filled_rows, settling}
use Rattle.month.proofs.Walking.{no_grains, length_earnings}
use Rattle.month.specs.Outcomes.{own_series, score_of_line, ramped_of_line, earned_in, limited_in, lines_in, grains_in, shared_in, NoneLimited}
use Rattle.month.proofs.Accepted.{rows_settled, passed, both_at, earned_at, with_both, length_limited, length_in, settled_row, grains_at, limited_in_lem, line_in_lem}

-- Two statements that the contract of `settle` allows are one.
pub settle_determined : (g : MonthGiven) (r s : Statement) → r ≡ settling g → s ≡ settling g → r ≡ s
settle_determined g r s e f = e ∙ sym f

-- What a member is paid

-- line i of the statement
abbrev pub row_of_line : MonthGiven → ℕ → Row
row_of_line g i = get_or (settling g).rows i blank_row

-- line i of the register
abbrev pub entry_of_line : MonthGiven → ℕ → Entry
entry_of_line g i = get_or g.entries i blank_entry

module _ (g : MonthGiven) (none : (settling g).fault ≡ NoFault) where
  -- In a statement each line's member has a score over the book and its own part of the series, and its ramping file is good; the line's grains are
  -- the score's and the hours' together; and its compensation is the fen of them, rounded once.
  pub compensation_is : (i : ℕ) → i < length g.entries
      → ((score_of_line g i).number ≡ 0)
      × ((ramped_of_line g i).number ≡ 0)
      × ((row_of_line g i).grains.0 ≡ grains_plus (score_of_line g i).grains.0 (ramped_of_line g i).grains.0)
      × ((row_of_line g i).compensation.0 ≡ grains_to_fen (row_of_line g i).grains.0)
  unfolding row_of entry_line
  compensation_is i h =
      let p = passed g none in
      let long = length_earnings g.entries g.book g.series g.lengths g.ramped in
      let own = grains_earned (get_or g.entries i blank_entry).member g.book (own_series g.series g.lengths i) in
      let e = earned_at g.entries g.book g.series g.lengths g.ramped i (NotScored 0 0) h in
      let a = both_at (earned_in g) i (NotScored 0 0) p.members (omega arith) in
      let w = with_both own (ramped_of_line g i) (earned_grains (get_or (earned_in g) i (NotScored 0 0))) (sym e ∙ a) in
      let s = score_is _ _ _ own refl in
      let row = settled_row g i p h in
      let gs : (row_of_line g i).grains ≡ get_or (grains_in g) i no_grains = ap (λ (r : Row). r.grains) row in
      let fen : (row_of_line g i).compensation.0 ≡ grains_to_fen (get_or (grains_in g) i no_grains).0 =
      ap (λ (r : Row). r.compensation.0) row ∙ ap (λ (l : Line). l.compensation.0) (line_in_lem g i h) in (
        ap (λ (x : Score). x.number) s ∙ w.0,
        w.1,
        ap (λ (x : Grains). x.0) (gs ∙ grains_at g i h) ∙ w.2 ∙ sym (ap (λ (x : Score). grains_plus x.grains.0 (ramped_of_line g i).grains.0) s),
        fen ∙ sym (ap (λ (x : Grains). grains_to_fen x.0) gs),
      )

  -- A MONTH'S HOURS AND A SCORE NEVER REACH THE TOP: where the hours' grains are at most those of 744 hours, the line's are the sum, nothing held.
  pub never_held : (i : ℕ) → i < length g.entries → (ramped_of_line g i).grains.0 ≤ most_ramping
      → (row_of_line g i).grains.0 ≡ (score_of_line g i).grains.0 + (ramped_of_line g i).grains.0
  never_held i h l =
      let c = compensation_is i h in
      c.2 ∙ hours_fit (entry_of_line g i).member g.book (own_series g.series g.lengths i) c.0 (ramped_of_line g i).grains.0 l

  -- EACH ROW IS ITS OWN ENTRY'S: its number, its ramping hours, its energy, its assessment, and the weight of that energy and status with the
  -- compensation told.
  pub line_is : (i : ℕ) → i < length g.entries
      → ((row_of_line g i).number ≡ (entry_of_line g i).member.number)
      × ((row_of_line g i).hours ≡ (ramped_of_line g i).hours)
      × ((row_of_line g i).energy ≡ (entry_of_line g i).energy)
      × ((row_of_line g i).assessment ≡ (entry_of_line g i).assessment)
      × ((row_of_line g i).weight ≡ weight_of (below (lines_in g)) (entry_line (entry_of_line g i) (row_of_line g i).compensation))
  unfolding row_of entry_line
  line_is i h =
      let row =
      settled_row g i (passed g none) h
      ∙ ap (λ (l : Line). row_of (below (lines_in g)) l (get_or (grains_in g) i no_grains) (ramped_of_line g i).hours (get_or (shared_in g).parts i no_part)) (line_in_lem g i h) in (
        ap (λ (r : Row). r.number) row,
        ap (λ (r : Row). r.hours) row,
        ap (λ (r : Row). r.energy) row,
        ap (λ (r : Row). r.assessment) row,
        ap (λ (r : Row). r.weight) row,
      )

  -- There is a row for each entry, and no other.
  pub line_count : (settling g).count ≡ length g.entries
  line_count = ap (λ (s : Statement). s.count) (passed g none).is ∙ length_limited g

  -- Where the hours pay nothing, as where there is no file, they are the score's own grains and fen.
  pub compensation_alone : (i : ℕ) → i < length g.entries → (ramped_of_line g i).grains.0 ≡ 0
      → ((row_of_line g i).grains ≡ (score_of_line g i).grains) × ((row_of_line g i).compensation ≡ (score_of_line g i).fen)
  compensation_alone i h z =
      let c = compensation_is i h in
      let same : (row_of_line g i).grains.0 ≡ (score_of_line g i).grains.0 =
      never_held i h (omega arith) ∙ ap (λ (n : ℕ). (score_of_line g i).grains.0 + n) z ∙ add-zero _ in
      let fen : (row_of_line g i).compensation.0 ≡ (score_of_line g i).fen.0 =
      c.3 ∙ ap grains_to_fen same ∙ sym (fen_once (entry_of_line g i).member g.book (own_series g.series g.lengths i)) in
      (ap (λ (n : ℕ). record { 0 = n }) same, ap (λ (n : ℕ). record { 0 = n }) fen)

  -- the row of line i, and what it gets
  row_is : (i : ℕ) → i < length g.entries
      → row_of_line g i ≡ row_of (below (lines_in g)) (get_or (limited_in g) i blank_limited).line (get_or (grains_in g) i no_grains) (ramped_of_line g i).hours (get_or (shared_in g).parts i no_part)
  row_is i h =
      settled_row g i (passed g none) h
      ∙ ap (λ (l : Line). row_of (below (lines_in g)) l (get_or (grains_in g) i no_grains) (ramped_of_line g i).hours (get_or (shared_in g).parts i no_part))
      (get_d_mapped (λ (l : LimitedLine). l.line) (limited_in g) i blank_limited blank_line (omega (arith, length_limited g)))

  -- Each amount is made of its own line: compensation less assessment, the share, what is not collected of it, less what it gives up.
  pub amount_is : (i : ℕ) → i < length g.entries
      → (row_of_line g i).amount.0
      ≡ pos (row_of_line g i).compensation.0 -ℤ pos ((row_of_line g i).assessment.0 * fen_per_thousandth) +ℤ (row_of_line g i).share.0 +ℤ pos (row_of_line g i).uncollected.0
      -ℤ pos (row_of_line g i).given.0
  unfolding row_of
  amount_is i h =
      rw (row_is i h) (ceiling-amount g.part (limited_in g) (passed g none).shared i blank_limited no_part (omega (arith, length_limited g)))

  -- NO AMOUNT TAKES THE OPPOSITE SIGN: compensation less assessment and the share keep their sign, or come to zero.
  pub sign_kept : (i : ℕ) → i < length g.entries
      → SignOf (pos (row_of_line g i).compensation.0 -ℤ pos ((row_of_line g i).assessment.0 * fen_per_thousandth) +ℤ (row_of_line g i).share.0) (row_of_line g i).amount.0
  unfolding row_of
  sign_kept i h =
      let all = (passed g none).shared in
      let first = (taken_list g.part (limited_in g) all).first in
      rw (
        settled_row g i (passed g none) h,
        share_kept g.part (limited_in g) all i no_part (record { share = pos 0; amount = pos 0 }) (omega (arith, length_limited g)),
        ← shared-amount g.part (lines_in g) first i blank_line (record { share = pos 0; amount = pos 0 }) (omega (arith, length_in g)),
      )
      (ceiling-sign g.part (limited_in g) all i no_part (record { share = pos 0; amount = pos 0 }) (omega (arith, length_limited g)))

  -- NOBODY PAYS MORE THAN ITS LIMIT: a line whose entry has one.
  pub limit_kept : (i : ℕ) → i < length g.entries → (entry_of_line g i).limit.none ≡ false → paid (row_of_line g i).amount.0 ≤ (entry_of_line g i).limit.fen.0
  unfolding row_of entry_limited
  limit_kept i h some =
      let own : (get_or (limited_in g) i blank_limited).limit ≡ (entry_of_line g i).limit = ap (λ (l : LimitedLine). l.limit) (limited_in_lem g i h) in
      rw (row_is i h, ← own)
      (within_limit g.part (limited_in g) (passed g none).shared i blank_limited no_part (omega (arith, length_limited g)) (ap (λ (l : Limit). l.none) own ∙ some))

-- What all get

blank_none : (f : Row → ℤ) → f blank_row ≡ pos 0 → (k : ℕ) → sumℤ (map f (replicate k blank_row)) ≡ pos 0
blank_none f e zero = refl
blank_none f e (suc k) = ap₂ ◌+ℤ◌ e (blank_none f e k)

-- a column of the rows, and the same of the parts
sum_rows : (f : Row → ℤ) (h : CeiledPart → ℤ) (is_below : Bool) → ((l : Line) (x : Grains) (n : ℕ) (p : CeiledPart) → f (row_of is_below l x n p) ≡ h p)
    → (ls : List Line) (gs : List Grains) (rs : List Ramped) (ps : List CeiledPart) (zs : List Row) → length ps ≡ length ls → sumℤ (map f zs) ≡ pos 0
    → sumℤ (map f (rows_of is_below ls gs rs ps ++ zs)) ≡ sumℤ (map h ps)
unfolding rows_of
sum_rows f h is_below same [] gs rs [] zs e z = z
sum_rows f h is_below same [] gs rs (p ∷ ps) zs e z = absurd (omega arith)
sum_rows f h is_below same (l ∷ ls) gs rs [] zs e z = absurd (omega arith)
sum_rows f h is_below same (l ∷ ls) gs rs (p ∷ ps) zs e z = ap₂ ◌+ℤ◌ (same l _ _ p) (sum_rows f h is_below same ls _ _ ps zs (omega arith) z)

-- the shares are the first sharing's
shares_by : (ps : List Part) (us gs : List ℕ) → length us ≡ length ps → length gs ≡ length ps → sumℤ (map (λ q. q.share) (ceiled_by ps us gs)) ≡ sumℤ (map (λ q. q.share) ps)
shares_by [] us gs h k = refl
shares_by (p ∷ ps) [] gs h k = absurd (omega arith)
shares_by (p ∷ ps) (u ∷ us) [] h k = absurd (omega arith)
shares_by (p ∷ ps) (u ∷ us) (g ∷ gs) h k = ap (λ (z : ℤ). p.share +ℤ z) (shares_by ps us gs (omega arith) (omega arith))

module _ (g : MonthGiven) (none : (settling g).fault ≡ NoFault) where
  each : length (shared_in g).parts ≡ length (limited_in g)
  unfolding ceiling
  each = each_given g.part _ (length (limited_in g)) (limited_in g) (taken_list g.part (limited_in g) (passed g none).shared)

  column : (f : Row → ℤ) (h : CeiledPart → ℤ) → f blank_row ≡ pos 0 → ((l : Line) (x : Grains) (n : ℕ) (p : CeiledPart) → f (row_of (below (lines_in g)) l x n p) ≡ h p)
      → sumℤ (map f (settling g).rows) ≡ sumℤ (map h (shared_in g).parts)
  unfolding filled_rows
  column f h blank same =
      let p = passed g none in
      ap (λ (s : Statement). sumℤ (map f s.rows)) p.is
      ∙ sum_rows f h (below (lines_in g)) same (lines_in g) (grains_in g) g.ramped (shared_in g).parts _ (each ∙ length_limited g ∙ sym (length_in g))
      (blank_none f blank (64 - length (rows_settled g)))

  -- The amounts of a statement and the user's add up to zero.
  pub amounts_zero : sumℤ (map (λ r. r.amount.0) (settling g).rows) +ℤ (settling g).user.0 ≡ pos 0
  unfolding blank_row row_of
  amounts_zero =
      let p = passed g none in
      let o = shared_in g in
      ap₂ ◌+ℤ◌ (column (λ r. r.amount.0) (λ q. q.amount) refl (λ l x n q. refl)) (ap (λ (s : Statement). s.user.0) p.is)
      ∙ sym (sum_last (map (λ q. q.amount) o.parts) o.user) ∙ adds_to_zero_lem g.part (limited_in g) p.shared

  shares_kept : sumℤ (map (λ q. q.share) (shared_in g).parts) ≡ sumℤ (map (λ q. q.share) (sharing g.part (lines_in g)).parts)
  unfolding ceiling ceiled_parts given_up
  shares_kept =
      let t = taken_list g.part (limited_in g) (passed g none).shared in
      let ps = (sharing g.part (lines_in g)).parts in
      let long : length ps ≡ length (limited_in g) = long_parts g.part (lines_in g) t.first ∙ length_in g ∙ sym (length_limited g) in
      ap (λ (o : CeilingOutcome). sumℤ (map (λ q. q.share) o.parts)) t.is
      ∙ shares_by ps (uncollected_of (limited_in g) ps) (given_up (limited_in g) ps) (length_uncollected (limited_in g) ps long ∙ sym long)
      (each_one (uncollected_sum (limited_in g) ps) (positives ps) ∙ length-map ps (λ (p : Part). positive p.amount))

  -- Its shares and the user's amount add up to R.
  pub shares_gap : sumℤ (map (λ r. r.share.0) (settling g).rows) +ℤ (settling g).user.0 ≡ (settling g).gap.0
  unfolding blank_row row_of
  shares_gap =
      let p = passed g none in
      let first = (taken_list g.part (limited_in g) p.shared).first in
      ap₂ ◌+ℤ◌ (column (λ r. r.share.0) (λ q. q.share) refl (λ l x n q. refl) ∙ shares_kept)
      (ap (λ (s : Statement). s.user.0) p.is ∙ user_kept g.part (limited_in g) p.shared)
      ∙ adds_to_gap g.part (lines_in g) first
      ∙ sym (ap (λ (s : Statement). s.gap.0) p.is ∙ gap_kept g.part (limited_in g) p.shared ∙ gap_is g.part (lines_in g) first)

-- A register without limits

-- Where no entry has a limit the lines are shared as without limits: the same refusal, or the same R, user's amount, shares and amounts;
pub shared_as_before : (g : MonthGiven) → NoneLimited g → shared_in g ≡ as_before (sharing g.part (lines_in g))
unfolding entry_limited
shared_as_before g free =
    no_limits g.part (limited_in g)
    (λ k h. let l : k < length g.entries = omega (arith, length_limited g) in ap (λ (x : LimitedLine). x.limit.none) (limited_in_lem g k l) ∙ free k l)

-- and of each row all is collected, and nothing is given up.
pub row_as_before : (g : MonthGiven) → (settling g).fault ≡ NoFault → NoneLimited g → (i : ℕ) (p : Part) → i < length g.entries
    → ((row_of_line g i).uncollected.0 ≡ 0)
    × ((row_of_line g i).given.0 ≡ 0)
    × ((row_of_line g i).share.0 ≡ (get_or (sharing g.part (lines_in g)).parts i p).share)
    × ((row_of_line g i).amount.0 ≡ (get_or (sharing g.part (lines_in g)).parts i p).amount)
unfolding row_of
row_as_before g none free i p h =
    let ps = (sharing g.part (lines_in g)).parts in
    let first = (taken_list g.part (limited_in g) (passed g none).shared).first in
    let gets =
    ap (λ (o : CeilingOutcome). get_or o.parts i no_part) (shared_as_before g free)
    ∙ get_d_mapped (λ q. untouched q) (sharing g.part (lines_in g)).parts i p no_part (omega (arith, long_parts g.part (lines_in g) first, length_in g)) in
    let row =
    settled_row g i (passed g none) h
    ∙ ap (row_of (below (lines_in g)) (get_or (lines_in g) i blank_line) (get_or (grains_in g) i no_grains) (ramped_of_line g i).hours) gets in (
      ap (λ (r : Row). r.uncollected.0) row,
      ap (λ (r : Row). r.given.0) row,
      ap (λ (r : Row). r.share.0) row,
      ap (λ (r : Row). r.amount.0) row,
    )

-- What the book decides

-- the same month from another book
abbrev pub with_book : MonthGiven → List ℕ → MonthGiven
with_book g b = record { part = g.part; entries = g.entries; count = g.count; book = b; series = g.series; lengths = g.lengths; ramped = g.ramped }

-- A book counts by its header and its calls alone: two sound books that have them in common, of whatever versions, give one statement.
module _ (b b' : List ℕ) (s : Sound b) (s' : Sound b') (e : SaysSame b b') where
  same_earnings : (es : List Entry) (series lengths : List ℕ) (rs : List Ramped) → earnings es b series lengths rs ≡ earnings es b' series lengths rs
  unfolding earnings
  same_earnings [] series lengths rs = refl
  same_earnings (x ∷ es) series lengths rs =
      ap₂ (λ (y : Earned) (ys : List MemberEarned). earned_with y (get_or rs 0 no_ramping) ∷ ys)
      (earned_by_calls b b' s s' e x.member (take (get_or lengths 0 0) series))
      (same_earnings es (drop (get_or lengths 0 0) series) (drop 1 lengths) (drop 1 rs))

  pub book_alone : (g : MonthGiven) → settling (with_book g b) ≡ settling (with_book g b')
  unfolding settling earned_month shared_month
  book_alone g =
      rw (
        sound_accepted b s ∙ sym (sound_accepted b' s'),
        same_earnings g.entries g.series g.lengths g.ramped,
        e.calls,
        e.header,
        same_count b b' s s' e,
      ) refl

-- The order in which the desks' books were joined, their grouping and repetition do not show in the statement.
pub order_same : (g : MonthGiven) (h : Header) (bs : List (List ℕ)) → OneMonth h bs → key_count bs ≤ most_keys
    → (p q : Plan) → Covers p bs → Covers q bs → Room p → Room q → settling (with_book g (written (result p))) ≡ settling (with_book g (written (result q)))
order_same g h bs month few p q c d r s = ap (λ (x : List ℕ). settling (with_book g x)) (same_bytes h bs month few p q c d r s)
