-- The numbers of a settled month fit the bits that a statement has for them. Assumes nothing.
use mathlib.Core.Path.{◌≡◌, refl, sym, ◌∙◌, ap}
use mathlib.Core.Bool.{Bool}
use mathlib.Core.List.{List, [], ◌∷◌}
use Prim.Native.Nat.{ℕ, zero, suc, ◌^◌, ◌≤◌, ◌<◌}
use native.Mathlib.Omega.{arith}
use lib.IntN.{nat_abs}
use lib.ListN.{length, get_or}
use Rattle.units.specs.declared.Grains.{Grains}
use Rattle.units.specs.Money.{grains_plus}
use Rattle.book.specs.Book.{header_at, count_at}
use Rattle.book.specs.Check.{accepted, check}
use Rattle.book.proofs.Exact.{accepted_tests, accepted_few}
use Rattle.book.proofs.Heads.{headed_is}
use Rattle.share.specs.declared.Line.{Line}
use Rattle.share.specs.Sharing.{below, gap, sharing, most_number, most_energy, most_compensation, most_assessment, most_part}
use Rattle.share.specs.Forms.{blank_line}
use Rattle.share.specs.Verdict.{SoundLine, number_before, AllSound}
use Rattle.share.proofs.Signs.{small_fits}
use Rattle.share.proofs.Bounds.{weight_le}
use Rattle.share.proofs.Cases.{bad_of_64}
use Rattle.share.proofs.Outcomes as S
use Rattle.share.proofs.Refusals.{all_sound}
use Rattle.share.proofs.Promises.{gap_is, gap_most}
use Rattle.ceiling.specs.Ceiling.{CeiledPart}
use Rattle.ceiling.proofs.Outcomes.{taken_list}
use Rattle.ceiling.proofs.Promises.{gap_kept, user_within, part_within}
use Rattle.month.specs.declared.Fault.TheVariants.{NoFault}
use Rattle.month.specs.declared.Row.{Row}
use Rattle.month.specs.declared.Statement.{Statement}
use Rattle.month.specs.Settling.{MonthGiven, row_of, no_part, blank_row, settling}
use Rattle.month.specs.Outcomes.{score_of_line, ramped_of_line, limited_in, lines_in, grains_in, shared_in}
use Rattle.month.proofs.Walking.{no_grains}
use Rattle.month.proofs.Accepted.{rows_settled, row_at, length_rows, length_limited, length_in, settled_row, passed}
use Rattle.month.proofs.Promises.{row_of_line, compensation_is}
use Rattle.posted.specs.Reading.{HeadFits, RowFits, RowsFit, none, more}

-- what the ramping files say of their hours is a number of 16 bits, as `settle` is given it
abbrev pub HoursCounted : MonthGiven → Type 0
HoursCounted g = (i : ℕ) → (ramped_of_line g i).hours < 2 ^ 16

-- rows fit where the row at each place does
pub rows_fit : (rs : List Row) → ((i : ℕ) → i < length rs → RowFits (get_or rs i blank_row)) → RowsFit rs
rows_fit [] f = none
rows_fit (r ∷ rs) f = more (f 0 (omega arith)) (rows_fit rs (λ i l. f (suc i) (omega arith)))

-- what is held at the top of 64 bits fits them
held_fits : (a b : ℕ) → grains_plus a b < 2 ^ 64
unfolding grains_plus
held_fits a b = omega arith

-- the header of a book that is accepted, and its count, with a part
head_fits : (b : List ℕ) (part : ℕ) → check b ≡ accepted → part ≤ most_part → HeadFits (header_at b) (count_at b) part
head_fits b part e k =
    let h = headed_is b (accepted_tests b e).header in
    record {
      area = omega (arith, h.heading.area.1);
      year = omega (arith, h.heading.year.1);
      month = omega (arith, h.heading.month.1);
      calls = omega (arith, accepted_few b e);
      part = omega arith;
    }

-- a row that a settled month may have, behind the number `before`: what is held to the limits of a line, and what follows from them
pub record RowWithin (before : ℕ) (r : Row) : Type 0 where
  pub number : (before < r.number) × (r.number ≤ most_number)
  pub energy : r.energy.0 ≤ most_energy
  pub compensation : r.compensation.0 ≤ most_compensation
  pub assessment : r.assessment.0 ≤ most_assessment
  pub weight : r.weight ≤ 60000000
  pub share : nat_abs r.share.0 ≤ 100000000000
  pub uncollected : r.uncollected.0 ≤ 200000000000
  pub given : r.given.0 ≤ 200000000000
  pub amount : nat_abs r.amount.0 ≤ 200000000000

-- the row of a sound line
row_within : (is_below : Bool) (before : ℕ) (l : Line) (gs : Grains) (hours : ℕ) (p : CeiledPart) → SoundLine before l
    → (nat_abs p.share ≤ 100000000000) × (nat_abs p.amount ≤ 200000000000) × (p.uncollected ≤ 200000000000) × (p.given ≤ 200000000000)
    → RowWithin before (row_of is_below l gs hours p)
unfolding row_of
row_within is_below before l gs hours p s w =
    record {
      number = (omega (arith, s.number), omega (arith, s.number));
      energy = s.energy;
      compensation = s.compensation;
      assessment = s.assessment;
      weight = omega (arith, weight_le is_below l (record { energy = s.energy; compensation = s.compensation; assessment = s.assessment }));
      share = w.0;
      uncollected = w.2;
      given = w.3;
      amount = w.1;
    }

row_fits : (before : ℕ) (r : Row) → RowWithin before r → r.grains.0 < 2 ^ 64 → r.hours < 2 ^ 16 → RowFits r
row_fits before r w g n =
    record {
      number = omega (arith, w.number);
      hours = n;
      grains = g;
      compensation = omega (arith, w.compensation);
      assessment = omega (arith, w.assessment);
      energy = omega (arith, w.energy);
      weight = omega (arith, w.weight);
      share = small_fits r.share.0 100000000000 w.share (omega arith);
      uncollected = omega (arith, w.uncollected);
      given = omega (arith, w.given);
      amount = small_fits r.amount.0 200000000000 w.amount (omega arith);
    }

-- the number of the row before a place; 0 before the first
abbrev pub row_before : List Row → ℕ → ℕ
row_before rs zero = 0
row_before rs (suc k) = (get_or rs k blank_row).number

module _ (g : MonthGiven) (settled : (settling g).fault ≡ NoFault) where
  abbrev ls : List Line
  ls = lines_in g

  first : (sharing g.part ls).number ≡ 0
  first = (taken_list g.part (limited_in g) (passed g settled).shared).first

  -- sharing took every line as sound, and 64 at most
  sound : AllSound ls
  sound =
      let t = S.taken_list g.part ls first in
      let b = bad_of_64 ls in
      all_sound ls (omega (arith, t.sound, b.0))

  pub few_entries : length g.entries ≤ 64
  few_entries = omega (arith, (S.taken_list g.part ls first).few, length_in g)

  pub month_head : HeadFits (settling g).header (settling g).calls (settling g).part
  month_head =
      let p = passed g settled in
      rw p.is (head_fits g.book g.part p.book p.part)

  -- row i is made of line i
  line_row : (i : ℕ) → i < length ls → get_or (rows_settled g) i blank_row
      ≡ row_of (below ls) (get_or ls i blank_line) (get_or (grains_in g) i no_grains) (ramped_of_line g i).hours (get_or (shared_in g).parts i no_part)
  line_row i h = row_at (below ls) ls (grains_in g) g.ramped (shared_in g).parts i blank_row h

  before_row : (i : ℕ) → i < length ls → number_before 0 ls i ≡ row_before (rows_settled g) i
  unfolding number_before row_of
  before_row zero h = refl
  before_row (suc k) h = sym (ap (λ (r : Row). r.number) (line_row k (omega (arith, h))))

  -- EACH ROW OF A SETTLED MONTH IS WITHIN THE LIMITS, its number above that of the row before it.
  pub month_within : (i : ℕ) → i < length (rows_settled g) → RowWithin (row_before (rows_settled g) i) (get_or (rows_settled g) i blank_row)
  month_within i l =
      let rows = length_rows (below ls) ls (grains_in g) g.ramped (shared_in g).parts in
      let h : i < length ls = omega (arith, l, rows) in
      let w = part_within g.part (limited_in g) (passed g settled).shared i no_part (omega (arith, h, length_in g, length_limited g)) in
      rw (← before_row i h, line_row i h)
      (row_within (below ls) (number_before 0 ls i) (get_or ls i blank_line) (get_or (grains_in g) i no_grains) (ramped_of_line g i).hours (get_or (shared_in g).parts i no_part) (sound i h) w)

  -- row i of the statement
  pub told_row : (i : ℕ) → i < length g.entries → row_of_line g i ≡ get_or (rows_settled g) i blank_row
  told_row i h = settled_row g i (passed g settled) h ∙ sym (line_row i (omega (arith, h, length_in g)))

  module _ (counted : HoursCounted g) where
    month_row : (i : ℕ) → i < length (rows_settled g) → RowFits (get_or (rows_settled g) i blank_row)
    unfolding row_of
    month_row i l =
        let rows = length_rows (below ls) ls (grains_in g) g.ramped (shared_in g).parts in
        let h : i < length g.entries = omega (arith, l, rows, length_in g) in
        let c = compensation_is g settled i h in
        let e = told_row i h in
        let hours : (get_or (rows_settled g) i blank_row).hours ≡ (ramped_of_line g i).hours = ap (λ (r : Row). r.hours) (line_row i (omega (arith, l, rows))) in
        row_fits (row_before (rows_settled g) i) (get_or (rows_settled g) i blank_row) (month_within i l)
        (omega (arith, c.2, ap (λ (r : Row). r.grains.0) e, held_fits (score_of_line g i).grains.0 (ramped_of_line g i).grains.0))
        (omega (arith, hours, counted i))

    pub month_rows : RowsFit (rows_settled g)
    month_rows = rows_fit (rows_settled g) month_row

  -- R, and the user's amount
  pub month_gap : nat_abs (settling g).gap.0 ≤ most_compensation
  month_gap =
      let p = passed g settled in
      let e : (settling g).gap.0 ≡ gap ls = ap (λ (s : Statement). s.gap.0) p.is ∙ gap_kept g.part (limited_in g) p.shared ∙ gap_is g.part ls first in
      rw e (gap_most g.part ls first)

  pub month_user : nat_abs (settling g).user.0 ≤ most_compensation
  month_user =
      let p = passed g settled in
      rw p.is (user_within g.part (limited_in g) p.shared)
