-- What the judge of a statement promises: it takes exactly what sharing gives, and every settled month. Assumes nothing.
use mathlib.Core.Path.{◌≡◌, refl, sym, ap, ◌∙◌}
use mathlib.Core.Bool.{Bool}
use mathlib.Core.List.{List, [], ◌∷◌}
use mathlib.Core.Logic.{◌↔◌}
use Prim.Native.Nat.{ℕ, suc, ◌-◌, ◌<◌}
use native.Mathlib.Omega.{arith}
use lib.ListN.{length, take, drop, get_or, replicate, length-map}
use lib.Seq.{take_at, get_or-take}
use Rattle.units.specs.declared.Grains.{Grains}
use Rattle.units.specs.Money.{grains_to_fen}
use Rattle.share.specs.declared.Line.{Line}
use Rattle.share.specs.Sharing.{below, sharing}
use Rattle.ceiling.specs.declared.LimitedLine.{LimitedLine}
use Rattle.ceiling.specs.Ceiling.{CeiledPart, ceiling}
use Rattle.ceiling.proofs.Outcomes.{taken_list}
use Rattle.month.specs.declared.Fault.TheVariants.{NoFault}
use Rattle.month.specs.declared.Ramped.{Ramped}
use Rattle.month.specs.declared.Row.{Row}
use Rattle.month.specs.declared.Statement.{Statement}
use Rattle.month.specs.Settling.{MonthGiven, blank_row, filled_rows, row_of, rows_of, no_part, no_ramping, settling}
use Rattle.month.specs.Outcomes.{limited_in, lines_in, grains_in, shared_in}
use Rattle.month.proofs.Accepted.{rows_settled, length_rows, length_limited, passed}
use Rattle.month.proofs.Promises.{compensation_is, line_count}
use Rattle.fitting.specs.Fitting.{Judged, Fits, own_lines, own_limits, is_below, finding_in}
use Rattle.fitting.specs.Exactly.{grains_of, hours_of, FenOfGrains, SharedFrom}
use Rattle.fitting.proofs.Exactly.{fits_shared}
use Rattle.fitting.proofs.Given.{shared_fits}

-- Two findings that the contract allows are one.
pub finding_determined : (s : Statement) (f g : Judged) → f ≡ finding_in s → g ≡ finding_in s → f ≡ g
finding_determined s f g e h = e ∙ sym h

-- A STATEMENT FITS EXACTLY where its rows, R and the user's amount are those that sharing of some lines, within some limits, gives, and each compensation is the fen of its grains.
pub judged_exactly : (s : Statement) → (finding_in s ≡ Fits) ↔ ((ls : List LimitedLine) × SharedFrom s ls)
judged_exactly s = (
  λ h. (own_limits (is_below s) (take s.count s.rows) (sharing s.part (own_lines (is_below s) (take s.count s.rows))).parts, fits_shared s h),
  λ q. shared_fits s q.0 q.1,
)

-- The month

-- rows are those of their own grains and hours
rows_again : (b : Bool) (ls : List Line) (gs : List Grains) (hs : List Ramped) (cs : List CeiledPart)
    → rows_of b ls gs hs cs ≡ rows_of b ls (grains_of (rows_of b ls gs hs cs)) (hours_of (rows_of b ls gs hs cs)) cs
unfolding rows_of row_of
rows_again b [] gs hs cs = refl
rows_again b (l ∷ ls) gs hs cs =
    ap (λ (xs : List Row). row_of b l (get_or gs 0 (record { 0 = 0 })) (get_or hs 0 no_ramping).hours (get_or cs 0 no_part) ∷ xs) (rows_again b ls (drop 1 gs) (drop 1 hs) (drop 1 cs))

fen_each : (rs : List Row) → ((i : ℕ) → i < length rs → (get_or rs i blank_row).compensation.0 ≡ grains_to_fen (get_or rs i blank_row).grains.0) → FenOfGrains rs
fen_each [] f = tt
fen_each (r ∷ rs) f = (f 0 (omega arith), fen_each rs (λ i l. f (suc i) (omega (arith, l))))

module _ (g : MonthGiven) (none : (settling g).fault ≡ NoFault) where
  long : length (rows_settled g) ≡ length (limited_in g)
  long = length_rows (below (lines_in g)) (lines_in g) (grains_in g) g.ramped (shared_in g).parts ∙ length-map (limited_in g) (λ (l : LimitedLine). l.line)

  front : take (settling g).count (settling g).rows ≡ rows_settled g
  unfolding filled_rows
  front = ap (λ (s : Statement). take s.count s.rows) (passed g none).is ∙ take_at (rows_settled g) (replicate (64 - length (rows_settled g)) blank_row) (length (limited_in g)) long

  month_fens : FenOfGrains (take (settling g).count (settling g).rows)
  month_fens = fen_each (take (settling g).count (settling g).rows) one
    where
      one : (i : ℕ) → i < length (take (settling g).count (settling g).rows)
          → (get_or (take (settling g).count (settling g).rows) i blank_row).compensation.0 ≡ grains_to_fen (get_or (take (settling g).count (settling g).rows) i blank_row).grains.0
      one i l =
          let h : i < length g.entries = omega (arith, l, ap length front, long, length_limited g) in
          let e : get_or (take (settling g).count (settling g).rows) i blank_row ≡ get_or (settling g).rows i blank_row =
          get_or-take (settling g).count (settling g).rows i blank_row (omega (arith, h, line_count g none)) in
          ap (λ (r : Row). r.compensation.0) e ∙ (compensation_is g none i h).3 ∙ sym (ap (λ (r : Row). grains_to_fen r.grains.0) e)

  month_shared : SharedFrom (settling g) (limited_in g)
  month_shared =
      let p = passed g none in
      let rs = take (settling g).count (settling g).rows in
      let part : (settling g).part ≡ g.part = ap (λ (s : Statement). s.part) p.is in
      let again : rows_settled g ≡ rows_of (below (lines_in g)) (lines_in g) (grains_of (rows_settled g)) (hours_of (rows_settled g)) (shared_in g).parts =
      rows_again (below (lines_in g)) (lines_in g) (grains_in g) g.ramped (shared_in g).parts in
      record {
        few = omega (arith, (taken_list g.part (limited_in g) p.shared).few, line_count g none, length_limited g);
        fen = month_fens;
        accepted = ap (λ (n : ℕ). (ceiling n (limited_in g)).number) part ∙ p.shared;
        gap = ap (λ (s : Statement). s.gap.0) p.is ∙ sym (ap (λ (n : ℕ). (ceiling n (limited_in g)).gap) part);
        user = ap (λ (s : Statement). s.user.0) p.is ∙ sym (ap (λ (n : ℕ). (ceiling n (limited_in g)).user) part);
        rows = front ∙ again
            ∙ (λ i. rows_of (below (lines_in g)) (lines_in g) (grains_of (sym front i)) (hours_of (sym front i)) (ceiling (sym part i) (limited_in g)).parts);
      }

  -- EVERY SETTLED MONTH FITS.
  pub month_fits : finding_in (settling g) ≡ Fits
  month_fits = shared_fits (settling g) (limited_in g) month_shared
