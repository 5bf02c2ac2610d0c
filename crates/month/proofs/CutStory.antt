-- A month settled over a book with a window, and over the same book once the window is cut: the same lines, and one call more. Assumes nothing.
use mathlib.Core.Path.{◌≡◌, refl, sym, ◌∙◌, ap, ap₂}
use mathlib.Core.Bool.{true}
use mathlib.Core.List.{List, [], ◌∷◌, ◌++◌}
use Prim.Native.Nat.{ℕ, ◌-◌, ◌≤◌}
use native.Mathlib.Omega.{arith}
use lib.Dec.{lit≤}
use lib.IntN.{ℤ, pos, negsuc}
use lib.ListN.{length, take, drop, length-append, length-replicate}
use lib.Seq.{take-length, take-append_seam, drop-append_seam}
use Rattle.units.specs.Money.{grains_to_fen, grains_plus, fen_per_thousandth}
use Rattle.book.specs.declared.Verdict.{Verdict}
use Rattle.book.specs.Book.{count_at, calls_from, calls_of}
use Rattle.book.proofs.Exact.{sound_accepted}
use Rattle.pay.specs.declared.Member.{Member}
use Rattle.pay.specs.Kinds.{coal}
use Rattle.pay.specs.Sum.{total, total_z}
use Rattle.pay.specs.Member.{member_is_sound, MemberWithin}
use Rattle.pay.proofs.Within.{line_of}
use Rattle.pay.specs.Event.{clamp, energy_pay}
use Rattle.pay.specs.Open.{reserve_open, open_to}
use Rattle.pay.specs.Window.{lacking, coal_band, coal_minute, reserve_minute, minute_pay, quarter_pay, quarter_at, window_pay}
use Rattle.pay.specs.Live.{live_pay, live_wh}
use Rattle.score.specs.declared.answer.Earned.{Earned}
use Rattle.score.specs.declared.answer.Earned.TheVariants.{Accepted}
use Rattle.score.specs.First.{first_nonzero, any_below}
use Rattle.score.specs.Refusing.{number_of, refusal_at}
use Rattle.score.specs.Scoring.{is_own_live, pay_of, wh_of, pay_at, wh_at, month_grains, first_refused, records_earned, grains_earned}
use Rattle.score.proofs.Empty.{still}
use Rattle.apportion.specs.Apportion.{apportion}
use Rattle.share.specs.Sharing.{gap, generators_amount, user_amount, line_is_sound, parts, settled, sharing_in_turn}
use Rattle.ceiling.specs.Ceiling.{limit_is_sound, limited_is_sound, paid, beyond, positive, given_up, ceiled_parts, second_sharing, both_sharings, ceiling_in_turn, ceiling}
use Rattle.register.specs.declared.Entry.{Entry}
use Rattle.register.specs.Register.{entry_line, entry_limited, entry_is_sound, first_bad_entry}
use Rattle.month.specs.declared.Fault.TheVariants.{NoFault}
use Rattle.month.specs.declared.Row.{Row}
use Rattle.month.specs.declared.Statement.{Statement}
use Rattle.month.specs.Settling.{MonthGiven, is_listed, is_unlisted, first_unlisted, no_ramping, earned_with, earnings, first_refused_member, earned_grains}
use Rattle.month.specs.Settling.{row_of, rows_of, filled_rows, shared_month, month_lines, earned_month, settling}
use Rattle.month.proofs.Settled.{listed}
use Rattle.month.proofs.Promises.{with_book}
use Rattle.month.specs.Cutting.{one_call_more}
use Rattle.book.proofs.Samples.{march, sample_count}
use Rattle.score.proofs.CutStory.{outputs, low_all, rising, whole, before, above, in_three, at_30, sample_earned, coal_line}
use Rattle.month.proofs.Cutting.{cut_month}

-- members 5 and 7, both coal of 300,000 kW and of equal energy, without assessments and without limits
abbrev member : ℕ → Member
member number = record { number = number; kind = coal; rated = record { 0 = 300000 } }

abbrev entry : ℕ → Entry
entry number = record { member = member number; status = 0; energy = record { 0 = 100 }; assessment = record { 0 = 0 }; limit = record { none = true; fen = record { 0 = 0 } } }

abbrev pub register : List Entry
register = entry 5 ∷ entry 7 ∷ []

abbrev pub series : List ℕ
series = outputs rising

long : length series ≡ 2976
long = length-append rising (still (2976 - length rising)) ∙ omega (arith, length-replicate {A = ℕ} (2976 - length rising) 0)

abbrev pub given : MonthGiven
given = record { part = 10000; entries = register; count = 2; book = []; series = series ++ series; lengths = 2976 ∷ 2976 ∷ []; ramped = [] }

abbrev pub row : ℕ → ℕ → ℕ → ℤ → ℤ → Row
row number grains compensation share amount =
    record {
      number = number;
      hours = 0;
      grains = record { 0 = grains };
      compensation = record { 0 = compensation };
      assessment = record { 0 = 0 };
      energy = record { 0 = 100 };
      weight = 1000;
      share = record { 0 = share };
      uncollected = record { 0 = 0 };
      given = record { 0 = 0 };
      amount = record { 0 = amount };
    }

-- so many calls: member 7 gets 2,275 yuan, and both pay half of it
abbrev pub statement : ℕ → Statement
statement calls =
    record {
      fault = NoFault;
      header = march;
      calls = calls;
      part = 10000;
      gap = record { 0 = negsuc 227499 };
      user = record { 0 = pos 0 };
      count = 2;
      rows = filled_rows (row 5 0 0 (negsuc 113749) (negsuc 113749) ∷ row 7 13650000000 227500 (negsuc 113749) (pos 113750) ∷ []);
    }

own_first : take 2976 (series ++ series) ≡ series
own_first = ap (λ (n : ℕ). take n (series ++ series)) (sym long) ∙ take-append_seam series series

own_next : take 2976 (drop 2976 (series ++ series)) ≡ series
own_next = ap (take 2976) (ap (λ (n : ℕ). drop n (series ++ series)) (sym long) ∙ drop-append_seam series series) ∙ ap (λ (n : ℕ). take n series) (sym long) ∙ take-length series

five_line : MemberWithin (member 5)
unfolding member_is_sound
five_line = line_of (member 5) refl

five_earns : grains_earned (member 5) before.book series ≡ Accepted (record { 0 = 0 })
unfolding low_all records_earned first_refused first_nonzero refusal_at month_grains total total_z pay_at wh_at pay_of wh_of is_own_live energy_pay clamp
five_earns = sample_earned (member 5) five_line rising (lit≤ tt) refl (whole ∷ []) before

seven_earns : grains_earned (member 7) before.book series ≡ Accepted (record { 0 = 13650000000 })
unfolding
    low_all records_earned first_refused first_nonzero any_below refusal_at number_of open_to reserve_open
    month_grains total total_z pay_at wh_at pay_of wh_of is_own_live live_pay live_wh window_pay quarter_at quarter_pay minute_pay reserve_minute coal_minute coal_band lacking energy_pay clamp
seven_earns = sample_earned (member 7) coal_line rising (lit≤ tt) refl (whole ∷ []) before

both_listed : 2 ≤ first_bad_entry 0 register
unfolding entry_is_sound entry_limited entry_line member_is_sound limited_is_sound limit_is_sound line_is_sound
both_listed = omega arith

-- THE MONTH OVER THE WHOLE WINDOW
pub whole_month_lem : settling (with_book given before.book) ≡ statement 1
unfolding
    calls_of earnings earned_with is_unlisted is_listed first_unlisted earned_month first_refused_member month_lines earned_grains entry_limited entry_line shared_month rows_of row_of
    ceiling ceiling_in_turn both_sharings second_sharing limited_is_sound limit_is_sound ceiled_parts given_up beyond paid positive
    grains_plus grains_to_fen sharing_in_turn settled parts generators_amount user_amount gap line_is_sound apportion fen_per_thousandth
whole_month_lem =
    let b = before.book in
    let one : count_at b ≡ 1 = sample_count (whole ∷ []) before in
    let all : first_unlisted register (calls_from b 0 (count_at b)) ≡ 1 = ap (first_unlisted register) before.calls in
    sym (listed (with_book given b) (omega arith) both_listed (ap (λ (v : Verdict). v.number) (sound_accepted b before.sound))
    (count_at b) (first_unlisted register (calls_from b 0 (count_at b))) refl refl (omega arith))
    ∙ ap (earned_month 10000 register b [])
    (ap₂ (λ (x y : Earned). earned_with x no_ramping ∷ earned_with y no_ramping ∷ []) (ap (grains_earned (member 5) b) own_first ∙ five_earns) (ap (grains_earned (member 7) b) own_next ∙ seven_earns))
    ∙ rw (before.header, one) refl

-- AND ONCE IT IS CUT: the same, with one call more; and cut again, with two more
pub cut_once : settling (with_book given above.after.book) ≡ statement 2
unfolding one_call_more
cut_once =
    cut_month before.book above.after.book before.sound above.after.sound _ _ _ above.is_cut given (ap (λ (s : Statement). s.fault) whole_month_lem)
    ∙ ap one_call_more whole_month_lem

pub cut_in_three : settling (with_book given in_three.after.book) ≡ statement 3
unfolding one_call_more
cut_in_three =
    let half =
    cut_month before.book at_30.after.book before.sound at_30.after.sound _ _ _ at_30.is_cut given (ap (λ (s : Statement). s.fault) whole_month_lem)
    ∙ ap one_call_more whole_month_lem in
    cut_month at_30.after.book in_three.after.book at_30.after.sound in_three.after.sound _ _ _ in_three.is_cut given (ap (λ (s : Statement). s.fault) half)
    ∙ ap one_call_more half
