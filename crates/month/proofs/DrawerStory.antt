-- The story of the stop that came back, settled: the spare terminal's early entry alone would pay member 3; with head office's withdrawal among the books
-- nobody pays for it, whether the spare terminal is plugged in or not. Assumes nothing.
use mathlib.Core.Path.{◌≡◌, refl, sym, ◌∙◌, ap, ap₂, subst}
use mathlib.Core.Bool.{true, false}
use mathlib.Core.List.Memᴰ.{head as here}
use mathlib.Core.List.Memᴰ.{tail as there}
use mathlib.Core.List.{List, [], ◌∷◌, ◌++◌, map, Memᴰ as In}
use Prim.Native.Nat.{ℕ, ◌≤◌}
use native.Mathlib.Omega.{arith}
use lib.IntN.{ℤ, pos, negsuc}
use lib.ListN.{length, get_or, take, drop, length-replicate, get_or-replicate}
use lib.Seq.{take-length, take-append_seam, drop-append_seam}
use Rattle.units.specs.Money.{grains_to_fen, grains_plus, fen_per_thousandth}
use Rattle.units.specs.Month.{is_leap, days_of, quarters_of}
use Rattle.call.specs.declared.Call.{Call}
use Rattle.call.specs.Key.{call_key}
use Rattle.call.specs.Service.{CallWithin}
use Rattle.book.specs.declared.Header.{Header}
use Rattle.book.specs.declared.Verdict.{Verdict}
use Rattle.book.specs.Book.{header_at, count_at, calls_from, calls_of, book_bytes}
use Rattle.book.specs.Check.{header_minutes}
use Rattle.book.specs.Without.{book_without}
use Rattle.book.proofs.Exact.{sound_accepted}
use Rattle.book.proofs.Records.{length_calls}
use Rattle.rule.specs.Keys.{record_of, also, put, put_all, different_keys, records_at}
use Rattle.rule.specs.Whole.{records_of, those, highest, withdrawn_at, ruling, rule_for, rule_over, rule_calls}
use Rattle.join.specs.Trees.{Plan, books, Room, Covers, rule_book}
use Rattle.join.specs.Without.{plan_without}
use Rattle.join.proofs.Orders.{any_order}
use Rattle.join.proofs.Without.{books_without, room_without}
use Rattle.join.proofs.Story.{march, stop, entered, early, withdrawal, entered_within, early_within, withdrawal_within, one, one_sound, one_reads, plant, head_office, spare, three}
use Rattle.join.proofs.Story.{one_month, few, three_first, left, right, left_room, right_room, left_covers, withdrawn_there}
use Rattle.join.proofs.NothingStory.{two, spare_month_lem, spare_adds_nothing, without_spare, without_spare_room, without_spare_covers, left_covers_spare}
use Rattle.join.proofs.NothingStory.{emptied, with_emptied, with_emptied_room, with_emptied_covers, few_first, early_there}
use Rattle.join.proofs.NothingStory as spared
use Rattle.pay.specs.declared.Member.{Member}
use Rattle.pay.specs.declared.open.Month.{Month}
use Rattle.pay.specs.Kinds.{coal}
use Rattle.pay.specs.Sum.{total, total_z}
use Rattle.pay.specs.Member.{member_is_sound, MemberWithin}
use Rattle.pay.proofs.Within.{line_of}
use Rattle.pay.specs.Rate.{start_stop_rate, rate_of, rated_pay}
use Rattle.pay.specs.Event.{clamp, energy_pay}
use Rattle.pay.specs.Open.{open_to}
use Rattle.pay.specs.Live.{live_pay, live_wh}
use Rattle.score.specs.declared.answer.Earned.{Earned}
use Rattle.score.specs.declared.answer.Earned.TheVariants.{Accepted}
use Rattle.score.specs.First.{first_nonzero, any_below}
use Rattle.score.specs.Refusing.{number_of, refusal_at}
use Rattle.score.specs.Scoring.{is_own_live, pay_of, wh_of, pay_at, wh_at, month_grains, first_refused, records_earned, grains_earned}
use Rattle.score.specs.Outcomes.{ValuesWithin, Ready}
use Rattle.score.proofs.Empty.{still}
use Rattle.score.proofs.Listed.{earned_over_calls}
use Rattle.apportion.specs.Apportion.{apportion}
use Rattle.share.specs.Sharing.{gap, generators_amount, user_amount, line_is_sound, parts, settled, sharing_in_turn}
use Rattle.ceiling.specs.Ceiling.{limit_is_sound, limited_is_sound, paid, beyond, positive, given_up, ceiled_parts, second_sharing, both_sharings, ceiling_in_turn, ceiling}
use Rattle.register.specs.declared.Entry.{Entry}
use Rattle.register.specs.Register.{entry_line, entry_limited, entry_is_sound, first_bad_entry}
use Rattle.month.specs.declared.Fault.TheVariants.{NoFault}
use Rattle.month.specs.declared.members.MemberEarned.TheVariants.{ScoreAndHours}
use Rattle.month.specs.declared.Row.{Row}
use Rattle.month.specs.declared.Statement.{Statement}
use Rattle.month.specs.Settling.{MonthGiven, is_listed, is_unlisted, first_unlisted, no_ramping, earned_with, earnings, first_refused_member, earned_grains}
use Rattle.month.specs.Settling.{row_of, rows_of, filled_rows, shared_month, month_lines, earned_month, settling}
use Rattle.month.proofs.Settled.{listed}
use Rattle.month.proofs.Promises.{with_book}
use Rattle.month.proofs.Drawer.{statement_over, Nobody, DrawerKept, the_drawer, early_entry, nothing_added}

-- The hypotheses are met

-- the books of the story from which every entry of the stop is taken out, joined in another grouping
abbrev pub cleared : Plan
cleared = plan_without (call_key withdrawal) right

cleared_covers : Covers cleared (map (book_without (call_key withdrawal)) three)
unfolding right books three
cleared_covers =
    let e = books_without (call_key withdrawal) right in
    record { all = λ b i. subst (λ (l : List (List ℕ)). In b l) (sym e) i; only = λ b i. subst (λ (l : List (List ℕ)). In b l) e i }

cleared_room : Room cleared
unfolding right books three
cleared_room = room_without march (call_key withdrawal) right one_month few right_room

-- the three books of plant, head office and spare terminal
pub drawer_kept : DrawerKept three left
drawer_kept = the_drawer march three one_month few left left_covers left_room

-- head office's withdrawal counts for nobody, whatever plant and spare terminal have
pub stop_nobody : Nobody withdrawal left cleared
unfolding three withdrawal
stop_nobody = drawer_kept.withdrawn_anywhere head_office (there (here refl)) withdrawal withdrawn_there refl cleared cleared_covers cleared_room

-- with the spare terminal's book or without it: one statement
pub spare_nothing : (g : MonthGiven) → statement_over left g ≡ statement_over without_spare g
spare_nothing = nothing_added march spare two spare_month_lem spare_adds_nothing spared.few left without_spare left_covers_spare without_spare_covers left_room without_spare_room

-- with the early entry in the spare terminal's book or without it: one statement
pub early_nothing : (g : MonthGiven) → statement_over left g ≡ statement_over with_emptied g
unfolding two spare emptied early withdrawal stop
early_nothing =
    early_entry march spare two spare_month_lem few_first early early_there refl head_office (there (here refl)) withdrawal withdrawn_there refl refl
    left with_emptied left_covers_spare with_emptied_covers left_room with_emptied_room

-- A month of two members, 3 and 5, both coal of 300,000 kW and of equal energy, without assessments and without limits

abbrev member : ℕ → Member
member number = record { number = number; kind = coal; rated = record { 0 = 300000 } }

abbrev entry : ℕ → Entry
entry number = record { member = member number; status = 0; energy = record { 0 = 100 }; assessment = record { 0 = 0 }; limit = record { none = true; fen = record { 0 = 0 } } }

abbrev pub register : List Entry
register = entry 3 ∷ entry 5 ∷ []

-- March has 2,976 quarter hours
quarters : quarters_of march.year march.month ≡ 2976
unfolding march quarters_of days_of is_leap
quarters = refl

-- both have the outputs s, whatever they are
abbrev pub given : List ℕ → MonthGiven
given s = record { part = 10000; entries = register; count = 2; book = []; series = s ++ s; lengths = 2976 ∷ 2976 ∷ []; ramped = [] }

-- a line of the statement
abbrev pub row : ℕ → ℕ → ℕ → ℤ → ℤ → Row
row number grains compensation share amount =
    record {
      number = number;
      hours = 0;
      grains = record { 0 = grains };
      compensation = record { 0 = compensation };
      assessment = record { 0 = 0 };
      energy = record { 0 = 100 };
      weight = 1000;
      share = record { 0 = share };
      uncollected = record { 0 = 0 };
      given = record { 0 = 0 };
      amount = record { 0 = amount };
    }

abbrev march_month : Month
march_month = record { year = 2026; month = 3 }

-- what a member earns of one call
abbrev of_call : Member → List ℕ → Call → Earned
of_call m s c = records_earned march_month m s (λ (i : ℕ). get_or (c ∷ []) i c) 1

-- the three books have the withdrawn stop
rule_of_three : (x y z : List Call) → x ≡ entered ∷ [] → y ≡ withdrawal ∷ [] → z ≡ early ∷ [] → rule_calls (x ∷ y ∷ z ∷ []) ≡ withdrawal ∷ []
unfolding rule_calls rule_over rule_for ruling records_of record_of records_at also those highest withdrawn_at different_keys put_all put entered withdrawal early stop
rule_of_three x y z e f h = rw (e, f, h) refl

joined_stop : rule_book march three ≡ one withdrawal
unfolding rule_book one three plant head_office spare
joined_stop =
    ap₂ (λ (v : ℕ) (cs : List Call). book_bytes v march cs) three_first
    (rule_of_three _ _ _ (one_reads entered entered_within).1 (one_reads withdrawal withdrawal_within).1 (one_reads early early_within).1)

-- Of a withdrawn stop nobody earns, of a live one its member earns 12,000,000 grains a kW

gone_three : (s : List ℕ) → of_call (member 3) s withdrawal ≡ Accepted (record { 0 = 0 })
unfolding records_earned first_refused first_nonzero refusal_at withdrawal stop month_grains total total_z pay_at wh_at pay_of wh_of is_own_live energy_pay clamp
gone_three s = refl

gone_five : (s : List ℕ) → of_call (member 5) s withdrawal ≡ Accepted (record { 0 = 0 })
unfolding records_earned first_refused first_nonzero refusal_at withdrawal stop month_grains total total_z pay_at wh_at pay_of wh_of is_own_live energy_pay clamp
gone_five s = refl

live_three : (s : List ℕ) → of_call (member 3) s early ≡ Accepted (record { 0 = 3600000000000 })
unfolding
    records_earned first_refused first_nonzero any_below refusal_at number_of open_to early stop
    month_grains total total_z pay_at wh_at pay_of wh_of is_own_live live_pay live_wh rated_pay rate_of start_stop_rate energy_pay clamp
live_three s = refl

live_five : (s : List ℕ) → of_call (member 5) s early ≡ Accepted (record { 0 = 0 })
unfolding records_earned first_refused first_nonzero refusal_at early stop month_grains total total_z pay_at wh_at pay_of wh_of is_own_live energy_pay clamp
live_five s = refl

both_listed : 2 ≤ first_bad_entry 0 register
unfolding entry_is_sound entry_limited entry_line member_is_sound limited_is_sound limit_is_sound line_is_sound
both_listed = omega arith

all_have : (c : Call) → is_unlisted register c ≡ false → first_unlisted register (c ∷ []) ≡ 1
unfolding first_unlisted
all_have c u = rw u refl

module _ (s : List ℕ) (long : length s ≡ 2976) (within : ValuesWithin s 2976) where
  own_first : take 2976 (s ++ s) ≡ s
  own_first = ap (λ (n : ℕ). take n (s ++ s)) (sym long) ∙ take-append_seam s s

  own_next : take 2976 (drop 2976 (s ++ s)) ≡ s
  own_next = ap (take 2976) (ap (λ (n : ℕ). drop n (s ++ s)) (sym long) ∙ drop-append_seam s s) ∙ ap (λ (n : ℕ). take n s) (sym long) ∙ take-length s

  -- a book of one call
  module _ (c : Call) (w : CallWithin (header_minutes march) c) where
    header_is : header_at (one c) ≡ march
    header_is = (one_reads c w).0

    ready : (m : Member) → MemberWithin m → Ready m (one c) s
    ready m line =
        record {
          front = record { line = line; book = sound_accepted (one c) (one_sound c w) };
          spans = long ∙ sym (ap (λ (h : Header). quarters_of h.year h.month) header_is ∙ quarters);
          within = λ j l. within j (omega (arith, l, long));
        }

    earned_one : (m : Member) → MemberWithin m → grains_earned m (one c) s ≡ of_call m s c
    unfolding march
    earned_one m line =
        earned_over_calls m (one c) s c (ready m line)
        ∙ ap₂ (λ (h : Header) (cs : List Call). records_earned (record { year = h.year; month = h.month }) m s (λ (i : ℕ). get_or cs i c) (length cs)) header_is (one_reads c w).1

    count_one : count_at (one c) ≡ 1
    unfolding calls_of
    count_one = sym (length_calls (one c) (count_at (one c)) 0) ∙ ap length (one_reads c w).1

    line_three : MemberWithin (member 3)
    unfolding member_is_sound
    line_three = line_of (member 3) refl

    line_five : MemberWithin (member 5)
    unfolding member_is_sound
    line_five = line_of (member 5) refl

    -- the month over it, from what its members earn
    settled_one : (x y : ℕ) → is_unlisted register c ≡ false → of_call (member 3) s c ≡ Accepted (record { 0 = x }) → of_call (member 5) s c ≡ Accepted (record { 0 = y })
        → settling (with_book (given s) (one c)) ≡ earned_month 10000 register (one c) [] (ScoreAndHours (record { 0 = grains_plus x 0 }) ∷ ScoreAndHours (record { 0 = grains_plus y 0 }) ∷ [])
    unfolding calls_of earnings earned_with
    settled_one x y u e f =
        sym (listed (with_book (given s) (one c)) (omega arith) both_listed (ap (λ (v : Verdict). v.number) (sound_accepted (one c) (one_sound c w)))
        (count_at (one c)) (first_unlisted register (calls_from (one c) 0 (count_at (one c)))) refl refl (omega (arith, count_one, none_unlisted)))
        ∙ ap (earned_month 10000 register (one c) []) (ap₂ (λ (a b : Earned). earned_with a no_ramping ∷ earned_with b no_ramping ∷ []) first next)
      where
        first : grains_earned (member 3) (one c) (take 2976 (s ++ s)) ≡ Accepted (record { 0 = x })
        first = ap (grains_earned (member 3) (one c)) own_first ∙ earned_one (member 3) line_three ∙ e

        next : grains_earned (member 5) (one c) (take 2976 (drop 2976 (s ++ s))) ≡ Accepted (record { 0 = y })
        next = ap (grains_earned (member 5) (one c)) own_next ∙ earned_one (member 5) line_five ∙ f

        none_unlisted : first_unlisted register (calls_from (one c) 0 (count_at (one c))) ≡ 1
        none_unlisted = ap (first_unlisted register) (one_reads c w).1 ∙ all_have c u

  -- The early entry alone: member 3 gets 600,000 yuan, and both pay half of it.
  pub early_alone : settling (with_book (given s) spare)
      ≡ record {
        fault = NoFault;
        header = march;
        calls = 1;
        part = 10000;
        gap = record { 0 = negsuc 59999999 };
        user = record { 0 = pos 0 };
        count = 2;
        rows = filled_rows (row 3 3600000000000 60000000 (negsuc 29999999) (pos 30000000) ∷ row 5 0 0 (negsuc 29999999) (negsuc 29999999) ∷ []);
      }
  unfolding
      spare early stop is_unlisted is_listed earned_month first_refused_member month_lines earned_grains entry_limited entry_line shared_month rows_of row_of
      ceiling ceiling_in_turn both_sharings second_sharing limited_is_sound limit_is_sound ceiled_parts given_up beyond paid positive
      grains_plus grains_to_fen sharing_in_turn settled parts generators_amount user_amount gap line_is_sound apportion fen_per_thousandth
  early_alone =
      settled_one early early_within 3600000000000 0 refl (live_three s) (live_five s)
      ∙ rw (header_is early early_within, count_one early early_within) refl

  withdrawn_alone : settling (with_book (given s) (one withdrawal))
      ≡ record {
        fault = NoFault;
        header = march;
        calls = 1;
        part = 10000;
        gap = record { 0 = pos 0 };
        user = record { 0 = pos 0 };
        count = 2;
        rows = filled_rows (row 3 0 0 (pos 0) (pos 0) ∷ row 5 0 0 (pos 0) (pos 0) ∷ []);
      }
  unfolding
      withdrawal stop is_unlisted is_listed earned_month first_refused_member month_lines earned_grains entry_limited entry_line shared_month rows_of row_of
      ceiling ceiling_in_turn both_sharings second_sharing limited_is_sound limit_is_sound ceiled_parts given_up beyond paid positive
      grains_plus grains_to_fen sharing_in_turn settled parts generators_amount user_amount gap line_is_sound apportion fen_per_thousandth
  withdrawn_alone =
      settled_one withdrawal withdrawal_within 0 0 refl (gone_three s) (gone_five s)
      ∙ rw (header_is withdrawal withdrawal_within, count_one withdrawal withdrawal_within) refl

  -- The three books, in any order and grouping: the stop is a withdrawn record, and nobody gets or pays anything.
  pub nothing_comes_back : (p : Plan) → Covers p three → Room p → statement_over p (given s)
      ≡ record {
        fault = NoFault;
        header = march;
        calls = 1;
        part = 10000;
        gap = record { 0 = pos 0 };
        user = record { 0 = pos 0 };
        count = 2;
        rows = filled_rows (row 3 0 0 (pos 0) (pos 0) ∷ row 5 0 0 (pos 0) (pos 0) ∷ []);
      }
  nothing_comes_back p c r = ap (λ (b : List ℕ). settling (with_book (given s) b)) ((any_order march three one_month p c r few).2 ∙ joined_stop) ∙ withdrawn_alone

-- There are such outputs: a month without any.
still_within : ValuesWithin (still 2976) 2976
still_within j l =
    let e : get_or (still 2976) j 0 ≡ 0 = get_or-replicate 2976 j 0 0 l in
    omega (arith, e)

pub still_month : (statement_over left (given (still 2976))).rows ≡ filled_rows (row 3 0 0 (pos 0) (pos 0) ∷ row 5 0 0 (pos 0) (pos 0) ∷ [])
still_month = ap (λ (t : Statement). t.rows) (nothing_comes_back (still 2976) (length-replicate {A = ℕ} 2976 0) still_within left left_covers left_room)

-- Over it the spare terminal's book alone would be settled with its early entry.
abbrev pub spare_month : MonthGiven
spare_month = with_book (given (still 2976)) spare

pub still_early : settling spare_month
    ≡ record {
      fault = NoFault;
      header = record { area = 12; year = 2026; month = 3 };
      calls = 1;
      part = 10000;
      gap = record { 0 = negsuc 59999999 };
      user = record { 0 = pos 0 };
      count = 2;
      rows = filled_rows (row 3 3600000000000 60000000 (negsuc 29999999) (pos 30000000) ∷ row 5 0 0 (negsuc 29999999) (negsuc 29999999) ∷ []);
    }
unfolding march
still_early = early_alone (still 2976) (length-replicate {A = ℕ} 2976 0) still_within
