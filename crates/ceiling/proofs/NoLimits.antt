-- Where no line has a limit every answer is that of sharing without limits. Assumes nothing.
use mathlib.Core.Path.{◌≡◌, refl, sym, ap, ◌∙◌}
use mathlib.Core.Bool.{Bool, true, false, cond, ◌&&◌}
use mathlib.Core.List.{List, [], ◌∷◌, map}
use mathlib.Core.Logic.{◌⊎◌, inl, inr}
use Prim.Native.Nat.{ℕ, suc, ◌≤◌, ◌<◌}
use native.Mathlib.Decide.{dec_le, dec_lt}
use native.Mathlib.Omega.{arith}
use lib.IntN.{ℤ, pos, ◌+ℤ◌, +ℤ_idr}
use lib.ListN.{length, get_or, take, length-map}
use Rattle.apportion.proofs.Promises.{nothing}
use Rattle.share.specs.declared.Line.{Line}
use Rattle.share.specs.declared.Shared.{Shared}
use Rattle.share.specs.declared.Answer.{Answer}
use Rattle.share.specs.Sharing.{most_number, most_part, line_is_sound, first_bad_line, Part, SharingOutcome, sharing_refused, sharing}
use Rattle.share.specs.Forms.{filled, fill_in, cleared, clear, sharing_counted, shared_array, Lent}
use Rattle.share.proofs.Cases.{sharing_part, sharing_10}
use Rattle.share.proofs.Cases as S
use Rattle.share.proofs.Counted.{counted_few}
use Rattle.share.proofs.Outcomes.{Taken, Refused, outcome, each_given}
use Rattle.ceiling.specs.declared.LimitedLine.{LimitedLine}
use Rattle.ceiling.specs.declared.Ceiled.{Ceiled}
use Rattle.ceiling.specs.Ceiling.{limit_is_sound, limited_is_sound, first_bad_limited, plain_lines, positives, uncollected_of, uncollected_sum, given_up, CeiledPart, ceiled_by, ceiled_parts}
use Rattle.ceiling.specs.Ceiling.{CeilingOutcome, ceiling_refused, both_sharings, ceiling_in_turn, ceiling}
use Rattle.ceiling.specs.Forms.{ceiled_lines, cleared_lines, ceiled_of, ceiled_array, answer_of, LentLimited}
use Rattle.ceiling.specs.Inner.{blank_limited}
use Rattle.ceiling.proofs.Signs.{beyond_unlimited}
use Rattle.ceiling.proofs.Places.{take_plain}
use Rattle.ceiling.proofs.Turns.{bad_few, turn_part, turn_10, both_refused, both_on, second_on}
use Rattle.ceiling.proofs.Refusals.{on_part, on_10, on_both, few_counted}

-- no line has a limit
abbrev pub NoLimits : List LimitedLine → Type 0
NoLimits ls = (k : ℕ) → k < length ls → (get_or ls k blank_limited).limit.none ≡ true

-- what a line gets by the first sharing alone: all of it is collected, and nothing is given up
abbrev pub untouched : Part → CeiledPart
untouched p = record { share = p.share; amount = p.amount; uncollected = 0; given = 0 }

-- an outcome of sharing without limits
abbrev pub as_before : SharingOutcome → CeilingOutcome
as_before o = record { number = o.number; place = o.place; gap = o.gap; user = o.user; parts = map (λ p. untouched p) o.parts }

later : (l : LimitedLine) (ls : List LimitedLine) → NoLimits (l ∷ ls) → NoLimits ls
later l ls h k i = h (suc k) (omega arith)

-- the same line is the first bad one
bad_same : (before : ℕ) (ls : List LimitedLine) → NoLimits ls → first_bad_limited before ls ≡ first_bad_line before (plain_lines ls)
unfolding limited_is_sound limit_is_sound
bad_same before [] h = refl
bad_same before (l ∷ ls) h = rw (h 0 (omega arith)) (go (line_is_sound before l.line) (bad_same l.line.number ls (later l ls h)))
  where
    go : (b : Bool) → first_bad_limited l.line.number ls ≡ first_bad_line l.line.number (plain_lines ls)
        → cond (b && true) (suc (first_bad_limited l.line.number ls)) 0 ≡ cond b (suc (first_bad_line l.line.number (plain_lines ls))) 0
    go true e = ap suc e
    go false e = refl

-- all is collected
sum_none : (ls : List LimitedLine) (ps : List Part) → NoLimits ls → uncollected_sum ls ps ≡ 0
sum_none [] ps h = refl
sum_none (l ∷ ls) [] h = refl
sum_none (l ∷ ls) (p ∷ ps) h = omega (arith, beyond_unlimited l.limit p.amount (h 0 (omega arith)), sum_none ls ps (later l ls h))

by_none : (ls : List LimitedLine) (ps : List Part) → NoLimits ls → length ps ≡ length ls
    → ceiled_by ps (uncollected_of ls ps) (map (λ w. 0) (positives ps)) ≡ map (λ p. untouched p) ps
by_none [] [] h e = refl
by_none [] (p ∷ ps) h e = absurd (omega arith)
by_none (l ∷ ls) [] h e = refl
by_none (l ∷ ls) (p ∷ ps) h e =
    rw (← beyond_unlimited l.limit p.amount (h 0 (omega arith)), by_none ls ps (later l ls h) (omega arith))
    (ap (λ (z : ℤ). record { share = p.share; amount = z; uncollected = 0; given = 0 } ∷ map (λ p. untouched p) ps) (+ℤ_idr (p.amount +ℤ pos 0) ∙ +ℤ_idr p.amount))

parts_none : (ls : List LimitedLine) (ps : List Part) → NoLimits ls → length ps ≡ length ls → ceiled_parts ls ps ≡ map (λ p. untouched p) ps
unfolding ceiled_parts given_up
parts_none ls ps h e = rw (sum_none ls ps h, nothing (positives ps)) (by_none ls ps h e)

both_none : (part : ℕ) (ls : List LimitedLine) → NoLimits ls → both_sharings ls (sharing part (plain_lines ls)) ≡ as_before (sharing part (plain_lines ls))
both_none part ls h = go (outcome part (first_bad_line 0 (take most_number (plain_lines ls))) (length (plain_lines ls)) (plain_lines ls))
  where
    go : Taken part (first_bad_line 0 (take most_number (plain_lines ls))) (length (plain_lines ls)) (plain_lines ls) ⊎ Refused (sharing part (plain_lines ls))
        → both_sharings ls (sharing part (plain_lines ls)) ≡ as_before (sharing part (plain_lines ls))
    go (inl t) =
        let long : length (sharing part (plain_lines ls)).parts ≡ length ls = each_given part _ _ (plain_lines ls) t ∙ length-map ls (λ (l : LimitedLine). l.line) in
        let n : (sharing part (plain_lines ls)).number ≡ 0 = ap (λ (x : SharingOutcome). x.number) t.is in
        let q : (sharing part (plain_lines ls)).place ≡ 0 = ap (λ (x : SharingOutcome). x.place) t.is in
        sym (both_on ls (sharing part (plain_lines ls)) n) ∙ sym (second_on ls (sharing part (plain_lines ls)) (omega (arith, sum_none ls (sharing part (plain_lines ls)).parts h)))
        ∙ rw (parts_none ls (sharing part (plain_lines ls)).parts h long, n, q)
    go (inr r) =
        rw r.is (sym (both_refused ls (sharing_refused r.number r.place) (λ z. absurd (omega (arith, r.some)))))

-- WHERE NO LINE HAS A LIMIT the answer is that of sharing without limits.
pub no_limits : (part : ℕ) (ls : List LimitedLine) → NoLimits ls → ceiling part ls ≡ as_before (sharing part (plain_lines ls))
no_limits part ls h = go (dec_le part most_part) (dec_lt (first_bad_limited 0 ls) (length ls))
  where
    same : first_bad_limited 0 ls ≡ first_bad_line 0 (plain_lines ls)
    same = bad_same 0 ls h

    long : length (plain_lines ls) ≡ length ls
    long = length-map ls (λ (l : LimitedLine). l.line)

    go : Dec (part ≤ most_part) → Dec (first_bad_limited 0 ls < length ls) → ceiling part ls ≡ as_before (sharing part (plain_lines ls))
    go (no f) d = let over : most_part < part = omega arith in sym (on_part part ls over) ∙ ap as_before (sharing_part part (plain_lines ls) over)
    go (yes q) (yes b) =
        sym (on_10 part ls q b) ∙ ap (λ (k : ℕ). ceiling_refused 10 k) same
        ∙ ap as_before (sharing_10 part (plain_lines ls) q (omega (arith, same, long)))
    go (yes q) (no f) = sym (on_both part ls q (omega arith)) ∙ both_none part ls h

-- the lines without their limits are filled in as without limits
pub plain_filled : (ps : List Part) (ls : List LimitedLine) → plain_lines (ceiled_lines (map (λ p. untouched p) ps) ls) ≡ fill_in ps (plain_lines ls)
plain_filled [] ls = refl
plain_filled (p ∷ ps) [] = refl
plain_filled (p ∷ ps) (l ∷ ls) = ap (λ (x : List Line). filled l.line p ∷ x) (plain_filled ps ls)

pub plain_cleared : (ls : List LimitedLine) → plain_lines (cleared_lines ls) ≡ clear (plain_lines ls)
plain_cleared [] = refl
plain_cleared (l ∷ ls) = ap (λ (x : List Line). cleared l.line ∷ x) (plain_cleared ls)

-- an array form's answer without limits
abbrev pub plain_of : Ceiled → Shared
plain_of s = record { number = s.number; place = s.place; gap = s.gap; user = s.user; lines = plain_lines s.lines }

module _ (part : ℕ) (lines : List LimitedLine) (count : ℕ) (long : length lines ≡ 64) (h : NoLimits (take count lines)) where
  counted : ceiling_in_turn part (first_bad_limited 0 (take count lines)) count (take count lines) ≡ as_before (sharing_counted part (plain_lines lines) count)
  counted = go (dec_le count 64)
    where
      long_plain : length (plain_lines lines) ≡ 64
      long_plain = length-map lines (λ (l : LimitedLine). l.line) ∙ long

      go : Dec (count ≤ 64) → ceiling_in_turn part (first_bad_limited 0 (take count lines)) count (take count lines) ≡ as_before (sharing_counted part (plain_lines lines) count)
      go (yes few) =
          few_counted part lines count (omega arith) ∙ no_limits part (take count lines) h
          ∙ ap as_before (sym (counted_few part (plain_lines lines) count (omega (arith, long_plain)) ∙ ap (sharing part) (take_plain count lines)))
      go (no f) = more (dec_le part most_part)
        where
          same : first_bad_limited 0 (take count lines) ≡ first_bad_line 0 (take count (plain_lines lines))
          same = bad_same 0 (take count lines) h ∙ ap (first_bad_line 0) (sym (take_plain count lines))

          most : first_bad_limited 0 (take count lines) ≤ 64
          most = bad_few (take count lines)

          more : Dec (part ≤ most_part) → ceiling_in_turn part (first_bad_limited 0 (take count lines)) count (take count lines) ≡ as_before (sharing_counted part (plain_lines lines) count)
          more (no g) =
              let over : most_part < part = omega arith in
              sym (turn_part part (first_bad_limited 0 (take count lines)) count (take count lines) over)
              ∙ ap as_before (S.turn_part part (first_bad_line 0 (take count (plain_lines lines))) count (take count (plain_lines lines)) over)
          more (yes fair) =
              sym (turn_10 part (first_bad_limited 0 (take count lines)) count (take count lines) fair most (omega (arith, most)))
              ∙ ap (λ (k : ℕ). ceiling_refused 10 k) same
              ∙ ap as_before (S.turn_10 part (first_bad_line 0 (take count (plain_lines lines))) count (take count (plain_lines lines)) fair (omega (arith, same, most)) (omega (arith, same, most)))

  -- of an array,
  pub no_limits_array : ceiled_array part lines count ≡ ceiled_of lines (as_before (sharing_counted part (plain_lines lines) count))
  unfolding ceiled_array
  no_limits_array = ap (ceiled_of lines) counted

  pub no_limits_plain : plain_of (ceiled_array part lines count) ≡ shared_array part (plain_lines lines) count
  unfolding shared_array
  no_limits_plain =
      let o = sharing_counted part (plain_lines lines) count in
      ap plain_of no_limits_array
      ∙ ap (λ (x : List Line). record { number = o.number; place = o.place; gap = record { 0 = o.gap }; user = record { 0 = o.user }; lines = x })
      (plain_filled (sharing_counted part (plain_lines lines) count).parts (cleared_lines lines)
      ∙ ap (fill_in (sharing_counted part (plain_lines lines) count).parts) (plain_cleared lines))

-- and of a lent list.
pub no_limits_lent : (part : ℕ) (before after : List LimitedLine) (r : Answer) → NoLimits before → LentLimited part before after r
    → Lent part (plain_lines before) (plain_lines after) r
no_limits_lent part before after r h l =
    let e = no_limits part before h in
    record {
      says = l.says ∙ ap answer_of e;
      lines = ap plain_lines l.lines ∙ ap (λ (o : CeilingOutcome). plain_lines (ceiled_lines o.parts before)) e ∙ plain_filled (sharing part (plain_lines before)).parts before;
    }
