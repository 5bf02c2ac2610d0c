-- The outcome by its cases, over plain values. Assumes nothing.
use mathlib.Core.Path.{◌≡◌}
use mathlib.Core.Bool.{Bool, true, false, cond, ◌&&◌}
use mathlib.Core.List.{List, [], ◌∷◌}
use Prim.Native.Nat.{ℕ, suc, min, ◌≤◌, ◌<◌}
use native.Mathlib.Decide.{dec_lt}
use native.Mathlib.Omega.{arith}
use borrow.Author.Tests.{lt-ltb, le-ltb, eq-eqb, ne_eqb}
use lib.Dec.{ltb}
use lib.ListN.{length}
use Rattle.apportion.specs.Apportion.{total}
use Rattle.share.specs.Sharing.{most_number, most_part, part_place, line_is_sound, first_bad_line, SharingOutcome, sharing}
use Rattle.share.proofs.Bounds.{few_sound}
use Rattle.ceiling.specs.declared.LimitedLine.{LimitedLine}
use Rattle.ceiling.specs.Ceiling.{limit_is_sound, limited_is_sound, first_bad_limited, plain_lines, positives, uncollected_sum}
use Rattle.ceiling.specs.Ceiling.{ceiling_refused, ceiling_accepted, second_sharing, both_sharings, ceiling_in_turn}

-- a line with its limit is bad no later than without it
pub limited_le : (before : ℕ) (ls : List LimitedLine) → first_bad_limited before ls ≤ first_bad_line before (plain_lines ls)
unfolding limited_is_sound
limited_le before [] = omega arith
limited_le before (l ∷ ls) = go (line_is_sound before l.line) (limit_is_sound l.limit) (limited_le l.line.number ls)
  where
    go : (a b : Bool) → first_bad_limited l.line.number ls ≤ first_bad_line l.line.number (plain_lines ls)
        → cond (a && b) (suc (first_bad_limited l.line.number ls)) 0 ≤ cond a (suc (first_bad_line l.line.number (plain_lines ls))) 0
    go true true h = omega arith
    go true false h = omega arith
    go false b h = omega arith

pub bad_few : (ls : List LimitedLine) → first_bad_limited 0 ls ≤ most_number
bad_few ls = omega (arith, limited_le 0 ls, few_sound 0 (plain_lines ls) (omega arith))

pub bad_le : (before : ℕ) (ls : List LimitedLine) → first_bad_limited before ls ≤ length ls
bad_le before [] = omega arith
bad_le before (l ∷ ls) = go (limited_is_sound before l) (bad_le l.line.number ls)
  where
    go : (b : Bool) → first_bad_limited l.line.number ls ≤ length ls → cond b (suc (first_bad_limited l.line.number ls)) 0 ≤ suc (length ls)
    go true h = omega arith
    go false h = omega arith

-- 10
pub turn_part : (part bad count : ℕ) (ls : List LimitedLine) → most_part < part → ceiling_refused 10 part_place ≡ ceiling_in_turn part bad count ls
unfolding ceiling_in_turn
turn_part part bad count ls h = rw (lt-ltb most_part part h)

pub turn_10 : (part bad count : ℕ) (ls : List LimitedLine) → part ≤ most_part → bad ≤ most_number → bad < count → ceiling_refused 10 bad ≡ ceiling_in_turn part bad count ls
unfolding ceiling_in_turn
turn_10 part bad count ls fair few h = go (dec_lt bad (min count most_number))
  where
    go : Dec (bad < min count most_number) → ceiling_refused 10 bad ≡ ceiling_in_turn part bad count ls
    go (yes l) = rw (le-ltb most_part part fair, lt-ltb bad (min count most_number) l)
    go (no f) =
        let last : bad ≡ most_number = omega arith in
        rw (le-ltb most_part part fair, le-ltb bad (min count most_number) (omega arith), lt-ltb most_number count (omega arith), last)

pub turn_on : (part bad count : ℕ) (ls : List LimitedLine) → part ≤ most_part → count ≤ most_number → count ≤ bad
    → both_sharings ls (sharing part (plain_lines ls)) ≡ ceiling_in_turn part bad count ls
unfolding ceiling_in_turn
turn_on part bad count ls fair few h = rw (le-ltb most_part part fair, le-ltb bad (min count most_number) (omega arith), le-ltb most_number count few)

-- 15 and 16 are the first sharing's
pub both_refused : (ls : List LimitedLine) (o : SharingOutcome) → (o.number ≡ 0 → ⊥) → ceiling_refused o.number o.place ≡ both_sharings ls o
unfolding both_sharings
both_refused ls o f = rw (ne_eqb o.number 0 f)

pub both_on : (ls : List LimitedLine) (o : SharingOutcome) → o.number ≡ 0 → second_sharing ls o ≡ both_sharings ls o
unfolding both_sharings
both_on ls o e = rw (eq-eqb o.number 0 e)

-- 17, by the test alone

below_yes : {A : Type 0} (a b : ℕ) (x y : A) → a < b → x ≡ cond (ltb a b) x y
below_yes a b x y h = rw (lt-ltb a b h)

below_no : {A : Type 0} (a b : ℕ) (x y : A) → b ≤ a → y ≡ cond (ltb a b) x y
below_no a b x y h = rw (le-ltb a b h)

pub second_17 : (ls : List LimitedLine) (o : SharingOutcome) → total (positives o.parts) < uncollected_sum ls o.parts → ceiling_refused 17 0 ≡ second_sharing ls o
unfolding second_sharing
second_17 ls o h = below_yes _ _ (ceiling_refused 17 0) (ceiling_accepted ls o) h

pub second_on : (ls : List LimitedLine) (o : SharingOutcome) → uncollected_sum ls o.parts ≤ total (positives o.parts) → ceiling_accepted ls o ≡ second_sharing ls o
unfolding second_sharing
second_on ls o h = below_no _ _ (ceiling_refused 17 0) (ceiling_accepted ls o) h
