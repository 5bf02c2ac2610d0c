-- When a reader's answer is known: the part cannot come back to its limit, or it is above it, or the lines' answer is known. Assumes nothing.
use mathlib.Core.Path.{◌≡◌, refl, ap, sym, ◌∙◌}
use mathlib.Core.Bool.{Bool, true, false, cond, not, ◌||◌, true≢false}
use mathlib.Core.List.{List, [], ◌∷◌}
use Prim.Native.Nat.{ℕ, suc, ◌+◌, ◌*◌, ◌-◌, ◌/◌, ◌≤◌, ◌<◌}
use native.Mathlib.Decide.{dec_lt}
use native.Mathlib.Omega.{arith}
use lib.Dec.{ltb, eqb}
use lib.ListN.{length, get_or, drop}
use borrow.Author.Tests.{ltb-true, ltb-false, eqb-true, not-true}
use Rattle.le.proofs.Tests.{each}
use Rattle.row.specs.declared.Row.{Row}
use Rattle.row.specs.Numbers.{lines_of, digits, not_empty, numbers, value, hold}
use Rattle.row.specs.Meaning.{is_row, row_at, row_parts, row_numbers}
use Rattle.row.proofs.Texts.{or_true, by_parts, grows}
use Rattle.row.proofs.Rows.{foreign}
use Rattle.share.specs.Sharing.{most_part}
use Rattle.lines.specs.declared.body.Listed.{Listed}
use Rattle.lines.specs.declared.Reader.{Reader}
use Rattle.std.proofs.Common.{Some, None}
use Rattle.lines.specs.declared.Taken.{Taken}
use Rattle.lines.specs.Text.{space, with_part, part_refused, part_then}
use Rattle.lines.specs.Meaning.{body_outcome, body_meaning, BodyStays, part_when, first_says, part_is_past, meaning}
use Rattle.lines.specs.Stream.{Tells, Stays}
use Rattle.lines.proofs.Parts.{part_fair, part_past, part_whole, part_none}

-- The part's line

-- the tests of a row of one number
abbrev tests : Row → List ℕ → List (List ℕ) → List Bool
tests row p ps = digits p ∷ (row.digit || not_empty p) ∷ numbers ps ∷ eqb (row.at + length ps) 0 ∷ []

-- what is left of the test where the line has one number so far
above : Row → Bool
above row = ltb (cond row.digit most_part (most_part / 10)) row.value

is_above : (row : Row) → row.bad ≡ false → row.at ≡ 0 → part_is_past row ≡ true → above row ≡ true
unfolding part_is_past above
is_above row b a h = rw (b, a) at h

-- a number of the line is above the limit
number_above : (row : Row) (p : List ℕ) → above row ≡ true → (row.digit || not_empty p) ≡ true → most_part < value row.value p
unfolding above
number_above row p h s = go row.digit p h s
  where
    go : (d : Bool) (q : List ℕ) → ltb (cond d most_part (most_part / 10)) row.value ≡ true → (d || not_empty q) ≡ true → most_part < value row.value q
    go true q k t = omega (arith, ltb-true most_part row.value k, grows row.value q)
    go false [] k t = absurd (true≢false (sym t))
    go false (b ∷ q) k t = omega (arith, ltb-true (most_part / 10) row.value k, grows (row.value * 10 + (b - 48)) q)

-- NO BYTES BRING IT BACK.
pub past_all : (row : Row) → part_is_past row ≡ true → (rest : List ℕ) → most_part < part_when row rest
unfolding row_numbers
past_all row h rest = by_parts space (λ ps. most_part < get_or (row_parts 0 row ps) 0 (suc most_part)) at rest
  where
    at : (p : List ℕ) (ps : List (List ℕ)) → most_part < get_or (row_at 0 row p ps) 0 (suc most_part)
    at p ps = go (is_row 0 row p ps) refl
      where
        go : (t : Bool) → is_row 0 row p ps ≡ t → most_part < get_or (row_at 0 row p ps) 0 (suc most_part)
        go false e = rw e (omega arith)
        go true e =
            let t = each (not row.bad) (tests row p ps) e in
            let a : row.at ≡ 0 = omega (arith, eqb-true (row.at + length ps) 0 t.1.1.1.1.0) in
            let n = number_above row p (is_above row (not-true row.bad t.0) a h) t.1.1.0 in
            rw (e, a) (omega (arith, n))

-- Otherwise some do

module _ (row : Row) (b : row.bad ≡ false) (a : row.at ≡ 0) where
  with_0 : part_when row (48 ∷ []) ≡ hold (row.value * 10 + 0)
  unfolding row_numbers
  with_0 = rw (b, a, or_true row.digit)

  with_1 : part_when row (49 ∷ []) ≡ hold (row.value * 10 + 1)
  unfolding row_numbers
  with_1 = rw (b, a, or_true row.digit)

  as_it_is : row.digit ≡ true → part_when row [] ≡ hold row.value
  as_it_is d = part_whole row (rw (b, a, d))

  without : row.digit ≡ false → part_when row [] ≡ suc most_part
  without d = part_none row (rw (b, a, d))

  spoilt : part_when row (0 ∷ []) ≡ suc most_part
  spoilt = ap (λ (ns : List ℕ). get_or ns 0 (suc most_part)) (foreign space 0 row 0 (λ e. omega arith) refl [])

module _ (s : Reader) (ahead : s.part ≡ None) where
  says_part : (rest : List ℕ) (p : ℕ) → part_when s.first (get_or (lines_of rest) 0 []) ≡ p → p ≤ most_part → (meaning s rest).part ≡ p
  unfolding meaning first_says
  says_part rest p e h =
      rw ahead
      (ap (λ (n : ℕ). (part_then n (body_outcome s.body (drop 1 (lines_of rest)))).part) e ∙ ap (λ (t : Taken). t.part) (part_fair p (body_outcome s.body (drop 1 (lines_of rest))) h))

  says_refused : (rest : List ℕ) → most_part < part_when s.first (get_or (lines_of rest) 0 []) → meaning s rest ≡ part_refused
  unfolding meaning first_says
  says_refused rest h = rw ahead (part_past _ (body_outcome s.body (drop 1 (lines_of rest))) h)

  says_none : (rest : List ℕ) → part_when s.first (get_or (lines_of rest) 0 []) ≡ suc most_part → (meaning s rest).part ≡ 0
  says_none rest e = ap (λ (t : Taken). t.part) (says_refused rest (omega (arith, e)))

  differs : (x y : List ℕ) (p q : ℕ) → (meaning s x).part ≡ p → (meaning s y).part ≡ q → (p ≡ q → ⊥) → Stays s → ⊥
  differs x y p q e f ne h = ne (sym e ∙ ap (λ (t : Taken). t.part) (h x ∙ sym (h y)) ∙ f)

  -- the three tests, each false
  ahead_open : part_is_past s.first ≡ false → Stays s → ⊥
  unfolding part_is_past
  ahead_open h = go s.first.bad (ltb 0 s.first.at) s.first.digit refl refl refl h
    where
      v : ℕ
      v = s.first.value

      go : (b a d : Bool) → s.first.bad ≡ b → ltb 0 s.first.at ≡ a → s.first.digit ≡ d → (b || a || ltb (cond d most_part (most_part / 10)) v) ≡ false → Stays s → ⊥
      go true a d eb ea ed k = absurd (true≢false k)
      go false true d eb ea ed k = absurd (true≢false k)
      go false false d eb ea ed k = small (dec_lt v 1000) d ed k
        where
          none : s.first.at ≡ 0
          none = omega (arith, ltb-false 0 s.first.at ea)

          small : Dec (v < 1000) → (d : Bool) → s.first.digit ≡ d → ltb (cond d most_part (most_part / 10)) v ≡ false → Stays s → ⊥
          small (yes l) d e m =
              differs (48 ∷ []) (49 ∷ []) (v * 10) (v * 10 + 1) (says_part (48 ∷ []) (v * 10) (with_0 s.first eb none ∙ omega arith) (omega arith))
              (says_part (49 ∷ []) (v * 10 + 1) (with_1 s.first eb none ∙ omega arith) (omega arith)) (λ f. omega arith)
          small (no l) true e m =
              let few = ltb-false most_part v m in
              differs [] (0 ∷ []) v 0 (says_part [] v (as_it_is s.first eb none e ∙ omega arith) few) (says_none (0 ∷ []) (spoilt s.first eb none)) (λ f. omega arith)
          small (no l) false e m =
              let few = ltb-false (most_part / 10) v m in
              differs (48 ∷ []) [] (v * 10) 0 (says_part (48 ∷ []) (v * 10) (with_0 s.first eb none ∙ omega arith) (omega arith))
              (says_none [] (without s.first eb none e)) (λ f. omega arith)

  pub tells_ahead : (t : Bool) → t ≡ part_is_past s.first → Tells (Stays s) t
  tells_ahead t e =
      record {
        yes = λ y rest.
            let past = past_all s.first (sym e ∙ y) in
            says_refused rest (past (get_or (lines_of rest) 0 [])) ∙ sym (says_refused [] (past []));
        no = λ n. ahead_open (sym e ∙ n);
      }

-- Behind the part

listed_same : (p : ℕ) (x y : Listed) → with_part p x ≡ with_part p y → x ≡ y
listed_same p x y q = λ i. record { number = (q i).number; place = (q i).place; count = (q i).count; lines = (q i).lines }

module _ (s : Reader) (part : ℕ) (behind : s.part ≡ Some part) where
  pub tells_past : most_part < part → Tells (Stays s) true
  unfolding meaning
  tells_past h =
      record {
        yes = λ e rest. rw behind (part_past part (body_meaning s.body rest) h ∙ sym (part_past part (body_meaning s.body []) h));
        no = λ e. absurd (true≢false e);
      }

  says_lines : part ≤ most_part → (rest : List ℕ) → meaning s rest ≡ with_part part (body_meaning s.body rest)
  unfolding meaning
  says_lines h rest = rw behind (part_fair part (body_meaning s.body rest) h)

  pub tells_lines : (t : Bool) → part ≤ most_part → Tells (BodyStays s.body) t → Tells (Stays s) t
  tells_lines t h k =
      record {
        yes = λ e rest. says_lines h rest ∙ ap (λ (l : Listed). with_part part l) (k.yes e rest) ∙ sym (says_lines h []);
        no = λ e same. k.no e (λ rest. listed_same part _ _ (sym (says_lines h rest) ∙ same rest ∙ says_lines h []));
      }
