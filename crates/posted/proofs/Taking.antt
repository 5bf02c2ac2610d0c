-- Numbers at the front of a text. Assumes nothing.
use mathlib.Core.Path.{◌≡◌, refl, sym, ◌∙◌, ap}
use mathlib.Core.Bool.{Bool, true, false}
use mathlib.Core.List.{List, [], ◌∷◌, ◌++◌, append_assoc}
use Prim.Native.Nat.{ℕ, zero, suc, ◌+◌, ◌*◌, ◌-◌, ◌/◌, ◌%◌, ◌^◌, ◌≤◌, ◌<◌}
use native.Mathlib.Numerals.{add-one}
use native.Mathlib.Decide.{dec_lt}
use native.Mathlib.Omega.{arith}
use lib.Dec.{leb}
use borrow.Author.Tests.{le-leb, leb-true, ne_eqb}
use Rattle.le.proofs.Tests.{each}
use lib.ListN.{length, get_or, drop, drop_of_length-le}
use lib.Seq.{drop-cons, drop-length, drop_at}
use Rattle.row.specs.Numbers.{is_digit}
use Rattle.render.specs.Decimal.{digit, decimal_in, decimal}
use Rattle.render.proofs.Decimals.{small, none_left, large}
use Rattle.posted.specs.Inner.{worth, behind_digits, starts_digit, starts_minus, NumberIs, FieldIs}

-- Digits at the front

worth_digit : (v b : ℕ) (bs : List ℕ) → is_digit b ≡ true → worth v (b ∷ bs) ≡ worth (v * 10 + (b - 48)) bs
unfolding worth
worth_digit v b bs e = simp e

worth_other : (v b : ℕ) (bs : List ℕ) → is_digit b ≡ false → worth v (b ∷ bs) ≡ v
unfolding worth
worth_other v b bs e = simp e

behind_digit : (b : ℕ) (bs : List ℕ) → is_digit b ≡ true → behind_digits (b ∷ bs) ≡ behind_digits bs
unfolding behind_digits
behind_digit b bs e = simp e

behind_other : (b : ℕ) (bs : List ℕ) → is_digit b ≡ false → behind_digits (b ∷ bs) ≡ b ∷ bs
unfolding behind_digits
behind_other b bs e = simp e

-- digits behind make a number no smaller
worth_most : (v : ℕ) (bs : List ℕ) → v ≤ worth v bs
unfolding worth
worth_most v [] = omega arith
worth_most v (b ∷ bs) = go (is_digit b) refl (worth_most (v * 10 + (b - 48)) bs)
  where
    go : (t : Bool) → is_digit b ≡ t → v * 10 + (b - 48) ≤ worth (v * 10 + (b - 48)) bs → v ≤ worth v (b ∷ bs)
    go true e h = rw (worth_digit v b bs e) (omega arith)
    go false e h = rw (worth_other v b bs e) (omega arith)

-- what a loop over digits has, by what is left
pub record Left (t : List ℕ) (value next : ℕ) : Type 0 where
  pub rest : behind_digits (drop next t) ≡ behind_digits t
  pub is : worth 0 t < 2 ^ 64 → worth value (drop next t) ≡ worth 0 t

module _ (t : List ℕ) where
  pub left_start : Left t 0 0
  left_start = record { rest = refl; is = λ l. refl }

  module _ (value next : ℕ) (h : Left t value next) where
    pub left_step : (value' d : ℕ) → next < length t → is_digit (get_or t next 0) ≡ true → d ≡ get_or t next 0 - 48 → (value * 10 + d < 2 ^ 64 → value' ≡ value * 10 + d)
        → Left t value' (next + 1)
    left_step value' d l e g grows =
        let b = get_or t next 0 in
        let cut : drop next t ≡ b ∷ drop (next + 1) t = drop-cons t next 0 l ∙ ap (λ (k : ℕ). b ∷ drop k t) (sym (add-one next)) in
        let one : worth value (drop next t) ≡ worth (value * 10 + d) (drop (next + 1) t) =
        ap (worth value) cut ∙ worth_digit value b (drop (next + 1) t) e ∙ ap (λ (k : ℕ). worth (value * 10 + k) (drop (next + 1) t)) (sym g) in
        record {
          rest = sym (ap behind_digits cut ∙ behind_digit b (drop (next + 1) t) e) ∙ h.rest;
          is =
              λ few.
              let same = h.is few in
              let fits : value * 10 + d < 2 ^ 64 = omega (arith, worth_most (value * 10 + d) (drop (next + 1) t)) in
              ap (λ (k : ℕ). worth k (drop (next + 1) t)) (grows fits) ∙ sym one ∙ same;
        }

    pub left_other : next < length t → is_digit (get_or t next 0) ≡ false → NumberIs t value (drop next t)
    left_other l e =
        let b = get_or t next 0 in
        let cut : drop next t ≡ b ∷ drop (suc next) t = drop-cons t next 0 l in
        record {
          rest = cut ∙ sym (behind_other b (drop (suc next) t) e) ∙ ap behind_digits (sym cut) ∙ h.rest;
          is = λ few. sym (ap (worth value) cut ∙ worth_other value b (drop (suc next) t) e) ∙ h.is few;
        }

    pub left_ends : length t ≤ next → NumberIs t value (drop (length t) t)
    unfolding worth behind_digits
    left_ends l =
        let cut : drop next t ≡ [] = drop_of_length-le t l in
        record {
          rest = drop-length t ∙ ap behind_digits (sym cut) ∙ h.rest;
          is = λ few. sym (ap (worth value) cut) ∙ h.is few;
        }

-- a digit is a byte from 48 to 57
pub is_digit_lem : (b : ℕ) → is_digit b ≡ true → (48 ≤ b) × (b ≤ 57)
is_digit_lem b e = let p = each (leb 48 b) (leb b 57 ∷ []) e in (leb-true 48 b p.0, leb-true b 57 p.1.0)

-- Printed numbers

pub data Digits : List ℕ → Type 0 where
  none : Digits []
  more : (b : ℕ) {bs : List ℕ} → is_digit b ≡ true → Digits bs → Digits (b ∷ bs)

both : {xs ys : List ℕ} → Digits xs → Digits ys → Digits (xs ++ ys)
both none b = b
both (more x h a) b = more x h (both a b)

digit_is : (d : ℕ) → d < 10 → is_digit (digit d) ≡ true
digit_is d h = simp (le-leb 48 (48 + d) (omega arith), le-leb (48 + d) 57 (omega arith))

digits_in : (steps n : ℕ) → n ≤ steps → Digits (decimal_in steps n)
digits_in zero n h = rw (none_left n) (more (digit n) (digit_is n (omega arith)) none)
digits_in (suc s) n h = go (dec_lt n 10) (λ l. digits_in s (n / 10) (omega arith))
  where
    go : Dec (n < 10) → (10 ≤ n → Digits (decimal_in s (n / 10))) → Digits (decimal_in (suc s) n)
    go (yes f) front = rw (small (suc s) n f) (more (digit n) (digit_is n f) none)
    go (no f) front = rw (large s n (omega arith)) (both (front (omega arith)) (more (digit (n % 10)) (digit_is (n % 10) (omega arith)) none))

pub digits_only : (n : ℕ) → Digits (decimal n)
unfolding decimal
digits_only n = digits_in n n (omega arith)

worth_append : (v : ℕ) {xs : List ℕ} (ys : List ℕ) → Digits xs → worth v (xs ++ ys) ≡ worth (worth v xs) ys
unfolding worth
worth_append v ys none = refl
worth_append v ys (more b {bs} e a) = worth_digit v b (bs ++ ys) e ∙ worth_append (v * 10 + (b - 48)) ys a ∙ ap (λ (k : ℕ). worth k ys) (sym (worth_digit v b bs e))

behind_append : {xs : List ℕ} (ys : List ℕ) → Digits xs → behind_digits (xs ++ ys) ≡ behind_digits ys
behind_append ys none = refl
behind_append ys (more b {bs} e a) = behind_digit b (bs ++ ys) e ∙ behind_append ys a

one_digit : (v d : ℕ) → d < 10 → worth v (digit d ∷ []) ≡ v * 10 + d
unfolding worth
one_digit v d h = worth_digit v (digit d) [] (digit_is d h) ∙ omega arith

worth_in : (steps n : ℕ) → n ≤ steps → worth 0 (decimal_in steps n) ≡ n
worth_in zero n h = ap (worth 0) (small zero n (omega arith)) ∙ one_digit 0 n (omega arith) ∙ omega arith
worth_in (suc s) n h = go (dec_lt n 10) (λ f. worth_in s (n / 10) (omega arith))
  where
    go : Dec (n < 10) → (10 ≤ n → worth 0 (decimal_in s (n / 10)) ≡ n / 10) → worth 0 (decimal_in (suc s) n) ≡ n
    go (yes f) front = ap (worth 0) (small (suc s) n f) ∙ one_digit 0 n f ∙ omega arith
    go (no f) front =
        ap (worth 0) (large s n (omega arith)) ∙ worth_append 0 (digit (n % 10) ∷ []) (digits_in s (n / 10) (omega arith))
        ∙ ap (λ (v : ℕ). worth v (digit (n % 10) ∷ [])) (front (omega arith)) ∙ one_digit (n / 10) (n % 10) (omega arith) ∙ omega arith

worth_none : (v : ℕ) (rest : List ℕ) → starts_digit rest ≡ false → worth v rest ≡ v
unfolding worth starts_digit
worth_none v [] e = refl
worth_none v (b ∷ bs) e = worth_other v b bs e

behind_none : (rest : List ℕ) → starts_digit rest ≡ false → behind_digits rest ≡ rest
unfolding behind_digits starts_digit
behind_none [] e = refl
behind_none (b ∷ bs) e = behind_other b bs e

-- a printed number with no digit behind it is read, and what is behind it
pub worth_decimal : (n : ℕ) (rest : List ℕ) → starts_digit rest ≡ false → worth 0 (decimal n ++ rest) ≡ n
unfolding decimal
worth_decimal n rest e = worth_append 0 rest (digits_only n) ∙ ap (λ (v : ℕ). worth v rest) (worth_in n n (omega arith)) ∙ worth_none n rest e

pub behind_decimal : (n : ℕ) (rest : List ℕ) → starts_digit rest ≡ false → behind_digits (decimal n ++ rest) ≡ rest
behind_decimal n rest e = behind_append rest (digits_only n) ∙ behind_none rest e

-- the number behind a name
pub field_reads : (size : ℕ) (t from : List ℕ) (value : ℕ) (left : List ℕ) → from ≡ drop size t → NumberIs from value left → FieldIs size t value left
field_reads size t from value left h l =
    record {
      reads =
          λ name n rest long few e cut.
          let here : from ≡ decimal n ++ rest = h ∙ ap (drop size) (cut ∙ append_assoc name (decimal n) rest) ∙ drop_at name (decimal n ++ rest) size long in
          let is : worth 0 from ≡ n = ap (worth 0) here ∙ worth_decimal n rest e in
          (l.is (omega arith) ∙ is, l.rest ∙ ap behind_digits here ∙ behind_decimal n rest e);
    }

-- a printed number begins with a digit
starts_in : (steps n : ℕ) (rest : List ℕ) → n ≤ steps → starts_digit (decimal_in steps n ++ rest) ≡ true
unfolding starts_digit
starts_in zero n rest h = rw (none_left n) (digit_is n (omega arith))
starts_in (suc s) n rest h = go (dec_lt n 10) (λ l. starts_in s (n / 10) ((digit (n % 10) ∷ []) ++ rest) (omega arith))
  where
    go : Dec (n < 10) → (10 ≤ n → starts_digit (decimal_in s (n / 10) ++ ((digit (n % 10) ∷ []) ++ rest)) ≡ true) → starts_digit (decimal_in (suc s) n ++ rest) ≡ true
    go (yes f) front = rw (small (suc s) n f) (digit_is n f)
    go (no f) front = rw (large s n (omega arith), append_assoc) (front (omega arith))

pub starts : (n : ℕ) (rest : List ℕ) → starts_digit (decimal n ++ rest) ≡ true
unfolding decimal
starts n rest = starts_in n n rest (omega arith)

no_minus : (bs : List ℕ) → starts_digit bs ≡ true → starts_minus bs ≡ false
unfolding starts_digit starts_minus
no_minus [] e = refl
no_minus (b ∷ bs) e = let h = is_digit_lem b e in ne_eqb b 45 (λ f. absurd (omega arith))

pub unsigned : (n : ℕ) (rest : List ℕ) → starts_minus (decimal n ++ rest) ≡ false
unsigned n rest = no_minus (decimal n ++ rest) (starts n rest)
