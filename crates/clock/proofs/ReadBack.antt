-- What is written as a date or a length reads back as its minutes. Assumes nothing.
use mathlib.Core.Path.{◌≡◌, refl, sym, ◌∙◌, ap}
use mathlib.Core.Bool.{Bool, true, false, ◌||◌, true≢false}
use mathlib.Core.List.{List, [], ◌∷◌, ◌++◌, append_assoc}
use Prim.Native.Nat.{ℕ, zero, suc, ◌+◌, ◌*◌, ◌-◌, ◌/◌, ◌%◌, ◌≤◌, ◌<◌}
use native.Mathlib.Decide.{dec_lt, ℕ_discrete}
use native.Mathlib.Omega.{arith}
use lib.Dec.{eqb, ltb, leb}
use borrow.Author.Tests.{le-leb, lt-ltb, ne_eqb}
use Rattle.le.proofs.Tests.{each, all}
use Rattle.row.specs.Numbers.{is_digit, digits, not_empty, value, hold, ceiling}
use Rattle.render.specs.Decimal.{word, digit, decimal_in, decimal}
use Rattle.render.proofs.Decimals.{small, none_left, large}
use Rattle.std.specs.Prelude.{Some}
use Rattle.clock.specs.Clock.{slash, colon, letter_h, letter_m, has, before, behind, number_in, up_to16_bits, date_of, start_of, minutes_in, rest_in, length_of}
use Rattle.clock.specs.Clock.{two_digits, clock_text, date_text, hours_text, minutes_text, length_text}
use Rattle.clock.proofs.Parts.{before_here, before_on, behind_here, behind_on, has_here, has_on}
use Rattle.clock.proofs.Lengths.{in_minutes, in_hours, in_both}

-- Digits

value_append : (v : ℕ) (xs ys : List ℕ) → value v (xs ++ ys) ≡ value (value v xs) ys
value_append v [] ys = refl
value_append v (x ∷ xs) ys = value_append (v * 10 + (x - 48)) xs ys

one_digit : (v d : ℕ) → value v (digit d ∷ []) ≡ v * 10 + d
one_digit v d = omega arith

value_in : (steps n : ℕ) → n ≤ steps → value 0 (decimal_in steps n) ≡ n
value_in zero n h = ap (value 0) (small zero n (omega arith)) ∙ one_digit 0 n ∙ omega arith
value_in (suc s) n h = go (dec_lt n 10) (λ f. value_in s (n / 10) (omega arith))
  where
    go : Dec (n < 10) → (10 ≤ n → value 0 (decimal_in s (n / 10)) ≡ n / 10) → value 0 (decimal_in (suc s) n) ≡ n
    go (yes f) front = ap (value 0) (small (suc s) n f) ∙ one_digit 0 n ∙ omega arith
    go (no f) front =
        ap (value 0) (large s n (omega arith)) ∙ value_append 0 (decimal_in s (n / 10)) (digit (n % 10) ∷ [])
        ∙ ap (λ (v : ℕ). value v (digit (n % 10) ∷ [])) (front (omega arith)) ∙ one_digit (n / 10) (n % 10) ∙ omega arith

-- the digits of a number are worth the number
pub value_decimal : (n : ℕ) → value 0 (decimal n) ≡ n
unfolding decimal
value_decimal n = value_in n n (omega arith)

is_digit_lem : (d : ℕ) → d < 10 → is_digit (digit d) ≡ true
is_digit_lem d h = all (leb 48 (digit d)) (leb (digit d) 57 ∷ []) (le-leb 48 (digit d) (omega arith), (le-leb (digit d) 57 (omega arith), tt))

one_is : (d : ℕ) → d < 10 → digits (digit d ∷ []) ≡ true
one_is d h = rw (is_digit_lem d h)

digits_append : (xs ys : List ℕ) → digits xs ≡ true → digits ys ≡ true → digits (xs ++ ys) ≡ true
digits_append [] ys h k = k
digits_append (x ∷ xs) ys h k = let p = each (is_digit x) (digits xs ∷ []) h in rw p.0 (digits_append xs ys p.1.0 k)

digits_in : (steps n : ℕ) → n ≤ steps → digits (decimal_in steps n) ≡ true
digits_in zero n h = rw (none_left n) (one_is n (omega arith))
digits_in (suc s) n h = go (dec_lt n 10) (λ f. digits_in s (n / 10) (omega arith))
  where
    go : Dec (n < 10) → (10 ≤ n → digits (decimal_in s (n / 10)) ≡ true) → digits (decimal_in (suc s) n) ≡ true
    go (yes f) front = rw (small (suc s) n f) (one_is n f)
    go (no f) front = rw (large s n (omega arith)) (digits_append (decimal_in s (n / 10)) (digit (n % 10) ∷ []) (front (omega arith)) (one_is (n % 10) (omega arith)))

decimal_digits : (n : ℕ) → digits (decimal n) ≡ true
unfolding decimal
decimal_digits n = digits_in n n (omega arith)

longer : (xs ys : List ℕ) → not_empty xs ≡ true → not_empty (xs ++ ys) ≡ true
longer [] ys h = absurd (true≢false (sym h))
longer (x ∷ xs) ys h = refl

some_digit : (steps n : ℕ) → not_empty (decimal_in steps n) ≡ true
some_digit zero n = rw (none_left n)
some_digit (suc s) n = go (dec_lt n 10) (some_digit s (n / 10))
  where
    go : Dec (n < 10) → not_empty (decimal_in s (n / 10)) ≡ true → not_empty (decimal_in (suc s) n) ≡ true
    go (yes f) front = rw (small (suc s) n f)
    go (no f) front = rw (large s n (omega arith)) (longer (decimal_in s (n / 10)) (digit (n % 10) ∷ []) front)

decimal_some : (n : ℕ) → not_empty (decimal n) ≡ true
unfolding decimal
decimal_some n = some_digit n n

-- a text of digits says its number
says : (text : List ℕ) (n : ℕ) → digits text ≡ true → not_empty text ≡ true → value 0 text ≡ n → n < ceiling → number_in text ≡ n
unfolding number_in
says text n d s e h = rw (d, s) (ap hold e ∙ omega arith)

decimal_says : (n : ℕ) → n < ceiling → number_in (decimal n) ≡ n
decimal_says n h = says (decimal n) n (decimal_digits n) (decimal_some n) (value_decimal n) h

two_digits_lem : (n : ℕ) → digits (two_digits n) ≡ true
unfolding two_digits
two_digits_lem n = rw (is_digit_lem (n / 10 % 10) (omega arith), is_digit_lem (n % 10) (omega arith))

two_some : (n : ℕ) → not_empty (two_digits n) ≡ true
unfolding two_digits
two_some n = refl

two_worth : (n : ℕ) → n < 100 → value 0 (two_digits n) ≡ n
unfolding two_digits
two_worth n h = omega arith

two_says : (n : ℕ) → n < 100 → number_in (two_digits n) ≡ n
two_says n h = says (two_digits n) n (two_digits_lem n) (two_some n) (two_worth n h) (omega arith)

-- Parts

-- no digit is such a byte
no_mark : (mark : ℕ) (text : List ℕ) → is_digit mark ≡ false → digits text ≡ true → has mark text ≡ false
unfolding has
no_mark mark [] m d = refl
no_mark mark (b ∷ bs) m d =
    let p = each (is_digit b) (digits bs ∷ []) d in
    let other : b ≡ mark → ⊥ = λ e. true≢false (sym p.0 ∙ ap is_digit e ∙ m) in
    rw (ne_eqb b mark other) (no_mark mark bs m p.1.0)

-- a text without such a byte, one, and a text behind it
module _ (mark : ℕ) (ys : List ℕ) where
  abbrev whole : List ℕ → List ℕ
  whole xs = xs ++ (mark ∷ ys)

  record Parted (xs : List ℕ) : Type 0 where
    marked : has mark (whole xs) ≡ true
    front : before mark (whole xs) ≡ xs
    rest : behind mark (whole xs) ≡ ys

  parted : (xs : List ℕ) → has mark xs ≡ false → Parted xs
  unfolding has
  parted [] h = record { marked = has_here mark mark ys refl; front = before_here mark mark ys refl; rest = behind_here mark mark ys refl }
  parted (x ∷ xs) h = go (ℕ_discrete x mark) (λ f. parted xs f)
    where
      go : Dec (x ≡ mark) → (has mark xs ≡ false → Parted xs) → Parted (x ∷ xs)
      go (yes e) more = absurd (true≢false (sym (has_here mark x xs e) ∙ h))
      go (no e) more =
          let p = more (sym (has_on mark x xs e) ∙ h) in
          record {
            marked = has_on mark x (whole xs) e ∙ p.marked;
            front = before_on mark x (whole xs) e ∙ ap (λ (l : List ℕ). x ∷ l) p.front;
            rest = behind_on mark x (whole xs) e ∙ p.rest;
          }

-- A start

within_16 : (n : ℕ) → n ≤ 65535 → up_to16_bits n ≡ Some n
unfolding up_to16_bits
within_16 n h = rw (le-leb n 65535 h)

date_minutes : (days m : ℕ) → m < days * 1440 → m ≤ 65535 → date_of days (m / 1440 + 1) (m % 1440 / 60) (m % 60) ≡ Some m
unfolding date_of
date_minutes days m h k =
    let there = all (leb 1 (m / 1440 + 1)) (leb (m / 1440 + 1) days ∷ ltb (m % 1440 / 60) 24 ∷ ltb (m % 60) 60 ∷ [])
    (le-leb 1 (m / 1440 + 1) (omega arith), (le-leb (m / 1440 + 1) days (omega arith), (lt-ltb (m % 1440 / 60) 24 (omega arith), (lt-ltb (m % 60) 60 (omega arith), tt)))) in
    let same : (m / 1440 + 1 - 1) * 1440 + m % 1440 / 60 * 60 + m % 60 ≡ m = omega arith in
    rw there (ap (λ (n : ℕ). up_to16_bits n) same ∙ within_16 m k)

dated : (m : ℕ) → date_text m ≡ decimal (m / 1440 + 1) ++ (slash ∷ clock_text m)
unfolding date_text
dated m = append_assoc (decimal (m / 1440 + 1)) (word "/") (clock_text m)

timed : (m : ℕ) → clock_text m ≡ two_digits (m % 1440 / 60) ++ (colon ∷ two_digits (m % 60))
unfolding clock_text
timed m = append_assoc (two_digits (m % 1440 / 60)) (word ":") (two_digits (m % 60))

-- A DATE IS READ AS THE MINUTE THAT IT WAS WRITTEN FOR, in each month that has the minute.
pub start_back : (days m : ℕ) → m < days * 1440 → m ≤ 65535 → start_of days (date_text m) ≡ Some m
unfolding start_of
start_back days m h k =
    let day = decimal (m / 1440 + 1) in
    let hour = two_digits (m % 1440 / 60) in
    let minute = two_digits (m % 60) in
    let date = parted slash (clock_text m) day (no_mark slash day refl (decimal_digits (m / 1440 + 1))) in
    let time = parted colon minute hour (no_mark colon hour refl (two_digits_lem (m % 1440 / 60))) in
    let marked : has slash (date_text m) ≡ true = ap (has slash) (dated m) ∙ date.marked in
    let rest : behind slash (date_text m) ≡ hour ++ (colon ∷ minute) = ap (behind slash) (dated m) ∙ date.rest ∙ timed m in
    let one : number_in (before slash (date_text m)) ≡ m / 1440 + 1 = ap number_in (ap (before slash) (dated m) ∙ date.front) ∙ decimal_says (m / 1440 + 1) (omega arith) in
    let two : number_in (before colon (behind slash (date_text m))) ≡ m % 1440 / 60 = ap number_in (ap (before colon) rest ∙ time.front) ∙ two_says (m % 1440 / 60) (omega arith) in
    let three : number_in (behind colon (behind slash (date_text m))) ≡ m % 60 = ap number_in (ap (behind colon) rest ∙ time.rest) ∙ two_says (m % 60) (omega arith) in
    rw (marked, one, two, three) (date_minutes days m h k)

-- A length

none_more : (mark b : ℕ) → (b ≡ mark → ⊥) → (xs : List ℕ) → has mark xs ≡ false → has mark (xs ++ (b ∷ [])) ≡ false
unfolding has
none_more mark b e [] h = rw (ne_eqb b mark e)
none_more mark b e (x ∷ xs) h = go (eqb x mark) h (λ f. none_more mark b e xs f)
  where
    go : (t : Bool) → (t || has mark xs) ≡ false → (has mark xs ≡ false → has mark (xs ++ (b ∷ [])) ≡ false) → (t || has mark (xs ++ (b ∷ []))) ≡ false
    go true f rest = absurd (true≢false f)
    go false f rest = rest f

minutes_says : (n : ℕ) → n < ceiling → minutes_in (minutes_text n) ≡ n
unfolding minutes_in minutes_text
minutes_says n h =
    let p = parted letter_m [] (decimal n) (no_mark letter_m (decimal n) refl (decimal_digits n)) in
    rw (p.marked, p.rest, p.front) (decimal_says n h)

no_hour : (n : ℕ) → has letter_h (minutes_text n) ≡ false
unfolding minutes_text
no_hour n = none_more letter_h letter_m (λ e. omega arith) (decimal n) (no_mark letter_h (decimal n) refl (decimal_digits n))

minutes_some : (n : ℕ) → not_empty (minutes_text n) ≡ true
unfolding minutes_text
minutes_some n = longer (decimal n) (word "m") (decimal_some n)

-- each of the three forms
of_minutes : (n : ℕ) → n ≤ 65535 → length_of (minutes_text n) ≡ Some n
unfolding length_of
of_minutes n h = rw (no_hour n, minutes_says n (omega arith)) (within_16 n h)

hours_parted : (n : ℕ) (ys : List ℕ) → Parted letter_h ys (decimal n)
hours_parted n ys = parted letter_h ys (decimal n) (no_mark letter_h (decimal n) refl (decimal_digits n))

of_hours : (n : ℕ) → n ≤ 65535 → n % 60 ≡ 0 → length_of (hours_text (n / 60)) ≡ Some n
unfolding length_of hours_text rest_in
of_hours n h e =
    let p = hours_parted (n / 60) [] in
    let same : n / 60 * 60 + 0 ≡ n = omega arith in
    rw (p.marked, p.front, p.rest, decimal_says (n / 60) (omega arith)) (ap (λ (k : ℕ). up_to16_bits k) same ∙ within_16 n h)

both : (n : ℕ) → hours_text (n / 60) ++ minutes_text (n % 60) ≡ decimal (n / 60) ++ (letter_h ∷ minutes_text (n % 60))
unfolding hours_text
both n = append_assoc (decimal (n / 60)) (word "h") (minutes_text (n % 60))

rest_says : (n : ℕ) → n < ceiling → rest_in (minutes_text n) ≡ n
unfolding rest_in
rest_says n h = rw (minutes_some n) (minutes_says n h)

of_both : (n : ℕ) → n ≤ 65535 → length_of (hours_text (n / 60) ++ minutes_text (n % 60)) ≡ Some n
unfolding length_of
of_both n h =
    let t = hours_text (n / 60) ++ minutes_text (n % 60) in
    let p = hours_parted (n / 60) (minutes_text (n % 60)) in
    let same : n / 60 * 60 + n % 60 ≡ n = omega arith in
    let marked : has letter_h t ≡ true = ap (has letter_h) (both n) ∙ p.marked in
    let front : number_in (before letter_h t) ≡ n / 60 = ap number_in (ap (before letter_h) (both n) ∙ p.front) ∙ decimal_says (n / 60) (omega arith) in
    let rest : rest_in (behind letter_h t) ≡ n % 60 = ap rest_in (ap (behind letter_h) (both n) ∙ p.rest) ∙ rest_says (n % 60) (omega arith) in
    rw (marked, front, rest) (ap (λ (k : ℕ). up_to16_bits k) same ∙ within_16 n h)

-- A LENGTH IS READ AS THE MINUTES THAT IT WAS WRITTEN FOR.
pub length_back : (n : ℕ) → n ≤ 65535 → length_of (length_text n) ≡ Some n
length_back n h = go (dec_lt n 60) (ℕ_discrete (n % 60) 0)
  where
    go : Dec (n < 60) → Dec (n % 60 ≡ 0) → length_of (length_text n) ≡ Some n
    go (yes l) d = ap (λ (t : List ℕ). length_of t) (sym (in_minutes n l)) ∙ of_minutes n h
    go (no l) (yes d) = ap (λ (t : List ℕ). length_of t) (sym (in_hours n (omega arith) d)) ∙ of_hours n h d
    go (no l) (no d) = ap (λ (t : List ℕ). length_of t) (sym (in_both n (omega arith) d)) ∙ of_both n h
