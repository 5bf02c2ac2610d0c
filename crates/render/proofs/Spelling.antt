-- A number's digits, from the lowest on. Assumes nothing.
use mathlib.Core.Path.{◌≡◌, refl, sym, ◌∙◌, ap}
use mathlib.Core.List.{List, [], ◌∷◌, ◌++◌, append_assoc}
use Prim.Native.Nat.{ℕ, zero, suc, ◌+◌, ◌-◌, ◌/◌, ◌%◌, ◌^◌, ◌≤◌, ◌<◌}
use native.Mathlib.Nat.{pow-succ'}
use native.Mathlib.Decide.{dec_lt}
use native.Mathlib.Omega.{arith}
use lib.ListN.{length, set, take, drop, length-drop, length-set}
use lib.Seq.{drop-nil, take-length}
use Rattle.render.specs.Decimal.{digit, decimal_in, decimal}
use Rattle.render.proofs.Decimals.{small, large}

-- steps enough are enough
enough : (s t n : ℕ) → n ≤ s → n ≤ t → decimal_in s n ≡ decimal_in t n
enough zero t n h g = small zero n (omega arith) ∙ sym (small t n (omega arith))
enough (suc s) zero n h g = small (suc s) n (omega arith) ∙ sym (small zero n (omega arith))
enough (suc s) (suc t) n h g = go (dec_lt n 10) (λ f. enough s t (n / 10) (omega (arith, f, h)) (omega (arith, f, g)))
  where
    go : Dec (n < 10) → (10 ≤ n → decimal_in s (n / 10) ≡ decimal_in t (n / 10)) → decimal_in (suc s) n ≡ decimal_in (suc t) n
    go (yes f) k = small (suc s) n f ∙ sym (small (suc t) n f)
    go (no f) k =
        large s n (omega (arith, f)) ∙ ap (λ (l : List ℕ). l ++ (digit (n % 10) ∷ [])) (k (omega (arith, f)))
        ∙ sym (large t n (omega (arith, f)))

-- the last digit of a number of more than one, and those before it
more_digits : (n : ℕ) → 10 ≤ n → decimal n ≡ decimal (n / 10) ++ (digit (n % 10) ∷ [])
unfolding decimal
more_digits zero h = absurd (omega arith)
more_digits (suc m) h = large m (suc m) h ∙ ap (λ (l : List ℕ). l ++ (digit (suc m % 10) ∷ [])) (enough m (suc m / 10) (suc m / 10) (omega arith) (omega arith))

one_digit : (n : ℕ) → n < 10 → decimal n ≡ digit (n % 10) ∷ []
unfolding decimal
one_digit n h = small n n h ∙ ap (λ (d : ℕ). digit d ∷ []) (omega arith)

drop_set : (l : List ℕ) (k d : ℕ) → k < length l → drop k (set l k d) ≡ d ∷ drop (k + 1) l
drop_set [] k d h = absurd (omega arith)
drop_set (x ∷ l) zero d h = refl
drop_set (x ∷ l) (suc k) d h = let e : suc (k + 1) ≡ suc k + 1 = omega arith in drop_set l k d (omega arith) ∙ ap (λ (j : ℕ). d ∷ drop j (x ∷ l)) e

append_none : (l : List ℕ) → l ++ [] ≡ l
append_none [] = refl
append_none (x ∷ l) = ap (λ (m : List ℕ). x ∷ m) (append_none l)

drop_all : (k : ℕ) (l : List ℕ) → length l ≤ k → drop k l ≡ []
drop_all k [] h = drop-nil k
drop_all zero (x ∷ l) h = absurd (omega arith)
drop_all (suc k) (x ∷ l) h = drop_all k l (omega arith)

pub none_spelt : (n : ℕ) (text : List ℕ) → length text ≡ 20 → decimal n ++ drop 20 text ≡ decimal n
none_spelt n text h = ap (λ (l : List ℕ). decimal n ++ l) (drop_all 20 text (omega arith)) ∙ append_none (decimal n)

-- ten and more takes two places
pub two_places_lem : (k n : ℕ) → n < 10 ^ k → 10 ≤ n → 2 ≤ k
two_places_lem zero n h g = absurd (omega arith)
two_places_lem (suc zero) n h g = absurd (omega arith)
two_places_lem (suc (suc k)) n h g = omega arith

-- a tenth takes a place less
pub tenth : (k n : ℕ) → 1 ≤ k → n < 10 ^ k → n / 10 < 10 ^ (k - 1)
tenth zero n h g = absurd (omega arith)
tenth (suc k) n h g = let e : suc k - 1 ≡ k = omega arith in rw e (omega (arith, pow-succ' 10 k))

pub one_spelt : (n rest : ℕ) (text : List ℕ) (j d : ℕ) → 10 ≤ rest → 1 ≤ j → j ≤ length text → d ≡ digit (rest % 10) → decimal rest ++ drop j text ≡ decimal n
    → decimal (rest / 10) ++ drop (j - 1) (set text (j - 1) d) ≡ decimal n
one_spelt n rest text j d h low f e g =
    let k = j - 1 in
    let same : k + 1 ≡ j = omega arith in
    ap (λ (l : List ℕ). decimal (rest / 10) ++ l) (drop_set text k d (omega arith) ∙ ap (λ (x : ℕ). x ∷ drop (k + 1) text) e ∙ ap (λ (i : ℕ). digit (rest % 10) ∷ drop i text) same)
    ∙ sym (append_assoc (decimal (rest / 10)) (digit (rest % 10) ∷ []) (drop j text))
    ∙ ap (λ (l : List ℕ). l ++ drop j text) (sym (more_digits rest h)) ∙ g

last_spelt : (n rest : ℕ) (text : List ℕ) (j d : ℕ) → rest < 10 → 1 ≤ j → j ≤ length text → d ≡ digit (rest % 10) → decimal rest ++ drop j text ≡ decimal n
    → drop (j - 1) (set text (j - 1) d) ≡ decimal n
last_spelt n rest text j d h low f e g =
    let k = j - 1 in
    let same : k + 1 ≡ j = omega arith in
    drop_set text k d (omega arith) ∙ ap (λ (x : ℕ). x ∷ drop (k + 1) text) e ∙ ap (λ (i : ℕ). digit (rest % 10) ∷ drop i text) same
    ∙ ap (λ (l : List ℕ). l ++ drop j text) (sym (one_digit rest h)) ∙ g

pub digit_only : (n d : ℕ) → n < 10 → d ≡ digit (n % 10) → d ∷ [] ≡ decimal n
digit_only n d h e = ap (λ (x : ℕ). x ∷ []) e ∙ sym (one_digit n h)

-- what lies from a place on, as a part of the text
whole_part : (text : List ℕ) (k : ℕ) {l : List ℕ} → length text ≡ 20 → drop k text ≡ l → take (20 - k) (drop k text) ≡ l
whole_part text k h e =
    let long : 20 - k ≡ length (drop k text) = omega (arith, length-drop k text) in
    ap (λ (n : ℕ). take n (drop k text)) long ∙ take-length (drop k text) ∙ e

pub all_spelt : (n rest : ℕ) (text : List ℕ) (j d : ℕ) → rest < 10 → 1 ≤ j → j ≤ 20 → length text ≡ 20 → d ≡ digit (rest % 10) → decimal rest ++ drop j text ≡ decimal n
    → take (20 - (j - 1)) (drop (j - 1) (set text (j - 1) d)) ≡ decimal n
all_spelt n rest text j d h low high l e g = whole_part (set text (j - 1) d) (j - 1) (simp length-set l) (last_spelt n rest text j d h low (omega arith) e g)
