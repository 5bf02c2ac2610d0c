-- Sums over minutes: of two together, of one value throughout, of what holds one value through each quarter hour. Assumes nothing.
use mathlib.Core.Path.{◌≡◌, refl, sym, ◌∙◌, ap}
use Prim.Native.Nat.{ℕ, zero, suc, ◌+◌, ◌-◌, ◌*◌, ◌/◌, ◌≤◌, ◌<◌}
use native.Mathlib.Nat.{zero-add, mul-zero, mul-suc}
use native.Mathlib.Omega.{arith}
use Rattle.pay.specs.Sum.{total}
use Rattle.pay.proofs.Sums.{total_split, total_same, total_zero}

-- the sum of sums
pub total_plus : (f g h : ℕ → ℕ) → ((i : ℕ) → h i ≡ f i + g i) → (s n : ℕ) → total h s n ≡ total f s n + total g s n
unfolding total
total_plus f g h e s zero = refl
total_plus f g h e s (suc n) = omega (arith, total_plus f g h e s n, e (s + n))

-- one value throughout
pub total_even : (f : ℕ → ℕ) (c s n : ℕ) → ((i : ℕ) → i < n → f (s + i) ≡ c) → total f s n ≡ c * n
unfolding total
total_even f c s zero e = sym (mul-zero c)
total_even f c s (suc n) e = rw (mul-suc c n) (omega (arith, total_even f c s n (λ i l. e i (omega arith)), e n (omega arith)))

-- nothing
pub total_none_of : (f : ℕ → ℕ) (s n : ℕ) → ((i : ℕ) → i < n → f (s + i) ≡ 0) → total f s n ≡ 0
total_none_of f s n e = total_same f (λ i. 0) s n e ∙ total_zero s n

-- what goes by the quarter hour: the minutes of so many quarter hours are 15 of each
pub by_quarters : (f h g : ℕ → ℕ) → ((minute : ℕ) → f minute ≡ h (minute / 15)) → ((i : ℕ) → g i ≡ h i * 15) → (q k : ℕ) → total f (15 * q) (15 * k) ≡ total g q k
unfolding total
by_quarters f h g e d q zero = refl
by_quarters f h g e d q (suc k) =
    let n : 15 * suc k ≡ 15 * k + 15 = omega arith in
    let one : (i : ℕ) → i < 15 → f (15 * q + 15 * k + i) ≡ h (q + k) =
    λ i l. let a : (15 * q + 15 * k + i) / 15 ≡ q + k = omega arith in e (15 * q + 15 * k + i) ∙ ap h a in
    rw n (omega (arith, total_split f (15 * q) (15 * k) 15, by_quarters f h g e d q k, total_even f (h (q + k)) (15 * q + 15 * k) 15 one, d (q + k)))

-- what is nothing but from s on, n of it
pub total_between : (f : ℕ → ℕ) (s n all : ℕ) → s + n ≤ all → ((i : ℕ) → i < s → f i ≡ 0) → ((i : ℕ) → s + n ≤ i → f i ≡ 0) → total f 0 all ≡ total f s n
total_between f s n all l low high =
    let e : all ≡ s + (n + (all - (s + n))) = omega arith in
    let a = total_none_of f 0 s (λ i h. rw zero-add (low i h)) in
    let c = total_none_of f (s + n) (all - (s + n)) (λ i h. high (s + n + i) (omega arith)) in
    ap (total f 0) e ∙ total_split f 0 s (n + (all - (s + n))) ∙ rw (zero-add, total_split f s n (all - (s + n))) (omega (arith, a, c))
