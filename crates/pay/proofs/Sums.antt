-- Laws of sums over a run of indexes. Assumes nothing.
use mathlib.Core.Path.{◌≡◌, refl, sym, ◌∙◌}
use Prim.Native.Nat.{ℕ, zero, suc, ◌+◌, ◌*◌, ◌/◌, ◌%◌, ◌≤◌, ◌<◌}
use native.Mathlib.Nat.{add-zero, zero-add, add-suc, add_assoc, suc-mul}
use native.Mathlib.Numerals.{add-one}
use native.Mathlib.Omega.{arith}
use mathlib.Core.List.{List}
use lib.IntN.{ℤ, pos, ◌+ℤ◌}
use Rattle.pay.specs.Sum.{total, total_z}
use Rattle.pay.specs.Window.{quarter_at, window_pay}
use Rattle.pay.specs.declared.Member.{Member}

pub total_none : (f : ℕ → ℕ) (s : ℕ) → total f s 0 ≡ 0
unfolding total
total_none f s = refl

pub total_suc : (f : ℕ → ℕ) (s n : ℕ) → total f s (suc n) ≡ total f s n + f (s + n)
unfolding total
total_suc f s n = refl

pub total_one : (f : ℕ → ℕ) (s : ℕ) → total f s 1 ≡ f s
unfolding total
total_one f s = simp (zero-add, add-zero)

pub total0_suc : (f : ℕ → ℕ) (n : ℕ) → total f 0 (suc n) ≡ total f 0 n + f n
unfolding total
total0_suc f n = simp zero-add

-- a turn of a loop that adds the next term
pub total_step : (f : ℕ → ℕ) (s n : ℕ) {x y : ℕ} → x ≡ total f s n → y ≡ f (s + n) → x + y ≡ total f s (n + 1)
total_step f s n p q = rw (p, q, add-one) (sym (total_suc f s n))

pub total0_step : (f : ℕ → ℕ) (n : ℕ) {x y : ℕ} → x ≡ total f 0 n → y ≡ f n → x + y ≡ total f 0 (n + 1)
total0_step f n p q = total_step f 0 n p (rw zero-add q)

-- every term at most b: the sum at most b for each
pub total_most : (f : ℕ → ℕ) (b : ℕ) → ((i : ℕ) → f i ≤ b) → (s n : ℕ) → total f s n ≤ n * b
unfolding total
total_most f b h s zero = omega arith
total_most f b h s (suc n) = rw suc-mul (omega (arith, h (s + n), total_most f b h s n))

-- a run cut in two
pub total_split : (f : ℕ → ℕ) (s m n : ℕ) → total f s (m + n) ≡ total f s m + total f (s + m) n
unfolding total
total_split f s m zero = rw (add-zero, add-zero)
total_split f s m (suc n) = rw (add-suc, total_split f s m n) (simp (add_assoc))

-- the same terms, the same sum
pub total_same : (f g : ℕ → ℕ) (s n : ℕ) → ((i : ℕ) → i < n → f (s + i) ≡ g (s + i)) → total f s n ≡ total g s n
unfolding total
total_same f g s zero h = refl
total_same f g s (suc n) h = omega (arith, total_same f g s n (λ i l. h i (omega arith)), h n (omega arith))

pub total_zero : (s n : ℕ) → total (λ i. 0) s n ≡ 0
unfolding total
total_zero s zero = refl
total_zero s (suc n) = omega (arith, total_zero s n)

-- Signed sums

pub total_z_none : (f : ℕ → ℤ) → total_z f 0 ≡ pos 0
unfolding total_z
total_z_none f = refl

pub total_z_suc : (f : ℕ → ℤ) (n : ℕ) → total_z f (suc n) ≡ total_z f n +ℤ f n
unfolding total_z
total_z_suc f n = refl

pub total_z_step : (f : ℕ → ℤ) (n : ℕ) (x y : ℤ) → x ≡ total_z f n → y ≡ f n → x +ℤ y ≡ total_z f (n + 1)
total_z_step f n x y p q = rw (p, q, add-one) (sym (total_z_suc f n))

pub total_z_zero : (f : ℕ → ℤ) (s : ℕ) → ((k : ℕ) → k < s → f k ≡ pos 0) → total_z f s ≡ pos 0
total_z_zero f zero h = total_z_none f
total_z_zero f (suc s) h = total_z_suc f s ∙ rw (h s (omega arith), total_z_zero f s (λ k l. h k (omega arith)))

-- Cutting a window at a quarter hour inside it leaves its pay.
pub cut : (m : Member) (service a : ℕ) (series : List ℕ) (start first second : ℕ) → start % 15 ≡ 0 → first % 15 ≡ 0
    → window_pay m service a series start (first + second) ≡ window_pay m service a series start first + window_pay m service a series (start + first) second
unfolding window_pay
cut m service a series start first second hs hf =
    let e : (first + second) / 15 ≡ first / 15 + second / 15 = omega arith in
    let d : (start + first) / 15 ≡ start / 15 + first / 15 = omega arith in
    rw (e, d) (total_split (quarter_at m service a series) (start / 15) (first / 15) (second / 15))
