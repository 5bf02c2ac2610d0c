-- A run of a function that is nothing elsewhere: sums, a first bad one and one that holds are those of the run. Assumes nothing.
use mathlib.Core.Path.{◌≡◌, sym, ◌∙◌, ap}
use mathlib.Core.Bool.{Bool, false}
use Prim.Native.Nat.{ℕ, zero, suc, ◌+◌, ◌-◌, ◌≤◌, ◌<◌}
use native.Mathlib.Nat.{zero-add, add-zero, add-suc, le_refl}
use native.Mathlib.Decide.{dec_le}
use native.Mathlib.Omega.{arith}
use lib.IntN.{ℤ, pos, +ℤ_idr}
use Rattle.pay.specs.Sum.{total, total_z}
use Rattle.pay.proofs.Sums.{total_none, total_suc, total0_suc, total_same, total_zero, total_split, total_z_none, total_z_suc, total_z_zero}
use Rattle.score.specs.First.{first_nonzero, any_below}
use Rattle.score.proofs.First.{first_hit, first_bad_lem, first_before, first_all, first_of_all, any_none, any_suc}

-- g is what f has from s on, n of it, and f has nothing else below count
pub record Part {A : Type 0} (f g : ℕ → A) (none : A) (s n count : ℕ) : Type 0 where
  pub fits : s + n ≤ count
  pub low : (k : ℕ) → k < s → f k ≡ none
  pub part : (k : ℕ) → k < n → f (s + k) ≡ g k
  pub high : (k : ℕ) → s + n ≤ k → k < count → f k ≡ none

total_shifted : (f g : ℕ → ℕ) (s n : ℕ) → ((k : ℕ) → k < n → f (s + k) ≡ g k) → total f s n ≡ total g 0 n
total_shifted f g s zero h = total_none f s ∙ sym (total_none g 0)
total_shifted f g s (suc n) h = omega (arith, total_suc f s n, total0_suc g n, total_shifted f g s n (λ k l. h k (omega arith)), h n (omega arith))

pub total_part : (f g : ℕ → ℕ) (s n count : ℕ) → Part f g 0 s n count → total f 0 count ≡ total g 0 n
total_part f g s n count d =
    let e : count ≡ s + (n + (count - (s + n))) = omega (arith, d.fits) in
    let a : total f 0 s ≡ 0 = total_same f (λ i. 0) 0 s (λ i l. rw zero-add (d.low i l)) ∙ total_zero 0 s in
    let c : total f (s + n) (count - (s + n)) ≡ 0 = total_same f (λ i. 0) (s + n) (count - (s + n)) (λ i l. d.high (s + n + i) (omega arith) (omega arith)) ∙ total_zero (s + n) (count - (s + n)) in
    ap (λ (x : ℕ). total f 0 x) e ∙ total_split f 0 s (n + (count - (s + n)))
    ∙ rw (zero-add, total_split f s n (count - (s + n))) (omega (arith, a, c, total_shifted f g s n d.part))

-- zeros after
total_z_after : (f : ℕ → ℤ) (m r : ℕ) → ((j : ℕ) → j < r → f (m + j) ≡ pos 0) → total_z f (m + r) ≡ total_z f m
total_z_after f m zero h = rw add-zero
total_z_after f m (suc r) h =
    rw add-suc (total_z_suc f (m + r) ∙ rw (h r (omega arith), total_z_after f m r (λ j l. h j (omega arith))) (+ℤ_idr (total_z f m)))

total_z_shifted : (f g : ℕ → ℤ) (s n : ℕ) → total_z f s ≡ pos 0 → ((k : ℕ) → k < n → f (s + k) ≡ g k) → total_z f (s + n) ≡ total_z g n
total_z_shifted f g s zero z h = rw add-zero (z ∙ sym (total_z_none g))
total_z_shifted f g s (suc n) z h =
    rw add-suc (total_z_suc f (s + n) ∙ rw (h n (omega arith), total_z_shifted f g s n z (λ k l. h k (omega arith))) (sym (total_z_suc g n)))

pub total_z_part : (f g : ℕ → ℤ) (s n count : ℕ) → Part f g (pos 0) s n count → total_z f count ≡ total_z g n
total_z_part f g s n count d =
    let e : count ≡ (s + n) + (count - (s + n)) = omega (arith, d.fits) in
    ap (total_z f) e ∙ total_z_after f (s + n) (count - (s + n)) (λ j l. d.high (s + n + j) (omega arith) (omega arith))
    ∙ total_z_shifted f g s n (total_z_zero f s d.low) d.part

module _ (v u : ℕ → ℕ) (s n count : ℕ) (d : Part v u 0 s n count) where
  zero_below : (m : ℕ) → m ≤ n → ((k : ℕ) → k < m → u k ≡ 0) → (j : ℕ) → j < s + m → v j ≡ 0
  zero_below m l h j i = go (dec_le s j)
    where
      go : Dec (s ≤ j) → v j ≡ 0
      go (yes x) = let e : j ≡ s + (j - s) = omega arith in rw e (d.part (j - s) (omega arith) ∙ h (j - s) (omega arith))
      go (no x) = d.low j (omega arith)

  -- one that is bad is bad at its place from s on
  pub part_hit : first_nonzero u n < n
      → (first_nonzero v count ≡ s + first_nonzero u n) × (first_nonzero v (s + first_nonzero u n) ≡ s + first_nonzero u n) × (v (s + first_nonzero u n) ≡ u (first_nonzero u n))
  part_hit l =
      let f = first_nonzero u n in
      let b : first_nonzero v (s + f) ≡ s + f = first_of_all v (s + f) (zero_below f (omega arith) (first_before u n)) in
      let e : v (s + f) ≡ u f = d.part f l in
      (first_hit v (s + f) count (omega (arith, d.fits)) b (λ z. first_bad_lem u n l (sym e ∙ z)), b, e)

  pub part_none : first_nonzero u n ≡ n → first_nonzero v count ≡ count
  part_none h = first_of_all v count (λ j l. go j l (dec_le (s + n) j))
    where
      go : (j : ℕ) → j < count → Dec (s + n ≤ j) → v j ≡ 0
      go j l (yes x) = d.high j x l
      go j l (no x) = zero_below n (le_refl n) (first_all u n h) j (omega arith)

pub any_shifted : (f g : ℕ → Bool) (s k : ℕ) → any_below f s ≡ false → ((j : ℕ) → j < k → f (s + j) ≡ g j) → any_below f (s + k) ≡ any_below g k
any_shifted f g s zero z h = rw add-zero (z ∙ sym (any_none g))
any_shifted f g s (suc k) z h =
    rw add-suc (any_suc f (s + k) ∙ rw (any_shifted f g s k z (λ j l. h j (omega arith)), h k (omega arith)) (sym (any_suc g k)))
