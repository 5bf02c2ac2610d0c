-- A function with its value at one place taken out, where it is nothing: sums, a first bad one and one that holds are the same. Assumes nothing.
use mathlib.Core.Path.{◌≡◌, refl, sym, ◌∙◌, ap, ap₂}
use mathlib.Core.Bool.{Bool, true, false, cond, ◌||◌}
use Prim.Native.Nat.{ℕ, zero, suc, ◌+◌, ◌-◌, ◌≤◌, ◌<◌}
use native.Mathlib.Nat.{add-zero, le_refl}
use native.Mathlib.Decide.{dec_le, dec_lt, ℕ_discrete}
use native.Mathlib.Omega.{arith}
use lib.Dec.{ltb}
use lib.IntN.{ℤ, pos, ◌+ℤ◌, +ℤ_idr}
use borrow.Author.Tests.{lt-ltb, le-ltb}
use Rattle.pay.specs.Sum.{total, total_z}
use Rattle.pay.proofs.Sums.{total_none, total0_suc, total_z_none, total_z_suc}
use Rattle.score.specs.First.{first_nonzero, any_below}
use Rattle.score.specs.Lowered.{lower_place}
use Rattle.score.proofs.First.{first_before, first_all, first_of_all, any_none, any_suc}

-- g is f without its value at j, which is nothing; g has n values, f one more
pub record Out {A : Type 0} (f g : ℕ → A) (none : A) (j n : ℕ) : Type 0 where
  pub fits : j ≤ n
  pub at : f j ≡ none
  pub before : (i : ℕ) → i < j → g i ≡ f i
  pub behind : (i : ℕ) → j ≤ i → i < n → g i ≡ f (suc i)

shorter : {A : Type 0} {f g : ℕ → A} {none : A} {j n : ℕ} → Out f g none j (suc n) → j ≤ n → Out f g none j n
shorter o l = record { fits = l; at = o.at; before = o.before; behind = λ i h t. o.behind i h (omega arith) }

-- What goes over the values in turn, and passes over nothing, is the same of both
module _ {A R : Type 0} (over : (ℕ → A) → ℕ → R) (one : R → A → R) (none : A) (start : (f g : ℕ → A) → over f 0 ≡ over g 0)
    (next : (f : ℕ → A) (n : ℕ) → over f (suc n) ≡ one (over f n) (f n)) (nothing : (r : R) → one r none ≡ r) where
  over-same : (f g : ℕ → A) (n : ℕ) → ((i : ℕ) → i < n → g i ≡ f i) → over g n ≡ over f n
  over-same f g zero h = start g f
  over-same f g (suc n) h = next g n ∙ ap₂ one (over-same f g n (λ i l. h i (omega arith))) (h n (omega arith)) ∙ sym (next f n)

  over-out : (f g : ℕ → A) (j n : ℕ) → Out f g none j n → over f (suc n) ≡ over g n
  over-out f g j zero o =
      let e : 0 ≡ j = omega (arith, o.fits) in
      next f 0 ∙ ap (one (over f 0)) (ap f e ∙ o.at) ∙ nothing (over f 0) ∙ start f g
  over-out f g j (suc n) o = go (λ p. over-out f g j n p) (dec_le j n)
    where
      go : (Out f g none j n → over f (suc n) ≡ over g n) → Dec (j ≤ n) → over f (suc (suc n)) ≡ over g (suc n)
      go ih (yes l) = next f (suc n) ∙ ap₂ one (ih (shorter o l)) (sym (o.behind n l (omega arith))) ∙ sym (next g n)
      go ih (no l) =
          let e : suc n ≡ j = omega (arith, o.fits) in
          next f (suc n) ∙ ap (one (over f (suc n))) (ap f e ∙ o.at) ∙ nothing (over f (suc n)) ∙ sym (over-same f g (suc n) (λ i h. o.before i (omega arith)))

pub total_out : (f g : ℕ → ℕ) (j n : ℕ) → Out f g 0 j n → total f 0 (suc n) ≡ total g 0 n
total_out = over-out (λ f n. total f 0 n) (λ x y. x + y) 0 (λ f g. total_none f 0 ∙ sym (total_none g 0)) total0_suc add-zero

pub total_z_out : (f g : ℕ → ℤ) (j n : ℕ) → Out f g (pos 0) j n → total_z f (suc n) ≡ total_z g n
total_z_out = over-out total_z (λ x y. x +ℤ y) (pos 0) (λ f g. total_z_none f ∙ sym (total_z_none g)) total_z_suc +ℤ_idr

or_none : (t : Bool) → (t || false) ≡ t
or_none true = refl
or_none false = refl

any_start : (f g : ℕ → Bool) → any_below f 0 ≡ any_below g 0
any_start f g = any_none f ∙ sym (any_none g)

pub any_out : (f g : ℕ → Bool) (j n : ℕ) → Out f g false j n → any_below f (suc n) ≡ any_below g n
any_out = over-out any_below (λ t u. t || u) false any_start any_suc or_none

pub any_same : (f g : ℕ → Bool) (n : ℕ) → ((i : ℕ) → i < n → g i ≡ f i) → any_below g n ≡ any_below f n
any_same = over-same any_below (λ t u. t || u) false any_start any_suc or_none

-- where value i of the shorter stands in the longer
pub raised : ℕ → ℕ → ℕ
raised j i = cond (ltb i j) i (suc i)

pub raised_before : (j i : ℕ) → i < j → raised j i ≡ i
unfolding raised
raised_before j i l = simp (lt-ltb i j l)

pub raised_behind : (j i : ℕ) → j ≤ i → raised j i ≡ suc i
unfolding raised
raised_behind j i l = simp (le-ltb i j l)

pub raised_less : (j i n : ℕ) → i < n → raised j i < suc n
raised_less j i n l = go (dec_le j i)
  where
    go : Dec (j ≤ i) → raised j i < suc n
    go (yes h) = omega (arith, raised_behind j i h)
    go (no h) = omega (arith, raised_before j i (omega arith))

pub lower_raised : (j i : ℕ) → lower_place j (raised j i) ≡ i
unfolding lower_place
lower_raised j i = go (dec_le j i)
  where
    go : Dec (j ≤ i) → lower_place j (raised j i) ≡ i
    go (yes l) = rw (raised_behind j i l) (simp (lt-ltb j (suc i) (omega arith)) (omega arith))
    go (no l) = rw (raised_before j i (omega arith)) (simp (le-ltb j i (omega arith)))

-- the first that is not 0
module _ (v u : ℕ → ℕ) (j n : ℕ) (o : Out v u 0 j n) where
  pub raised_value : (i : ℕ) → i < n → v (raised j i) ≡ u i
  raised_value i l = go (dec_le j i)
    where
      go : Dec (j ≤ i) → v (raised j i) ≡ u i
      go (yes h) = ap v (raised_behind j i h) ∙ sym (o.behind i h l)
      go (no h) = ap v (raised_before j i (omega arith)) ∙ sym (o.before i (omega arith))

  zero_below : (f : ℕ) → f ≤ n → ((i : ℕ) → i < f → u i ≡ 0) → (i : ℕ) → i < raised j f → v i ≡ 0
  zero_below f l h i t = go (dec_le j f) (dec_lt i j) (ℕ_discrete i j)
    where
      go : Dec (j ≤ f) → Dec (i < j) → Dec (i ≡ j) → v i ≡ 0
      go (yes p) (yes q) d = sym (o.before i q) ∙ h i (omega arith)
      go (yes p) (no q) (yes e) = ap v e ∙ o.at
      go (yes p) (no q) (no e) =
          let b : i < suc f = rw (raised_behind j f p) at t in
          let k : i ≡ suc (i - 1) = omega arith in
          ap v k ∙ sym (o.behind (i - 1) (omega arith) (omega arith)) ∙ h (i - 1) (omega arith)
      go (no p) q d =
          let b : i < f = rw (raised_before j f (omega arith)) at t in
          sym (o.before i (omega arith)) ∙ h i b

  pub first_out : first_nonzero u n < n → first_nonzero v (raised j (first_nonzero u n)) ≡ raised j (first_nonzero u n)
  first_out l = first_of_all v (raised j (first_nonzero u n)) (zero_below (first_nonzero u n) (omega arith) (first_before u n))

  pub none_out : first_nonzero u n ≡ n → first_nonzero v (suc n) ≡ suc n
  none_out e = first_of_all v (suc n) (λ i l. zero_below n (le_refl n) (first_all u n e) i (rw (raised_behind j n o.fits) l))
