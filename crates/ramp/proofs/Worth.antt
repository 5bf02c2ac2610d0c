-- What a fraction is worth: the operations on fractions keep it, and fractions of one worth are cut alike. Assumes nothing.
use mathlib.Core.Path.{◌≡◌, refl, sym, ◌∙◌, ap}
use mathlib.Core.Bool.{Bool, true, false, cond}
use Prim.Native.Nat.{ℕ, zero, suc, ◌+◌, ◌-◌, ◌*◌, ◌/◌, ◌≤◌, ◌<◌}
use native.Mathlib.Nat.{mul-zero, mul_comm, mul-pos, zero-div, mul-div-mul_right, le_of_mul-le-mul_right, eq_of_mul-eq-mul_right}
use native.Mathlib.Omega.{arith}
use lib.Dec.{ltb}
use lib.IntN.{ℤ, pos, negsuc, sub_ℕ, neg_ℤ, ◌+ℤ◌, ◌-ℤ◌, ◌*ℤ◌}
use borrow.Author.Tests.{ltb-true, ltb-false}
use Rattle.ramp.specs.Fractions.{Fraction, fraction, plus, less, times, whole_of, cut}

-- Whole numbers, above and below zero

-- how far above zero, how far below
abbrev pub up : ℤ → ℕ
up (pos n) = n
up (negsuc n) = 0

abbrev pub down : ℤ → ℕ
down (pos n) = 0
down (negsuc n) = suc n

between : (a b : ℕ) → up (sub_ℕ a b) + b ≡ down (sub_ℕ a b) + a
between a b = go (ltb a b) refl
  where
    go : (t : Bool) → ltb a b ≡ t → up (cond t (negsuc (b - suc a)) (pos (a - b))) + b ≡ down (cond t (negsuc (b - suc a)) (pos (a - b))) + a
    go true e = omega (arith, ltb-true a b e)
    go false e = omega (arith, ltb-false a b e)

pub added : (x y : ℤ) → up (x +ℤ y) + down x + down y ≡ down (x +ℤ y) + up x + up y
added (pos a) (pos b) = omega arith
added (pos a) (negsuc b) = omega (arith, between a (suc b))
added (negsuc a) (pos b) = omega (arith, between b (suc a))
added (negsuc a) (negsuc b) = omega arith

pub turned : (x : ℤ) → (up (neg_ℤ x) ≡ down x) × (down (neg_ℤ x) ≡ up x)
turned (pos zero) = (refl, refl)
turned (pos (suc n)) = (refl, refl)
turned (negsuc n) = (refl, refl)

pub taken_off : (x y : ℤ) → up (x -ℤ y) + down x + up y ≡ down (x -ℤ y) + up x + down y
taken_off x y = omega (arith, added x (neg_ℤ y), turned y)

-- so many times a whole number
pub multiplied : (n : ℕ) (x : ℤ) → (up (pos n *ℤ x) ≡ n * up x) × (down (pos n *ℤ x) ≡ n * down x)
multiplied n (pos m) = (refl, sym (mul-zero n))
multiplied n (negsuc m) = ((turned (pos (n * suc m))).0 ∙ sym (mul-zero n), (turned (pos (n * suc m))).1)

pub scaled : (x : ℤ) (n : ℕ) → (up (x *ℤ pos n) ≡ up x * n) × (down (x *ℤ pos n) ≡ down x * n)
scaled (pos m) n = (refl, omega arith)
scaled (negsuc m) n = ((turned (pos (suc m * n))).0 ∙ omega arith, (turned (pos (suc m * n))).1)

-- Fractions

-- x is worth f less g over d
pub record Worth (x : Fraction) (f g d : ℕ) : Type 0 where
  pub divides : 0 < x.denominator
  pub equals : up x.numerator * d + g * x.denominator ≡ down x.numerator * d + f * x.denominator

pub worth_fraction : (n d : ℕ) → 0 < d → Worth (fraction n d) n 0 d
unfolding fraction
worth_fraction n d h = record { divides = h; equals = omega arith }

pub worth_itself : (z : ℤ) (f g d : ℕ) → 0 < d → up z + g ≡ down z + f → Worth (record { numerator = z; denominator = d }) f g d
worth_itself z f g d h e = record { divides = h; equals = omega (arith, ap (λ n. n * d) e) }

-- over another denominator, or with another pair of numbers as far apart
pub worth_over : {x : Fraction} {f g d : ℕ} (k : ℕ) → Worth x f g d → Worth x (f * k) (g * k) (d * k)
worth_over k w = record { divides = w.divides; equals = omega (arith, ap (λ n. n * k) w.equals) }

pub worth_cancel : {x : Fraction} {f g d : ℕ} (k : ℕ) → 0 < k → Worth x (f * k) (g * k) (d * k) → Worth x f g d
worth_cancel {x} {f} {g} {d} k h w =
    record {
      divides = w.divides;
      equals = eq_of_mul-eq-mul_right k h (up x.numerator * d + g * x.denominator) (down x.numerator * d + f * x.denominator) (omega (arith, w.equals));
    }

pub worth_as : {x : Fraction} {f g d : ℕ} (u v e : ℕ) → Worth x f g d → d ≡ e → f + v ≡ u + g → Worth x u v e
worth_as {x} u v e w p q =
    record { divides = w.divides; equals = omega (arith, w.equals, ap (λ n. up x.numerator * n) p, ap (λ n. down x.numerator * n) p, ap (λ n. n * x.denominator) q) }

-- sum and difference over one denominator
plus_worth : (U D p q r s e k d f g u v : ℕ) → U + q * k + s * e ≡ D + p * k + r * e → p * d + g * e ≡ q * d + f * e → r * d + v * k ≡ s * d + u * k
    → U * d + (g + v) * (e * k) ≡ D * d + (f + u) * (e * k)
plus_worth U D p q r s e k d f g u v a b c = omega (arith, ap (λ n. n * d) a, ap (λ n. n * k) b, ap (λ n. n * e) c)

pub worth_plus : {x y : Fraction} {f g u v d : ℕ} → Worth x f g d → Worth y u v d → Worth (plus x y) (f + u) (g + v) d
unfolding plus
worth_plus {x} {y} {f} {g} {u} {v} {d} w z =
    let e = x.denominator in
    let k = y.denominator in
    let s = x.numerator *ℤ pos k in
    let t = y.numerator *ℤ pos e in
    record {
      divides = mul-pos w.divides z.divides;
      equals = plus_worth (up (s +ℤ t)) (down (s +ℤ t)) (up x.numerator) (down x.numerator) (up y.numerator) (down y.numerator) e k d f g u v
          (omega (arith, added s t, scaled x.numerator k, scaled y.numerator e)) w.equals z.equals;
    }

pub worth_less : {x y : Fraction} {f g u v d : ℕ} → Worth x f g d → Worth y u v d → Worth (less x y) (f + v) (g + u) d
unfolding less
worth_less {x} {y} {f} {g} {u} {v} {d} w z =
    let e = x.denominator in
    let k = y.denominator in
    let s = x.numerator *ℤ pos k in
    let t = y.numerator *ℤ pos e in
    record {
      divides = mul-pos w.divides z.divides;
      equals = plus_worth (up (s -ℤ t)) (down (s -ℤ t)) (up x.numerator) (down x.numerator) (down y.numerator) (up y.numerator) e k d f g v u
          (omega (arith, taken_off s t, scaled x.numerator k, scaled y.numerator e)) w.equals (sym z.equals);
    }

-- a fraction of it
times_worth : (U D p q n e k d f g : ℕ) → U ≡ n * p → D ≡ n * q → p * d + g * k ≡ q * d + f * k → U * (e * d) + n * g * (e * k) ≡ D * (e * d) + n * f * (e * k)
times_worth U D p q n e k d f g a b c = omega (arith, ap (λ m. m * (e * d)) a, ap (λ m. m * (e * d)) b, ap (λ m. m * (n * e)) c)

pub worth_times : {x : Fraction} {f g d : ℕ} (n e : ℕ) → 0 < e → Worth x f g d → Worth (times (fraction n e) x) (n * f) (n * g) (e * d)
unfolding times fraction
worth_times {x} {f} {g} {d} n e h w =
    let z = x.numerator in
    record {
      divides = mul-pos h w.divides;
      equals = times_worth (up (pos n *ℤ z)) (down (pos n *ℤ z)) (up z) (down z) n e x.denominator d f g (multiplied n z).0 (multiplied n z).1 w.equals;
    }

-- CUT ALIKE: a fraction is cut to the whole part of what it is worth, 0 where that is below zero
whole : (n k d f g : ℕ) → 0 < k → 0 < d → g ≤ f → n * d + g * k ≡ f * k → n / k ≡ (f - g) / d
whole n k d f g p q h e =
    let c : ℕ = f - g in
    let r : c + g ≡ f = omega arith in
    let s : n * d ≡ c * k = omega (arith, ap (λ m. m * k) r, e) in
    sym (mul-div-mul_right n k q) ∙ ap (λ m. m / (k * d)) s ∙ ap (λ m. c * k / m) (mul_comm k d) ∙ mul-div-mul_right c d p

pub cut_worth : {x : Fraction} {f g d : ℕ} → Worth x f g d → 0 < d → cut x ≡ (f - g) / d
unfolding cut
cut_worth {x} {f} {g} {d} w h = go x.numerator w.equals
  where
    go : (z : ℤ) → up z * d + g * x.denominator ≡ down z * d + f * x.denominator → whole_of z x.denominator ≡ (f - g) / d
    go (pos n) e =
        let p : g * x.denominator ≤ f * x.denominator = omega (arith, e) in
        whole n x.denominator d f g w.divides h (le_of_mul-le-mul_right p w.divides) (omega (arith, e))
    go (negsuc n) e =
        let p : f * x.denominator ≤ g * x.denominator = omega (arith, e) in
        let q : f - g ≡ 0 = omega (arith, le_of_mul-le-mul_right p w.divides) in
        sym (ap (λ m. m / d) q ∙ zero-div d)
