-- Differences and signs. Assumes nothing.
use mathlib.Core.Path.{◌≡◌, refl, sym, ap, ◌∙◌}
use mathlib.Core.Bool.{Bool, true, false}
use Prim.Native.Nat.{ℕ, zero, suc, ◌+◌, ◌*◌, ◌-◌, ◌^◌, ◌≤◌, ◌<◌}
use native.Mathlib.Nat.{zero-mul, not-suc-le-zero}
use native.Mathlib.Decide.{dec_le}
use native.Mathlib.Omega.{arith}
use borrow.Author.Tests.{le-ltb, lt-ltb}
use lib.Dec.{ltb}
use lib.IntN.{ℤ, pos, negsuc, neg_ℤ, nat_abs, ◌+ℤ◌, ◌-ℤ◌, ◌*ℤ◌, +ℤ_assoc, +ℤ_comm, +ℤ_idl, +ℤ_invr, neg_ℤ-+ℤ, neg_ℤ-neg_ℤ, +ℤ-neg_ℤ_cancel}
use mir.Syntax.{w64}
use mir.Val.{SFits}
use Rattle.share.specs.Sharing.{signed}

pub signed_add : (is_below : Bool) (a b : ℕ) → signed is_below a +ℤ signed is_below b ≡ signed is_below (a + b)
signed_add false a b = refl
signed_add true a b = sym (neg_ℤ-+ℤ (pos a) (pos b))

pub signed_none : (is_below : Bool) → signed is_below 0 ≡ pos 0
signed_none false = refl
signed_none true = refl

pub nat_abs_neg : (z : ℤ) → nat_abs (neg_ℤ z) ≡ nat_abs z
nat_abs_neg (pos zero) = refl
nat_abs_neg (pos (suc n)) = refl
nat_abs_neg (negsuc n) = refl

pub abs_signed : (is_below : Bool) (n : ℕ) → nat_abs (signed is_below n) ≡ n
abs_signed false n = refl
abs_signed true n = nat_abs_neg (pos n)

pub none_signed : (is_below : Bool) (n : ℕ) → signed is_below n ≡ pos 0 → n ≡ 0
none_signed is_below n e = sym (abs_signed is_below n) ∙ ap nat_abs e

-- what is left of a signed amount
pub signed_rest : (is_below : Bool) (n m : ℕ) → m ≤ n → signed is_below (n - m) ≡ signed is_below n -ℤ signed is_below m
signed_rest is_below n m h =
    let back : n - m + m ≡ n = omega arith in
    sym (+ℤ-neg_ℤ_cancel (signed is_below (n - m)) (signed is_below m))
    ∙ ap (λ (z : ℤ). z -ℤ signed is_below m) (signed_add is_below (n - m) m ∙ ap (signed is_below) back)

pub none_abs : (z : ℤ) → nat_abs z ≡ 0 → z ≡ pos 0
none_abs (pos n) e = ap pos e
none_abs (negsuc n) e = absurd (omega arith)

-- a difference of two naturals, by which is the larger
pub diff_up : (a b : ℕ) → b ≤ a → pos a -ℤ pos b ≡ pos (a - b)
diff_up a zero h = ap pos (omega arith)
diff_up a (suc b) h = rw (le-ltb a (suc b) h)

pub diff_down : (a b : ℕ) → a < b → pos a -ℤ pos b ≡ negsuc (b - suc a)
diff_down a zero h = absurd (not-suc-le-zero h)
diff_down a (suc b) h = rw (lt-ltb a (suc b) h)

pub abs_down : (a c : ℕ) → a < c → c - a ≡ nat_abs (pos a -ℤ pos c)
abs_down a c h = rw (diff_down a c h) (omega arith)

pub abs_up : (a c : ℕ) → c ≤ a → a - c ≡ nat_abs (pos a -ℤ pos c)
abs_up a c h = rw (diff_up a c h)

pub abs_most : (a c m : ℕ) → a ≤ m → c ≤ m → nat_abs (pos a -ℤ pos c) ≤ m
abs_most a c m h k = go (dec_le c a)
  where
    go : Dec (c ≤ a) → nat_abs (pos a -ℤ pos c) ≤ m
    go (yes l) = omega (arith, abs_up a c l)
    go (no f) = omega (arith, abs_down a c (omega arith))

-- what is below 2 ^ 63, whatever its sign, fits 64 bits
pub small_fits : (z : ℤ) (m : ℕ) → nat_abs z ≤ m → m < 2 ^ 63 → SFits w64 z
small_fits (pos n) m h k = record { sfits = omega arith }
small_fits (negsuc n) m h k = record { sfits = omega arith }

-- the share and the amount as differences of amounts
pub share_down : (s : ℕ) → pos 0 -ℤ pos s ≡ neg_ℤ (pos s)
share_down s = +ℤ_idl (neg_ℤ (pos s))

pub amount_down : (c f s : ℕ) → pos c -ℤ pos (f + s) ≡ pos c -ℤ pos f +ℤ neg_ℤ (pos s)
amount_down c f s = ap (λ (z : ℤ). pos c +ℤ z) (neg_ℤ-+ℤ (pos f) (pos s)) ∙ sym (+ℤ_assoc (pos c) (neg_ℤ (pos f)) (neg_ℤ (pos s)))

pub amount_up : (c f s : ℕ) → pos (c + s) -ℤ pos f ≡ pos c -ℤ pos f +ℤ pos s
amount_up c f s =
    +ℤ_assoc (pos c) (pos s) (neg_ℤ (pos f)) ∙ ap (λ (z : ℤ). pos c +ℤ z) (+ℤ_comm (pos s) (neg_ℤ (pos f)))
    ∙ sym (+ℤ_assoc (pos c) (neg_ℤ (pos f)) (pos s))

abs_diff : (a b m : ℕ) → a < b + m → b < a + m → nat_abs (pos a -ℤ pos b) < m
abs_diff a b m h k = go (dec_le b a)
  where
    go : Dec (b ≤ a) → nat_abs (pos a -ℤ pos b) < m
    go (yes l) = rw (diff_up a b l) (omega arith)
    go (no f) = rw (diff_down a b (omega arith)) (omega arith)

neg_mul : (s w : ℕ) → neg_ℤ (pos s) *ℤ pos w ≡ neg_ℤ (pos (s * w))
neg_mul zero w = rw (zero-mul w)
neg_mul (suc s) w = refl

-- whatever the sign, a share is as far from its exact part as the amounts without sign
pub signed_near : (is_below : Bool) (n s w m : ℕ) → s * m < n * w + m → n * w < s * m + m
    → nat_abs (signed is_below s *ℤ pos m -ℤ signed is_below n *ℤ pos w) < m
signed_near false n s w m h k = abs_diff (s * m) (n * w) m h k
signed_near true n s w m h k =
    rw (neg_mul s m, neg_mul n w, ← neg_ℤ-+ℤ (pos (s * m)) (neg_ℤ (pos (n * w))), nat_abs_neg (pos (s * m) -ℤ pos (n * w)))
    (abs_diff (s * m) (n * w) m h k)

-- R is |R| with its sign
pub signed_diff : (a c : ℕ) → signed (ltb a c) (nat_abs (pos a -ℤ pos c)) ≡ pos a -ℤ pos c
signed_diff a c = go (dec_le c a)
  where
    go : Dec (c ≤ a) → signed (ltb a c) (nat_abs (pos a -ℤ pos c)) ≡ pos a -ℤ pos c
    go (yes l) = rw (diff_up a c l, le-ltb a c l)
    go (no f) = rw (diff_down a c (omega arith), lt-ltb a c (omega arith))

left_comm : (a b c : ℤ) → a +ℤ (b +ℤ c) ≡ b +ℤ (a +ℤ c)
left_comm a b c = sym (+ℤ_assoc a b c) ∙ ap (λ (x : ℤ). x +ℤ c) (+ℤ_comm a b) ∙ +ℤ_assoc b a c

pub by_parts : (a b c d e f : ℤ) → (a +ℤ b +ℤ c) +ℤ (d +ℤ e +ℤ f) ≡ (a +ℤ d) +ℤ (b +ℤ e) +ℤ (c +ℤ f)
by_parts a b c d e f = simp (+ℤ_assoc, left_comm)

pub opposite : (a b : ℤ) → a -ℤ b +ℤ (b -ℤ a) ≡ pos 0
opposite a b =
    ap (λ (z : ℤ). a -ℤ b +ℤ z) (ap (λ (z : ℤ). z -ℤ a) (sym (neg_ℤ-neg_ℤ b)) ∙ +ℤ_comm (neg_ℤ (neg_ℤ b)) (neg_ℤ a) ∙ sym (neg_ℤ-+ℤ a (neg_ℤ b)))
    ∙ +ℤ_invr (a -ℤ b)
