-- `same_call` decides equality of two records; `decide` is determined. Assumes nothing.
use mathlib.Core.Path.{◌≡◌, refl, sym, ◌∙◌, ap}
use mathlib.Core.Bool.{true, true≢false}
use mathlib.Core.List.{[], ◌∷◌}
use Prim.Native.Nat.{ℕ}
use native.Mathlib.Omega.{arith}
use lib.Dec.{eqb}
use lib.IntN.{ℤ, pos, negsuc}
use lib.Signed.{le_z}
use borrow.Author.Tests.{eqb-true, eq-eqb, leb-true, le-leb}
use Rattle.le.proofs.Tests.{each}
use Rattle.call.specs.declared.Call.{Call}
use Rattle.rule.specs.declared.Decision.{Decision}
use Rattle.rule.specs.Standing.{same_call, decide}

-- two numbers with a sign are one exactly where neither is above the other
pub le_z_both : (a b : ℤ) → le_z a b ≡ true → le_z b a ≡ true → a ≡ b
le_z_both (pos m) (pos n) e f = ap pos (omega (arith, leb-true m n e, leb-true n m f))
le_z_both (pos m) (negsuc n) e f = absurd (true≢false (sym e))
le_z_both (negsuc m) (pos n) e f = absurd (true≢false (sym f))
le_z_both (negsuc m) (negsuc n) e f = ap negsuc (omega (arith, leb-true n m e, leb-true m n f))

pub le_z_own : (a : ℤ) → le_z a a ≡ true
le_z_own (pos m) = le-leb m m (omega arith)
le_z_own (negsuc m) = le-leb m m (omega arith)

path : (x y : Call) → x.participant ≡ y.participant → x.service ≡ y.service → x.state ≡ y.state → x.number ≡ y.number
    → x.revision ≡ y.revision → x.start ≡ y.start → x.length ≡ y.length → x.a ≡ y.a → x.b ≡ y.b → x.c ≡ y.c → x ≡ y
path x y p s t n r st l a b c =
    λ i. record { participant = p i; service = s i; state = t i; number = n i; revision = r i; start = st i; length = l i; a = a i; b = b i; c = c i }

pub same_eq : (x y : Call) → same_call x y ≡ true → x ≡ y
unfolding same_call
same_eq x y e =
    let t =
    each (eqb x.participant y.participant)
    (eqb x.service y.service
    ∷ eqb x.state y.state
    ∷ eqb x.number y.number
    ∷ eqb x.revision y.revision
    ∷ eqb x.start y.start
    ∷ eqb x.length y.length
    ∷ le_z x.a y.a
    ∷ le_z y.a x.a
    ∷ eqb x.b y.b
    ∷ eqb x.c y.c
    ∷ []) e in
    let u = t.1.1.1.1.1.1.1 in
    path x y (eqb-true _ _ t.0) (eqb-true _ _ t.1.0) (eqb-true _ _ t.1.1.0) (eqb-true _ _ t.1.1.1.0) (eqb-true _ _ t.1.1.1.1.0)
    (eqb-true _ _ t.1.1.1.1.1.0) (eqb-true _ _ t.1.1.1.1.1.1.0) (le_z_both x.a y.a u.0 u.1.0) (eqb-true _ _ u.1.1.0)
    (eqb-true _ _ u.1.1.1.0)

eqb_own : (n : ℕ) → eqb n n ≡ true
eqb_own n = eq-eqb n n refl

pub eq_same : (x y : Call) → x ≡ y → same_call x y ≡ true
unfolding same_call
eq_same x y e = rw (← e) (simp (eqb_own, le_z_own))

-- `decide`: two answers that its contract allows are one
pub decide_determined : (x y : Call) (d e : Decision) → d ≡ decide x y → e ≡ decide x y → d ≡ e
decide_determined x y d e p q = p ∙ sym q
