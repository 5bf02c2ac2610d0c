-- Remainders that are equally large are served in turn, the lower number first. Assumes nothing.
use mathlib.Core.Path.{◌≡◌, refl, sym, ap, ◌∙◌}
use mathlib.Core.Bool.{cond}
use mathlib.Core.List.{List}
use Prim.Native.Nat.{ℕ, ◌+◌, ◌-◌, ◌≤◌, ◌<◌}
use native.Mathlib.Decide.{ℕ_discrete}
use native.Mathlib.Omega.{arith}
use lib.Dec.{eqb}
use lib.ListN.{length, get_or, set, length-set}
use lib.Seq.{get_or-set_same, get_or-set_other, set-get_or}
use Rattle.apportion.specs.Giving.{top, largest_at}
use Rattle.apportion.specs.Ties.{UnitsGiven, UnitInTurn, served, passed}
use Rattle.apportion.proofs.Laws.{total_set, at_largest}
use Rattle.apportion.proofs.Loops.{give_turn, largest_is, le_top}

pub given_none : (k : ℕ) (rs ss : List ℕ) → UnitsGiven k rs ss k rs ss
given_none k rs ss = record { fewer = omega arith; sum = refl; rests_long = refl; shares_long = refl; same = refl }

pub given_more : {k k' k'' : ℕ} {rs ss rs' ss' rs'' ss'' : List ℕ} → UnitsGiven k rs ss k' rs' ss' → UnitsGiven k' rs' ss' k'' rs'' ss'' → UnitsGiven k rs ss k'' rs'' ss''
given_more g h =
    record {
      fewer = omega (arith, g.fewer, h.fewer);
      sum = h.sum ∙ g.sum;
      rests_long = h.rests_long ∙ g.rests_long;
      shares_long = h.shares_long ∙ g.shares_long;
      same = h.same ∙ g.same;
    }

pub turn_le : {left most r x : ℕ} → UnitInTurn left most r x → x ≤ left
turn_le (served z p q m) = omega arith
turn_le (passed z f) = omega arith

-- One unit to the place of the largest.
pub given_one : (k b : ℕ) (rs ss : List ℕ) → 0 < k → b < length rs → length ss ≡ length rs → b ≡ largest_at rs
    → UnitsGiven k rs ss (k - 1) (set rs b 0) (set ss b (get_or ss b 0 + 1))
given_one k b rs ss h l e m =
    record {
      fewer = omega arith;
      sum = omega (arith, total_set ss b (get_or ss b 0 + 1) (omega arith));
      rests_long = length-set rs b 0;
      shares_long = length-set ss b (get_or ss b 0 + 1);
      same = rw m (sym (give_turn k rs ss h));
    }

-- No remainder is above `most`, and while units are left, those before i are below it.
pub record Serving (most : ℕ) (rs : List ℕ) (k i : ℕ) : Type 0 where
  pub all : (j : ℕ) → get_or rs j 0 ≤ most
  pub behind : (j : ℕ) → j < i → 0 < k → 0 < most → get_or rs j 0 < most

pub serving_none : (most k : ℕ) (rs : List ℕ) → ((j : ℕ) → get_or rs j 0 ≤ most) → Serving most rs k 0
serving_none most k rs h = record { all = h; behind = λ j l p q. absurd (omega arith) }

-- None is above the largest.
pub largest_most : (rs : List ℕ) (b : ℕ) → b ≡ largest_at rs → (j : ℕ) → get_or rs j 0 ≤ get_or rs b 0
largest_most rs b e j =
    let t : get_or rs b 0 ≡ top rs = ap (λ (n : ℕ). get_or rs n 0) e ∙ at_largest rs in
    omega (arith, le_top rs j)

-- The largest, struck, leaves none above it.
pub struck_le : (rs : List ℕ) (b : ℕ) → b < length rs → b ≡ largest_at rs → (j : ℕ) → get_or (set rs b 0) j 0 ≤ get_or rs b 0
struck_le rs b l e j = go (ℕ_discrete j b)
  where
    go : Dec (j ≡ b) → get_or (set rs b 0) j 0 ≤ get_or rs b 0
    go (yes f) = rw (f, get_or-set_same rs b 0 0 l) (omega arith)
    go (no f) = rw (get_or-set_other rs b j 0 0 f) (largest_most rs b e j)

-- A remainder as large as the largest, in its turn.
serve : (most k i : ℕ) (rs ss : List ℕ) → i < length rs → length ss ≡ length rs → Serving most rs k i → 0 < k → 0 < most → get_or rs i 0 ≡ most
    → UnitsGiven k rs ss (k - 1) (set rs i 0) (set ss i (get_or ss i 0 + 1)) × Serving most (set rs i 0) (k - 1) (i + 1)
serve most k i rs ss l e s p q m = (
  given_one k i rs ss p l e (largest_is rs i l (λ j h. omega (arith, s.all j)) (λ j h. omega (arith, s.behind j h p q))),
  record { all = λ j. all j (ℕ_discrete j i); behind = λ j h r t. behind j h (ℕ_discrete j i) },
)
  where
    all : (j : ℕ) → Dec (j ≡ i) → get_or (set rs i 0) j 0 ≤ most
    all j (yes f) = rw (f, get_or-set_same rs i 0 0 l) (omega arith)
    all j (no f) = rw (get_or-set_other rs i j 0 0 f) (s.all j)

    behind : (j : ℕ) → j < i + 1 → Dec (j ≡ i) → get_or (set rs i 0) j 0 < most
    behind j h (yes f) = rw (f, get_or-set_same rs i 0 0 l) q
    behind j h (no f) = rw (get_or-set_other rs i j 0 0 f) (s.behind j (omega arith) p q)

-- One that is not.
pass : (most k i : ℕ) (rs ss : List ℕ) → Serving most rs k i → (0 < k → 0 < most → get_or rs i 0 ≡ most → ⊥) → Serving most rs k (i + 1)
pass most k i rs ss s f = record { all = s.all; behind = λ j h p q. go j h p q (ℕ_discrete j i) }
  where
    go : (j : ℕ) → j < i + 1 → 0 < k → 0 < most → Dec (j ≡ i) → get_or rs j 0 < most
    go j h p q (yes e) = rw e (below (ℕ_discrete (get_or rs i 0) most))
      where
        below : Dec (get_or rs i 0 ≡ most) → get_or rs i 0 < most
        below (yes m) = absurd (f p q m)
        below (no n) = omega (arith, s.all i)
    go j h p q (no e) = s.behind j (omega arith) p q

pub serve_step : (most k x i : ℕ) (rs ss : List ℕ) → i < length rs → length ss ≡ length rs → Serving most rs k i → UnitInTurn k most (get_or rs i 0) x
    → UnitsGiven k rs ss (k - x) (set rs i (cond (eqb x 0) (get_or rs i 0) 0)) (set ss i (get_or ss i 0 + x)) × Serving most (set rs i (cond (eqb x 0) (get_or rs i 0) 0)) (k - x) (i + 1)
serve_step most k x i rs ss l e s (served z p q m) = rw z (serve most k i rs ss l e s p q m)
serve_step most k x i rs ss l e s (passed z f) =
    let a : get_or ss i 0 + 0 ≡ get_or ss i 0 = omega arith in
    let b : k - 0 ≡ k = omega arith in
    rw (z, a, b, set-get_or rs i 0, set-get_or ss i 0) (given_none k rs ss, pass most k i rs ss s f)
