-- Who gets the left-over: one each to the largest remainders, ties to the lower number.
use mathlib.Core.Path.{◌≡◌, refl, sym, ◌∙◌}
use mathlib.Core.Bool.{Bool, true, false, cond}
use mathlib.Core.List.{List, [], ◌∷◌}
use mathlib.Core.Logic.{◌⊎◌, inl, inr, ◌≢◌}
use Prim.Native.Nat.{ℕ, zero, suc, ◌+◌, ◌<◌, max}
use native.Mathlib.Nat.{not-suc-le-zero}
use native.Mathlib.Decide.{ℕ_discrete, dec_lt}
use native.Mathlib.Omega.{arith}
use borrow.Author.Tests.{leb-false}
use lib.Dec.{leb}
use lib.ListN.{length, get_or, set, length-set, length-map}
use lib.Seq.{get_or-set_same, get_or-set_other}
use Rattle.apportion.specs.Apportion.{total, rounded_down, remainders, left}
use Rattle.apportion.specs.Giving.{top, largest_at, give_out, reckoned}
use Rattle.apportion.proofs.Laws.{at_largest, largest_in, Room, reckoned_room}
use Rattle.apportion.proofs.Loops.{le_top}

-- A remainder r at the place i comes before s at the place j.
abbrev pub Before : ℕ → ℕ → ℕ → ℕ → Type 0
Before r i s j = (s < r) ⊎ ((s ≡ r) × (i < j))

-- What stands before the place of the largest is below it.
first_largest : (xs : List ℕ) (j : ℕ) → j < largest_at xs → get_or xs j 0 < top xs
first_largest [] j h = absurd (not-suc-le-zero h)
first_largest (x ∷ xs) zero h = go (leb (top xs) x) refl h
  where
    go : (b : Bool) → leb (top xs) x ≡ b → 0 < cond b 0 (suc (largest_at xs)) → x < max x (top xs)
    go true e k = absurd (not-suc-le-zero k)
    go false e k = omega (arith, leb-false (top xs) x e)
first_largest (x ∷ xs) (suc j) h = go (leb (top xs) x) refl h (first_largest xs j)
  where
    go : (b : Bool) → leb (top xs) x ≡ b → suc j < cond b 0 (suc (largest_at xs)) → (j < largest_at xs → get_or xs j 0 < top xs) → get_or xs j 0 < max x (top xs)
    go true e k rec = absurd (not-suc-le-zero k)
    go false e k rec = omega (arith, rec (omega arith))

-- While the left-over is given out a line has what it began with, and its remainder, or one more and none.
abbrev Marked : (r b r' s : ℕ) → Type 0
Marked r b r' s = ((s ≡ b) × (r' ≡ r)) ⊎ ((s ≡ b + 1) × (r' ≡ 0))

abbrev AllMarked : List ℕ → List ℕ → List ℕ → List ℕ → Type 0
AllMarked rs bs rs' ss = (i : ℕ) → Marked (get_or rs i 0) (get_or bs i 0) (get_or rs' i 0) (get_or ss i 0)

-- Each line has what it began with or one more, and who has one more comes before who has not.
pub record Ordered (rs bs ss : List ℕ) : Type 0 where
  pub each : (i : ℕ) → (get_or ss i 0 ≡ get_or bs i 0) ⊎ (get_or ss i 0 ≡ get_or bs i 0 + 1)
  pub order : (i j : ℕ) → get_or ss i 0 ≡ get_or bs i 0 + 1 → get_or ss j 0 ≡ get_or bs j 0 → Before (get_or rs i 0) i (get_or rs j 0) j

module _ (rs bs rs' ss : List ℕ) (lr : length rs' ≡ length bs) (ls : length ss ≡ length bs) (p : 0 < top rs') (mark : AllMarked rs bs rs' ss) where
  -- The line that is served next has not been served.
  chosen : (get_or ss (largest_at rs') 0 ≡ get_or bs (largest_at rs') 0) × (get_or rs' (largest_at rs') 0 ≡ get_or rs (largest_at rs') 0)
  chosen = go (mark (largest_at rs'))
    where
      go : Marked (get_or rs (largest_at rs') 0) (get_or bs (largest_at rs') 0) (get_or rs' (largest_at rs') 0) (get_or ss (largest_at rs') 0)
          → (get_or ss (largest_at rs') 0 ≡ get_or bs (largest_at rs') 0) × (get_or rs' (largest_at rs') 0 ≡ get_or rs (largest_at rs') 0)
      go (inl u) = u
      go (inr v) = absurd (omega (arith, at_largest rs'))

  mark_turn : AllMarked rs bs (set rs' (largest_at rs') 0) (set ss (largest_at rs') (get_or ss (largest_at rs') 0 + 1))
  mark_turn i = go (ℕ_discrete i (largest_at rs')) (largest_in rs' p)
    where
      go : Dec (i ≡ largest_at rs') → largest_at rs' < length rs'
          → Marked (get_or rs i 0) (get_or bs i 0) (get_or (set rs' (largest_at rs') 0) i 0) (get_or (set ss (largest_at rs') (get_or ss (largest_at rs') 0 + 1)) i 0)
      go (yes e) m =
          let m' : largest_at rs' < length ss = omega arith in
          rw (e, get_or-set_same rs' (largest_at rs') 0 0, get_or-set_same ss (largest_at rs') (get_or ss (largest_at rs') 0 + 1) 0) (inr (omega (arith, chosen.0), refl))
      go (no f) m = rw (get_or-set_other rs' (largest_at rs') i 0 0 f, get_or-set_other ss (largest_at rs') i (get_or ss (largest_at rs') 0 + 1) 0 f) (mark i)

  -- The line that is served next comes before every line that is not served after it.
  next_before : (j : ℕ) → j ≢ largest_at rs' → get_or ss j 0 ≡ get_or bs j 0 → Before (get_or rs (largest_at rs') 0) (largest_at rs') (get_or rs j 0) j
  next_before j f e = go (mark j) (dec_lt j (largest_at rs')) (dec_lt (get_or rs' j 0) (top rs'))
    where
      go : Marked (get_or rs j 0) (get_or bs j 0) (get_or rs' j 0) (get_or ss j 0) → Dec (j < largest_at rs') → Dec (get_or rs' j 0 < top rs')
          → Before (get_or rs (largest_at rs') 0) (largest_at rs') (get_or rs j 0) j
      go (inr v) d t = absurd (omega arith)
      go (inl u) (yes l) t = inl (omega (arith, first_largest rs' j l, at_largest rs', chosen.1))
      go (inl u) (no g) (yes t) = inl (omega (arith, at_largest rs', chosen.1))
      go (inl u) (no g) (no t) = inr (omega (arith, le_top rs' j, at_largest rs', chosen.1), omega arith)

  order_turn : ((i j : ℕ) → get_or ss i 0 ≡ get_or bs i 0 + 1 → get_or ss j 0 ≡ get_or bs j 0 → Before (get_or rs i 0) i (get_or rs j 0) j)
      → (i j : ℕ) → get_or (set ss (largest_at rs') (get_or ss (largest_at rs') 0 + 1)) i 0 ≡ get_or bs i 0 + 1
      → get_or (set ss (largest_at rs') (get_or ss (largest_at rs') 0 + 1)) j 0 ≡ get_or bs j 0 → Before (get_or rs i 0) i (get_or rs j 0) j
  order_turn old i j hi hj = go (ℕ_discrete i (largest_at rs')) (ℕ_discrete j (largest_at rs')) (largest_in rs' p)
    where
      v : ℕ
      v = get_or ss (largest_at rs') 0 + 1

      at_j : (f : j ≢ largest_at rs') → get_or ss j 0 ≡ get_or bs j 0
      at_j f = sym (get_or-set_other ss (largest_at rs') j v 0 f) ∙ hj

      go : Dec (i ≡ largest_at rs') → Dec (j ≡ largest_at rs') → largest_at rs' < length rs' → Before (get_or rs i 0) i (get_or rs j 0) j
      go d (yes e) m =
          let m' : largest_at rs' < length ss = omega arith in
          let a = get_or-set_same ss (largest_at rs') v 0 m' in
          let b : get_or (set ss (largest_at rs') v) (largest_at rs') 0 ≡ get_or bs (largest_at rs') 0 = rw e at hj in
          absurd (omega (arith, chosen.0))
      go (yes e) (no f) m = rw e (next_before j f (at_j f))
      go (no g) (no f) m = old i j (sym (get_or-set_other ss (largest_at rs') i v 0 g) ∙ hi) (at_j f)

give_ordered : (k : ℕ) (rs bs rs' ss : List ℕ) → length rs' ≡ length bs → length ss ≡ length bs → Room k rs' → AllMarked rs bs rs' ss
    → ((i j : ℕ) → get_or ss i 0 ≡ get_or bs i 0 + 1 → get_or ss j 0 ≡ get_or bs j 0 → Before (get_or rs i 0) i (get_or rs j 0) j)
    → Ordered rs bs (give_out k rs' ss)
give_ordered zero rs bs rs' ss lr ls room mark old = record { each = λ i. go (mark i); order = old }
  where
    go : {r b r' s : ℕ} → Marked r b r' s → (s ≡ b) ⊎ (s ≡ b + 1)
    go (inl u) = inl u.0
    go (inr v) = inr v.0
give_ordered (suc k) rs bs rs' ss lr ls room mark old =
    give_ordered k rs bs (set rs' (largest_at rs') 0) (set ss (largest_at rs') (get_or ss (largest_at rs') 0 + 1))
    (length-set rs' (largest_at rs') 0 ∙ lr) (length-set ss (largest_at rs') _ ∙ ls) room.1
    (mark_turn rs bs rs' ss lr ls room.0 mark) (order_turn rs bs rs' ss lr ls room.0 mark old)

-- THE LEFT-OVER: each share is its exact part rounded down or one more, and who has one more comes before who has not.
pub reckoned_ordered : (n : ℕ) (ws : List ℕ) → 0 < total ws → Ordered (remainders n (total ws) ws) (rounded_down n (total ws) ws) (reckoned n ws)
reckoned_ordered n ws pos =
    let all = total ws in
    give_ordered (left n ws) (remainders n all ws) (rounded_down n all ws) (remainders n all ws) (rounded_down n all ws)
    (length-map ws _ ∙ sym (length-map ws _)) refl (reckoned_room n ws pos) (λ i. inl (refl, refl)) (λ i j hi hj. absurd (omega arith))
