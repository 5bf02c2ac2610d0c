-- Reading a list in which a run of bytes was stored. Assumes nothing.
use mathlib.Core.Path.{◌≡◌, refl, sym, ◌∙◌, ap, ap₂}
use mathlib.Core.Logic.{◌⊎◌, inl, inr}
use mathlib.Core.List.{List, [], ◌∷◌, append-nil}
use Prim.Native.Nat.{ℕ, zero, suc, ◌+◌, ◌*◌, ◌^◌, ◌<◌, ◌≤◌}
use native.Mathlib.Nat.{add_assoc, add-zero}
use native.Mathlib.Omega.{arith}
use lib.ListN.{get_or, set, take, drop, length}
use lib.Seq.{sets, get_or-set_same, get_or-set_other, get_or-take, drop-set-lt, length-sets}
use Rattle.le.specs.Le.{le_at, le_bytes}
use Rattle.le.proofs.Laws.{back, length_le_bytes}

-- a place before a run of bytes, or behind it
abbrev pub Beside : ℕ → ℕ → ℕ → ℕ → Type 0
Beside o w at n = (o + w ≤ at) ⊎ (at + n ≤ o)

get_d_beside : (vs l : List ℕ) (at i : ℕ) → Beside i 1 at (length vs) → get_or (sets l at vs) i 0 ≡ get_or l i 0
get_d_beside [] l at i b = refl
get_d_beside (v ∷ vs) l at i (inl h) =
    get_d_beside vs (set l at v) (suc at) i (inl (omega arith)) ∙ get_or-set_other l at i v 0 (λ e. omega arith)
get_d_beside (v ∷ vs) l at i (inr h) =
    get_d_beside vs (set l at v) (suc at) i (inr (omega arith)) ∙ get_or-set_other l at i v 0 (λ e. omega arith)

get_d_on : (vs l : List ℕ) (at i : ℕ) → i < length vs → at + length vs ≤ length l → get_or (sets l at vs) (at + i) 0 ≡ get_or vs i 0
get_d_on [] l at i h r = absurd (omega arith)
get_d_on (v ∷ vs) l at zero h r =
    ap (λ (k : ℕ). get_or (sets (set l at v) (suc at) vs) k 0) (add-zero at)
    ∙ get_d_beside vs (set l at v) (suc at) at (inl (omega arith)) ∙ get_or-set_same l at v 0 (omega arith)
get_d_on (v ∷ vs) l at (suc i) h r =
    let e : at + suc i ≡ suc at + i = omega arith in
    ap (λ (k : ℕ). get_or (sets (set l at v) (suc at) vs) k 0) e
    ∙ get_d_on vs (set l at v) (suc at) i (omega arith) (omega (arith, length-sets l at (v ∷ [])))

-- what lies beside it is read as before
pub beside : (w : ℕ) (vs l : List ℕ) (at o : ℕ) → Beside o w at (length vs) → le_at (sets l at vs) o w ≡ le_at l o w
unfolding le_at
beside zero vs l at o b = refl
beside (suc w) vs l at o b = ap₂ (λ (x y : ℕ). x + 256 * y) (get_d_beside vs l at o (one b)) (beside w vs l at (o + 1) (more b))
  where
    one : Beside o (suc w) at (length vs) → Beside o 1 at (length vs)
    one (inl h) = inl (omega arith)
    one (inr h) = inr h

    more : Beside o (suc w) at (length vs) → Beside (o + 1) w at (length vs)
    more (inl h) = inl (omega arith)
    more (inr h) = inr (omega arith)

-- what was stored is read
pub on : (w : ℕ) (vs l : List ℕ) (at o : ℕ) → o + w ≤ length vs → at + length vs ≤ length l → le_at (sets l at vs) (at + o) w ≡ le_at vs o w
unfolding le_at
on zero vs l at o h r = refl
on (suc w) vs l at o h r =
    ap₂ (λ (x y : ℕ). x + 256 * y) (get_d_on vs l at o (omega arith) r)
    (ap (λ (k : ℕ). le_at (sets l at vs) k w) (add_assoc at o 1) ∙ on w vs l at (o + 1) (omega arith) r)

-- a number that was stored
pub number_on : (w v : ℕ) (l : List ℕ) (at : ℕ) → v < 256 ^ w → at + w ≤ length l → le_at (sets l at (le_bytes w v)) at w ≡ v
number_on w v l at h r =
    let n = length_le_bytes w v in
    ap (λ (k : ℕ). le_at (sets l at (le_bytes w v)) k w) (sym (add-zero at))
    ∙ on w (le_bytes w v) l at 0 (omega arith) (omega arith)
    ∙ ap (λ (s : List ℕ). le_at s 0 w) (sym (append-nil (le_bytes w v))) ∙ back w v [] h

pub drop_beside : (vs l : List ℕ) (at n : ℕ) → at + length vs ≤ n → drop n (sets l at vs) ≡ drop n l
drop_beside [] l at n h = refl
drop_beside (v ∷ vs) l at n h = drop_beside vs (set l at v) (suc at) n (omega arith) ∙ drop-set-lt n l at v (omega arith)

-- the front of a list
pub in_front : (w n : ℕ) (l : List ℕ) (o : ℕ) → o + w ≤ n → le_at (take n l) o w ≡ le_at l o w
unfolding le_at
in_front zero n l o h = refl
in_front (suc w) n l o h = ap₂ (λ (x y : ℕ). x + 256 * y) (get_or-take n l o 0 (omega arith)) (in_front w n l (o + 1) (omega arith))
