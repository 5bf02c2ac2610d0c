-- The text of a statement, line by line. Assumes nothing.
use mathlib.Core.Path.{◌≡◌, refl, sym, ◌∙◌, ap}
use mathlib.Core.Bool.{true, false}
use mathlib.Core.List.{List, [], ◌∷◌, ◌++◌, append_assoc}
use Prim.Native.Nat.{ℕ, min, ◌+◌, ◌*◌, ◌≤◌, ◌<◌}
use native.Mathlib.Nat.{min-eq_left, min-eq_right}
use native.Mathlib.Decide.{dec_le}
use native.Mathlib.Numerals.{add-one}
use native.Mathlib.Omega.{arith}
use lib.ListN.{length, get_or, take}
use lib.Seq.{take-suc, take_all}
use Rattle.month.specs.declared.Row.{Row}
use Rattle.month.specs.declared.Statement.{Statement}
use Rattle.render.specs.Inner.{Puts}
use Rattle.render.proofs.Placed.{and_then, looser, same_put, none_put}
use Rattle.posted.specs.Posted.{head_text, row_text, rows_text, total_text, user_text, is_settled, posted_text, most_row}

pub append_none : (xs : List ℕ) → xs ++ [] ≡ xs
append_none [] = refl
append_none (x ∷ xs) = ap (λ (l : List ℕ). x ∷ l) (append_none xs)

-- the members before one, and that one
pub rows_snoc : (rs : List Row) (r : Row) → rows_text (rs ++ (r ∷ [])) ≡ rows_text rs ++ row_text r
unfolding rows_text
rows_snoc [] r = append_none (row_text r)
rows_snoc (x ∷ rs) r = ap (λ (t : List ℕ). row_text x ++ t) (rows_snoc rs r) ∙ sym (append_assoc (row_text x) (rows_text rs) (row_text r))

pub rows_none : (rs : List Row) (k : List ℕ) (at : ℕ) → Puts (most_row * 0) k at (rows_text (take 0 rs)) k at
unfolding rows_text
rows_none rs k at = none_put k at

pub rows_more : {k l o : List ℕ} {at a r : ℕ} (rs : List Row) (i : ℕ) (d : Row) → i < length rs
    → Puts (most_row * i) k at (rows_text (take i rs)) l a → Puts most_row l a (row_text (get_or rs i d)) o r → Puts (most_row * (i + 1)) k at (rows_text (take (i + 1) rs)) o r
rows_more rs i d h f g =
    let e : rows_text (take i rs) ++ row_text (get_or rs i d) ≡ rows_text (take (i + 1) rs) =
    sym (rows_snoc (take i rs) (get_or rs i d)) ∙ ap rows_text (sym (take-suc rs i d h) ∙ ap (λ (n : ℕ). take n rs) (sym (add-one i))) in
    same_put e (looser (most_row * (i + 1)) (omega arith) (and_then f g))

-- rows behind the 64th are none
pub seen_rows : (rs : List Row) (count seen : ℕ) → length rs ≡ 64 → seen ≡ min count 64 → take seen rs ≡ take count rs
seen_rows rs count seen e f = go (dec_le count 64)
  where
    go : Dec (count ≤ 64) → take seen rs ≡ take count rs
    go (yes h) = ap (λ (n : ℕ). take n rs) (f ∙ min-eq_left h)
    go (no h) = ap (λ (n : ℕ). take n rs) (f ∙ min-eq_right (omega arith)) ∙ take_all 64 rs (omega arith) ∙ sym (take_all count rs (omega arith))

pub settled_text : (s : Statement) → is_settled s.fault ≡ true
    → head_text s.header s.calls s.part ++ rows_text (take s.count s.rows) ++ total_text s.gap.0 ++ user_text s.user.0 ≡ posted_text s
unfolding posted_text
settled_text s e = rw e

pub unsettled_text : (s : Statement) → is_settled s.fault ≡ false → [] ≡ posted_text s
unfolding posted_text
unsettled_text s e = rw e
