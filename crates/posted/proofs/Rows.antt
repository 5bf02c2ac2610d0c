-- The members' lines, read one after the other. Assumes nothing.
use mathlib.Core.Path.{◌≡◌, refl, sym, ◌∙◌, ap}
use mathlib.Core.List.{List, [], ◌∷◌, ◌++◌, append_assoc}
use Prim.Native.Nat.{ℕ, suc, ◌+◌, ◌-◌, ◌≤◌, ◌<◌}
use native.Mathlib.Numerals.{add-one}
use native.Mathlib.Omega.{arith}
use lib.ListN.{length, take, drop, set, replicate, length-set}
use lib.Seq.{drop-drop, drop-set-lt, take-suc-set}
use Rattle.month.specs.declared.Row.{Row}
use Rattle.month.specs.Settling.{blank_row}
use Rattle.posted.specs.Posted.{row_text, rows_text}
use Rattle.posted.specs.Reading.{RowFits, RowsFit, none, more, BeginsRow}
use Rattle.posted.specs.Inner.{RowAt, RowsAt}
use Rattle.posted.proofs.Posting.{rows_snoc}

-- so many rows are read
pub record Read (text : List ℕ) (rows : List Row) (count : ℕ) (behind : List ℕ) : Type 0 where
  pub few : count ≤ 64
  pub long : length rows ≡ 64
  pub blank : drop count rows ≡ replicate (64 - count) blank_row
  pub fit : RowsFit (take count rows)
  pub is : text ≡ rows_text (take count rows) ++ behind

snoc_fit : {rs : List Row} {r : Row} → RowsFit rs → RowFits r → RowsFit (rs ++ (r ∷ []))
snoc_fit none f = more f none
snoc_fit (more g h) f = more g (snoc_fit h f)

module _ (t : List ℕ) where
  pub read_start : (rows : List Row) → rows ≡ replicate 64 blank_row → Read t rows 0 t
  unfolding rows_text
  read_start rows e = record { few = omega arith; long = ap length e; blank = e; fit = none; is = refl }

  module _ (rows : List Row) (count : ℕ) (behind : List ℕ) (h : Read t rows count behind) where
    pub read_more : (x : Row) (left : List ℕ) → count < 64 → RowAt behind x left → Read t (set rows count x) (count + 1) left
    read_more x left less f =
        let front : take (count + 1) (set rows count x) ≡ take count rows ++ (x ∷ []) =
        ap (λ (n : ℕ). take n (set rows count x)) (add-one count) ∙ take-suc-set rows count x (omega (arith, h.long)) in
        let fewer : 64 - count ≡ suc (64 - (count + 1)) = omega arith in
        record {
          few = omega arith;
          long = length-set rows count x ∙ h.long;
          blank =
              drop-set-lt (count + 1) rows count x (omega arith) ∙ sym (drop-drop 1 count rows) ∙ ap (drop 1) (h.blank ∙ ap (λ (n : ℕ). replicate n blank_row) fewer);
          fit = rw front (snoc_fit h.fit f.fits);
          is =
              h.is ∙ ap (λ (xs : List ℕ). rows_text (take count rows) ++ xs) f.is ∙ sym (append_assoc (rows_text (take count rows)) (row_text x) left)
              ∙ ap (λ (xs : List ℕ). xs ++ left) (sym (rows_snoc (take count rows) x) ∙ ap (λ (rs : List Row). rows_text rs) (sym front));
        }

    pub read_ends : (BeginsRow behind → count < 64 → ⊥) → RowsAt t rows count behind
    read_ends f = record { few = h.few; long = h.long; blank = h.blank; fit = h.fit; is = h.is; ends = λ p. f p.0 p.1 }
