-- A text is a number where its digits reach from its first byte to its last. Assumes nothing.
use mathlib.Core.Path.{◌≡◌, refl, ap, sym, ◌∙◌}
use mathlib.Core.Bool.{Bool, true, false, cond, ◌&&◌}
use mathlib.Core.List.{List, [], ◌∷◌, ◌++◌, append-nil}
use Prim.Native.Nat.{ℕ, zero, suc, ◌<◌}
use native.Mathlib.Decide.{dec_lt}
use native.Mathlib.Omega.{arith}
use lib.Dec.{ltb, eqb}
use lib.ListN.{length, get_or, drop_of_length-le}
use borrow.Author.Tests.{lt-ltb, eq-eqb, eqb-true, ltb-true}
use Rattle.le.proofs.Tests.{each, holds_or_fails}
use Rattle.row.specs.Numbers.{is_digit, digits, not_empty, is_number, value, hold}
use Rattle.grid.specs.declared.cell.Run.{Run}
use Rattle.grid.specs.Meaning.{RunFrom}
use Rattle.std.specs.Prelude.{Some, None}
use Rattle.grid.specs.Alone.{told_of}

some : (text : List ℕ) → 0 < length text → not_empty text ≡ true
some [] h = absurd (omega arith)
some (b ∷ bs) h = refl

digit_at : (text : List ℕ) (i : ℕ) → digits text ≡ true → i < length text → is_digit (get_or text i 0) ≡ true
digit_at [] i h k = absurd (omega arith)
digit_at (b ∷ bs) zero h k = (each (is_digit b) (digits bs ∷ []) h).0
digit_at (b ∷ bs) (suc i) h k = digit_at bs i (each (is_digit b) (digits bs ∷ []) h).1.0 (omega arith)

module _ (text : List ℕ) (r : Run) (f : RunFrom text 0 0 r) where
  pub number_yes : (v : ℕ) → (ltb 0 r.end && eqb r.end (length text)) ≡ true → v ≡ hold r.value → Some v ≡ told_of text
  unfolding told_of
  number_yes v h e =
      let t = each (ltb 0 r.end) (eqb r.end (length text) ∷ []) h in
      let full : r.end ≡ length text = eqb-true r.end (length text) t.1.0 in
      let whole : text ≡ f.read = f.stands ∙ ap (λ (x : List ℕ). f.read ++ x) (drop_of_length-le text {i = r.end} (omega arith)) ∙ append-nil f.read in
      let all : digits text ≡ true = ap digits whole ∙ f.all in
      let is : hold r.value ≡ hold (value 0 text) = f.worth [] ∙ ap (λ (x : List ℕ). hold (value 0 x)) (append-nil f.read ∙ sym whole) in
      rw (all, some text (omega (arith, ltb-true 0 r.end t.0))) (ap Some (e ∙ is))

  pub number_no : (ltb 0 r.end && eqb r.end (length text)) ≡ false → None ≡ told_of text
  unfolding told_of
  number_no h = go (is_number text) refl
    where
      go : (t : Bool) → is_number text ≡ t → None ≡ cond t (Some (hold (value 0 text))) None
      go false e = refl
      go true e = absurd (never (dec_lt r.end (length text)))
        where
          never : Dec (r.end < length text) → ⊥
          never (yes k) = holds_or_fails (digit_at text r.end (each (digits text) (not_empty text ∷ []) e).0 k) (f.whole k)
          never (no k) =
              let full : r.end ≡ length text = omega (arith, f.within) in
              holds_or_fails (rw (full, lt-ltb 0 (length text) (long text (each (digits text) (not_empty text ∷ []) e).1.0), eq-eqb (length text) (length text) refl)) h
            where
              long : (l : List ℕ) → not_empty l ≡ true → 0 < length l
              long [] x = absurd (holds_or_fails x refl)
              long (b ∷ bs) x = omega arith
