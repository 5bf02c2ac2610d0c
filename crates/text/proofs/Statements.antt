-- The text of a statement, line by line. Assumes nothing.
use mathlib.Core.Path.{◌≡◌, refl, sym, ◌∙◌, ap, ap₂}
use mathlib.Core.List.{List, [], ◌∷◌, ◌++◌, append_assoc}
use Prim.Native.Nat.{ℕ, min, ◌+◌, ◌*◌, ◌≤◌, ◌<◌}
use native.Mathlib.Nat.{min-eq_left, min-eq_right}
use native.Mathlib.Decide.{dec_le}
use native.Mathlib.Numerals.{add-one}
use native.Mathlib.Omega.{arith}
use borrow.Author.Tests.{eq-eqb, ne_eqb}
use mathlib.Core.Logic.{◌≢◌}
use lib.ListN.{length, get_or, take}
use lib.Seq.{take-suc, take_all}
use mir.Syntax.{w64}
use mir.Val.{to_z}
use Rattle.share.specs.declared.Line.{Line}
use Rattle.share.specs.declared.Shared.{Shared}
use Rattle.render.specs.Decimal.{word, decimal, signed_decimal, signed_field}
use Rattle.render.specs.Inner.{Puts}
use Rattle.form.specs.Form.{bits, filled, shown, is_number, is_sign, byte_text, next_on, next_marked, taken_by, filled_from, most_of, most_shown, most_byte, most_from}
use Rattle.text.specs.Forms.{refused_form, total_form, line_form, user_form}
use Rattle.text.specs.Reading.{LineFits}
use Rattle.text.specs.Texts.{line_text, lines_text, accepted_text, statement_text, most_line}
use Rattle.form.proofs.Said.{signed_back}
use Rattle.render.proofs.Placed.{and_then, looser, same_put, none_put}

pub append_none : (xs : List ℕ) → xs ++ [] ≡ xs
append_none [] = refl
append_none (x ∷ xs) = ap (λ (l : List ℕ). x ∷ l) (append_none xs)

-- a line, put piece by piece
in_a_line : (p q r : List ℕ) → p ++ (32 ∷ q) ++ (32 ∷ r) ++ (10 ∷ []) ≡ p ++ (32 ∷ (q ++ (32 ∷ (r ++ (10 ∷ [])))))
in_a_line p q r = simp append_assoc

filled_line : (n s a : ℕ) → filled line_form (n ∷ s ∷ a ∷ []) ≡ decimal n ++ (32 ∷ (signed_decimal (to_z w64 s) ++ (32 ∷ (signed_decimal (to_z w64 a) ++ (10 ∷ [])))))
unfolding shown is_number is_sign byte_text next_on next_marked taken_by filled_from
filled_line n s a = refl

pub line_said : (l : Line) → LineFits l → decimal l.number ++ signed_field " " l.share.0 ++ signed_field " " l.amount.0 ++ word "\n" ≡ line_text l
unfolding line_text
line_said l f =
    in_a_line (decimal l.number) (signed_decimal l.share.0) (signed_decimal l.amount.0)
    ∙ ap₂ (λ (q r : List ℕ). decimal l.number ++ (32 ∷ (q ++ (32 ∷ (r ++ (10 ∷ [])))))) (sym (signed_back l.share.0 f.share)) (sym (signed_back l.amount.0 f.amount))
    ∙ sym (filled_line l.number (bits l.share.0) (bits l.amount.0))

-- the lines before a line, and that line
lines_snoc : (ls : List Line) (l : Line) → lines_text (ls ++ (l ∷ [])) ≡ lines_text ls ++ line_text l
unfolding lines_text
lines_snoc [] l = append_none (line_text l)
lines_snoc (x ∷ ls) l = ap (λ (t : List ℕ). line_text x ++ t) (lines_snoc ls l) ∙ sym (append_assoc (line_text x) (lines_text ls) (line_text l))

-- no line yet
pub lines_none : (ls : List Line) (k : List ℕ) (at : ℕ) → Puts (most_line * 0) k at (lines_text (take 0 ls)) k at
unfolding lines_text
lines_none ls k at = none_put k at

-- one line more
pub lines_more : {k l o : List ℕ} {at a r : ℕ} (ls : List Line) (i : ℕ) (d : Line) → i < length ls
    → Puts (most_line * i) k at (lines_text (take i ls)) l a → Puts most_line l a (line_text (get_or ls i d)) o r → Puts (most_line * (i + 1)) k at (lines_text (take (i + 1) ls)) o r
lines_more ls i d h f g =
    let e : lines_text (take i ls) ++ line_text (get_or ls i d) ≡ lines_text (take (i + 1) ls) =
    sym (lines_snoc (take i ls) (get_or ls i d)) ∙ ap lines_text (sym (take-suc ls i d h) ∙ ap (λ (n : ℕ). take n ls) (sym (add-one i))) in
    same_put e (looser (most_line * (i + 1)) (omega arith) (and_then f g))

-- lines beyond the 64th are none
pub seen_lines : (ls : List Line) (count seen : ℕ) → length ls ≡ 64 → seen ≡ min count 64 → take seen ls ≡ take count ls
seen_lines ls count seen e f = go (dec_le count 64)
  where
    go : Dec (count ≤ 64) → take seen ls ≡ take count ls
    go (yes h) = ap (λ (n : ℕ). take n ls) (f ∙ min-eq_left h)
    go (no h) = ap (λ (n : ℕ). take n ls) (f ∙ min-eq_right (omega arith)) ∙ take_all 64 ls (omega arith) ∙ sym (take_all count ls (omega arith))

pub accepted_text_lem : (s : Shared) (count : ℕ) → s.number ≡ 0 → accepted_text s count ≡ statement_text s count
unfolding statement_text
accepted_text_lem s count e = rw (eq-eqb s.number 0 e)

pub refusal_text : (s : Shared) (count : ℕ) → s.number ≢ 0 → filled refused_form (s.number ∷ s.place ∷ []) ≡ statement_text s count
unfolding statement_text
refusal_text s count e = rw (ne_eqb s.number 0 e)

-- the room of what a statement is made of
pub most_total_lem : most_of total_form ≡ 27
unfolding is_sign next_marked most_shown most_byte most_from
most_total_lem = refl

pub most_user_lem : most_of user_form ≡ 26
unfolding is_sign next_marked most_shown most_byte most_from
most_user_lem = refl

pub most_refused : most_of refused_form ≡ 50
unfolding is_sign next_marked most_shown most_byte most_from
most_refused = refl
