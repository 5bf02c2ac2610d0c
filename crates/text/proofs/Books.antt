-- The line of a book that is shown or written. Assumes nothing.
use mathlib.Core.Path.{◌≡◌, refl}
use mathlib.Core.List.{[], ◌∷◌}
use Prim.Native.Nat.{ℕ}
use Rattle.book.specs.Book.{first_version, second_version}
use Rattle.book.specs.declared.Header.{Header}
use Rattle.render.specs.Decimal.{word}
use Rattle.form.specs.Form.{flag, filled, shown, is_number, is_sign, byte_text, next_on, next_marked, taken_by, filled_from}
use Rattle.text.specs.Forms.{header_form, book_form, book_values}

-- Of the first version it is the line of its header, letter for letter.
pub first_as_header : (h : Header) (calls : ℕ) → filled book_form (book_values first_version h calls) ≡ filled header_form (h.area ∷ h.year ∷ h.month ∷ calls ∷ [])
unfolding flag shown is_number is_sign byte_text next_on next_marked taken_by filled_from
first_as_header h calls = refl

-- Of the second it ends in its version.
pub second_is_told : (h : Header) (calls : ℕ)
    → filled book_form (book_values second_version h calls) ≡ filled (word "area %n year %n month %n calls %n version 2\n") (h.area ∷ h.year ∷ h.month ∷ calls ∷ [])
unfolding flag shown is_number is_sign byte_text next_on next_marked taken_by filled_from
second_is_told h calls = refl
