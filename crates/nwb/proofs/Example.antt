-- What nwb_find tells of three calls of two small books, with its numbers written out. Assumes nothing.
use mathlib.Core.Path.{◌≡◌, ◌∙◌, ap}
use mathlib.Core.List.{[], ◌∷◌}
use Prim.Native.Nat.{ℕ}
use lib.ListN.{take, drop}
use Rattle.lookup.specs.declared.Place.{Place}
use Rattle.lookup.specs.Lookup.{which}
use Rattle.lookup.proofs.Example.{first, second, places, there}
use Rattle.nwb.specs.Told.{book_number, offset_in, ToldFind}

-- what nwb_find may answer at a place
told : {p q : Place} (book offset : ℕ) → p ≡ q → ToldFind p book offset → (book ≡ book_number q) × (offset ≡ offset_in q)
told book offset e t = (t.book_is ∙ ap book_number e, t.offset_is ∙ ap offset_in e)

-- the withdrawal stands: record 1 of the second book, which begins at byte 48 with its member, service, state and number
pub second_told : (book offset : ℕ) → ToldFind (which first second 7 1001) book offset
    → (book ≡ 2) × (offset ≡ 48) × (take 8 (drop offset second) ≡ 7 ∷ 0 ∷ 0 ∷ 2 ∷ 233 ∷ 3 ∷ 0 ∷ 0 ∷ [])
second_told book offset t =
    let s = told book offset places.0 t in
    (s.0, s.1, ap (λ (n : ℕ). take 8 (drop n second)) s.1 ∙ there.0)

-- a call of the first book alone: its record 0, which begins at byte 16
pub first_told : (book offset : ℕ) → ToldFind (which first second 2 5) book offset
    → (book ≡ 1) × (offset ≡ 16) × (take 8 (drop offset first) ≡ 2 ∷ 0 ∷ 3 ∷ 0 ∷ 5 ∷ 0 ∷ 0 ∷ 0 ∷ [])
first_told book offset t =
    let s = told book offset places.1 t in
    (s.0, s.1, ap (λ (n : ℕ). take 8 (drop n first)) s.1 ∙ there.1)

-- a call of neither: no book, and offset 0
pub nothing_told : (book offset : ℕ) → ToldFind (which first second 7 1002) book offset → (book ≡ 0) × (offset ≡ 0)
nothing_told book offset t = told book offset places.2 t
