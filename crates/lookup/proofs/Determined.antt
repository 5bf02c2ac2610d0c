-- Two outcomes that a contract allows are one. Assumes nothing.
use mathlib.Core.Path.{◌≡◌, sym, ◌∙◌}
use mathlib.Core.Logic.{◌⊎◌, inl, inr}
use mathlib.Core.List.{List, []}
use Prim.Native.Nat.{ℕ}
use denote.Ref.{Bor}
use Rattle.lookup.specs.declared.Place.{Place}
use Rattle.lookup.specs.declared.Place.TheVariants.{Nowhere, InFirst, InSecond}
use Rattle.lookup.specs.Lookup.{which, Lies, LiesAt, Found}

-- the inner lookup: which book, and which record
pub which_determined : (first second : List ℕ) (participant number : ℕ) (p q : Place)
    → p ≡ which first second participant number → q ≡ which first second participant number → p ≡ q
which_determined first second participant number p q e f = e ∙ sym f

-- the same bytes, and where there are any, in the same place
abbrev pub SamePart : Bor (List ℕ) → Bor (List ℕ) → Type 0
SamePart r s = (r.now ≡ s.now) × ((r.now ≡ []) ⊎ ((r.ref_ptr.0 ≡ s.ref_ptr.0) × (r.ref_ptr.1 ≡ s.ref_ptr.1)))

-- a lookup: the bytes of the part, and where it lies; of an empty part only that it is empty
pub find_determined : (first second : Bor (List ℕ)) (participant number : ℕ) (r s : Bor (List ℕ))
    → Found first second participant number r → Found first second participant number s → SamePart r s
find_determined first second participant number r s = go (which first.now second.now participant number)
  where
    one : {t : Bor (List ℕ)} {at size : ℕ} → Lies t at size r → Lies t at size s → SamePart r s
    one l m = (l.bytes ∙ sym m.bytes, inr (l.block ∙ sym m.block, l.offset ∙ sym m.offset))

    go : (p : Place) → LiesAt p first second r → LiesAt p first second s → SamePart r s
    go Nowhere l m = (l ∙ sym m, inl l)
    go (InFirst i) l m = one l m
    go (InSecond j) l m = one l m
