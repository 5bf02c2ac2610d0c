-- A number with or without a sign, in a text of one line. Assumes nothing.
use Rattle.std.specs.Prelude.{Bool, true, false, cond, List, [], ◌∷◌, ℕ, ltb, eqb, ℤ, pos, neg_ℤ, Option, Some, None}
use Rattle.grid.specs.Alone.{told_of}

-- the sign of a number below zero
abbrev pub minus : ℕ
minus = 45

-- the largest size of a number: as much below zero as above
abbrev pub most_integer : ℕ
most_integer = 2147483647

-- the number of a size; 0 is the same with a sign and without
abbrev pub signed_as : Bool → ℕ → ℤ
signed_as false size = pos size
signed_as true size = neg_ℤ (pos size)

-- the number by the size that is told and whether a sign stands before it, if it is not too large
unfoldable pub with_sign : Option ℕ → Bool → Option ℤ
with_sign (Some size) is_below = cond (ltb most_integer size) None (Some (signed_as is_below size))
with_sign None is_below = None

-- what a text says: a number behind `-` is below zero, a number alone is itself, and anything else is none
unfoldable pub integer_of : List ℕ → Option ℤ
integer_of [] = None
integer_of (b ∷ bs) = cond (eqb b minus) (with_sign (told_of bs) true) (with_sign (told_of (b ∷ bs)) false)
