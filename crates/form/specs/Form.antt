-- Forms: a text with marks, and the numbers that stand in their places. Assumes nothing.
use Rattle.std.specs.Prelude.{Bool, true, false, cond, not, ◌&&◌, ◌||◌, List, [], ◌∷◌, ◌++◌, ℕ, ◌+◌, ◌/◌, ◌%◌, eqb, leb, ℤ, get_or, drop}
use Prim.Native.String.{String}
use Rattle.std.specs.Int.{w64}
use Rattle.std.proofs.Common.{to_z, of_z}
use Rattle.render.specs.Decimal.{word, decimal, signed_decimal}
use Rattle.render.specs.Room.{most_decimal}
use Rattle.render.specs.Yuan.{yuan, signed_yuan, points, most_yuan, most_signed_yuan, most_points}
use Rattle.clock.specs.Clock.{minutes_per_hour, two_digits, date_text, length_text, most_date, most_length}
use Rattle.names.specs.Names.{service_word, kind_word, month_word, most_word}

-- the byte of a letter
abbrev pub byte : String → ℕ
byte letter = get_or (word letter) 0 0

-- a number with a sign goes into a form as its 64 bits
abbrev pub bits : ℤ → ℕ
bits z = of_z w64 z

-- a choice goes as 1 or 0
unfoldable pub flag : Bool → ℕ
flag chosen = cond chosen 1 0

-- a minute of the day as hours and minutes, two digits each; the day ends at 24:00
unfoldable pub time_text : ℕ → List ℕ
time_text minute = two_digits (minute / minutes_per_hour) ++ word ":" ++ two_digits (minute % minutes_per_hour)

abbrev pub most_time : ℕ
most_time = 5

-- Marks, by the letter behind their `%`

-- the next number as a service (v), a kind (k) or a month (m) by its word, of its lowest 8 bits; as a date (d), a time of the day (t) or a length of
-- time (l), of its lowest 16; any other letter is itself, so `%%` is `%`
unfoldable pub word_shown : ℕ → ℕ → List ℕ
word_shown letter v =
    cond (eqb letter (byte "v")) (service_word (v % 256))
    (cond (eqb letter (byte "k")) (kind_word (v % 256))
    (cond (eqb letter (byte "m")) (month_word (v % 256))
    (cond (eqb letter (byte "d")) (date_text (v % 65536))
    (cond (eqb letter (byte "t")) (time_text (v % 65536))
    (cond (eqb letter (byte "l")) (length_text (v % 65536))
    (letter ∷ []))))))

-- the one text (1) or the other (2); the next number as a decimal (n), signed (i), as yuan (y), as signed yuan (s), as points (p)
unfoldable pub shown : List ℕ → List ℕ → ℕ → ℕ → List ℕ
shown one other letter v =
    cond (eqb letter (byte "1")) one
    (cond (eqb letter (byte "2")) other
    (cond (eqb letter (byte "n")) (decimal v)
    (cond (eqb letter (byte "i")) (signed_decimal (to_z w64 v))
    (cond (eqb letter (byte "y")) (yuan v)
    (cond (eqb letter (byte "s")) (signed_yuan (to_z w64 v))
    (cond (eqb letter (byte "p")) (points v)
    (word_shown letter v)))))))

-- a mark of a small letter takes a number, shown or not
unfoldable pub is_number : ℕ → Bool
is_number letter = leb (byte "a") letter && leb letter (byte "z")

-- A form is read byte by byte. `[a|b]` takes the next number and shows a where it is not 0, and b where it is; b may be missing.

-- the bytes of a form that are not shown as they are
unfoldable pub is_sign : ℕ → Bool
is_sign c = eqb c (byte "%") || eqb c (byte "[") || eqb c (byte "|") || eqb c (byte "]")

-- what a byte shows: whether bytes are shown here, whether it stands behind a `%`, the byte, the next number
unfoldable pub byte_text : List ℕ → List ℕ → Bool → Bool → ℕ → ℕ → List ℕ
byte_text one other on marked c v = cond on (cond marked (shown one other c v) (cond (is_sign c) [] (c ∷ []))) []

-- whether the bytes behind it are shown
unfoldable pub next_on : Bool → Bool → ℕ → ℕ → Bool
next_on on marked c v =
    cond marked on
    (cond (eqb c (byte "[")) (not (eqb v 0))
    (cond (eqb c (byte "|")) (not on)
    (cond (eqb c (byte "]")) true
    on)))

-- whether the byte behind it is a mark's letter
unfoldable pub next_marked : Bool → ℕ → Bool
next_marked marked c = not marked && eqb c (byte "%")

-- how many numbers it takes
unfoldable pub taken_by : Bool → ℕ → ℕ
taken_by marked c = cond (cond marked (is_number c) (eqb c (byte "["))) 1 0

unfoldable pub filled_from : List ℕ → List ℕ → Bool → Bool → List ℕ → List ℕ → List ℕ
filled_from one other on marked [] vs = []
filled_from one other on marked (c ∷ form) vs =
    byte_text one other on marked c (get_or vs 0 0)
    ++ filled_from one other (next_on on marked c (get_or vs 0 0)) (next_marked marked c) form (drop (taken_by marked c) vs)

-- the form with two texts and the numbers in it; a number that is missing is 0, and one too many is not looked at
abbrev pub filled_with : List ℕ → List ℕ → List ℕ → List ℕ → List ℕ
filled_with form one other vs = filled_from one other true false form vs

-- the form with the numbers in it
abbrev pub filled : List ℕ → List ℕ → List ℕ
filled form vs = filled_with form [] [] vs

-- Room

-- the most bytes that a mark may show, where the texts are so long
unfoldable pub most_word_shown : ℕ → ℕ
most_word_shown letter =
    cond (eqb letter (byte "v")) most_word
    (cond (eqb letter (byte "k")) most_word
    (cond (eqb letter (byte "m")) most_word
    (cond (eqb letter (byte "d")) most_date
    (cond (eqb letter (byte "t")) most_time
    (cond (eqb letter (byte "l")) most_length
    1)))))

unfoldable pub most_shown : ℕ → ℕ → ℕ → ℕ
most_shown a b letter =
    cond (eqb letter (byte "1")) a
    (cond (eqb letter (byte "2")) b
    (cond (eqb letter (byte "n")) most_decimal
    (cond (eqb letter (byte "i")) most_decimal
    (cond (eqb letter (byte "y")) most_yuan
    (cond (eqb letter (byte "s")) most_signed_yuan
    (cond (eqb letter (byte "p")) most_points
    (most_word_shown letter)))))))

-- a byte of a form
unfoldable pub most_byte : ℕ → ℕ → Bool → ℕ → ℕ
most_byte a b marked c = cond marked (most_shown a b c) (cond (is_sign c) 0 1)

unfoldable pub most_from : ℕ → ℕ → Bool → List ℕ → ℕ
most_from a b marked [] = 0
most_from a b marked (c ∷ form) = most_byte a b marked c + most_from a b (next_marked marked c) form

-- the most bytes of a form with two texts of these lengths
abbrev pub most_with : List ℕ → ℕ → ℕ → ℕ
most_with form a b = most_from a b false form

-- the most bytes of a form
abbrev pub most_of : List ℕ → ℕ
most_of form = most_with form 0 0
