-- Decimal numbers in the lines of a text: lines end in a line feed, the last perhaps not; the numbers of a line are parted by single
-- bytes of one kind, blanks or commas. Over the whole text; how it is read is not spoken of. Assumes nothing.
use Rattle.std.specs.Prelude.{Bool, true, false, cond, ◌&&◌, List, [], ◌∷◌, map, ℕ, min, ◌+◌, ◌*◌, ◌-◌, leb, eqb, length}

-- Lines and parts

-- a line ends in a line feed
abbrev pub line_feed : ℕ
line_feed = 10

-- a byte in front of the first part; where there is none, a part of its own
abbrev pub onto : ℕ → List (List ℕ) → List (List ℕ)
onto b [] = (b ∷ []) ∷ []
onto b (p ∷ ps) = (b ∷ p) ∷ ps

-- the lines of a text: each ends in a line feed, the last perhaps not
abbrev pub lines_of : List ℕ → List (List ℕ)
lines_of [] = []
lines_of (b ∷ bs) = cond (eqb b line_feed) ([] ∷ lines_of bs) (onto b (lines_of bs))

-- the parts of a line, with single separators between them
abbrev pub parts_of : ℕ → List ℕ → List (List ℕ)
parts_of separator [] = [] ∷ []
parts_of separator (b ∷ bs) = cond (eqb b separator) ([] ∷ parts_of separator bs) (onto b (parts_of separator bs))

-- Numbers

-- the bytes 48 to 57 are the digits 0 to 9
abbrev pub digit_byte : ℕ → ℕ
digit_byte n = 48 + n

abbrev pub is_digit : ℕ → Bool
is_digit b = leb (digit_byte 0) b && leb b (digit_byte 9)

-- every byte is a digit
abbrev pub digits : List ℕ → Bool
digits [] = true
digits (b ∷ bs) = is_digit b && digits bs

-- there is one, a byte or a number
abbrev pub not_empty : List ℕ → Bool
not_empty [] = false
not_empty (b ∷ bs) = true

-- a decimal number is one digit or more
abbrev pub is_number : List ℕ → Bool
is_number p = digits p && not_empty p

-- every part is a decimal number
abbrev pub numbers : List (List ℕ) → Bool
numbers [] = true
numbers (p ∷ ps) = is_number p && numbers ps

-- what digits are worth behind digits that are worth v
abbrev pub value : ℕ → List ℕ → ℕ
value v [] = v
value v (b ∷ bs) = value (v * 10 + (b - digit_byte 0)) bs

-- the numbers of so many parts, as they stand; none where the parts are more or fewer, or one of them is no decimal number
unfoldable pub numbers_in : ℕ → List (List ℕ) → List ℕ
numbers_in columns parts = cond (numbers parts && eqb (length parts) columns) (map (value 0) parts) []

-- Numbers of any length, in fixed memory

-- 10^12, above every limit that a number of a text has
abbrev pub ceiling : ℕ
ceiling = 1000000000000

-- a number past every limit is told as 10^12: it is past them either way
abbrev pub hold : ℕ → ℕ
hold n = min n ceiling

-- the numbers of a line of so many, each held
unfoldable pub numbers_of : ℕ → ℕ → List ℕ → List ℕ
numbers_of separator columns line = map hold (numbers_in columns (parts_of separator line))
