-- What a reader makes of a text: lines end in a line feed, the parts of a line are parted by single blanks. Assumes nothing.
use Rattle.std.specs.Prelude.{cond, List, [], ◌∷◌, map, ℕ, eqb, ℤ, pos, neg_ℤ}
use Rattle.row.specs.Numbers.{lines_of, parts_of, value}
use Rattle.std.specs.Int.{w64}
use Rattle.std.proofs.Common.{SFits}
use Rattle.share.specs.declared.Line.{Line}
use Rattle.share.specs.declared.Shared.{Shared}

abbrev pub blank_byte : ℕ
blank_byte = 32

abbrev pub minus : ℕ
minus = 45

-- the number that a part spells: what its digits are worth, below zero behind `-`
abbrev pub word_number : List ℕ → ℤ
word_number [] = pos 0
word_number (b ∷ bs) = cond (eqb b minus) (neg_ℤ (pos (value 0 bs))) (pos (value 0 (b ∷ bs)))

-- the parts of every line
abbrev pub rows_of : List ℕ → List (List (List ℕ))
rows_of text = map (parts_of blank_byte) (lines_of text)

-- a word, and the numbers behind it
pub record Named : Type 0 where
  pub word : List ℕ
  pub numbers : List ℤ

abbrev pub nothing_named : Named
nothing_named = record { word = []; numbers = [] }

-- a row that begins with a word
abbrev pub named : List (List ℕ) → Named
named [] = nothing_named
named (w ∷ parts) = record { word = w; numbers = map word_number parts }

-- the numbers of every row but the last, and what the last names
abbrev pub but_last : List (List (List ℕ)) → List (List ℤ)
but_last [] = []
but_last (r ∷ []) = []
but_last (r ∷ s ∷ rows) = map word_number r ∷ but_last (s ∷ rows)

abbrev pub last_named : List (List (List ℕ)) → Named
last_named [] = nothing_named
last_named (r ∷ []) = named r
last_named (r ∷ s ∷ rows) = last_named (s ∷ rows)

-- what the first line of a text names, what the last one behind it names, and the numbers of the lines between
pub record Reading : Type 0 where
  pub first : Named
  pub lines : List (List ℤ)
  pub last : Named

-- the reading of the rows of a text, if there are any
abbrev pub read_rows : List (List (List ℕ)) → Reading
read_rows [] = record { first = nothing_named; lines = []; last = nothing_named }
read_rows (r ∷ rows) = record { first = named r; lines = but_last rows; last = last_named rows }

unfoldable pub read_numbers : List ℕ → Reading
read_numbers text = read_rows (rows_of text)

-- number, share and amount of a line
abbrev pub line_numbers : Line → List ℤ
line_numbers l = pos l.number ∷ l.share.0 ∷ l.amount.0 ∷ []

-- A form shows a number with a sign by its 64 bits, so it reads back where the number is one of 64 bits, as every one in the program is.

-- share and amount of a line
pub record LineFits (l : Line) : Type 0 where
  pub share : SFits w64 l.share.0
  pub amount : SFits w64 l.amount.0

pub data LinesFit : List Line → Type 0 where
  no_line : LinesFit []
  one_line : {l : Line} {ls : List Line} → LineFits l → LinesFit ls → LinesFit (l ∷ ls)

-- R, the user's amount, and those of every line
pub record StatementFits (s : Shared) : Type 0 where
  pub gap : SFits w64 s.gap.0
  pub user : SFits w64 s.user.0
  pub lines : LinesFit s.lines
