-- What `statement` prints of an outcome, byte by byte, and a name as it is printed. Assumes nothing.
use Rattle.std.specs.Prelude.{cond, List, [], ◌∷◌, ◌++◌, map, ℕ, ◌+◌, ◌*◌, eqb, ltb, take}
use Rattle.share.specs.declared.Line.{Line}
use Rattle.share.specs.declared.Shared.{Shared}
use Rattle.form.specs.Form.{bits, filled}
use Rattle.text.specs.Forms.{refused_form, total_form, line_form, user_form}

-- number, share and amount of a line
unfoldable pub line_text : Line → List ℕ
line_text l = filled line_form (l.number ∷ bits l.share.0 ∷ bits l.amount.0 ∷ [])

-- the lines, one behind the other
unfoldable pub lines_text : List Line → List ℕ
lines_text [] = []
lines_text (l ∷ ls) = line_text l ++ lines_text ls

-- R, the first `count` lines, and last the user's amount
abbrev pub accepted_text : Shared → ℕ → List ℕ
accepted_text s count = filled total_form (bits s.gap.0 ∷ []) ++ lines_text (take count s.lines) ++ filled user_form (bits s.user.0 ∷ [])

-- what sharing says of the first `count` lines: those, or a refusal
unfoldable pub statement_text : Shared → ℕ → List ℕ
statement_text s count = cond (eqb s.number 0) (accepted_text s count) (filled refused_form (s.number ∷ s.place ∷ []))

-- the most bytes of a line, and of a statement: R, 64 lines, and the user's amount
abbrev pub most_line : ℕ
most_line = 63

abbrev pub most_statement : ℕ
most_statement = 27 + 64 * most_line + 26

-- a byte of a name as it is printed: a control character is a question mark
unfoldable pub shown_byte : ℕ → ℕ
shown_byte b = cond (ltb b 32) 63 (cond (eqb b 127) 63 b)

-- a name as it is printed
unfoldable pub shown_name : List ℕ → List ℕ
shown_name name = map shown_byte name
