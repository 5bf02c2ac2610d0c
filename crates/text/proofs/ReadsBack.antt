-- What is printed reads back: R, number, share and amount of every line, the user's amount; a refusal's number and place. Assumes nothing.
use mathlib.Core.Path.{◌≡◌, refl, sym, ◌∙◌, ap}
use mathlib.Core.List.{List, [], ◌∷◌, ◌++◌, map, append_assoc}
use mathlib.Core.Logic.{◌≢◌}
use Prim.Native.Nat.{ℕ, zero, suc, ◌/◌, ◌%◌, ◌≤◌, ◌<◌}
use native.Mathlib.Decide.{dec_lt}
use native.Mathlib.Omega.{arith}
use borrow.Author.Tests.{ne_eqb}
use lib.IntN.{ℤ, pos, negsuc, neg_ℤ}
use lib.ListN.{take}
use mir.Syntax.{w64}
use mir.Val.{SFits, to_z}
use Rattle.row.specs.Numbers.{line_feed, lines_of, parts_of, value, onto}
use Rattle.share.specs.declared.Line.{Line}
use Rattle.share.specs.declared.Shared.{Shared}
use Rattle.render.specs.Decimal.{word, digit, decimal_in, decimal, signed_decimal}
use Rattle.form.specs.Form.{bits, filled, shown, is_number, is_sign, byte_text, next_on, next_marked, taken_by, filled_from}
use Rattle.text.specs.Forms.{refused_form, total_form, line_form, user_form}
use Rattle.text.specs.Reading.{blank_byte, minus, word_number, rows_of, nothing_named, named, but_last, last_named, Reading, read_rows, read_numbers, line_numbers}
use Rattle.text.specs.Reading.{LinesFit, no_line, one_line, StatementFits}
use Rattle.text.specs.Texts.{line_text, lines_text, statement_text}
use Rattle.render.proofs.Decimals.{small, none_left, large}
use Rattle.form.proofs.Said.{signed_back}
use Rattle.clock.proofs.ReadBack.{value_decimal}
use Rattle.text.proofs.Statements.{append_none, accepted_text_lem, refusal_text}

-- Numbers

-- every byte is k or above
data Above (k : ℕ) : List ℕ → Type 0 where
  none : Above k []
  more : (x : ℕ) {xs : List ℕ} → k ≤ x → Above k xs → Above k (x ∷ xs)

both : {k : ℕ} {xs ys : List ℕ} → Above k xs → Above k ys → Above k (xs ++ ys)
both none b = b
both (more x h a) b = more x h (both a b)

lower : {k : ℕ} {xs : List ℕ} (j : ℕ) → j ≤ k → Above k xs → Above j xs
lower j h none = none
lower j h (more x g a) = more x (omega arith) (lower j h a)

digits_in : (steps n : ℕ) → Above 48 (decimal_in steps n)
digits_in zero n = rw (none_left n) (more (digit n) (omega arith) none)
digits_in (suc s) n = go (dec_lt n 10) (digits_in s (n / 10))
  where
    go : Dec (n < 10) → Above 48 (decimal_in s (n / 10)) → Above 48 (decimal_in (suc s) n)
    go (yes f) front = rw (small (suc s) n f) (more (digit n) (omega arith) none)
    go (no f) front = rw (large s n (omega arith)) (both front (more (digit (n % 10)) (omega arith) none))

digits_only : (n : ℕ) → Above 48 (decimal n)
unfolding decimal
digits_only n = digits_in n n

unsigned : {xs : List ℕ} → Above 48 xs → word_number xs ≡ pos (value 0 xs)
unsigned none = refl
unsigned (more x h a) = rw (ne_eqb x 45 (λ e. absurd (omega arith)))

number_decimal : (n : ℕ) → word_number (decimal n) ≡ pos n
number_decimal n = unsigned (digits_only n) ∙ ap pos (value_decimal n)

-- a printed number is the number
pub number_signed : (z : ℤ) → word_number (signed_decimal z) ≡ z
unfolding signed_decimal
number_signed (pos n) = number_decimal n
number_signed (negsuc n) = ap (λ (v : ℕ). neg_ℤ (pos v)) (value_decimal (suc n))

-- Parts and lines

solid : (n : ℕ) → Above 33 (decimal n)
solid n = lower 33 (omega arith) (digits_only n)

solid_signed : (z : ℤ) → Above 33 (signed_decimal z)
unfolding signed_decimal
solid_signed (pos n) = solid n
solid_signed (negsuc n) = more minus (omega arith) (solid (suc n))

part_ends : {p : List ℕ} (rest : List ℕ) → Above 33 p → parts_of blank_byte (p ++ (blank_byte ∷ rest)) ≡ p ∷ parts_of blank_byte rest
part_ends rest none = refl
part_ends rest (more x h a) = rw (ne_eqb x 32 (λ e. absurd (omega arith))) (ap (onto x) (part_ends rest a))

last_part : {p : List ℕ} → Above 33 p → parts_of blank_byte p ≡ p ∷ []
last_part none = refl
last_part (more x h a) = rw (ne_eqb x 32 (λ e. absurd (omega arith))) (ap (onto x) (last_part a))

line_ends_lem : {l : List ℕ} (rest : List ℕ) → Above 11 l → lines_of (l ++ (line_feed ∷ rest)) ≡ l ∷ lines_of rest
line_ends_lem rest none = refl
line_ends_lem rest (more x h a) = rw (ne_eqb x 10 (λ e. absurd (omega arith))) (ap (onto x) (line_ends_lem rest a))

-- a text is one line of these parts: its bytes and a line feed
record Lined (text : List ℕ) (parts : List (List ℕ)) : Type 0 where
  line : List ℕ
  is : text ≡ line ++ (line_feed ∷ [])
  plain : Above 11 line
  parted : parts_of blank_byte line ≡ parts

-- a part that ends its line
ends : {p : List ℕ} → Above 33 p → Lined (p ++ (line_feed ∷ [])) (p ∷ [])
ends {p} a = record { line = p; is = refl; plain = lower 11 (omega arith) a; parted = last_part a }

-- a part in front of others
leads : {p text : List ℕ} {parts : List (List ℕ)} → Above 33 p → Lined text parts → Lined (p ++ (blank_byte ∷ text)) (p ∷ parts)
leads {p} a l =
    record {
      line = p ++ (blank_byte ∷ l.line);
      is = ap (λ (t : List ℕ). p ++ (blank_byte ∷ t)) l.is ∙ sym (append_assoc p (blank_byte ∷ l.line) (line_feed ∷ []));
      plain = both (lower 11 (omega arith) a) (more blank_byte (omega arith) l.plain);
      parted = part_ends l.line a ∙ ap (λ (ps : List (List ℕ)). p ∷ ps) l.parted;
    }

-- the line is read as its parts, whatever is behind it
row_read : {text : List ℕ} {parts : List (List ℕ)} (rest : List ℕ) → Lined text parts → rows_of (text ++ rest) ≡ parts ∷ rows_of rest
row_read rest l =
    ap (λ (t : List ℕ). rows_of (t ++ rest)) l.is ∙ ap (λ (t : List ℕ). rows_of t) (append_assoc l.line (line_feed ∷ []) rest)
    ∙ ap (λ (ls : List (List ℕ)). map (parts_of blank_byte) ls) (line_ends_lem rest l.plain)
    ∙ ap (λ (ps : List (List ℕ)). ps ∷ rows_of rest) l.parted

-- Forms

-- the words in front of the numbers
total_word : Above 33 (word "total")
total_word = more 116 (omega arith) (more 111 (omega arith) (more 116 (omega arith) (more 97 (omega arith) (more 108 (omega arith) none))))

refused_word : Above 33 (word "refused")
refused_word =
    more 114 (omega arith) (more 101 (omega arith) (more 102 (omega arith) (more 117 (omega arith) (more 115 (omega arith)
    (more 101 (omega arith) (more 100 (omega arith) none))))))

user_word : Above 33 (word "user")
user_word = more 117 (omega arith) (more 115 (omega arith) (more 101 (omega arith) (more 114 (omega arith) none)))

-- a number with a sign, as a form shows its bits
abbrev shown_bits : ℤ → List ℕ
shown_bits z = signed_decimal (to_z w64 (bits z))

number_bits : (z : ℤ) → SFits w64 z → word_number (shown_bits z) ≡ z
number_bits z f = ap word_number (signed_back z f) ∙ number_signed z

line_row : (n s a : ℕ) → Lined (filled line_form (n ∷ s ∷ a ∷ [])) (decimal n ∷ signed_decimal (to_z w64 s) ∷ signed_decimal (to_z w64 a) ∷ [])
unfolding shown is_number is_sign byte_text next_on next_marked taken_by filled_from
line_row n s a = leads (solid n) (leads (solid_signed (to_z w64 s)) (ends (solid_signed (to_z w64 a))))

total_row : (v : ℕ) → Lined (filled total_form (v ∷ [])) (word "total" ∷ signed_decimal (to_z w64 v) ∷ [])
unfolding shown is_number is_sign byte_text next_on next_marked taken_by filled_from
total_row v = leads total_word (ends (solid_signed (to_z w64 v)))

user_row : (v : ℕ) → Lined (filled user_form (v ∷ [])) (word "user" ∷ signed_decimal (to_z w64 v) ∷ [])
unfolding shown is_number is_sign byte_text next_on next_marked taken_by filled_from
user_row v = leads user_word (ends (solid_signed (to_z w64 v)))

refused_row : (n p : ℕ) → Lined (filled refused_form (n ∷ p ∷ [])) (word "refused" ∷ decimal n ∷ decimal p ∷ [])
unfolding shown is_number is_sign byte_text next_on next_marked taken_by filled_from
refused_row n p = leads refused_word (leads (solid n) (ends (solid p)))

-- a line's parts
abbrev line_parts : Line → List (List ℕ)
line_parts l = decimal l.number ∷ shown_bits l.share.0 ∷ shown_bits l.amount.0 ∷ []

-- the lines, one behind the other, and what is behind them
lines_rows : (ls : List Line) (rest : List ℕ) → rows_of (lines_text ls ++ rest) ≡ map (λ l. line_parts l) ls ++ rows_of rest
unfolding lines_text line_text
lines_rows [] rest = refl
lines_rows (l ∷ ls) rest =
    ap (λ (t : List ℕ). rows_of t) (append_assoc (line_text l) (lines_text ls) rest)
    ∙ row_read (lines_text ls ++ rest) (line_row l.number (bits l.share.0) (bits l.amount.0))
    ∙ ap (λ (rows : List (List (List ℕ))). line_parts l ∷ rows) (lines_rows ls rest)

-- every row of them is one before the last
one_before : (r : List (List ℕ)) (rows : List (List (List ℕ))) (s : List (List ℕ)) → but_last (r ∷ (rows ++ (s ∷ []))) ≡ map word_number r ∷ but_last (rows ++ (s ∷ []))
one_before r [] s = refl
one_before r (t ∷ rows) s = refl

one_after : (r : List (List ℕ)) (rows : List (List (List ℕ))) (s : List (List ℕ)) → last_named (r ∷ (rows ++ (s ∷ []))) ≡ last_named (rows ++ (s ∷ []))
one_after r [] s = refl
one_after r (t ∷ rows) s = refl

line_numbers_lem : {ls : List Line} → LinesFit ls → (s : List (List ℕ)) → but_last (map (λ l. line_parts l) ls ++ (s ∷ [])) ≡ map (λ l. line_numbers l) ls
line_numbers_lem no_line s = refl
line_numbers_lem (one_line {l} {ls} f fs) s =
    one_before (line_parts l) (map (λ l. line_parts l) ls) s
    ∙ (λ i. (number_decimal l.number i ∷ number_bits l.share.0 f.share i ∷ number_bits l.amount.0 f.amount i ∷ []) ∷ line_numbers_lem fs s i)

first_fit : {ls : List Line} (n : ℕ) → LinesFit ls → LinesFit (take n ls)
first_fit zero f = no_line
first_fit (suc n) no_line = no_line
first_fit (suc n) (one_line f fs) = one_line f (first_fit n fs)

last_of : (ls : List Line) (s : List (List ℕ)) → last_named (map (λ l. line_parts l) ls ++ (s ∷ [])) ≡ named s
last_of [] s = refl
last_of (l ∷ ls) s = one_after (line_parts l) (map (λ l. line_parts l) ls) s ∙ last_of ls s

-- Statements

-- what a statement tells: R, number, share and amount of every line, and the user's amount
abbrev pub statement_numbers : Shared → ℕ → Reading
statement_numbers s count =
    record {
      first = record { word = word "total"; numbers = s.gap.0 ∷ [] };
      lines = map (λ l. line_numbers l) (take count s.lines);
      last = record { word = word "user"; numbers = s.user.0 ∷ [] };
    }

-- The printed statement reads back as what it tells.
pub statement_back : (s : Shared) (count : ℕ) → StatementFits s → s.number ≡ 0 → read_numbers (statement_text s count) ≡ statement_numbers s count
unfolding read_numbers
statement_back s count f e =
    let ls = take count s.lines in
    let gap = bits s.gap.0 in
    let user = filled user_form (bits s.user.0 ∷ []) in
    let r = word "user" ∷ shown_bits s.user.0 ∷ [] in
    let last : rows_of user ≡ r ∷ [] = ap (λ (t : List ℕ). rows_of t) (sym (append_none user)) ∙ row_read [] (user_row (bits s.user.0)) in
    let behind : rows_of (lines_text ls ++ user) ≡ map (λ l. line_parts l) ls ++ (r ∷ []) =
    lines_rows ls user ∙ ap (λ (rows : List (List (List ℕ))). map (λ l. line_parts l) ls ++ rows) last in
    ap (λ (t : List ℕ). read_numbers t) (sym (accepted_text_lem s count e) ∙ append_assoc (filled total_form (gap ∷ [])) (lines_text ls) user)
    ∙ ap (λ (rows : List (List (List ℕ))). read_rows rows) (row_read (lines_text ls ++ user) (total_row gap))
    ∙ ap (λ (rows : List (List (List ℕ))). read_rows ((word "total" ∷ shown_bits s.gap.0 ∷ []) ∷ rows)) behind
    ∙ (λ i.
    record {
      first = record { word = word "total"; numbers = number_bits s.gap.0 f.gap i ∷ [] };
      lines = line_numbers_lem (first_fit count f.lines) r i;
      last = last_of ls r i;
    })
    ∙ (λ i.
    record {
      first = record { word = word "total"; numbers = s.gap.0 ∷ [] };
      lines = map (λ l. line_numbers l) ls;
      last = record { word = word "user"; numbers = number_bits s.user.0 f.user i ∷ [] };
    })

-- what a refusal tells: its number and place
abbrev pub refusal_numbers : ℕ → ℕ → Reading
refusal_numbers number place = record { first = record { word = word "refused"; numbers = pos number ∷ pos place ∷ [] }; lines = []; last = nothing_named }

-- A printed refusal reads back as what it tells.
pub refused_back : (number place : ℕ) → read_numbers (filled refused_form (number ∷ place ∷ [])) ≡ refusal_numbers number place
unfolding read_numbers
refused_back number place =
    ap (λ (t : List ℕ). read_numbers t) (sym (append_none (filled refused_form (number ∷ place ∷ []))))
    ∙ ap (λ (rows : List (List (List ℕ))). read_rows rows) (row_read [] (refused_row number place))
    ∙ (λ i. record { first = record { word = word "refused"; numbers = number_decimal number i ∷ number_decimal place i ∷ [] }; lines = []; last = nothing_named })

pub refusal_back : (s : Shared) (count : ℕ) → s.number ≢ 0 → read_numbers (statement_text s count) ≡ refusal_numbers s.number s.place
refusal_back s count e = ap (λ (t : List ℕ). read_numbers t) (sym (refusal_text s count e)) ∙ refused_back s.number s.place
