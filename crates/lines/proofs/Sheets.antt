-- What a line's end and a text's end do to the meaning of the lines read. Assumes nothing.
use mathlib.Core.Path.{◌≡◌, refl, ap, sym, ◌∙◌}
use mathlib.Core.Bool.{Bool, true, false, not, ◌&&◌}
use mathlib.Core.List.{List, [], ◌∷◌, ◌++◌, map}
use Prim.Native.Nat.{ℕ, ◌+◌, ◌-◌, ◌≤◌, ◌<◌}
use native.Mathlib.Omega.{arith}
use lib.Dec.{ltb, eqb}
use lib.ListN.{drop, length, get_or, set, length-set, drop_of_length-le}
use borrow.Author.Tests.{ne_eqb, eq-eqb, eqb-true, eqb-false, ltb-true, ltb-false, not-true}
use Rattle.le.proofs.Tests.{each}
use Rattle.row.specs.declared.Row.{Row}
use Rattle.row.specs.Numbers.{lines_of, is_digit, value, hold}
use Rattle.row.specs.Meaning.{most_columns, row_is_begun, row_numbers, RowFresh, RowFollows}
use Rattle.row.specs.Judging.{judged}
use Rattle.row.proofs.Texts.{digit_is_not}
use Rattle.row.proofs.Rows.{start_row, start_fresh, by_digit, by_separator, by_spoiling, foreign, parted_early, parted_late}
use Rattle.row.proofs.Left.{next_byte, left_fresh, left_feed, left_byte}
use Rattle.row.proofs.Judging.{judged_alike, with_refused, with_bad, with_full, with_sound}
use Rattle.share.specs.declared.Line.{Line}
use Rattle.share.specs.Sharing.{most_number}
use Rattle.share.specs.Forms.{shared_array, nothing_shared}
use Rattle.lines.specs.declared.sheet.Sheet.{Sheet}
use Rattle.lines.specs.declared.body.Body.{Body}
use Rattle.lines.specs.declared.Taken.{Taken}
use Rattle.lines.specs.Text.{space, as_line, line_of, taken_shared, sharing_lines}
use Rattle.lines.specs.Meaning.{row_line, line_in, whole_line, lines_left, sheet_so_far, sheet_outcome, body_outcome, body_meaning, LineFollows}
use Rattle.lines.proofs.Lines.{lawful, holds}

-- A byte

fresh_line : (row : Row) → RowFresh row → (l : List ℕ) → row_line row l ≡ whole_line l
fresh_line row f l = ap as_line (f.line space 4 l)

pub step_feed : (row fresh : Row) (s r : Sheet) (b : ℕ) → b ≡ 10 → RowFresh fresh → ((ls : List Line) → sheet_outcome r ls ≡ sheet_outcome s (row_line row [] ∷ ls))
    → (rest : List ℕ) → body_meaning (record { row = fresh; sheet = r }) rest ≡ body_meaning (record { row = row; sheet = s }) (b ∷ rest)
unfolding body_meaning
step_feed row fresh s r b e f c rest =
    c (lines_left fresh (lines_of rest))
    ∙ ap (λ (ls : List Line). sheet_outcome s ls) (sym (left_feed whole_line (row_is_begun row) (row_is_begun fresh) (row_line row) (row_line fresh) b rest e f.unread (fresh_line fresh f)))

pub step_other : (row r : Row) (s : Sheet) (b : ℕ) → (b ≡ 10 → ⊥) → LineFollows row b r
    → (rest : List ℕ) → body_meaning (record { row = r; sheet = s }) rest ≡ body_meaning (record { row = row; sheet = s }) (b ∷ rest)
unfolding body_meaning
step_other row r s b ne f rest =
    ap (λ (ls : List Line). sheet_outcome s ls) (left_byte whole_line (row_is_begun row) (row_is_begun r) (row_line row) (row_line r) b rest ne f.begun f.line)

-- The end of the text

pub end_open : (s : Body) (r : Sheet) → row_is_begun s.row ≡ true → ((ls : List Line) → sheet_outcome r ls ≡ sheet_outcome s.sheet (row_line s.row [] ∷ ls)) → sheet_outcome r [] ≡ body_meaning s []
unfolding body_meaning
end_open s r e c = rw e (c [])

pub end_shut : (s : Body) → row_is_begun s.row ≡ false → sheet_outcome s.sheet [] ≡ body_meaning s []
unfolding body_meaning
end_shut s e = rw e

-- Many bytes

module _ (b : List ℕ) (i : ℕ) (first : Body) where
  pub feed_on : (s r : Body) → i < length b → ((rest : List ℕ) → body_meaning r rest ≡ body_meaning s (get_or b i 0 ∷ rest))
      → ((rest : List ℕ) → body_meaning s (drop i b ++ rest) ≡ body_meaning first (b ++ rest)) → (rest : List ℕ) → body_meaning r (drop (i + 1) b ++ rest) ≡ body_meaning first (b ++ rest)
  feed_on s r h step inv rest =
      step (drop (i + 1) b ++ rest) ∙ ap (λ (l : List ℕ). body_meaning s (l ++ rest)) (sym (next_byte b i h)) ∙ inv rest

  pub feed_end : (s : Body) → length b ≤ i → ((rest : List ℕ) → body_meaning s (drop i b ++ rest) ≡ body_meaning first (b ++ rest))
      → (rest : List ℕ) → body_meaning s rest ≡ body_meaning first (b ++ rest)
  feed_end s h inv rest = ap (λ (l : List ℕ). body_meaning s (l ++ rest)) (sym (drop_of_length-le b h)) ∙ inv rest

-- The sheet after a line's end, changed where it stands

-- no line was refused, and the line's number and the room are enough
abbrev is_taken : Sheet → Line → Bool
is_taken s l = not s.refused && ltb s.before l.number && ltb s.count most_number

pub has_room : (s : Sheet) (l : Line) → is_taken s l ≡ true → s.count < most_number
has_room s l h = ltb-true s.count most_number (each (not s.refused) (ltb s.before l.number ∷ ltb s.count most_number ∷ []) h).1.1.0

module _ (row : Row) (s : Sheet) (l : Line) (fair : l ≡ line_in row) where
  pub in_place : is_taken s l ≡ true → (ls : List Line)
      → sheet_outcome (record { refused = s.refused; before = l.number; count = s.count + 1; lines = set s.lines s.count l }) ls ≡ sheet_outcome s (row_line row [] ∷ ls)
  in_place h ls =
      let p = each (not s.refused) (ltb s.before l.number ∷ ltb s.count most_number ∷ []) h in
      let on = not-true s.refused p.0 in
      (λ i. sheet_outcome (record { refused = on i; before = l.number; count = s.count + 1; lines = set s.lines s.count l }) ls)
      ∙ with_sound sharing_lines lawful (sheet_so_far s) (row_line row []) on l fair (ltb-true s.before l.number p.1.0) (has_room s l h) ls

  abbrev shut : Sheet
  shut = record { refused = true; before = s.before; count = s.count; lines = s.lines }

  pub out_of_place : is_taken s l ≡ false → (ls : List Line) → sheet_outcome shut ls ≡ sheet_outcome s (row_line row [] ∷ ls)
  out_of_place h ls = go s.refused (ltb s.before l.number) refl refl h
    where
      go : (t u : Bool) → s.refused ≡ t → ltb s.before l.number ≡ u → (not t && u && ltb s.count most_number) ≡ false → sheet_outcome shut ls ≡ sheet_outcome s (row_line row [] ∷ ls)
      go true u e k m =
          (λ i. sheet_outcome (record { refused = sym e i; before = s.before; count = s.count; lines = s.lines }) ls)
          ∙ with_refused sharing_lines lawful (sheet_so_far s) (row_line row []) e ls
      go false false e k m =
          with_bad sharing_lines lawful (sheet_so_far s) (row_line row []) e l fair (sheet_so_far shut) (refl, refl) (ltb-false s.before l.number k) ls
      go false true e k m = with_full sharing_lines lawful (sheet_so_far s) (row_line row []) e (sheet_so_far shut) (refl, refl) (ltb-false s.count most_number m) ls

-- One byte more, by what it is

-- a row and a sheet after a byte
pub record ByteRead (row : Row) (s : Sheet) (b : ℕ) (row' : Row) (s' : Sheet) : Type 0 where
  pub long : length row'.ended ≡ length row.ended
  pub says : (rest : List ℕ) → body_meaning (record { row = row'; sheet = s' }) rest ≡ body_meaning (record { row = row; sheet = s }) (b ∷ rest)

-- the row's numbers after a byte are its line's
pub line_follows : {row r : Row} {b : ℕ} → RowFollows space 4 row b r → LineFollows row b r
line_follows f = record { begun = f.begun; line = λ rest. ap as_line (f.line rest) }

-- the byte is a blank behind a number that others follow
abbrev parts : Row → ℕ → Bool
parts row b = eqb b space && row.digit && ltb row.at 4

pub early : (row : Row) (b : ℕ) → parts row b ≡ true → row.at < 4
early row b h = ltb-true row.at 4 (each (eqb b space) (row.digit ∷ ltb row.at 4 ∷ []) h).1.1.0

module _ (row row' : Row) (s s' : Sheet) (b : ℕ) where
  -- a line feed
  pub line_arm : (r : Sheet) → b ≡ 10 → s' ≡ r → row' ≡ start_row row.ended → ((ls : List Line) → sheet_outcome r ls ≡ sheet_outcome s (row_line row [] ∷ ls)) → ByteRead row s b row' s'
  line_arm r e p q c =
      record {
        long = ap (λ (x : Row). length x.ended) q;
        says = λ rest. (λ i. body_meaning (record { row = q i; sheet = p i }) rest) ∙ step_feed row (start_row row.ended) s r b e (start_fresh row.ended) c rest;
      }

  -- another byte
  other_arm : (r : Row) → (b ≡ 10 → ⊥) → s' ≡ s → row' ≡ r → length r.ended ≡ length row.ended → RowFollows space 4 row b r → ByteRead row s b row' s'
  other_arm r ne p q long f =
      record {
        long = ap (λ (x : Row). length x.ended) q ∙ long;
        says = λ rest. (λ i. body_meaning (record { row = q i; sheet = p i }) rest) ∙ step_other row r s b ne (line_follows f) rest;
      }

  -- a digit
  pub digit_arm : (v : ℕ) → is_digit b ≡ true → s' ≡ s → row' ≡ record { bad = row.bad; digit = true; at = row.at; value = v; ended = row.ended }
      → ((rest : List ℕ) → hold (value v rest) ≡ hold (value row.value (b ∷ rest))) → ByteRead row s b row' s'
  digit_arm v d p q h =
      other_arm _ (digit_is_not b 10 d (omega arith)) p q refl (by_digit space 4 row b v (digit_is_not b space d (omega arith)) d h)

  -- a blank behind a number that others follow
  pub blank_arm : (v : ℕ) → length row.ended ≡ most_columns - 1 → parts row b ≡ true → s' ≡ s
      → row' ≡ record { bad = row.bad; digit = false; at = row.at + 1; value = 0; ended = set row.ended row.at v } → v ≡ hold row.value → ByteRead row s b row' s'
  blank_arm v long h p q e =
      let t = each (eqb b space) (row.digit ∷ ltb row.at 4 ∷ []) h in
      let is : b ≡ space = eqb-true b space t.0 in
      let room = early row b h in
      other_arm _ (λ n. omega (arith, is, n)) p q (length-set row.ended row.at v) (rw is (by_separator 4 row t.1.0 (omega (arith, long, room)) v e space))

  -- a byte that spoils its line: a foreign one, or a blank that parts no numbers
  pub bad_arm : (b ≡ 10 → ⊥) → is_digit b ≡ false → parts row b ≡ false → s' ≡ s
      → row' ≡ record { bad = true; digit = row.digit; at = row.at; value = row.value; ended = row.ended } → ByteRead row s b row' s'
  bad_arm ne d h p q = other_arm _ ne p q refl (by_spoiling space 4 row _ b refl (go (eqb b space) row.digit refl refl h))
    where
      go : (t u : Bool) → eqb b space ≡ t → row.digit ≡ u → (t && u && ltb row.at 4) ≡ false → (rest : List ℕ) → row_numbers space 4 row (b ∷ rest) ≡ []
      go false u e k m rest = foreign space 4 row b (eqb-false b space e) d rest
      go true false e k m rest = rw (eqb-true b space e) (parted_early space 4 row k rest)
      go true true e k m rest = rw (eqb-true b space e) (parted_late space 4 row (ltb-false row.at 4 m) rest)

-- The start of the text

pub starts : (row : Row) (s : Sheet) → RowFresh row → ((ls : List Line) → sheet_outcome s ls ≡ judged sharing_lines ls) → (ls : List (List ℕ))
    → body_outcome (record { row = row; sheet = s }) ls ≡ judged sharing_lines (map line_of ls)
starts row s f h ls =
    ap (λ (xs : List Line). sheet_outcome s xs) (left_fresh whole_line (row_is_begun row) (row_line row) f.unread (fresh_line row f) ls)
    ∙ h (map whole_line ls) ∙ judged_alike sharing_lines lawful whole_line line_of holds ls

-- The sharing

pub shared_yes : (t : Taken) → t.number ≡ 0 → shared_array t.part t.lines t.count ≡ taken_shared t
unfolding taken_shared
shared_yes t h = rw (eq-eqb t.number 0 h)

pub shared_no : (t : Taken) → (t.number ≡ 0 → ⊥) → nothing_shared t.number t.place ≡ taken_shared t
unfolding taken_shared
shared_no t h = rw (ne_eqb t.number 0 h)
