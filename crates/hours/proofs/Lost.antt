-- A line that no bytes can mend: it is not sound, whatever follows. Assumes nothing.
use Rattle.std.proofs.Common.{◌≡◌, ℕ, zero, suc, ◌<◌, ◌≤◌, Bool, true, false, cond, not, ◌&&◌, ◌||◌, eqb, ltb, leb, List, [], ◌∷◌, ◌++◌, map, length, take, replicate, sym, refl, ap, ◌∙◌, arith}
use Rattle.std.proofs.Common.{length-append, length-take, ltb-false, le-ltb, eqb-true, le-leb, leb-false, leb-true}
use borrow.Author.Tests.{lt-leb}
use Rattle.le.proofs.Tests.{joined, each, holds_or_fails}
use Rattle.row.specs.Numbers.{digits, value, ceiling, hold, parts_of, not_empty}
use Rattle.row.specs.Meaning.{most_columns}
use Rattle.row.proofs.Texts.{grows}
use Rattle.grid.specs.declared.cell.Cell.{Cell}
use Rattle.grid.specs.declared.cell.Cell.TheVariants.{Fresh, Bare, Opened, Quoted, Dashed, Closed, Bad}
use Rattle.grid.specs.declared.Grid.{Grid}
use Rattle.ramp.specs.Ramping.{no_action}
use Rattle.grid.specs.Grid.{comma, is_blank, closing, unquoted}
use Rattle.grid.specs.Told.{dash, is_dash, no_number, none_told, told}
use Rattle.grid.specs.Meaning.{told_behind, told_left, all_told, row_by, cells_left, plain_left, head_left, blank_left, row_left, line_then, rows_in, lines_left, lines_by, marks_on, rows_left}
use Rattle.hours.specs.declared.HourLine.{HourLine}
use Rattle.hours.specs.Hours.{hour_columns, as_hour_line, hour_line_is_sound}
use Rattle.hours.specs.Inner.{most_short, most_word, hour_line_fits, blank_hour_line, fair_hour_line, is_past, some_past, is_lost}
use Rattle.hours.proofs.Sound.{none_bad, fair_bad}
use Rattle.hours.proofs.Typing.{blank_fair}

-- The open cell

behind_past : (v : ℕ) (p : List ℕ) → leb ceiling v ≡ true → ceiling ≤ told_behind v p
behind_past v p h = go (digits p)
  where
    go : (t : Bool) → ceiling ≤ cond t (hold (value v p)) no_number
    go true = let low = leb-true ceiling v h in omega (arith, low, grows v p)
    go false = omega arith

none_past : (p : List ℕ) → ceiling ≤ told (dash ∷ p)
none_past p = go (is_dash (dash ∷ p))
  where
    go : (t : Bool) → ceiling ≤ cond t none_told no_number
    go true = omega arith
    go false = omega arith

cell_past : (cell : Cell) (p : List ℕ) → is_past cell ≡ true → ceiling ≤ told_left cell p
unfolding told_left
cell_past Fresh p h = absurd (holds_or_fails h refl)
cell_past (Bare v) p h = behind_past v p h
cell_past Opened p h = absurd (holds_or_fails h refl)
cell_past (Quoted v) p h = behind_past v (closing p) h
cell_past Dashed p h = none_past (closing p)
cell_past (Closed n) p h = go (not_empty p)
  where
    go : (t : Bool) → ceiling ≤ cond t no_number n
    go true = omega arith
    go false = leb-true ceiling n h
cell_past Bad p h = omega arith

-- Seven cells

-- one of the first k is past, where one of some that are fewer is, or the next
past_first : (k : ℕ) (a : List ℕ) (c : ℕ) (more : List ℕ) → length a < k → (some_past a || leb ceiling c) ≡ true → some_past (take k (a ++ c ∷ more)) ≡ true
unfolding some_past
past_first zero a c more h e = absurd (omega (arith, h))
past_first (suc k) [] c more h e = rw e
past_first (suc k) (x ∷ a) c more h e = go (leb ceiling x) e (past_first k a c more (omega (arith, h)))
  where
    go : (t : Bool) → ((t || some_past a) || leb ceiling c) ≡ true → ((some_past a || leb ceiling c) ≡ true → some_past (take k (a ++ c ∷ more)) ≡ true)
        → (t || some_past (take k (a ++ c ∷ more))) ≡ true
    go true f rec = refl
    go false f rec = rec f

abbrev words : List ℕ → List Bool
words [] = []
words (n ∷ ns) = leb n most_word ∷ words ns

below : (n : ℕ) → leb n most_word ≡ true → leb ceiling n ≡ false
below n f = let low = leb-true n most_word f in lt-leb ceiling n (omega (arith, low))

short : (n : ℕ) → leb n most_short ≡ true → leb ceiling n ≡ false
short n f = let low = leb-true n most_short f in lt-leb ceiling n (omega (arith, low))

seven_past : (xs : List ℕ) → length xs ≡ 7 → some_past xs ≡ true → fair_hour_line (as_hour_line xs) ≡ blank_hour_line
unfolding some_past fair_hour_line hour_line_fits as_hour_line
seven_past [] h e = absurd (omega (arith, h))
seven_past (a ∷ []) h e = absurd (omega (arith, h))
seven_past (a ∷ b ∷ []) h e = absurd (omega (arith, h))
seven_past (a ∷ b ∷ c ∷ []) h e = absurd (omega (arith, h))
seven_past (a ∷ b ∷ c ∷ d ∷ []) h e = absurd (omega (arith, h))
seven_past (a ∷ b ∷ c ∷ d ∷ x ∷ []) h e = absurd (omega (arith, h))
seven_past (a ∷ b ∷ c ∷ d ∷ x ∷ y ∷ []) h e = absurd (omega (arith, h))
seven_past (a ∷ b ∷ c ∷ d ∷ x ∷ y ∷ z ∷ v ∷ ns) h e = absurd (omega (arith, h))
seven_past (a ∷ b ∷ c ∷ d ∷ x ∷ y ∷ z ∷ []) h e = go (joined (leb a most_short) (words (b ∷ c ∷ d ∷ x ∷ y ∷ z ∷ []))) refl
  where
    go : (t : Bool) → joined (leb a most_short) (words (b ∷ c ∷ d ∷ x ∷ y ∷ z ∷ [])) ≡ t → cond t (as_hour_line (a ∷ b ∷ c ∷ d ∷ x ∷ y ∷ z ∷ [])) blank_hour_line ≡ blank_hour_line
    go false f = refl
    go true f =
        let p = each (leb a most_short) (words (b ∷ c ∷ d ∷ x ∷ y ∷ z ∷ [])) f in
        let q = p.1.1.1.1 in
        let none : some_past (a ∷ b ∷ c ∷ d ∷ x ∷ y ∷ z ∷ []) ≡ false =
        rw (short a p.0, below b p.1.0, below c p.1.1.0, below d p.1.1.1.0, below x q.0, below y q.1.0, below z q.1.1.0) in
        absurd (holds_or_fails e none)

-- what the first cells say is no line that is taken
module _ (at : ℕ) (ended : List ℕ) (c : ℕ) (more : List ℕ) (long : length ended ≡ 8) where
  abbrev first_cells : List ℕ
  first_cells = take most_columns (take at ended ++ c ∷ more)

  seven_some : (t : Bool) → leb hour_columns at ≡ t → (t || (some_past (take at ended) || leb ceiling c)) ≡ true → length first_cells ≡ 7 → some_past first_cells ≡ true
  seven_some true f e many =
      let low = leb-true hour_columns at f in
      absurd (omega (arith, many, low, long, length-take most_columns (take at ended ++ c ∷ more), length-append (take at ended) (c ∷ more), length-take at ended))
  seven_some false f e many =
      let low = leb-false hour_columns at f in
      past_first most_columns (take at ended) c more (omega (arith, low, length-take at ended)) e

  lost_row : (leb hour_columns at || (some_past (take at ended) || leb ceiling c)) ≡ true → fair_hour_line (as_hour_line (row_by hour_columns first_cells)) ≡ blank_hour_line
  lost_row e = go (eqb (length first_cells) hour_columns && all_told first_cells) refl
    where
      go : (t : Bool) → (eqb (length first_cells) hour_columns && all_told first_cells) ≡ t → fair_hour_line (as_hour_line (cond t first_cells [])) ≡ blank_hour_line
      go false f = sym blank_fair
      go true f =
          let many = eqb-true (length first_cells) hour_columns (each (eqb (length first_cells) hour_columns) (all_told first_cells ∷ []) f).0 in
          seven_past first_cells many (seven_some (leb hour_columns at) refl e many)

-- A line by its tests

module _ (grid : Grid) (ended : List ℕ) where
  pub lost_eighth : hour_columns ≤ grid.at → true ≡ is_lost grid ended
  unfolding is_lost
  lost_eighth h = rw (le-leb hour_columns grid.at h)

  pub lost_cells : grid.at < hour_columns → (t u : Bool) → t ≡ some_past (take grid.at ended) → u ≡ is_past grid.cell → (t || u) ≡ is_lost grid ended
  unfolding is_lost
  lost_cells h t u e f = rw (lt-leb hour_columns grid.at h, e, f)

-- Rows

or_more : (t u v w : Bool) → (v ≡ true → w ≡ true) → (t || (u || v)) ≡ true → (t || (u || w)) ≡ true
or_more true u v w f e = refl
or_more false true v w f e = refl
or_more false false v w f e = f e

and_true : (t : Bool) → (t && true) ≡ false → t ≡ false
and_true true e = e
and_true false e = refl

-- rows that begin with the line that is being read, of which `left` is left, behind so many blank ones
pub record BeginWith (say : List ℕ → List ℕ) (k : ℕ) (grid : Grid) (ended : List ℕ) (all : List (List ℕ)) : Type 0 where
  pub left : List ℕ
  pub more : List (List ℕ)
  pub is : all ≡ replicate k [] ++ row_left say grid ended left ∷ more

-- those of a line that is no heading and not blank do, whatever follows
module _ (grid : Grid) (ended : List ℕ) (head : head_left grid [] ≡ false) (blank : blank_left grid [] ≡ false) where
  in_body : ltb grid.stage 4 ≡ false
  unfolding head_left
  in_body = and_true (ltb grid.stage 4) head

  no_heading : (l : List ℕ) → head_left grid l ≡ false
  unfolding head_left
  no_heading l = rw in_body

  no_blank : (l : List ℕ) → blank_left grid l ≡ false
  unfolding blank_left
  no_blank l = go grid.filled grid.shut blank
    where
      go : (t u : Bool) → (not t && is_blank (plain_left u [])) ≡ false → (not t && is_blank (plain_left u l)) ≡ false
      go true u e = refl
      go false true e = absurd (holds_or_fails refl e)
      go false false e = absurd (holds_or_fails refl e)

  pub rows_begin : (say : List ℕ → List ℕ) (k : ℕ) (rest : List ℕ) → BeginWith say k grid ended (rows_left say k grid ended rest)
  unfolding rows_left marks_on line_then
  rows_begin say k rest =
      let body = ltb-false grid.stage 4 in_body in
      rw (le-ltb grid.stage 3 (omega (arith, body))) (go (lines_by grid.separator rest))
    where
      begin : (l : List ℕ) (rows : List (List ℕ)) → BeginWith say k grid ended (line_then k (head_left grid l) (blank_left grid l) (row_left say grid ended l) rows)
      begin l rows = rw (no_heading l, no_blank l) (record { left = l; more = rows; is = refl })

      go : (lines : List (List ℕ)) → BeginWith say k grid ended (lines_left say k grid ended lines)
      go [] = begin [] (rows_in say [])
      go (l ∷ lines) = begin l (rows_in say lines)

-- rows that begin with one that is bad behind some lines
pub record BeginsBad (hours : ℕ) (ls : List HourLine) (rows : List (List ℕ)) : Type 0 where
  pub row : List ℕ
  pub more : List (List ℕ)
  pub is : rows ≡ row ∷ more
  pub bad : hour_line_is_sound hours ls (as_hour_line row) ≡ false

module _ (grid : Grid) (ended : List ℕ) (long : length ended ≡ 8) where
  row_lost : is_lost grid ended ≡ true → (l : List ℕ) → fair_hour_line (as_hour_line (row_left (row_by hour_columns) grid ended l)) ≡ blank_hour_line
  unfolding is_lost row_left
  row_lost e l = go (parts_of comma (plain_left grid.shut l))
    where
      told_past : (p : List ℕ) → (leb hour_columns grid.at || (some_past (take grid.at ended) || leb ceiling (told_left grid.cell p))) ≡ true
      told_past p =
          or_more (leb hour_columns grid.at) (some_past (take grid.at ended)) (is_past grid.cell) (leb ceiling (told_left grid.cell p))
          (λ h. le-leb ceiling (told_left grid.cell p) (cell_past grid.cell p h)) e

      go : (ps : List (List ℕ)) → fair_hour_line (as_hour_line (row_by hour_columns (cells_left grid.at ended grid.cell ps))) ≡ blank_hour_line
      go [] = lost_row grid.at ended (told_left grid.cell []) [] long (told_past [])
      go (p ∷ ps) = lost_row grid.at ended (told_left grid.cell p) (map told (map unquoted ps)) long (told_past p)

  module _ (hours : ℕ) (few : hours ≤ most_short) (ls : List HourLine) (head : head_left grid [] ≡ false) (blank : blank_left grid [] ≡ false) where
    lost_bad : is_lost grid ended ≡ true → (l : List ℕ) → hour_line_is_sound hours ls (as_hour_line (row_left (row_by hour_columns) grid ended l)) ≡ false
    unfolding blank_hour_line no_action as_hour_line
    lost_bad e l = fair_bad hours few ls (as_hour_line (row_left (row_by hour_columns) grid ended l)) (ap (hour_line_is_sound hours ls) (row_lost e l) ∙ none_bad hours ls)

    -- WHATEVER FOLLOWS, a line that no bytes can mend is bad, and so is one behind a blank line
    pub begins_bad : (k : ℕ) → (ltb 0 k || is_lost grid ended) ≡ true → (rest : List ℕ) → BeginsBad hours ls (rows_left (row_by hour_columns) k grid ended rest)
    begins_bad zero e rest =
        let b = rows_begin grid ended head blank (row_by hour_columns) 0 rest in
        record { row = row_left (row_by hour_columns) grid ended b.left; more = b.more; is = b.is; bad = lost_bad e b.left }
    begins_bad (suc k) e rest =
        let b = rows_begin grid ended head blank (row_by hour_columns) (suc k) rest in
        record { row = []; more = replicate k [] ++ row_left (row_by hour_columns) grid ended b.left ∷ b.more; is = b.is; bad = none_bad hours ls }
