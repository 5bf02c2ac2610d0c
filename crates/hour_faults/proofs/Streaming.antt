-- What the end of a line, a step and the end of the file do to what a finder would find. Assumes nothing.
use Rattle.std.proofs.Common.{◌≡◌, ℕ, suc, ◌+◌, ◌<◌, ◌≤◌, Bool, true, false, cond, not, ◌&&◌, ◌||◌, leb, List, [], ◌∷◌, ◌++◌, map, length, get_or, take, drop, replicate, sym, refl, ap, ◌∙◌}
use Rattle.std.proofs.Common.{append_assoc, arith, length-append, drop_of_length-le, length-take, leb-true}
use borrow.Author.Tests.{not-true}
use Rattle.le.proofs.Tests.{each}
use Rattle.row.specs.Numbers.{line_feed, parts_of}
use Rattle.row.specs.Meaning.{most_columns}
use Rattle.row.proofs.Left.{next_byte}
use Rattle.grid.specs.declared.Grid.{Grid}
use Rattle.grid.specs.declared.Step.{Step}
use Rattle.grid.specs.Grid.{comma, unquoted}
use Rattle.grid.specs.Told.{told}
use Rattle.grid.specs.Meaning.{told_left, cells_left, plain_left, head_left, blank_left, row_left, blanks_then, line_then, rows_left, rows_after, StepFrom, Next}
use Rattle.grid.proofs.Rows.{blanks_none, feed, ends}
use Rattle.hours.specs.Hours.{hour_columns}
use Rattle.hours.specs.Inner.{one_if}
use Rattle.hours.proofs.Lost.{rows_begin}
use Rattle.faults.specs.Inner.{as_told}
use Rattle.hour_faults.specs.declared.HourWrong.TheVariants.{Blank, Columns}
use Rattle.std.specs.Prelude.{Option, is_none}
use Rattle.hour_faults.proofs.First.{first_known}
use Rattle.hour_faults.specs.declared.HourFound.{HourFound}
use Rattle.hour_faults.specs.declared.judge.Judge.{Judge}
use Rattle.hour_faults.specs.declared.Finder.{Finder}
use Rattle.hour_faults.specs.HourFaults.{is_sound, row_fault}
use Rattle.hour_faults.specs.Inner.{judge_fault, judge_refusing, judge_of, judge_all, judge_after, blank_after, first_left, found_by, judge_left, fault_is_known, finder_is_settled, found_left}

-- A fault that was found stays

one_stays : (j : Judge) → is_sound j.wrong ≡ false → (row : List ℕ) → judge_of j row ≡ j
unfolding judge_of
one_stays j h row = rw h

pub stays : (rows : List (List ℕ)) (j : Judge) → is_sound j.wrong ≡ false → judge_all j rows ≡ j
unfolding judge_all
stays [] j h = refl
stays (row ∷ rows) j h = ap (λ (k : Judge). judge_all k rows) (one_stays j h row) ∙ stays rows j h

-- a blank line is one
spoils : (j : Judge) → is_sound (judge_of j []).wrong ≡ false
unfolding judge_of judge_fault row_fault judge_refusing
spoils j = go (is_sound j.wrong) refl
  where
    go : (t : Bool) → is_sound j.wrong ≡ t → is_sound (cond t (judge_refusing j Blank) j).wrong ≡ false
    go true e = refl
    go false e = e

-- The end of a line

-- many blank lines say what one says
blank_once : (j : Judge) (k : ℕ) (rows : List (List ℕ)) → judge_all j (blanks_then (suc k) rows) ≡ judge_all j (blanks_then 1 rows)
unfolding blanks_then judge_all
blank_once j k [] = refl
blank_once j k (row ∷ rows) = stays (replicate k [] ++ row ∷ rows) (judge_of j []) (spoils j) ∙ sym (stays (row ∷ rows) (judge_of j []) (spoils j))

pub line_ends_lem : (j : Judge) (blank : Bool) (grid : Grid) (ended : List ℕ) (rows : List (List ℕ))
    → judge_all j (line_then (one_if blank) (head_left grid []) (blank_left grid []) (row_left as_told grid ended []) rows)
    ≡ judge_all (judge_after j blank grid ended) (blanks_then (one_if (blank_after blank grid)) rows)
unfolding line_then judge_after blank_after one_if judge_all
line_ends_lem j blank grid ended rows = go (head_left grid []) (blank_left grid []) blank
  where
    row : List ℕ
    row = row_left as_told grid ended []

    go : (h b k : Bool) → judge_all j (line_then (one_if k) h b row rows) ≡ judge_all (cond h j (cond b j (judge_of j (cond k [] row)))) (blanks_then (one_if (cond h k b)) rows)
    go true b k = refl
    go false true k = blank_once j (one_if k) rows
    go false false false = ap (judge_all (judge_of j row)) (sym (blanks_none rows))
    go false false true = stays (row ∷ rows) (judge_of j []) (spoils j) ∙ sym (stays (blanks_then 0 rows) (judge_of j []) (spoils j))

-- What is left

abbrev pub left_by : Judge → Bool → Grid → List ℕ → List ℕ → Judge
left_by j blank grid ended rest = judge_all j (rows_left as_told (one_if blank) grid ended rest)

left_feed : (j : Judge) (blank : Bool) (grid : Grid) (ended rest : List ℕ) (n : Grid) → Next grid n
    → left_by (judge_after j blank grid ended) (blank_after blank grid) n ended rest ≡ left_by j blank grid ended (10 ∷ rest)
left_feed j blank grid ended rest n next =
    ap (judge_all (judge_after j blank grid ended)) (next.rows as_told (one_if (blank_after blank grid)) ended rest)
    ∙ sym (ap (judge_all j) (feed as_told (one_if blank) grid ended rest) ∙ line_ends_lem j blank grid ended (rows_after as_told grid rest))

none_left : (j : Judge) (n : ℕ) → j ≡ judge_all j (blanks_then n [])
unfolding blanks_then judge_all
none_left j n = refl

pub left_ends : (j : Judge) (blank : Bool) (grid : Grid) (ended : List ℕ) → judge_after j blank grid ended ≡ left_by j blank grid ended []
left_ends j blank grid ended =
    none_left (judge_after j blank grid ended) (one_if (blank_after blank grid)) ∙ sym (line_ends_lem j blank grid ended [])
    ∙ sym (ap (judge_all j) (ends as_told (one_if blank) grid ended))

-- Many bytes

module _ (bytes : List ℕ) (first : Judge) (held : Bool) (from : Grid) (cells : List ℕ) where
  -- behind byte i is left what was left before them
  abbrev pub LeftSoFar : ℕ → Judge → Bool → Grid → List ℕ → Type 0
  LeftSoFar i j blank grid ended = (rest : List ℕ) → left_by j blank grid ended (drop i bytes ++ rest) ≡ left_by first held from cells (bytes ++ rest)

  pub feed_line : (i : ℕ) → i < length bytes → get_or bytes i 0 ≡ line_feed → (j : Judge) (blank : Bool) (grid : Grid) (ended : List ℕ) → LeftSoFar i j blank grid ended
      → (k : Judge) (b : Bool) (n : Grid) → k ≡ judge_after j blank grid ended → b ≡ blank_after blank grid → Next grid n → LeftSoFar (i + 1) k b n ended
  feed_line i h e j blank grid ended so k b n k-is b-is next rest =
      let byte : drop i bytes ≡ 10 ∷ drop (i + 1) bytes = next_byte bytes i h ∙ ap (λ (x : ℕ). x ∷ drop (i + 1) bytes) e in
      (λ t. left_by (k-is t) (b-is t) n ended (drop (i + 1) bytes ++ rest)) ∙ left_feed j blank grid ended (drop (i + 1) bytes ++ rest) n next
      ∙ ap (λ (l : List ℕ). left_by j blank grid ended (l ++ rest)) (sym byte) ∙ so rest

  pub feed_step : (i : ℕ) (j : Judge) (blank : Bool) (grid : Grid) (ended : List ℕ) → LeftSoFar i j blank grid ended
      → (step : Step) (after : List ℕ) → StepFrom bytes i grid ended step after → LeftSoFar step.end j blank step.grid after
  feed_step i j blank grid ended so step after s rest =
      ap (judge_all j) (s.rows as_told (one_if blank) (drop step.end bytes ++ rest))
      ∙ ap (λ (l : List ℕ). left_by j blank grid ended l) (sym (append_assoc s.read (drop step.end bytes) rest) ∙ ap (λ (l : List ℕ). l ++ rest) (sym s.stands)) ∙ so rest

  pub feed_all : (i : ℕ) → length bytes ≤ i → (j : Judge) (blank : Bool) (grid : Grid) (ended : List ℕ) → LeftSoFar i j blank grid ended
      → (rest : List ℕ) → left_by j blank grid ended rest ≡ left_by first held from cells (bytes ++ rest)
  feed_all i h j blank grid ended so rest = ap (λ (l : List ℕ). left_by j blank grid ended (l ++ rest)) (sym (drop_of_length-le bytes h)) ∙ so rest

-- WHAT IS FOUND

pub found_fed : (bytes : List ℕ) (f r : Finder) → ((rest : List ℕ) → first_left r.first rest ≡ first_left f.first (bytes ++ rest))
    → ((rest : List ℕ) → left_by r.judge r.blank r.grid r.ended rest ≡ left_by f.judge f.blank f.grid f.ended (bytes ++ rest))
    → (rest : List ℕ) → found_left r rest ≡ found_left f (bytes ++ rest)
unfolding found_left judge_left
found_fed bytes f r a b rest = λ i. found_by (a rest i) (b rest i)

pub found_ends : (f : Finder) (first : ℕ) (j : Judge) (found : Option HourFound) → first ≡ first_left f.first [] → j ≡ judge_after f.judge f.blank f.grid f.ended
    → found ≡ found_by first j → found ≡ found_left f []
unfolding found_left judge_left
found_ends f first j found a b e = e ∙ (λ i. found_by (a i) ((b ∙ left_ends f.judge f.blank f.grid f.ended) i))

-- Settled

pub found_settled : (f : Finder) → is_sound f.judge.wrong ≡ false → is_none f.first ≡ false → (rest : List ℕ) → found_left f rest ≡ found_left f []
unfolding found_left judge_left
found_settled f h n rest =
    (λ i. found_by (first_known f.first n rest [] i) ((stays (rows_left as_told (one_if f.blank) f.grid f.ended rest) f.judge h
    ∙ sym (stays (rows_left as_told (one_if f.blank) f.grid f.ended []) f.judge h)) i))

-- a row of eight cells has too many, whatever they say
eight : (j : Judge) → is_sound j.wrong ≡ true → (row : List ℕ) → length row ≡ 8 → judge_of j row ≡ judge_refusing j (Columns 8 hour_columns)
unfolding judge_of judge_fault row_fault
eight j h row long = rw (h, long)

-- a line with an eighth cell is one
cells_eight : (grid : Grid) (ended : List ℕ) → length ended ≡ 8 → hour_columns ≤ grid.at → (l : List ℕ) → length (row_left as_told grid ended l) ≡ 8
unfolding row_left
cells_eight grid ended long h l = go (parts_of comma (plain_left grid.shut l))
  where
    many : (c : ℕ) (more : List ℕ) → length (take most_columns (take grid.at ended ++ c ∷ more)) ≡ 8
    many c more =
        omega (arith, h, long, length-take most_columns (take grid.at ended ++ c ∷ more), length-append (take grid.at ended) (c ∷ more), length-take grid.at ended)

    go : (ps : List (List ℕ)) → length (cells_left grid.at ended grid.cell ps) ≡ 8
    go [] = many (told_left grid.cell []) []
    go (p ∷ ps) = many (told_left grid.cell p) (map told (map unquoted ps))

module _ (f : Finder) (long : length f.ended ≡ 8) (on : is_sound f.judge.wrong ≡ true) (head : head_left f.grid [] ≡ false) (filled : blank_left f.grid [] ≡ false) where
  -- what the judge has come to then
  spoilt_judge : Bool → Judge
  spoilt_judge true = judge_of f.judge []
  spoilt_judge false = judge_refusing f.judge (Columns 8 hour_columns)

  spoilt_judge_lem : (blank : Bool) → (blank || leb hour_columns f.grid.at) ≡ true → (rest : List ℕ) → left_by f.judge blank f.grid f.ended rest ≡ spoilt_judge blank
  unfolding spoilt_judge one_if judge_all judge_refusing
  spoilt_judge_lem true h rest =
      let b = rows_begin f.grid f.ended head filled as_told 1 rest in
      ap (judge_all f.judge) b.is ∙ stays (row_left as_told f.grid f.ended b.left ∷ b.more) (judge_of f.judge []) (spoils f.judge)
  spoilt_judge_lem false h rest =
      let b = rows_begin f.grid f.ended head filled as_told 0 rest in
      let row = row_left as_told f.grid f.ended b.left in
      let one = eight f.judge on row (cells_eight f.grid f.ended long (leb-true hour_columns f.grid.at h) b.left) in
      ap (judge_all f.judge) b.is ∙ ap (λ (j : Judge). judge_all j b.more) one ∙ stays b.more (judge_refusing f.judge (Columns 8 hour_columns)) (refuses f.judge)
    where
      refuses : (j : Judge) → is_sound (judge_refusing j (Columns 8 hour_columns)).wrong ≡ false
      refuses j = refl

pub found_spoilt : (f : Finder) → length f.ended ≡ 8 → is_sound f.judge.wrong ≡ true → is_none f.first ≡ false → fault_is_known f ≡ true → (rest : List ℕ) → found_left f rest ≡ found_left f []
unfolding found_left judge_left fault_is_known
found_spoilt f long on n h rest =
    let p = each (not (head_left f.grid [])) ((not (blank_left f.grid []) && (f.blank || leb hour_columns f.grid.at)) ∷ []) h in
    let q = each (not (blank_left f.grid [])) ((f.blank || leb hour_columns f.grid.at) ∷ []) p.1.0 in
    let is = spoilt_judge_lem f long on (not-true _ p.0) (not-true _ q.0) f.blank q.1.0 in
    λ i. found_by (first_known f.first n rest [] i) ((is rest ∙ sym (is [])) i)

-- the test, by its returns
module _ (f : Finder) where
  pub spoilt_heading : head_left f.grid [] ≡ true → false ≡ fault_is_known f
  unfolding fault_is_known
  spoilt_heading h = rw h

  pub spoilt_blank : head_left f.grid [] ≡ false → blank_left f.grid [] ≡ true → false ≡ fault_is_known f
  unfolding fault_is_known
  spoilt_blank h b = rw (h, b)

  pub spoilt_line : head_left f.grid [] ≡ false → blank_left f.grid [] ≡ false → (f.blank || leb hour_columns f.grid.at) ≡ fault_is_known f
  unfolding fault_is_known
  spoilt_line h b = rw (h, b)

  pub unknown_line : is_none f.first ≡ true → false ≡ finder_is_settled f
  unfolding finder_is_settled
  unknown_line e = rw e

  pub known_fault : is_none f.first ≡ false → is_sound f.judge.wrong ≡ false → true ≡ finder_is_settled f
  unfolding finder_is_settled
  known_fault n h = rw (n, h)

  pub by_line : is_none f.first ≡ false → is_sound f.judge.wrong ≡ true → (t : Bool) → t ≡ fault_is_known f → t ≡ finder_is_settled f
  unfolding finder_is_settled
  by_line n h t e = e ∙ sym (λ i. not (n i) && (not (h i) || fault_is_known f))
