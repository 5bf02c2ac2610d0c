-- What one more byte does to the rows of a text that are left: the mark, the file's separator, the end of a line and of the text. Assumes nothing.
use mathlib.Core.Path.{◌≡◌, refl, ap, sym, ◌∙◌}
use mathlib.Core.Bool.{Bool, true, false, cond, not, ◌&&◌}
use mathlib.Core.List.{List, [], ◌∷◌, map}
use Prim.Native.Nat.{ℕ, zero, suc, ◌+◌, ◌-◌, ◌≤◌, ◌<◌}
use native.Mathlib.Omega.{arith}
use lib.Dec.{eqb, ltb}
use lib.ListN.{drop}
use borrow.Author.Tests.{ne_eqb, le-ltb}
use Rattle.le.proofs.Tests.{holds_or_fails}
use Rattle.row.specs.Numbers.{onto, lines_of}
use Rattle.grid.specs.declared.cell.Cell.TheVariants.{Bad}
use Rattle.grid.specs.declared.Grid.{Grid}
use Rattle.grid.specs.Grid.{comma, is_separator, separator_of, as_comma, has_digit}
use Rattle.grid.specs.Meaning.{head_left, blank_left, row_left, lines_left, separator_left, lines_by, rows_behind, marks_on, rows_left, grid_opened, mark_goes_on, grid_begun, InLine, Follows}
use Rattle.grid.proofs.Lines.{LineFollows, LineAlike, by_opening}

-- Separators

-- the file's separator is one
pub separator_is : (rest : List ℕ) → is_separator (separator_of rest) ≡ true
separator_is [] = refl
separator_is (b ∷ rest) = go (is_separator b) refl (separator_is rest)
  where
    go : (t : Bool) → is_separator b ≡ t → is_separator (separator_of rest) ≡ true → is_separator (cond t b (separator_of rest)) ≡ true
    go true e h = e
    go false e h = h

pub left_is : (s : ℕ) (rest : List ℕ) → is_separator (separator_left s rest) ≡ true
left_is s rest = go (is_separator s) refl
  where
    go : (t : Bool) → is_separator s ≡ t → is_separator (cond t s (separator_of rest)) ≡ true
    go true e = e
    go false e = separator_is rest

-- bytes that differ in being one differ
apart : (b c : ℕ) → is_separator b ≡ false → is_separator c ≡ true → b ≡ c → ⊥
apart b c n y e = holds_or_fails y (ap is_separator (sym e) ∙ n)

-- a byte that is no separator stays, and leaves the separator what it is
pub stays : (b s : ℕ) → is_separator b ≡ false → is_separator s ≡ true → as_comma s b ≡ b
stays b s n y = rw (ne_eqb b s (apart b s n y), ne_eqb b comma (apart b comma n refl))

pub left_on : (s b : ℕ) (rest : List ℕ) → is_separator b ≡ false → separator_left s (b ∷ rest) ≡ separator_left s rest
left_on s b rest n = rw n

pub lines_on : (s b c : ℕ) (rest : List ℕ) → (c ≡ 10 → ⊥) → as_comma (separator_left s (b ∷ rest)) b ≡ c
    → lines_by s (b ∷ rest) ≡ onto c (lines_of (map (as_comma (separator_left s (b ∷ rest))) rest))
unfolding lines_by
lines_on s b c rest ne e = rw (e, ne_eqb c 10 ne)

-- a byte that is no separator, and no line feed
pub lines_byte : (s b : ℕ) (rest : List ℕ) → is_separator b ≡ false → (b ≡ 10 → ⊥) → lines_by s (b ∷ rest) ≡ onto b (lines_by s rest)
unfolding lines_by
lines_byte s b rest n ne =
    lines_on s b b rest ne (stays b (separator_left s (b ∷ rest)) n (left_is s (b ∷ rest))) ∙ ap (λ (x : ℕ). onto b (lines_of (map (as_comma x) rest))) (left_on s b rest n)

-- a line feed
pub lines_feed : (s : ℕ) (rest : List ℕ) → lines_by s (10 ∷ rest) ≡ [] ∷ lines_by s rest
unfolding lines_by
lines_feed s rest = rw (stays 10 (separator_left s rest) refl (left_is s rest))

-- The mark

pub stage_case : (P : ℕ → Type 0) → P 0 → P 1 → P 2 → ((n : ℕ) → 3 ≤ n → P n) → (n : ℕ) → P n
stage_case P a b c d zero = a
stage_case P a b c d (suc zero) = b
stage_case P a b c d (suc (suc zero)) = c
stage_case P a b c d (suc (suc (suc n))) = d (suc (suc (suc n))) (omega arith)

pub late : (n : ℕ) → 3 ≤ n → ltb n 3 ≡ false
late n h = le-ltb n 3 h

-- it does not go on
pub mark_stops : (stage b : ℕ) (rest : List ℕ) → mark_goes_on stage b ≡ false → marks_on stage (b ∷ rest) ≡ false
unfolding marks_on
mark_stops stage b rest = stage_case (λ n. mark_goes_on n b ≡ false → marks_on n (b ∷ rest) ≡ false) (λ h. rw h) (λ h. rw h) (λ h. rw h) (λ n l h. rw (late n l)) stage

pub mark_late : (stage : ℕ) (rest : List ℕ) → 3 ≤ stage → marks_on stage rest ≡ false
unfolding marks_on
mark_late stage rest h = rw (late stage h)

pub mark_ends : (stage : ℕ) → marks_on stage [] ≡ false
unfolding marks_on
mark_ends = stage_case (λ n. marks_on n [] ≡ false) refl refl refl (λ n l. rw (late n l))

-- a byte below its bytes is none of them
pub mark_low : (stage b : ℕ) → b < 187 → mark_goes_on stage b ≡ false
mark_low stage b low =
    stage_case (λ n. mark_goes_on n b ≡ false) (ne_eqb b 239 (λ e. omega arith)) (ne_eqb b 187 (λ e. omega arith)) (ne_eqb b 191 (λ e. omega arith)) (λ n l. rw (late n l)) stage

-- it goes on: with its last byte the text begins, and with another one byte less is left
pub mark_last : (b : ℕ) (rest : List ℕ) → mark_goes_on 2 b ≡ true → marks_on 2 (b ∷ rest) ≡ true
unfolding marks_on
mark_last b rest h = rw h

pub mark_more : (stage b : ℕ) (rest : List ℕ) → stage < 2 → mark_goes_on stage b ≡ true
    → (marks_on (stage + 1) rest ≡ marks_on stage (b ∷ rest)) × (drop (3 - (stage + 1)) rest ≡ drop (3 - stage) (b ∷ rest))
unfolding marks_on
mark_more zero b rest h e = (rw e, refl)
mark_more (suc zero) b rest h e = (rw e, refl)
mark_more (suc (suc n)) b rest h e = absurd (omega arith)

-- Lines

pub lines_by_lem : (say : List ℕ → List ℕ) (k : ℕ) (g r : Grid) (ended after : List ℕ) (c : ℕ) → LineFollows g ended c r after → (ls : List (List ℕ))
    → lines_left say k r after ls ≡ lines_left say k g ended (onto c ls)
lines_by_lem say k g r ended after c f [] = rw (f.heads [], f.blanks [], f.numbers say [])
lines_by_lem say k g r ended after c f (l ∷ ls) = rw (f.heads l, f.blanks l, f.numbers say l)

-- A BYTE OF A LINE: behind the mark the rows that are left follow the line
pub by_line : (g r : Grid) (ended after : List ℕ) (b c : ℕ) → 3 ≤ g.stage → 3 ≤ r.stage → (c ≡ 10 → ⊥)
    → ((rest : List ℕ) → as_comma (separator_left g.separator (b ∷ rest)) b ≡ c)
    → ((rest : List ℕ) → separator_left r.separator rest ≡ separator_left g.separator (b ∷ rest))
    → LineFollows g ended c r after → Follows g ended b r after
unfolding rows_left lines_by
by_line g r ended after b c lg lr ne reads same f =
    record {
      rows = λ say k rest.
          let lines = ap (lines_left say k g ended) (sym (lines_on g.separator b c rest ne (reads rest))) in
          rw (mark_late r.stage rest lr, mark_late g.stage (b ∷ rest) lg, same rest)
          (lines_by_lem say k g r ended after c f (lines_of (map (as_comma (separator_left g.separator (b ∷ rest))) rest)) ∙ lines);
    }

-- the same for a byte that is no separator
pub by_byte : (g r : Grid) (ended after : List ℕ) (b : ℕ) → 3 ≤ g.stage → 3 ≤ r.stage → (b ≡ 10 → ⊥) → is_separator b ≡ false → r.separator ≡ g.separator
    → LineFollows g ended b r after → Follows g ended b r after
by_byte g r ended after b lg lr ne n e =
    by_line g r ended after b b lg lr ne
    (λ rest. stays b (separator_left g.separator (b ∷ rest)) n (left_is g.separator (b ∷ rest)))
    (λ rest. ap (λ (s : ℕ). separator_left s rest) e ∙ sym (left_on g.separator b rest n))

-- A carriage return with a byte behind it, and a mark that does not go on

lines_alike : (say : List ℕ → List ℕ) (k : ℕ) (g r : Grid) (ended : List ℕ) (c : ℕ) → LineAlike g r → (ls : List (List ℕ)) → lines_left say k r ended (onto c ls) ≡ lines_left say k g ended (onto c ls)
lines_alike say k g r ended c f [] = rw (f.heads c [], f.blanks c [], f.numbers say ended c [])
lines_alike say k g r ended c f (l ∷ ls) = rw (f.heads c l, f.blanks c l, f.numbers say ended c l)

module _ (g r : Grid) (b : ℕ) (ne : b ≡ 10 → ⊥) (sep : r.separator ≡ g.separator) (f : LineAlike g r) where
  comma_feed : (s : ℕ) (rest : List ℕ) → as_comma (separator_left s (b ∷ rest)) b ≡ 10 → ⊥
  comma_feed s rest = go (eqb b (separator_left s (b ∷ rest))) (eqb b comma)
    where
      go : (t u : Bool) → cond t comma (cond u 59 b) ≡ 10 → ⊥
      go true u e = omega arith
      go false true e = omega arith
      go false false e = ne e

  -- states whose lines are alike, and of which the mark goes on with no byte
  pub by_alike : (ended : List ℕ) (say : List ℕ → List ℕ) (k : ℕ) (rest : List ℕ)
      → lines_left say k r ended (lines_by r.separator (b ∷ rest)) ≡ lines_left say k g ended (lines_by g.separator (b ∷ rest))
  by_alike ended say k rest =
      let s = g.separator in
      let lines = lines_on s b (as_comma (separator_left s (b ∷ rest)) b) rest (comma_feed s rest) refl in
      ap (λ (x : ℕ). lines_left say k r ended (lines_by x (b ∷ rest))) sep ∙ ap (lines_left say k r ended) lines
      ∙ lines_alike say k g r ended (as_comma (separator_left s (b ∷ rest)) b) f (lines_of (map (as_comma (separator_left s (b ∷ rest))) rest))
      ∙ ap (lines_left say k g ended) (sym lines)

pub opened_stage : (g : Grid) → (grid_opened g).stage ≡ g.stage
opened_stage g = go g.shut
  where
    go : (t : Bool) → (cond t (record { stage = g.stage; separator = g.separator; filled = true; shut = false; cell = Bad; at = g.at }) g).stage ≡ g.stage
    go true = refl
    go false = refl

opened_separator : (g : Grid) → (grid_opened g).separator ≡ g.separator
opened_separator g = go g.shut
  where
    go : (t : Bool) → (cond t (record { stage = g.stage; separator = g.separator; filled = true; shut = false; cell = Bad; at = g.at }) g).separator ≡ g.separator
    go true = refl
    go false = refl

pub opened_clear : (g : Grid) → (grid_opened g).shut ≡ false
opened_clear g = go g.shut refl
  where
    go : (t : Bool) → g.shut ≡ t → (cond t (record { stage = g.stage; separator = g.separator; filled = true; shut = false; cell = Bad; at = g.at }) g).shut ≡ false
    go true e = refl
    go false e = e

-- an opened state says of a rest that begins with a byte what the one before does
pub opened_alike : (g : Grid) (b : ℕ) → (b ≡ 10 → ⊥) → (say : List ℕ → List ℕ) (k : ℕ) (ended rest : List ℕ) → rows_left say k (grid_opened g) ended (b ∷ rest) ≡ rows_left say k g ended (b ∷ rest)
unfolding rows_left
opened_alike g b ne say k ended rest =
    let stage = opened_stage g in
    let alike = by_alike g (grid_opened g) b ne (opened_separator g) (by_opening g) ended say k rest in
    λ i. cond (marks_on (stage i) (b ∷ rest)) (rows_behind say k ended (drop (3 - stage i) (b ∷ rest))) (alike i)

pub after_opening : (g r : Grid) (ended after : List ℕ) (b : ℕ) → (b ≡ 10 → ⊥) → Follows (grid_opened g) ended b r after → Follows g ended b r after
after_opening g r ended after b ne f = record { rows = λ say k rest. f.rows say k rest ∙ opened_alike g b ne say k ended rest }

-- a mark that does not go on leaves its bytes in the first line
head_begun : (g : Grid) (l : List ℕ) → head_left (grid_begun g) l ≡ head_left g l
unfolding head_left
head_begun g l = stage_case (λ n. (ltb (cond (ltb n 3) 3 n) 4 && not (has_digit l)) ≡ (ltb n 4 && not (has_digit l))) refl refl refl (λ n h. rw (late n h)) g.stage

begun_late : (g : Grid) → 3 ≤ (grid_begun g).stage
begun_late g = stage_case (λ n. 3 ≤ cond (ltb n 3) 3 n) (omega arith) (omega arith) (omega arith) (λ n h. rw (late n h) h) g.stage

pub begun_in_line : (g : Grid) → g.shut ≡ false → InLine (grid_begun g)
begun_in_line g h = record { stage = begun_late g; clear = h }

lines_begun : (say : List ℕ → List ℕ) (k : ℕ) (g : Grid) (ended : List ℕ) (ls : List (List ℕ)) → lines_left say k (grid_begun g) ended ls ≡ lines_left say k g ended ls
unfolding blank_left row_left
lines_begun say k g ended [] = rw (head_begun g [])
lines_begun say k g ended (l ∷ ls) = rw (head_begun g l)

pub after_begun : (g r : Grid) (ended after : List ℕ) (b : ℕ) → mark_goes_on g.stage b ≡ false → Follows (grid_begun g) ended b r after → Follows g ended b r after
unfolding rows_left
after_begun g r ended after b stops f =
    record {
      rows = λ say k rest. f.rows say k rest
          ∙ rw (mark_late (grid_begun g).stage (b ∷ rest) (begun_late g), mark_stops g.stage b rest stops) (lines_begun say k g ended (lines_by g.separator (b ∷ rest)));
    }
