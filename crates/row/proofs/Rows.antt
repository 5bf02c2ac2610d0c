-- What one more byte does to the line that is being read, and what the line says where it ends. Assumes nothing.
use mathlib.Core.Path.{◌≡◌, refl, ap, sym, ◌∙◌}
use mathlib.Core.Bool.{Bool, true, false, cond, not, ◌&&◌, ◌||◌}
use mathlib.Core.List.{List, [], ◌∷◌, ◌++◌, map}
use Prim.Native.Nat.{ℕ, suc, ◌+◌, ◌≤◌, ◌<◌}
use native.Mathlib.Nat.{zero-add}
use native.Mathlib.Numerals.{add-one}
use native.Mathlib.Omega.{arith}
use lib.Dec.{ltb, eqb, eqb-suc-suc}
use lib.ListN.{take, set, length, get_or}
use lib.Seq.{take-suc-set, append_snoc}
use borrow.Author.Tests.{lt-ltb, ne_eqb, eq-eqb, eqb-true}
use Rattle.le.proofs.Tests.{each}
use Rattle.row.specs.declared.Row.{Row}
use Rattle.row.specs.Numbers.{onto, parts_of, is_digit, digits, not_empty, numbers, value, numbers_in, ceiling, hold, numbers_of}
use Rattle.row.specs.Meaning.{row_is_begun, is_row, row_at, row_parts, row_numbers, RowFresh, RowFollows}
use Rattle.row.proofs.Texts.{and_false, or_true, by_parts, grows}

-- A number past every limit is told alike, whatever digits follow

held_past : (n : ℕ) → ceiling ≤ n → hold n ≡ ceiling
held_past n h = omega arith

pub held_more : (v b : ℕ) (p : List ℕ) → ceiling ≤ v → hold (value v p) ≡ hold (value v (b ∷ p))
held_more v b p h =
    held_past (value v p) (omega (arith, grows v p)) ∙ sym (held_past (value v (b ∷ p)) (omega (arith, grows v (b ∷ p))))

-- A byte of the line

module _ (separator last : ℕ) (row : Row) where
  -- a byte that is no separator is one of the open number
  onto_row : (b : ℕ) → (b ≡ separator → ⊥) → (rest : List ℕ) → row_numbers separator last row (b ∷ rest) ≡ row_parts last row (onto b (parts_of separator rest))
  unfolding row_numbers
  onto_row b ne rest = rw (ne_eqb b separator ne)

  -- a separator leaves the parts behind it
  parted_row : (rest : List ℕ) → row_numbers separator last row (separator ∷ rest) ≡ row_at last row [] (parts_of separator rest)
  unfolding row_numbers
  parted_row rest = rw (eq-eqb separator separator refl)

  -- a line that is bad has no numbers
  pub bad_row : row.bad ≡ true → (rest : List ℕ) → row_numbers separator last row rest ≡ []
  unfolding row_numbers
  bad_row h rest = by_parts separator (λ ps. row_parts last row ps ≡ []) (λ p ps. simp h) rest

  -- a foreign byte spoils its line
  pub foreign : (b : ℕ) → (b ≡ separator → ⊥) → is_digit b ≡ false → (rest : List ℕ) → row_numbers separator last row (b ∷ rest) ≡ []
  foreign b ne d rest = onto_row b ne rest ∙ by_parts separator (λ ps. row_parts last row (onto b ps) ≡ []) (λ p ps. simp (d, and_false)) rest

  parted_none : ((p : List ℕ) (ps : List (List ℕ)) → row_at last row [] (p ∷ ps) ≡ []) → (rest : List ℕ) → row_numbers separator last row (separator ∷ rest) ≡ []
  parted_none h rest = parted_row rest ∙ by_parts separator (λ ps. row_at last row [] ps ≡ []) h rest

  -- a separator where there is no number
  pub parted_early : row.digit ≡ false → (rest : List ℕ) → row_numbers separator last row (separator ∷ rest) ≡ []
  parted_early h = parted_none (λ p ps. simp (h, and_false))

  -- a separator behind the last number
  pub parted_late : last ≤ row.at → (rest : List ℕ) → row_numbers separator last row (separator ∷ rest) ≡ []
  parted_late h = parted_none (λ p ps.
      let many : eqb (row.at + suc (length ps)) last ≡ false = ne_eqb (row.at + suc (length ps)) last (λ e. omega arith) in
      simp (many, and_false))

-- The row after a byte

module _ (separator last : ℕ) (row : Row) where
  -- a byte that leaves its line no numbers spoils the row
  pub by_spoiling : (r : Row) (b : ℕ) → r.bad ≡ true → ((rest : List ℕ) → row_numbers separator last row (b ∷ rest) ≡ []) → RowFollows separator last row b r
  by_spoiling r b h none = record { begun = rw h; line = λ rest. bad_row separator last r h rest ∙ sym (none rest) }

  -- a byte of the open number
  by_onto : (r : Row) (b : ℕ) → (b ≡ separator → ⊥) → row_is_begun r ≡ true → ((p : List ℕ) (ps : List (List ℕ)) → row_at last r p ps ≡ row_at last row (b ∷ p) ps)
      → RowFollows separator last row b r
  unfolding row_numbers
  by_onto r b ne is h =
      record {
        begun = is;
        line = λ rest. by_parts separator (λ ps. row_parts last r ps ≡ row_parts last row (onto b ps)) h rest ∙ sym (onto_row separator last row b ne rest);
      }

  is_grown : (bad : Bool) (at : ℕ) → (bad || true || ltb 0 at) ≡ true
  is_grown true at = refl
  is_grown false at = refl

  -- a digit
  pub by_digit : (b v : ℕ) → (b ≡ separator → ⊥) → is_digit b ≡ true → ((rest : List ℕ) → hold (value v rest) ≡ hold (value row.value (b ∷ rest)))
      → RowFollows separator last row b (record { bad = row.bad; digit = true; at = row.at; value = v; ended = row.ended })
  by_digit b v ne d h =
      by_onto _ b ne (is_grown row.bad row.at)
      (λ p ps. simp (d, or_true) (λ i. cond (not row.bad && digits p && true && numbers ps && eqb (row.at + length ps) last)
      (take row.at row.ended ++ h p i ∷ map hold (map (value 0) ps)) []))

-- A separator behind a number that others follow

abbrev parted : Row → Row
parted row = record { bad = row.bad; digit = false; at = row.at + 1; value = 0; ended = set row.ended row.at (hold row.value) }

regroup : (a b c d : Bool) → (a && b && c && d) ≡ (a && true && true && (b && c && d))
regroup true true c d = refl
regroup true false c d = refl
regroup false b c d = refl

module _ (last : ℕ) (row : Row) (digit : row.digit ≡ true) (room : row.at < length row.ended) where
  parted_at_lem : (p : List ℕ) (ps : List (List ℕ)) → row_at last (parted row) p ps ≡ row_at last row [] (p ∷ ps)
  parted_at_lem p ps =
      let one : row.at + 1 + length ps ≡ row.at + suc (length ps) = omega arith in
      let test : is_row last (parted row) p ps ≡ is_row last row [] (p ∷ ps) =
      rw (digit, one) (ap (λ (t : Bool). t && eqb (row.at + suc (length ps)) last) (regroup (not row.bad) (digits p) (not_empty p) (numbers ps))) in
      let behind = map hold (value 0 p ∷ map (value 0) ps) in
      let all : take (row.at + 1) (set row.ended row.at (hold row.value)) ++ behind ≡ take row.at row.ended ++ hold row.value ∷ behind =
      rw (add-one, take-suc-set row.ended row.at (hold row.value) room) (append_snoc (take row.at row.ended) (hold row.value) behind) in
      λ i. cond (test i) (all i) []

  pub by_separator : (v : ℕ) → v ≡ hold row.value → (separator : ℕ)
      → RowFollows separator last row separator (record { bad = row.bad; digit = false; at = row.at + 1; value = 0; ended = set row.ended row.at v })
  unfolding row_numbers
  by_separator v e separator =
      rw e
      (record {
        begun = rw (lt-ltb 0 (row.at + 1) (omega arith)) (or_true (row.bad || false));
        line = λ rest. by_parts separator (λ ps. row_parts last (parted row) ps ≡ row_at last row [] ps) parted_at_lem rest ∙ sym (parted_row separator last row rest);
      })

-- The start of a line

-- before any byte, whatever numbers of an earlier line are behind its place
abbrev pub start_row : List ℕ → Row
start_row ended = record { bad = false; digit = false; at = 0; value = 0; ended = ended }

start_at : (ended : List ℕ) (last : ℕ) (p : List ℕ) (ps : List (List ℕ)) → row_at last (start_row ended) p ps ≡ map hold (numbers_in (suc last) (p ∷ ps))
unfolding numbers_in
start_at ended last p ps =
    let many : eqb (0 + length ps) last ≡ eqb (suc (length ps)) (suc last) = rw zero-add (sym (eqb-suc-suc (length ps) last)) in
    rw many (go (numbers (p ∷ ps) && eqb (suc (length ps)) (suc last)) (map (value 0) (p ∷ ps)))
  where
    go : (t : Bool) (ns : List ℕ) → cond t (map hold ns) [] ≡ map hold (cond t ns [])
    go true ns = refl
    go false ns = refl

pub start_fresh : (ended : List ℕ) → RowFresh (start_row ended)
unfolding row_numbers numbers_of
start_fresh ended =
    record {
      unread = refl;
      line = λ separator last rest.
          by_parts separator (λ ps. row_parts last (start_row ended) ps ≡ map hold (numbers_in (suc last) ps)) (start_at ended last) rest;
    }

-- The end of a line

-- a line that ends has the numbers that ended, and the open one
pub end_row : (separator last : ℕ) (row : Row) → row_numbers separator last row [] ≡ cond (is_row last row [] []) (take row.at row.ended ++ hold row.value ∷ []) []
unfolding row_numbers
end_row separator last row = refl

pub is_whole : (last : ℕ) (row : Row) → (not row.bad && row.digit && eqb row.at last) ≡ is_row last row [] []
is_whole last row =
    let at : row.at + 0 ≡ row.at = omega arith in
    rw at (go (not row.bad) row.digit (eqb row.at last))
  where
    go : (b d f : Bool) → (b && d && f) ≡ (b && true && (d || false) && true && f)
    go true true f = refl
    go true false f = refl
    go false d f = refl

pub whole_at : (last : ℕ) (row : Row) → is_row last row [] [] ≡ true → row.at ≡ last
whole_at last row h =
    let p = each (not row.bad) (row.digit ∷ eqb row.at last ∷ []) (is_whole last row ∙ h) in
    eqb-true row.at last p.1.1.0

-- where it has its numbers, these are they
pub whole_row : (separator last : ℕ) (row : Row) (v : ℕ) → is_row last row [] [] ≡ true → v ≡ hold row.value
    → row_numbers separator last row [] ≡ take last row.ended ++ v ∷ []
whole_row separator last row v h e = end_row separator last row ∙ rw (h, whole_at last row h, e)

-- otherwise there are none
pub none_row : (separator last : ℕ) (row : Row) → is_row last row [] [] ≡ false → row_numbers separator last row [] ≡ []
none_row separator last row h = end_row separator last row ∙ rw h

-- The first numbers

pub first_five : (ns : List ℕ) → 5 ≤ length ns → get_or ns 0 0 ∷ get_or ns 1 0 ∷ get_or ns 2 0 ∷ get_or ns 3 0 ∷ get_or ns 4 0 ∷ [] ≡ take 5 ns
first_five (a ∷ b ∷ c ∷ d ∷ e ∷ ns) h = refl
first_five [] h = absurd (omega arith)
first_five (a ∷ []) h = absurd (omega arith)
first_five (a ∷ b ∷ []) h = absurd (omega arith)
first_five (a ∷ b ∷ c ∷ []) h = absurd (omega arith)
first_five (a ∷ b ∷ c ∷ d ∷ []) h = absurd (omega arith)
