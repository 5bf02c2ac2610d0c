-- When a sharing line is sound, and what a line says that was read from its text. Assumes nothing.
use mathlib.Core.Path.{◌≡◌, refl, ap, sym, ◌∙◌}
use mathlib.Core.Bool.{Bool, true, false, cond, ◌&&◌}
use mathlib.Core.List.{List, [], ◌∷◌, ◌++◌, map}
use Prim.Native.Nat.{ℕ, ◌≤◌}
use native.Mathlib.Omega.{arith}
use lib.Dec.{ltb, leb}
use lib.IntN.{pos}
use lib.ListN.{length, get_or, take}
use lib.Seq.{take-take}
use borrow.Author.Tests.{leb-true}
use Rattle.le.proofs.Tests.{joined, each}
use Rattle.row.specs.declared.Row.{Row}
use Rattle.row.specs.Numbers.{parts_of, numbers_in, ceiling, hold, numbers_of}
use Rattle.row.specs.Meaning.{is_row, row_first_five}
use Rattle.row.specs.Inner.{fair_by}
use Rattle.row.proofs.Texts.{and_false}
use Rattle.row.proofs.Held.{capped, held_at}
use Rattle.row.proofs.Rows.{whole_row, none_row}
use Rattle.row.proofs.Judging.{Lawful}
use Rattle.share.specs.declared.Line.{Line}
use Rattle.share.specs.Sharing.{line_is_sound, most_number, most_status, most_energy, most_compensation, most_assessment}
use Rattle.share.specs.Forms.{blank_line}
use Rattle.lines.specs.Text.{space, as_line, line_of, sharing_lines}
use Rattle.lines.specs.Meaning.{fair_line, five_of, line_in, whole_line}

-- Limits

abbrev bounds : Line → List Bool
bounds l = leb l.status most_status ∷ leb l.energy.0 most_energy ∷ leb l.compensation.0 most_compensation ∷ leb l.assessment.0 most_assessment ∷ []

-- the limits of a line, but that its number is above the one before
within : Line → Bool
within l = joined (leb l.number most_number) (bounds l)

and_true : (t : Bool) → t ≡ (t && true)
and_true true = refl
and_true false = refl

splits : (b : ℕ) (l : Line) → line_is_sound b l ≡ (within l && ltb b l.number)
unfolding line_is_sound within
splits b l = go (ltb b l.number)
  where
    go : (t : Bool) → joined (t && leb l.number most_number) (bounds l) ≡ (within l && t)
    go true = and_true (within l)
    go false = sym (and_false (within l))

pub lawful : Lawful sharing_lines
unfolding within
lawful = record { within = within; splits = splits; few = λ l h. leb-true l.number most_number (each (leb l.number most_number) (bounds l) h).0; none = refl }

-- Numbers past every limit

abbrev held_line : Line → Line
held_line l =
    record {
      number = hold l.number;
      status = hold l.status;
      energy = record { 0 = hold l.energy.0 };
      compensation = record { 0 = hold l.compensation.0 };
      assessment = record { 0 = hold l.assessment.0 };
      share = l.share;
      amount = l.amount;
    }

held_line_lem : (ns : List ℕ) → as_line (map hold ns) ≡ held_line (as_line ns)
held_line_lem ns =
    λ i. record {
      number = held_at ns 0 i;
      status = held_at ns 1 i;
      energy = record { 0 = held_at ns 2 i };
      compensation = record { 0 = held_at ns 3 i };
      assessment = record { 0 = held_at ns 4 i };
      share = record { 0 = pos 0 };
      amount = record { 0 = pos 0 };
    }

held_within : (l : Line) → within (held_line l) ≡ within l
unfolding within
held_within l =
    λ i. joined (capped l.number ceiling most_number (omega arith) i)
    (capped l.status ceiling most_status (omega arith) i ∷ capped l.energy.0 ceiling most_energy (omega arith) i
    ∷ capped l.compensation.0 ceiling most_compensation (omega arith) i ∷ capped l.assessment.0 ceiling most_assessment (omega arith) i ∷ [])

-- a line within its limits has no number past them
held_same : (l : Line) → within l ≡ true → held_line l ≡ l
unfolding within
held_same l h =
    let p = each (leb l.number most_number) (bounds l) h in
    let n : hold l.number ≡ l.number = omega (arith, leb-true l.number most_number p.0) in
    let s : hold l.status ≡ l.status = omega (arith, leb-true l.status most_status p.1.0) in
    let e : hold l.energy.0 ≡ l.energy.0 = omega (arith, leb-true l.energy.0 most_energy p.1.1.0) in
    let c : hold l.compensation.0 ≡ l.compensation.0 = omega (arith, leb-true l.compensation.0 most_compensation p.1.1.1.0) in
    let a : hold l.assessment.0 ≡ l.assessment.0 = omega (arith, leb-true l.assessment.0 most_assessment p.1.1.1.1.0) in
    λ i. record { number = n i; status = s i; energy = record { 0 = e i }; compensation = record { 0 = c i }; assessment = record { 0 = a i }; share = l.share; amount = l.amount }

fair_beyond : (l : Line) → within l ≡ false → fair_line l ≡ blank_line
unfolding fair_by
fair_beyond l h = rw (splits 0 l, h)

fair_held : (l : Line) → fair_line (held_line l) ≡ fair_line l
fair_held l = go (within l) refl
  where
    go : (t : Bool) → within l ≡ t → fair_line (held_line l) ≡ fair_line l
    go true h = ap (λ (x : Line). fair_line x) (held_same l h)
    go false h = fair_beyond (held_line l) (held_within l ∙ h) ∙ sym (fair_beyond l h)

-- HOLDING A NUMBER CHANGES NO JUDGEMENT: a line is sound just where its numbers are as they stand, and a sound line has them so.
pub holds : (bytes : List ℕ) → fair_line (whole_line bytes) ≡ fair_line (line_of bytes)
unfolding numbers_of line_of
holds bytes =
    let ns = numbers_in 5 (parts_of space bytes) in
    ap (λ (x : Line). fair_line x) (held_line_lem ns) ∙ fair_held (as_line ns)

-- Five numbers

-- the limits that the casts of a line's numbers need
abbrev pub Casts : List ℕ → ℕ → Type 0
Casts d a = (get_or d 0 0 ≤ most_number) × (get_or d 1 0 ≤ most_status) × (get_or d 2 0 ≤ most_energy) × (a ≤ most_assessment)

-- the line by the numbers that ended, and the open one
abbrev pub line_by : List ℕ → ℕ → Line
line_by d a =
    record {
      number = get_or d 0 0;
      status = get_or d 1 0;
      energy = record { 0 = get_or d 2 0 };
      compensation = record { 0 = get_or d 3 0 };
      assessment = record { 0 = a };
      share = record { 0 = pos 0 };
      amount = record { 0 = pos 0 };
    }

line_by_lem : (d : List ℕ) (a : ℕ) → length d ≡ 5 → line_by d a ≡ as_line (five_of d a)
line_by_lem [] a h = absurd (omega arith)
line_by_lem (n ∷ []) a h = absurd (omega arith)
line_by_lem (n ∷ s ∷ []) a h = absurd (omega arith)
line_by_lem (n ∷ s ∷ e ∷ []) a h = absurd (omega arith)
line_by_lem (n ∷ s ∷ e ∷ c ∷ d) a h = refl

abbrev five_tests : List ℕ → ℕ → List Bool
five_tests d a = leb (get_or d 0 0) most_number ∷ bounds (line_by d a)

abbrev five_test : List ℕ → ℕ → Bool
five_test d a = joined (ltb 0 (get_or d 0 0)) (five_tests d a)

module _ (d : List ℕ) (a : ℕ) where
  pub five_limits : five_test d a ≡ true → Casts d a
  five_limits h =
      let p = each (ltb 0 (get_or d 0 0)) (five_tests d a) h in
      (leb-true _ _ p.1.0, leb-true _ _ p.1.1.0, leb-true _ _ p.1.1.1.0, leb-true _ _ p.1.1.1.1.1.0)

  fair_five : (t : Bool) → five_test d a ≡ t → fair_line (line_by d a) ≡ cond t (line_by d a) blank_line
  unfolding fair_by line_is_sound
  fair_five t h = rw h

  pub five_sound : length d ≡ 5 → five_test d a ≡ true → line_by d a ≡ fair_line (as_line (five_of d a))
  five_sound l h = sym (fair_five true h) ∙ ap (λ (x : Line). fair_line x) (line_by_lem d a l)

  pub five_bad : length d ≡ 5 → five_test d a ≡ false → blank_line ≡ fair_line (as_line (five_of d a))
  five_bad l h = sym (fair_five false h) ∙ ap (λ (x : Line). fair_line x) (line_by_lem d a l)

-- A line that ends

pub line_whole : (row : Row) (five : List ℕ) (v : ℕ) → is_row 4 row [] [] ≡ true → five ≡ row_first_five row → v ≡ hold row.value
    → fair_line (as_line (five_of five v)) ≡ line_in row
line_whole row five v h f e =
    ap (λ (ns : List ℕ). fair_line (as_line (ns ++ v ∷ []))) (ap (take 4) f ∙ take-take 4 5 row.ended (omega arith))
    ∙ ap (λ (ns : List ℕ). fair_line (as_line ns)) (sym (whole_row space 4 row v h e))

pub line_none : (row : Row) → is_row 4 row [] [] ≡ false → blank_line ≡ line_in row
unfolding fair_by line_is_sound
line_none row h = ap (λ (ns : List ℕ). fair_line (as_line ns)) (sym (none_row space 4 row h))
