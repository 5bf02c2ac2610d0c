-- What one more byte does to the line that is being read: whether it is a heading, whether it is blank, and its numbers. Assumes nothing.
use mathlib.Core.Path.{◌≡◌, refl, ap, sym, ◌∙◌}
use mathlib.Core.Bool.{Bool, true, false, cond, not, ◌&&◌}
use mathlib.Core.List.{List, [], ◌∷◌, ◌++◌, map}
use Prim.Native.Nat.{ℕ, ◌+◌, ◌≤◌, ◌<◌}
use native.Mathlib.Numerals.{add-one}
use native.Mathlib.Omega.{arith}
use lib.Dec.{ltb}
use lib.ListN.{length, take, set, length-take}
use lib.Seq.{take-suc-set, append_snoc, take-append-le}
use borrow.Author.Tests.{ne_eqb}
use Rattle.row.specs.Numbers.{onto, parts_of, is_digit, value, hold}
use Rattle.row.specs.Meaning.{most_columns}
use Rattle.row.proofs.Texts.{and_false, by_parts, digit_is_not}
use Rattle.grid.specs.declared.cell.Cell.{Cell}
use Rattle.grid.specs.declared.cell.Cell.TheVariants.{Fresh, Bad}
use Rattle.grid.specs.declared.Grid.{Grid}
use Rattle.grid.specs.Grid.{comma, carriage_return, plain, is_blank, quote, unquoted}
use Rattle.grid.specs.Told.{dash, told}
use Rattle.grid.specs.Meaning.{told_left, cell_so_far, cell_quote, cell_dash, cells_left, plain_left, head_left, blank_left, row_left, grid_opened, grid_spoilt, grid_digits}
use Rattle.grid.proofs.Cells.{foreign, by_quote, by_dash, by_digit}

-- the line by one byte more
pub record LineFollows (g : Grid) (ended : List ℕ) (c : ℕ) (r : Grid) (after : List ℕ) : Type 0 where
  pub heads : (l : List ℕ) → head_left r l ≡ head_left g (c ∷ l)
  pub blanks : (l : List ℕ) → blank_left r l ≡ blank_left g (c ∷ l)
  pub numbers : (say : List ℕ → List ℕ) (l : List ℕ) → row_left say r after l ≡ row_left say g ended (c ∷ l)

plain_on : (c : ℕ) (l : List ℕ) → (c ≡ carriage_return → ⊥) → plain (c ∷ l) ≡ c ∷ plain l
plain_on c l ne = rw (ne_eqb c carriage_return ne)

parts_on : (c : ℕ) (l : List ℕ) → (c ≡ comma → ⊥) → parts_of comma (c ∷ l) ≡ onto c (parts_of comma l)
parts_on c l ne = rw (ne_eqb c comma ne)

-- the open cell by one byte more, and the cells of the line
cells_onto : (at : ℕ) (ended : List ℕ) (cell next : Cell) (c : ℕ) → ((p : List ℕ) → told_left next p ≡ told_left cell (c ∷ p)) → (l : List ℕ)
    → cells_left at ended next (parts_of comma l) ≡ cells_left at ended cell (onto c (parts_of comma l))
cells_onto at ended cell next c h l =
    by_parts comma (λ ps. cells_left at ended next ps ≡ cells_left at ended cell (onto c ps))
    (λ p ps. ap (λ (n : ℕ). take most_columns (take at ended ++ n ∷ map told (map unquoted ps))) (h p)) l

module _ (g r : Grid) (ended : List ℕ) (c : ℕ) (clear : g.shut ≡ false) where
  -- a byte of the open cell
  row_onto : r.shut ≡ false → r.at ≡ g.at → (c ≡ carriage_return → ⊥) → (c ≡ comma → ⊥) → ((p : List ℕ) → told_left r.cell p ≡ told_left g.cell (c ∷ p))
      → (say : List ℕ → List ℕ) (l : List ℕ) → row_left say r ended l ≡ row_left say g ended (c ∷ l)
  unfolding row_left
  row_onto e a nr nc h say l =
      rw (e, clear, a, plain_on c l nr, parts_on c (plain l) nc) (ap (say) (cells_onto g.at ended g.cell r.cell c h (plain l)))

  -- a line with a byte that is no separator is not blank
  blank_onto : r.filled ≡ true → (c ≡ carriage_return → ⊥) → (c ≡ comma → ⊥) → (l : List ℕ) → blank_left r l ≡ blank_left g (c ∷ l)
  unfolding blank_left
  blank_onto f nr nc l = rw (f, clear, plain_on c l nr, ne_eqb c comma nc) (sym (and_false (not g.filled)))

-- a byte that is no digit leaves a heading what it was
head_onto : (g r : Grid) (c : ℕ) → r.stage ≡ g.stage → is_digit c ≡ false → (l : List ℕ) → head_left r l ≡ head_left g (c ∷ l)
unfolding head_left
head_onto g r c e d l = rw (e, d)

-- the line with a byte more in its open cell
abbrev pub typed_as : Grid → Cell → Grid
typed_as g cell = record { stage = g.stage; separator = g.separator; filled = true; shut = false; cell = cell; at = g.at }

module _ (g : Grid) (ended : List ℕ) (clear : g.shut ≡ false) where
  -- a byte that no cell has
  pub by_foreign : (c : ℕ) → is_digit c ≡ false → (c ≡ quote → ⊥) → (c ≡ dash → ⊥) → (c ≡ carriage_return → ⊥) → (c ≡ comma → ⊥) → LineFollows g ended c (grid_spoilt g) ended
  unfolding told_left
  by_foreign c d nq nd nr nc =
      record {
        heads = head_onto g (grid_spoilt g) c refl d;
        blanks = blank_onto g (grid_spoilt g) ended c clear refl nr nc;
        numbers = row_onto g (grid_spoilt g) ended c clear clear refl nr nc (foreign g.cell c d nq nd);
      }

  -- a quote, and a dash
  pub by_quoting : (r : Grid) → r ≡ typed_as g (cell_quote g.cell) → LineFollows g ended quote r ended
  by_quoting r e =
      let s : Grid = typed_as g (cell_quote g.cell) in
      rw e
      (record {
        heads = head_onto g s quote refl refl;
        blanks = blank_onto g s ended quote clear refl (λ e. omega arith) (λ e. omega arith);
        numbers = row_onto g s ended quote clear refl refl (λ e. omega arith) (λ e. omega arith) (by_quote g.cell);
      })

  pub by_dashing : (r : Grid) → r ≡ typed_as g (cell_dash g.cell) → LineFollows g ended dash r ended
  by_dashing r e =
      let s : Grid = typed_as g (cell_dash g.cell) in
      rw e
      (record {
        heads = head_onto g s dash refl refl;
        blanks = blank_onto g s ended dash clear refl (λ e. omega arith) (λ e. omega arith);
        numbers = row_onto g s ended dash clear refl refl (λ e. omega arith) (λ e. omega arith) (by_dash g.cell);
      })

  -- a carriage return, which is held back
  pub by_return : LineFollows g ended carriage_return (record { stage = g.stage; separator = g.separator; filled = g.filled; shut = true; cell = g.cell; at = g.at }) ended
  unfolding head_left blank_left row_left
  by_return = record { heads = λ l. refl; blanks = blanks; numbers = numbers }
    where
      held : Grid
      held = record { stage = g.stage; separator = g.separator; filled = g.filled; shut = true; cell = g.cell; at = g.at }

      plains : (l : List ℕ) → plain_left true l ≡ plain_left g.shut (13 ∷ l)
      plains [] = rw clear
      plains (x ∷ l) = rw clear

      blanks : (l : List ℕ) → (not g.filled && is_blank (plain_left true l)) ≡ blank_left g (13 ∷ l)
      blanks l = ap (λ (x : List ℕ). not g.filled && is_blank x) (plains l)

      numbers : (say : List ℕ → List ℕ) (l : List ℕ) → say (cells_left g.at ended g.cell (parts_of comma (plain_left true l))) ≡ row_left say g ended (13 ∷ l)
      numbers say l = ap (λ (x : List ℕ). say (cells_left g.at ended g.cell (parts_of comma x))) (plains l)

  -- a digit
  pub by_one_digit : (d v : ℕ) → is_digit d ≡ true → ((p : List ℕ) → hold (value v p) ≡ hold (value (cell_so_far g.cell) (d ∷ p))) → LineFollows g ended d (grid_digits g v) ended
  unfolding head_left
  by_one_digit d v is h =
      let nr = digit_is_not d carriage_return is (omega arith) in
      let nc = digit_is_not d comma is (omega arith) in
      record {
        heads = λ l. rw is (sym (and_false (ltb g.stage 4)));
        blanks = blank_onto g (grid_digits g v) ended d clear refl nr nc;
        numbers = row_onto g (grid_digits g v) ended d clear clear refl nr nc (by_digit d v is g.cell h);
      }

-- A separator

module _ (at : ℕ) (ended : List ℕ) (cell : Cell) where
  cells_parted : at < length ended → (n : ℕ) → n ≡ told_left cell [] → (l : List ℕ)
      → cells_left (at + 1) (set ended at n) Fresh (parts_of comma l) ≡ cells_left at ended cell ([] ∷ parts_of comma l)
  unfolding told_left
  cells_parted room n e l =
      by_parts comma (λ ps. cells_left (at + 1) (set ended at n) Fresh ps ≡ cells_left at ended cell ([] ∷ ps))
      (λ p ps.
      let behind = told (unquoted p) ∷ map told (map unquoted ps) in
      rw (add-one, take-suc-set ended at n room, append_snoc (take at ended) n behind, e)) l

  -- as many as are kept have ended: no other shows
  cells_full : most_columns ≤ length ended → length ended ≤ at → (next : Cell) (l k : List ℕ) → cells_left at ended next (parts_of comma l) ≡ cells_left at ended cell (parts_of comma k)
  cells_full long h next l k = kept next l ∙ sym (kept cell k)
    where
      kept : (any : Cell) (m : List ℕ) → cells_left at ended any (parts_of comma m) ≡ take most_columns (take at ended)
      kept any m =
          by_parts comma (λ ps. cells_left at ended any ps ≡ take most_columns (take at ended))
          (λ p ps. take-append-le most_columns (take at ended) (told_left any p ∷ map told (map unquoted ps)) (omega (arith, length-take at ended))) m

abbrev parted_at : Grid → ℕ → Grid
parted_at g at = record { stage = g.stage; separator = g.separator; filled = g.filled; shut = false; cell = Fresh; at = at }

module _ (g : Grid) (ended : List ℕ) (clear : g.shut ≡ false) where
  parted_by : (at : ℕ) (after : List ℕ)
      → ((l : List ℕ) → cells_left at after Fresh (parts_of comma l) ≡ cells_left g.at ended g.cell ([] ∷ parts_of comma l)) → LineFollows g ended comma (parted_at g at) after
  unfolding head_left blank_left row_left
  parted_by at after h =
      record {
        heads = λ l. refl;
        blanks = λ l. rw clear;
        numbers = λ say l. rw clear (ap (say) (h (plain l)));
      }

  pub by_parting : g.at < length ended → (n : ℕ) → n ≡ told_left g.cell [] → LineFollows g ended comma (parted_at g (g.at + 1)) (set ended g.at n)
  by_parting room n e = parted_by (g.at + 1) (set ended g.at n) (cells_parted g.at ended g.cell room n e)

  pub by_parting_full : most_columns ≤ length ended → length ended ≤ g.at → LineFollows g ended comma (parted_at g g.at) ended
  by_parting_full long h = parted_by g.at ended (λ l. cells_full g.at ended g.cell long h Fresh l (comma ∷ l))

-- A carriage return with a byte behind it

pub record LineAlike (g r : Grid) : Type 0 where
  pub heads : (c : ℕ) (l : List ℕ) → head_left r (c ∷ l) ≡ head_left g (c ∷ l)
  pub blanks : (c : ℕ) (l : List ℕ) → blank_left r (c ∷ l) ≡ blank_left g (c ∷ l)
  pub numbers : (say : List ℕ → List ℕ) (ended : List ℕ) (c : ℕ) (l : List ℕ) → row_left say r ended (c ∷ l) ≡ row_left say g ended (c ∷ l)

pub by_opening : (g : Grid) → LineAlike g (grid_opened g)
unfolding head_left blank_left row_left told_left
by_opening g = go g.shut refl
  where
    go : (t : Bool) → g.shut ≡ t
        → LineAlike g (cond t (record { stage = g.stage; separator = g.separator; filled = true; shut = false; cell = Bad; at = g.at }) g)
    go false e = record { heads = λ c l. refl; blanks = λ c l. refl; numbers = λ say ended c l. refl }
    go true e =
        record {
          heads = λ c l. refl;
          blanks = λ c l. rw e (sym (and_false (not g.filled)));
          numbers = λ say ended c l. rw e (ap (say) (cells_onto g.at ended g.cell Bad 13 (foreign g.cell 13 refl (λ e. omega arith) (λ e. omega arith)) (plain (c ∷ l))));
        }
