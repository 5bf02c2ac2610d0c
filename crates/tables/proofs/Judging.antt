-- Entries judged as their lines come are judged as the whole register is. Assumes nothing.
use mathlib.Core.Path.{◌≡◌, refl, ap, sym, ◌∙◌}
use mathlib.Core.Bool.{Bool, true, false, cond}
use mathlib.Core.List.{List, [], ◌∷◌, map}
use Prim.Native.Nat.{ℕ, suc, ◌+◌, ◌≤◌, ◌<◌}
use lib.ListN.{length, get_or, drop, drop_of_length-le}
use Rattle.row.specs.Judging.{refused_at, judged}
use Rattle.row.specs.Inner.{judged_on}
use Rattle.row.proofs.Judging.{blank_bad}
use Rattle.row.proofs.Left.{next_byte}
use Rattle.grid.specs.declared.Grid.{Grid}
use Rattle.grid.specs.declared.Step.{Step}
use Rattle.grid.specs.Told.{rows_by}
use Rattle.grid.specs.Meaning.{head_left, blank_left, blanks_then, line_then, rows_left, rows_after, StepFrom, Starts, Next}
use Rattle.grid.proofs.Rows.{blanks_none, feed, ends}
use Rattle.tables.specs.declared.roll.Register.{Register}
use Rattle.tables.specs.declared.roll.Roll.{Roll}
use Rattle.tables.specs.Register.{register_row, limit_told, as_entry, entries_of, register_entries, read_register}
use Rattle.tables.specs.Meaning.{entry_cells, roll_outcome, roll_blanks, line_ends}
use Rattle.tables.proofs.Entries.{lawful}

-- A blank line

-- one with a line behind it is refused,
blank_refuses : (roll : Roll) (rows : List (List ℕ)) → roll_outcome roll ([] ∷ rows) ≡ refused_at register_entries roll.count
unfolding judged_on as_entry limit_told
blank_refuses roll rows = go roll.refused refl
  where
    go : (t : Bool) → roll.refused ≡ t → roll_outcome roll ([] ∷ rows) ≡ refused_at register_entries roll.count
    go true e = rw e
    go false e = rw (e, blank_bad register_entries lawful roll.before)

-- and a refusal stays
stays : (roll : Roll) (rows : List (List ℕ)) → roll.refused ≡ true → roll_outcome roll rows ≡ refused_at register_entries roll.count
unfolding judged_on
stays roll rows e = rw e

-- The end of a line

module _ (s : Roll) (grid : Grid) (ended : List ℕ) where
  abbrev goes_on : Roll → Type 0
  goes_on r = (rows : List (List ℕ)) → roll_outcome r (blanks_then (roll_blanks r) rows) ≡ roll_outcome s (line_ends register_row (roll_blanks s) grid ended rows)

  pub by_heading : head_left grid [] ≡ true → goes_on s
  unfolding line_then
  by_heading h rows = rw h

  pub by_blank : head_left grid [] ≡ false → blank_left grid [] ≡ true
      → goes_on (record { refused = s.refused; blank = true; before = s.before; count = s.count; entries = s.entries })
  unfolding line_then blanks_then
  by_blank h b [] = rw (h, b)
  by_blank h b (row ∷ rows) = rw (h, b) (go s.blank)
    where
      go : (t : Bool) → roll_outcome s ([] ∷ row ∷ rows) ≡ roll_outcome s (blanks_then (suc (cond t 1 0)) (row ∷ rows))
      go true = blank_refuses s (row ∷ rows) ∙ sym (blank_refuses s ([] ∷ row ∷ rows))
      go false = refl

  module _ (h : head_left grid [] ≡ false) (b : blank_left grid [] ≡ false) where
    pub by_held : (r : Roll) → s.blank ≡ true → (r.refused ≡ true) × (r.count ≡ s.count) × (r.blank ≡ s.blank) → goes_on r
    unfolding line_then
    by_held r held e rows =
        stays r (blanks_then (roll_blanks r) rows) e.0 ∙ ap (λ (n : ℕ). refused_at register_entries n) e.1 ∙ sym (rw (h, b, held) (blank_refuses s (entry_cells grid ended ∷ rows)))

    pub by_row : (r : Roll) → s.blank ≡ false → r.blank ≡ s.blank → ((rows : List (List ℕ)) → roll_outcome r rows ≡ roll_outcome s (entry_cells grid ended ∷ rows)) → goes_on r
    unfolding line_then
    by_row r none e f rows =
        ap (λ (t : Bool). roll_outcome r (blanks_then (cond t 1 0) rows)) (e ∙ none) ∙ ap (roll_outcome r) (blanks_none rows) ∙ f rows ∙ sym (rw (h, b, none))

-- A byte of the text

-- what is left of it
abbrev pub roll_left : Roll → Grid → List ℕ → List ℕ → Register
roll_left roll grid ended rest = roll_outcome roll (rows_left register_row (roll_blanks roll) grid ended rest)

module _ (roll : Roll) (grid : Grid) (ended : List ℕ) (text : List ℕ) (i : ℕ) where
  -- it ends its line
  pub register_line : (r : Roll) (n : Grid) → i < length text → get_or text i 0 ≡ 10 → Next grid n → goes_on roll grid ended r
      → roll_left r n ended (drop (i + 1) text) ≡ roll_left roll grid ended (drop i text)
  register_line r n more e next f =
      let rest = drop (i + 1) text in
      let byte : 10 ∷ rest ≡ drop i text = sym (next_byte text i more ∙ ap (λ (b : ℕ). b ∷ rest) e) in
      ap (roll_outcome r) (next.rows register_row (roll_blanks r) ended rest)
      ∙ f (rows_after register_row grid rest)
      ∙ ap (roll_outcome roll) (sym (feed register_row (roll_blanks roll) grid ended rest) ∙ ap (rows_left register_row (roll_blanks roll) grid ended) byte)

  -- it is another one
  pub register_step : (s : Step) (after : List ℕ) → StepFrom text i grid ended s after → roll_left roll s.grid after (drop s.end text) ≡ roll_left roll grid ended (drop i text)
  register_step s after f =
      ap (roll_outcome roll) (f.rows register_row (roll_blanks roll) (drop s.end text) ∙ ap (rows_left register_row (roll_blanks roll) grid ended) (sym f.stands))

  -- the text ends
  pub register_end : (r : Roll) → length text ≤ i → goes_on roll grid ended r → roll_outcome r [] ≡ roll_left roll grid ended (drop i text)
  unfolding blanks_then
  register_end r h f =
      f [] ∙ ap (roll_outcome roll) (sym (ends register_row (roll_blanks roll) grid ended)
      ∙ ap (rows_left register_row (roll_blanks roll) grid ended) (sym (drop_of_length-le text h)))

-- The start of the text

pub starts : (grid : Grid) (roll : Roll) (ended : List ℕ) → Starts grid → roll.blank ≡ false
    → ((rows : List (List ℕ)) → roll_outcome roll rows ≡ judged register_entries (map as_entry rows)) → (text : List ℕ) → roll_left roll grid ended text ≡ read_register text
unfolding read_register entries_of
starts grid roll ended f none h text =
    ap (λ (t : Bool). roll_outcome roll (rows_left register_row (cond t 1 0) grid ended text)) none
    ∙ ap (roll_outcome roll) (f.rows register_row ended text) ∙ h (rows_by register_row text)
