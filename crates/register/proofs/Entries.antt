-- A register's entries in turn, and their sharing lines, one by one. Assumes nothing.
use mathlib.Core.Path.{◌≡◌, refl, ap, sym, ◌∙◌}
use mathlib.Core.Bool.{Bool, true, false, cond}
use mathlib.Core.List.{List, [], ◌∷◌}
use Prim.Native.Nat.{ℕ, zero, suc, ◌+◌, ◌≤◌, ◌<◌}
use native.Mathlib.Numerals.{add-one}
use native.Mathlib.Omega.{arith}
use lib.ListN.{length, take, drop, set, get_or}
use lib.Seq.{take-nil, take-suc, take-suc-set, take_all, get_or-drop}
use Rattle.units.specs.declared.Fen.{Fen}
use Rattle.share.specs.declared.Line.{Line}
use Rattle.ceiling.specs.declared.Limit.{Limit}
use Rattle.ceiling.specs.declared.LimitedLine.{LimitedLine}
use Rattle.ceiling.specs.Inner.{blank_limited}
use Rattle.register.specs.declared.Entry.{Entry}
use Rattle.register.specs.Register.{entry_line, entry_limited, entry_is_sound, first_bad_entry, limited_for}

pub bad_step : (before : ℕ) (e : Entry) (es : List Entry) → entry_is_sound before e ≡ true → first_bad_entry before (e ∷ es) ≡ suc (first_bad_entry e.member.number es)
bad_step before e es h = rw h

pub bad_here : (before : ℕ) (e : Entry) (es : List Entry) → entry_is_sound before e ≡ false → first_bad_entry before (e ∷ es) ≡ 0
bad_here before e es h = rw h

pub bad_le : (before : ℕ) (es : List Entry) → first_bad_entry before es ≤ length es
bad_le before [] = omega arith
bad_le before (e ∷ es) = go (entry_is_sound before e) (bad_le e.member.number es)
  where
    go : (t : Bool) → first_bad_entry e.member.number es ≤ length es → cond t (suc (first_bad_entry e.member.number es)) 0 ≤ suc (length es)
    go true h = omega arith
    go false h = omega arith

abbrev none : Fen
none = record { 0 = 0 }

pub length_lines : (es : List Entry) (fens : List Fen) → length (limited_for es fens) ≡ length es
length_lines [] fens = refl
length_lines (e ∷ es) fens = ap suc (length_lines es (drop 1 fens))

-- a line with its limit, from both
pub limited_is : (e : Entry) (fen : Fen) (line : Line) (limit : Limit) → line ≡ entry_line e fen → limit ≡ e.limit
    → ◌≡◌ {A = LimitedLine} (record { line = line; limit = limit; uncollected = none; given = none }) (entry_limited e fen)
unfolding entry_limited
limited_is e fen line limit el em = rw (el, em) refl

-- the line at a place is that of the entry and the compensation there
pub line_at : (es : List Entry) (fens : List Fen) (i : ℕ) (d : Entry) → i < length es → get_or (limited_for es fens) i blank_limited ≡ entry_limited (get_or es i d) (get_or fens i none)
line_at [] fens i d h = absurd (omega arith)
line_at (e ∷ es) fens zero d h = refl
line_at (e ∷ es) fens (suc i) d h =
    let one : get_or (drop 1 fens) i none ≡ get_or fens (suc i) none = rw get_or-drop (ap (λ (n : ℕ). get_or fens n none) (omega arith)) in
    line_at es (drop 1 fens) i d (omega arith) ∙ ap (entry_limited (get_or es i d)) one

-- the first lines are those of the first entries and compensations
pub take_lines : (n : ℕ) (es : List Entry) (fens : List Fen) → take n (limited_for es fens) ≡ limited_for (take n es) (take n fens)
take_lines zero es fens = refl
take_lines (suc n) [] fens = refl
take_lines (suc n) (e ∷ es) [] = ap (λ (ls : List LimitedLine). entry_limited e none ∷ ls) (take_lines n es [] ∙ ap (limited_for (take n es)) (take-nil n))
take_lines (suc n) (e ∷ es) (f ∷ fens) = ap (λ (ls : List LimitedLine). entry_limited e f ∷ ls) (take_lines n es fens)

module _ (es : List Entry) (fens : List Fen) (lines : List LimitedLine) where
  pub line_next : (i : ℕ) (d : Entry) (l : LimitedLine) → i < length es → i < length lines → l ≡ entry_limited (get_or es i d) (get_or fens i none)
      → take i lines ≡ take i (limited_for es fens) → take (i + 1) (set lines i l) ≡ take (i + 1) (limited_for es fens)
  line_next i d l h k e inv =
      let room : i < length (limited_for es fens) = omega (arith, length_lines es fens) in
      rw (add-one, take-suc-set lines i l k, inv, e, ← line_at es fens i d h) (sym (take-suc (limited_for es fens) i blank_limited room))

  pub lines_all : (i : ℕ) → length lines ≤ i → length es ≤ i → take i lines ≡ take i (limited_for es fens) → lines ≡ limited_for es fens
  lines_all i h k inv =
      sym (take_all i lines h) ∙ inv ∙ take_all i (limited_for es fens) (omega (arith, length_lines es fens))
