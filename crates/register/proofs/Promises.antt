-- What a register promises: no contract leaves a choice, and an entry of zeros is never sound. Assumes nothing.
use mathlib.Core.Path.{◌≡◌, refl, sym, ◌∙◌}
use mathlib.Core.Bool.{Bool, false}
use mathlib.Core.List.{List}
use Prim.Native.Nat.{ℕ}
use lib.ListN.{take}
use Rattle.units.specs.declared.Fen.{Fen}
use Rattle.share.specs.declared.Line.{Line}
use Rattle.ceiling.specs.declared.LimitedLine.{LimitedLine}
use Rattle.pay.specs.Member.{member_is_sound}
use Rattle.register.specs.declared.Entry.{Entry}
use Rattle.register.specs.Register.{blank_entry, entry_line, entry_is_sound, first_bad_entry, limited_for}

-- Two answers that a contract allows are one: of `Entry::line`, `Entry::is_sound`, `first_bad_entry` and `limited_for`.
pub line_determined : (e : Entry) (fen : Fen) (l k : Line) → l ≡ entry_line e fen → k ≡ entry_line e fen → l ≡ k
line_determined e fen l k p q = p ∙ sym q

pub sound_determined : (before : ℕ) (e : Entry) (t u : Bool) → t ≡ entry_is_sound before e → u ≡ entry_is_sound before e → t ≡ u
sound_determined before e t u p q = p ∙ sym q

pub bad_determined : (es : List Entry) (count i j : ℕ) → i ≡ first_bad_entry 0 (take count es) → j ≡ first_bad_entry 0 (take count es) → i ≡ j
bad_determined es count i j p q = p ∙ sym q

pub lines_determined : (es : List Entry) (fens : List Fen) (ls ks : List LimitedLine) → ls ≡ limited_for es fens → ks ≡ limited_for es fens → ls ≡ ks
lines_determined es fens ls ks p q = p ∙ sym q

-- An entry of zeros is never sound.
pub blank_bad : (before : ℕ) → entry_is_sound before blank_entry ≡ false
unfolding entry_is_sound member_is_sound
blank_bad before = refl
