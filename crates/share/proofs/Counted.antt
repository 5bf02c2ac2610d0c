-- The lines that an array holds of a list, and what is judged of them. Assumes nothing.
use mathlib.Core.Path.{◌≡◌, sym, ap, ◌∙◌}
use mathlib.Core.Bool.{false}
use mathlib.Core.List.{List}
use Prim.Native.Nat.{ℕ, ◌≤◌, ◌<◌}
use native.Mathlib.Decide.{dec_le}
use native.Mathlib.Omega.{arith}
use borrow.Author.Tests.{le-ltb}
use lib.ListN.{length, take}
use lib.Seq.{take_all, length-take-le}
use Rattle.share.specs.declared.Line.{Line}
use Rattle.share.specs.Sharing.{line_is_sound, first_bad_line, sharing_refused, sharing_in_turn, sharing, most_part}
use Rattle.share.specs.Forms.{blank_line, sharing_counted}
use Rattle.share.proofs.Cases.{turn_10, any_part, bad_of_64, sharing_10}

-- a blank line is never sound
pub blank_bad : (before : ℕ) → line_is_sound before blank_line ≡ false
unfolding line_is_sound
blank_bad before = rw (le-ltb before 0 (omega arith))

-- Of more than 64 lines the 65th is refused, or an earlier one.
pub sixty_fifth : (part : ℕ) (ls : List Line) → part ≤ most_part → 64 < length ls
    → (sharing part ls ≡ sharing_refused 10 (first_bad_line 0 (take 64 ls))) × (first_bad_line 0 (take 64 ls) ≤ 64)
sixty_fifth part ls fair h =
    let b = bad_of_64 ls in
    (sym (sharing_10 part ls fair (omega (arith, b.1))) ∙ ap (λ (p : ℕ). sharing_refused 10 p) (sym b.0), omega (arith, b.0, b.1))

-- no more lines are counted than there are
pub counted_few : (part : ℕ) (lines : List Line) (count : ℕ) → count ≤ length lines → sharing_counted part lines count ≡ sharing part (take count lines)
counted_few part lines count h = rw (length-take-le count lines h, (bad_of_64 (take count lines)).0)

-- THE SAME SHARING, of a list and of an array that holds its first 64 lines.
pub same_sharing : (part : ℕ) (ls lines : List Line) → take (length ls) lines ≡ take 64 ls → sharing_counted part lines (length ls) ≡ sharing part ls
same_sharing part ls lines t = ap (λ (x : List Line). sharing_in_turn part (first_bad_line 0 x) (length ls) x) t ∙ go (dec_le (length ls) 64)
  where
    go : Dec (length ls ≤ 64) → sharing_in_turn part (first_bad_line 0 (take 64 ls)) (length ls) (take 64 ls) ≡ sharing part ls
    go (yes h) = ap (sharing_in_turn part (first_bad_line 0 (take 64 ls)) (length ls)) (take_all 64 ls h)
    go (no f) =
        let b = bad_of_64 ls in
        let few : first_bad_line 0 (take 64 ls) ≤ 64 = omega (arith, b.0, b.1) in
        any_part part _ (length ls) _ (length ls) (take 64 ls) ls
        (λ fair. sym (turn_10 part _ (length ls) (take 64 ls) fair few (omega arith)) ∙ turn_10 part _ (length ls) ls fair few (omega arith))
