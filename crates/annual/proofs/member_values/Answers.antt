use mathlib.Core.Path.{◌≡◌, refl, ◌∙◌, ap}
use mathlib.Core.Bool.{Bool, true, false}
use mathlib.Core.List.{List, [], ◌∷◌, ◌++◌}
use Prim.Native.Nat.{ℕ}
use lib.ListN.{get_or}
use mir.Val.{bool_byte}
use Rattle.form.specs.Form.{flag}
use Rattle.annual.specs.Forms.{month_flags, member_values}
use Rattle.annual.proofs.member_values.Goals as goal

flagged : (is : Bool) → bool_byte is ≡ flag is
unfolding flag
flagged true = refl
flagged false = refl

-- the months as they are read, and what stands behind them
abbrev twelve : List Bool → List ℕ → List ℕ
twelve m rest =
    bool_byte (get_or m 0 false) ∷ bool_byte (get_or m 1 false) ∷ bool_byte (get_or m 2 false) ∷ bool_byte (get_or m 3 false)
    ∷ bool_byte (get_or m 4 false) ∷ bool_byte (get_or m 5 false) ∷ bool_byte (get_or m 6 false) ∷ bool_byte (get_or m 7 false)
    ∷ bool_byte (get_or m 8 false) ∷ bool_byte (get_or m 9 false) ∷ bool_byte (get_or m 10 false) ∷ bool_byte (get_or m 11 false)
    ∷ rest

months-are : (m : List Bool) (rest : List ℕ) → twelve m rest ≡ month_flags m ++ rest
months-are m rest = λ i.
    flagged (get_or m 0 false) i ∷ flagged (get_or m 1 false) i ∷ flagged (get_or m 2 false) i ∷ flagged (get_or m 3 false) i
    ∷ flagged (get_or m 4 false) i ∷ flagged (get_or m 5 false) i ∷ flagged (get_or m 6 false) i ∷ flagged (get_or m 7 false) i
    ∷ flagged (get_or m 8 false) i ∷ flagged (get_or m 9 false) i ∷ flagged (get_or m 10 false) i ∷ flagged (get_or m 11 false) i
    ∷ rest

pub returns : goal.returns
unfolding member_values
returns c =
    let a = c.args in
    let m = a.m.now in
    let e = c.to_fen-charged.ensures in
    let s = c.fen_bits-share.ensures in
    let t = c.fen_bits-amount.ensures in
    let l = c.fen_bits-most.ensures in
    ap (λ (vs : List ℕ). a.number ∷ vs)
    ((λ i. twelve m.months (m.sums.compensation.0 ∷ e i ∷ s i ∷ t i ∷ l i ∷ m.largest.month ∷ [])) ∙ months-are m.months _)
