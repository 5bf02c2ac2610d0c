-- Two outcomes that a contract allows are one; and the numbers that a join may give. Assumes nothing.
use mathlib.Core.Path.{◌≡◌, refl, sym, ◌∙◌, ap}
use mathlib.Core.Bool.{Bool, true, false}
use mathlib.Core.Logic.{◌⊎◌, inl, inr}
use mathlib.Core.List.{List}
use Prim.Native.Nat.{ℕ, ◌≤◌}
use native.Mathlib.Omega.{arith}
use Rattle.book.specs.declared.Verdict.{Verdict}
use Rattle.book.specs.Book.{header_at}
use Rattle.book.specs.Check.{check}
use Rattle.pair.specs.Screening.{same_month, screen}
use Rattle.pair.proofs.Screening.{Both, first_bad_lem, second_bad, neither_bad, both, screen_both, screen_month, screen_passes}
use Rattle.join.specs.declared.Joined.{Joined}
use Rattle.join.specs.Joining.{JoinOutcome, join_outcome, joining}
use Rattle.join.proofs.WaysOut.{Way, screened, many, short, joins, way}

-- a join: number, place, length and turns, and every byte of the output
pub join_determined : (first second before : List ℕ) (r s : Joined) (after again : List ℕ)
    → join_outcome r after ≡ joining first second before → join_outcome s again ≡ joining first second before → (r ≡ s) × (after ≡ again)
join_determined first second before r s after again e f =
    let g = e ∙ sym f in (
      λ i. record { number = (g i).number; place = (g i).place; length = (g i).size; turns = (g i).turns },
      ap (λ (x : JoinOutcome). x.out) g,
    )

-- The numbers of a join: 1 to 9, or 21 to 26, or 0. So 27 and 28 cannot occur.

abbrev Number : ℕ → Type 0
Number n = (n ≤ 9) ⊎ ((21 ≤ n) × (n ≤ 26))

screen_number : (a b : List ℕ) → Number (screen a b).number
screen_number a b = go (both a b) (same_month (header_at a) (header_at b)) refl
  where
    of : {v : Verdict} → v ≡ screen a b → Number v.number → Number (screen a b).number
    of e n = rw (sym e) n

    go : Both a b → (t : Bool) → same_month (header_at a) (header_at b) ≡ t → Number (screen a b).number
    go (first_bad_lem l h e) t m = of (screen_both a b (check a) e (λ z. omega arith)) (inl (omega arith))
    go (second_bad l h e) t m = of (screen_both a b _ e (λ z. omega arith)) (inr (omega arith, omega arith))
    go (neither_bad p q e) false m = of (screen_month a b p q m) (inl (omega arith))
    go (neither_bad p q e) true m = of (screen_passes a b p q m) (inl (omega arith))

pub join_number : (a b out : List ℕ) → ((joining a b out).number ≤ 9) ⊎ ((21 ≤ (joining a b out).number) × ((joining a b out).number ≤ 26))
join_number a b out = go (way a b out)
  where
    of : {o : JoinOutcome} → o ≡ joining a b out → Number o.number → Number (joining a b out).number
    of e m = rw (sym e) m

    go : Way a b out → Number (joining a b out).number
    go (screened s e) = of e (screen_number a b)
    go (many s f e) = of e (inl (omega arith))
    go (short s r e) = of e (inl (omega arith))
    go (joins s f e) = of e (inl (omega arith))
