-- Two outcomes that a contract allows are one, for each operation of the book. Assumes nothing.
use mathlib.Core.Path.{◌≡◌, sym, ◌∙◌, ap}
use mathlib.Core.List.{List, [], ◌∷◌}
use Prim.Native.Nat.{ℕ}
use Rattle.call.specs.declared.Call.{Call}
use Rattle.book.specs.declared.Header.{Header}
use Rattle.book.specs.declared.Opened.{Opened}
use Rattle.book.specs.declared.Verdict.{Verdict}
use Rattle.book.specs.declared.write.Written.{Written}
use Rattle.book.specs.Check.{check, header_of}
use Rattle.book.specs.Write.{BookOutcome, book_outcome, writing}

pub check_determined : (b : List ℕ) (r s : Verdict) → r ≡ check b → s ≡ check b → r ≡ s
check_determined b r s e f = e ∙ sym f

pub header_determined : (b : List ℕ) (r s : Opened) → r ≡ header_of b → s ≡ header_of b → r ≡ s
header_determined b r s e f = e ∙ sym f

-- an outcome fixes the answer and every byte of the output
pub outcome_determined : (r s : Written) (o p : List ℕ) (w : BookOutcome) → book_outcome r o ≡ w → book_outcome s p ≡ w → (r ≡ s) × (o ≡ p)
outcome_determined r s o p w e f =
    let g = e ∙ sym f in (
      λ i. record { number = ap (λ (x : BookOutcome). x.number) g i; place = ap (λ (x : BookOutcome). x.place) g i; length = ap (λ (x : BookOutcome). x.size) g i },
      ap (λ (x : BookOutcome). x.out) g,
    )

pub none_determined : (h : Header) (out : List ℕ) (r s : Written) (o p : List ℕ) → book_outcome r o ≡ writing h [] out → book_outcome s p ≡ writing h [] out → (r ≡ s) × (o ≡ p)
none_determined h out r s o p e f = outcome_determined r s o p (writing h [] out) e f

pub one_determined : (h : Header) (c : Call) (out : List ℕ) (r s : Written) (o p : List ℕ) → book_outcome r o ≡ writing h (c ∷ []) out → book_outcome s p ≡ writing h (c ∷ []) out → (r ≡ s) × (o ≡ p)
one_determined h c out r s o p e f = outcome_determined r s o p (writing h (c ∷ []) out) e f
