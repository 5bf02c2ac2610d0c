-- A score over a book's bytes is the score over the calls that the book has, so a sum worked out over calls is one over bytes. Assumes nothing.
use mathlib.Core.Path.{◌≡◌, refl, sym, ◌∙◌, ap}
use mathlib.Core.List.{List}
use Prim.Native.Nat.{ℕ, zero, suc, ◌+◌, ◌<◌}
use native.Mathlib.Omega.{arith}
use lib.ListN.{get_or, length}
use Rattle.call.specs.declared.Call.{Call}
use Rattle.book.specs.Book.{count_at, record_at, calls_from, calls_of}
use Rattle.book.proofs.Records.{length_calls}
use Rattle.pay.specs.declared.Member.{Member}
use Rattle.score.specs.declared.answer.Earned.{Earned}
use Rattle.score.specs.declared.answer.Earned.TheVariants.{Accepted, Refused}
use Rattle.score.specs.Scoring.{records_earned, month_at, grains_earned, in_fen, scoring}
use Rattle.score.specs.Outcomes.{Ready}
use Rattle.score.proofs.Turns.{score_is}
use Rattle.score.proofs.Own.{moved, same_run, score_moved}
use Rattle.score.proofs.Exact.{ready_records}

call_at : (b : List ℕ) (none : Call) (n i k : ℕ) → k < n → record_at b (i + k) ≡ get_or (calls_from b i n) k none
unfolding calls_from
call_at b none zero i k l = absurd (omega (arith, l))
call_at b none (suc n) i zero l = ap (record_at b) (omega arith)
call_at b none (suc n) i (suc k) l =
    let e : i + suc k ≡ suc i + k = omega arith in
    ap (record_at b) e ∙ call_at b none n (suc i) k (omega (arith, l))

unmoved : (e : Earned) → moved 0 e ≡ e
unfolding moved
unmoved (Accepted g) = refl
unmoved (Refused v p) = ap (Refused v) (omega arith)

-- Where line, book and series are good, a member earns what the book's calls in turn give it,
pub earned_over_calls : (m : Member) (b series : List ℕ) (none : Call) → Ready m b series
    → grains_earned m b series ≡ records_earned (month_at b) m series (λ (i : ℕ). get_or (calls_of b) i none) (length (calls_of b))
unfolding calls_of
earned_over_calls m b series none ready =
    let book : ℕ → Call = λ (i : ℕ). get_or (calls_of b) i none in
    let n = count_at b in
    ready_records m b series ready
    ∙ score_moved (month_at b) m series (record_at b) book 0 n n (same_run m (record_at b) book n (λ k l. ap (record_at b) (omega arith) ∙ call_at b none n 0 k l))
    ∙ unmoved (records_earned (month_at b) m series book n)
    ∙ ap (records_earned (month_at b) m series book) (sym (length_calls b n 0))

-- and that is its score.
pub over_calls : (m : Member) (b series : List ℕ) (none : Call) → Ready m b series
    → scoring m b series ≡ in_fen (records_earned (month_at b) m series (λ (i : ℕ). get_or (calls_of b) i none) (length (calls_of b)))
over_calls m b series none ready = score_is m b series _ (earned_over_calls m b series none ready)
