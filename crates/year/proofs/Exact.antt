-- The year's answer comes exactly under its condition: which statement is the first bad one, and a table of both answers. Assumes nothing.
use mathlib.Core.Path.{◌≡◌, refl, sym, ◌∙◌, ap}
use mathlib.Core.Bool.{Bool, true, false, cond}
use mathlib.Core.List.{List, [], ◌∷◌, ◌++◌, append-nil}
use mathlib.Core.Logic.{◌↔◌}
use Prim.Native.Nat.{ℕ, zero, suc, ◌≤◌, ◌<◌}
use native.Mathlib.Decide.{dec_lt}
use native.Mathlib.Omega.{arith}
use lib.ListN.{length, get_or, take}
use lib.Seq.{append_snoc}
use Rattle.le.proofs.Tests.{refuted}
use Rattle.year.specs.declared.MonthStatement.{MonthStatement}
use Rattle.year.specs.declared.Year.{Year}
use Rattle.year.specs.Year.{goes_on, first_bad_statement, year_refused, year_of}
use Rattle.year.specs.Verdict.{blank_statement, GoesOn, GoesOnAt, YearVerdict, ten, taken}
use Rattle.year.proofs.Statements.{goes_on_lem, on_goes}
use Rattle.year.proofs.Taking.{bad_le, refused_is, taken_is}

-- the statements before the first bad one go on behind those before them,
before_bad : (before ss : List MonthStatement) (k : ℕ) → k < first_bad_statement before ss → GoesOn (before ++ take k ss) (get_or ss k blank_statement)
unfolding first_bad_statement
before_bad before [] k h = absurd (omega (arith, h))
before_bad before (s ∷ ss) k h = go (first_bad_statement (before ++ s ∷ []) ss) (goes_on before s) refl k h (before_bad (before ++ s ∷ []) ss)
  where
    go : (n : ℕ) (t : Bool) → goes_on before s ≡ t → (k : ℕ) → k < cond t (suc n) 0
        → ((k : ℕ) → k < n → GoesOn ((before ++ s ∷ []) ++ take k ss) (get_or ss k blank_statement))
        → GoesOn (before ++ take k (s ∷ ss)) (get_or (s ∷ ss) k blank_statement)
    go n false e k h rec = absurd (omega (arith, h))
    go n true e zero h rec = rw (append-nil before) (goes_on_lem before s e)
    go n true e (suc k) h rec = rw (← (append_snoc before s (take k ss))) (rec k (omega (arith, h)))

-- and it does not
at_bad : (before ss : List MonthStatement) → let n = first_bad_statement before ss in n < length ss → GoesOn (before ++ take n ss) (get_or ss n blank_statement) → ⊥
unfolding first_bad_statement
at_bad before [] h = absurd (omega (arith, h))
at_bad before (s ∷ ss) h = go (first_bad_statement (before ++ s ∷ []) ss) (goes_on before s) refl h (at_bad (before ++ s ∷ []) ss)
  where
    go : (n : ℕ) (t : Bool) → goes_on before s ≡ t → cond t (suc n) 0 < suc (length ss)
        → (n < length ss → GoesOn ((before ++ s ∷ []) ++ take n ss) (get_or ss n blank_statement) → ⊥)
        → GoesOn (before ++ take (cond t (suc n) 0) (s ∷ ss)) (get_or (s ∷ ss) (cond t (suc n) 0) blank_statement) → ⊥
    go n false e h rec = rw (append-nil before) (refuted (goes_on before s) (on_goes before s) e)
    go n true e h rec = rw (← (append_snoc before s (take n ss))) (rec (omega (arith, h)))

module _ (ss : List MonthStatement) where
  abbrev first : ℕ
  first = first_bad_statement [] ss

  -- statements that go on stand before it, and one that does not is not before it
  no_sooner : (p : ℕ) → p ≤ length ss → ((k : ℕ) → k < p → GoesOnAt ss k) → p ≤ first
  no_sooner p h w = go (dec_lt first p)
    where
      go : Dec (first < p) → p ≤ first
      go (yes k) = absurd (at_bad [] ss (omega (arith, h, k)) (w first k))
      go (no k) = omega (arith, k)

  no_later : (p : ℕ) → (GoesOnAt ss p → ⊥) → first ≤ p
  no_later p n = go (dec_lt p first)
    where
      go : Dec (p < first) → first ≤ p
      go (yes k) = absurd (n (before_bad [] ss p k))
      go (no k) = omega (arith, k)

  pub none_bad : ((k : ℕ) → k < length ss → GoesOnAt ss k) → first ≡ length ss
  none_bad w = omega (arith, no_sooner (length ss) (omega arith) w, bad_le [] ss)

  -- THE TABLE: statements come to one of its rows ..
  pub verdict : YearVerdict ss (year_of ss)
  verdict = go (dec_lt first (length ss))
    where
      go : Dec (first < length ss) → YearVerdict ss (year_of ss)
      go (yes h) = ten first h (λ k l. before_bad [] ss k l) (at_bad [] ss h) (refused_is ss h)
      go (no h) =
          let all : first ≡ length ss = omega (arith, h, bad_le [] ss) in
          taken (λ k l. before_bad [] ss k (omega (arith, l, all))) (taken_is ss all)

  -- .. and where the condition of one holds, that is the one
  pub decides : (o : Year) → YearVerdict ss o → o ≡ year_of ss
  decides o (ten p h w n e) =
      let there : first ≡ p = omega (arith, no_sooner p (omega (arith, h)) w, no_later p n) in
      e ∙ ap (year_refused 10) (sym there) ∙ sym (refused_is ss (omega (arith, there, h)))
  decides o (taken w e) = e ∙ sym (taken_is ss (none_bad w))

-- EXACTLY: an answer is the year's where, and only where, a row of the table allows it
pub year_exact : (ss : List MonthStatement) (o : Year) → (o ≡ year_of ss) ↔ YearVerdict ss o
year_exact ss o = (λ e. rw e (verdict ss), decides ss o)
