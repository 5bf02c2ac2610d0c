-- Every lookup is a row of its table, and the table has one part for two books and a key. Assumes nothing.
use mathlib.Core.Path.{◌≡◌, refl, sym, ◌∙◌, ap}
use mathlib.Core.Bool.{Bool, true, false}
use mathlib.Core.Logic.{◌⊎◌, inl, inr, ⊎_elim}
use mathlib.Core.List.{List}
use mathlib.Core.Option.{Option, none, some}
use Prim.Native.Nat.{ℕ}
use native.Mathlib.Decide.{ℕ_discrete}
use native.Mathlib.Omega.{arith}
use denote.Ref.{Bor}
use Rattle.le.specs.Le.{IsBytes}
use Rattle.le.proofs.Tests.{holds_or_fails}
use Rattle.call.specs.declared.Call.{Call}
use Rattle.call.specs.Key.{key_of}
use Rattle.call.specs.Layout.{call_bytes}
use Rattle.book.specs.Book.{calls_of}
use Rattle.rule.specs.Keys.{record_of}
use Rattle.rule.specs.Standing.{same_call}
use Rattle.rule.proofs.Equality.{same_eq, eq_same}
use Rattle.pair.specs.Screening.{screen}
use Rattle.join.specs.Joining.{joined_of}
use Rattle.lookup.specs.Lookup.{Found}
use Rattle.lookup.proofs.Lookups.{find_refused, find_stands, find_nothing}
use Rattle.operations.specs.Finding.{FindVerdict, books_refused, record_found, nothing_found}

-- whether a book's record is a call
is_call : (o : Option Call) (c : Call) → Dec (o ≡ some c)
is_call none c = no (λ e. let z : ◌≡◌ {A = ℕ} 0 1 = cc in omega arith)
is_call (some x) c = go (same_call x c) refl
  where
    inner : some x ≡ some c → x ≡ c
    inner e = cc

    go : (t : Bool) → same_call x c ≡ t → Dec (some x ≡ some c)
    go true h = yes (ap some (same_eq x c h))
    go false h = no (λ e. holds_or_fails (eq_same x c (inner e)) h)

module _ (first second part : Bor (List ℕ)) (participant number : ℕ) (small_first : IsBytes first.now) (small_second : IsBytes second.now)
    (found : Found first second participant number part) where
  abbrev key : ℕ
  key = key_of participant number

  -- EVERY LOOKUP IS A ROW OF ITS TABLE.
  pub find-verdict : FindVerdict first.now second.now participant number part.now
  find-verdict = go (ℕ_discrete (screen first.now second.now).number 0)
    where
      some-call : (screen first.now second.now).number ≡ 0 → (c : Call) → record_of key (joined_of first.now second.now) ≡ some c
          → Dec (record_of key (calls_of first.now) ≡ some c) → Dec (record_of key (calls_of second.now) ≡ some c)
          → FindVerdict first.now second.now participant number part.now
      some-call z c s (yes f) g =
          record_found z c (record { stands = s; lies = inl f }) (find_stands first second part participant number found small_first small_second z c s (inl f))
      some-call z c s (no f) (yes g) =
          record_found z c (record { stands = s; lies = inr g }) (find_stands first second part participant number found small_first small_second z c s (inr g))
      some-call z c s (no f) (no g) =
          let is : (d : Call) → record_of key (joined_of first.now second.now) ≡ some d → d ≡ c = λ d e. cc in
          let none-lies : (d : Call) → record_of key (joined_of first.now second.now) ≡ some d
          → (record_of key (calls_of first.now) ≡ some d) ⊎ (record_of key (calls_of second.now) ≡ some d) → ⊥ =
          λ d e h. ⊎_elim (λ l. f (l ∙ ap some (is d e))) (λ l. g (l ∙ ap some (is d e))) h in
          nothing_found z (λ d l. none-lies d l.stands l.lies) (find_nothing first second part participant number found small_first small_second z none-lies)

      passed : (screen first.now second.now).number ≡ 0 → (o : Option Call) → record_of key (joined_of first.now second.now) ≡ o
          → FindVerdict first.now second.now participant number part.now
      passed z none s =
          let never : (d : Call) → record_of key (joined_of first.now second.now) ≡ some d → ⊥ = λ d e. let y : ◌≡◌ {A = ℕ} 0 1 = cc in omega arith in
          nothing_found z (λ d l. never d l.stands) (find_nothing first second part participant number found small_first small_second z (λ d e h. never d e))
      passed z (some c) s = some-call z c s (is_call (record_of key (calls_of first.now)) c) (is_call (record_of key (calls_of second.now)) c)

      go : Dec ((screen first.now second.now).number ≡ 0) → FindVerdict first.now second.now participant number part.now
      go (no n) = books_refused n (find_refused first second part participant number found n)
      go (yes z) = passed z (record_of key (joined_of first.now second.now)) refl

-- THE TABLE HAS ONE PART.
pub find_one : (first second : List ℕ) (participant number : ℕ) (p q : List ℕ)
    → FindVerdict first second participant number p → FindVerdict first second participant number q → p ≡ q
find_one first second participant number p q (books_refused n e) (books_refused m f) = e ∙ sym f
find_one first second participant number p q (books_refused n e) (record_found z c l f) = absurd (n z)
find_one first second participant number p q (books_refused n e) (nothing_found z h f) = absurd (n z)
find_one first second participant number p q (record_found z c l e) (books_refused n f) = absurd (n z)
find_one first second participant number p q (record_found z c l e) (record_found y d k f) = e ∙ ap call_bytes (alike l.stands k.stands) ∙ sym f
  where
    alike : {o : Option Call} → o ≡ some c → o ≡ some d → c ≡ d
    alike s t = cc
find_one first second participant number p q (record_found z c l e) (nothing_found y h f) = absurd (h c l)
find_one first second participant number p q (nothing_found z h e) (books_refused n f) = absurd (n z)
find_one first second participant number p q (nothing_found z h e) (record_found y c l f) = absurd (h c l)
find_one first second participant number p q (nothing_found z h e) (nothing_found y k f) = e ∙ sym f
