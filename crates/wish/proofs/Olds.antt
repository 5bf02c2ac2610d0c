-- What a book has for a member's call number. Assumes nothing.
use mathlib.Core.Path.{◌≡◌, refl, sym, ◌∙◌, ap}
use mathlib.Core.List.{List, Memᴰ as In}
use mathlib.Core.Option.{Option as Kept, none, some}
use Prim.Native.Nat.{ℕ, ◌<◌}
use native.Mathlib.Omega.{arith}
use borrow.Author.Tests.{eq-eqb, ne_eqb}
use Rattle.call.specs.declared.Call.{Call}
use Rattle.call.specs.Key.{key_of, call_key}
use Rattle.book.specs.declared.Verdict.{Verdict}
use Rattle.book.specs.Book.{count_at, record_at, calls_of}
use Rattle.book.specs.Check.{check}
use Rattle.book.specs.Sound.{Sound}
use Rattle.book.proofs.Exact.{sound_accepted}
use Rattle.book.proofs.Parts.{calls_rise}
use Rattle.rule.specs.Keys.{record_of}
use Rattle.rule.proofs.Keyed.{find_in, in_find}
use Rattle.std.specs.Prelude.{Option, Some, None}
use Rattle.lookup.specs.Lookup.{index_of}
use Rattle.lookup.proofs.Places.{Finds, missing, found, in_book}
use Rattle.wish.specs.Wish.{old_of, old_in}

module _ (b : List ℕ) (member number : ℕ) where
  abbrev record_there : Kept Call
  record_there = record_of (key_of member number) (calls_of b)

  pub not_sound : (v : Verdict) → v ≡ check b → (v.number ≡ 0 → ⊥) → None ≡ old_in b member number
  unfolding old_in
  not_sound v e z = rw (← e, ne_eqb v.number 0 z) refl

  of_record : (check b).number ≡ 0 → old_of record_there ≡ old_in b member number
  unfolding old_in
  of_record z = rw (eq-eqb (check b).number 0 z) refl

  -- what the search by halving comes to
  module _ (z : (check b).number ≡ 0) (i : Option ℕ) (e : i ≡ index_of (key_of member number) b) where
    pub no_index : i ≡ None → None ≡ old_in b member number
    unfolding old_of
    no_index n = go (in_book b (key_of member number))
      where
        go : Finds b (key_of member number) (count_at b) (index_of (key_of member number) b) (calls_of b) → None ≡ old_in b member number
        go (missing p q) = ap old_of (sym q) ∙ of_record z
        go (found j l p q) = absurd (let y : ◌≡◌ {A = ℕ} 0 1 = cc in omega arith)

    pub at_index : (k : ℕ) → i ≡ Some k → (k < count_at b) × (Some (record_at b k) ≡ old_in b member number)
    unfolding old_of
    at_index k n = go (in_book b (key_of member number))
      where
        go : Finds b (key_of member number) (count_at b) (index_of (key_of member number) b) (calls_of b) → (k < count_at b) × (Some (record_at b k) ≡ old_in b member number)
        go (missing p q) = absurd (let y : ◌≡◌ {A = ℕ} 0 1 = cc in omega arith)
        go (found j l p q) = let h : k ≡ j = cc in (omega (arith, h, l), ap (λ (m : ℕ). Some (record_at b m)) h ∙ ap old_of (sym q) ∙ of_record z)

-- OF A SOUND BOOK: none of its calls has the key, or one has, and that is what is found.
pub data OldIs (b : List ℕ) (member number : ℕ) : Type 0 where
  has_none : old_in b member number ≡ None → ((x : Call) → In x (calls_of b) → call_key x ≡ key_of member number → ⊥) → OldIs b member number
  has_one : (x : Call) → old_in b member number ≡ Some x → In x (calls_of b) → call_key x ≡ key_of member number → OldIs b member number

module _ (b : List ℕ) (s : Sound b) (member number : ℕ) where
  zero_number : (check b).number ≡ 0
  zero_number = ap (λ (v : Verdict). v.number) (sound_accepted b s)

  -- a call with the key is found
  pub in_old : (x : Call) → In x (calls_of b) → call_key x ≡ key_of member number → old_in b member number ≡ Some x
  unfolding old_of
  in_old x i e =
      sym (of_record b member number zero_number)
      ∙ ap old_of (ap (λ (k : ℕ). record_of k (calls_of b)) (sym e) ∙ in_find 0 (calls_of b) x (calls_rise b s) i)

  pub old_is : OldIs b member number
  unfolding old_of
  old_is = go (record_of (key_of member number) (calls_of b)) refl
    where
      none_some : (x : Call) → record_of (key_of member number) (calls_of b) ≡ none → In x (calls_of b) → call_key x ≡ key_of member number → ⊥
      none_some x q i e =
          let f : record_of (key_of member number) (calls_of b) ≡ some x = ap (λ (k : ℕ). record_of k (calls_of b)) (sym e) ∙ in_find 0 (calls_of b) x (calls_rise b s) i in
          let y : ◌≡◌ {A = ℕ} 0 1 = cc in
          omega arith

      go : (o : Kept Call) → record_of (key_of member number) (calls_of b) ≡ o → OldIs b member number
      go none q = has_none (sym (of_record b member number zero_number) ∙ ap old_of q) (λ x. none_some x q)
      go (some x) q =
          let f = find_in (key_of member number) (calls_of b) x q in
          has_one x (sym (of_record b member number zero_number) ∙ ap old_of q) f.0 f.1
