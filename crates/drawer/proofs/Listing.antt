-- A record's turn in the list of what does not stand. Assumes nothing.
use mathlib.Core.Path.{◌≡◌, refl, sym, ◌∙◌, ap, subst}
use mathlib.Core.Bool.{Bool, true, false, not}
use mathlib.Core.List.{List}
use mathlib.Core.Option.{none, some}
use Prim.Native.Nat.{ℕ, ◌<◌}
use borrow.Author.Tests.{ne_eqb, eq-eqb}
use Rattle.call.specs.declared.Call.{Call}
use Rattle.call.specs.Key.{call_key}
use Rattle.book.specs.declared.Verdict.{Verdict}
use Rattle.book.specs.Book.{count_at, record_at, calls_of}
use Rattle.rule.specs.Standing.{same_call}
use Rattle.rule.specs.Keys.{record_of}
use Rattle.pair.specs.Screening.{screen}
use Rattle.std.specs.Prelude.{Option, Some, None}
use Rattle.lookup.specs.Lookup.{index_of}
use Rattle.lookup.specs.Inner.{HasIndex}
use Rattle.lookup.proofs.Places.{Finds, missing, found, in_book, has_index}
use Rattle.drawer.specs.declared.stale.Why.{Why}
use Rattle.drawer.specs.declared.stale.Why.TheVariants.{Other}
use Rattle.drawer.specs.declared.stale.StaleRecord.{StaleRecord}
use Rattle.drawer.specs.declared.stale.NextStale.TheVariants.{BadBooks}
use Rattle.drawer.specs.Stale.{is_this, is_stale, why_not, why_of, is_stale_at, stale_at, stale_of, first_stale, next_stale}
use Rattle.drawer.specs.Inner.{turn_of}

-- the index that a search finds is that of a record
pub index_in : (b : List ℕ) (k : ℕ) (r : Option ℕ) → r ≡ index_of k b → (j : ℕ) → r ≡ Some j → j < count_at b
index_in b k r e j f = subst (HasIndex b) (sym e ∙ f) (has_index b k)

-- what the calls have for a key, by the index that is found
pub none_of : (b : List ℕ) (k : ℕ) → index_of k b ≡ None → record_of k (calls_of b) ≡ none
none_of b k e = go (in_book b k)
  where
    go : Finds b k (count_at b) (index_of k b) (calls_of b) → record_of k (calls_of b) ≡ none
    go (missing p q) = q
    go (found j l p q) = absurd cc

pub some_of : (b : List ℕ) (k j : ℕ) → index_of k b ≡ Some j → record_of k (calls_of b) ≡ some (record_at b j)
some_of b k j e = go (in_book b k)
  where
    go : Finds b k (count_at b) (index_of k b) (calls_of b) → record_of k (calls_of b) ≡ some (record_at b j)
    go (missing p q) = absurd cc
    go (found i l p q) = let h : i ≡ j = cc in q ∙ ap (λ (n : ℕ). some (record_at b n)) h

-- Record i's turn, by the index r of the record that stands
module _ (book joined : List ℕ) (i : ℕ) (x : Call) (is : x ≡ record_at book i) (k : ℕ) (key : k ≡ call_key x) (r : Option ℕ) (at : r ≡ index_of k joined) where
  its : r ≡ index_of (call_key (record_at book i)) joined
  its = at ∙ ap (λ (n : ℕ). index_of n joined) (key ∙ ap call_key is)

  pub turn_missing : r ≡ None → (true ≡ is_stale_at book joined i) × (◌≡◌ {A = StaleRecord} (record { place = i; stands = r; why = Other }) (stale_at book joined i))
  unfolding is_stale_at is_stale is_this stale_at why_of
  turn_missing e = let f = none_of joined (call_key (record_at book i)) (sym its ∙ e) in (rw f refl, rw (f, ← its) refl)

  pub turn_found : (j : ℕ) → r ≡ Some j → (y : Call) → y ≡ record_at joined j → (same : Bool) → same ≡ same_call y x → (why : Why) → why ≡ why_not y x
      → (not same ≡ is_stale_at book joined i) × (◌≡◌ {A = StaleRecord} (record { place = i; stands = Some j; why = why }) (stale_at book joined i))
  unfolding is_stale_at is_stale is_this stale_at why_of
  turn_found j e y d same s why w =
      let g = sym its ∙ e in
      let f = some_of joined (call_key (record_at book i)) j g in
      (rw (f, s, d, is) refl, rw (f, g, w, d, is) refl)

-- What is told of a record's turn: what is listed, or nothing
module _ (book joined : List ℕ) (i : ℕ) where
  pub turn_listed : (x : StaleRecord) → true ≡ is_stale_at book joined i → x ≡ stale_at book joined i → Some x ≡ turn_of book joined i
  turn_listed x t e = rw (← t) (ap Some e)

  pub turn_passed : false ≡ is_stale_at book joined i → None ≡ turn_of book joined i
  turn_passed t = rw (← t) refl

  pub turn_some : (x : StaleRecord) → turn_of book joined i ≡ Some x → (is_stale_at book joined i ≡ true) × (x ≡ stale_at book joined i)
  turn_some x e = go (is_stale_at book joined i) refl
    where
      go : (t : Bool) → is_stale_at book joined i ≡ t → (is_stale_at book joined i ≡ true) × (x ≡ stale_at book joined i)
      go true f = (f, let g = rw f at e in cc)
      go false f = absurd (let g = rw f at e in cc)

  pub turn_none : turn_of book joined i ≡ None → is_stale_at book joined i ≡ false
  turn_none e = go (is_stale_at book joined i) refl
    where
      go : (t : Bool) → is_stale_at book joined i ≡ t → is_stale_at book joined i ≡ false
      go true f = absurd (let g = rw f at e in cc)
      go false f = f

-- The refusal of two books
module _ (book joined : List ℕ) (i : ℕ) where
  pub next_refused_lem : (v : Verdict) → v ≡ screen book joined → (v.number ≡ 0 → ⊥) → BadBooks v.number v.place ≡ next_stale book joined i
  unfolding next_stale
  next_refused_lem v e z = rw (← e, ne_eqb v.number 0 z) refl

  pub next_of : (screen book joined).number ≡ 0 → first_stale (stale_of book joined i) ≡ next_stale book joined i
  unfolding next_stale
  next_of z = rw (eq-eqb (screen book joined).number 0 z) refl
