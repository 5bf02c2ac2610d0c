-- Where a key's record lies. Assumes nothing.
use mathlib.Core.Path.{◌≡◌, refl, sym, ◌∙◌, ap, ap₂, subst}
use mathlib.Core.List.{List, [], ◌∷◌}
use mathlib.Core.Option.{none, some}
use Prim.Native.Nat.{ℕ, zero, suc, ◌+◌, ◌-◌, ◌<◌, ◌≤◌}
use native.Mathlib.Decide.{ℕ_discrete}
use native.Mathlib.Nat.{zero-add, sub-zero, not-suc-le-zero}
use native.Mathlib.Omega.{arith}
use lib.ListN.{length, take, drop}
use borrow.Author.Tests.{eq-eqb, ne_eqb}
use borrow.Rule.Slice.PartAt.{sl_partˢ}
use borrow.Rule.Slice.Shared.{by_byte}
use denote.Ref.{Bor}
use Rattle.std.specs.Prelude.{Option, Some, None}
use Rattle.call.specs.declared.Call.{Call}
use Rattle.call.specs.Key.{key_of, call_key}
use Rattle.call.specs.Layout.{record_size}
use Rattle.book.specs.Inner.{word_limit}
use Rattle.book.specs.declared.Verdict.{Verdict}
use Rattle.book.specs.Book.{place_of, count_at, record_at, calls_from, calls_of}
use Rattle.book.specs.Sound.{Rises}
use Rattle.book.proofs.Records.{length_calls}
use Rattle.book.proofs.Without.{call_in, in_above, in_calls}
use Rattle.rule.specs.declared.Decision.{Decision}
use Rattle.rule.specs.declared.Decision.TheVariants.{First, Second, Struck}
use Rattle.rule.specs.Standing.{decide}
use Rattle.rule.specs.Keys.{record_of}
use Rattle.rule.proofs.Keyed.{find_hit, find_miss}
use Rattle.pair.specs.Screening.{IsAccepted, screen}
use Rattle.pair.proofs.Screening.{passed_screen}
use Rattle.join.proofs.Books.{few, size, keys_rise}
use Rattle.lookup.specs.declared.Place.{Place}
use Rattle.lookup.specs.declared.Place.TheVariants.{Nowhere, InFirst, InSecond}
use Rattle.lookup.specs.Lookup.{index_from, index_of, stands_at, choose, which, Lies, LiesAt}
use Rattle.lookup.specs.Inner.{HasIndex, Parts}

-- The search of a book, from record i of n on

module _ (b : List ℕ) (k i n : ℕ) where
  -- what is left to be searched
  pub left_at : Option ℕ
  left_at = index_from k i (calls_from b i (n - i))

  pub at_hit : i < n → call_key (record_at b i) ≡ k → Some i ≡ left_at
  unfolding left_at index_from calls_from
  at_hit l e = let h : n - i ≡ suc (n - (i + 1)) = omega arith in rw (h, eq-eqb (call_key (record_at b i)) k e) refl

  pub at_end : n ≤ i → None ≡ left_at
  unfolding left_at index_from calls_from
  at_end h = let e : n - i ≡ 0 = omega arith in rw e refl

pub at_miss : (b : List ℕ) (k i n : ℕ) → i < n → (call_key (record_at b i) ≡ k → ⊥) → left_at b k (i + 1) n ≡ left_at b k i n
unfolding left_at index_from calls_from
at_miss b k i n l e =
    let h : n - i ≡ suc (n - (i + 1)) = omega arith in
    let s : i + 1 ≡ suc i = omega arith in
    rw (h, ne_eqb (call_key (record_at b i)) k e, s) refl

pub at_start : (b : List ℕ) (k n : ℕ) → n ≡ count_at b → left_at b k 0 n ≡ index_of k b
unfolding left_at index_of calls_of
at_start b k n e = rw (sub-zero n, e) refl

-- Keys rise, so that a book can be searched by halving

rises_at : (n : ℕ) (cs : List Call) (i j : ℕ) → Rises n cs → i < j → j < length cs → call_key (call_in cs i) < call_key (call_in cs j)
rises_at n [] i j r l h = absurd (not-suc-le-zero h)
rises_at n (c ∷ cs) i zero r l h = absurd (not-suc-le-zero l)
rises_at n (c ∷ cs) zero (suc j) r l h = in_above (suc (call_key c)) cs j r.1 (omega arith)
rises_at n (c ∷ cs) (suc i) (suc j) r l h = rises_at (suc (call_key c)) cs i j r.1 (omega arith) (omega arith)

key_rises : (b : List ℕ) → IsAccepted b → (i j : ℕ) → i < j → j < count_at b → call_key (record_at b i) < call_key (record_at b j)
unfolding calls_of
key_rises b e i j l h =
    let at : (m : ℕ) → m < count_at b → call_in (calls_of b) m ≡ record_at b m = λ m g. in_calls b 0 (count_at b) m g ∙ ap (record_at b) (zero-add m) in
    let r = rises_at 0 (calls_of b) i j (keys_rise b e) l (omega (arith, length_calls b (count_at b) 0)) in
    rw (at i (omega arith), at j h) at r

module _ (b : List ℕ) (e : IsAccepted b) (k low high middle : ℕ) (p : Parts b k low high) (from : low ≤ middle) (to : middle < high) where
  inside : middle < count_at b
  inside = let h = p.ordered.1 in omega arith

  -- the record in the middle is lower, and so are those before it; or it is not, and nor are those behind it
  pub goes_up : call_key (record_at b middle) < k → Parts b k (middle + 1) high
  goes_up l = record { ordered = (omega arith, p.ordered.1); below = below; above = p.above }
    where
      below : (i : ℕ) → i < middle + 1 → call_key (record_at b i) < k
      below i h = go (ℕ_discrete i middle)
        where
          go : Dec (i ≡ middle) → call_key (record_at b i) < k
          go (yes q) = rw q l
          go (no q) = let r = key_rises b e i middle (omega arith) inside in omega arith

  pub goes_down : (call_key (record_at b middle) < k → ⊥) → Parts b k low middle
  goes_down n = record { ordered = (from, omega (arith, inside)); below = p.below; above = above }
    where
      above : (i : ℕ) → middle ≤ i → i < count_at b → k ≤ call_key (record_at b i)
      above i h l = go (ℕ_discrete i middle)
        where
          go : Dec (i ≡ middle) → k ≤ call_key (record_at b i)
          go (yes q) = rw q (omega arith)
          go (no q) = let r = key_rises b e middle i (omega arith) l in omega arith

-- records with other keys are passed over: those before a place,
skips : (b : List ℕ) (k n i : ℕ) → i ≤ n → ((j : ℕ) → j < i → call_key (record_at b j) < k) → left_at b k i n ≡ left_at b k 0 n
skips b k n zero l f = refl
skips b k n (suc i) l f =
    let lower = f i (omega arith) in
    let s : suc i ≡ i + 1 = omega arith in
    ap (λ (j : ℕ). left_at b k j n) s ∙ at_miss b k i n (omega arith) (λ e. omega arith) ∙ skips b k n i (omega arith) (λ j h. f j (omega arith))

-- and those from a place on
none_left : (b : List ℕ) (k n left i : ℕ) → i + left ≡ n → ((j : ℕ) → i ≤ j → j < n → k < call_key (record_at b j)) → None ≡ left_at b k i n
none_left b k n zero i e f = at_end b k i n (omega arith)
none_left b k n (suc left) i e f =
    let higher = f i (omega arith) (omega arith) in
    none_left b k n left (i + 1) (omega arith) (λ j h l. f j (omega arith) l) ∙ at_miss b k i n (omega arith) (λ q. omega arith)

module _ (b : List ℕ) (e : IsAccepted b) (k i : ℕ) (p : Parts b k i i) where
  from_lowest : left_at b k i (count_at b) ≡ index_of k b
  from_lowest = skips b k (count_at b) i p.ordered.1 p.below ∙ at_start b k (count_at b) refl

  -- the record behind the lower ones has the key, or none has
  pub lowest_hit : i < count_at b → call_key (record_at b i) ≡ k → Some i ≡ index_of k b
  lowest_hit l h = at_hit b k i (count_at b) l h ∙ from_lowest

  pub lowest_other : i < count_at b → (call_key (record_at b i) ≡ k → ⊥) → None ≡ index_of k b
  lowest_other l n = none_left b k (count_at b) (count_at b - i) i (omega arith) above ∙ from_lowest
    where
      own : k < call_key (record_at b i)
      own = let h = p.above i (omega arith) l in omega arith

      above : (j : ℕ) → i ≤ j → j < count_at b → k < call_key (record_at b j)
      above j h l' = go (ℕ_discrete i j)
        where
          go : Dec (i ≡ j) → k < call_key (record_at b j)
          go (yes q) = rw (sym q) own
          go (no q) = let r = key_rises b e i j (omega arith) l' in omega (arith, own)

  pub lowest_end : count_at b ≤ i → None ≡ index_of k b
  lowest_end h = at_end b k i (count_at b) h ∙ from_lowest

-- What is found: nothing, or a record of the book, as the calls have it for the key

pub data Finds (b : List ℕ) (k most : ℕ) (x : Option ℕ) (cs : List Call) : Type 0 where
  missing : x ≡ None → record_of k cs ≡ none → Finds b k most x cs
  found : (i : ℕ) → i < most → x ≡ Some i → record_of k cs ≡ some (record_at b i) → Finds b k most x cs

finds : (b : List ℕ) (k n i : ℕ) → Finds b k (i + n) (index_from k i (calls_from b i n)) (calls_from b i n)
unfolding index_from calls_from record_of
finds b k zero i = missing refl refl
finds b k (suc n) i = go (ℕ_discrete (call_key (record_at b i)) k) (finds b k n (suc i))
  where
    tail : List Call
    tail = calls_from b (suc i) n

    next : (call_key (record_at b i) ≡ k → ⊥) → index_from k i (record_at b i ∷ tail) ≡ index_from k (suc i) tail
    next e = rw (ne_eqb (call_key (record_at b i)) k e) refl

    go : Dec (call_key (record_at b i) ≡ k) → Finds b k (suc i + n) (index_from k (suc i) tail) tail
        → Finds b k (i + suc n) (index_from k i (record_at b i ∷ tail)) (record_at b i ∷ tail)
    go (yes e) ih = found i (omega arith) (rw (eq-eqb (call_key (record_at b i)) k e) refl) (find_hit k (record_at b i) tail e)
    go (no e) (missing p q) = missing (next e ∙ p) (find_miss k (record_at b i) tail e ∙ q)
    go (no e) (found j l p q) = found j (omega arith) (next e ∙ p) (find_miss k (record_at b i) tail e ∙ q)

pub in_book : (b : List ℕ) (k : ℕ) → Finds b k (count_at b) (index_of k b) (calls_of b)
unfolding index_of calls_of
in_book b k = rw (zero-add (count_at b)) at (finds b k (count_at b) 0)

pub has_index : (b : List ℕ) (k : ℕ) → HasIndex b (index_of k b)
has_index b k = go (in_book b k)
  where
    go : Finds b k (count_at b) (index_of k b) (calls_of b) → HasIndex b (index_of k b)
    go (missing p q) = rw p tt
    go (found i l p q) = rw p l

-- The place of a lookup is that of a record

abbrev InBooks : List ℕ → List ℕ → Place → Type 0
InBooks a b Nowhere = Unit {0}
InBooks a b (InFirst i) = IsAccepted a × (i < count_at a)
InBooks a b (InSecond j) = IsAccepted b × (j < count_at b)

module _ (a b : List ℕ) where
  stands : IsAccepted a → IsAccepted b → (i j : ℕ) → i < count_at a → j < count_at b → (d : Decision) → InBooks a b (stands_at d i j)
  unfolding stands_at
  stands p q i j h l First = (p, h)
  stands p q i j h l Second = (q, l)
  stands p q i j h l Struck = tt

  chosen : IsAccepted a → IsAccepted b → (x y : Option ℕ) → HasIndex a x → HasIndex b y → InBooks a b (choose a x b y)
  unfolding choose
  chosen p q None None h l = tt
  chosen p q (Some i) None h l = (p, h)
  chosen p q None (Some j) h l = (q, l)
  chosen p q (Some i) (Some j) h l = stands p q i j h l (decide (record_at a i) (record_at b j))

  module _ (p k : ℕ) where
    pub which_refused : (v : Verdict) → v ≡ screen a b → (v.number ≡ 0 → ⊥) → Nowhere ≡ which a b p k
    unfolding which
    which_refused v e z = rw (← e, ne_eqb v.number 0 z) refl

    pub which_chosen : (screen a b).number ≡ 0 → choose a (index_of (key_of p k) a) b (index_of (key_of p k) b) ≡ which a b p k
    unfolding which
    which_chosen z = rw (eq-eqb (screen a b).number 0 z) refl

    which_in : InBooks a b (which a b p k)
    which_in = go (ℕ_discrete (screen a b).number 0)
      where
        go : Dec ((screen a b).number ≡ 0) → InBooks a b (which a b p k)
        go (no z) = subst (InBooks a b) (which_refused (screen a b) refl z) tt
        go (yes z) =
            let s = passed_screen a b z in
            subst (InBooks a b) (which_chosen z) (chosen s.first s.second _ _ (has_index a (key_of p k)) (has_index b (key_of p k)))

-- a place so low is a number of 64 bits
pub in_word : (i : ℕ) → i ≤ 65535 → place_of i < word_limit
in_word i h = omega arith

-- its index has a place, and the record's bytes lie within the book
pub fits : (b : List ℕ) (i : ℕ) → IsAccepted b → i < count_at b → (i ≤ 65535) × (place_of i + record_size ≤ length b)
fits b i e h = (omega (arith, few b e), omega (arith, size b e))

module _ (a b : List ℕ) (p k : ℕ) (w : Place) (e : w ≡ which a b p k) where
  pub first_fits : (i : ℕ) → w ≡ InFirst i → (i ≤ 65535) × (place_of i + record_size ≤ length a)
  first_fits i h = let r = subst (InBooks a b) (sym e ∙ h) (which_in a b p k) in fits a i r.0 r.1

  pub second_fits : (j : ℕ) → w ≡ InSecond j → (j ≤ 65535) × (place_of j + record_size ≤ length b)
  second_fits j h = let r = subst (InBooks a b) (sym e ∙ h) (which_in a b p k) in fits b j r.0 r.1

-- the part that is cut lies where it should
pub lies : (s : Bor (List ℕ)) (at n : ℕ) → at ≡ n → Lies s n record_size (sl_partˢ s (by_byte at s.ref_ptr.1) at (at + record_size))
lies s at n a =
    let e : at + record_size - at ≡ record_size = omega arith in
    record { bytes = ap₂ (λ (k m : ℕ). take k (drop m s.now)) e a; block = refl; offset = omega arith }

pub found_at : (s t r : Bor (List ℕ)) (w p q : Place) → w ≡ p → w ≡ q → LiesAt q s t r → LiesAt p s t r
found_at s t r w p q e h l = subst (λ (x : Place). LiesAt x s t r) (sym h ∙ e) l
