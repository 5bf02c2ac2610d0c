-- Lookup gives the joined book's record for the key, wherever that record lies in one of the books. Assumes nothing.
use mathlib.Core.Path.{◌≡◌, refl, sym, ◌∙◌, ap, ap₂, subst}
use mathlib.Core.Bool.{Bool, true, false, cond, not, ◌&&◌, ◌||◌}
use mathlib.Core.Logic.{◌⊎◌, inl, inr, ⊎_elim}
use mathlib.Core.List.{List, []}
use mathlib.Core.Option.{Option, none, some}
use Prim.Native.Nat.{ℕ, ◌<◌}
use native.Mathlib.Omega.{arith}
use lib.Dec.{ltb}
use lib.ListN.{take, drop}
use borrow.Author.Tests.{eqb-false}
use denote.Ref.{Bor}
use Rattle.le.specs.Le.{IsBytes}
use Rattle.call.specs.declared.Call.{Call}
use Rattle.call.specs.Key.{key_of}
use Rattle.call.specs.Revising.{call_contested}
use Rattle.call.specs.Layout.{record_size, call_bytes}
use Rattle.book.specs.declared.Verdict.{Verdict}
use Rattle.book.specs.Book.{place_of, count_at, record_at, calls_of}
use Rattle.book.proofs.Exact.{accepted_sound}
use Rattle.rule.specs.declared.Decision.{Decision}
use Rattle.rule.specs.declared.Decision.TheVariants.{First, Second, Struck}
use Rattle.rule.specs.Standing.{same_call, is_contested, is_withdrawn, decide, given, standing}
use Rattle.rule.specs.Keys.{record_of}
use Rattle.rule.specs.Joined.{joined_at}
use Rattle.rule.proofs.Joins.{join_find}
use Rattle.pair.specs.Screening.{IsAccepted, screen}
use Rattle.pair.proofs.Screening.{Screened, passed_screen, screen_passes}
use Rattle.join.specs.Joining.{joined_of, joining}
use Rattle.join.specs.Trees.{written}
use Rattle.join.proofs.Books.{has}
use Rattle.join.proofs.Copies.{record_part}
use Rattle.join.proofs.Accepted.{accepts, reads_joined}
use Rattle.std.specs.Prelude.{Option as Maybe}
use Rattle.lookup.specs.declared.Place.{Place}
use Rattle.lookup.specs.declared.Place.TheVariants.{Nowhere, InFirst, InSecond}
use Rattle.lookup.specs.Lookup.{index_of, stands_at, choose, which, LiesAt, Found}
use Rattle.lookup.proofs.Places.{Finds, missing, found, in_book, which_refused, which_chosen}

-- only two records that are not contested are struck
struck_live : (x y : Call) → decide x y ≡ Struck → (is_contested x ≡ false) × (is_contested y ≡ false)
unfolding decide
struck_live x y e =
    tests (is_withdrawn x && not (is_withdrawn y)) (not (is_withdrawn x) && is_withdrawn y) (ltb y.revision x.revision) (ltb x.revision y.revision) (same_call x y)
    (is_contested x) (is_contested y) e
  where
    tests : (t u v w s c d : Bool)
        → cond t First (cond u Second (cond v First (cond w Second (cond (s || c) First (cond d Second Struck))))) ≡ Struck → (c ≡ false) × (d ≡ false)
    tests true u v w s c d e = absurd (let z : ◌≡◌ {A = ℕ} 0 1 = cc in omega arith)
    tests false true v w s c d e = absurd (let z : ◌≡◌ {A = ℕ} 0 1 = cc in omega arith)
    tests false false true w s c d e = absurd (let z : ◌≡◌ {A = ℕ} 0 1 = cc in omega arith)
    tests false false false true s c d e = absurd (let z : ◌≡◌ {A = ℕ} 0 1 = cc in omega arith)
    tests false false false false true c d e = absurd (let z : ◌≡◌ {A = ℕ} 0 1 = cc in omega arith)
    tests false false false false false true d e = absurd (let z : ◌≡◌ {A = ℕ} 0 1 = cc in omega arith)
    tests false false false false false false true e = absurd (let z : ◌≡◌ {A = ℕ} 0 1 = cc in omega arith)
    tests false false false false false false false e = (refl, refl)

-- a struck record is neither of the two
struck_neither : (x y : Call) → decide x y ≡ Struck → (x ≡ call_contested x → ⊥) × (y ≡ call_contested x → ⊥)
struck_neither x y e =
    let l = struck_live x y e in
    (λ f. eqb-false _ _ l.0 (ap (λ (c : Call). c.state) f), λ f. eqb-false _ _ l.1 (ap (λ (c : Call). c.state) f))

-- two books that joining refuses with none of 1 to 7 and 21 to 26, and a key
module _ (a b : List ℕ) (z : (screen a b).number ≡ 0) (participant number : ℕ) where
  k : ℕ
  k = key_of participant number

  place : Place
  place = which a b participant number

  -- the ways in which the key may lie
  data Ways : Type 0 where
    nowhere : record_of k (joined_of a b) ≡ none → place ≡ Nowhere → Ways
    in_first : (i : ℕ) → i < count_at a → record_of k (calls_of a) ≡ some (record_at a i) → record_of k (joined_of a b) ≡ some (record_at a i)
        → place ≡ InFirst i → Ways
    in_second : (j : ℕ) → j < count_at b → record_of k (calls_of b) ≡ some (record_at b j) → record_of k (joined_of a b) ≡ some (record_at b j)
        → place ≡ InSecond j → Ways
    struck : (x y : Call) → record_of k (calls_of a) ≡ some x → record_of k (calls_of b) ≡ some y → decide x y ≡ Struck
        → record_of k (joined_of a b) ≡ some (call_contested x) → place ≡ Nowhere → Ways

  ways : Ways
  unfolding joined_of place k choose joined_at given stands_at standing
  ways = go (in_book a k) (in_book b k)
    where
      joined_is : {o p : Option Call} → record_of k (calls_of a) ≡ o → record_of k (calls_of b) ≡ p → record_of k (joined_of a b) ≡ joined_at o p
      joined_is e f = join_find (calls_of a) (calls_of b) k ∙ ap₂ joined_at e f

      place_is : {x y : Maybe ℕ} → index_of k a ≡ x → index_of k b ≡ y → place ≡ choose a x b y
      place_is e f = sym (which_chosen a b participant number z) ∙ ap₂ (λ (x y : Maybe ℕ). choose a x b y) e f

      both : (i j : ℕ) → i < count_at a → j < count_at b → record_of k (calls_of a) ≡ some (record_at a i) → record_of k (calls_of b) ≡ some (record_at b j)
          → (d : Decision) → decide (record_at a i) (record_at b j) ≡ d → record_of k (joined_of a b) ≡ some (given d (record_at a i) (record_at b j))
          → place ≡ stands_at d i j → Ways
      both i j h l f g First e s w = in_first i h f s w
      both i j h l f g Second e s w = in_second j l g s w
      both i j h l f g Struck e s w = struck (record_at a i) (record_at b j) f g e s w

      go : Finds a k (count_at a) (index_of k a) (calls_of a) → Finds b k (count_at b) (index_of k b) (calls_of b) → Ways
      go (missing p f) (missing q g) = nowhere (joined_is f g) (place_is p q)
      go (found i h p f) (missing q g) = in_first i h f (joined_is f g) (place_is p q)
      go (missing p f) (found j l q g) = in_second j l g (joined_is f g) (place_is p q)
      go (found i h p f) (found j l q g) = both i j h l f g (decide (record_at a i) (record_at b j)) refl (joined_is f g) (place_is p q)

-- the part of a record in an accepted book
part_of : (b : List ℕ) → IsBytes b → IsAccepted b → (i : ℕ) → i < count_at b → take record_size (drop (place_of i) b) ≡ call_bytes (record_at b i)
unfolding record_at
part_of b small e i h = let r = has b e i h in record_part b small (place_of i) r.long r.zeros

-- two lent books, and the part that was found
module _ (first second part : Bor (List ℕ)) (participant number : ℕ) (found : Found first second participant number part) where
  -- a part at a place
  at_place : (p : Place) → which first.now second.now participant number ≡ p → LiesAt p first second part
  at_place p e = subst (λ (q : Place). LiesAt q first second part) e found

  -- where joining would refuse with 1 to 7 or 21 to 26 the part is empty
  pub find_refused : ((screen first.now second.now).number ≡ 0 → ⊥) → part.now ≡ []
  find_refused z = at_place (Nowhere) (sym (which_refused first.now second.now participant number (screen first.now second.now) refl z))

  module _ (small_first : IsBytes first.now) (small_second : IsBytes second.now) (z : (screen first.now second.now).number ≡ 0) where
    both_pass : Screened first.now second.now
    both_pass = passed_screen first.now second.now z

    same_call_lem : (x c : Call) {o : Option Call} → o ≡ some x → o ≡ some c → x ≡ c
    same_call_lem x c e f = cc

    -- the record that the join has for the key, wherever it lies in one of the books, is what is found; limits 8 and 9 play no part
    pub find_stands : (c : Call) → record_of (key_of participant number) (joined_of first.now second.now) ≡ some c
        → (record_of (key_of participant number) (calls_of first.now) ≡ some c) ⊎ (record_of (key_of participant number) (calls_of second.now) ≡ some c)
        → part.now ≡ call_bytes c
    unfolding k place
    find_stands c e h = go (ways first.now second.now z participant number)
      where
        go : Ways first.now second.now z participant number → part.now ≡ call_bytes c
        go (nowhere s w) = absurd (let y : ◌≡◌ {A = ℕ} 0 1 = cc in omega arith)
        go (in_first i h f s w) = (at_place _ w).bytes ∙ part_of first.now small_first both_pass.first i h ∙ ap call_bytes (same_call_lem _ c s e)
        go (in_second j h f s w) = (at_place _ w).bytes ∙ part_of second.now small_second both_pass.second j h ∙ ap call_bytes (same_call_lem _ c s e)
        go (struck x y f g d s w) =
            let n = struck_neither x y d in
            absurd (⊎_elim (λ l. n.0 (same_call_lem _ c f l ∙ sym (same_call_lem _ c s e))) (λ l. n.1 (same_call_lem _ c g l ∙ sym (same_call_lem _ c s e))) h)

    -- nothing is found where the join has no record for the key, or one that lies in neither book
    pub find_nothing :
        ((c : Call) → record_of (key_of participant number) (joined_of first.now second.now) ≡ some c
        → (record_of (key_of participant number) (calls_of first.now) ≡ some c) ⊎ (record_of (key_of participant number) (calls_of second.now) ≡ some c) → ⊥)
        → part.now ≡ []
    unfolding k place
    find_nothing h = go (ways first.now second.now z participant number)
      where
        go : Ways first.now second.now z participant number → part.now ≡ []
        go (nowhere s w) = at_place _ w
        go (in_first i l f s w) = absurd (h _ s (inl f))
        go (in_second j l f s w) = absurd (h _ s (inr f))
        go (struck x y f g d s w) = at_place _ w

  -- where the join is accepted, its records are those of the book that it writes
  module _ (small_first : IsBytes first.now) (small_second : IsBytes second.now) (out : List ℕ) (z : (joining first.now second.now out).number ≡ 0) where
    passed : (screen first.now second.now).number ≡ 0
    passed =
        let s = (accepts first.now second.now out z).screen in
        sym (ap (λ (v : Verdict). v.number) (screen_passes first.now second.now s.first s.second s.month))

    pub find_written : (c : Call) → record_of (key_of participant number) (calls_of (written (joining first.now second.now out))) ≡ some c
        → (record_of (key_of participant number) (calls_of first.now) ≡ some c) ⊎ (record_of (key_of participant number) (calls_of second.now) ≡ some c)
        → part.now ≡ call_bytes c
    unfolding joined_of
    find_written c e h =
        let s = (accepts first.now second.now out z).screen in
        find_stands small_first small_second passed c
        (sym (ap (record_of (key_of participant number))
        (reads_joined first.now second.now out (accepted_sound first.now small_first s.first).0 (accepted_sound second.now small_second s.second).0 z))
        ∙ e) h
