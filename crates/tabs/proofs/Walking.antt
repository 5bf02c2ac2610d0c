-- A book read member by member. Assumes nothing.
use mathlib.Core.Path.{◌≡◌, refl, sym, ◌∙◌, ap}
use mathlib.Core.Bool.{Bool, true, false, cond, ◌&&◌}
use mathlib.Core.Logic.{◌⊎◌, inl, inr}
use mathlib.Core.List.{List, [], ◌∷◌, ◌++◌, append_assoc}
use Prim.Native.Nat.{ℕ, zero, suc, ◌+◌, ◌*◌, ◌-◌, ◌/◌, ◌<◌, ◌≤◌}
use native.Mathlib.Nat.{zero-add}
use native.Mathlib.Omega.{arith}
use native.Mathlib.Decide.{ℕ_discrete}
use lib.Dec.{eqb, ltb}
use lib.ListN.{length, drop, length-append}
use lib.Seq.{drop-append_seam}
use borrow.Author.Tests.{eq-eqb, ne_eqb, lt-ltb, le-ltb, ltb-true, ltb-false, eqb-true, eqb-false}
use Rattle.le.specs.Le.{IsBytes}
use Rattle.le.proofs.Tests.{each}
use Rattle.call.specs.declared.Call.{Call}
use Rattle.call.specs.Revising.{live, contested, withdrawn}
use Rattle.call.specs.Service.{CallWithin, Stated, is_live, is_contested_lem, is_withdrawn_lem}
use Rattle.call.specs.Layout.{call_at}
use Rattle.book.specs.Book.{most_keys, header_at, count_at, calls_of}
use Rattle.book.specs.Check.{header_minutes}
use Rattle.book.specs.Sound.{CallsWithin, Rises}
use Rattle.book.proofs.Exact.{accepted_sound}
use Rattle.book.proofs.Records.{length_calls}
use Rattle.pair.specs.Screening.{IsAccepted}
use Rattle.join.specs.Steps.{ReadTo, left_from}
use Rattle.join.proofs.Books.{few, size}
use Rattle.join.proofs.Taken.{all_left, from_start, ends, length_from, goes_on_lem, next_left}
use Rattle.tabs.specs.declared.walk.Tally.{Tally}
use Rattle.tabs.specs.Tabs.{first_index, own_of, of_state, tabs_of}
use Rattle.tabs.specs.Inner.{Ordered, Under, Coming, UpTo, is_of, tallied, tally_more, Roomy, index_for}
use Rattle.tabs.proofs.Members.{own_hit, own_miss, own_none, first_hit, first_miss, first_none, ordered, lead, empty, own_within, states_all}
use Rattle.tabs.proofs.Pages.{tab_path}
use Rattle.tabs.proofs.Tallies.{tally, tally_cons, one_own, tally_most}

-- The next record

module _ (b : List ℕ) (at m : ℕ) where
  pub next_there : (p : ℕ) → at < length b → p ≡ (call_at b at).participant → eqb p m ≡ is_of b at m
  unfolding is_of
  next_there p h e = rw (lt-ltb at (length b) h, e) refl

  pub next_over : length b ≤ at → false ≡ is_of b at m
  unfolding is_of
  next_over h = rw (le-ltb at (length b) h) refl

  pub is_next : is_of b at m ≡ true → (at < length b) × ((call_at b at).participant ≡ m)
  unfolding is_of
  is_next e =
      let t = each (ltb at (length b)) (eqb (call_at b at).participant m ∷ []) e in
      (ltb-true _ _ t.0, eqb-true _ _ t.1.0)

  pub not_next : is_of b at m ≡ false → (length b ≤ at) ⊎ ((at < length b) × ((call_at b at).participant ≡ m → ⊥))
  unfolding is_of
  not_next e = go (ltb at (length b)) refl e
    where
      go : (x : Bool) → ltb at (length b) ≡ x → (x && eqb (call_at b at).participant m) ≡ false
          → (length b ≤ at) ⊎ ((at < length b) × ((call_at b at).participant ≡ m → ⊥))
      go true p q = inr (ltb-true _ _ p, eqb-false _ _ q)
      go false p q = inl (ltb-false _ _ p)

module _ {b : List ℕ} {m at : ℕ} (g : Coming b m at) where
  -- a member's calls are at most 2,000
  pub few_left : length (left_from b at) ≤ most_keys
  few_left =
      let p = g.read.place in
      omega (arith, length_from g.read, size b g.read.accepted, few b g.read.accepted)

  module _ (h : at < length b) where
    next_within : CallWithin (header_minutes (header_at b)) (call_at b at) × CallsWithin (header_minutes (header_at b)) (left_from b (at + 32))
    next_within = rw (next_left g.read h) at g.within

    next_from : (m ≤ (call_at b at).participant) × Ordered (call_at b at).participant (left_from b (at + 32))
    next_from = rw (next_left g.read h) at g.from

    pub next_state : (call_at b at).state ≤ 2
    next_state = go next_within.0.content
      where
        go : Stated (header_minutes (header_at b)) (call_at b at) → (call_at b at).state ≤ 2
        go (is_live s x y) = omega arith
        go (is_contested_lem s x) = omega arith
        go (is_withdrawn_lem s x) = omega arith

    pub comes_next : (call_at b at).participant ≡ m → Coming b m (at + 32)
    comes_next e = record { read = goes_on_lem g.read h; within = next_within.1; from = rw e at next_from.1 }

    tally_next : (s : ℕ) → (call_at b at).participant ≡ m → tally m s (left_from b at) ≡ cond (eqb (call_at b at).state s) 1 0 + tally m s (left_from b (at + 32))
    tally_next s e =
        ap (tally m s) (next_left g.read h) ∙ tally_cons m s (call_at b at) (left_from b (at + 32))
        ∙ ap (λ (k : ℕ). k + tally m s (left_from b (at + 32))) (one_own m s (call_at b at) e)

  -- behind the member's calls
  none_next : is_of b at m ≡ false → own_of m (left_from b at) ≡ []
  unfolding own_of
  none_next e = go (not_next b at m e)
    where
      go : (length b ≤ at) ⊎ ((at < length b) × ((call_at b at).participant ≡ m → ⊥)) → own_of m (left_from b at) ≡ []
      go (inl h) = ap (own_of m) (ends g.read h)
      go (inr h) =
          let f = next_from h.0 in
          let n = h.1 in
          let above : m < (call_at b at).participant = rises (call_at b at).participant f.0 n in
          ap (own_of m) (next_left g.read h.0) ∙ own_none m (suc m) (call_at b at ∷ left_from b (at + 32)) (omega arith) (above, f.1)
        where
          rises : (p : ℕ) → m ≤ p → (p ≡ m → ⊥) → m < p
          rises p l k = omega arith

-- one call more, by its state
pub third : (s : ℕ) → s ≤ 2 → (s ≡ live → ⊥) → (s ≡ contested → ⊥) → s ≡ withdrawn
third s h l c = omega arith

module _ (t : Tally) (s : ℕ) where
  pub more_live : s ≡ live → record { live = t.live + 1; contested = t.contested; withdrawn = t.withdrawn } ≡ tally_more t s
  more_live e =
      let l : t.live + 1 ≡ t.live + cond (eqb s live) 1 0 = rw (eq-eqb s live e) refl in
      let c : t.contested ≡ t.contested + cond (eqb s contested) 1 0 = rw (ne_eqb s contested (λ f. omega arith)) (omega arith) in
      let w : t.withdrawn ≡ t.withdrawn + cond (eqb s withdrawn) 1 0 = rw (ne_eqb s withdrawn (λ f. omega arith)) (omega arith) in
      λ i. record { live = l i; contested = c i; withdrawn = w i }

  pub more_contested : s ≡ contested → record { live = t.live; contested = t.contested + 1; withdrawn = t.withdrawn } ≡ tally_more t s
  more_contested e =
      let l : t.live ≡ t.live + cond (eqb s live) 1 0 = rw (ne_eqb s live (λ f. omega arith)) (omega arith) in
      let c : t.contested + 1 ≡ t.contested + cond (eqb s contested) 1 0 = rw (eq-eqb s contested e) refl in
      let w : t.withdrawn ≡ t.withdrawn + cond (eqb s withdrawn) 1 0 = rw (ne_eqb s withdrawn (λ f. omega arith)) (omega arith) in
      λ i. record { live = l i; contested = c i; withdrawn = w i }

  pub more_withdrawn : s ≡ withdrawn → record { live = t.live; contested = t.contested; withdrawn = t.withdrawn + 1 } ≡ tally_more t s
  more_withdrawn e =
      let l : t.live ≡ t.live + cond (eqb s live) 1 0 = rw (ne_eqb s live (λ f. omega arith)) (omega arith) in
      let c : t.contested ≡ t.contested + cond (eqb s contested) 1 0 = rw (ne_eqb s contested (λ f. omega arith)) (omega arith) in
      let w : t.withdrawn + 1 ≡ t.withdrawn + cond (eqb s withdrawn) 1 0 = rw (eq-eqb s withdrawn e) refl in
      λ i. record { live = l i; contested = c i; withdrawn = w i }

-- So far: what is counted, and what is left of the member's calls
pub record Tallying (b : List ℕ) (m at : ℕ) (t : Tally) (a : ℕ) : Type 0 where
  pub coming : Coming b m a
  pub further : at ≤ a
  pub live : t.live + tally m live (left_from b a) ≡ tally m live (left_from b at)
  pub contested : t.contested + tally m contested (left_from b a) ≡ tally m contested (left_from b at)
  pub withdrawn : t.withdrawn + tally m withdrawn (left_from b a) ≡ tally m withdrawn (left_from b at)

pub none_tallied : {b : List ℕ} {m at : ℕ} → Coming b m at → Tallying b m at (record { live = 0; contested = 0; withdrawn = 0 }) at
none_tallied g = record { coming = g; further = omega arith; live = zero-add _; contested = zero-add _; withdrawn = zero-add _ }

module _ {b : List ℕ} {m at : ℕ} {t : Tally} {a : ℕ} (f : length (left_from b at) ≤ most_keys) (g : Tallying b m at t a) where
  pub roomy : Roomy t
  roomy =
      record {
        live = omega (arith, g.live, tally_most m live (left_from b at));
        contested = omega (arith, g.contested, tally_most m contested (left_from b at));
        withdrawn = omega (arith, g.withdrawn, tally_most m withdrawn (left_from b at));
      }

  pub tallied_next : is_of b a m ≡ true → Tallying b m at (tally_more t (call_at b a).state) (a + 32)
  tallied_next e =
      let n = is_next b a m e in
      let k = g.further in
      record {
        coming = comes_next g.coming n.0 n.1;
        further = omega arith;
        live = omega (arith, g.live, tally_next g.coming n.0 live n.1);
        contested = omega (arith, g.contested, tally_next g.coming n.0 contested n.1);
        withdrawn = omega (arith, g.withdrawn, tally_next g.coming n.0 withdrawn n.1);
      }

  pub all_tallied : is_of b a m ≡ false → t ≡ tallied (own_of m (left_from b at))
  unfolding tally of_state
  all_tallied e =
      let z = none_next g.coming e in
      let l : t.live ≡ of_state live (own_of m (left_from b at)) = omega (arith, g.live, ap (of_state live) z) in
      let c : t.contested ≡ of_state contested (own_of m (left_from b at)) = omega (arith, g.contested, ap (of_state contested) z) in
      let w : t.withdrawn ≡ of_state withdrawn (own_of m (left_from b at)) = omega (arith, g.withdrawn, ap (of_state withdrawn) z) in
      λ i. record { live = l i; contested = c i; withdrawn = w i }

-- A book read up to a member

within_behind : (n : ℕ) (xs ys : List Call) → CallsWithin n (xs ++ ys) → CallsWithin n ys
within_behind n [] ys w = w
within_behind n (x ∷ xs) ys w = within_behind n xs ys w.1

own_behind : (m : ℕ) (xs ys : List Call) → Under m xs → own_of m (xs ++ ys) ≡ own_of m ys
own_behind m [] ys u = refl
own_behind m (x ∷ xs) ys u = let h = u.0 in own_miss m x (xs ++ ys) (λ e. omega arith) ∙ own_behind m xs ys u.1

first_behind : (m : ℕ) (xs ys : List Call) → Under m xs → first_index m (xs ++ ys) ≡ length xs + first_index m ys
first_behind m [] ys u = sym (zero-add (first_index m ys))
first_behind m (x ∷ xs) ys u =
    let h = u.0 in
    let r = first_behind m xs ys u.1 in
    first_miss m x (xs ++ ys) (λ e. omega arith) ∙ omega arith

pub own_short : (m : ℕ) (cs : List Call) → length (own_of m cs) ≤ length cs
unfolding own_of
own_short m [] = omega arith
own_short m (c ∷ cs) = go (own_short m cs) (ℕ_discrete c.participant m)
  where
    go : length (own_of m cs) ≤ length cs → Dec (c.participant ≡ m) → length (own_of m (c ∷ cs)) ≤ suc (length cs)
    go ih (yes e) = omega (arith, ap length (own_hit m c cs e))
    go ih (no e) = omega (arith, ap length (own_miss m c cs e))

under_more : (m : ℕ) (xs ys : List Call) → Under m xs → Under (suc m) (xs ++ own_of m ys)
unfolding own_of
under_more m [] [] u = tt
under_more m [] (y ∷ ys) u = go (under_more m [] ys u) (ℕ_discrete y.participant m)
  where
    go : Under (suc m) (own_of m ys) → Dec (y.participant ≡ m) → Under (suc m) (own_of m (y ∷ ys))
    go ih (yes e) = rw (own_hit m y ys e) (omega arith, ih)
    go ih (no e) = rw (own_miss m y ys e) ih
under_more m (x ∷ xs) ys u = let h = u.0 in (omega arith, under_more m xs ys u.1)

-- where the member has a call, it comes first
first_lead : (m : ℕ) (cs : List Call) → Ordered m cs → 1 ≤ length (own_of m cs) → first_index m cs ≡ 0
unfolding first_index own_of
first_lead m [] o h = refl
first_lead m (c ∷ cs) o h = go (ℕ_discrete c.participant m)
  where
    go : Dec (c.participant ≡ m) → first_index m (c ∷ cs) ≡ 0
    go (yes e) = first_hit m c cs e
    go (no e) =
        let g = o.0 in
        let a : Ordered (suc m) (c ∷ cs) = (omega arith, o.1) in
        absurd (omega (arith, ap length (own_none m (suc m) (c ∷ cs) (omega arith) a)))

-- so many records further
pub skip : {b : List ℕ} (at k : ℕ) → ReadTo b at → k ≤ length (left_from b at) → ReadTo b (at + 32 * k) × (left_from b (at + 32 * k) ≡ drop k (left_from b at))
skip {b} at zero r h = let e : at ≡ at + 32 * 0 = omega arith in (rw (sym e) r, ap (left_from b) (sym e))
skip {b} at (suc k) r h =
    let in_book : at < length b = omega (arith, length_from r) in
    let n = next_left r in_book in
    let l : length (left_from b at) ≡ suc (length (left_from b (at + 32))) = ap length n in
    let t = skip (at + 32) k (goes_on_lem r in_book) (omega arith) in
    let e : at + 32 + 32 * k ≡ at + 32 * suc k = omega arith in
    (rw e at t.0, ap (left_from b) (sym e) ∙ t.1 ∙ ap (drop (suc k)) (sym n))

pub for_none : (n first all : ℕ) → n ≡ 0 → index_for n first all ≡ all
unfolding index_for
for_none n first all e = simp (eq-eqb n 0 e)

pub for_some : (n first all : ℕ) → (n ≡ 0 → ⊥) → index_for n first all ≡ first
unfolding index_for
for_some n first all e = simp (ne_eqb n 0 e)

calls_count : (b : List ℕ) → length (calls_of b) ≡ count_at b
unfolding calls_of
calls_count b = length_calls b (count_at b) 0

pub starts : (b : List ℕ) → IsBytes b → IsAccepted b → UpTo b 1 16
starts b small p =
    let s = accepted_sound b small p in
    let w : CallsWithin (header_minutes (header_at b)) (calls_of b) = rw (s.2, s.3) at s.0.within in
    let r : Rises 0 (calls_of b) = rw s.3 at s.0.rising in
    let e = all_left b in
    record {
      coming = record { read = from_start b p; within = rw e at w; from = rw e at (ordered (header_minutes (header_at b)) (calls_of b) w r) };
      before = [];
      is = e;
      under = tt;
    }

module _ {b : List ℕ} {m at : ℕ} (g : UpTo b m at) where
  pub own_is : own_of m (calls_of b) ≡ own_of m (left_from b at)
  own_is = ap (own_of m) g.is ∙ own_behind m g.before (left_from b at) g.under

  -- the member's tab from its calls by their states
  count_is : (t : Tally) → t ≡ tallied (own_of m (left_from b at)) → t.live + t.contested + t.withdrawn ≡ length (own_of m (calls_of b))
  count_is t e =
      ap (λ (u : Tally). u.live + u.contested + u.withdrawn) e
      ∙ states_all (header_minutes (header_at b)) (own_of m (left_from b at)) (own_within (header_minutes (header_at b)) m (left_from b at) g.coming.within)
      ∙ ap length (sym own_is)

  pub count_few : (t : Tally) → t ≡ tallied (own_of m (left_from b at)) → t.live + t.contested + t.withdrawn ≤ most_keys
  count_few t e = omega (arith, count_is t e, ap length own_is, own_short m (left_from b at), few_left g.coming)

  index_none : length (own_of m (calls_of b)) ≡ 0 → first_index m (calls_of b) ≡ count_at b
  index_none z = first_none m (calls_of b) (empty (own_of m (calls_of b)) z) ∙ calls_count b

  index_some : 1 ≤ length (own_of m (calls_of b)) → first_index m (calls_of b) ≡ (at - 16) / 32
  index_some h =
      let f = first_lead m (left_from b at) g.coming.from (omega (arith, ap length own_is)) in
      let i = first_behind m g.before (left_from b at) g.under in
      let j : first_index m (calls_of b) ≡ first_index m (g.before ++ left_from b at) = ap (first_index m) g.is in
      let n = ap length g.is ∙ length-append g.before (left_from b at) in
      let w = length_from g.coming.read in
      let l = size b g.coming.read.accepted in
      omega (arith, calls_count b)

  -- the member's tab: a member that has no call has the book's count for its index
  pub tab_is : (t : Tally) → t ≡ tallied (own_of m (left_from b at)) → (n i : ℕ) → n ≡ t.live + t.contested + t.withdrawn
      → i ≡ index_for n ((at - 16) / 32) (count_at b)
      → record { index = i; count = n; live = t.live; contested = t.contested; withdrawn = t.withdrawn } ≡ tabs_of (calls_of b) m
  unfolding tabs_of
  tab_is t e n i c o =
      tab_path (o ∙ index (ℕ_discrete n 0)) (c ∙ count_is t e)
      (ap (λ (u : Tally). u.live) e ∙ ap (of_state live) (sym own_is))
      (ap (λ (u : Tally). u.contested) e ∙ ap (of_state contested) (sym own_is))
      (ap (λ (u : Tally). u.withdrawn) e ∙ ap (of_state withdrawn) (sym own_is))
    where
      nonzero : (n : ℕ) {k : ℕ} → (n ≡ 0 → ⊥) → n ≡ k → 1 ≤ k
      nonzero n h e = omega arith

      index : Dec (n ≡ 0) → index_for n ((at - 16) / 32) (count_at b) ≡ first_index m (calls_of b)
      index (yes z) = for_none n _ _ z ∙ sym (index_none (sym (c ∙ count_is t e) ∙ z))
      index (no z) = for_some n _ _ z ∙ sym (index_some (nonzero n z (c ∙ count_is t e)))

  -- behind the member's calls
  pub next_member : UpTo b (suc m) (at + 32 * (tabs_of (calls_of b) m).count)
  unfolding tabs_of
  next_member =
      let k = lead m (left_from b at) g.coming.from in
      let own = own_of m (left_from b at) in
      let n : length (own_of m (calls_of b)) ≡ length own = ap length own_is in
      let l : length (left_from b at) ≡ length own + length k.after = ap length k.is ∙ length-append own k.after in
      let s = skip at (length own) g.coming.read (omega arith) in
      let e : left_from b (at + 32 * length own) ≡ k.after = s.1 ∙ ap (drop (length own)) k.is ∙ drop-append_seam own k.after in
      rw n
      (record {
        coming =
            record {
              read = s.0;
              within = rw e (within_behind (header_minutes (header_at b)) own k.after (rw k.is at g.coming.within));
              from = rw e k.above;
            };
        before = g.before ++ own;
        is =
            g.is ∙ ap (λ (cs : List Call). g.before ++ cs) k.is ∙ sym (append_assoc g.before own k.after)
            ∙ ap (λ (cs : List Call). (g.before ++ own) ++ cs) (sym e);
        under = under_more m g.before (left_from b at) g.under;
      })
