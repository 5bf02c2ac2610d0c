-- A member's calls from a place on: how many they are by the last of them alone, and by their states. Assumes nothing.
use mathlib.Core.Path.{◌≡◌, refl, sym, ◌∙◌, ap}
use mathlib.Core.Bool.{true, false, cond, ◌&&◌}
use mathlib.Core.Logic.{◌⊎◌, inl, inr}
use mathlib.Core.List.{List, [], ◌∷◌, ◌++◌}
use Prim.Native.Nat.{ℕ, zero, suc, ◌+◌, ◌*◌, ◌-◌, ◌<◌, ◌≤◌}
use native.Mathlib.Omega.{arith}
use native.Mathlib.Decide.{ℕ_discrete, dec_lt}
use lib.Dec.{eqb, ltb}
use lib.ListN.{length, drop, length-append}
use lib.Seq.{drop-append_seam}
use borrow.Author.Tests.{eq-eqb, ne_eqb, lt-ltb, le-ltb, ltb-true, eqb-true}
use Rattle.le.proofs.Tests.{each}
use Rattle.call.specs.declared.Call.{Call}
use Rattle.call.specs.Revising.{live, contested, withdrawn}
use Rattle.call.specs.Layout.{call_at}
use Rattle.book.specs.Book.{header_at}
use Rattle.book.specs.Check.{header_minutes}
use Rattle.join.specs.Steps.{ReadTo, left_from}
use Rattle.join.proofs.Books.{few, size}
use Rattle.join.proofs.Taken.{length_from, goes_on_lem, next_left}
use Rattle.tabs.specs.declared.walk.Tally.{Tally}
use Rattle.tabs.specs.declared.walk.Others.{Others}
use Rattle.tabs.specs.Tabs.{own_of, of_state}
use Rattle.tabs.specs.Inner.{Ordered, Coming, is_of, tallied, Stretch, live_pair, LiveTo, others_more, Spare, OthersIn, TallyOf}
use Rattle.tabs.proofs.Members.{own_hit, own_none, ordered_weaken, lead, state_hit, state_miss, own_within, states_all}
use Rattle.tabs.proofs.Walking.{is_next, not_next, skip, own_short}

-- A member's calls come first

ordered_drop : (l k : ℕ) (cs : List Call) → Ordered l cs → Ordered l (drop k cs)
ordered_drop l zero cs o = o
ordered_drop l (suc k) [] o = tt
ordered_drop l (suc k) (c ∷ cs) o = ordered_drop l k cs (ordered_weaken l c.participant cs o.0 o.1)

-- behind them
past : (m k : ℕ) (cs : List Call) → Ordered m cs → length (own_of m cs) ≤ k → Ordered (suc m) (drop k cs)
unfolding own_of
past m zero [] o h = tt
past m (suc k) [] o h = tt
past m zero (c ∷ cs) o h = go (ℕ_discrete c.participant m)
  where
    go : Dec (c.participant ≡ m) → Ordered (suc m) (c ∷ cs)
    go (yes e) = absurd (omega (arith, ap length (own_hit m c cs e)))
    go (no e) = let g = o.0 in (omega arith, o.1)
past m (suc k) (c ∷ cs) o h = go (λ f. past m k cs f) (ℕ_discrete c.participant m)
  where
    go : (Ordered m cs → length (own_of m cs) ≤ k → Ordered (suc m) (drop k cs)) → Dec (c.participant ≡ m) → Ordered (suc m) (drop k cs)
    go ih (yes e) = ih (rw e at o.1) (omega (arith, ap length (own_hit m c cs e)))
    go ih (no e) = let g = o.0 in ordered_drop (suc m) (suc k) (c ∷ cs) (omega arith, o.1)

head : Call → List Call → Call
head d [] = d
head d (x ∷ xs) = x

-- among them
inside : (m k : ℕ) (cs : List Call) → Ordered m cs → k < length (own_of m cs) → (d : Call) (ds : List Call) → drop k cs ≡ d ∷ ds → d.participant ≡ m
unfolding own_of head
inside m k [] o h d ds e = absurd (omega arith)
inside m zero (c ∷ cs) o h d ds e = ap (λ (l : List Call). (head c l).participant) (sym e) ∙ go (ℕ_discrete c.participant m)
  where
    go : Dec (c.participant ≡ m) → c.participant ≡ m
    go (yes p) = p
    go (no p) = let g = o.0 in absurd (omega (arith, ap length (own_none m (suc m) (c ∷ cs) (omega arith) (omega arith, o.1))))
inside m (suc k) (c ∷ cs) o h d ds e = go (λ f n. inside m k cs f n d ds e) (ℕ_discrete c.participant m)
  where
    go : (Ordered m cs → k < length (own_of m cs) → d.participant ≡ m) → Dec (c.participant ≡ m) → d.participant ≡ m
    go ih (yes p) = ih (rw p at o.1) (omega (arith, ap length (own_hit m c cs p)))
    go ih (no p) = let g = o.0 in absurd (omega (arith, ap length (own_none m (suc m) (c ∷ cs) (omega arith) (omega arith, o.1))))

module _ {b : List ℕ} {m at : ℕ} (g : Coming b m at) (k : ℕ) (h : k ≤ length (left_from b at)) where
  further : ReadTo b (at + 32 * k) × (left_from b (at + 32 * k) ≡ drop k (left_from b at))
  further = skip at k g.read h

  pub reads_on : ReadTo b (at + 32 * k)
  reads_on = further.0

  -- the record there is none of the member's, or is one
  pub run_over : length (own_of m (left_from b at)) ≤ k → at + 32 * k < length b → (call_at b (at + 32 * k)).participant ≡ m → ⊥
  run_over n l e =
      let o : Ordered (suc m) (call_at b (at + 32 * k) ∷ left_from b (at + 32 * k + 32)) =
      rw (sym further.1 ∙ next_left reads_on l) at (past m k (left_from b at) g.from n) in
      let p = o.0 in
      omega arith

  pub run_in : k < length (own_of m (left_from b at)) → (at + 32 * k < length b) × ((call_at b (at + 32 * k)).participant ≡ m)
  run_in n =
      let l : at + 32 * k < length b = omega (arith, length_from g.read, own_short m (left_from b at)) in
      (l, inside m k (left_from b at) g.from n (call_at b (at + 32 * k)) (left_from b (at + 32 * k + 32)) (sym further.1 ∙ next_left reads_on l))

-- whether a member has so many calls
module _ {b : List ℕ} {m at : ℕ} (g : Coming b m at) (n : ℕ) where
  pub too_many : length b < at + 32 * n → false ≡ eqb n (length (own_of m (left_from b at)))
  too_many h = sym (ne_eqb n (length (own_of m (left_from b at))) (λ e. omega (arith, length_from g.read, own_short m (left_from b at))))

  module _ (h : at + 32 * n ≤ length b) where
    left : n ≤ length (left_from b at)
    left = omega (arith, length_from g.read)

    pub read_on : ReadTo b (at + 32 * n)
    read_on = reads_on g n left

    pub more_follow : is_of b (at + 32 * n) m ≡ true → false ≡ eqb n (length (own_of m (left_from b at)))
    more_follow e =
        let p = is_next b (at + 32 * n) m e in
        sym (ne_eqb n (length (own_of m (left_from b at))) (λ f. run_over g n left (omega arith) p.0 p.1))

    module _ (e : is_of b (at + 32 * n) m ≡ false) where
      none_more : length (own_of m (left_from b at)) ≤ n
      none_more = go (dec_lt n (length (own_of m (left_from b at))))
        where
          go : Dec (n < length (own_of m (left_from b at))) → length (own_of m (left_from b at)) ≤ n
          go (no l) = omega arith
          go (yes l) = absurd (split (not_next b (at + 32 * n) m e))
            where
              split : (length b ≤ at + 32 * n) ⊎ ((at + 32 * n < length b) × ((call_at b (at + 32 * n)).participant ≡ m → ⊥)) → ⊥
              split (inl z) = let q = (run_in g n left l).0 in omega arith
              split (inr z) = z.1 (run_in g n left l).1

      pub no_calls : n ≡ 0 → true ≡ eqb n (length (own_of m (left_from b at)))
      no_calls z = sym (eq-eqb n (length (own_of m (left_from b at))) (let k = none_more in omega arith))

      pub last_own : 1 ≤ n → (p : ℕ) → p ≡ (call_at b (at + 32 * n - 32)).participant → eqb p m ≡ eqb n (length (own_of m (left_from b at)))
      last_own z p q = go (ℕ_discrete p m)
        where
          before : at + 32 * (n - 1) ≡ at + 32 * n - 32
          before = omega arith

          go : Dec (p ≡ m) → eqb p m ≡ eqb n (length (own_of m (left_from b at)))
          go (no f) =
              ne_eqb p m f
              ∙ sym (ne_eqb n (length (own_of m (left_from b at)))
              (λ k. f (q ∙ ap (λ (i : ℕ). (call_at b i).participant) (sym before) ∙ (run_in g (n - 1) (let l = left in omega arith) (omega arith)).1)))
          go (yes f) = eq-eqb p m f ∙ sym (eq-eqb n (length (own_of m (left_from b at))) (at_least (dec_lt (n - 1) (length (own_of m (left_from b at))))))
            where
              at_least : Dec (n - 1 < length (own_of m (left_from b at))) → n ≡ length (own_of m (left_from b at))
              at_least (yes l) = let k = none_more in omega arith
              at_least (no l) =
                  absurd (run_over g (n - 1) (let l = left in omega arith) (omega arith) (omega arith) (ap (λ (i : ℕ). (call_at b i).participant) before ∙ sym q ∙ f))

-- The states of the records from a place up to an end

state_cons : (s : ℕ) (c : Call) (cs : List Call) → of_state s (c ∷ cs) ≡ cond (eqb c.state s) 1 0 + of_state s cs
state_cons s c cs = go (ℕ_discrete c.state s)
  where
    go : Dec (c.state ≡ s) → of_state s (c ∷ cs) ≡ cond (eqb c.state s) 1 0 + of_state s cs
    go (yes e) = rw (eq-eqb c.state s e) (omega (arith, state_hit s c cs e))
    go (no e) = rw (ne_eqb c.state s e) (omega (arith, state_miss s c cs e))

state_append : (s : ℕ) (xs ys : List Call) → of_state s (xs ++ ys) ≡ of_state s xs + of_state s ys
unfolding of_state
state_append s [] ys = omega arith
state_append s (x ∷ xs) ys = omega (arith, state_cons s x (xs ++ ys), state_cons s x xs, state_append s xs ys)

module _ {b : List ℕ} {a end : ℕ} (g : Stretch b a end) (h : a < end) where
  pub in_book : a < length b
  in_book =
      let p = g.from.place in
      let q = g.to.place in
      let i = g.to.within in
      omega (arith, size b g.to.accepted)

  pub stretch_next : Stretch b (a + 32) end
  stretch_next =
      let p = g.from.place in
      let q = g.to.place in
      record { from = goes_on_lem g.from in_book; to = g.to; order = omega arith }

  pub next_state : (s : ℕ) → of_state s (left_from b a) ≡ cond (eqb (call_at b a).state s) 1 0 + of_state s (left_from b (a + 32))
  next_state s = ap (of_state s) (next_left g.from in_book) ∙ state_cons s (call_at b a) (left_from b (a + 32))

  next_live : (call_at b a).state ≡ live → (s : ℕ) → (s ≡ live → ⊥) → of_state s (left_from b (a + 32)) ≡ of_state s (left_from b a)
  next_live e s f =
      let n = ne_eqb (call_at b a).state s (λ k. f (sym k ∙ e)) in
      sym (next_state s ∙ rw n (omega arith))

pub end_few : {b : List ℕ} {a end : ℕ} → Stretch b a end → end ≤ 64016
end_few {b} g = let q = g.to.place in let i = g.to.within in omega (arith, few b g.to.accepted)

module _ (b : List ℕ) (at end : ℕ) where
  pub pair_there : (x y : ℕ) → at + 32 < end → x ≡ (call_at b at).state → y ≡ (call_at b (at + 32)).state → (eqb x live && eqb y live) ≡ live_pair b at end
  unfolding live_pair
  pair_there x y h e f = rw (lt-ltb (at + 32) end h, e, f) refl

  pub pair_over : end ≤ at + 32 → false ≡ live_pair b at end
  unfolding live_pair
  pair_over h = rw (le-ltb (at + 32) end h) refl

pub live_starts : {b : List ℕ} {at end : ℕ} → Stretch b at end → LiveTo b at end at
live_starts g = record { left = g; further = omega arith; contested = refl; withdrawn = refl }

module _ {b : List ℕ} {at end a : ℕ} (g : LiveTo b at end a) (e : live_pair b a end ≡ true) where
  pub pair_is : (a + 32 < end) × ((call_at b a).state ≡ live) × ((call_at b (a + 32)).state ≡ live)
  unfolding live_pair
  pair_is =
      let t = each (ltb (a + 32) end) (eqb (call_at b a).state live ∷ eqb (call_at b (a + 32)).state live ∷ []) e in
      (ltb-true _ _ t.0, eqb-true _ _ t.1.0, eqb-true _ _ t.1.1.0)

  pub live_next : LiveTo b at end (a + 64)
  live_next =
      let p = pair_is in
      let l = p.0 in
      let f = g.further in
      let one : a < end = omega arith in
      let n = stretch_next g.left one in
      let k : a + 32 + 32 ≡ a + 64 = omega arith in
      let same : (s : ℕ) → (s ≡ live → ⊥) → of_state s (left_from b (a + 64)) ≡ of_state s (left_from b a) =
      λ s z. ap (λ (i : ℕ). of_state s (left_from b i)) (sym k) ∙ next_live n l p.2 s z ∙ next_live g.left one p.1 s z in
      record {
        left = rw k at (stretch_next n l);
        further = omega arith;
        contested = same contested (λ z. omega arith) ∙ g.contested;
        withdrawn = same withdrawn (λ z. omega arith) ∙ g.withdrawn;
      }

-- Counted so far
pub record Counting (b : List ℕ) (at end : ℕ) (t : Others) (a : ℕ) : Type 0 where
  pub left : Stretch b a end
  pub contested : t.contested + of_state contested (left_from b a) ≡ of_state contested (left_from b at)
  pub withdrawn : t.withdrawn + of_state withdrawn (left_from b a) ≡ of_state withdrawn (left_from b at)
  pub most : at + 32 * (t.contested + t.withdrawn) ≤ a

pub others_start : {b : List ℕ} {at end : ℕ} → Stretch b at end → Counting b at end (record { contested = 0; withdrawn = 0 }) at
others_start g = record { left = g; contested = omega arith; withdrawn = omega arith; most = omega arith }

module _ {b : List ℕ} {at end : ℕ} {t : Others} {a : ℕ} (g : Counting b at end t a) where
  pub spare : Spare t
  spare =
      let m = g.most in
      let o = g.left.order in
      let f = end_few g.left in
      record { contested = omega arith; withdrawn = omega arith }

  pub others_next : a < end → Counting b at end (others_more t (call_at b a).state) (a + 32)
  others_next h =
      let m = g.most in
      record {
        left = stretch_next g.left h;
        contested = omega (arith, g.contested, next_state g.left h contested);
        withdrawn = omega (arith, g.withdrawn, next_state g.left h withdrawn);
        most = omega (arith, once (call_at b a).state);
      }
    where
      once : (s : ℕ) → cond (eqb s contested) 1 0 + cond (eqb s withdrawn) 1 0 ≤ 1
      once s = go (ℕ_discrete s contested) (ℕ_discrete s withdrawn)
        where
          go : Dec (s ≡ contested) → Dec (s ≡ withdrawn) → cond (eqb s contested) 1 0 + cond (eqb s withdrawn) 1 0 ≤ 1
          go (yes e) q = rw (eq-eqb s contested e, ne_eqb s withdrawn (λ f. omega arith)) (omega arith)
          go (no e) (yes f) = rw (ne_eqb s contested e, eq-eqb s withdrawn f) (omega arith)
          go (no e) (no f) = rw (ne_eqb s contested e, ne_eqb s withdrawn f) (omega arith)

  pub others_over : end ≤ a → OthersIn b at end t
  others_over h =
      let o = g.left.order in
      let e : a ≡ end = omega arith in
      record { contested = rw e at g.contested; withdrawn = rw e at g.withdrawn; most = rw e at g.most }

-- one call more, by its state
module _ (t : Others) (s : ℕ) where
  pub other_contested : s ≡ contested → record { contested = t.contested + 1; withdrawn = t.withdrawn } ≡ others_more t s
  other_contested e =
      let c : t.contested + 1 ≡ t.contested + cond (eqb s contested) 1 0 = rw (eq-eqb s contested e) refl in
      let w : t.withdrawn ≡ t.withdrawn + cond (eqb s withdrawn) 1 0 = rw (ne_eqb s withdrawn (λ f. omega arith)) (omega arith) in
      λ i. record { contested = c i; withdrawn = w i }

  pub other_withdrawn : s ≡ withdrawn → record { contested = t.contested; withdrawn = t.withdrawn + 1 } ≡ others_more t s
  other_withdrawn e =
      let c : t.contested ≡ t.contested + cond (eqb s contested) 1 0 = rw (ne_eqb s contested (λ f. omega arith)) (omega arith) in
      let w : t.withdrawn + 1 ≡ t.withdrawn + cond (eqb s withdrawn) 1 0 = rw (eq-eqb s withdrawn e) refl in
      λ i. record { contested = c i; withdrawn = w i }

  pub other_neither : (s ≡ contested → ⊥) → (s ≡ withdrawn → ⊥) → t ≡ others_more t s
  other_neither e f =
      let c : t.contested ≡ t.contested + cond (eqb s contested) 1 0 = rw (ne_eqb s contested e) (omega arith) in
      let w : t.withdrawn ≡ t.withdrawn + cond (eqb s withdrawn) 1 0 = rw (ne_eqb s withdrawn f) (omega arith) in
      λ i. record { contested = c i; withdrawn = w i }

-- the live ones are the rest
pub tally_of : {b : List ℕ} {at count a : ℕ} {t : Others} → LiveTo b at (at + 32 * count) a → OthersIn b a (at + 32 * count) t
    → TallyOf b at count (record { live = count - (t.contested + t.withdrawn); contested = t.contested; withdrawn = t.withdrawn })
tally_of l o =
    let m = o.most in
    let f = l.further in
    record { contested = o.contested ∙ l.contested; withdrawn = o.withdrawn ∙ l.withdrawn; all = omega arith }

pub others_few : {b : List ℕ} {at count a : ℕ} {t : Others} → LiveTo b at (at + 32 * count) a → OthersIn b a (at + 32 * count) t → t.contested + t.withdrawn ≤ count
others_few l o = let m = o.most in let f = l.further in omega arith

-- a member's calls by their states, where it has so many
module _ {b : List ℕ} {m at n : ℕ} (g : Coming b m at) (e : n ≡ length (own_of m (left_from b at))) where
  behind : (s : ℕ) → of_state s (left_from b at) ≡ of_state s (own_of m (left_from b at)) + of_state s (left_from b (at + 32 * n))
  behind s =
      let k = lead m (left_from b at) g.from in
      let own = own_of m (left_from b at) in
      let l : length (left_from b at) ≡ length own + length k.after = ap length k.is ∙ length-append own k.after in
      let t = skip at (length own) g.read (omega arith) in
      let r : left_from b (at + 32 * length own) ≡ k.after = t.1 ∙ ap (drop (length own)) k.is ∙ drop-append_seam own k.after in
      ap (of_state s) k.is ∙ state_append s own k.after
      ∙ ap (λ (l : List Call). of_state s own + of_state s l) (sym r ∙ ap (λ (j : ℕ). left_from b (at + 32 * j)) (sym e))

  pub run_stretch : Stretch b at (at + 32 * n)
  run_stretch =
      let t = skip at (length (own_of m (left_from b at))) g.read (own_short m (left_from b at)) in
      record { from = g.read; to = rw (ap (λ (j : ℕ). at + 32 * j) e) t.0; order = omega arith }

  pub tally_is : {t : Tally} → TallyOf b at n t → t ≡ tallied (own_of m (left_from b at))
  tally_is {t} o =
      let own = own_of m (left_from b at) in
      let c : t.contested ≡ of_state contested own = omega (arith, o.contested, behind contested) in
      let w : t.withdrawn ≡ of_state withdrawn own = omega (arith, o.withdrawn, behind withdrawn) in
      let l : t.live ≡ of_state live own =
      omega (arith, o.all, states_all (header_minutes (header_at b)) own (own_within (header_minutes (header_at b)) m (left_from b at) g.within)) in
      λ i. record { live = l i; contested = c i; withdrawn = w i }
