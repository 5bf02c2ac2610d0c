-- Two books side by side: the place in the first from which on a record of an incoming key lies, and the counts that an incoming call changes. Assumes nothing.
use mathlib.Core.Path.{◌≡◌, refl, sym, ◌∙◌, ap}
use mathlib.Core.Bool.{true, false, cond}
use mathlib.Core.List.{List, [], ◌∷◌}
use mathlib.Core.Option.{Option, none, some}
use Prim.Native.Nat.{ℕ, ◌+◌, ◌<◌, ◌≤◌}
use native.Mathlib.Nat.{le_refl}
use native.Mathlib.Omega.{arith}
use native.Mathlib.Decide.{dec_lt, ℕ_discrete}
use lib.Dec.{eqb, ltb}
use lib.ListN.{length}
use borrow.Author.Tests.{lt-ltb, le-ltb, ltb-true, ltb-false, eqb-true, eqb-false}
use Rattle.le.proofs.Tests.{each}
use Rattle.call.specs.declared.Call.{Call}
use Rattle.call.specs.Key.{call_key}
use Rattle.call.specs.Layout.{call_at}
use Rattle.call.specs.Revising.{contested}
use Rattle.call.specs.Service.{CallWithin, Stated, is_live, is_contested_lem, is_withdrawn_lem}
use Rattle.book.specs.Book.{header_at, calls_of}
use Rattle.book.specs.Check.{header_minutes}
use Rattle.book.specs.Sound.{Rises}
use Rattle.rule.specs.declared.Decision.{Decision}
use Rattle.rule.specs.declared.Decision.TheVariants.{First, Second, Struck}
use Rattle.rule.specs.Standing.{decide, given, standing}
use Rattle.rule.specs.Keys.{record_of, also}
use Rattle.rule.proofs.Keyed.{find_hit, find_miss, find_below}
use Rattle.join.specs.Steps.{ReadTo, left_from}
use Rattle.join.proofs.Taken.{ends, goes_on_lem, next_left, rises_left}
use Rattle.tabs.specs.Forward.{stands_against}
use Rattle.tabs.specs.Inner.{Counted, count_on, hit, Recounted, is_below, is_at, Sought, Facing, lost, gained, Able}
use Rattle.tabs.proofs.Tallies.{tally, one, tally_nil, one_own, one_other}
use Rattle.tabs.proofs.Counting.{hit_own, hit_other, hit_there}

-- The tests of a place

module _ (b : List ℕ) (at k : ℕ) where
  pub below_there : (j : ℕ) → at < length b → j ≡ call_key (call_at b at) → ltb j k ≡ is_below b at k
  unfolding is_below
  below_there j h e = rw (lt-ltb at (length b) h, e) refl

  pub below_over : length b ≤ at → false ≡ is_below b at k
  unfolding is_below
  below_over h = rw (le-ltb at (length b) h) refl

  pub at_there : (j : ℕ) → at < length b → j ≡ call_key (call_at b at) → eqb j k ≡ is_at b at k
  unfolding is_at
  at_there j h e = rw (lt-ltb at (length b) h, e) refl

  pub at_over : length b ≤ at → false ≡ is_at b at k
  unfolding is_at
  at_over h = rw (le-ltb at (length b) h) refl

  pub is_lower : is_below b at k ≡ true → (at < length b) × (call_key (call_at b at) < k)
  unfolding is_below
  is_lower e =
      let t = each (ltb at (length b)) (ltb (call_key (call_at b at)) k ∷ []) e in
      (ltb-true _ _ t.0, ltb-true _ _ t.1.0)

  not_lower : is_below b at k ≡ false → at < length b → k ≤ call_key (call_at b at)
  unfolding is_below
  not_lower e h = ltb-false _ _ (rw (lt-ltb at (length b) h) at e)

  pub is_same : is_at b at k ≡ true → (at < length b) × (call_key (call_at b at) ≡ k)
  unfolding is_at
  is_same e =
      let t = each (ltb at (length b)) (eqb (call_key (call_at b at)) k ∷ []) e in
      (ltb-true _ _ t.0, eqb-true _ _ t.1.0)

  not_same : is_at b at k ≡ false → at < length b → call_key (call_at b at) ≡ k → ⊥
  unfolding is_at
  not_same e h = eqb-false _ _ (rw (lt-ltb at (length b) h) at e)

-- The record that stands

module _ (x y : Call) where
  pub stands_first : decide x y ≡ First → x.state ≡ (standing x y).state
  unfolding standing given
  stands_first e = ap (λ (d : Decision). (given d x y).state) (sym e)

  pub stands_second : decide x y ≡ Second → y.state ≡ (standing x y).state
  unfolding standing given
  stands_second e = ap (λ (d : Decision). (given d x y).state) (sym e)

  pub stands_struck : decide x y ≡ Struck → contested ≡ (standing x y).state
  unfolding standing given
  stands_struck e = ap (λ (d : Decision). (given d x y).state) (sym e)

  -- it is of their member, and in one of the three states
  pub stood : x.participant ≡ y.participant → x.state ≤ 2 → y.state ≤ 2 → ((standing x y).participant ≡ y.participant) × ((standing x y).state ≤ 2)
  unfolding standing given
  stood e p q = go (decide x y)
    where
      go : (d : Decision) → ((given d x y).participant ≡ y.participant) × ((given d x y).state ≤ 2)
      go First = (e, p)
      go Second = (refl, q)
      go Struck = (e, omega arith)

-- The place of a key

pub record Seeking (b : List ℕ) (from k at : ℕ) : Type 0 where
  pub read : ReadTo b at
  pub same : (j : ℕ) → k ≤ j → record_of j (left_from b from) ≡ record_of j (left_from b at)

pub seek_starts : {b : List ℕ} {from : ℕ} → ReadTo b from → (k : ℕ) → Seeking b from k from
seek_starts r k = record { read = r; same = λ j h. refl }

pub seek_next : {b : List ℕ} {from k at : ℕ} → Seeking b from k at → is_below b at k ≡ true → Seeking b from k (at + 32)
seek_next {b} {from} {k} {at} g e =
    let h = is_lower b at k e in
    let l = h.1 in
    record {
      read = goes_on_lem g.read h.0;
      same = λ j m.
          g.same j m ∙ ap (record_of j) (next_left g.read h.0)
          ∙ find_miss j (call_at b at) (left_from b (at + 32)) (λ f. omega arith);
    }

pub seek_over : {b : List ℕ} {from k at : ℕ} → Seeking b from k at → is_below b at k ≡ false → Sought b from k at
seek_over g e = record { read = g.read; same = g.same; ended = e }

-- An incoming call

-- a call of a member in a state is counted there
one_hit : (m s n t : ℕ) (c : Call) → c.participant ≡ n → c.state ≡ t → one m s c ≡ hit n t m s
one_hit m s n t c p q = go (ℕ_discrete n m)
  where
    go : Dec (n ≡ m) → one m s c ≡ hit n t m s
    go (yes e) = one_own m s c (p ∙ e) ∙ ap (λ (k : ℕ). cond (eqb k s) 1 0) q ∙ sym (hit_own n t m s e)
    go (no e) = one_other m s c (λ f. e (sym p ∙ f)) ∙ sym (hit_other n t m s e)

within_state : {n : ℕ} (c : Call) → CallWithin n c → c.state ≤ 2
within_state {n} c w = go w.content
  where
    go : Stated n c → c.state ≤ 2
    go (is_live s x y) = omega arith
    go (is_contested_lem s x) = omega arith
    go (is_withdrawn_lem s x) = omega arith

-- one key is of one member
same_member : {n k : ℕ} (x y : Call) → CallWithin n x → CallWithin k y → call_key x ≡ call_key y → x.participant ≡ y.participant
same_member x y v w e = let g = v.number in let h = w.number in omega arith

-- the first book has its key: x stands there
pub record Known (xs : List Call) (x y : Call) : Type 0 where
  pub loses : (m s : ℕ) → lost xs y m s ≡ hit y.participant x.state m s
  pub gains : (m s : ℕ) → gained xs y m s ≡ hit y.participant (standing x y).state m s
  pub from : Counted y.participant x.state
  pub to : Counted y.participant (standing x y).state

-- the first book has it not
pub record Unknown (xs : List Call) (y : Call) : Type 0 where
  pub loses : (m s : ℕ) → lost xs y m s ≡ 0
  pub gains : (m s : ℕ) → gained xs y m s ≡ hit y.participant y.state m s
  pub own : Counted y.participant y.state

module _ {first : List ℕ} {a : ℕ} {second : List ℕ} {b : ℕ} (g : Facing first a second b) where
  y_within : CallWithin (header_minutes (header_at second)) (call_at second b)
  y_within = (rw (next_left g.in_second g.there) at g.second_within).0

  pub is_known_lem : is_at first a (call_key (call_at second b)) ≡ true → Known (calls_of first) (call_at first a) (call_at second b)
  unfolding lost gained also stands_against one tally
  is_known_lem e =
      let h = is_same first a (call_key (call_at second b)) e in
      let n = next_left g.in_first h.0 in
      let v : CallWithin (header_minutes (header_at first)) (call_at first a) = (rw n at g.first_within).0 in
      let p : (call_at first a).participant ≡ (call_at second b).participant = same_member (call_at first a) (call_at second b) v y_within h.1 in
      let f : record_of (call_key (call_at second b)) (calls_of first) ≡ some (call_at first a) =
      g.same ∙ ap (record_of (call_key (call_at second b))) n ∙ find_hit (call_key (call_at second b)) (call_at first a) (left_from first (a + 32)) h.1 in
      let t = stood (call_at first a) (call_at second b) p (within_state (call_at first a) v) (within_state (call_at second b) y_within) in
      record {
        loses = λ m s.
            ap (λ (o : Option Call). tally m s (also o [])) f ∙ one_hit m s (call_at second b).participant (call_at first a).state (call_at first a) p refl;
        gains = λ m s.
            ap (λ (o : Option Call). tally m s (stands_against o (call_at second b) ∷ [])) f
            ∙ one_hit m s (call_at second b).participant (standing (call_at first a) (call_at second b)).state (standing (call_at first a) (call_at second b)) t.0 refl;
        from = record { member = y_within.participant; state = within_state (call_at first a) v };
        to = record { member = y_within.participant; state = t.1 };
      }

  none_there : is_at first a (call_key (call_at second b)) ≡ false → record_of (call_key (call_at second b)) (calls_of first) ≡ none
  unfolding record_of
  none_there e = g.same ∙ go (dec_lt a (length first))
    where
      go : Dec (a < length first) → record_of (call_key (call_at second b)) (left_from first a) ≡ none
      go (no h) = ap (record_of (call_key (call_at second b))) (ends g.in_first (omega arith))
      go (yes h) =
          let n = next_left g.in_first h in
          let r : Rises 0 (call_at first a ∷ left_from first (a + 32)) = rw n at (rises_left g.in_first) in
          let l = not_lower first a (call_key (call_at second b)) g.ended h in
          let lower : call_key (call_at second b) < call_key (call_at first a) =
          strictly (call_key (call_at second b)) (call_key (call_at first a)) l (not_same first a (call_key (call_at second b)) e h) in
          ap (record_of (call_key (call_at second b))) n
          ∙ find_below (call_key (call_at first a)) (call_key (call_at second b)) (call_at first a ∷ left_from first (a + 32)) (le_refl (call_key (call_at first a)), r.1) lower
        where
          strictly : (k j : ℕ) → k ≤ j → (j ≡ k → ⊥) → k < j
          strictly k j h n = omega arith

  pub not_known : is_at first a (call_key (call_at second b)) ≡ false → Unknown (calls_of first) (call_at second b)
  unfolding lost gained also stands_against one tally
  not_known e =
      let f = none_there e in
      record {
        loses = λ m s. ap (λ (o : Option Call). tally m s (also o [])) f ∙ tally_nil m s;
        gains = λ m s.
            ap (λ (o : Option Call). tally m s (stands_against o (call_at second b) ∷ [])) f
            ∙ one_hit m s (call_at second b).participant (call_at second b).state (call_at second b) refl refl;
        own = record { member = y_within.participant; state = within_state (call_at second b) y_within };
      }

-- the same changes, said otherwise
pub counted_as : {page after : List ℕ} {less more less' more' : ℕ → ℕ → ℕ} → ((m s : ℕ) → less' m s ≡ less m s) → ((m s : ℕ) → more' m s ≡ more m s)
    → Recounted page less more after → Recounted page less' more' after
counted_as {page} {after} p q r =
    record {
      counts = λ m s c. ap (λ (k : ℕ). count_on after m s + k) (p m s) ∙ r.counts m s c ∙ ap (λ (k : ℕ). count_on page m s + k) (sym (q m s));
      behind = r.behind;
      long = r.long;
    }

-- a count that is lost is there
pub one_there : {xs : List Call} {x y : Call} {page : List ℕ} → Known xs x y → Able page (lost xs y) → 1 ≤ count_on page y.participant x.state
one_there {xs} {x} {y} k a =
    omega (arith, a.enough y.participant x.state k.from, k.loses y.participant x.state, hit_there y.participant x.state y.participant x.state refl refl)
