-- Tabs brought forward over a join are those of the joined calls. Assumes nothing.
use mathlib.Core.Path.{◌≡◌, refl, sym, ◌∙◌, ap, ap₂}
use mathlib.Core.Bool.{cond}
use mathlib.Core.List.{List, [], ◌∷◌}
use mathlib.Core.Option.{Option, none, some}
use Prim.Native.Nat.{ℕ, zero, suc, ◌+◌, ◌-◌, ◌<◌, ◌≤◌}
use native.Mathlib.Omega.{arith}
use native.Mathlib.Decide.{ℕ_discrete}
use lib.Dec.{eqb}
use lib.ListN.{length}
use borrow.Author.Tests.{eq-eqb, ne_eqb}
use Rattle.call.specs.declared.Call.{Call}
use Rattle.call.specs.Key.{call_key}
use Rattle.call.specs.Revising.{live, contested, withdrawn}
use Rattle.call.specs.Services.{most_participant}
use Rattle.call.specs.Service.{CallWithin}
use Rattle.book.specs.Sound.{CallsWithin, Rises}
use Rattle.rule.specs.Standing.{standing}
use Rattle.rule.specs.Keys.{record_of, also}
use Rattle.rule.specs.Joined.{join_calls}
use Rattle.rule.proofs.Keyed.{weaken, within_in, find_hit, find_miss, find_below, find_in}
use Rattle.rule.proofs.Lattice.{stand_key, stand_within}
use Rattle.rule.proofs.Merging.{Merges, left, right, lower, upper, both, merges, merge_joins}
use Rattle.rule.proofs.Bounds.{Calls, join_sound_lem}
use Rattle.tabs.specs.declared.Tab.{Tab}
use Rattle.tabs.specs.Tabs.{own_of, of_state, tabs_of}
use Rattle.tabs.specs.Forward.{replaced, stands_against, settled, forward_state, forward_count, sum_to, index_by, brought_forward}
use Rattle.tabs.proofs.Members.{own_hit, own_miss, own_within, states_all, index_is, states_add_up}
use Rattle.tabs.proofs.Tallies.{tally, one, tally_nil, tally_cons, one_other}

module _ (m s : ℕ) where
  -- The first book's calls whose keys are below all incoming ones have no part in it
  module _ (x : Call) (xs : List Call) where
    pub skip_replaced : (ys : List Call) (n : ℕ) → call_key x < n → Rises n ys → replaced (x ∷ xs) ys ≡ replaced xs ys
    unfolding replaced
    skip_replaced [] n h r = refl
    skip_replaced (y ∷ ys) n h r =
        let g = r.0 in
        ap₂ also (find_miss (call_key y) x xs (λ e. omega arith)) (skip_replaced ys (suc (call_key y)) (omega arith) r.1)

    pub skip_settled : (ys : List Call) (n : ℕ) → call_key x < n → Rises n ys → settled (x ∷ xs) ys ≡ settled xs ys
    unfolding settled
    skip_settled [] n h r = refl
    skip_settled (y ∷ ys) n h r =
        let g = r.0 in
        ap₂ (λ (o : Option Call) (cs : List Call). stands_against o y ∷ cs) (find_miss (call_key y) x xs (λ e. omega arith))
        (skip_settled ys (suc (call_key y)) (omega arith) r.1)

  -- an incoming call of a key that the first book has, and of one that it has not
  module _ (xs : List Call) (y : Call) (ys : List Call) where
    replaced_some : (x : Call) → record_of (call_key y) xs ≡ some x → tally m s (replaced xs (y ∷ ys)) ≡ one m s x + tally m s (replaced xs ys)
    unfolding replaced also
    replaced_some x e = ap (λ (o : Option Call). tally m s (also o (replaced xs ys))) e ∙ tally_cons m s x (replaced xs ys)

    replaced_none : record_of (call_key y) xs ≡ none → tally m s (replaced xs (y ∷ ys)) ≡ tally m s (replaced xs ys)
    unfolding replaced also
    replaced_none e = ap (λ (o : Option Call). tally m s (also o (replaced xs ys))) e

    settled_some : (x : Call) → record_of (call_key y) xs ≡ some x → tally m s (settled xs (y ∷ ys)) ≡ one m s (standing x y) + tally m s (settled xs ys)
    unfolding settled stands_against
    settled_some x e = ap (λ (o : Option Call). tally m s (stands_against o y ∷ settled xs ys)) e ∙ tally_cons m s (standing x y) (settled xs ys)

    settled_none : record_of (call_key y) xs ≡ none → tally m s (settled xs (y ∷ ys)) ≡ one m s y + tally m s (settled xs ys)
    unfolding settled stands_against
    settled_none e = ap (λ (o : Option Call). tally m s (stands_against o y ∷ settled xs ys)) e ∙ tally_cons m s y (settled xs ys)

  -- where the first book has no calls
  none_replaced : (ys : List Call) → tally m s (replaced [] ys) ≡ 0
  unfolding replaced record_of also
  none_replaced [] = tally_nil m s
  none_replaced (y ∷ ys) = none_replaced ys

  none_settled : (ys : List Call) → tally m s (settled [] ys) ≡ tally m s ys
  unfolding settled record_of stands_against
  none_settled [] = refl
  none_settled (y ∷ ys) = tally_cons m s y (settled [] ys) ∙ ap (λ (k : ℕ). one m s y + k) (none_settled ys) ∙ sym (tally_cons m s y ys)

  nothing_in : (xs : List Call) → (tally m s (replaced xs []) ≡ 0) × (tally m s (settled xs []) ≡ 0)
  unfolding replaced settled
  nothing_in xs = (tally_nil m s, tally_nil m s)

  -- of the joined calls: what the first book had at the incoming keys is taken away, and what stands there is added; and that is all there
  pub record Balance (xs ys zs : List Call) : Type 0 where
    pub is : tally m s zs + tally m s (replaced xs ys) ≡ tally m s xs + tally m s (settled xs ys)
    pub enough : tally m s (settled xs ys) ≤ tally m s zs

  balance : (n : ℕ) {xs ys zs : List Call} → Merges xs ys zs → Rises n xs → Rises n ys → Balance xs ys zs
  balance n (left {ys = ys}) r t =
      let e = none_settled ys in
      record { is = omega (arith, none_replaced ys, tally_nil m s); enough = omega arith }
  balance n (right {x = x} {xs = xs}) r t =
      let e = nothing_in (x ∷ xs) in
      record { is = omega arith; enough = omega arith }
  balance n (lower {x = x} {y = y} {xs = xs} {ys = ys} {zs = zs} h j) r t =
      let b = balance (suc (call_key x)) j r.1 (h, t.1) in
      let p = ap (tally m s) (skip_replaced x xs (y ∷ ys) (call_key y) h (omega arith, t.1)) in
      let q = ap (tally m s) (skip_settled x xs (y ∷ ys) (call_key y) h (omega arith, t.1)) in
      let u = tally_cons m s x zs in
      let v = tally_cons m s x xs in
      let f = b.is in
      let g = b.enough in
      record { is = omega arith; enough = omega arith }
  balance n (upper {x = x} {y = y} {xs = xs} {ys = ys} {zs = zs} h j) r t =
      let b = balance (suc (call_key y)) j (h, r.1) t.1 in
      let e = find_below (call_key x) (call_key y) (x ∷ xs) (omega arith, r.1) h in
      let p = replaced_none (x ∷ xs) y ys e in
      let q = settled_none (x ∷ xs) y ys e in
      let u = tally_cons m s y zs in
      let f = b.is in
      let g = b.enough in
      record { is = omega arith; enough = omega arith }
  balance n (both {x = x} {y = y} {xs = xs} {ys = ys} {zs = zs} h j) r t =
      let b = balance (suc (call_key x)) j r.1 (weaken (suc (call_key x)) (suc (call_key y)) ys (omega arith) t.1) in
      let e = find_hit (call_key y) x xs h in
      let p = replaced_some (x ∷ xs) y ys x e in
      let q = settled_some (x ∷ xs) y ys x e in
      let p' = ap (tally m s) (skip_replaced x xs ys (suc (call_key y)) (omega arith) t.1) in
      let q' = ap (tally m s) (skip_settled x xs ys (suc (call_key y)) (omega arith) t.1) in
      let u = tally_cons m s (standing x y) zs in
      let v = tally_cons m s x xs in
      let f = b.is in
      let g = b.enough in
      record { is = omega arith; enough = omega arith }

  pub balanced : (xs ys : List Call) → Rises 0 xs → Rises 0 ys → Balance xs ys (join_calls xs ys)
  balanced xs ys r t = rw (sym (merge_joins 0 xs ys r t)) (balance 0 (merges xs ys) r t)

-- Brought forward

-- the sum of counts that agree
pub sum_upto : (f g : ℕ → ℕ) (n : ℕ) → ((j : ℕ) → 1 ≤ j → j ≤ n → f j ≡ g j) → sum_to f n ≡ sum_to g n
unfolding sum_to
sum_upto f g zero e = refl
sum_upto f g (suc n) e = ap₂ ◌+◌ (sum_upto f g n (λ j h l. e j h (omega arith))) (e (suc n) (omega arith) (omega arith))

index_some : (f : ℕ → ℕ) (m : ℕ) → (f m ≡ 0 → ⊥) → index_by f m ≡ sum_to f (m - 1)
unfolding index_by
index_some f m h = simp (ne_eqb (f m) 0 h)

index_none : (f : ℕ → ℕ) (m : ℕ) → f m ≡ 0 → index_by f m ≡ sum_to f most_participant
unfolding index_by
index_none f m h = simp (eq-eqb (f m) 0 h)

-- a book's own tabs, by the index that the counts give
pub indexed : (n : ℕ) (cs : List Call) → Calls n cs → (m : ℕ) → 1 ≤ m → m ≤ most_participant → (f : ℕ → ℕ)
    → ((j : ℕ) → 1 ≤ j → j ≤ most_participant → f j ≡ (tabs_of cs j).count) → index_by f m ≡ (tabs_of cs m).index
indexed n cs c m h l f e = go (ℕ_discrete (f m) 0)
  where
    counts : ℕ → ℕ
    counts j = (tabs_of cs j).count

    at : (1 ≤ counts m → (tabs_of cs m).index ≡ sum_to counts (m - 1)) × (counts m ≡ 0 → (tabs_of cs m).index ≡ length cs)
    at = index_is n cs c.within c.rises m h

    go : Dec (f m ≡ 0) → index_by f m ≡ (tabs_of cs m).index
    go (no z) = index_some f m z ∙ sum_upto f counts (m - 1) (λ j p q. e j p (omega arith)) ∙ sym (at.0 (omega (arith, e m h l)))
    go (yes z) =
        index_none f m z ∙ sum_upto f counts most_participant e ∙ (states_add_up n cs c.within c.rises).1
        ∙ sym (at.1 (omega (arith, e m h l)))

module _ (n : ℕ) (xs ys : List Call) (p : Calls n xs) (q : Calls n ys) where
  abbrev zs : List Call
  zs = join_calls xs ys

  pub state_is : (m s : ℕ) → forward_state (of_state s (own_of m xs)) xs ys m s ≡ of_state s (own_of m (join_calls xs ys))
  unfolding tally
  state_is m s = let b = (balanced m s xs ys p.rises q.rises).is in omega arith

  joined : Calls n zs
  joined = join_sound_lem n xs ys p q

  count_is : (m : ℕ) → forward_count (tabs_of xs) xs ys m ≡ (tabs_of zs m).count
  unfolding forward_count tabs_of
  count_is m =
      let l = state_is m live in
      let c = state_is m contested in
      let w = state_is m withdrawn in
      omega (arith, states_all n (own_of m zs) (own_within n m zs joined.within))

  -- The summary brought forward equals one worked out afresh from the result.
  pub forward_is_fresh : (m : ℕ) → 1 ≤ m → m ≤ most_participant → brought_forward (tabs_of xs) xs ys m ≡ tabs_of (join_calls xs ys) m
  unfolding brought_forward tabs_of
  forward_is_fresh m h l i =
      record {
        index = indexed n zs joined m h l (forward_count (tabs_of xs) xs ys) (λ j p q. count_is j) i;
        count = count_is m i;
        live = state_is m live i;
        contested = state_is m contested i;
        withdrawn = state_is m withdrawn i;
      }

-- old tabs that agree at the 64 members give the same
module _ (xs ys : List Call) (old new : ℕ → Tab) (e : (m : ℕ) → 1 ≤ m → m ≤ most_participant → old m ≡ new m) where
  count_same : (m : ℕ) → 1 ≤ m → m ≤ most_participant → forward_count old xs ys m ≡ forward_count new xs ys m
  unfolding forward_count
  count_same m h l =
      ap (λ (t : Tab). forward_state t.live xs ys m live + forward_state t.contested xs ys m contested + forward_state t.withdrawn xs ys m withdrawn) (e m h l)

  index_same : (m : ℕ) → 1 ≤ m → m ≤ most_participant → index_by (forward_count old xs ys) m ≡ index_by (forward_count new xs ys) m
  unfolding index_by
  index_same m h l i =
      cond (eqb (count_same m h l i) 0) (sum_upto (forward_count old xs ys) (forward_count new xs ys) most_participant count_same i)
      (sum_upto (forward_count old xs ys) (forward_count new xs ys) (m - 1) (λ j p q. count_same j p (omega arith)) i)

  pub forward_same : (m : ℕ) → 1 ≤ m → m ≤ most_participant → brought_forward old xs ys m ≡ brought_forward new xs ys m
  unfolding brought_forward
  forward_same m h l i =
      record {
        index = index_same m h l i;
        count = count_same m h l i;
        live = forward_state (e m h l i).live xs ys m live;
        contested = forward_state (e m h l i).contested xs ys m contested;
        withdrawn = forward_state (e m h l i).withdrawn xs ys m withdrawn;
      }

-- A member that no incoming call names

-- one key is of one member
pub one_member : {n : ℕ} (x y : Call) → CallWithin n x → CallWithin n y → call_key x ≡ call_key y → x.participant ≡ y.participant
one_member x y v w e = let g = v.number in let h = w.number in omega arith

unnamed_cons : (m : ℕ) (y : Call) (ys : List Call) → own_of m (y ∷ ys) ≡ [] → (y.participant ≡ m → ⊥) × (own_of m ys ≡ [])
unnamed_cons m y ys e = go (ℕ_discrete y.participant m)
  where
    go : Dec (y.participant ≡ m) → (y.participant ≡ m → ⊥) × (own_of m ys ≡ [])
    go (yes p) = absurd (let l : suc (length (own_of m ys)) ≡ 0 = ap length (sym (own_hit m y ys p) ∙ e) in omega arith)
    go (no p) = (p, sym (own_miss m y ys p) ∙ e)

module _ (n : ℕ) (xs : List Call) (w : CallsWithin n xs) (m s : ℕ) where
  -- it has no part in what is taken away, and none in what is added
  no_part : (ys : List Call) → CallsWithin n ys → own_of m ys ≡ [] → (tally m s (replaced xs ys) ≡ 0) × (tally m s (settled xs ys) ≡ 0)
  no_part [] v e = nothing_in m s xs
  no_part (y ∷ ys) v e =
      let u = unnamed_cons m y ys e in
      go (no_part ys v.1 u.1) u.0 (record_of (call_key y) xs) refl
    where
      go : (tally m s (replaced xs ys) ≡ 0) × (tally m s (settled xs ys) ≡ 0) → (y.participant ≡ m → ⊥) → (o : Option Call) → record_of (call_key y) xs ≡ o
          → (tally m s (replaced xs (y ∷ ys)) ≡ 0) × (tally m s (settled xs (y ∷ ys)) ≡ 0)
      go ih h none f =
          let a = ih.0 in
          let b = ih.1 in
          (omega (arith, replaced_none m s xs y ys f), omega (arith, settled_none m s xs y ys f, one_other m s y h))
      go ih h (some x) f =
          let a = ih.0 in
          let b = ih.1 in
          let k = find_in (call_key y) xs x f in
          let vx = within_in n xs x w k.0 in
          let same : x.participant ≡ y.participant = one_member x y vx v.0 k.1 in
          let stood : (standing x y).participant ≡ y.participant =
          one_member (standing x y) y (stand_within x y vx v.0 k.1) v.0 (stand_key x y k.1 ∙ k.1) in (
            omega (arith, replaced_some m s xs y ys x f, one_other m s x (λ z. h (sym same ∙ z))),
            omega (arith, settled_some m s xs y ys x f, one_other m s (standing x y) (λ z. h (sym stood ∙ z))),
          )

-- Only members named in the incoming book may have their three state counts changed: another one has those of its old tab, and as many calls.
pub unnamed_keep : (n : ℕ) (xs ys : List Call) → CallsWithin n xs → CallsWithin n ys → (m : ℕ) → own_of m ys ≡ []
    → let t = brought_forward (tabs_of xs) xs ys m in
    (t.live ≡ (tabs_of xs m).live) × (t.contested ≡ (tabs_of xs m).contested) × (t.withdrawn ≡ (tabs_of xs m).withdrawn) × (t.count ≡ (tabs_of xs m).count)
unfolding brought_forward forward_count tabs_of tally
unnamed_keep n xs ys v w m e =
    let l = keeps live (of_state live (own_of m xs)) in
    let c = keeps contested (of_state contested (own_of m xs)) in
    let d = keeps withdrawn (of_state withdrawn (own_of m xs)) in
    (l, c, d, omega (arith, states_all n (own_of m xs) (own_within n m xs v)))
  where
    keeps : (s before : ℕ) → forward_state before xs ys m s ≡ before
    keeps s before = let p = no_part n xs v m s ys w e in omega arith
