-- What the books of a list have at one key, and its least upper bound. A tree of joins gives it. Assumes nothing.
use mathlib.Core.Path.{◌≡◌, refl, sym, ◌∙◌, ap}
use mathlib.Core.Logic.{⊎_elim}
use mathlib.Core.List.Memᴰ
use mathlib.Core.List.Memᴰ.{cases_cons as in-cons}
use mathlib.Core.List.Memᴰ.{head as here}
use mathlib.Core.List.{List, [], ◌∷◌, ◌++◌, Memᴰ as In}
use mathlib.Core.List.Memᴰ.{append_cases as in-append}
use mathlib.Core.List.Memᴰ.{not-nil as in-nil}
use mathlib.Core.Option.{Option, none, some}
use Prim.Native.Nat.{ℕ}
use Rattle.call.specs.declared.Call.{Call}
use Rattle.call.specs.Key.{call_key}
use Rattle.call.specs.Service.{CallWithin}
use Rattle.book.specs.Sound.{CallsWithin, Rises}
use Rattle.rule.specs.Keys.{record_of, also, different_keys, records_at}
use Rattle.rule.specs.Joined.{joined_at, joined_for, join_calls}
use Rattle.rule.specs.Whole.{Tree, leaf, node, leaves, tree_joined}
use Rattle.rule.proofs.Keyed.{within_in, find_in, ext_find}
use Rattle.rule.proofs.Lattice.{Below, below_refl, below_trans, below_anti, stand_left, stand_right, stand_least, stand_key, stand_within}
use Rattle.rule.proofs.Joins.{join_find, join_rises}

-- no record is below every record
abbrev pub Under : Option Call → Option Call → Type 0
Under none z = Unit {0}
Under (some x) none = ⊥
Under (some x) (some z) = Below x z

pub under_refl : (o : Option Call) → Under o o
under_refl none = tt
under_refl (some x) = below_refl x

pub under_trans : (o p q : Option Call) → Under o p → Under p q → Under o q
under_trans none p q a b = tt
under_trans (some x) none q a b = absurd a
under_trans (some x) (some y) none a b = b
under_trans (some x) (some y) (some z) a b = below_trans x y z a b

pub under_anti : (o p : Option Call) → Under o p → Under p o → o ≡ p
under_anti none none a b = refl
under_anti none (some y) a b = absurd b
under_anti (some x) none a b = absurd a
under_anti (some x) (some y) a b = ap some (below_anti x y a b)

-- a sound record of key k, or none
abbrev pub Good : ℕ → ℕ → Option Call → Type 0
Good m k none = Unit {0}
Good m k (some c) = CallWithin m c × (call_key c ≡ k)

pub good_find : (m k : ℕ) (b : List Call) → CallsWithin m b → Good m k (record_of k b)
good_find m k b w = go (record_of k b) refl
  where
    go : (o : Option Call) → record_of k b ≡ o → Good m k o
    go none e = tt
    go (some c) e = let h = find_in k b c e in (within_in m b c w h.0, h.1)

-- `joined_at` is the least upper bound of two
pub up_left : (m k : ℕ) (o p : Option Call) → Good m k o → Good m k p → Under o (joined_at o p)
unfolding joined_at
up_left m k none p g h = tt
up_left m k (some x) none g h = below_refl x
up_left m k (some x) (some y) g h = stand_left x y g.0 h.0 (g.1 ∙ sym h.1)

pub up_right : (m k : ℕ) (o p : Option Call) → Good m k o → Good m k p → Under p (joined_at o p)
unfolding joined_at
up_right m k none none g h = tt
up_right m k none (some y) g h = below_refl y
up_right m k (some x) none g h = tt
up_right m k (some x) (some y) g h = stand_right x y g.0 h.0 (g.1 ∙ sym h.1)

pub up_least : (m k : ℕ) (o p : Option Call) → Good m k o → Good m k p → (z : Option Call) → Under o z → Under p z → Under (joined_at o p) z
unfolding joined_at
up_least m k none none g h z a b = tt
up_least m k none (some y) g h z a b = b
up_least m k (some x) none g h z a b = a
up_least m k (some x) (some y) g h none a b = a
up_least m k (some x) (some y) g h (some z) a b = stand_least x y g.0 h.0 (g.1 ∙ sym h.1) z a b

-- the calls of a sound book, of a month of so many minutes
pub record Calls (m : ℕ) (b : List Call) : Type 0 where
  pub within : CallsWithin m b
  pub rises : Rises 0 b

abbrev pub Sounds : ℕ → List (List Call) → Type 0
Sounds m bs = (b : List Call) → In b bs → Calls m b

-- o is the least record above what each book has at k
pub record Least (bs : List (List Call)) (k : ℕ) (o : Option Call) : Type 0 where
  pub above : (b : List Call) → In b bs → Under (record_of k b) o
  pub least : (z : Option Call) → ((b : List Call) → In b bs → Under (record_of k b) z) → Under o z

-- there is one such record, and it depends only on which books there are
pub least_one : (bs cs : List (List Call)) (k : ℕ) (o p : Option Call)
    → ((b : List Call) → In b bs → In b cs) → ((b : List Call) → In b cs → In b bs) → Least bs k o → Least cs k p → o ≡ p
least_one bs cs k o p s t l m =
    under_anti o p (l.least p (λ b i. m.above b (s b i))) (m.least o (λ b i. l.above b (t b i)))

-- joining keeps books sound
joined_good : (m k : ℕ) (o p : Option Call) → Good m k o → Good m k p → Good m k (joined_at o p)
unfolding joined_at
joined_good m k none none g h = tt
joined_good m k (some x) none g h = g
joined_good m k none (some y) g h = h
joined_good m k (some x) (some y) g h =
    let e = g.1 ∙ sym h.1 in
    (stand_within x y g.0 h.0 e, stand_key x y e ∙ g.1)

at_within : (m : ℕ) (f : ℕ → Option Call) → ((k : ℕ) → Good m k (f k)) → (ks : List ℕ) → CallsWithin m (records_at f ks)
unfolding records_at also
at_within m f g [] = tt
at_within m f g (k ∷ ks) = go (f k) (g k) (at_within m f g ks)
  where
    go : (o : Option Call) → Good m k o → CallsWithin m (records_at f ks) → CallsWithin m (also o (records_at f ks))
    go none h w = w
    go (some c) h w = (h.0, w)

pub join_sound_lem : (m : ℕ) (xs ys : List Call) → Calls m xs → Calls m ys → Calls m (join_calls xs ys)
unfolding join_calls joined_for
join_sound_lem m xs ys s t =
    record {
      within = at_within m (joined_for xs ys) (λ k. joined_good m k _ _ (good_find m k xs s.within) (good_find m k ys t.within)) (different_keys (xs ∷ ys ∷ []));
      rises = join_rises xs ys;
    }

module _ (m : ℕ) (l r : Tree) (s : Sounds m (leaves (node l r))) where
  left_sounds : Sounds m (leaves l)
  unfolding leaves
  left_sounds b i = s b (Memᴰ.append_left (leaves r) i)

  right_sounds : Sounds m (leaves r)
  unfolding leaves
  right_sounds b i = s b (Memᴰ.append_right (leaves l) i)

pub tree_sound : (m : ℕ) (t : Tree) → Sounds m (leaves t) → Calls m (tree_joined t)
unfolding leaves tree_joined
tree_sound m (leaf b) s = s b (here refl)
tree_sound m (node l r) s = join_sound_lem m (tree_joined l) (tree_joined r) (tree_sound m l (left_sounds m l r s)) (tree_sound m r (right_sounds m l r s))

-- a join gives the least upper bound of the leaves of both sides
join_least : (m k : ℕ) (xs ys : List Call) (bs cs : List (List Call)) → Calls m xs → Calls m ys
    → Least bs k (record_of k xs) → Least cs k (record_of k ys) → Least (bs ++ cs) k (record_of k (join_calls xs ys))
join_least m k xs ys bs cs s t l n =
    let o = record_of k xs in
    let p = record_of k ys in
    let g = good_find m k xs s.within in
    let h = good_find m k ys t.within in
    rw (join_find xs ys k)
    (record {
      above = λ b i.
          ⊎_elim (λ j. under_trans (record_of k b) o (joined_at o p) (l.above b j) (up_left m k o p g h))
          (λ j. under_trans (record_of k b) p (joined_at o p) (n.above b j) (up_right m k o p g h)) (in-append bs i);
      least = λ z u. up_least m k o p g h z (l.least z (λ b i. u b (Memᴰ.append_left cs i))) (n.least z (λ b i. u b (Memᴰ.append_right bs i)));
    })

-- and so does a tree of joins
pub tree_least : (m k : ℕ) (t : Tree) → Sounds m (leaves t) → Least (leaves t) k (record_of k (tree_joined t))
unfolding leaves tree_joined
tree_least m k (leaf b) s =
    record { above = λ d i. ⊎_elim (λ (e : d ≡ b). rw e (under_refl (record_of k b))) (λ j. absurd (in-nil j)) (in-cons i); least = λ z h. h b (here refl) }
tree_least m k (node l r) s =
    join_least m k (tree_joined l) (tree_joined r) (leaves l) (leaves r) (tree_sound m l (left_sounds m l r s)) (tree_sound m r (right_sounds m l r s))
    (tree_least m k l (left_sounds m l r s)) (tree_least m k r (right_sounds m l r s))

-- Any two trees over the same books give the same list.
pub trees_agree : (m : ℕ) (t u : Tree) → ((b : List Call) → In b (leaves t) → In b (leaves u)) → ((b : List Call) → In b (leaves u) → In b (leaves t))
    → Sounds m (leaves t) → Sounds m (leaves u) → tree_joined t ≡ tree_joined u
trees_agree m t u f g s v =
    ext_find 0 0 (tree_joined t) (tree_joined u) (tree_sound m t s).rises (tree_sound m u v).rises
    (λ k. least_one (leaves t) (leaves u) k _ _ f g (tree_least m k t s) (tree_least m k u v))
