-- Demand 3, for lists of calls: any order, any grouping, any repetition. Assumes nothing.
use mathlib.Core.Path.{◌≡◌, refl, sym, ◌∙◌, subst}
use mathlib.Core.Bool.{Bool, true, false, true≢false}
use mathlib.Core.Logic.{◌⊎◌, inl, inr, ⊎_elim}
use mathlib.Core.List.Memᴰ
use mathlib.Core.List.Memᴰ.{cases_cons as in-cons}
use mathlib.Core.List.Memᴰ.{head as here}
use mathlib.Core.List.Memᴰ.{tail as there}
use mathlib.Core.List.{List, [], ◌∷◌, Memᴰ as In}
use mathlib.Core.Option.{Option, none, some}
use Prim.Native.Nat.{ℕ, ◌≤◌}
use native.Mathlib.Omega.{arith}
use Rattle.call.specs.declared.Call.{Call}
use Rattle.call.specs.Service.{CallWithin}
use Rattle.rule.specs.Standing.{is_withdrawn}
use Rattle.rule.specs.Joined.{join_calls}
use Rattle.rule.specs.Keys.{record_of}
use Rattle.rule.specs.Whole.{rule_over, Tree, leaf, node, leaves, tree_joined}
use Rattle.rule.proofs.Keyed.{find_in, within_in}
use Rattle.rule.proofs.Lattice.{below_rank, rank}
use Rattle.rule.proofs.Bounds.{Under, Calls, Sounds, least_one, tree_sound, tree_least, trees_agree}
use Rattle.rule.proofs.Ruling.{rule_least, gone_rank, here_rank}

-- the leaves of t are the books of bs, each at least once
pub record Over (t : Tree) (bs : List (List Call)) : Type 0 where
  pub all : (b : List Call) → In b bs → In b (leaves t)
  pub only : (b : List Call) → In b (leaves t) → In b bs

pub leaves_sound : (m : ℕ) (t : Tree) (bs : List (List Call)) → Over t bs → Sounds m bs → Sounds m (leaves t)
leaves_sound m t bs o s b i = s b (o.only b i)

-- each key's record is the one that the rule over the whole list gives
pub joined_rule : (m : ℕ) (t : Tree) (bs : List (List Call)) → Over t bs → Sounds m bs → (k : ℕ) → record_of k (tree_joined t) ≡ rule_over bs k
joined_rule m t bs o s k =
    least_one (leaves t) bs k _ _ o.only o.all (tree_least m k t (leaves_sound m t bs o s)) (rule_least m bs k s)

-- any two ways of joining give the same list
pub same_list : (m : ℕ) (t u : Tree) (bs : List (List Call)) → Over t bs → Over u bs → Sounds m bs → tree_joined t ≡ tree_joined u
same_list m t u bs o p s =
    trees_agree m t u (λ b i. p.all b (o.only b i)) (λ b i. o.all b (p.only b i)) (leaves_sound m t bs o s) (leaves_sound m u bs p s)

-- a call withdrawn in any of them is withdrawn in the result
pub stays_withdrawn : (m : ℕ) (t : Tree) (bs : List (List Call)) → Over t bs → Sounds m bs → (b : List Call) → In b bs
    → (k : ℕ) (w : Call) → record_of k b ≡ some w → is_withdrawn w ≡ true
    → (r : Call) × (record_of k (tree_joined t) ≡ some r) × (is_withdrawn r ≡ true)
stays_withdrawn m t bs o s b i k w e g = go (record_of k (tree_joined t)) refl
  where
    sounds : Sounds m (leaves t)
    sounds = leaves_sound m t bs o s

    under : Under (some w) (record_of k (tree_joined t))
    under = subst (λ (p : Option Call). Under p (record_of k (tree_joined t))) e ((tree_least m k t sounds).above b (o.all b i))

    high : (r : Call) → CallWithin m r → rank w ≤ rank r → (c : Bool) → is_withdrawn r ≡ c → is_withdrawn r ≡ true
    high r p h true q = q
    high r p h false q = absurd (omega (arith, gone_rank w g, (here_rank r (λ v. true≢false (sym v ∙ q))).0, p.revision.1))

    go : (p : Option Call) → record_of k (tree_joined t) ≡ p → (r : Call) × (record_of k (tree_joined t) ≡ some r) × (is_withdrawn r ≡ true)
    go none q = absurd (subst (λ (p : Option Call). Under (some w) p) q under)
    go (some r) q =
        let w-in = within_in m (tree_joined t) r (tree_sound m t sounds).within (find_in k (tree_joined t) r q).0 in
        (r, q, high r w-in (below_rank w r (subst (λ (p : Option Call). Under (some w) p) q under)) (is_withdrawn r) refl)

-- the three laws are three pairs of trees
two : (a b : List Call) → Tree
two a b = node (leaf a) (leaf b)

module _ (a b : List Call) where
  either : (d : List Call) → In d (leaves (two a b)) → (d ≡ a) ⊎ (d ≡ b)
  unfolding leaves two
  either d i = ⊎_elim inl (λ j. inr (Memᴰ.eq_of_singleton j)) (in-cons i)

  or_either : (d : List Call) → (d ≡ a) ⊎ (d ≡ b) → In d (leaves (two a b))
  unfolding leaves two
  or_either d (inl e) = here e
  or_either d (inr e) = there (here e)

pub commutes : (m : ℕ) (a b : List Call) → Calls m a → Calls m b → join_calls a b ≡ join_calls b a
unfolding tree_joined two
commutes m a b p q =
    trees_agree m (two a b) (two b a) (λ d i. or_either b a d (⊎_elim inr inl (either a b d i))) (λ d i. or_either a b d (⊎_elim inr inl (either b a d i)))
    (λ d i. ⊎_elim (λ (e : d ≡ a). rw e p) (λ (e : d ≡ b). rw e q) (either a b d i))
    (λ d i. ⊎_elim (λ (e : d ≡ b). rw e q) (λ (e : d ≡ a). rw e p) (either b a d i))

pub repeats : (m : ℕ) (a : List Call) → Calls m a → join_calls a a ≡ a
unfolding tree_joined two leaves
repeats m a p =
    trees_agree m (two a a) (leaf a) (λ d i. here (⊎_elim (λ (e : d ≡ a). e) (λ (e : d ≡ a). e) (either a a d i)))
    (λ d i. or_either a a d (inl (Memᴰ.eq_of_singleton i)))
    (λ d i. ⊎_elim (λ (e : d ≡ a). rw e p) (λ (e : d ≡ a). rw e p) (either a a d i)) (λ d i. rw (Memᴰ.eq_of_singleton i) p)

pub associates : (m : ℕ) (a b c : List Call) → Calls m a → Calls m b → Calls m c → join_calls (join_calls a b) c ≡ join_calls a (join_calls b c)
unfolding tree_joined two leaves
associates m a b c p q r =
    trees_agree m (node (two a b) (leaf c)) (node (leaf a) (two b c)) (λ d i. i) (λ d i. i) sounds sounds
  where
    sounds : (d : List Call) → In d (a ∷ b ∷ c ∷ []) → Calls m d
    sounds d i =
        ⊎_elim (λ (e : d ≡ a). rw e p)
        (λ j. ⊎_elim (λ (e : d ≡ b). rw e q) (λ k. let e : d ≡ c = Memᴰ.eq_of_singleton k in rw e r) (in-cons j)) (in-cons i)
