-- The whole result of a tree of joins: the rule's record at each of the different keys. Assumes nothing.
use mathlib.Core.Path.{◌≡◌, refl, sym, ◌∙◌, ap, subst}
use mathlib.Core.Logic.{◌⊎◌, inl, inr}
use mathlib.Core.List.Memᴰ.{head as here}
use mathlib.Core.List.{List, [], ◌∷◌, Memᴰ as In}
use mathlib.Core.Option.{Option, none, some}
use Prim.Native.Nat.{ℕ, ◌<◌}
use native.Mathlib.Omega.{arith}
use lib.ListN.{length}
use Rattle.call.specs.declared.Call.{Call}
use Rattle.book.specs.Book.{most_keys}
use Rattle.rule.specs.Keys.{record_of, different_keys, records_at}
use Rattle.rule.specs.Whole.{records_of, those, ruling, rule_for, rule_over, rule_calls, Tree, tree_joined}
use Rattle.rule.proofs.Keyed.{find_in, ext_find}
use Rattle.rule.proofs.Different.{Keyed, different_rise, in_different, different_in, at_find, at_rises, at_length}
use Rattle.rule.proofs.Bounds.{Under, Calls, Sounds, tree_sound, tree_least}
use Rattle.rule.proofs.Ruling.{records_in}
use Rattle.rule.proofs.Orders.{Over, leaves_sound, joined_rule}

rule_empty : rule_for [] ≡ none
unfolding rule_for those ruling
rule_empty = refl

module _ (m : ℕ) (t : Tree) (bs : List (List Call)) (o : Over t bs) (s : Sounds m bs) where
  result : Calls m (tree_joined t)
  result = tree_sound m t (leaves_sound m t bs o s)

  -- the rule gives a key a record of that key
  keyed : Keyed (rule_over bs)
  keyed k c e = (find_in k (tree_joined t) c (joined_rule m t bs o s k ∙ e)).1

  -- it gives one to each of the different keys, and to no other
  ruled : (k : ℕ) → In k (different_keys bs) → (c : Call) × (rule_over bs k ≡ some c)
  ruled k i = go (record_of k (tree_joined t)) refl
    where
      book : (b : List Call) × In b bs × ((c : Call) × (record_of k b ≡ some c))
      book = different_in bs k i

      under : Under (some book.2.0) (record_of k (tree_joined t))
      under =
          subst (λ (p : Option Call). Under p (record_of k (tree_joined t))) book.2.1
          ((tree_least m k t (leaves_sound m t bs o s)).above book.0 (o.all book.0 book.1))

      go : (p : Option Call) → record_of k (tree_joined t) ≡ p → (c : Call) × (rule_over bs k ≡ some c)
      go none e = absurd (subst (λ (p : Option Call). Under (some book.2.0) p) e under)
      go (some r) e = (r, sym (joined_rule m t bs o s k) ∙ e)

  or_none : (k : ℕ) → (rule_over bs k ≡ none) ⊎ In k (different_keys bs)
  unfolding rule_over
  or_none k = go (records_of k bs) refl
    where
      go : (cs : List Call) → records_of k bs ≡ cs → (rule_for (records_of k bs) ≡ none) ⊎ In k (different_keys bs)
      go [] e = inl (ap rule_for e ∙ rule_empty)
      go (d ∷ ds) e =
          let f = records_in k bs d (subst (λ (l : List Call). In d l) (sym e) (here refl)) in
          inr (in_different bs f.0 k f.1 (d, f.2))

  -- any order, grouping and repetition: the result is the rule's record at each of the different keys
  pub any_order : tree_joined t ≡ rule_calls bs
  unfolding rule_calls
  any_order =
      ext_find 0 0 (tree_joined t) (records_at (rule_over bs) (different_keys bs)) result.rises (at_rises (rule_over bs) keyed 0 (different_keys bs) (different_rise bs))
      (λ k. joined_rule m t bs o s k ∙ sym (at_find (rule_over bs) keyed k (different_keys bs) (or_none k)))

  -- as many records as the books have different keys
  pub number_of_keys : length (tree_joined t) ≡ length (different_keys bs)
  unfolding rule_calls
  number_of_keys = ap length any_order ∙ at_length (rule_over bs) (different_keys bs) ruled

  -- more different keys than a book may have: every tree gives more
  pub too_many : most_keys < length (different_keys bs) → most_keys < length (tree_joined t)
  too_many h = omega (arith, number_of_keys)
