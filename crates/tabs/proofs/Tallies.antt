-- How many of a member's calls are in a state, call by call. Assumes nothing.
use mathlib.Core.Path.{◌≡◌, refl, ap}
use mathlib.Core.Bool.{cond}
use mathlib.Core.List.{List, [], ◌∷◌}
use mathlib.Core.Option.{Option, none, some}
use Prim.Native.Nat.{ℕ, ◌+◌, ◌≤◌}
use native.Mathlib.Omega.{arith}
use native.Mathlib.Decide.{ℕ_discrete}
use lib.Dec.{eqb}
use lib.ListN.{length}
use borrow.Author.Tests.{eq-eqb, ne_eqb}
use Rattle.call.specs.declared.Call.{Call}
use Rattle.rule.specs.Keys.{also}
use Rattle.tabs.specs.Tabs.{own_of, of_state}
use Rattle.tabs.proofs.Members.{own_hit, own_miss}

-- how many of a member's calls are in a state; and of one call alone
unfoldable pub tally : ℕ → ℕ → List Call → ℕ
tally m s cs = of_state s (own_of m cs)

unfoldable pub one : ℕ → ℕ → Call → ℕ
one m s c = tally m s (c ∷ [])

module _ (m s : ℕ) where
  pub tally_nil : tally m s [] ≡ 0
  unfolding tally of_state own_of
  tally_nil = refl

  -- call by call
  pub tally_cons : (c : Call) (cs : List Call) → tally m s (c ∷ cs) ≡ one m s c + tally m s cs
  unfolding one tally of_state own_of
  tally_cons c cs = go (ℕ_discrete c.participant m) (ℕ_discrete c.state s)
    where
      go : Dec (c.participant ≡ m) → Dec (c.state ≡ s) → of_state s (own_of m (c ∷ cs)) ≡ of_state s (own_of m (c ∷ [])) + of_state s (own_of m cs)
      go (yes p) (yes q) = simp (eq-eqb c.participant m p, eq-eqb c.state s q) (omega arith)
      go (yes p) (no q) = simp (eq-eqb c.participant m p, ne_eqb c.state s q) (omega arith)
      go (no p) q = simp (ne_eqb c.participant m p) (omega arith)

  pub tally_also : (o : Option Call) (cs : List Call) → tally m s (also o cs) ≡ tally m s (also o []) + tally m s cs
  unfolding also
  tally_also none cs = omega (arith, tally_nil)
  tally_also (some c) cs = omega (arith, tally_cons c cs, tally_cons c [], tally_nil)

pub one_other : (m s : ℕ) (c : Call) → (c.participant ≡ m → ⊥) → one m s c ≡ 0
unfolding one tally own_of of_state
one_other m s c e = ap (of_state s) (own_miss m c [] e)

-- a call of the member
pub one_own : (m s : ℕ) (c : Call) → c.participant ≡ m → one m s c ≡ cond (eqb c.state s) 1 0
unfolding one tally own_of of_state
one_own m s c e = ap (of_state s) (own_hit m c [] e)

one_most : (m s : ℕ) (c : Call) → one m s c ≤ 1
one_most m s c = go (ℕ_discrete c.participant m) (ℕ_discrete c.state s)
  where
    go : Dec (c.participant ≡ m) → Dec (c.state ≡ s) → one m s c ≤ 1
    go (yes p) (yes q) = rw (one_own m s c p, eq-eqb c.state s q) (omega arith)
    go (yes p) (no q) = rw (one_own m s c p, ne_eqb c.state s q) (omega arith)
    go (no p) q = rw (one_other m s c p) (omega arith)

pub tally_most : (m s : ℕ) (cs : List Call) → tally m s cs ≤ length cs
tally_most m s [] = omega (arith, tally_nil m s)
tally_most m s (c ∷ cs) = omega (arith, tally_cons m s c cs, one_most m s c, tally_most m s cs)
