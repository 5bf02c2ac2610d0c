-- A row and a statement's last lines, case by case. Assumes nothing.
use mathlib.Core.Path.{◌≡◌, sym, ap, ◌∙◌}
use mathlib.Core.Bool.{Bool, true, false}
use Prim.Native.Nat.{ℕ, ◌+◌}
use borrow.Author.Tests.{eq-eqb, ne_eqb}
use lib.Dec.{eqb}
use lib.IntN.{ℤ}
use Rattle.units.specs.declared.Fen.{Fen}
use Rattle.units.specs.Money.{grains_to_fen}
use Rattle.ceiling.specs.Ceiling.{CeiledPart}
use Rattle.std.specs.Prelude.{Err}
use Rattle.month.specs.declared.Row.{Row}
use Rattle.month.specs.declared.Statement.{Statement}
use Rattle.fitting.specs.declared.Finding.TheVariants.{Compensation, Weight, Share, Uncollected, Given, Amount, Total, User}
use Rattle.fitting.specs.Fitting.{Fits, same_fen, weight_by, status_for, weight_for, own_apart, part_apart, total_apart, user_apart}

module _ (b : Bool) (energy weight : ℕ) where
  pub status_0 : weight ≡ weight_by b 0 energy → 0 ≡ status_for b energy weight
  unfolding status_for
  status_0 e = rw (eq-eqb weight (weight_by b 0 energy) e)

  module _ (n0 : weight ≡ weight_by b 0 energy → ⊥) where
    pub status_1 : weight ≡ weight_by b 1 energy → 1 ≡ status_for b energy weight
    unfolding status_for
    status_1 e = rw (ne_eqb weight (weight_by b 0 energy) n0, eq-eqb weight (weight_by b 1 energy) e)

    module _ (n1 : weight ≡ weight_by b 1 energy → ⊥) where
      pub status_2 : weight ≡ weight_by b 2 energy → 2 ≡ status_for b energy weight
      unfolding status_for
      status_2 e = rw (ne_eqb weight (weight_by b 0 energy) n0, ne_eqb weight (weight_by b 1 energy) n1, eq-eqb weight (weight_by b 2 energy) e)

      pub status_none : (weight ≡ weight_by b 2 energy → ⊥) → 0 ≡ status_for b energy weight
      unfolding status_for
      status_none n2 = rw (ne_eqb weight (weight_by b 0 energy) n0, ne_eqb weight (weight_by b 1 energy) n1, ne_eqb weight (weight_by b 2 energy) n2)

module _ (b : Bool) (line : ℕ) (r : Row) (fen : Fen) (is : fen.0 ≡ grains_to_fen r.grains.0) where
  pub own_fen : (r.compensation.0 ≡ fen.0 → ⊥) → Err (Compensation line r.compensation fen) ≡ own_apart b line r
  unfolding own_apart
  own_fen n =
      rw (ne_eqb r.compensation.0 (grains_to_fen r.grains.0) (λ e. n (e ∙ sym is)))
      (ap (λ (x : ℕ). Err (Compensation line r.compensation (record { 0 = x }))) is)

  module _ (same : r.compensation.0 ≡ fen.0) where
    paid_up : eqb r.compensation.0 (grains_to_fen r.grains.0) ≡ true
    paid_up = eq-eqb r.compensation.0 (grains_to_fen r.grains.0) (same ∙ is)

    pub own_weight : (follows : ℕ) → follows ≡ weight_for b r.energy.0 r.weight → (r.weight ≡ follows → ⊥) → Err (Weight line r.weight follows) ≡ own_apart b line r
    unfolding own_apart
    own_weight follows e n =
        rw (paid_up, ne_eqb r.weight (weight_for b r.energy.0 r.weight) (λ k. n (k ∙ sym e))) (ap (λ (x : ℕ). Err (Weight line r.weight x)) e)

    pub own_fits : (follows : ℕ) → follows ≡ weight_for b r.energy.0 r.weight → r.weight ≡ follows → Fits ≡ own_apart b line r
    unfolding own_apart
    own_fits follows e k = rw (paid_up, eq-eqb r.weight (weight_for b r.energy.0 r.weight) (k ∙ e))

module _ (line : ℕ) (r : Row) (p : CeiledPart) where
  pub share_apart : same_fen r.share.0 p.share ≡ false → Err (Share line r.share (record { 0 = p.share })) ≡ part_apart line r p
  unfolding part_apart
  share_apart e = rw e

  module _ (s : same_fen r.share.0 p.share ≡ true) where
    pub uncollected_apart : (r.uncollected.0 ≡ p.uncollected → ⊥) → Err (Uncollected line r.uncollected (record { 0 = p.uncollected })) ≡ part_apart line r p
    unfolding part_apart
    uncollected_apart n = rw (s, ne_eqb r.uncollected.0 p.uncollected n)

    module _ (u : r.uncollected.0 ≡ p.uncollected) where
      pub given_apart : (r.given.0 ≡ p.given → ⊥) → Err (Given line r.given (record { 0 = p.given })) ≡ part_apart line r p
      unfolding part_apart
      given_apart n = rw (s, eq-eqb r.uncollected.0 p.uncollected u, ne_eqb r.given.0 p.given n)

      module _ (g : r.given.0 ≡ p.given) where
        pub amount_apart : same_fen r.amount.0 p.amount ≡ false → Err (Amount line r.amount (record { 0 = p.amount })) ≡ part_apart line r p
        unfolding part_apart
        amount_apart e = rw (s, eq-eqb r.uncollected.0 p.uncollected u, eq-eqb r.given.0 p.given g, e)

        pub part_fits : same_fen r.amount.0 p.amount ≡ true → Fits ≡ part_apart line r p
        unfolding part_apart
        part_fits e = rw (s, eq-eqb r.uncollected.0 p.uncollected u, eq-eqb r.given.0 p.given g, e)

module _ (s : Statement) (z : ℤ) where
  pub total_fits : same_fen s.gap.0 z ≡ true → Fits ≡ total_apart s z
  unfolding total_apart
  total_fits e = rw e

  pub total_not : same_fen s.gap.0 z ≡ false → Err (Total (1 + s.count) s.gap (record { 0 = z })) ≡ total_apart s z
  unfolding total_apart
  total_not e = rw e

  pub user_fits : same_fen s.user.0 z ≡ true → Fits ≡ user_apart s z
  unfolding user_apart
  user_fits e = rw e

  pub user_not : same_fen s.user.0 z ≡ false → Err (User (2 + s.count) s.user (record { 0 = z })) ≡ user_apart s z
  unfolding user_apart
  user_not e = rw e
