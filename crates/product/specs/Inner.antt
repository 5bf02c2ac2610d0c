-- What inner contracts speak of: a product on its way. Assumes nothing.
use Rattle.std.specs.Prelude.{◌≡◌, ℕ, ◌+◌, ◌*◌, ◌/◌, ◌^◌, ◌<◌}
use Rattle.product.specs.declared.Quot.{Quot}
use Rattle.product.specs.declared.Going.{Going}

-- the number of which a quotient and a remainder by `all` are the parts
abbrev pub whole : ℕ → Quot → ℕ
whole all p = p.q * all + p.r

-- what the product will be: what is done, and what is left times the step
abbrev pub comes : ℕ → Going → ℕ
comes all g = whole all g.done + g.left * whole all g.step

-- it can go one halving further
pub record Goes (all : ℕ) (g : Going) : Type 0 where
  pub some : 0 < g.left
  pub done_small : g.done.r < all
  pub step_small : g.step.r < all
  pub done_fits : g.done.q < 2 ^ 63
  pub step_fits : g.step.q < 2 ^ 63

-- it went one halving further
pub record Went (all : ℕ) (g r : Going) : Type 0 where
  pub same : comes all r ≡ comes all g
  pub half : r.left ≡ g.left / 2
  pub done_small : r.done.r < all
  pub step_small : r.step.r < all
