-- A product over a divisor. Assumes nothing.
use Rattle.std.specs.Prelude.{◌≡◌, ℕ, ◌+◌, ◌*◌, ◌<◌}

-- a product is divided: q is the quotient by `all`, r the remainder
pub record Parts (product all q r : ℕ) : Type 0 where
  pub sum : q * all + r ≡ product
  pub small : r < all
