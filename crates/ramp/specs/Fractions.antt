-- Fractions, perhaps below zero, reckoned as fractions are: nothing is cut on the way. Assumes nothing.
use Rattle.std.specs.Prelude.{List, [], ◌∷◌, ℕ, ◌*◌, ◌/◌, ℤ, pos, negsuc, ◌+ℤ◌, ◌-ℤ◌, ◌*ℤ◌, length}

-- numerator over denominator
pub record Fraction : Type 0 where
  pub numerator : ℤ
  pub denominator : ℕ

-- n over d
unfoldable pub fraction : ℕ → ℕ → Fraction
fraction n d = record { numerator = pos n; denominator = d }

-- the sum and the difference of two, over the product of their denominators
unfoldable pub plus : Fraction → Fraction → Fraction
plus x y =
    record {
      numerator = x.numerator *ℤ pos y.denominator +ℤ y.numerator *ℤ pos x.denominator;
      denominator = x.denominator * y.denominator;
    }

unfoldable pub less : Fraction → Fraction → Fraction
less x y =
    record {
      numerator = x.numerator *ℤ pos y.denominator -ℤ y.numerator *ℤ pos x.denominator;
      denominator = x.denominator * y.denominator;
    }

-- the product
unfoldable pub times : Fraction → Fraction → Fraction
times x y = record { numerator = x.numerator *ℤ y.numerator; denominator = x.denominator * y.denominator }

-- several added up
unfoldable pub sum : List Fraction → Fraction
sum [] = fraction 0 1
sum (x ∷ xs) = plus x (sum xs)

-- their mean: one over how many they are, times their sum
unfoldable pub mean : List Fraction → Fraction
mean xs = times (fraction 1 (length xs)) (sum xs)

-- cut to a whole number; what is below zero is 0
abbrev pub whole_of : ℤ → ℕ → ℕ
whole_of (pos n) d = n / d
whole_of (negsuc n) d = 0

unfoldable pub cut : Fraction → ℕ
cut x = whole_of x.numerator x.denominator
