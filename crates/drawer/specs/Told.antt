-- A list of records as it is told, one after another. Assumes nothing.
use Rattle.std.specs.Prelude.{Bool, cond, List, [], ◌∷◌, ℕ, zero, suc}

-- of so many records, from record i on, what is told of each that is listed
unfoldable pub told_from : {A : Type 0} → (ℕ → Bool) → (ℕ → A) → ℕ → ℕ → List A
told_from listed told i zero = []
told_from listed told i (suc left) = cond (listed i) (told i ∷ told_from listed told (suc i) left) (told_from listed told (suc i) left)
