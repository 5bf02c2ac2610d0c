-- The names of columns, where a test decides on them. Assumes nothing.
use Rattle.std.proofs.Common.{◌≡◌, ℕ, eq-eqb, ne_eqb}
use Rattle.render.specs.Decimal.{word}
use Rattle.hour_faults.specs.Words.{column_name}

module _ (column : ℕ) where
  pub name_1 : column ≡ 1 → word "HOUR" ≡ column_name column
  unfolding column_name
  name_1 e = rw (eq-eqb column 1 e)

  module _ (n1 : column ≡ 1 → ⊥) where
    pub name_2 : column ≡ 2 → word "START" ≡ column_name column
    unfolding column_name
    name_2 e = rw (ne_eqb column 1 n1, eq-eqb column 2 e)

    module _ (n2 : column ≡ 2 → ⊥) where
      pub name_3 : column ≡ 3 → word "END" ≡ column_name column
      unfolding column_name
      name_3 e = rw (ne_eqb column 1 n1, ne_eqb column 2 n2, eq-eqb column 3 e)

      module _ (n3 : column ≡ 3 → ⊥) where
        pub name_4 : column ≡ 4 → word "COMMAND" ≡ column_name column
        unfolding column_name
        name_4 e = rw (ne_eqb column 1 n1, ne_eqb column 2 n2, ne_eqb column 3 n3, eq-eqb column 4 e)

        module _ (n4 : column ≡ 4 → ⊥) where
          pub name_5 : column ≡ 5 → word "DELAY" ≡ column_name column
          unfolding column_name
          name_5 e = rw (ne_eqb column 1 n1, ne_eqb column 2 n2, ne_eqb column 3 n3, ne_eqb column 4 n4, eq-eqb column 5 e)

          module _ (n5 : column ≡ 5 → ⊥) where
            pub name_6 : column ≡ 6 → word "REAL" ≡ column_name column
            unfolding column_name
            name_6 e = rw (ne_eqb column 1 n1, ne_eqb column 2 n2, ne_eqb column 3 n3, ne_eqb column 4 n4, ne_eqb column 5 n5, eq-eqb column 6 e)

            pub name_7 : (column ≡ 6 → ⊥) → word "STANDARD" ≡ column_name column
            unfolding column_name
            name_7 n6 = rw (ne_eqb column 1 n1, ne_eqb column 2 n2, ne_eqb column 3 n3, ne_eqb column 4 n4, ne_eqb column 5 n5, ne_eqb column 6 n6)
