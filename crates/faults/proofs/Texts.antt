-- The words where a test decides on them. Assumes nothing.
use Rattle.std.proofs.Common.{◌≡◌, ℕ, ◌/◌, ◌<◌, ◌≤◌, [], ◌++◌, le-ltb, lt-ltb, eq-eqb, ne_eqb}
use Rattle.row.specs.Numbers.{ceiling}
use Rattle.render.specs.Decimal.{word, decimal, field}
use Rattle.faults.specs.Words.{column_name, number_text, cells_text, parted_text, neither_text, lines_text, thousand_text, grouped}

module _ (column : ℕ) where
  pub name_1 : column ≡ 1 → word "MEMBER" ≡ column_name column
  unfolding column_name
  name_1 e = rw (eq-eqb column 1 e)

  module _ (n1 : column ≡ 1 → ⊥) where
    pub name_2 : column ≡ 2 → word "KIND" ≡ column_name column
    unfolding column_name
    name_2 e = rw (ne_eqb column 1 n1, eq-eqb column 2 e)

    module _ (n2 : column ≡ 2 → ⊥) where
      pub name_3 : column ≡ 3 → word "KW" ≡ column_name column
      unfolding column_name
      name_3 e = rw (ne_eqb column 1 n1, ne_eqb column 2 n2, eq-eqb column 3 e)

      module _ (n3 : column ≡ 3 → ⊥) where
        pub name_4 : column ≡ 4 → word "STATUS" ≡ column_name column
        unfolding column_name
        name_4 e = rw (ne_eqb column 1 n1, ne_eqb column 2 n2, ne_eqb column 3 n3, eq-eqb column 4 e)

        module _ (n4 : column ≡ 4 → ⊥) where
          pub name_5 : column ≡ 5 → word "MWH" ≡ column_name column
          unfolding column_name
          name_5 e = rw (ne_eqb column 1 n1, ne_eqb column 2 n2, ne_eqb column 3 n3, ne_eqb column 4 n4, eq-eqb column 5 e)

          module _ (n5 : column ≡ 5 → ⊥) where
            pub name_6 : column ≡ 6 → word "THOUSANDTHS" ≡ column_name column
            unfolding column_name
            name_6 e = rw (ne_eqb column 1 n1, ne_eqb column 2 n2, ne_eqb column 3 n3, ne_eqb column 4 n4, ne_eqb column 5 n5, eq-eqb column 6 e)

            pub name_7 : (column ≡ 6 → ⊥) → word "LIMIT" ≡ column_name column
            unfolding column_name
            name_7 n6 = rw (ne_eqb column 1 n1, ne_eqb column 2 n2, ne_eqb column 3 n3, ne_eqb column 4 n4, ne_eqb column 5 n5, ne_eqb column 6 n6)

pub number_shown : (n : ℕ) → n < ceiling → field " " n ≡ number_text n
unfolding number_text
number_shown n h = rw (lt-ltb n ceiling h)

pub number_held : (n : ℕ) → ceiling ≤ n → [] ≡ number_text n
unfolding number_text
number_held n h = rw (le-ltb n ceiling h)

module _ (n : ℕ) where
  pub cells_1 : n ≡ 1 → decimal n ++ word " cell" ≡ cells_text n
  unfolding cells_text
  cells_1 e = rw (eq-eqb n 1 e)

  pub cells_8 : (n ≡ 1 → ⊥) → n ≡ 8 → decimal n ++ word " cells or more" ≡ cells_text n
  unfolding cells_text
  cells_8 n1 e = rw (ne_eqb n 1 n1, eq-eqb n 8 e)

  pub cells_other : (n ≡ 1 → ⊥) → (n ≡ 8 → ⊥) → decimal n ++ word " cells" ≡ cells_text n
  unfolding cells_text
  cells_other n1 n8 = rw (ne_eqb n 1 n1, ne_eqb n 8 n8)

  pub grouped_small : n < 1000 → decimal n ≡ grouped n
  unfolding grouped
  grouped_small h = rw (lt-ltb n 1000 h)

  pub grouped_large : 1000 ≤ n → decimal (n / 1000) ++ thousand_text n ≡ grouped n
  unfolding grouped
  grouped_large h = rw (le-ltb n 1000 h)

  pub lines_1 : n ≡ 1 → word " line, " ≡ lines_text n
  unfolding lines_text
  lines_1 e = rw (eq-eqb n 1 e)

  pub lines_other : (n ≡ 1 → ⊥) → word " lines, " ≡ lines_text n
  unfolding lines_text
  lines_other n1 = rw (ne_eqb n 1 n1)

module _ (n wanted : ℕ) where
  pub parted_more : wanted < n → word " (a separator inside a number parts it, in quotes too)" ≡ parted_text n wanted
  unfolding parted_text
  parted_more h = rw (lt-ltb wanted n h)

  pub parted_fewer : n ≤ wanted → [] ≡ parted_text n wanted
  unfolding parted_text
  parted_fewer h = rw (le-ltb wanted n h)

module _ (column least most : ℕ) where
  pub neither_limit : column ≡ 7 → field " is neither a number from " least ++ field " to " most ++ word " nor - for none" ≡ neither_text column least most
  unfolding neither_text
  neither_limit e = rw (eq-eqb column 7 e)

  pub neither_other : (column ≡ 7 → ⊥) → field " is no number from " least ++ field " to " most ≡ neither_text column least most
  unfolding neither_text
  neither_other n7 = rw (ne_eqb column 7 n7)
