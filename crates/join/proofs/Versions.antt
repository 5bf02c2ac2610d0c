-- The version of a join, and of a tree of joins. Assumes nothing.
use mathlib.Core.Path.{◌≡◌, refl}
use mathlib.Core.Bool.{Bool, true, false, cond, ◌&&◌}
use mathlib.Core.List.{[], ◌∷◌, ◌++◌}
use Prim.Native.Nat.{ℕ, ◌≤◌}
use lib.Dec.{eqb, leb}
use borrow.Author.Tests.{leb-true}
use Rattle.le.proofs.Tests.{each}
use Rattle.book.specs.Book.{first_version, second_version, most_records, most_keys, version_at}
use Rattle.book.specs.Sound.{Known}
use Rattle.book.proofs.Heads.{first_known, second_known, second_fits}
use Rattle.join.specs.Joining.{key_count, stays_first, pair_version}
use Rattle.join.specs.Trees.{Plan, book, join, books}

-- It is one that is read, and allows as many records as there are keys.
pub pair_known : (v w n : ℕ) → Known (pair_version v w n)
unfolding pair_version
pair_known v w n = go (stays_first v w n)
  where
    go : (t : Bool) → Known (cond t first_version second_version)
    go true = first_known
    go false = second_known

pub pair_most : (v w n : ℕ) → n ≤ most_keys → n ≤ most_records (pair_version v w n)
unfolding pair_version
pair_most v w n l = go (stays_first v w n) refl
  where
    go : (t : Bool) → stays_first v w n ≡ t → n ≤ most_records (cond t first_version second_version)
    go true e = leb-true _ _ (each (eqb v first_version) (eqb w first_version ∷ leb n (most_records first_version) ∷ []) e).1.1.0
    go false e = second_fits n l

-- by the test, with the most records of the first version as they were asked for
pub pair_first : (v w n most : ℕ) → most ≡ most_records first_version → (eqb v first_version && eqb w first_version && leb n most) ≡ true → first_version ≡ pair_version v w n
unfolding pair_version
pair_first v w n most m e = let t : stays_first v w n ≡ true = rw m at e in rw t refl

pub pair_second : (v w n most : ℕ) → most ≡ most_records first_version → (eqb v first_version && eqb w first_version && leb n most) ≡ false → second_version ≡ pair_version v w n
unfolding pair_version
pair_second v w n most m e = let t : stays_first v w n ≡ false = rw m at e in rw t refl

-- the version that a tree gives
unfoldable pub tree_version : Plan → ℕ
tree_version (book b) = version_at b
tree_version (join l r out) = pair_version (tree_version l) (tree_version r) (key_count (books l ++ books r))
