-- What a join gives now against what it gave in the first edition. Assumes nothing.
use mathlib.Core.Path.{◌≡◌, refl, sym, ◌∙◌}
use mathlib.Core.Bool.{Bool, true, false}
use mathlib.Core.Logic.{inl, inr}
use mathlib.Core.List.{List}
use Prim.Native.Nat.{ℕ, ◌≤◌}
use native.Mathlib.Omega.{arith}
use lib.Dec.{ltb}
use lib.ListN.{length}
use borrow.Author.Tests.{eqb-true, ltb-false, le-ltb, le-leb}
use Rattle.book.specs.Book.{first_version, second_version, most_records, most_keys, size_of, version_at}
use Rattle.book.specs.Check.{accepted}
use Rattle.book.specs.Sound.{Known}
use Rattle.book.proofs.Heads.{versioned_is, first_fits}
use Rattle.book.proofs.Exact.{accepted_tests}
use Rattle.book.proofs.FirstEdition.{check_as_before}
use Rattle.pair.specs.Screening.{IsAccepted, passes, both_sound, same_month, screen}
use Rattle.pair.proofs.Screening.{passed_screen, zero_screened}
use Rattle.join.specs.Joining.{keys_of_both, overflow, joined_of, pair_version, joined_version, join_sound, joining}
use Rattle.join.specs.FirstEdition as before

module _ (a b : List ℕ) (not_a : version_at a ≡ second_version → ⊥) (not-b : version_at b ≡ second_version → ⊥) where
  screen_as_before : screen a b ≡ before.screen a b
  unfolding screen both_sound same_month before.screen before.both_sound before.same_month
  screen_as_before = rw (check_as_before a not_a, check_as_before b not-b) refl

  -- a book that the check accepts is then of the first version
  is_first_lem : (c : List ℕ) → IsAccepted c → (version_at c ≡ second_version → ⊥) → version_at c ≡ first_version
  is_first_lem c p n = go (versioned_is c (accepted_tests c p).version)
    where
      go : Known (version_at c) → version_at c ≡ first_version
      go (inl e) = e
      go (inr e) = absurd (n e)

  both_first : (screen a b).number ≡ 0 → keys_of_both a b ≤ 512 → joined_version a b ≡ first_version
  unfolding pair_version
  both_first z l =
      let s = passed_screen a b z in
      let t : keys_of_both a b ≤ most_records first_version = first_fits (keys_of_both a b) l in
      rw (is_first_lem a s.first not_a, is_first_lem b s.second not-b, le-leb (keys_of_both a b) (most_records first_version) t) refl

  module _ (out : List ℕ) where
    -- where a book is refused for itself, or the two for 7
    turned_away_lem : passes (screen a b) ≡ false → before.told_then (joining a b out) ≡ before.joining a b out
    unfolding joining before.joining before.join_fault
    turned_away_lem e = rw (← screen_as_before, e) (rw e refl)

    module _ (z : (screen a b).number ≡ 0) where
      passed : before.screen a b ≡ accepted
      passed = sym screen_as_before ∙ zero_screened a b z

      -- more than 512 keys were 8
      was_eight : ltb 512 (keys_of_both a b) ≡ true → (before.joining a b out).number ≡ 8
      unfolding before.joining before.join_fault before.overflow
      was_eight e = rw (passed, e) refl

      -- up to 512 keys give the same book, or 9
      few_as_before : keys_of_both a b ≤ 512 → before.told_then (joining a b out) ≡ before.joining a b out
      unfolding joining join_sound overflow before.joining before.join_fault before.overflow joined_of before.joined_of
      few_as_before l = go (ltb (length out) (size_of (keys_of_both a b))) refl
        where
          most : keys_of_both a b ≤ most_keys
          most = omega arith

          go : (t : Bool) → ltb (length out) (size_of (keys_of_both a b)) ≡ t → before.told_then (joining a b out) ≡ before.joining a b out
          go true r = rw (passed, zero_screened a b z, both_first z l, le-ltb 512 (keys_of_both a b) l, le-ltb most_keys (keys_of_both a b) most, r) refl
          go false r = rw (passed, zero_screened a b z, both_first z l, le-ltb 512 (keys_of_both a b) l, le-ltb most_keys (keys_of_both a b) most, r) refl

    -- where neither version field is 2 and the join then was not refused with 8, the outcome is the same, every byte of it, but for the turns that it did not tell
    pub join_as_before : ((before.joining a b out).number ≡ 8 → ⊥) → before.told_then (joining a b out) ≡ before.joining a b out
    join_as_before n = go (passes (screen a b)) refl (ltb 512 (keys_of_both a b)) refl
      where
        go : (t : Bool) → passes (screen a b) ≡ t → (u : Bool) → ltb 512 (keys_of_both a b) ≡ u → before.told_then (joining a b out) ≡ before.joining a b out
        go false e u d = turned_away_lem e
        go true e true d = absurd (n (was_eight (eqb-true _ _ e) d))
        go true e false d = few_as_before (eqb-true _ _ e) (ltb-false _ _ d)
