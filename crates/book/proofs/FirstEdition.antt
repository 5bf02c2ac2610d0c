-- What the check answers now against what it answered in the first edition. Assumes nothing.
use mathlib.Core.Path.{◌≡◌, refl, ap}
use mathlib.Core.Bool.{Bool, true, false, cond}
use mathlib.Core.List.{List}
use Prim.Native.Nat.{ℕ, zero, suc}
use lib.Dec.{eqb}
use lib.ListN.{length}
use borrow.Author.Tests.{eqb-true, eqb-false, ne_eqb, le-ltb}
use Rattle.book.specs.declared.Verdict.{Verdict}
use Rattle.book.specs.Book.{first_version, second_version, most_records, header_size, HasHeader, version_at, header_at, count_at}
use Rattle.book.specs.Check.{refused, is_marked, is_known, is_versioned, header_is_sound, is_headed, header_minutes, is_record, judge, next_at, check_records, check}
use Rattle.book.specs.Refusals.{Marked}
use Rattle.book.specs.FirstEdition as before
use Rattle.book.proofs.Heads.{is_marked_lem}

-- the records are looked at as before
records_as_before : (m : ℕ) (b : List ℕ) (low i left : ℕ) → check_records m b low i left ≡ before.check_records m b low i left
unfolding check_records judge is_record before.check_records before.judge before.is_record
records_as_before m b low i zero = refl
records_as_before m b low i (suc left) =
    ap (λ (v : Verdict). cond (eqb (judge m b low i) 0) v (refused (judge m b low i) i)) (records_as_before m b (next_at b i) (suc i) left)

module _ (b : List ℕ) where
  headed_as_before : version_at b ≡ first_version → is_headed b ≡ before.is_headed b
  unfolding is_headed header_is_sound most_records before.is_headed before.header_is_sound
  headed_as_before e = rw e refl

  first_as_before : version_at b ≡ first_version → check b ≡ before.check b
  unfolding check before.check is_marked before.is_marked is_versioned is_known before.is_versioned header_minutes before.header_minutes
  first_as_before e = rw (headed_as_before e, e, records_as_before (header_minutes (header_at b)) b 0 0 (count_at b)) refl

  other_as_before : (version_at b ≡ first_version → ⊥) → (version_at b ≡ second_version → ⊥) → check b ≡ before.check b
  unfolding check before.check is_marked before.is_marked is_versioned is_known before.is_versioned
  other_as_before n m = rw (ne_eqb (version_at b) first_version n, ne_eqb (version_at b) second_version m) refl

  -- bytes whose version field is not 2 are answered as then
  pub check_as_before : (version_at b ≡ second_version → ⊥) → check b ≡ before.check b
  check_as_before n = go (eqb (version_at b) first_version) refl
    where
      go : (t : Bool) → eqb (version_at b) first_version ≡ t → check b ≡ before.check b
      go true e = first_as_before (eqb-true _ _ e)
      go false e = other_as_before (eqb-false _ _ e) n

  -- at least 16 bytes with the mark and version 2 were answered with 3 at 0
  pub old_answer : HasHeader b → Marked b → version_at b ≡ second_version → before.check b ≡ refused 3 0
  unfolding before.check before.is_marked before.is_versioned is_marked
  old_answer l m e = let k : is_marked b ≡ true = is_marked_lem b m in rw (le-ltb (length b) header_size l, k, e) refl
