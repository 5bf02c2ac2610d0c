-- The table of services as numbers, and the order in which a record is tested. Assumes nothing.
use mathlib.Core.Path.{◌≡◌, refl, sym, ◌∙◌}
use mathlib.Core.Bool.{Bool, true, false, not, ◌&&◌, ◌||◌, true≢false}
use Prim.Native.Nat.{ℕ, zero, suc, ◌+◌, ◌≤◌}
use native.Mathlib.Omega.{arith}
use lib.Dec.{eqb, leb}
use lib.IntN.{pos}
use lib.ListN.{get_or-eq_default}
use borrow.Author.Tests.{le-leb, ne_eqb}
use Rattle.call.specs.declared.Call.{Call}
use Rattle.call.specs.Revising.{withdrawn}
use Rattle.call.specs.Services.{most_participant}
use Rattle.call.specs.Limits.{row, table, limits_of, limits_allow, call_is_sound}

-- a number that is at least k and is not k is at least the next
pub next : {s k : ℕ} → k ≤ s → (s ≡ k → ⊥) → suc k ≤ s
next h n = omega arith

-- no service past 10 allows anything
pub no_service : (s : ℕ) → 11 ≤ s → limits_of s ≡ row false 0 1 0 (pos 0) (pos 0) 0 0
unfolding limits_of table
no_service s h = get_or-eq_default table (row false 0 1 0 (pos 0) (pos 0) 0 0) h

-- by quarters, a start between two quarters is refused; any other leaves the length
pub uneven : (quarters starts lasts : Bool) → (quarters && not starts) ≡ true → (not quarters || starts && lasts) ≡ false
uneven true true lasts h = absurd (true≢false (sym h))
uneven true false lasts h = refl
uneven false starts lasts h = absurd (true≢false (sym h))

pub even : (quarters starts lasts : Bool) → (quarters && not starts) ≡ false → (not quarters || starts && lasts) ≡ (not quarters || lasts)
even true true lasts h = refl
even true false lasts h = absurd (true≢false h)
even false starts lasts h = refl

-- Participant, revision and end are asked of every record: they refuse it alone, or leave it to its state and its service.

abbrev pub framed : ℕ → Call → Bool
framed minutes x = leb 1 x.participant && leb x.participant most_participant && leb 1 x.revision && leb (x.start + x.length) minutes

abbrev stated : Call → Bool
stated x = eqb x.state 0 && leb 1 x.service || leb 1 x.state && eqb x.service 0

sorted : (p q s r v e w : Bool) → (p && q && s && r && v && e && w) ≡ (p && q && r && e && (s && v && w))
sorted false q s r v e w = refl
sorted true false s r v e w = refl
sorted true true s false v e w = never s
  where
    never : (s : Bool) → (s && false && v && e && w) ≡ false
    never true = refl
    never false = refl
sorted true true s true v e w = late s v e
  where
    late : (s v e : Bool) → (s && true && v && e && w) ≡ (e && (s && v && w))
    late true true e = refl
    late true false true = refl
    late true false false = refl
    late false v true = refl
    late false v false = refl

module _ (minutes : ℕ) (x : Call) where
  split : call_is_sound minutes x ≡ (framed minutes x && (leb x.state withdrawn && stated x && limits_allow (limits_of x.service) x))
  unfolding call_is_sound
  split =
      sorted (leb 1 x.participant) (leb x.participant most_participant) (leb x.state withdrawn) (leb 1 x.revision) (stated x)
      (leb (x.start + x.length) minutes) (limits_allow (limits_of x.service) x)

  pub unframed : framed minutes x ≡ false → call_is_sound minutes x ≡ false
  unframed h = split ∙ rw h refl

  left : framed minutes x ≡ true → call_is_sound minutes x ≡ (leb x.state withdrawn && stated x && limits_allow (limits_of x.service) x)
  left h = split ∙ rw h refl

  -- live: a service, and within its limits
  pub no_live : framed minutes x ≡ true → x.state ≡ 0 → x.service ≡ 0 → call_is_sound minutes x ≡ false
  no_live h s z = left h ∙ rw (s, z) refl

  pub live : framed minutes x ≡ true → x.state ≡ 0 → (x.service ≡ 0 → ⊥) → call_is_sound minutes x ≡ limits_allow (limits_of x.service) x
  live h s n =
      let some : 1 ≤ x.service = omega arith in
      left h ∙ rw (s, le-leb 1 x.service some) refl

  -- contested or withdrawn: no service, and all zeros
  pub struck : framed minutes x ≡ true → (x.state ≡ 0 → ⊥) → call_is_sound minutes x ≡ (leb x.state withdrawn && eqb x.service 0 && limits_allow (limits_of 0) x)
  struck h n =
      let some : 1 ≤ x.state = omega arith in
      left h ∙ rw (ne_eqb x.state 0 n, le-leb 1 x.state some) (none (leb x.state withdrawn) x.service)
    where
      none : (t : Bool) (s : ℕ) → (t && eqb s 0 && limits_allow (limits_of s) x) ≡ (t && eqb s 0 && limits_allow (limits_of 0) x)
      none false s = refl
      none true zero = refl
      none true (suc s) = let no : suc s ≡ 0 → ⊥ = λ e. omega arith in rw (ne_eqb (suc s) 0 no) refl
