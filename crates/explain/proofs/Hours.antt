-- The ramping hours' grains together: their sum, held at the top of 64 bits, which a month of hours never reaches. Assumes nothing.
use mathlib.Core.Path.{◌≡◌, sym, ap, ◌∙◌}
use mathlib.Core.List.{List, [], ◌∷◌}
use Prim.Native.Nat.{ℕ, suc, ◌+◌, ◌*◌, ◌≤◌, ◌<◌, min}
use native.Mathlib.Nat.{suc-mul}
use native.Mathlib.Numerals.{add-one}
use native.Mathlib.Omega.{arith}
use lib.ListN.{length, get_or, drop, drop_of_length-le}
use lib.Seq.{drop-cons}
use Rattle.units.specs.declared.Grains.{Grains}
use Rattle.units.specs.Money.{most_grains, grains_plus}
use Rattle.score.proofs.Most.{most_hour, most_ramping}
use Rattle.explain.specs.Explaining.{hours_sum, hours_grains, HoursWithin}

-- Grains, and more of them, held: nothing more, and one behind the other.
held_most : (a b : ℕ) → grains_plus a b ≤ most_grains
unfolding grains_plus
held_most a b = omega arith

held_none : (a : ℕ) → a ≤ most_grains → (grains_plus a 0 ≡ a) × (grains_plus 0 a ≡ a)
unfolding grains_plus
held_none a h = (omega arith, omega arith)

held_turn : (a b c : ℕ) → grains_plus a (grains_plus b c) ≡ grains_plus (grains_plus a b) c
unfolding grains_plus
held_turn a b c = omega arith

sum_most : (hours : List Grains) → hours_sum hours ≤ most_grains
unfolding hours_sum
sum_most [] = omega arith
sum_most (hour ∷ hours) = held_most hour.0 (hours_sum hours)

-- The hours in turn: what is added up so far, and what is left
module _ (hours : List Grains) where
  pub record Turn (sum i : ℕ) : Type 0 where
    pub most : sum ≤ most_grains
    pub is : grains_plus sum (hours_sum (drop i hours)) ≡ hours_sum hours

  pub turn_start : Turn 0 0
  turn_start = record { most = omega arith; is = (held_none (hours_sum hours) (sum_most hours)).1 }

  pub turn_on : (sum i next : ℕ) → Turn sum i → i < length hours → next ≡ grains_plus sum (get_or hours i (record { 0 = 0 })).0 → Turn next (i + 1)
  unfolding hours_sum
  turn_on sum i next t h e =
      let cons : drop i hours ≡ get_or hours i (record { 0 = 0 }) ∷ drop (i + 1) hours = rw add-one (drop-cons hours i (record { 0 = 0 }) h) in
      record {
        most = rw e (held_most sum (get_or hours i (record { 0 = 0 })).0);
        is =
            ap (λ (n : ℕ). grains_plus n (hours_sum (drop (i + 1) hours))) e ∙ sym (held_turn sum (get_or hours i (record { 0 = 0 })).0 (hours_sum (drop (i + 1) hours)))
            ∙ ap (λ (hs : List Grains). grains_plus sum (hours_sum hs)) (sym cons) ∙ t.is;
      }

  pub turn_end : (sum i : ℕ) → Turn sum i → length hours ≤ i → sum ≡ hours_sum hours
  unfolding hours_sum
  turn_end sum i t h =
      sym (held_none sum t.most).0 ∙ ap (λ (hs : List Grains). grains_plus sum (hours_sum hs)) (sym (drop_of_length-le hours {i = i} h)) ∙ t.is

-- The hours together are their sum, held at the top of 64 bits.
pub sum_held : (hours : List Grains) → hours_sum hours ≡ min (hours_grains hours) most_grains
unfolding hours_sum hours_grains grains_plus
sum_held [] = omega arith
sum_held (hour ∷ hours) = omega (arith, sum_held hours)

grains_most : (hours : List Grains) → ((k : ℕ) → k < length hours → (get_or hours k (record { 0 = 0 })).0 ≤ most_hour) → hours_grains hours ≤ length hours * most_hour
unfolding hours_grains
grains_most [] h = omega arith
grains_most (hour ∷ hours) h = rw suc-mul (omega (arith, h 0 (omega arith), grains_most hours (λ k l. h (suc k) (omega arith))))

-- A month of hours, each at most what one pays, never reaches it.
pub month_of_hours : (hours : List Grains) → HoursWithin most_hour hours → (hours_sum hours ≡ hours_grains hours) × (hours_sum hours ≤ most_ramping)
month_of_hours hours w =
    let most : hours_grains hours ≤ most_ramping = omega (arith, w.few, grains_most hours w.each) in
    let held = sum_held hours in
    (omega arith, omega arith)
