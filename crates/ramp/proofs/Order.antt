-- What an accepted hour's pay does not depend on: its wrong-way actions, and the order of its actions. Assumes nothing.
use mathlib.Core.Path.{◌≡◌, refl, sym, ◌∙◌, ap, subst}
use mathlib.Core.Bool.{Bool, true, false, cond}
use mathlib.Core.List.{List, [], ◌∷◌, ◌++◌, map}
use Prim.Native.Nat.{ℕ, suc, ◌+◌, ◌*◌, ◌<◌}
use native.Mathlib.Omega.{arith}
use lib.Dec.{eqb}
use lib.IntN.{◌+ℤ◌, +ℤ_assoc, +ℤ_comm}
use lib.ListN.{length, length-append}
use Rattle.pay.specs.declared.Member.{Member}
use Rattle.pay.proofs.Within.{line_of}
use Rattle.ramp.specs.declared.Action.{Action}
use Rattle.ramp.specs.Fractions.{fraction, times, mean, cut}
use Rattle.ramp.specs.Ramping.{move_of, is_right_way, index, right_way, moves, distance, mean_index, hour_worth, hour_grains, first_standard, hour_paid, ramping}
use Rattle.ramp.specs.Inner.{cleared, cleared_sum, cleared_worth, cleared_grains}
use Rattle.ramp.proofs.Within.{AllWithin}
use Rattle.ramp.proofs.Cleared.{cleared_is}
use Rattle.ramp.proofs.Accepted.{Accepted, hour_within, hour_pays}

-- actions of one rate have it as the hour's
first_within : (standard : ℕ) (actions : List Action) → AllWithin standard actions → AllWithin (first_standard actions) actions
unfolding first_standard
first_within standard [] w = tt
first_within standard (a ∷ actions) w = subst (λ s. AllWithin s (a ∷ actions)) (sym w.0.one_rate) w

-- Wrong-way actions

-- an hour's pay is by its right-way actions alone
pub right_way_alone : (N : ℕ) (one other : List Action) → right_way one ≡ right_way other → hour_grains N one ≡ hour_grains N other
unfolding hour_grains hour_worth distance mean_index
right_way_alone N one other e = ap (λ r. cond (eqb (length r) 0) 0 (cut (times (fraction (90000 * moves r) 1) (mean (map (index N) r))))) e

right_without : (before : List Action) (a : Action) (after : List Action) → is_right_way a ≡ false → right_way (before ++ a ∷ after) ≡ right_way (before ++ after)
unfolding right_way
right_without [] a after h = ap (λ t. cond t (a ∷ right_way after) (right_way after)) h
right_without (b ∷ before) a after h = ap (λ r. cond (is_right_way b) (b ∷ r) r) (right_without before a after h)

within_without : (standard : ℕ) (before : List Action) (a : Action) (after : List Action) → AllWithin standard (before ++ a ∷ after) → AllWithin standard (before ++ after)
within_without standard [] a after w = w.1
within_without standard (b ∷ before) a after w = (w.0, within_without standard before a after w.1)

-- WRONG-WAY ACTIONS PAY NOTHING AND COST NOTHING: one left out of an accepted hour, or put into it, changes nothing of the answer
pub wrong_way_nothing : (m : Member) (before : List Action) (a : Action) (after : List Action) → (ramping m (before ++ a ∷ after)).number ≡ 0 → is_right_way a ≡ false
    → ramping m (before ++ after) ≡ ramping m (before ++ a ∷ after)
wrong_way_nothing m before a after h wrong =
    let w = hour_within m (before ++ a ∷ after) h in
    let s = first_standard (before ++ a ∷ after) in
    let o : Accepted m (before ++ after) =
    record {
      line = w.line;
      kind = w.kind;
      few = omega (arith, w.few, length-append before (a ∷ after), length-append before after);
      within = first_within s (before ++ after) (within_without s before a after w.within);
    } in
    hour_pays m (before ++ after) o
    ∙ ap hour_paid (right_way_alone m.rated.0 (before ++ after) (before ++ a ∷ after) (sym (right_without before a after wrong)))
    ∙ sym (hour_pays m (before ++ a ∷ after) w)

-- Order

-- the same actions in another order
pub data Reordered : List Action → List Action → Type 0 where
  nothing : Reordered [] []
  kept : (a : Action) {one other : List Action} → Reordered one other → Reordered (a ∷ one) (a ∷ other)
  exchanged : (a b : Action) {rest : List Action} → Reordered (a ∷ b ∷ rest) (b ∷ a ∷ rest)
  both : {one other third : List Action} → Reordered one other → Reordered other third → Reordered one third

as_it_was : (actions : List Action) → Reordered actions actions
as_it_was [] = nothing
as_it_was (a ∷ actions) = kept a (as_it_was actions)

right_reordered : {one other : List Action} → Reordered one other → Reordered (right_way one) (right_way other)
unfolding right_way
right_reordered nothing = nothing
right_reordered (kept a {one} {other} r) = go (is_right_way a) (right_reordered r)
  where
    go : (t : Bool) → Reordered (right_way one) (right_way other) → Reordered (cond t (a ∷ right_way one) (right_way one)) (cond t (a ∷ right_way other) (right_way other))
    go true q = kept a q
    go false q = q
right_reordered (exchanged a b {rest}) = go (is_right_way a) (is_right_way b) (right_way rest)
  where
    go : (t u : Bool) (r : List Action) → Reordered (cond t (a ∷ cond u (b ∷ r) r) (cond u (b ∷ r) r)) (cond u (b ∷ cond t (a ∷ r) r) (cond t (a ∷ r) r))
    go true true r = exchanged a b
    go true false r = as_it_was (a ∷ r)
    go false true r = as_it_was (b ∷ r)
    go false false r = as_it_was r
right_reordered (both r q) = both (right_reordered r) (right_reordered q)

within_reordered : (standard : ℕ) {one other : List Action} → Reordered one other → AllWithin standard one → AllWithin standard other
within_reordered standard nothing w = w
within_reordered standard (kept a r) w = (w.0, within_reordered standard r w.1)
within_reordered standard (exchanged a b) w = (w.1.0, (w.0, w.1.1))
within_reordered standard (both r q) w = within_reordered standard q (within_reordered standard r w)

length_reordered : {one other : List Action} → Reordered one other → length other ≡ length one
length_reordered nothing = refl
length_reordered (kept a r) = ap suc (length_reordered r)
length_reordered (exchanged a b) = refl
length_reordered (both r q) = length_reordered q ∙ length_reordered r

moves_reordered : {one other : List Action} → Reordered one other → moves other ≡ moves one
unfolding moves
moves_reordered nothing = refl
moves_reordered (kept a r) = ap (λ n. move_of a + n) (moves_reordered r)
moves_reordered (exchanged a b {rest}) = omega arith
moves_reordered (both r q) = moves_reordered q ∙ moves_reordered r

sum_reordered : (N : ℕ) {one other : List Action} → Reordered one other → cleared_sum N other ≡ cleared_sum N one
unfolding cleared_sum
sum_reordered N nothing = refl
sum_reordered N (kept a r) = ap (λ z. cleared N a +ℤ z) (sum_reordered N r)
sum_reordered N (exchanged a b {rest}) =
    let x = cleared N a in
    let y = cleared N b in
    let z = cleared_sum N rest in
    sym (+ℤ_assoc y x z) ∙ ap (λ s. s +ℤ z) (+ℤ_comm y x) ∙ +ℤ_assoc x y z
sum_reordered N (both r q) = sum_reordered N q ∙ sum_reordered N r

first_reordered : (one other : List Action) → length other ≡ length one → AllWithin (first_standard one) other → first_standard other ≡ first_standard one
unfolding first_standard
first_reordered [] [] e w = refl
first_reordered [] (b ∷ other) e w = absurd (omega arith)
first_reordered (a ∷ one) [] e w = absurd (omega arith)
first_reordered (a ∷ one) (b ∷ other) e w = w.0.one_rate

grains_reordered : (N : ℕ) {one other : List Action} → Reordered one other → first_standard other ≡ first_standard one → cleared_grains N other ≡ cleared_grains N one
unfolding cleared_grains cleared_worth distance
grains_reordered N {one} {other} r e =
    let q = right_reordered r in
    rw (length_reordered q, moves_reordered q, sum_reordered N q, e)

-- THE ORDER OF THE ACTIONS of an accepted hour does not matter
pub any_order : (m : Member) {one other : List Action} → (ramping m one).number ≡ 0 → Reordered one other → ramping m other ≡ ramping m one
any_order m {one} {other} h r =
    let N = m.rated.0 in
    let w = hour_within m one h in
    let s : 0 < N = (line_of m w.line).rated.0 in
    let v = within_reordered (first_standard one) r w.within in
    let first = first_reordered one other (length_reordered r) v in
    let o : Accepted m other =
    record { line = w.line; kind = w.kind; few = omega (arith, w.few, length_reordered r); within = first_within (first_standard one) other v } in
    hour_pays m other o
    ∙ ap hour_paid (cleared_is N other s o.within ∙ grains_reordered N r first ∙ sym (cleared_is N one s w.within))
    ∙ sym (hour_pays m one w)
