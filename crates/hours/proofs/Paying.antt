-- What the actions of an hour pay, one after another. Assumes nothing.
use Rattle.std.proofs.Common.{◌≡◌, ℕ, suc, ◌+◌, ◌<◌, ◌≤◌, false, List, [], ◌∷◌, ◌++◌, length, get_or, take, drop, ap, ◌∙◌, add-one, arith, length-take-le, take-suc, take_all}
use lib.Seq.{split_at}
use Rattle.ramp.specs.declared.Action.{Action}
use Rattle.ramp.specs.declared.so_far.HourSoFar.{HourSoFar}
use Rattle.ramp.specs.Ramping.{hour_grains, first_bad_action}
use Rattle.ramp.specs.Inner.{takes_action, SoFar}
use Rattle.ramp.proofs.Answers.{stops}
use Rattle.hours.specs.Inner.{GoodHour}

abbrev zeros : Action
zeros = record { start = record { 0 = 0 }; end = record { 0 = 0 }; command = record { 0 = 0 }; delay = 0; real = 0; standard = 0 }

module _ (kept : List Action) (i : ℕ) where
  -- an action that is taken
  pub pay_on : i < length kept → (h r : HourSoFar) → SoFar (take i kept) h → ((actions : List Action) → SoFar actions h → SoFar (actions ++ get_or kept i zeros ∷ []) r) → SoFar (take (i + 1) kept) r
  pay_on room h r s more = rw (add-one, take-suc kept i zeros room) (more (take i kept) s)

  -- in a good hour every one is
  pub pay_stop : i < length kept → (h : HourSoFar) → SoFar (take i kept) h → takes_action h (get_or kept i zeros) ≡ false → GoodHour kept → ⊥
  pay_stop less h s t good =
      let short = length-take-le i kept (omega (arith, less)) in
      let bad = ap first_bad_action (split_at kept i zeros less) ∙ stops (take i kept) (get_or kept i zeros) h s t (drop (suc i) kept) in
      omega (arith, bad, good, short, less)

  -- and the hour's pay is told
  pub pay_end : length kept ≤ i → (h : HourSoFar) → SoFar (take i kept) h → (g N : ℕ) → ((actions : List Action) → SoFar actions h → g ≡ hour_grains N actions) → g ≡ hour_grains N kept
  pay_end e h s g N pays = pays (take i kept) s ∙ ap (λ (xs : List Action). hour_grains N xs) (take_all i kept e)
