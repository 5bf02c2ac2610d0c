-- What becomes of a call that is to be cut, case by case. Assumes nothing.
use mathlib.Core.Path.{◌≡◌, refl, sym, ap}
use mathlib.Core.Bool.{Bool, true, false, ◌&&◌, true≢false}
use mathlib.Core.List.{List}
use Prim.Native.Nat.{ℕ, ◌+◌, ◌-◌, ◌%◌, ◌≤◌, ◌<◌}
use native.Mathlib.Omega.{arith}
use lib.Dec.{ltb, eqb}
use borrow.Author.Tests.{le-leb, lt-leb, eqb-true, ltb-true}
use Rattle.units.specs.Month.{minutes_per_quarter}
use Rattle.call.specs.declared.Call.{Call}
use Rattle.call.specs.Revising.{live}
use Rattle.rule.specs.Standing.{is_contested, is_withdrawn}
use Rattle.std.specs.Prelude.{Option, Some, None, Ok, Err}
use Rattle.wish.specs.Wish.{old_in}
use Rattle.cutting.specs.declared.NotCut.TheVariants.{NoCall, Withdrawn, Contested, NoWindow, Highest, NotInside, InUse}
use Rattle.cutting.specs.Parts.{first_part_of, second_part_of}
use Rattle.cutting.specs.Outcomes.{Inside}
use Rattle.cutting.specs.Cutting.{highest, is_window, is_inside, cut_new, cut_window, cut_call, cut_old, cutting}

module _ (x : Call) (at new : ℕ) (taken : Option Call) where
  pub of_withdrawn : is_withdrawn x ≡ true → cut_call x at new taken ≡ Err (Withdrawn x)
  unfolding cut_call
  of_withdrawn p = rw p refl

  pub of_contested : is_withdrawn x ≡ false → is_contested x ≡ true → cut_call x at new taken ≡ Err (Contested x)
  unfolding cut_call
  of_contested p q = rw (p, q) refl

  pub of_other : is_withdrawn x ≡ false → is_contested x ≡ false → is_window x ≡ false → cut_call x at new taken ≡ Err (NoWindow x)
  unfolding cut_call
  of_other p q w = rw (p, q, w) refl

  pub of_window : is_withdrawn x ≡ false → is_contested x ≡ false → is_window x ≡ true → cut_call x at new taken ≡ cut_window x at new taken
  unfolding cut_call
  of_window p q w = rw (p, q, w) refl

  pub of_highest : highest ≤ x.revision → cut_window x at new taken ≡ Err (Highest x)
  unfolding cut_window
  of_highest h = rw (le-leb highest x.revision h) refl

  pub of_outside : x.revision < highest → is_inside x at ≡ false → cut_window x at new taken ≡ Err (NotInside x)
  unfolding cut_window
  of_outside h i = rw (lt-leb highest x.revision h, i) refl

  pub of_inside : x.revision < highest → is_inside x at ≡ true → cut_window x at new taken ≡ cut_new x at new taken
  unfolding cut_window
  of_inside h i = rw (lt-leb highest x.revision h, i) refl

pub of_free : (x : Call) (at new : ℕ) → cut_new x at new None ≡ Ok (first_part_of x at, second_part_of x at new)
unfolding cut_new
of_free x at new = refl

pub of_used : (x : Call) (at new : ℕ) (y : Call) → cut_new x at new (Some y) ≡ Err (InUse y)
unfolding cut_new
of_used x at new y = refl

module _ (b : List ℕ) (member number at new : ℕ) where
  pub of_none : old_in b member number ≡ None → cutting b member number at new ≡ Err NoCall
  unfolding cutting cut_old
  of_none e = rw e refl

  pub of_call_lem : (x : Call) → old_in b member number ≡ Some x → cutting b member number at new ≡ cut_call x at new (old_in b member new)
  unfolding cutting cut_old
  of_call_lem x e = ap (λ (o : Option Call). cut_old o at new (old_in b member new)) e

-- the second part with so many minutes
abbrev pub second_of : Call → ℕ → ℕ → ℕ → Call
second_of x at new minutes =
    record {
      participant = x.participant;
      service = x.service;
      state = live;
      number = new;
      revision = 1;
      start = at;
      length = minutes;
      a = x.a;
      b = 0;
      c = 0;
    }

-- reckoned as the whole less the first part, it has what is left up to the whole's end
pub second_left_lem : (x : Call) (at new : ℕ) → x.start < at → at < x.start + x.length → second_of x at new (x.length - (at - x.start)) ≡ second_part_of x at new
second_left_lem x at new l h = let e : x.length - (at - x.start) ≡ x.start + x.length - at = omega arith in ap (second_of x at new) e

-- what the test of the minute says
three : (t u v : Bool) → (t && u && v) ≡ true → (t ≡ true) × (u ≡ true) × (v ≡ true)
three true true true h = (refl, refl, refl)
three true true false h = absurd (true≢false (sym h))
three true false v h = absurd (true≢false (sym h))
three false u v h = absurd (true≢false (sym h))

pub inside_is : (x : Call) (at : ℕ) → is_inside x at ≡ true → Inside x at
unfolding is_inside
inside_is x at h =
    let t = three (eqb (at % minutes_per_quarter) 0) (ltb x.start at) (ltb at (x.start + x.length)) h in
    record { quarter = eqb-true _ _ t.0; behind = ltb-true _ _ t.1; before = ltb-true _ _ t.2 }
