-- What each wish comes to, case by case. Assumes nothing.
use mathlib.Core.Path.{◌≡◌, refl}
use mathlib.Core.Bool.{true, false}
use Prim.Native.Nat.{◌≤◌, ◌<◌}
use borrow.Author.Tests.{lt-ltb, le-ltb}
use Rattle.call.specs.declared.Call.{Call}
use Rattle.rule.specs.Standing.{is_withdrawn}
use Rattle.wish.specs.declared.Wish.{Wish}
use Rattle.std.specs.Prelude.{Err}
use Rattle.wish.specs.declared.Unchanged.TheVariants.{NotHigher, Withdrawn}
use Rattle.wish.specs.Wish.{changes, higher, by_wish, over}

pub higher_yes : (x y : Call) → y.revision < x.revision → higher x y ≡ changes
unfolding higher
higher_yes x y h = rw (lt-ltb y.revision x.revision h) refl

pub higher_no : (x y : Call) → x.revision ≤ y.revision → higher x y ≡ Err (NotHigher y.revision)
unfolding higher
higher_no x y h = rw (le-ltb y.revision x.revision h) refl

pub over_gone : (wish : Wish) (x y : Call) → is_withdrawn y ≡ true → over wish x y ≡ Err Withdrawn
unfolding over
over_gone wish x y h = rw h refl

pub over_else : (wish : Wish) (x y : Call) → is_withdrawn y ≡ false → over wish x y ≡ by_wish wish x y
unfolding over
over_else wish x y h = rw h refl
