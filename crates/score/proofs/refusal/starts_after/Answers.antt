use mathlib.Core.Path.{◌≡◌, refl}
use mathlib.Core.Bool.{cond}
use lib.Dec.{ltb}
use Prim.Native.Nat.{ℕ, ◌<◌, max}
use native.Mathlib.Decide.{dec_lt}
use native.Mathlib.Omega.{arith}
use borrow.Author.Tests.{lt-leb, le-leb, lt-ltb, le-ltb}
use Rattle.call.specs.Services.{standby}
use Rattle.score.specs.Inner.{later, with_end, starts_after}
use Rattle.score.proofs.refusal.starts_after.Goals as goal

later_max : (a b : ℕ) → max a b ≡ later a b
unfolding later
later_max a b = go (dec_lt a b)
  where
    go : Dec (a < b) → max a b ≡ cond (ltb a b) b a
    go (yes l) = rw (lt-ltb a b l) (omega arith)
    go (no l) = rw (le-ltb a b (omega arith)) (omega arith)

pub returns-then-x-gt-STANDBY : goal.returns-then-x-gt-STANDBY
unfolding with_end starts_after
returns-then-x-gt-STANDBY c =
    let e = lt-leb c.args.x.service standby c.if-x-gt-STANDBY.true in
    record {
      value = rw e refl;
      ends_after = rw e refl;
    }

pub returns : goal.returns
unfolding with_end starts_after
returns c =
    let e = le-leb c.args.x.service standby c.if-x-gt-STANDBY.false in
    record {
      value = rw e refl;
      ends_after = rw (e, c.max.ensures, later_max) refl;
    }
