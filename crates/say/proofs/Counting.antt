-- What is put on a page is counted by the place behind it. Assumes nothing.
use mathlib.Core.Path.{◌≡◌, sym, ap, ◌∙◌}
use mathlib.Core.List.{List}
use Prim.Native.Nat.{ℕ, ◌+◌, ◌≤◌}
use native.Mathlib.Omega.{arith}
use lib.ListN.{length}
use lib.Seq.{length-sets, length-take-le}
use Rattle.io.specs.Counts.{IsPrefixLen}
use Rattle.render.specs.Inner.{Puts}

pub counted : {most at next : ℕ} {text before after : List ℕ} → at + length text ≤ length before → Puts most before at text after next → IsPrefixLen next after
counted {most} {at} {next} {text} {before} {after} h p =
    let same : length after ≡ length before = ap length p.bytes.is ∙ length-sets before at text in
    let within : next ≤ length after = omega (arith, p.behind) in
    (within, sym (length-take-le next after within))
