use mathlib.Core.Path.{◌≡◌}
use Rattle.book.specs.Book.{calls_of}
use Rattle.rule.specs.Whole.{all}
use Rattle.drawer.specs.Nothing.{is_covered}
use Rattle.drawer.proofs.Covering.{all_left}
use Rattle.drawer.proofs.nothing.all_covered.Given as goal

abbrev pub invariant-loop-i : goal.invariant-loop-i
invariant-loop-i l = all_left (is_covered (calls_of l.others)) l.book l.i l.i-end ≡ all (is_covered (calls_of l.others)) (calls_of l.book)
