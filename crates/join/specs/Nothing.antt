-- A book that adds nothing to others. Assumes nothing.
use Rattle.std.specs.Prelude.{◌≡◌, ℕ}
use mathlib.Core.List.{List, map, Memᴰ as In}
use Rattle.std.proofs.Math.Option.{some}
use Rattle.call.specs.declared.Call.{Call}
use Rattle.call.specs.Key.{call_key}
use Rattle.book.specs.Book.{calls_of}
use Rattle.rule.specs.Standing.{standing}
use Rattle.rule.specs.Whole.{rule_over}

-- against each of its calls stands the record that the rule over the others gives
pub record AddsNothing (others : List (List ℕ)) (b : List ℕ) : Type 0 where
  pub stands : (c : Call) → In c (calls_of b) → (r : Call) × (rule_over (map calls_of others) (call_key c) ≡ some r) × (standing r c ≡ r)
