use mathlib.Core.Path.{◌≡◌, ap, ◌∙◌}
use mathlib.Core.List.{List, ◌++◌}
use Prim.Native.Nat.{ℕ, ◌-◌}
use native.Mathlib.Omega.{arith}
use lib.ListN.{length, take, drop, length-drop}
use lib.Seq.{take_all}
use Rattle.lines.specs.Meaning.{body_meaning}
use Rattle.lines.proofs.Parts.{fed_still, fed_behind}
use Rattle.lines.proofs.Stream.{read_on}
use Rattle.lines.proofs.Reader.feed.Goals as goal

pub returns-in_default-clause-by_index : goal.returns-in_default-clause-by_index
returns-in_default-clause-by_index c =
    let asked = read_on c.args.self _ c.args.bytes.now (fed_still c.args.self c.args.bytes.now c.head-head.result c.head-head.ensures c.in_default.is) in
    asked.0

pub returns-in_default-clause-goes_on : goal.returns-in_default-clause-goes_on
returns-in_default-clause-goes_on c =
    let asked = read_on c.args.self _ c.args.bytes.now (fed_still c.args.self c.args.bytes.now c.head-head.result c.head-head.ensures c.in_default.is) in
    asked.1

pub returns-clause-by_index : goal.returns-clause-by_index
returns-clause-by_index c =
    let asked = let b = c.args.bytes.now in
    let n = c.head-head.result.next in
    let all : take (length b - n) (drop n b) ≡ drop n b = take_all (length b - n) (drop n b) (omega (arith, length-drop n b)) in
    read_on c.args.self _ b
    (fed_behind c.args.self b c.head-head.result c.head-head.ensures c.feed.result c.in-Some.part c.in-Some.is
    (λ rest. c.feed.ensures rest ∙ ap (λ (xs : List ℕ). body_meaning c.args.self.body (xs ++ rest)) all)) in
    asked.0

pub returns-clause-goes_on : goal.returns-clause-goes_on
returns-clause-goes_on c =
    let asked = let b = c.args.bytes.now in
    let n = c.head-head.result.next in
    let all : take (length b - n) (drop n b) ≡ drop n b = take_all (length b - n) (drop n b) (omega (arith, length-drop n b)) in
    read_on c.args.self _ b
    (fed_behind c.args.self b c.head-head.result c.head-head.ensures c.feed.result c.in-Some.part c.in-Some.is
    (λ rest. c.feed.ensures rest ∙ ap (λ (xs : List ℕ). body_meaning c.args.self.body (xs ++ rest)) all)) in
    asked.1
