use mathlib.Core.Path.{◌∙◌, ap}
use Prim.Native.Nat.{ℕ}
use native.Mathlib.Omega.{arith}
use Rattle.join.specs.Joining.{overflow}
use Rattle.join.proofs.WaysOut.{over_many, over_short, over_none}
use Rattle.join.proofs.Steps.{most_joined}
use Rattle.join.proofs.Books.{long}
use Rattle.join.proofs.overflow.Goals as goal

pub count_at-n-requires : goal.count_at-n-requires
count_at-n-requires c = long _ c.requires.accepted

pub count_at-m-requires : goal.count_at-m-requires
count_at-m-requires c = long _ c.requires.accepted_2

pub returns-then-size_of-room : goal.returns-then-size_of-room
returns-then-size_of-room c =
    let most = most_joined c.args.first.now c.args.second.now c.requires.accepted c.requires.accepted_2 _ _ c.count_at-n.ensures.0 c.count_at-m.ensures.0 in
    let few = c.if-most-le-MOST_RECORDS.true in
    let fits = c.if-size_of-room.true in
    let size = c.size_of.ensures in
    c.refused.ensures ∙ over_none _ _ (omega arith) (omega arith)

pub returns-then-keys-gt-MOST_RECORDS : goal.returns-then-keys-gt-MOST_RECORDS
returns-then-keys-gt-MOST_RECORDS c =
    let room = c.args.room in
    c.refused-then-keys-gt-MOST_RECORDS.ensures ∙ over_many c.keys_of_both-keys.result room c.if-keys-gt-MOST_RECORDS.true ∙ ap (λ (n : ℕ). overflow n room) c.keys_of_both-keys.ensures

pub returns-then-room-size_of : goal.returns-then-room-size_of
returns-then-room-size_of c =
    let room = c.args.room in
    let short = c.if-room-size_of.true in
    let size = c.size_of-2.ensures in
    c.refused-then-room-size_of.ensures ∙ over_short c.keys_of_both-keys.result room c.if-keys-gt-MOST_RECORDS.false (omega arith) ∙ ap (λ (n : ℕ). overflow n room) c.keys_of_both-keys.ensures

pub returns : goal.returns
returns c =
    let room = c.args.room in
    let fits = c.if-room-size_of.false in
    let size = c.size_of-2.ensures in
    c.refused-2.ensures ∙ over_none c.keys_of_both-keys.result room c.if-keys-gt-MOST_RECORDS.false (omega arith) ∙ ap (λ (n : ℕ). overflow n room) c.keys_of_both-keys.ensures
