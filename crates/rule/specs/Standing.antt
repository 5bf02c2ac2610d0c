-- The rule for one key that both books have. Assumes nothing.
use Rattle.std.specs.Prelude.{Bool, cond, not, ◌&&◌, ◌||◌, ltb, eqb}
use Rattle.std.specs.Int.Signed.{le_z}
use Rattle.call.specs.declared.Call.{Call}
use Rattle.call.specs.Revising.{contested, withdrawn, call_contested}
use Rattle.rule.specs.declared.Decision.{Decision}
use Rattle.rule.specs.declared.Decision.TheVariants.{First, Second, Struck}

-- the records are equal, field by field; of the signed a, neither is below the other
unfoldable pub same_call : Call → Call → Bool
same_call x y =
    eqb x.participant y.participant
    && eqb x.service y.service
    && eqb x.state y.state
    && eqb x.number y.number
    && eqb x.revision y.revision
    && eqb x.start y.start
    && eqb x.length y.length
    && le_z x.a y.a
    && le_z y.a x.a
    && eqb x.b y.b
    && eqb x.c y.c

abbrev pub is_contested : Call → Bool
is_contested c = eqb c.state contested

abbrev pub is_withdrawn : Call → Bool
is_withdrawn c = eqb c.state withdrawn

-- withdrawn beats live and contested whatever the revisions; of two withdrawn, and otherwise, the higher revision stands; at equal revision equal
-- records stay, and unequal ones become contested at that revision: where one of them is contested it is that record, and of two live ones neither
unfoldable pub decide : Call → Call → Decision
decide x y =
    cond (is_withdrawn x && not (is_withdrawn y)) First
    (cond (not (is_withdrawn x) && is_withdrawn y) Second
    (cond (ltb y.revision x.revision) First
    (cond (ltb x.revision y.revision) Second
    (cond (same_call x y || is_contested x) First
    (cond (is_contested y) Second
    Struck)))))

-- the record that a decision gives: the first book's, the second's, or a contested one at that revision
unfoldable pub given : Decision → Call → Call → Call
given First x y = x
given Second x y = y
given Struck x y = call_contested x

-- the record that stands, of two of one key
unfoldable pub standing : Call → Call → Call
standing x y = given (decide x y) x y
