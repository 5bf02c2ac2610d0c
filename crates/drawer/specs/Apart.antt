-- In what two records of one call differ. Assumes nothing.
use Rattle.std.specs.Prelude.{cond, not, ◌&&◌, eqb, Option, Some, None}
use Rattle.std.specs.Int.Signed.{le_z}
use Rattle.call.specs.declared.Call.{Call}
use Rattle.drawer.specs.declared.apart.Field.{Field}
use Rattle.drawer.specs.declared.apart.Field.TheVariants.{Service, Start, Length, A, B, C}

-- the first field, in the record's order, in which they differ; key, state and revision aside; of the signed a, one is below the other
unfoldable pub apart_in : Call → Call → Option Field
apart_in x y =
    cond (not (eqb x.service y.service)) (Some Service)
    (cond (not (eqb x.start y.start)) (Some Start)
    (cond (not (eqb x.length y.length)) (Some Length)
    (cond (not (le_z x.a y.a && le_z y.a x.a)) (Some A)
    (cond (not (eqb x.b y.b)) (Some B)
    (cond (not (eqb x.c y.c)) (Some C)
    None)))))
