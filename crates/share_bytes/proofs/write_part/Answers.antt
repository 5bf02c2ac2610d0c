use Rattle.share_bytes.proofs.Spelling.{part_stored, bits_stored}
use Rattle.share_bytes.proofs.write_part.Goals as goal

pub returns : goal.returns
returns c =
    let x = c.args.share.0 in
    let y = c.args.amount.0 in
    part_stored (record { share = x; amount = y }) c.args.at
    (bits_stored x (record { sfits = c.struct_told-1.given.0.1 })
    c.put_i64.ensures)
    (bits_stored y (record { sfits = c.struct_told-2-1.given.0.1 }) c.put_i64-2.ensures)
