use native.Mathlib.Omega.{arith}
use Rattle.join.proofs.Taken.{lies, last_taken}
use Rattle.join.proofs.put_last.Goals as goal

pub copy_record-requires : goal.copy_record-requires
copy_record-requires c = record {
  record_lies = lies c.requires.read_to c.requires.a_in_bounds;
  record_size_in_bounds = c.requires.record_size_in_bounds;
}

pub returns : goal.returns
returns c =
    last_taken c.requires.read_to c.requires.a_in_bounds c.copy_record.ensures (omega arith)
