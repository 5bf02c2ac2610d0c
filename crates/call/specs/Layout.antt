-- The 32 bytes of a record, little endian. Assumes nothing.
use Rattle.std.specs.Prelude.{List, ◌++◌, ℕ, ◌+◌}
use Rattle.std.specs.Int.{w32}
use Rattle.std.proofs.Common.{to_z, of_z}
use Rattle.le.specs.Le.{le_at, le_bytes}
use Rattle.call.specs.declared.Call.{Call}

-- a record is 32 bytes
abbrev pub record_size : ℕ
record_size = 32

-- participant u16, service u8, state u8, call number u32, revision u32, start u16, length u16, a i32, b u32, c u32
unfoldable pub call_at : List ℕ → ℕ → Call
call_at bytes at =
    record {
      participant = le_at bytes at 2;
      service = le_at bytes (at + 2) 1;
      state = le_at bytes (at + 3) 1;
      number = le_at bytes (at + 4) 4;
      revision = le_at bytes (at + 8) 4;
      start = le_at bytes (at + 12) 2;
      length = le_at bytes (at + 14) 2;
      a = to_z w32 (le_at bytes (at + 16) 4);
      b = le_at bytes (at + 20) 4;
      c = le_at bytes (at + 24) 4;
    }

-- the last four bytes of a record are zero
abbrev pub reserved_at : List ℕ → ℕ → ℕ
reserved_at bytes at = le_at bytes (at + 28) 4

-- the same fields written: whose call it is
unfoldable pub key_bytes : Call → List ℕ
key_bytes c = le_bytes 2 c.participant ++ le_bytes 1 c.service ++ le_bytes 1 c.state ++ le_bytes 4 c.number

-- which revision, and when
unfoldable pub time_bytes : Call → List ℕ
time_bytes c = le_bytes 4 c.revision ++ le_bytes 2 c.start ++ le_bytes 2 c.length

-- its terms, and four zero bytes
unfoldable pub term_bytes : Call → List ℕ
term_bytes c = le_bytes 4 (of_z w32 c.a) ++ le_bytes 4 c.b ++ le_bytes 4 c.c ++ le_bytes 4 0

unfoldable pub call_bytes : Call → List ℕ
call_bytes c = key_bytes c ++ time_bytes c ++ term_bytes c
