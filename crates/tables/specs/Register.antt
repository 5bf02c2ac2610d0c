-- The text of a register: a line a member, of six numbers and a limit. Assumes nothing.
use Rattle.std.specs.Prelude.{true, false, cond, List, [], map, ℕ, eqb, length, get_or}
use Rattle.row.specs.Judging.{Judge, judged}
use Rattle.ceiling.specs.declared.Limit.{Limit}
use Rattle.register.specs.declared.Entry.{Entry}
use Rattle.register.specs.Register.{most_entries, blank_entry, entry_is_sound}
use Rattle.tables.specs.declared.roll.Register.{Register}
use Rattle.grid.specs.Told.{none_told, rows_by}

-- Entries

-- a line is seven cells
abbrev pub register_columns : ℕ
register_columns = 7

-- what the cells of a line say, if they are so many
unfoldable pub register_row : List ℕ → List ℕ
register_row ns = cond (eqb (length ns) register_columns) ns []

-- the limit that a cell says: `-` that there is none, a number that it is so many fen
unfoldable pub limit_told : ℕ → Limit
limit_told n = cond (eqb n none_told) (record { none = true; fen = record { 0 = 0 } }) (record { none = false; fen = record { 0 = n } })

-- an entry by what its cells say: number, kind, rated kW, status, energy in MWh, assessment in thousandths of a point, limit
unfoldable pub as_entry : List ℕ → Entry
as_entry ns =
    record {
      member = record { number = get_or ns 0 0; kind = get_or ns 1 0; rated = record { 0 = get_or ns 2 0 } };
      status = get_or ns 3 0;
      energy = record { 0 = get_or ns 4 0 };
      assessment = record { 0 = get_or ns 5 0 };
      limit = limit_told (get_or ns 6 0);
    }

-- the entries of a text; a line that is not seven cells is as bad as one of zeros, and a cell that is no number is past its limit
unfoldable pub entries_of : List ℕ → List Entry
entries_of text = map as_entry (rows_by register_row text)

-- Reading

-- entries are judged by the paper's limits, their numbers rising; there are at most 64
abbrev pub register_entries : Judge Entry Register
register_entries =
    record {
      sound = entry_is_sound;
      number = λ e. e.member.number;
      most = most_entries;
      blank = blank_entry;
      answer = λ number place count entries. record { number = number; place = place; count = count; entries = entries };
    }

-- what a register's text says: its entries judged in turn, 10 at the first bad one, or all of them
unfoldable pub read_register : List ℕ → Register
read_register text = judged register_entries (entries_of text)
