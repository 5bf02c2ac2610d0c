-- A month's statement once a window of the joined book is cut. Assumes nothing.
use Rattle.std.specs.Prelude.{suc}
use Rattle.month.specs.declared.Statement.{Statement}

-- header, part, R, the user's amount and every line are the same, and there is one call more
unfoldable pub one_call_more : Statement → Statement
one_call_more s =
    record {
      fault = s.fault;
      header = s.header;
      calls = suc s.calls;
      part = s.part;
      gap = s.gap;
      user = s.user;
      count = s.count;
      rows = s.rows;
    }
