-- A month's statement once a withdrawn record is taken out of the joined book: one call fewer, places behind it one lower. Assumes nothing.
use Rattle.std.specs.Prelude.{cond, ℕ, ◌-◌}
use Rattle.score.specs.Lowered.{lower_place, is_of_record}
use Rattle.month.specs.declared.Fault.{Fault}
use Rattle.month.specs.declared.Fault.TheVariants.{NoFault, InPart, InRegister, InBook, Unlisted, OfMember, OfRamping, InSharing}
use Rattle.month.specs.declared.Statement.{Statement}

-- the places of records, of a call without a line and of 12 to 14, are one lower behind record j
unfoldable pub lowered_fault : ℕ → Fault → Fault
lowered_fault j NoFault = NoFault
lowered_fault j InPart = InPart
lowered_fault j (InRegister line) = InRegister line
lowered_fault j (InBook number place) = InBook number place
lowered_fault j (Unlisted call) = Unlisted (lower_place j call)
lowered_fault j (OfMember line number place) = OfMember line number (cond (is_of_record number) (lower_place j place) place)
lowered_fault j (OfRamping line number place) = OfRamping line number place
lowered_fault j (InSharing number place) = InSharing number place

-- header, part, R, the user's amount and every line are the same, and there is one call fewer
unfoldable pub lowered_statement : ℕ → Statement → Statement
lowered_statement j s =
    record {
      fault = lowered_fault j s.fault;
      header = s.header;
      calls = s.calls - 1;
      part = s.part;
      gap = s.gap;
      user = s.user;
      count = s.count;
      rows = s.rows;
    }
