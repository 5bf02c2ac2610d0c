-- The two parts into which the desk cuts a window: the first keeps the call number, at the next revision; the second is a new call. Assumes nothing.
use Rattle.std.specs.Prelude.{◌≡◌, ◌⊎◌, ℕ, ◌+◌, ◌-◌, ◌%◌, ◌<◌}
use mathlib.Core.List.{List, Memᴰ as In}
use Rattle.units.specs.Month.{minutes_per_quarter}
use Rattle.call.specs.declared.Call.{Call}
use Rattle.call.specs.Revising.{live}
use Rattle.call.specs.Services.{deep_peak, reserve}
use Rattle.book.specs.Book.{calls_of}
use Rattle.book.specs.Cut.{NewNumber}

-- up to the minute of the cut: the window revised, at the revision that stands and one more
abbrev pub first_part_of : Call → ℕ → Call
first_part_of whole at =
    record {
      participant = whole.participant;
      service = whole.service;
      state = live;
      number = whole.number;
      revision = whole.revision + 1;
      start = whole.start;
      length = at - whole.start;
      a = whole.a;
      b = 0;
      c = 0;
    }

-- from there to the window's end: a new number, at revision 1
abbrev pub second_part_of : Call → ℕ → ℕ → Call
second_part_of whole at number =
    record {
      participant = whole.participant;
      service = whole.service;
      state = live;
      number = number;
      revision = 1;
      start = at;
      length = whole.start + whole.length - at;
      a = whole.a;
      b = 0;
      c = 0;
    }

-- what the desk looks at: the book has the window, live and of service 1 or 2 and not at the last revision, the minute is a quarter hour inside it, and the number is new
pub record MayCut (b : List ℕ) (whole : Call) (at number : ℕ) : Type 0 where
  pub has : In whole (calls_of b)
  pub live : whole.state ≡ live
  pub window : (whole.service ≡ deep_peak) ⊎ (whole.service ≡ reserve)
  pub not_last : whole.revision + 1 < 4294967296
  pub quarter : at % minutes_per_quarter ≡ 0
  pub inside : (whole.start < at) × (at < whole.start + whole.length)
  pub fresh : NewNumber b (second_part_of whole at number)
  pub small : number < 4294967296
