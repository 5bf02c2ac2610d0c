-- Cutting a window in two: what is asked of the parts, and what the cut book is. Assumes nothing.
use Rattle.std.specs.Prelude.{◌≡◌, ◌⊎◌, ◌↔◌, ℕ, ◌+◌, ◌%◌, ◌≤◌, ◌<◌}
use mathlib.Core.List.{List, Memᴰ as In}
use Rattle.units.specs.Month.{minutes_per_quarter}
use Rattle.call.specs.declared.Call.{Call}
use Rattle.call.specs.Revising.{live}
use Rattle.call.specs.Services.{deep_peak, reserve}
use Rattle.book.specs.Book.{header_at, calls_of}

-- a part of a window: a live call of the window's member and service with its a, and with b and c 0, as of every window; its revision is any of at least 1
pub record PartOf (whole part : Call) : Type 0 where
  pub live : part.state ≡ live
  pub participant : part.participant ≡ whole.participant
  pub service : part.service ≡ whole.service
  pub same_a : part.a ≡ whole.a
  pub no_b : part.b ≡ 0
  pub no_c : part.c ≡ 0
  pub revision : 1 ≤ part.revision

-- a call number that none of the member's calls in a book has, withdrawn and contested ones counted
abbrev pub NewNumber : List ℕ → Call → Type 0
NewNumber b x = (y : Call) → In y (calls_of b) → y.participant ≡ x.participant → y.number ≡ x.number → ⊥

-- one of two parts has the window's call number, either one, and the number of the other is new
pub data Numbers (b : List ℕ) (whole first second : Call) : Type 0 where
  first_keeps : first.number ≡ whole.number → NewNumber b second → Numbers b whole first second
  second_keeps : second.number ≡ whole.number → NewNumber b first → Numbers b whole first second

-- WHAT A CUT ASKS: a window of a book, and the two parts that it is to be cut into
pub record Cuttable (b : List ℕ) (whole first second : Call) : Type 0 where
  -- the whole is a live call of the book, of deep peaking or reserve
  pub has : In whole (calls_of b)
  pub live : whole.state ≡ live
  pub window : (whole.service ≡ deep_peak) ⊎ (whole.service ≡ reserve)
  -- the first and the second are parts of it
  pub first_part : PartOf whole first
  pub second_part : PartOf whole second
  -- the first begins where the whole begins, the second where the first ends, and it ends where the whole ends
  pub begins : first.start ≡ whole.start
  pub meet : second.start ≡ first.start + first.length
  pub ends : second.start + second.length ≡ whole.start + whole.length
  -- they meet at a quarter hour strictly inside the whole
  pub quarter : second.start % minutes_per_quarter ≡ 0
  pub inside : (whole.start < second.start) × (second.start < whole.start + whole.length)
  -- one keeps the call number, the other has a new one
  pub numbers : Numbers b whole first second

-- WHAT A CUT IS: the second book is of the same month and area, in whatever version, and has exactly the parts and the first book's other calls
pub record Cut (b c : List ℕ) (whole first second : Call) : Type 0 where
  pub cuttable : Cuttable b whole first second
  pub header : header_at b ≡ header_at c
  pub calls : (x : Call) → In x (calls_of c) ↔ ((x ≡ first) ⊎ ((x ≡ second) ⊎ (In x (calls_of b) × (x ≡ whole → ⊥))))
