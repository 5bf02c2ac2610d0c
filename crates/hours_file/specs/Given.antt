-- What a member's ramping file gives to its month. Assumes nothing.
use Rattle.std.specs.Prelude.{ℕ, ◌*◌, Option, Some, None}
use Rattle.units.specs.declared.Grains.{Grains}
use Rattle.units.specs.Month.{days_of}
use Rattle.month.specs.declared.Ramped.{Ramped}
use Rattle.hours.specs.declared.Hours.{Hours}
use Rattle.hours.specs.declared.HoursFault.{HoursFault}
use Rattle.hours.specs.declared.HoursFault.TheVariants.{OfMember, AtLine}
use Rattle.hours.specs.Hours.{month_hours}

-- the hours of a month
unfoldable pub hours_of : ℕ → ℕ → ℕ
hours_of year month = days_of year month * 24

-- how many hours there are and their grains together; or the refusal: 10 or 12 of the register line at 0, 10 at a line
abbrev pub ramped_by : Option HoursFault → ℕ → Grains → Ramped
ramped_by None count sum = record { grains = sum; place = 0; number = 0; hours = month_hours count }
ramped_by (Some (OfMember told)) count sum = record { grains = record { 0 = 0 }; place = 0; number = told; hours = 0 }
ramped_by (Some (AtLine line)) count sum = record { grains = record { 0 = 0 }; place = line; number = 10; hours = 0 }

unfoldable pub ramped_of : Hours → Ramped
ramped_of h = ramped_by h.fault h.count h.sum
