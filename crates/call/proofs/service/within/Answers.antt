use mathlib.Core.Path.{refl}
use mir.Syntax.{w32}
use mir.ValLaws.{to_z-of_z}
use Rattle.std.proofs.Common.{◌≤◌, arith}
use Rattle.call.proofs.Limits.{no_service}
use Rattle.call.specs.Limits.{table, limits_of}
use Rattle.call.proofs.service.within.Goals as goal

pub returns-in-0 : goal.returns-in-0
unfolding limits_of table
returns-in-0 c = rw (c.allow.ensures, c.row.ensures, c.in-0.is, to_z-of_z w32 c.args.a c.ranges.a) refl

pub returns-in-1 : goal.returns-in-1
unfolding limits_of table
returns-in-1 c = rw (c.allow-in-1.ensures, c.row-in-1.ensures, c.in-1.is, to_z-of_z w32 c.args.a c.ranges.a) refl

pub returns-in-2 : goal.returns-in-2
unfolding limits_of table
returns-in-2 c = rw (c.allow-in-2.ensures, c.row-in-2.ensures, c.in-2.is, to_z-of_z w32 c.args.a c.ranges.a) refl

pub returns-in-3 : goal.returns-in-3
unfolding limits_of table
returns-in-3 c = rw (c.allow-in-3.ensures, c.row-in-3.ensures, c.in-3.is, to_z-of_z w32 c.args.a c.ranges.a) refl

pub returns-in-4 : goal.returns-in-4
unfolding limits_of table
returns-in-4 c = rw (c.allow-in-4.ensures, c.row-in-4.ensures, c.in-4.is, to_z-of_z w32 c.args.a c.ranges.a) refl

pub returns-in-5 : goal.returns-in-5
unfolding limits_of table
returns-in-5 c = rw (c.allow-in-5.ensures, c.row-in-5.ensures, c.in-5.is, to_z-of_z w32 c.args.a c.ranges.a) refl

pub returns-in-6 : goal.returns-in-6
unfolding limits_of table
returns-in-6 c = rw (c.allow-in-6.ensures, c.row-in-6.ensures, c.in-6.is, to_z-of_z w32 c.args.a c.ranges.a) refl

pub returns-in-7 : goal.returns-in-7
unfolding limits_of table
returns-in-7 c = rw (c.allow-in-7.ensures, c.row-in-7.ensures, c.in-7.is, to_z-of_z w32 c.args.a c.ranges.a) refl

pub returns-in-8 : goal.returns-in-8
unfolding limits_of table
returns-in-8 c = rw (c.allow-in-8.ensures, c.row-in-8.ensures, c.in-8.is, to_z-of_z w32 c.args.a c.ranges.a) refl

pub returns-in-9 : goal.returns-in-9
unfolding limits_of table
returns-in-9 c = rw (c.allow-in-9.ensures, c.row-in-9.ensures, c.in-9.is, to_z-of_z w32 c.args.a c.ranges.a) refl

pub returns-in-10 : goal.returns-in-10
unfolding limits_of table
returns-in-10 c = rw (c.allow-in-10.ensures, c.row-in-10.ensures, c.in-10.is, to_z-of_z w32 c.args.a c.ranges.a) refl

pub returns-in_default : goal.returns-in_default
returns-in_default c =
    let past : 11 ≤ c.args.service = omega arith in
    rw (c.allow-in_default.ensures, c.row-in_default.ensures, no_service _ past, to_z-of_z w32 c.args.a c.ranges.a) refl
