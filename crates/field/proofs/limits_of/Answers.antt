use mathlib.Core.Path.{refl}
use Prim.Native.Nat.{zero-le}
use Rattle.call.proofs.Limits.{next, no_service}
use Rattle.call.specs.Limits.{table, limits_of}
use Rattle.field.proofs.limits_of.Goals as goal

pub returns-in-0 : goal.returns-in-0
unfolding limits_of table
returns-in-0 c = rw c.in-0.is refl

pub returns-in-1 : goal.returns-in-1
unfolding limits_of table
returns-in-1 c = rw c.in-1.is refl

pub returns-in-2 : goal.returns-in-2
unfolding limits_of table
returns-in-2 c = rw c.in-2.is refl

pub returns-in-3 : goal.returns-in-3
unfolding limits_of table
returns-in-3 c = rw c.in-3.is refl

pub returns-in-4 : goal.returns-in-4
unfolding limits_of table
returns-in-4 c = rw c.in-4.is refl

pub returns-in-5 : goal.returns-in-5
unfolding limits_of table
returns-in-5 c = rw c.in-5.is refl

pub returns-in-6 : goal.returns-in-6
unfolding limits_of table
returns-in-6 c = rw c.in-6.is refl

pub returns-in-7 : goal.returns-in-7
unfolding limits_of table
returns-in-7 c = rw c.in-7.is refl

pub returns-in-8 : goal.returns-in-8
unfolding limits_of table
returns-in-8 c = rw c.in-8.is refl

pub returns-in-9 : goal.returns-in-9
unfolding limits_of table
returns-in-9 c = rw c.in-9.is refl

pub returns-in-10 : goal.returns-in-10
unfolding limits_of table
returns-in-10 c = rw c.in-10.is refl

pub returns-in_default : goal.returns-in_default
returns-in_default c =
    let not = c.in_default.in_default-own.rest in
    let upTo5 = next (next (next (next (next (next zero-le not.0.0.0.0.0.0.0.0.0.0.1) not.0.0.0.0.0.0.0.0.0.1) not.0.0.0.0.0.0.0.0.1) not.0.0.0.0.0.0.0.1)
    not.0.0.0.0.0.0.1) not.0.0.0.0.0.1 in
    let past = next (next (next (next (next upTo5 not.0.0.0.0.1) not.0.0.0.1) not.0.0.1) not.0.1) not.1 in
    rw (no_service _ past) refl
