use mathlib.Core.Path.{◌≡◌, sym}
use Prim.Native.Nat.{◌+◌}
use native.Mathlib.Omega.{arith}
use lib.ListN.{length}
use lib.Seq.{length-take-le}
use borrow.Author.Rules.{rules}
use Rattle.year.specs.Every.{year_taking}
use Rattle.year.proofs.Statements.{statement_fits, lines_tested}
use Rattle.year.proofs.Taking.{takes_sound}
use Rattle.year.proofs.Year.taking.Goals as goal

pub with_lines-members-requires : goal.with_lines-members-requires
with_lines-members-requires c =
    let sound = (takes_sound c.args.self c.args.s c.requires).1 in
    let f = statement_fits c.args.s sound in record {
      month = f.month;
      lines_value = lines_tested c.args.s sound;
    }

pub slice_bounds-lines-end : goal.slice_bounds-lines-end
slice_bounds-lines-end c = omega (arith, (statement_fits c.args.s (takes_sound c.args.self c.args.s c.requires).1).few)

pub slice_bounds-with_lines-end : goal.slice_bounds-with_lines-end
slice_bounds-with_lines-end c =
    let long : length c.args.s.lines ≡ 64 = search rules in
    sym (length-take-le c.args.s.count c.args.s.lines (omega (arith, (statement_fits c.args.s (takes_sound c.args.self c.args.s c.requires).1).few)))

pub signed_plus-sum-requires : goal.signed_plus-sum-requires
signed_plus-sum-requires c =
    (statement_fits c.args.s (takes_sound c.args.self c.args.s c.requires).1).user

pub overflow_add-result : goal.overflow_add-result
overflow_add-result c =
    record { fits = omega (arith, (takes_sound c.args.self c.args.s c.requires).0) }

pub returns : goal.returns
unfolding year_taking
returns c =
    λ i. record {
      number = 0;
      place = 0;
      year = c.args.s.year;
      month = c.args.s.month;
      count = c.args.self.count + 1;
      members = c.with_lines-members.ensures i;
      users = record { 0 = c.signed_plus-sum.ensures i };
    }
