use Rattle.intake.proofs.Texts.{read_few, goes_on_so}
use Rattle.intake.proofs.Intake.with.Goals as goal

pub as_statement-s-requires : goal.as_statement-s-requires
as_statement-s-requires c = read_few c.read_posted-p.ensures

pub returns : goal.returns
returns c =
    let p = c.read_posted-p in
    record {
      posted = p.result;
      read = p.ensures;
      is = goes_on_so c.args.self p.result _ c.as_statement-s.result _ c.area_after-area.ensures
          c.as_statement-s.ensures c.with-year.ensures.value;
    }
