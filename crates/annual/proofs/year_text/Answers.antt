use native.Mathlib.Omega.{arith}
use Rattle.render.proofs.Placed.{rendered, same_put, looser, none_put}
use Rattle.annual.specs.Texts.{most_year}
use Rattle.annual.proofs.Rows.{refused_text, taken_text}
use Rattle.annual.proofs.year_text.Goals as goal

pub returns-then-y-ne0 : goal.returns-then-y-ne0
returns-then-y-ne0 c =
    let a = c.args in
    let both = rendered most_year c.if-out-lt-MOST_YEAR.false (same_put (refused_text a.area a.y c.if-y-ne0.true) (looser most_year (omega arith) (none_put a.out.now 0))) in
    record { renders = both.0; prefix_len = both.1 }

pub returns : goal.returns
returns c =
    let a = c.args in
    let both = rendered most_year c.if-out-lt-MOST_YEAR.false (same_put (taken_text a.area a.y c.if-y-ne0.false) c.put_year.ensures) in
    record { renders = both.0; prefix_len = both.1 }
