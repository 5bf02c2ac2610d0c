use mathlib.Core.Path.{sym, ◌∙◌}
use lib.Dec.{eqb}
use Rattle.std.proofs.Common.{rules, tests}
use Rattle.std.proofs.lemmas.Iterator.{YieldsList-from_slice}
use Rattle.std.proofs.lemmas.Iterator.Search.{any_from_yields_List}
use Rattle.register.specs.declared.Entry.{Entry}
use Rattle.month.proofs.Listing.{listed_any}
use Rattle.month.proofs.listed.is_listed.Goals as goal

pub returns : goal.returns
returns c =
    any_from_yields_List (λ (e : Entry). eqb e.member.number c.args.number) _ _ _ c.any.ensures.ran
    (YieldsList-from_slice c.args.entries.now cc) (λ x b q k. search (rules, tests))
    ∙ sym (listed_any c.args.entries.now c.args.number)
