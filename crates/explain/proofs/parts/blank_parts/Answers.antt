use mathlib.Core.Path.{ap}
use lib.ListN.{replicate}
use Rattle.book.specs.Book.{most_keys}
use Rattle.explain.specs.declared.CallPart.{CallPart}
use Rattle.explain.specs.Explaining.{filled_up}
use Rattle.explain.proofs.parts.blank_parts.Goals as goal

pub returns : goal.returns
unfolding filled_up
returns c = ap (λ (p : CallPart). replicate most_keys p) c.blank_part.ensures
