use mathlib.Core.Path.{refl}
use borrow.Author.Tests.{eq-eqb, ne_eqb}
use Rattle.book.specs.Book.{most_records}
use Rattle.book.proofs.most_records.Goals as goal

pub returns-then-version-eq-FIRST_VERSION : goal.returns-then-version-eq-FIRST_VERSION
unfolding most_records
returns-then-version-eq-FIRST_VERSION c = rw (eq-eqb _ _ c.if-version-eq-FIRST_VERSION.true) refl

pub returns : goal.returns
unfolding most_records
returns c = rw (ne_eqb _ _ c.if-version-eq-FIRST_VERSION.false) refl
