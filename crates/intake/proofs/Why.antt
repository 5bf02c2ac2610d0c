-- The reasons, one after another. Assumes nothing.
use mathlib.Core.Path.{◌≡◌, sym, ap}
use mathlib.Core.Bool.{Bool, true, false, not, ◌&&◌}
use Prim.Native.Nat.{ℕ, ◌≤◌, ◌<◌}
use borrow.Author.Tests.{le-leb, lt-leb}
use lib.Dec.{eqb}
use Rattle.std.specs.Prelude.{Some, None, Ok, Err}
use Rattle.month.specs.declared.Statement.{Statement}
use Rattle.posted.specs.Reading.{Posted}
use Rattle.year.specs.Year.{lines_in, adds_to_zero}
use Rattle.intake.specs.declared.Intake.{Intake}
use Rattle.intake.specs.declared.Reason.TheVariants.{NotLine, Beyond, OtherArea, OtherYear, NotLater, NotZero}
use Rattle.intake.specs.Limits.{line_beyond, statement_is_within}
use Rattle.intake.specs.Intake.{month_statement}
use Rattle.intake.specs.Reasons.{reason_in, reason_whole, reason_of}

module _ (g : Intake) (p : Posted) where
  pub line_reason : (line : ℕ) → p ≡ Err line → Some (NotLine line) ≡ reason_of g p
  unfolding reason_of
  line_reason line e = sym (ap (reason_of g) e)

  pub whole_reason : (s : Statement) → p ≡ Ok s → reason_whole g s ≡ reason_of g p
  unfolding reason_of
  whole_reason s e = sym (ap (reason_of g) e)

module _ (g : Intake) (s : Statement) where
  pub too_far : statement_is_within s ≡ false → Some (Beyond (line_beyond s)) ≡ reason_whole g s
  unfolding reason_whole
  too_far e = rw e

  pub judged : statement_is_within s ≡ true → reason_in g s ≡ reason_whole g s
  unfolding reason_whole
  judged e = rw e

  abbrev elsewhere : Bool
  elsewhere = not (eqb g.area 0) && not (eqb s.header.area g.area)

  abbrev earlier : Bool
  earlier = not (eqb g.year.count 0) && not (eqb s.header.year g.year.year)

  pub other_area : elsewhere ≡ true → Some (OtherArea s.header.area) ≡ reason_in g s
  unfolding reason_in
  other_area e = rw e

  module _ (here : elsewhere ≡ false) where
    pub other_year : earlier ≡ true → Some (OtherYear s.header.year) ≡ reason_in g s
    unfolding reason_in
    other_year e = rw (here, e)

    module _ (now : earlier ≡ false) where
      pub not_later : s.header.month ≤ g.year.month → Some (NotLater s.header.month) ≡ reason_in g s
      unfolding reason_in
      not_later h = rw (here, now, le-leb s.header.month g.year.month h)

      module _ (later : g.year.month < s.header.month) where
        pub not_zero : adds_to_zero (lines_in (month_statement s)) s.user.0 ≡ false → Some NotZero ≡ reason_in g s
        unfolding reason_in
        not_zero e = rw (here, now, lt-leb s.header.month g.year.month later, e)

        pub nothing : adds_to_zero (lines_in (month_statement s)) s.user.0 ≡ true → None ≡ reason_in g s
        unfolding reason_in
        nothing e = rw (here, now, lt-leb s.header.month g.year.month later, e)
