-- A text that was read: its statement has no more than 64 rows, and what it stands for. Assumes nothing.
use mathlib.Core.Path.{◌≡◌, sym, ap, ◌∙◌}
use mathlib.Core.Bool.{true, false}
use mathlib.Core.List.{List}
use Prim.Native.Nat.{ℕ, ◌≤◌}
use borrow.Author.Tests.{eq-eqb, ne_eqb}
use Rattle.std.specs.Prelude.{Ok, Err, IfOk}
use Rattle.month.specs.declared.Statement.{Statement}
use Rattle.register.specs.Register.{most_entries}
use Rattle.year.specs.declared.MonthStatement.{MonthStatement}
use Rattle.year.specs.declared.Year.{Year}
use Rattle.year.specs.Verdict.{blank_statement}
use Rattle.year.specs.Every.{year_with}
use Rattle.posted.specs.Reading.{Posted, statement_with, read_whole, ReadPosted, no_head, no_line, no_user_lem, no_end, whole}
use Rattle.intake.specs.declared.Intake.{Intake}
use Rattle.intake.specs.Intake.{area_after, is_taken, as_statement, month_statement, intake_with}

pub few : {p : Posted} {s : Statement} → p ≡ Ok s → IfOk p (λ (x : Statement). x.count ≤ most_entries) → s.count ≤ most_entries
few is h = rw is at h

pub read_few : {t : List ℕ} {p : Posted} → ReadPosted t p → IfOk p (λ (s : Statement). s.count ≤ most_entries)
unfolding read_whole statement_with
read_few (no_head e n) = rw e tt
read_few (no_line h c o rs x e q k l) = rw e tt
read_few (no_user_lem h c o rs z x e q k l) = rw e tt
read_few (no_end h c o rs z u x e q k v l) = rw e tt
read_few (whole h c o rs z u e q k v) = rw e q.few

module _ (area : ℕ) (p : Posted) where
  module _ (s : Statement) (is : p ≡ Ok s) where
    pub stands : is_taken area s ≡ true → month_statement s ≡ as_statement area p
    unfolding as_statement
    stands e = let own : month_statement s ≡ as_statement area (Ok s) = rw e in own ∙ sym (ap (as_statement area) is)

    pub stands_not : is_taken area s ≡ false → blank_statement ≡ as_statement area p
    unfolding as_statement
    stands_not e = let own : blank_statement ≡ as_statement area (Ok s) = rw e in own ∙ sym (ap (as_statement area) is)

    pub area_first : area ≡ 0 → s.header.area ≡ area_after area p
    unfolding area_after
    area_first e = let own : s.header.area ≡ area_after area (Ok s) = rw (eq-eqb area 0 e) in own ∙ sym (ap (area_after area) is)

    pub area_kept : (area ≡ 0 → ⊥) → area ≡ area_after area p
    unfolding area_after
    area_kept h = let own : area ≡ area_after area (Ok s) = rw (ne_eqb area 0 h) in own ∙ sym (ap (area_after area) is)

  module _ (line : ℕ) (is : p ≡ Err line) where
    pub stands_bad : blank_statement ≡ as_statement area p
    unfolding as_statement
    stands_bad = sym (ap (as_statement area) is)

    pub area_bad : area ≡ area_after area p
    unfolding area_after
    area_bad = sym (ap (area_after area) is)

-- the parts of an intake put together
pub goes_on_so : (g : Intake) (p : Posted) (area : ℕ) (s : MonthStatement) (y : Year) → area ≡ area_after g.area p → s ≡ as_statement area p → y ≡ year_with g.year s
    → ◌≡◌ {A = Intake} (record { year = y; area = area }) (intake_with g p)
unfolding intake_with
goes_on_so g p area s y a e f =
    let same : y ≡ year_with g.year (as_statement (area_after g.area p) p) =
    f ∙ ap (year_with g.year) (e ∙ ap (λ (n : ℕ). as_statement n p) a) in
    λ i. record { year = same i; area = a i }
