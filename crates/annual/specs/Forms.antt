-- The forms of a year's table, as they are printed, and their numbers in the order of the form. Assumes nothing.
use Rattle.std.specs.Prelude.{Bool, false, List, [], ◌∷◌, ◌++◌, ℕ, ◌-◌, ◌*◌, ℤ, get_or}
use Rattle.units.specs.Money.{fen_per_thousandth}
use Rattle.render.specs.Decimal.{word}
use Rattle.form.specs.Form.{bits, flag}
use Rattle.report.specs.declared.totals.Totals.{Totals}
use Rattle.report.specs.Totals.{apart}
use Rattle.year.specs.declared.MemberYear.{MemberYear}

-- the first line: whose year it is, and how many months were taken
abbrev pub head_form : List ℕ
head_form = word "area %n year %n months %n\n"

-- a member's line: the months that it is in, what it earned and was charged, its shares, what it got, its largest monthly amount and the month of that
abbrev pub member_form : List ℕ
member_form =
    word "member %n months[ Jan][ Feb][ Mar][ Apr][ May][ Jun][ Jul][ Aug][ Sep][ Oct][ Nov][ Dec] compensation %y assessment %y share %s amount %s largest %s in %m\n"

-- which months are present, from January on
abbrev pub month_flags : List Bool → List ℕ
month_flags months =
    flag (get_or months 0 false) ∷ flag (get_or months 1 false) ∷ flag (get_or months 2 false) ∷ flag (get_or months 3 false)
    ∷ flag (get_or months 4 false) ∷ flag (get_or months 5 false) ∷ flag (get_or months 6 false) ∷ flag (get_or months 7 false)
    ∷ flag (get_or months 8 false) ∷ flag (get_or months 9 false) ∷ flag (get_or months 10 false) ∷ flag (get_or months 11 false) ∷ []

-- the member's number, its months, and its money; the assessment as what it costs
unfoldable pub member_values : ℕ → MemberYear → List ℕ
member_values number m =
    number ∷ month_flags m.months
    ++ (m.sums.compensation.0 ∷ (m.sums.assessment.0 * fen_per_thousandth) ∷ bits m.sums.share.0 ∷ bits m.sums.amount.0
    ∷ bits m.largest.amount.0 ∷ m.largest.month ∷ [])

-- what stands below the lines: the users'; then compensation, assessment and amounts of all together, these as what is due less what is owed
abbrev pub foot_form : List ℕ
foot_form = word "user amount %s\nall compensation %y assessment %y amounts [-]%y\n"

-- the minus stands where less is due than is owed
unfoldable pub foot_values : ℤ → Totals → List ℕ
foot_values users t = bits users ∷ t.compensation ∷ t.assessment ∷ (t.owed - t.due) ∷ apart t.due t.owed ∷ []
