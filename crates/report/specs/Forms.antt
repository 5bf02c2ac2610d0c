-- What people read of a month: forms and their numbers. Assumes nothing.
use Rattle.std.specs.Prelude.{List, [], ◌∷◌, ℕ, ◌-◌, ◌*◌, ℤ}
use Rattle.units.specs.Money.{grains_to_fen, fen_per_thousandth}
use Rattle.render.specs.Decimal.{word}
use Rattle.form.specs.Form.{bits, filled, filled_with}
use Rattle.share.specs.Sharing.{most_compensation}
use Rattle.month.specs.declared.Row.{Row}
use Rattle.report.specs.declared.totals.Totals.{Totals}
use Rattle.report.specs.Totals.{apart}

-- a member's line: its points are the fen of its grains
abbrev pub row_form : List ℕ
row_form = word "member %n hours %n points %p compensation %y assessment %y energy %n weight %n share %s uncollected %y given %y amount %s\n"

unfoldable pub row_values : Row → List ℕ
row_values r =
    r.number ∷ r.hours ∷ grains_to_fen r.grains.0 ∷ r.compensation.0 ∷ (r.assessment.0 * fen_per_thousandth) ∷ r.energy.0 ∷ r.weight
    ∷ bits r.share.0 ∷ r.uncollected.0 ∷ r.given.0 ∷ bits r.amount.0 ∷ []

-- what stands below the lines: the user's; then C, A, R, the generators' part of it, and what is due less what is owed
abbrev pub foot_form : List ℕ
foot_form = word "user amount %s\nall compensation %y assessment %y R %s part %n amounts [-]%y\n"

-- the minus stands where less is due than is owed
unfoldable pub foot_values : ℤ → ℤ → ℕ → Totals → List ℕ
foot_values user gap part t =
    bits user ∷ t.compensation ∷ t.assessment ∷ bits gap ∷ part ∷ (t.owed - t.due) ∷ apart t.due t.owed ∷ []

-- a call's member that the register, by its file's name, has no line for
abbrev pub no_line_form : List ℕ
no_line_form = word "failed %1: no line for member %n\n"

abbrev pub no_line_text : List ℕ → ℕ → List ℕ
no_line_text register member = filled_with no_line_form register [] (member ∷ [])

-- a member whose compensation is above what a line may have
abbrev pub above_form : List ℕ
above_form = word "member %n: compensation %y yuan, and a line may have at most %y yuan\n"

abbrev pub above_text : ℕ → ℕ → List ℕ
above_text member fen = filled above_form (member ∷ fen ∷ most_compensation ∷ [])

-- an hour of the month, how many actions it has, and what it pays
abbrev pub hour_form : List ℕ
hour_form = word "hour %n actions %n grains %n\n"

abbrev pub hour_text : ℕ → ℕ → ℕ → List ℕ
hour_text hour actions grains = filled hour_form (hour ∷ actions ∷ grains ∷ [])

-- how many hours there are, and what they pay together
abbrev pub hours_form : List ℕ
hours_form = word "hours %n grains %n\n"

abbrev pub hours_text : ℕ → ℕ → List ℕ
hours_text hours grains = filled hours_form (hours ∷ grains ∷ [])

-- what a call was paid by, the quarter hours that paid, or the grains for each kW, or the Wh of an event; and its grains
abbrev pub part_form : List ℕ
part_form = word "paid[ quarter-hours %n][ rate %n][ wh %i] grains %n\n"

abbrev pub part_values : ℕ → ℕ → ℤ → ℕ → List ℕ
part_values quarters rate wh grains = quarters ∷ quarters ∷ rate ∷ rate ∷ bits wh ∷ bits wh ∷ grains ∷ []

abbrev pub part_text : ℕ → ℕ → ℤ → ℕ → List ℕ
part_text quarters rate wh grains = filled part_form (part_values quarters rate wh grains)

-- below the parts: the month's energy, and what it is paid
abbrev pub energy_form : List ℕ
energy_form = word "[energy wh %i grains %n\n]"

abbrev pub energy_text : ℤ → ℕ → List ℕ
energy_text wh energy = filled energy_form (bits wh ∷ bits wh ∷ energy ∷ [])

-- behind the hours: how many, and what they add; then all the grains, in points and in yuan as well
abbrev pub explained_form : List ℕ
explained_form = word "[ramping hours %n grains %n\n]all grains %n points %p yuan %y\n"

abbrev pub explained_values : ℕ → ℕ → ℕ → List ℕ
explained_values hours added grains = hours ∷ hours ∷ added ∷ grains ∷ grains_to_fen grains ∷ grains_to_fen grains ∷ []

abbrev pub explained_text : ℕ → ℕ → ℕ → List ℕ
explained_text hours added grains = filled explained_form (explained_values hours added grains)
