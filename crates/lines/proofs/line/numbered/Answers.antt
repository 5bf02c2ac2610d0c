use mathlib.Core.Path.{◌≡◌, refl, ap, sym, ◌∙◌}
use mathlib.Core.List.{List, [], ◌∷◌, ◌++◌}
use Prim.Native.Nat.{ℕ}
use Rattle.row.specs.declared.Row.{Row}
use Rattle.lines.specs.Meaning.{row_line, number_bytes}
use Rattle.lines.proofs.Settling.{number_has, number_zero, number_64, number_9, number_4, number_none}
use Rattle.lines.proofs.line.numbered.Goals as goal

ends : (r row : Row) (bytes : List ℕ) → number_bytes row ≡ bytes → ((rest : List ℕ) → row_line r rest ≡ row_line row (bytes ++ rest))
    → (rest : List ℕ) → row_line r rest ≡ row_line row (number_bytes row ++ rest)
ends r row bytes e h rest = h rest ∙ ap (λ (bs : List ℕ). row_line row (bs ++ rest)) (sym e)

pub returns-then-row : goal.returns-then-row
returns-then-row c = ends _ c.args.row [] (number_has c.args.row c.if-row-gt0.true c.if-row.true) (λ rest. refl)

pub returns-then-row-gt0 : goal.returns-then-row-gt0
returns-then-row-gt0 c =
    let row = c.args.row in
    ends _ row (48 ∷ []) (number_zero row c.if-row-gt0.true c.if-row.false) c.stepped.ensures.line

pub returns-then-row-eq0 : goal.returns-then-row-eq0
returns-then-row-eq0 c =
    let row = c.args.row in
    ends _ row (54 ∷ 52 ∷ []) (number_64 row c.if-row-gt0.false c.if-row-eq0.true)
    (λ rest. c.stepped-then-row-eq0.ensures.line rest ∙ c.stepped-six.ensures.line (52 ∷ rest))

pub returns-then-row-lt6 : goal.returns-then-row-lt6
returns-then-row-lt6 c =
    let row = c.args.row in
    ends _ row (57 ∷ []) (number_9 row c.if-row-gt0.false c.if-row-eq0.false c.if-row-lt6.true) c.stepped-then-row-lt6.ensures.line

pub returns-then-row-eq6 : goal.returns-then-row-eq6
returns-then-row-eq6 c =
    let row = c.args.row in
    ends _ row (52 ∷ [])
    (number_4 row c.if-row-gt0.false c.if-row-eq0.false
    c.if-row-lt6.false c.if-row-eq6.true) c.stepped-then-row-eq6.ensures.line

pub returns : goal.returns
returns c =
    let row = c.args.row in
    ends _ row []
    (number_none row c.if-row-gt0.false c.if-row-eq0.false
    c.if-row-lt6.false c.if-row-eq6.false) (λ rest. refl)
