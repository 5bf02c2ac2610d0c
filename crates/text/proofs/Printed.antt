-- What `statement` writes reads back. Assumes nothing.
use mathlib.Core.Path.{◌≡◌, ◌∙◌, ap}
use mathlib.Core.List.{List}
use Prim.Native.Nat.{ℕ, ◌≤◌}
use lib.ListN.{length, take}
use Rattle.io.specs.Counts.{IsPrefixLen}
use Rattle.share.specs.declared.Shared.{Shared}
use Rattle.render.specs.Room.{Renders}
use Rattle.render.proofs.Printed.{front_is}
use Rattle.text.specs.Reading.{read_numbers, StatementFits}
use Rattle.text.specs.Texts.{statement_text, most_statement}
use Rattle.text.proofs.ReadsBack.{statement_numbers, statement_back}

-- What `statement` then writes of an outcome that is no refusal reads back as R, number, share and amount of every line, and the user's amount.
pub statement_printed : (s : Shared) (count : ℕ) {before after : List ℕ} {r : ℕ} → most_statement ≤ length before → Renders most_statement (statement_text s count) before after r → IsPrefixLen r after
    → StatementFits s → s.number ≡ 0 → read_numbers (take r after) ≡ statement_numbers s count
statement_printed s count h f n i e = ap (λ (t : List ℕ). read_numbers t) (front_is h f n) ∙ statement_back s count i e
