-- What holds of a reader, whatever it has read, holds of the text that it has read: both halves of its contracts. Assumes nothing.
use mathlib.Core.Path.{◌≡◌, ap, sym, ◌∙◌}
use mathlib.Core.Bool.{Bool}
use mathlib.Core.List.{List, [], ◌++◌, append_assoc, append-nil}
use Prim.Native.Nat.{ℕ}
use Rattle.lines.specs.declared.Reader.{Reader}
use Rattle.lines.specs.declared.Taken.{Taken}
use Rattle.lines.specs.Text.{read_text}
use Rattle.lines.specs.Meaning.{meaning}
use Rattle.lines.specs.Stream.{HasRead, Settled, Tells, GoesOn, Stays}

module _ (s : Reader) where
  pub read_on : (r : Reader) (bytes : List ℕ) → ((rest : List ℕ) → meaning r rest ≡ meaning s (bytes ++ rest))
      → ((text : List ℕ) → HasRead s text → HasRead r (text ++ bytes)) × GoesOn s bytes r
  read_on r bytes h = (λ text k. record { says = λ rest. h rest ∙ k.says (bytes ++ rest) ∙ ap read_text (sym (append_assoc text bytes rest)) }, record { says = h })

  read_end : (text : List ℕ) → HasRead s text → meaning s [] ≡ read_text text
  read_end text k = k.says [] ∙ ap read_text (append-nil text)

  pub read_answer : (t : Taken) → t ≡ meaning s [] → ((text : List ℕ) → HasRead s text → t ≡ read_text text) × (t ≡ meaning s [])
  read_answer t e = (λ text k. e ∙ read_end text k, e)

  pub read_settled : (t : Bool) → Tells (Stays s) t → ((text : List ℕ) → HasRead s text → Tells (Settled text) t) × Tells (Stays s) t
  read_settled t h = (
    λ text k. record {
      yes = λ e rest. sym (k.says rest) ∙ h.yes e rest ∙ read_end text k;
      no = λ e same. h.no e (λ rest. k.says rest ∙ same rest ∙ sym (read_end text k));
    },
    h,
  )
