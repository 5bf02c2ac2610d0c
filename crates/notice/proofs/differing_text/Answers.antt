use mathlib.Core.Path.{◌≡◌, refl, ◌∙◌, ap}
use mathlib.Core.List.{List, [], ◌∷◌, ◌++◌}
use Prim.Native.Nat.{ℕ, ◌+◌}
use mir.Syntax.{w64}
use mir.Val.{SFits, of_z}
use mir.ValLaws.{to_z-of_z}
use lib.Dec.{ltb}
use lib.IntN.{ℤ}
use lib.ListN.{get_or}
use Rattle.form.specs.Form.{bits, flag}
use Rattle.std.specs.Prelude.{Option, Some, None}
use Rattle.drawer.specs.declared.apart.Field.{Field}
use Rattle.drawer.specs.declared.apart.Field.TheVariants.{Service, Start, Length, A, B, C}
use Rattle.notice.specs.Forms.{field_flags, highest_revision, differing_values}
use borrow.Author.Rules.{rules}
use Rattle.notice.proofs.differing_text.Goals as goal

-- so many numbers of a list, one by one
abbrev seven : List ℕ → List ℕ → List ℕ
seven w rest = get_or w 0 0 ∷ get_or w 1 0 ∷ get_or w 2 0 ∷ get_or w 3 0 ∷ get_or w 4 0 ∷ get_or w 5 0 ∷ get_or w 6 0 ∷ rest

flags-seven : (f : Option Field) (rest : List ℕ) → seven (field_flags f) rest ≡ field_flags f ++ rest
flags-seven (Some Service) rest = refl
flags-seven (Some Start) rest = refl
flags-seven (Some Length) rest = refl
flags-seven (Some A) rest = refl
flags-seven (Some B) rest = refl
flags-seven (Some C) rest = refl
flags-seven None rest = refl

values-are : (r : ℕ) (f : Option Field) (x y : ℤ) {w : List ℕ} {a b higher : ℕ} → w ≡ field_flags f → a ≡ bits x → b ≡ bits y → higher ≡ flag (ltb r highest_revision)
    → (r ∷ seven w (a ∷ b ∷ higher ∷ (r + 1) ∷ [])) ≡ differing_values r f x y
values-are r f x y e p q h = (λ i. r ∷ seven (e i) (p i ∷ q i ∷ h i ∷ (r + 1) ∷ [])) ∙ ap (λ (vs : List ℕ). r ∷ vs) (flags-seven f _)

pub returns-clause-tells : goal.returns-clause-tells
returns-clause-tells c =
    let x_fits : SFits w64 c.args.x = search rules in
    let y-fits : SFits w64 c.args.y = search rules in
    let w = c.field_flags-w.ensures in
    let a = c.bits64-a.ensures ∙ ap (of_z w64) (to_z-of_z w64 c.args.x x_fits) in
    let b = c.bits64-b.ensures ∙ ap (of_z w64) (to_z-of_z w64 c.args.y y-fits) in
    let higher = c.flag-higher.ensures in
    rw (values-are c.args.r c.args.f c.args.x c.args.y w a b higher) at c.say_with.ensures.renders
