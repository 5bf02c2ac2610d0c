-- What users of forms rely on. Assumes nothing.
use mathlib.Core.Path.{◌≡◌, refl, sym, ◌∙◌, ap}
use mathlib.Core.Bool.{Bool, true, false}
use mathlib.Core.List.{List, [], ◌∷◌, ◌++◌, append_assoc}
use Prim.Native.Nat.{ℕ, ◌+◌}
use native.Mathlib.Nat.{add-zero}
use lib.IntN.{ℤ}
use lib.ListN.{get_or, drop}
use lib.Seq.{drop-drop, get_or-drop}
use mir.Syntax.{w64}
use mir.Val.{SFits, to_z}
use mir.ValLaws.{to_z-of_z}
use Rattle.render.specs.Inner.{Puts}
use Rattle.render.specs.Decimal.{signed_decimal}
use Rattle.form.specs.Form.{bits, shown, is_sign, byte_text, next_on, next_marked, taken_by, filled_from}

-- Two outcomes that `fill` and `fill_with` allow coincide, the buffer byte by byte and the answer; for `say` and `say_with` render's `text_determined` says so.
pub put_determined : {most at : ℕ} {text before after after' : List ℕ} {r r' : ℕ} → Puts most before at text after r → Puts most before at text after' r' → (after ≡ after') × (r ≡ r')
put_determined f g = (f.bytes.is ∙ sym g.bytes.is, f.behind ∙ sym g.behind)

-- A form behind another: what the first leaves of the numbers, whether it shows, whether it ends in a `%`
abbrev pub on_behind : Bool → Bool → List ℕ → List ℕ → Bool
on_behind on marked [] vs = on
on_behind on marked (c ∷ form) vs = on_behind (next_on on marked c (get_or vs 0 0)) (next_marked marked c) form (drop (taken_by marked c) vs)

abbrev pub marked_behind : Bool → List ℕ → Bool
marked_behind marked [] = marked
marked_behind marked (c ∷ form) = marked_behind (next_marked marked c) form

abbrev pub taken_in : Bool → List ℕ → ℕ
taken_in marked [] = 0
taken_in marked (c ∷ form) = taken_by marked c + taken_in (next_marked marked c) form

pub filled_both : (one other : List ℕ) (on marked : Bool) (f g vs : List ℕ)
    → filled_from one other on marked (f ++ g) vs
    ≡ filled_from one other on marked f vs ++ filled_from one other (on_behind on marked f vs) (marked_behind marked f) g (drop (taken_in marked f) vs)
unfolding filled_from
filled_both one other on marked [] g vs = refl
filled_both one other on marked (c ∷ f) g vs =
    ap (λ (l : List ℕ). byte_text one other on marked c (get_or vs 0 0) ++ l) (filled_both one other (next_on on marked c (get_or vs 0 0)) (next_marked marked c) f g (drop (taken_by marked c) vs))
    ∙ rw (drop-drop, append_assoc)

-- A mark at the front of what is left
mark_first : (one other : List ℕ) (c : ℕ) (g vs : List ℕ) → filled_from one other true false (37 ∷ c ∷ g) vs ≡ shown one other c (get_or vs 0 0)
    ++ filled_from one other true false g (drop (taken_by true c) vs)
unfolding filled_from byte_text next_on next_marked taken_by is_sign
mark_first one other c g vs = refl

-- A mark in its place: behind a part that is shown and takes so many numbers it shows the next one, and behind it stands the rest of the form with the rest of the numbers.
pub mark_at : (one other f : List ℕ) (c : ℕ) (g vs : List ℕ) → on_behind true false f vs ≡ true → marked_behind false f ≡ false
    → filled_from one other true false (f ++ (37 ∷ c ∷ g)) vs
    ≡ filled_from one other true false f vs ++ (shown one other c (get_or vs (taken_in false f) 0) ++ filled_from one other true false g (drop (taken_in false f + taken_by true c) vs))
mark_at one other f c g vs o m =
    filled_both one other true false f (37 ∷ c ∷ g) vs
    ∙ rw (o, m) (ap (λ (l : List ℕ). filled_from one other true false f vs ++ l) (mark_first one other c g (drop (taken_in false f) vs) ∙ rw
    (get_or-drop (taken_in false f) vs 0 0, add-zero, drop-drop)))

-- A signed number goes through its bits and back.
pub signed_back : (z : ℤ) → SFits w64 z → signed_decimal (to_z w64 (bits z)) ≡ signed_decimal z
signed_back z f = ap signed_decimal (to_z-of_z w64 z f)
