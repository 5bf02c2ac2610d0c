-- What the intake promises: texts one by one as in a list; which texts are taken, and which are refused, exactly; and nothing is left to choose. Assumes nothing.
use mathlib.Core.Path.{◌≡◌, refl, sym, ap, ◌∙◌}
use mathlib.Core.Bool.{Bool, true, false, cond}
use mathlib.Core.List.{List, [], ◌∷◌, ◌++◌}
use mathlib.Core.Logic.{◌↔◌}
use Prim.Native.Nat.{ℕ, ◌+◌}
use native.Mathlib.Omega.{arith}
use borrow.Author.Tests.{eq-eqb, eqb-true}
use lib.Dec.{eqb}
use lib.ListN.{length, length-append}
use Rattle.le.proofs.Tests.{each, all}
use Rattle.month.specs.declared.Statement.{Statement}
use Rattle.posted.specs.Posted.{posted_text}
use Rattle.posted.specs.Reading.{Posted, Settled, ReadPosted}
use Rattle.posted.proofs.Promises.{posted_back, posted_only}
use Rattle.posted.proofs.Determined.{posted_determined}
use Rattle.year.specs.declared.MonthStatement.{MonthStatement}
use Rattle.year.specs.declared.Year.{Year}
use Rattle.year.specs.Year.{goes_on, first_bad_statement, year_of}
use Rattle.year.specs.Verdict.{GoesOn, blank_statement}
use Rattle.year.proofs.Statements.{goes_on_lem, on_goes}
use Rattle.year.proofs.Taking.{bad_behind, year_with_lem}
use Rattle.year.proofs.Orders.{accepted_all, all_accepted}
use Rattle.intake.specs.declared.Intake.{Intake}
use Rattle.std.specs.Prelude.{Option, Ok, Err}
use Rattle.intake.specs.declared.Reason.{Reason}
use Rattle.intake.specs.Limits.{statement_is_within}
use Rattle.intake.specs.Intake.{month_statement, area_after, is_taken, as_statement, statements_from, area_from, intake_of, no_texts, intake_with, TakesText}
use Rattle.intake.specs.Reasons.{reason_of, GivesReason}
use Rattle.intake.proofs.Texts.{stands, stands_not, stands_bad}

-- Texts one by one

from_behind : (area : ℕ) (ps : List Posted) (p : Posted)
    → statements_from area (ps ++ p ∷ []) ≡ statements_from area ps ++ as_statement (area_after (area_from area ps) p) p ∷ []
unfolding statements_from area_from
from_behind area [] p = refl
from_behind area (q ∷ ps) p = ap (λ (ss : List MonthStatement). as_statement (area_after area q) q ∷ ss) (from_behind (area_after area q) ps p)

area_behind : (area : ℕ) (ps : List Posted) (p : Posted) → area_from area (ps ++ p ∷ []) ≡ area_after (area_from area ps) p
unfolding area_from
area_behind area [] p = refl
area_behind area (q ∷ ps) p = area_behind (area_after area q) ps p

-- what a text stands for behind others
abbrev pub stands_for : List Posted → Posted → MonthStatement
stands_for ps p = as_statement (area_after (area_from 0 ps) p) p

pub taken_behind : (ps : List Posted) (p : Posted) → intake_with (intake_of ps) p ≡ intake_of (ps ++ p ∷ [])
unfolding intake_of intake_with
taken_behind ps p =
    let same = year_with_lem (statements_from 0 ps) (stands_for ps p) ∙ ap year_of (sym (from_behind 0 ps p)) in
    let area = sym (area_behind 0 ps p) in
    λ i. record { year = same i; area = area i }

-- texts that were read so
pub data AllRead : List (List ℕ) → List Posted → Type 0 where
  none_read : AllRead [] []
  more_read : (ts : List (List ℕ)) (ps : List Posted) (t : List ℕ) (p : Posted) → AllRead ts ps → ReadPosted t p → AllRead (ts ++ t ∷ []) (ps ++ p ∷ [])

-- an intake that was started, and took text after text, each as its contract has it
pub data TextsTaken : List (List ℕ) → Intake → Type 0 where
  started : (g : Intake) → g ≡ no_texts → TextsTaken [] g
  took : (ts : List (List ℕ)) (t : List ℕ) (g r : Intake) → TextsTaken ts g → TakesText t g r → TextsTaken (ts ++ t ∷ []) r

-- ONE BY ONE AS IN A LIST: it is the intake of the texts as they read.
pub texts_one_by_one : (ts : List (List ℕ)) (g : Intake) → TextsTaken ts g → (ps : List Posted) × AllRead ts ps × (g ≡ intake_of ps)
texts_one_by_one ts g (started _ e) = ([], none_read, e)
texts_one_by_one ts r (took before t g _ k h) =
    let q = texts_one_by_one before g k in (
      q.0 ++ h.posted ∷ [],
      more_read before q.0 t h.posted q.1 h.read,
      h.is ∙ ap (λ (x : Intake). intake_with x h.posted) q.2 ∙ taken_behind q.0 h.posted,
    )

-- Two outcomes that a contract allows are one

pub text_determined : {t : List ℕ} {g r s : Intake} → TakesText t g r → TakesText t g s → r ≡ s
text_determined {g = g} f h = f.is ∙ ap (intake_with g) (posted_determined f.read h.read) ∙ sym h.is

pub reason_determined : {t : List ℕ} {g : Intake} {r s : Option Reason} → GivesReason t g r → GivesReason t g s → r ≡ s
reason_determined {g = g} f h = f.is ∙ ap (reason_of g) (posted_determined f.read h.read) ∙ sym h.is

-- Which texts stand for their own numbers

-- the text of a settled statement of an area, every number within its limit
pub record OwnText (held : ℕ) (text : List ℕ) (s : Statement) : Type 0 where
  pub settled : Settled s
  pub is : text ≡ posted_text s
  pub area : s.header.area ≡ held
  pub within : statement_is_within s ≡ true

pub taken_own : {t : List ℕ} {s : Statement} (area : ℕ) → ReadPosted t (Ok s) → is_taken area s ≡ true → OwnText area t s
unfolding is_taken
taken_own {s = s} area f h =
    let e = each (eqb s.header.area area) (statement_is_within s ∷ []) h in
    let o = posted_only f in
    record { settled = o.0; is = o.1; area = eqb-true s.header.area area e.0; within = e.1.0 }

pub own_taken : {t : List ℕ} {p : Posted} (area : ℕ) (s : Statement) → ReadPosted t p → OwnText area t s → (is_taken area s ≡ true) × (p ≡ Ok s)
unfolding is_taken
own_taken area s f o = (
  all (eqb s.header.area area) (statement_is_within s ∷ []) (eq-eqb s.header.area area o.area, (o.within, tt)),
  posted_back s o.settled (rw o.is at f),
)

-- Refusals, exactly

one_more : (ss : List MonthStatement) (s : MonthStatement) (t : Bool) → goes_on ss s ≡ t → first_bad_statement ss (s ∷ []) ≡ cond t 1 0
unfolding first_bad_statement
one_more ss s true e = rw e
one_more ss s false e = rw e

-- a statement more is accepted where it goes on
pub more_accepted : (ss : List MonthStatement) (s : MonthStatement) → (year_of ss).number ≡ 0 → ((year_of (ss ++ s ∷ [])).number ≡ 0) ↔ GoesOn ss s
more_accepted ss s none = (λ h. goes_on_lem ss s (to (goes_on ss s) refl h), λ h. all_accepted (ss ++ s ∷ []) (from (on_goes ss s h)))
  where
    behind : first_bad_statement [] (ss ++ s ∷ []) ≡ length ss + first_bad_statement ss (s ∷ [])
    behind = bad_behind [] ss (s ∷ []) (accepted_all ss none)

    to : (t : Bool) → goes_on ss s ≡ t → (year_of (ss ++ s ∷ [])).number ≡ 0 → goes_on ss s ≡ true
    to true e h = e
    to false e h = absurd (omega (arith, accepted_all (ss ++ s ∷ []) h, behind, one_more ss s false e, length-append ss (s ∷ [])))

    from : goes_on ss s ≡ true → first_bad_statement [] (ss ++ s ∷ []) ≡ length (ss ++ s ∷ [])
    from e = omega (arith, behind, one_more ss s true e, length-append ss (s ∷ []))

-- a statement of no month never goes on
pub blank_never : (ss : List MonthStatement) → GoesOn ss blank_statement → ⊥
blank_never ss g = omega (arith, g.month)

-- A TEXT IS TAKEN EXACTLY where it is the text of a settled statement, of the first one's area, within every limit, that goes on behind those before it: not a thirteenth, of
-- their year, of a later month, its amounts and the user's adding up to zero. It then counts with its own numbers; otherwise 10 stands at its place.
pub text_exactly : (ps : List Posted) (p : Posted) (t : List ℕ) → ReadPosted t p → (intake_of ps).year.number ≡ 0
    → ((intake_with (intake_of ps) p).year.number ≡ 0)
    ↔ ((s : Statement) × OwnText (area_after (area_from 0 ps) p) t s × GoesOn (statements_from 0 ps) (month_statement s))
unfolding intake_of intake_with
text_exactly ps p t f none = (to p f, from)
  where
    on : (q : Posted) → (intake_with (intake_of ps) q).year.number ≡ 0 → GoesOn (statements_from 0 ps) (stands_for ps q)
    on q h = (more_accepted (statements_from 0 ps) (stands_for ps q) none).0 (ap (λ (y : Year). y.number) (sym (year_with_lem (statements_from 0 ps) (stands_for ps q))) ∙ h)

    judged : (s : Statement) → ReadPosted t (Ok s) → (b : Bool) → is_taken (area_after (area_from 0 ps) (Ok s)) s ≡ b → GoesOn (statements_from 0 ps) (stands_for ps (Ok s))
        → (x : Statement) × OwnText (area_after (area_from 0 ps) (Ok s)) t x × GoesOn (statements_from 0 ps) (month_statement x)
    judged s g true e k = let area = area_after (area_from 0 ps) (Ok s) in (s, taken_own area g e, rw (stands area (Ok s) s refl e) k)
    judged s g false e k = absurd (blank_never (statements_from 0 ps) (rw (stands_not (area_after (area_from 0 ps) (Ok s)) (Ok s) s refl e) k))

    to : (q : Posted) → ReadPosted t q → (intake_with (intake_of ps) q).year.number ≡ 0
        → (s : Statement) × OwnText (area_after (area_from 0 ps) q) t s × GoesOn (statements_from 0 ps) (month_statement s)
    to (Ok s) g h = judged s g (is_taken (area_after (area_from 0 ps) (Ok s)) s) refl (on (Ok s) h)
    to (Err line) g h = absurd (blank_never (statements_from 0 ps) (rw (stands_bad (area_after (area_from 0 ps) (Err line)) (Err line) line refl) (on (Err line) h)))

    from : (s : Statement) × OwnText (area_after (area_from 0 ps) p) t s × GoesOn (statements_from 0 ps) (month_statement s) → (intake_with (intake_of ps) p).year.number ≡ 0
    from q =
        let o = own_taken (area_after (area_from 0 ps) p) q.0 f q.1 in
        let own : month_statement q.0 ≡ stands_for ps p = stands (area_after (area_from 0 ps) p) p q.0 o.1 o.0 in
        ap (λ (y : Year). y.number) (year_with_lem (statements_from 0 ps) (stands_for ps p))
        ∙ (more_accepted (statements_from 0 ps) (stands_for ps p) none).1 (rw own at q.2)
