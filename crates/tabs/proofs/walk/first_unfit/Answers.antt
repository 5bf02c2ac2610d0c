use mathlib.Core.Path.{◌≡◌, sym, ◌∙◌}
use mathlib.Core.Bool.{true}
use Prim.Native.Nat.{◌+◌, ◌*◌}
use native.Mathlib.Omega.{arith}
use Rattle.le.specs.Le.{IsBytes}
use Rattle.book.specs.Book.{calls_of}
use Rattle.tabs.specs.Tabs.{fits_at}
use Rattle.tabs.proofs.Fits.{fits_is}
use Rattle.tabs.proofs.Making.{fit_starts, fit_not, place_few, Fitting, fit_next, fit_over}
use Rattle.tabs.proofs.walk.first_unfit.Goals as goal

pub loop-member-init : goal.loop-member-init
unfolding IsBytes
loop-member-init c = fit_starts _ _ (λ i. omega (arith, c.type_inv.b i)) c.requires

pub returns-then-not-fits_from : goal.returns-then-not-fits_from
returns-then-not-fits_from c =
    fit_not c.loop-member.invariant (omega (arith, c.loop-member-test.true)) (sym c.fits_from.ensures ∙ c.if-not-fits_from.true)

pub count_on-requires : goal.count_on-requires
count_on-requires c =
    let fits : let s = c.args in fits_at s.page.now (calls_of s.b.now) c.loop-member.member ≡ true =
    sym c.fits_from.ensures ∙ c.if-not-fits_from.false in
    record { le_member = c.loop-member.invariant.member.0; member_in_bounds = (fits_is _ _ _ fits).0 }

pub overflow_add-at : goal.overflow_add-at
overflow_add-at c =
    let fits : let s = c.args in fits_at s.page.now (calls_of s.b.now) c.loop-member.member ≡ true =
    sym c.fits_from.ensures ∙ c.if-not-fits_from.false in
    let next : let s = c.args in Fitting s.page.now s.b.now (c.loop-member.member + 1) (c.loop-member.at + 32 * c.count_on.result) =
    fit_next c.loop-member.invariant (omega (arith, c.loop-member-test.true)) fits c.count_on.result c.count_on.ensures in
    omega (arith, place_few next.up)

pub loop-member-preserved : goal.loop-member-preserved
loop-member-preserved c =
    let fits : let s = c.args in fits_at s.page.now (calls_of s.b.now) c.loop-member.member ≡ true =
    sym c.fits_from.ensures ∙ c.if-not-fits_from.false in
    let next : let s = c.args in Fitting s.page.now s.b.now (c.loop-member.member + 1) (c.loop-member.at + 32 * c.count_on.result) =
    fit_next c.loop-member.invariant (omega (arith, c.loop-member-test.true)) fits c.count_on.result c.count_on.ensures in
    next

pub returns : goal.returns
returns c = fit_over c.loop-member.invariant (omega (arith, c.loop-member-test.false))
