use mathlib.Core.Path.{◌≡◌, refl, sym, ◌∙◌, ap}
use Prim.Native.Nat.{ℕ, ◌*◌, ◌≤◌}
use mathlib.Core.List.{List}
use lib.ListN.{length}
use borrow.Author.Tests.{lt-ltb, le-ltb}
use Rattle.call.specs.Services.{most_participant}
use Rattle.tabs.specs.Tabs.{tab_size, tabs_on, tab_at, tab_of}
use Rattle.tabs.proofs.tab_of.Goals as goal

-- the member's bytes are all there
there : (page : List ℕ) (m : ℕ) → 1 ≤ m → m ≤ most_participant → tab_size * m ≤ length page → tab_of page m ≡ tabs_on page m
unfolding tab_of
there page m l h t = rw (le-ltb m 1 l, le-ltb most_participant m h, le-ltb (length page) (tab_size * m) t) refl

pub returns-then-member-lt1 : goal.returns-then-member-lt1
unfolding tab_of
returns-then-member-lt1 c = sym (rw (lt-ltb c.args.member 1 c.if-member-lt1.true) refl)

pub returns-then-member-gt-MOST_PARTICIPANT : goal.returns-then-member-gt-MOST_PARTICIPANT
unfolding tab_of
returns-then-member-gt-MOST_PARTICIPANT c =
    sym (rw (le-ltb c.args.member 1 c.if-member-lt1.false, lt-ltb most_participant c.args.member c.if-member-gt-MOST_PARTICIPANT.true) refl)

pub returns-then-page-member : goal.returns-then-page-member
unfolding tab_of
returns-then-page-member c =
    let m = c.args.member in
    sym
    (rw (le-ltb m 1 c.if-member-lt1.false, le-ltb most_participant m c.if-member-gt-MOST_PARTICIPANT.false, lt-ltb (length c.args.page.now) (tab_size * m) c.if-page-member.true)
    refl)

pub returns : goal.returns
returns c =
    let m = c.args.member in
    let page = c.args.page.now in
    c.tab_at.ensures ∙ ap (tab_at page) c.tab_place.ensures ∙ sym (there page m c.if-member-lt1.false c.if-member-gt-MOST_PARTICIPANT.false c.if-page-member.false)
