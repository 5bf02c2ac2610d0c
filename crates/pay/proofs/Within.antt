-- A register line's test and its limits as facts are one. Assumes nothing.
use mathlib.Core.Path.{◌≡◌}
use mathlib.Core.Bool.{Bool, true}
use mathlib.Core.List.{List, [], ◌∷◌}
use lib.Dec.{leb}
use borrow.Author.Tests.{le-leb, leb-true}
use Rattle.le.proofs.Tests.{each, all}
use Rattle.pay.specs.declared.Member.{Member}
use Rattle.pay.specs.Kinds.{coal, new_storage}
use Rattle.pay.specs.Member.{most_member, most_rated, member_is_sound, MemberWithin}

abbrev line_tests_lem : Member → List Bool
line_tests_lem m = leb m.number most_member ∷ leb coal m.kind ∷ leb m.kind new_storage ∷ leb 1 m.rated.0 ∷ leb m.rated.0 most_rated ∷ []

pub line_of : (m : Member) → member_is_sound m ≡ true → MemberWithin m
unfolding member_is_sound
line_of m h =
    let p = each (leb 1 m.number) (line_tests_lem m) h in
    let q = p.1.1 in
    record { number = (leb-true _ _ p.0, leb-true _ _ p.1.0); kind = (leb-true _ _ q.0, leb-true _ _ q.1.0); rated = (leb-true _ _ q.1.1.0, leb-true _ _ q.1.1.1.0) }

pub of_line_lem : (m : Member) → MemberWithin m → member_is_sound m ≡ true
unfolding member_is_sound
of_line_lem m l =
    all (leb 1 m.number) (line_tests_lem m)
    (le-leb _ _ l.number.0, (le-leb _ _ l.number.1, (le-leb _ _ l.kind.0, (le-leb _ _ l.kind.1, (le-leb _ _ l.rated.0, (le-leb _ _ l.rated.1, tt))))))
