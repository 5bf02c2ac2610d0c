use borrow.Author.Rules.{rules}
use mathlib.Core.Path.{◌≡◌, refl, sym, ◌∙◌}
use mathlib.Core.Bool.{Bool, true, false, ◌&&◌}
use mathlib.Core.List.{List}
use Prim.Native.Nat.{ℕ, ◌≤◌}
use lib.Dec.{leb, ltb}
use lib.ListN.{length, get_or}
use Rattle.row.proofs.Texts.{and_false}
use Rattle.share.specs.Sharing.{most_number, most_status, most_energy, most_assessment}
use Rattle.ceiling.specs.declared.Limit.{Limit}
use Rattle.ceiling.specs.Ceiling.{limit_is_sound}
use Rattle.row.specs.Meaning.{most_columns}
use Rattle.tables.proofs.Entries.{entry_by, within, seven_sound, seven_bad}
use Rattle.tables.proofs.roll.typed.Goals as goal

-- kind and rating, and the numbers of the sharing line, are the entry's limits
in_turn : (l n k c p q s e a m : Bool) → (k && c && p && q && (l && n && s && e && true && a) && m) ≡ (l && n && k && c && p && q && s && e && a && m)
in_turn false n k c p q s e a m = rw (and_false (k && c && p && q))
in_turn true false k c p q s e a m = rw (and_false (k && c && p && q))
in_turn true true k c p q s e a m = go (k && c && p && q) s e
  where
    go : (t s e : Bool) → (t && (s && e && true && a) && m) ≡ (t && s && e && a && m)
    go false s e = refl
    go true false e = refl
    go true true false = refl
    go true true true = refl

test_is : (d : List ℕ) (limit : Limit) (line bound : Bool)
    → line ≡ (ltb 0 (get_or d 0 0) && leb (get_or d 0 0) most_number && leb (get_or d 3 0) most_status && leb (get_or d 4 0) most_energy && true && leb (get_or d 5 0) most_assessment)
    → bound ≡ limit_is_sound limit
    → (leb 1 (get_or d 1 0) && leb (get_or d 1 0) 8 && leb 1 (get_or d 2 0) && leb (get_or d 2 0) 4000000 && line && bound) ≡ within (entry_by d limit)
test_is d limit line bound e f =
    (λ i. leb 1 (get_or d 1 0) && leb (get_or d 1 0) 8 && leb 1 (get_or d 2 0) && leb (get_or d 2 0) 4000000 && e i && f i)
    ∙ in_turn (ltb 0 (get_or d 0 0)) (leb (get_or d 0 0) most_number) (leb 1 (get_or d 1 0)) (leb (get_or d 1 0) 8) (leb 1 (get_or d 2 0)) (leb (get_or d 2 0) 4000000)
    (leb (get_or d 3 0) most_status) (leb (get_or d 4 0) most_energy) (leb (get_or d 5 0) most_assessment) (limit_is_sound limit)

pub returns-then-k-p : goal.returns-then-k-p
returns-then-k-p c =
    let long : most_columns ≤ length c.args.ended = search rules in
    let limit = c.limit_told-limit in
    let same = test_is c.args.ended limit.result c.numbers_are_sound-line.result c.limit_is_sound-bound.result c.numbers_are_sound-line.ensures c.limit_is_sound-bound.ensures in
    seven_sound c.args.ended c.args.last limit.result long limit.ensures (sym same ∙ c.if-k-p.true)

pub returns : goal.returns
returns c =
    let long : most_columns ≤ length c.args.ended = search rules in
    let limit = c.limit_told-limit in
    let same = test_is c.args.ended limit.result c.numbers_are_sound-line.result c.limit_is_sound-bound.result c.numbers_are_sound-line.ensures c.limit_is_sound-bound.ensures in
    c.blank_entry.ensures ∙ seven_bad c.args.ended c.args.last limit.result long limit.ensures (sym same ∙ c.if-k-p.false)
