use mathlib.Core.Path.{◌≡◌, sym, ◌∙◌}
use mathlib.Core.List.{◌++◌}
use lib.ListN.{length}
use borrow.Author.Rules.{rules}
use native.Mathlib.Omega.{arith}
use Rattle.render.proofs.Placed.{rendered, same_put, looser, none_put}
use Rattle.posted.specs.Posted.{most_posted, head_text, rows_text, total_text, user_text}
use Rattle.posted.proofs.Posting.{settled_text, unsettled_text, seen_rows}
use Rattle.posted.proofs.posted_text.Goals as goal

pub returns-then-not-is_settled : goal.returns-then-not-is_settled
returns-then-not-is_settled c =
    let a = c.args in
    let no = sym c.is_settled.ensures ∙ c.if-not-is_settled.true in
    let both = rendered most_posted c.if-out-lt-MOST_POSTED.false (same_put (unsettled_text a.s no) (looser most_posted (omega arith) (none_put a.out.now 0))) in
    record { renders = both.0; prefix_len = both.1 }

pub returns : goal.returns
returns c =
    let yes = sym c.is_settled.ensures ∙ c.if-not-is_settled.false in
    let s = c.args.s in
    let long : length s.rows ≡ 64 = search rules in
    let seen = seen_rows s.rows s.count _ long c.seen.ensures.0 in
    let whole = (λ i. head_text s.header s.calls s.part ++ rows_text (seen i) ++ total_text s.gap.0 ++ user_text s.user.0) ∙ settled_text s yes in
    let both = rendered most_posted c.if-out-lt-MOST_POSTED.false (same_put whole c.put_posted.ensures) in
    record { renders = both.0; prefix_len = both.1 }
