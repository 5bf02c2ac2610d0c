use Rattle.posted.proofs.Words.{nothing_left, something_left}
use Rattle.posted.proofs.Answers.{reads_no_head, reads_no_line, reads_no_user, reads_no_end, reads_whole}
use Rattle.posted.proofs.read_posted.Goals as goal

pub returns-in_default : goal.returns-in_default
returns-in_default c = reads_no_head _ c.in_default.ensures

pub returns-in_default-read_sum : goal.returns-in_default-read_sum
returns-in_default-read_sum c =
    reads_no_line _ c.in-Some.head _ c.in-Some.ensures _ _ _ c.read_members.ensures c.in_default-read_sum.ensures

pub returns-in_default-read_sum-2 : goal.returns-in_default-read_sum-2
returns-in_default-read_sum-2 c =
    reads_no_user _ c.in-Some.head _ c.in-Some.ensures _ _ _ c.read_members.ensures _ _ c.in-Some-read_sum.ensures c.in_default-read_sum-2.ensures

pub returns-then-not-is_empty : goal.returns-then-not-is_empty
returns-then-not-is_empty c =
    reads_no_end _ c.in-Some.head _ c.in-Some.ensures _ _ _ c.read_members.ensures _ _ c.in-Some-read_sum.ensures _ _ c.in-Some-read_sum-2.ensures (something_left _ c.if-not-is_empty.ensures)

pub returns : goal.returns
returns c =
    reads_whole _ c.in-Some.head _ c.in-Some.ensures _ _ _ c.read_members.ensures _ _ c.in-Some-read_sum.ensures _ _ c.in-Some-read_sum-2.ensures (nothing_left _ c.if-not-is_empty.ensures)
