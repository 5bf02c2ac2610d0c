use Rattle.notice.proofs.beaten_text.Goals as goal

pub returns-clause-tells : goal.returns-clause-tells
returns-clause-tells c =
    rw (c.flag-gone.ensures, c.flag-open.ensures)
    at c.say_with.ensures.renders
