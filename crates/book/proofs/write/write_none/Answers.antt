use mathlib.Core.Path.{refl, sym, ◌∙◌}
use mathlib.Core.List.{[]}
use Rattle.book.specs.Book.{HasHeader}
use Rattle.book.proofs.Writes.{refuses, writes, room_of, fault_none, stores_none}
use Rattle.book.proofs.write.write_none.Goals as goal

pub returns-then-number-ne0 : goal.returns-then-number-ne0
returns-then-number-ne0 c =
    let args = c.args in
    refuses args.h [] args.out.now _ (c.fault-number.ensures ∙ fault_none _ _) c.if-number-ne0.true

pub returns : goal.returns
returns c =
    let room : HasHeader c.args.out.now =
    room_of c.args.h [] _ (sym (c.fault-number.ensures ∙ fault_none _ _) ∙ c.if-number-ne0.false) in
    let args = c.args in
    let none = c.fault-number.ensures ∙ fault_none _ _ in
    writes args.h [] args.out.now _ _ _ none c.if-number-ne0.false refl room (stores_none args.h c.put_header.ensures)
