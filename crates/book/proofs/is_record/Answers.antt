use mathlib.Core.Path.{◌≡◌, sym, ◌∙◌, ap}
use Prim.Native.Nat.{ℕ}
use Rattle.call.specs.Layout.{reserved_at}
use Rattle.call.specs.Limits.{call_is_sound}
use Rattle.book.specs.Book.{place_of}
use Rattle.book.proofs.Turns.{unsound, fields}
use Rattle.book.proofs.is_record.Goals as goal

pub returns-then-reserved_at-ne0 : goal.returns-then-reserved_at-ne0
returns-then-reserved_at-ne0 c =
    let zeros : c.reserved_at.result ≡ reserved_at c.args.b.now (place_of c.args.i) =
    c.reserved_at.ensures ∙ ap (λ (k : ℕ). reserved_at c.args.b.now k) c.place_of.ensures in
    let args = c.args in
    sym (unsound args.minutes args.b.now args.i _ zeros c.if-reserved_at-ne0.true)

pub returns : goal.returns
returns c =
    let zeros : c.reserved_at.result ≡ reserved_at c.args.b.now (place_of c.args.i) =
    c.reserved_at.ensures ∙ ap (λ (k : ℕ). reserved_at c.args.b.now k) c.place_of.ensures in
    let args = c.args in
    c.is_sound.ensures
    ∙ ap (call_is_sound args.minutes) c.record_at-x.ensures
    ∙ sym (fields args.minutes args.b.now args.i _ zeros c.if-reserved_at-ne0.false)
