use mathlib.Core.Path.{◌≡◌, sym, ◌∙◌, ap}
use mathlib.Core.List.{[], ◌∷◌}
use Prim.Native.Nat.{ℕ}
use lib.ListN.{length}
use Rattle.call.specs.Limits.{call_is_sound}
use Rattle.book.specs.Book.{HasRecord}
use Rattle.book.specs.Check.{header_minutes}
use Rattle.book.specs.Write.{write_fault}
use Rattle.book.proofs.Writes.{refuses, writes, room_of, fault_one, stores_one}
use Rattle.book.proofs.write.write_one.Goals as goal

pub returns-then-refusal-ne0 : goal.returns-then-refusal-ne0
unfolding header_minutes
returns-then-refusal-ne0 c =
    let faults : c.fault-refusal.result ≡ write_fault c.args.h (c.args.x ∷ []) (length c.args.out.now) =
    let args = c.args in
    let sound : c.is_sound_written-sound.result ≡ call_is_sound (header_minutes args.h) args.x =
    c.is_sound_written-sound.ensures ∙ ap (λ (m : ℕ). call_is_sound m args.x) c.minutes_of.ensures in
    c.fault-refusal.ensures ∙ rw (sound, c.size_of-size.ensures) (fault_one args.h args.x _) in
    let args = c.args in
    refuses args.h (args.x ∷ []) args.out.now _ faults c.if-refusal-ne0.true

pub returns : goal.returns
unfolding header_minutes
returns c =
    let faults : c.fault-refusal.result ≡ write_fault c.args.h (c.args.x ∷ []) (length c.args.out.now) =
    let args = c.args in
    let sound : c.is_sound_written-sound.result ≡ call_is_sound (header_minutes args.h) args.x =
    c.is_sound_written-sound.ensures ∙ ap (λ (m : ℕ). call_is_sound m args.x) c.minutes_of.ensures in
    c.fault-refusal.ensures ∙ rw (sound, c.size_of-size.ensures) (fault_one args.h args.x _) in
    let room : HasRecord c.args.out.now 0 =
    let args = c.args in
    room_of args.h (args.x ∷ []) _ (sym faults ∙ c.if-refusal-ne0.false) in
    let args = c.args in
    let stored = stores_one args.h args.x c.put_header.ensures c.put_first.ensures in
    writes args.h (args.x ∷ []) args.out.now _ _ _ faults c.if-refusal-ne0.false c.size_of-size.ensures room stored
