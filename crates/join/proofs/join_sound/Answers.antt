use mathlib.Core.Path.{◌≡◌, sym, ◌∙◌, ap}
use Prim.Native.Nat.{◌≤◌}
use native.Mathlib.Omega.{arith}
use lib.ListN.{length}
use Rattle.book.specs.declared.Verdict.{Verdict}
use Rattle.book.specs.Book.{most_keys, size_of}
use Rattle.join.specs.Joining.{keys_of_both}
use Rattle.join.proofs.WaysOut.{refuse_sound, joins_sound, never_over}
use Rattle.join.proofs.Steps.{joined_length}
use Rattle.join.proofs.Books.{keys_rise}
use Rattle.join.proofs.Taken.{ran_turns}
use Rattle.join.proofs.Writes.{as_written}
use Rattle.join.proofs.join_sound.Goals as goal

pub returns-then-w-ne0 : goal.returns-then-w-ne0
returns-then-w-ne0 c =
    c.join_refused.ensures _ ∙ refuse_sound _ _ _ c.overflow-w.result c.overflow-w.ensures c.if-w-ne0.true

pub put_book-turns-requires : goal.put_book-turns-requires
put_book-turns-requires c =
    let fits : (keys_of_both c.args.first.now c.args.second.now ≤ most_keys) × (size_of (keys_of_both c.args.first.now c.args.second.now) ≤ length c.args.out.now) =
    never_over _ _ (ap (λ (v : Verdict). v.number) (sym c.overflow-w.ensures) ∙ c.if-w-ne0.false) in
    let f = fits in
    record {
      accepted = c.requires.accepted;
      accepted_2 = c.requires.accepted_2;
      second_bound = f.0;
      second_in_bounds = f.1;
    }

pub size_of-size-requires : goal.size_of-size-requires
size_of-size-requires c =
    let fits : (keys_of_both c.args.first.now c.args.second.now ≤ most_keys) × (size_of (keys_of_both c.args.first.now c.args.second.now) ≤ length c.args.out.now) =
    never_over _ _ (ap (λ (v : Verdict). v.number) (sym c.overflow-w.ensures) ∙ c.if-w-ne0.false) in
    let turns : c.put_book-turns.result ≡ keys_of_both c.args.first.now c.args.second.now =
    c.put_book-turns.ensures.0 ∙ ran_turns _ _ _ (keys_rise _ c.requires.accepted) (keys_rise _ c.requires.accepted_2) in
    let f = fits in omega (arith, turns)

pub returns : goal.returns
returns c =
    let turns : c.put_book-turns.result ≡ keys_of_both c.args.first.now c.args.second.now =
    c.put_book-turns.ensures.0 ∙ ran_turns _ _ _ (keys_rise _ c.requires.accepted) (keys_rise _ c.requires.accepted_2) in
    let fits : (keys_of_both c.args.first.now c.args.second.now ≤ most_keys) × (size_of (keys_of_both c.args.first.now c.args.second.now) ≤ length c.args.out.now) =
    never_over _ _ (ap (λ (v : Verdict). v.number) (sym c.overflow-w.ensures) ∙ c.if-w-ne0.false) in
    let e = turns in
    let f = fits in
    rw c.size_of-size.ensures
    (as_written _ _ _ c.put_book-turns.result _ _ _ (e ∙ sym (joined_length _ _)) c.put_book-turns.ensures.0 (omega arith) c.put_book-turns.ensures.1)
    ∙ joins_sound _ _ _ f.0 f.1
