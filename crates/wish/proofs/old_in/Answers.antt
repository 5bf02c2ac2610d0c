use mathlib.Core.Path.{◌≡◌, sym, ◌∙◌, ap}
use Prim.Native.Nat.{ℕ, ◌<◌}
use Rattle.call.specs.Key.{key_of}
use Rattle.book.specs.declared.Verdict.{Verdict}
use Rattle.book.specs.Book.{count_at, record_at}
use Rattle.book.specs.Check.{check}
use Rattle.book.proofs.Judged.{zero_accepted}
use Rattle.lookup.specs.Lookup.{index_of}
use Rattle.std.specs.Prelude.{Some}
use Rattle.wish.specs.Wish.{old_in}
use Rattle.wish.proofs.Olds.{not_sound, no_index, at_index}
use Rattle.wish.proofs.old_in.Goals as goal

pub returns-then-v-ne0 : goal.returns-then-v-ne0
returns-then-v-ne0 c = not_sound _ _ _ c.check-v.result c.check-v.ensures c.if-v-ne0.true

pub index_of-requires : goal.index_of-requires
index_of-requires c =
    let zero : (check c.args.book.now).number ≡ 0 =
    ap (λ (v : Verdict). v.number) (sym c.check-v.ensures) ∙ c.if-v-ne0.false in
    zero_accepted _ zero

pub call_of-requires : goal.call_of-requires
call_of-requires c =
    let zero : (check c.args.book.now).number ≡ 0 =
    ap (λ (v : Verdict). v.number) (sym c.check-v.ensures) ∙ c.if-v-ne0.false in
    let index : let s = c.args in c.index_of.result ≡ index_of (key_of s.member s.number) s.book.now =
    c.index_of.ensures ∙ ap (λ (k : ℕ). index_of k c.args.book.now) c.key_of.ensures in
    let at_i : let s = c.args in (c.in_ok-i.i < count_at s.book.now) × (Some (record_at s.book.now c.in_ok-i.i) ≡ old_in s.book.now s.member s.number) =
    at_index _ _ _ zero c.index_of.result index _ c.in_ok-i.was in
    record { b_value = zero_accepted _ zero; i_bound = at_i.0 }

pub returns-in_err-i : goal.returns-in_err-i
returns-in_err-i c =
    let zero : (check c.args.book.now).number ≡ 0 =
    ap (λ (v : Verdict). v.number) (sym c.check-v.ensures) ∙ c.if-v-ne0.false in
    let index : let s = c.args in c.index_of.result ≡ index_of (key_of s.member s.number) s.book.now =
    c.index_of.ensures ∙ ap (λ (k : ℕ). index_of k c.args.book.now) c.key_of.ensures in
    c.from_residual.ensures ∙ no_index _ _ _ zero c.index_of.result index c.in_err-i.was

pub returns : goal.returns
returns c =
    let zero : (check c.args.book.now).number ≡ 0 =
    ap (λ (v : Verdict). v.number) (sym c.check-v.ensures) ∙ c.if-v-ne0.false in
    let index : let s = c.args in c.index_of.result ≡ index_of (key_of s.member s.number) s.book.now =
    c.index_of.ensures ∙ ap (λ (k : ℕ). index_of k c.args.book.now) c.key_of.ensures in
    let at_i : let s = c.args in (c.in_ok-i.i < count_at s.book.now) × (Some (record_at s.book.now c.in_ok-i.i) ≡ old_in s.book.now s.member s.number) =
    at_index _ _ _ zero c.index_of.result index _ c.in_ok-i.was in
    ap Some c.call_of.ensures ∙ at_i.1
