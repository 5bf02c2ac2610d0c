-- `ok` means done: where the verdict is that a wish changes the book, the changed book has what was wished. Assumes nothing.
use mathlib.Core.Path.{◌≡◌, refl, sym, ◌∙◌, ap}
use mathlib.Core.Bool.{Bool, true, false}
use mathlib.Core.List.{List, [], ◌∷◌}
use mathlib.Core.Option.{Option, none, some}
use Prim.Native.Nat.{ℕ, ◌<◌}
use native.Mathlib.Decide.{dec_lt}
use native.Mathlib.Omega.{arith}
use Rattle.call.specs.declared.Call.{Call}
use Rattle.call.specs.Key.{call_key}
use Rattle.book.specs.Book.{calls_of}
use Rattle.book.specs.Sound.{Sound}
use Rattle.book.proofs.Writing.{Numbered}
use Rattle.rule.specs.Standing.{is_withdrawn}
use Rattle.rule.specs.Keys.{record_of}
use Rattle.rule.specs.Whole.{withdrawn_at}
use Rattle.join.specs.Changing.{changing, record_after, withdrawn_revision}
use Rattle.join.proofs.Entering.{enters, revises, withdraws}
use Rattle.wish.specs.declared.Wish.{Wish}
use Rattle.wish.specs.declared.Wish.TheVariants.{Enter, Revise, Withdraw}
use Rattle.wish.specs.Wish.{changes, higher, by_wish, over, verdict, old_of}
use Rattle.wish.proofs.Cases.{higher_no, over_gone, over_else}

-- what is withdrawn is changed by no wish
live_before : (wish : Wish) (w x : Call) → over wish w x ≡ changes → is_withdrawn x ≡ false
live_before wish w x e = go (is_withdrawn x) refl
  where
    go : (b : Bool) → is_withdrawn x ≡ b → is_withdrawn x ≡ false
    go false f = f
    go true f = absurd (let v = over_gone wish w x f in cc)

-- a revision that changes a call is higher
raised : (w x : Call) → higher w x ≡ changes → x.revision < w.revision
raised w x e = go (dec_lt x.revision w.revision)
  where
    go : Dec (x.revision < w.revision) → x.revision < w.revision
    go (yes l) = l
    go (no n) = absurd (let v = higher_no w x (omega arith) in cc)

module _ (a : List ℕ) (sound : Sound a) (w : Call) (numbered : Numbered (w ∷ [])) (page out : List ℕ) (z : (changing a w page out).number ≡ 0) where
  -- ENTERED OR REVISED, AND `ok`: the changed book has the call as it was given.
  pub entered : is_withdrawn w ≡ false → verdict Enter w (old_of (record_of (call_key w) (calls_of a))) ≡ changes → record_after a w page out (call_key w) ≡ some w
  unfolding verdict old_of by_wish
  entered l v = go (record_of (call_key w) (calls_of a)) refl v
    where
      go : (o : Option Call) → record_of (call_key w) (calls_of a) ≡ o → verdict Enter w (old_of o) ≡ changes → record_after a w page out (call_key w) ≡ some w
      go none e v = enters a sound w numbered page out z e
      go (some x) e v = absurd (let u = over_else Enter w x (live_before Enter w x v) in cc)

  pub revised : is_withdrawn w ≡ false → verdict Revise w (old_of (record_of (call_key w) (calls_of a))) ≡ changes → record_after a w page out (call_key w) ≡ some w
  unfolding verdict old_of by_wish
  revised l v = go (record_of (call_key w) (calls_of a)) refl v
    where
      go : (o : Option Call) → record_of (call_key w) (calls_of a) ≡ o → verdict Revise w (old_of o) ≡ changes → record_after a w page out (call_key w) ≡ some w
      go none e v = enters a sound w numbered page out z e
      go (some x) e v =
          let f : is_withdrawn x ≡ false = live_before Revise w x v in
          revises a sound w numbered page out z x e f l (raised w x (sym (over_else Revise w x f) ∙ v))

  -- WITHDRAWN, AND `ok`: the changed book has the call withdrawn, at the revision of the withdrawal.
  pub withdrawn : is_withdrawn w ≡ true → verdict Withdraw w (old_of (record_of (call_key w) (calls_of a))) ≡ changes → record_after a w page out (call_key w) ≡ some (withdrawn_at w.revision w)
  unfolding verdict old_of withdrawn_revision
  withdrawn t v = withdraws a sound w numbered page out z t ∙ ap (λ (r : ℕ). some (withdrawn_at r w)) (own (record_of (call_key w) (calls_of a)) v)
    where
      own : (o : Option Call) → verdict Withdraw w (old_of o) ≡ changes → withdrawn_revision o w ≡ w.revision
      own none v = refl
      own (some x) v = rw (live_before Withdraw w x v) refl
