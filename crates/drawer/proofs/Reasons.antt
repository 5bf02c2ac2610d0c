-- Why a record does not stand: always for one of the three reasons. Assumes nothing.
use mathlib.Core.Path.{◌≡◌, refl, sym, ◌∙◌, ap}
use mathlib.Core.Bool.{Bool, true, false, true≢false}
use mathlib.Core.Logic.{inl, inr}
use mathlib.Core.List.Memᴰ
use mathlib.Core.List.{List, map, Memᴰ as In}
use mathlib.Core.Option.{Option, none, some}
use Prim.Native.Nat.{ℕ, ◌≤◌}
use native.Mathlib.Omega.{arith}
use borrow.Author.Tests.{lt-ltb, le-ltb, eqb-true}
use Rattle.call.specs.declared.Call.{Call}
use Rattle.call.specs.Key.{call_key}
use Rattle.call.specs.Revising.{call_contested}
use Rattle.call.specs.Service.{CallWithin}
use Rattle.book.specs.declared.Header.{Header}
use Rattle.book.specs.Book.{most_keys, calls_of}
use Rattle.book.specs.Check.{header_minutes}
use Rattle.rule.specs.Standing.{is_withdrawn}
use Rattle.rule.specs.Keys.{record_of}
use Rattle.rule.proofs.Keyed.{find_in, within_in}
use Rattle.rule.proofs.Lattice.{Below, own_blank}
use Rattle.rule.proofs.Bounds.{Under}
use Rattle.rule.proofs.Ruling.{rule_least, gone_rank, here_rank}
use Rattle.join.specs.Joining.{key_count}
use Rattle.join.specs.Trees.{Plan, written, result, Room, OneMonth, Covers}
use Rattle.join.proofs.Trees.{month_sounds}
use Rattle.drawer.specs.Stale.{is_stale, why_not, why_of, Reason, withdrawn_elsewhere, revised_elsewhere, contested_here}
use Rattle.drawer.proofs.Agreeing.{stale_exactly, has_own, joined_stands, joined_sound}

-- a record below another of its key, and another than it
module _ {m : ℕ} (r c : Call) (wr : CallWithin m r) (wc : CallWithin m c) (differ : c ≡ r → ⊥) where
  by_withdrawal : is_withdrawn r ≡ true → is_withdrawn c ≡ false → Reason r c (why_not r c)
  unfolding why_not
  by_withdrawal e f = withdrawn_elsewhere (rw (e, f) refl) e f

  by_revision : (t : Bool) → is_withdrawn r ≡ t → is_withdrawn c ≡ t → c.revision ≤ r.revision → (c.revision ≡ r.revision → ⊥) → Reason r c (why_not r c)
  unfolding why_not
  by_revision true e f l n = revised_elsewhere (rw (e, f, lt-ltb c.revision r.revision (omega arith)) refl) (e ∙ sym f) (omega arith)
  by_revision false e f l n = revised_elsewhere (rw (e, lt-ltb c.revision r.revision (omega arith)) refl) (e ∙ sym f) (omega arith)

  by_contest : is_withdrawn c ≡ false → r ≡ call_contested c → Reason r c (why_not r c)
  unfolding why_not
  by_contest f e = contested_here (rw (e, le-ltb c.revision c.revision (omega arith)) refl) f e

  no : (x : Call) → is_withdrawn x ≡ false → is_withdrawn x ≡ true → ⊥
  no x e f = true≢false (sym f ∙ e)

  below_reason : Below c r → Reason r c (why_not r c)
  below_reason b = go (is_withdrawn r) (is_withdrawn c) refl refl b
    where
      go : (t u : Bool) → is_withdrawn r ≡ t → is_withdrawn c ≡ u → Below c r → Reason r c (why_not r c)
      go true false e f b = by_withdrawal e f
      go true true e f (inl l) = let g = gone_rank c f in let k = gone_rank r e in by_revision true e f (omega arith) (λ z. omega arith)
      go true true e f (inr (inl d)) = absurd (differ d)
      go true true e f (inr (inr d)) = absurd (differ (own_blank c wc (eqb-true _ _ f) ∙ sym d))
      go false true e f (inl l) = let g = gone_rank c f in let k = (here_rank r (no r e)).0 in absurd (omega (arith, wr.revision.1))
      go false true e f (inr (inl d)) = absurd (differ d)
      go false true e f (inr (inr d)) = absurd (differ (own_blank c wc (eqb-true _ _ f) ∙ sym d))
      go false false e f (inl l) =
          let g = (here_rank c (no c f)).0 in
          let k = (here_rank r (no r e)).0 in
          by_revision false e f (omega arith) (λ z. omega arith)
      go false false e f (inr (inl d)) = absurd (differ d)
      go false false e f (inr (inr d)) = by_contest f (d ∙ (here_rank c (no c f)).1)

-- A record of one of the books that is listed: for its key stands another record, in the joined book, and the reason that is told is one of the three.
pub always_why : (h : Header) (bs : List (List ℕ)) (month : OneMonth h bs) (p : Plan) → Covers p bs → Room p → key_count bs ≤ most_keys
    → (b : List ℕ) → In b bs → (c : Call) → In c (calls_of b) → is_stale (calls_of (written (result p))) c ≡ true
    → (r : Call) × (record_of (call_key c) (calls_of (written (result p))) ≡ some r) × Reason r c (why_of (record_of (call_key c) (calls_of (written (result p)))) c)
unfolding why_of
always_why h bs month p covers room few b i c m s = go (record_of (call_key c) (calls_of joined)) refl
  where
    joined : List ℕ
    joined = written (result p)

    under : (o : Option Call) → record_of (call_key c) (calls_of joined) ≡ o → Under (some c) o
    under o e =
        let up = (rule_least (header_minutes h) (map calls_of bs) (call_key c) (month_sounds h bs month)).above (calls_of b) (Memᴰ.map calls_of i) in
        rw (has_own h bs month b i c m, sym (joined_stands h bs month p covers room few (call_key c)) ∙ e) at up

    go : (o : Option Call) → record_of (call_key c) (calls_of joined) ≡ o → (r : Call) × (record_of (call_key c) (calls_of joined) ≡ some r)
        × Reason r c (why_of (record_of (call_key c) (calls_of joined)) c)
    go none e = absurd (under none e)
    go (some r) e =
        let f = find_in (call_key c) (calls_of joined) r e in
        let wr = within_in (header_minutes h) (calls_of joined) r (joined_sound h bs month p covers room few).within f.0 in
        let wc = within_in (header_minutes h) (calls_of b) c (month_sounds h bs month (calls_of b) (Memᴰ.map calls_of i)).within m in
        (r, e, rw e (below_reason r c wr wc (λ d. (stale_exactly (calls_of joined) c).0 s (e ∙ ap some (sym d))) (under (some r) e)))
