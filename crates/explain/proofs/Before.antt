-- The parts of the records before one, and one more: what a turn of the pass does. Assumes nothing.
use mathlib.Core.Path.{◌≡◌, refl, sym, ◌∙◌, ap}
use mathlib.Core.Bool.{Bool, true, false, cond}
use Rattle.std.specs.Prelude.{None, Some}
use mathlib.Core.List.{List, [], ◌∷◌, ◌++◌}
use Prim.Native.Nat.{ℕ, zero, suc, ◌+◌, ◌-◌, ◌≤◌, ◌<◌}
use native.Mathlib.Nat.{zero-add, add-zero}
use native.Mathlib.Numerals.{add-one}
use native.Mathlib.Omega.{arith}
use lib.IntN.{ℤ, pos, +ℤ_idr}
use lib.ListN.{length, set, replicate, length-append}
use lib.Seq.{append_snoc, set-append_seam}
use Rattle.call.specs.declared.Call.{Call}
use Rattle.book.specs.Book.{most_keys, count_at, record_at, calls_from, calls_of}
use Rattle.pay.specs.declared.Member.{Member}
use Rattle.pay.specs.Sum.{total_z}
use Rattle.pay.proofs.Sums.{total_z_step}
use Rattle.score.specs.Scoring.{is_own_live, wh_of, wh_at}
use Rattle.explain.specs.declared.CallPart.{CallPart}
use Rattle.explain.specs.Explaining.{call_part, own_part, parts_from, parts_of, blank_part, filled_up}
use Rattle.explain.specs.Inner.{parts_before, part_turn}

-- Room of N that is filled up with d

module _ {A : Type 0} (N : ℕ) (ps : List A) (d : A) where
  pub put_next : (p : A) → length ps < N → set (ps ++ replicate (N - length ps) d) (length ps) p ≡ (ps ++ p ∷ []) ++ replicate (N - length (ps ++ p ∷ [])) d
  put_next p l =
      let e : N - length ps ≡ suc (N - suc (length ps)) = omega arith in
      let f : N - length (ps ++ p ∷ []) ≡ N - suc (length ps) = omega (arith, length-append ps (p ∷ [])) in
      rw (e, f) (set-append_seam ps d (replicate (N - suc (length ps)) d) p ∙ sym (append_snoc ps p (replicate (N - suc (length ps)) d)))

append_none : (ps : List CallPart) → ps ++ [] ≡ ps
append_none [] = refl
append_none (p ∷ ps) = ap (λ (qs : List CallPart). p ∷ qs) (append_none ps)

append_assoc : (ps qs rs : List CallPart) → (ps ++ qs) ++ rs ≡ ps ++ (qs ++ rs)
append_assoc [] qs rs = refl
append_assoc (p ∷ ps) qs rs = ap (λ (l : List CallPart). p ∷ l) (append_assoc ps qs rs)

-- A record's part

module _ (m : Member) (series : List ℕ) (i : ℕ) (x : Call) where
  pub own_yes : is_own_live m x ≡ true → own_part m series i x ≡ call_part m series i x ∷ []
  unfolding own_part
  own_yes h = rw h refl

  pub own_no : is_own_live m x ≡ false → own_part m series i x ≡ []
  unfolding own_part
  own_no h = rw h refl

module _ (m : Member) (b series : List ℕ) where
  abbrev before : ℕ → List CallPart
  before n = parts_before m b series n

  pub before_none : before 0 ≡ []
  unfolding parts_before
  before_none = refl

  pub before_suc : (n : ℕ) → before (suc n) ≡ before n ++ own_part m series n (record_at b n)
  unfolding parts_before
  before_suc n = refl

  pub before_own : (n : ℕ) → is_own_live m (record_at b n) ≡ true → before (suc n) ≡ before n ++ call_part m series n (record_at b n) ∷ []
  before_own n h = before_suc n ∙ ap (λ (ps : List CallPart). before n ++ ps) (own_yes m series n (record_at b n) h)

  pub before_other : (n : ℕ) → is_own_live m (record_at b n) ≡ false → before (suc n) ≡ before n
  before_other n h = before_suc n ∙ ap (λ (ps : List CallPart). before n ++ ps) (own_no m series n (record_at b n) h) ∙ append_none (before n)

  -- a record has one part at most
  pub before_few : (n : ℕ) → length (before n) ≤ n
  before_few zero = rw before_none (omega arith)
  before_few (suc n) = go (is_own_live m (record_at b n)) refl (before_few n)
    where
      go : (t : Bool) → is_own_live m (record_at b n) ≡ t → length (before n) ≤ n → length (before (suc n)) ≤ suc n
      go true h l = rw (before_own n h) (omega (arith, length-append (before n) (call_part m series n (record_at b n) ∷ [])))
      go false h l = rw (before_other n h) (omega arith)

  -- A turn

  turn_own : (i : ℕ) (p : CallPart) → Some p ≡ part_turn m b series i → (is_own_live m (record_at b i) ≡ true) × (p ≡ call_part m series i (record_at b i))
  unfolding part_turn
  turn_own i p e = go (is_own_live m (record_at b i)) refl e
    where
      go : (o : Bool) → is_own_live m (record_at b i) ≡ o → Some p ≡ cond o (Some (call_part m series i (record_at b i))) None
          → (is_own_live m (record_at b i) ≡ true) × (p ≡ call_part m series i (record_at b i))
      go true h e = (h, cc)
      go false h e = (cc, cc)

  turn_other : (i : ℕ) → None ≡ part_turn m b series i → is_own_live m (record_at b i) ≡ false
  unfolding part_turn
  turn_other i e = go (is_own_live m (record_at b i)) refl e
    where
      go : (o : Bool) → is_own_live m (record_at b i) ≡ o → None ≡ cond o (Some (call_part m series i (record_at b i))) None → is_own_live m (record_at b i) ≡ false
      go true h e = cc
      go false h e = h

  -- a record that has a part
  module _ (i : ℕ) (p : CallPart) (e : Some p ≡ part_turn m b series i) where
    turn_before : before (i + 1) ≡ before i ++ p ∷ []
    turn_before = rw (add-one i, (turn_own i p e).1) (before_own i (turn_own i p e).0)

    pub turn_parts : (parts : List CallPart) (count : ℕ) → parts ≡ filled_up (before i) → count ≡ length (before i) → i < most_keys → set parts count p ≡ filled_up (before (i + 1))
    unfolding filled_up
    turn_parts parts count f c l = rw (f, c, turn_before) (put_next most_keys (before i) blank_part p (omega (arith, before_few i)))

    pub turn_count : (count : ℕ) → count ≡ length (before i) → count + 1 ≡ length (before (i + 1))
    turn_count count c = rw (c, turn_before) (sym (length-append (before i) (p ∷ [])))

    pub turn_wh : p.wh.0 ≡ wh_at m (record_at b) i
    unfolding wh_at wh_of call_part
    turn_wh = rw ((turn_own i p e).1, (turn_own i p e).0) refl

  -- and one that has none
  pub turn_same : (i : ℕ) → None ≡ part_turn m b series i → before (i + 1) ≡ before i
  turn_same i e = rw (add-one i) (before_other i (turn_other i e))

  pub turn_still : (i : ℕ) → None ≡ part_turn m b series i → (wh : ℤ) → wh ≡ total_z (wh_at m (record_at b)) i → wh ≡ total_z (wh_at m (record_at b)) (i + 1)
  unfolding wh_at wh_of
  turn_still i e wh t = sym (+ℤ_idr wh) ∙ total_z_step (wh_at m (record_at b)) i wh (pos 0) t (rw (turn_other i e) refl)

  -- the parts before a record and those from it on are the parts of all
  from_on : (i k : ℕ) → before i ++ parts_from m series i (calls_from b i k) ≡ before (i + k)
  unfolding parts_from calls_from
  from_on i zero = rw add-zero (append_none (before i))
  from_on i (suc k) =
      let e : i + suc k ≡ suc i + k = omega arith in
      rw e (sym (append_assoc (before i) (own_part m series i (record_at b i)) (parts_from m series (suc i) (calls_from b (suc i) k)))
      ∙ ap (λ (ps : List CallPart). ps ++ parts_from m series (suc i) (calls_from b (suc i) k)) (sym (before_suc i)) ∙ from_on (suc i) k)

  pub parts_are : parts_of m b series ≡ before (count_at b)
  unfolding parts_of calls_of
  parts_are = ap (λ (ps : List CallPart). ps ++ parts_from m series 0 (calls_from b 0 (count_at b))) (sym before_none) ∙ from_on 0 (count_at b) ∙ ap before (zero-add (count_at b))
