-- Two records compared eight bytes at a time, and what stands of two at one revision. Assumes nothing.
use mathlib.Core.Path.{◌≡◌, refl, sym, ◌∙◌, ap, ap₂}
use mathlib.Core.Bool.{Bool, true, false, not, ◌&&◌, ◌||◌}
use mathlib.Core.List.{List}
use Prim.Native.Nat.{ℕ, zero, suc, ◌+◌, ◌*◌, ◌≤◌}
use native.Mathlib.Omega.{arith}
use native.Mathlib.Decide.{ℕ_discrete}
use lib.Dec.{eqb}
use lib.ListN.{get_or}
use borrow.Author.Tests.{le-ltb, eq-eqb, ne_eqb}
use mir.Syntax.{w32}
use mir.Val.{to_z, of_z}
use mir.ValLaws.{of_z-to_z}
use Rattle.le.specs.Le.{le_at, IsBytes}
use Rattle.le.proofs.Laws.{le_at_fits}
use Rattle.le.proofs.Tests.{fails}
use Rattle.call.specs.declared.Call.{Call}
use Rattle.call.specs.Revising.{contested}
use Rattle.call.specs.Layout.{call_at}
use Rattle.rule.specs.declared.Decision.TheVariants.{First, Second, Struck}
use Rattle.rule.specs.Standing.{same_call, is_withdrawn, decide}
use Rattle.rule.proofs.Equality.{same_eq, eq_same}

module _ (s : List ℕ) (small : IsBytes s) (t : List ℕ) (little : IsBytes t) where
  -- one byte, and those behind it
  first_byte : (n o p : ℕ) → le_at s o (suc n) ≡ le_at t p (suc n) → (get_or s o 0 ≡ get_or t p 0) × (le_at s (o + 1) n ≡ le_at t (p + 1) n)
  unfolding le_at IsBytes
  first_byte n o p h = let k = small o in let l = little p in (omega arith, omega arith)

  byte_more : (n o p : ℕ) → get_or s o 0 ≡ get_or t p 0 → le_at s (o + 1) n ≡ le_at t (p + 1) n → le_at s o (suc n) ≡ le_at t p (suc n)
  unfolding le_at
  byte_more n o p h k = ap₂ (λ (x y : ℕ). x + 256 * y) h k

  none_read : (o p : ℕ) → le_at s o 0 ≡ le_at t p 0
  unfolding le_at
  none_read o p = refl

  at : (w o o' p p' : ℕ) → o' ≡ o → p' ≡ p → le_at s o w ≡ le_at t p w → le_at s o' w ≡ le_at t p' w
  at w o o' p p' e f h = ap (λ (k : ℕ). le_at s k w) e ∙ h ∙ sym (ap (λ (k : ℕ). le_at t k w) f)

  wide : (n n' o p : ℕ) → n' ≡ n → le_at s o n ≡ le_at t p n → le_at s o n' ≡ le_at t p n'
  wide n n' o p e h = ap (le_at s o) e ∙ h ∙ sym (ap (le_at t p) e)

  -- equal numbers of v + w bytes are equal in the first v bytes and in the w behind them
  parts : (v w n o p o' p' : ℕ) → v + w ≡ n → o' ≡ o + v → p' ≡ p + v → le_at s o n ≡ le_at t p n → (le_at s o v ≡ le_at t p v) × (le_at s o' w ≡ le_at t p' w)
  parts zero w n o p o' p' e f g h = (none_read o p, at w o o' p p' (omega arith) (omega arith) (wide n w o p (omega arith) h))
  parts (suc v) w n o p o' p' e f g h =
      let b = first_byte (v + w) o p (wide n (suc (v + w)) o p (omega arith) h) in
      let r = parts v w (v + w) (o + 1) (p + 1) o' p' refl (omega arith) (omega arith) b.1 in
      (byte_more v o p b.0 r.0, r.1)

  -- and the other way round
  both_parts : (v w n o p o' p' : ℕ) → v + w ≡ n → o' ≡ o + v → p' ≡ p + v → le_at s o v ≡ le_at t p v → le_at s o' w ≡ le_at t p' w → le_at s o n ≡ le_at t p n
  both_parts zero w n o p o' p' e f g h k = wide w n o p (omega arith) (at w o' o p' p (omega arith) (omega arith) k)
  both_parts (suc v) w n o p o' p' e f g h k =
      let b = first_byte v o p h in
      wide (suc (v + w)) n o p (omega arith)
      (byte_more (v + w) o p b.0 (both_parts v w (v + w) (o + 1) (p + 1) o' p' refl (omega arith) (omega arith) b.1 k))

  -- a record in each list, of one revision
  module _ (a b : ℕ) (r : (call_at s a).revision ≡ (call_at t b).revision) where
    same_bits : to_z w32 (le_at s (a + 16) 4) ≡ to_z w32 (le_at t (b + 16) 4) → le_at s (a + 16) 4 ≡ le_at t (b + 16) 4
    same_bits e =
        sym (of_z-to_z w32 (le_at s (a + 16) 4) (record { fits = le_at_fits s small 4 (a + 16) })) ∙ ap (of_z w32) e
        ∙ of_z-to_z w32 (le_at t (b + 16) 4) (record { fits = le_at_fits t little 4 (b + 16) })

    -- participant, service, state and number; start, length and a; b and c
    who : call_at s a ≡ call_at t b → le_at s a 8 ≡ le_at t b 8
    unfolding call_at
    who e =
        both_parts 2 6 8 a b (a + 2) (b + 2) refl refl refl (ap (λ (c : Call). c.participant) e)
        (both_parts 1 5 6 (a + 2) (b + 2) (a + 3) (b + 3) refl (omega arith) (omega arith) (ap (λ (c : Call). c.service) e)
        (both_parts 1 4 5 (a + 3) (b + 3) (a + 4) (b + 4) refl (omega arith) (omega arith) (ap (λ (c : Call). c.state) e) (ap (λ (c : Call). c.number) e)))

    when : call_at s a ≡ call_at t b → le_at s (a + 12) 8 ≡ le_at t (b + 12) 8
    unfolding call_at
    when e =
        both_parts 2 6 8 (a + 12) (b + 12) (a + 14) (b + 14) refl (omega arith) (omega arith) (ap (λ (c : Call). c.start) e)
        (both_parts 2 4 6 (a + 14) (b + 14) (a + 16) (b + 16) refl (omega arith) (omega arith) (ap (λ (c : Call). c.length) e) (same_bits (ap (λ (c : Call). c.a) e)))

    terms : call_at s a ≡ call_at t b → le_at s (a + 20) 8 ≡ le_at t (b + 20) 8
    unfolding call_at
    terms e =
        both_parts 4 4 8 (a + 20) (b + 20) (a + 24) (b + 24) refl (omega arith) (omega arith) (ap (λ (c : Call). c.b) e) (ap (λ (c : Call). c.c) e)

    one_call : le_at s a 8 ≡ le_at t b 8 → le_at s (a + 12) 8 ≡ le_at t (b + 12) 8 → le_at s (a + 20) 8 ≡ le_at t (b + 20) 8 → call_at s a ≡ call_at t b
    unfolding call_at
    one_call h k l =
        let participant = parts 2 6 8 a b (a + 2) (b + 2) refl refl refl h in
        let service = parts 1 5 6 (a + 2) (b + 2) (a + 3) (b + 3) refl (omega arith) (omega arith) participant.1 in
        let state = parts 1 4 5 (a + 3) (b + 3) (a + 4) (b + 4) refl (omega arith) (omega arith) service.1 in
        let begins = parts 2 6 8 (a + 12) (b + 12) (a + 14) (b + 14) refl (omega arith) (omega arith) k in
        let lasts = parts 2 4 6 (a + 14) (b + 14) (a + 16) (b + 16) refl (omega arith) (omega arith) begins.1 in
        let last = parts 4 4 8 (a + 20) (b + 20) (a + 24) (b + 24) refl (omega arith) (omega arith) l in
        λ i. record {
          participant = participant.0 i;
          service = service.0 i;
          state = state.0 i;
          number = state.1 i;
          revision = r i;
          start = begins.0 i;
          length = lasts.0 i;
          a = to_z w32 (lasts.1 i);
          b = last.0 i;
          c = last.1 i;
        }

    unlike : (call_at s a ≡ call_at t b → ⊥) → false ≡ same_call (call_at s a) (call_at t b)
    unlike h = sym (fails (same_call (call_at s a) (call_at t b)) (same_eq (call_at s a) (call_at t b)) h)

    -- the ways out of the comparison
    pub differ_first : (le_at s a 8 ≡ le_at t b 8 → ⊥) → false ≡ same_call (call_at s a) (call_at t b)
    differ_first h = unlike (λ e. h (who e))

    pub differ_second : (le_at s (a + 12) 8 ≡ le_at t (b + 12) 8 → ⊥) → false ≡ same_call (call_at s a) (call_at t b)
    differ_second h = unlike (λ e. h (when e))

    pub by_last : le_at s a 8 ≡ le_at t b 8 → le_at s (a + 12) 8 ≡ le_at t (b + 12) 8
        → eqb (le_at s (a + 20) 8) (le_at t (b + 20) 8) ≡ same_call (call_at s a) (call_at t b)
    by_last h k = go (ℕ_discrete (le_at s (a + 20) 8) (le_at t (b + 20) 8))
      where
        go : Dec (le_at s (a + 20) 8 ≡ le_at t (b + 20) 8) → eqb (le_at s (a + 20) 8) (le_at t (b + 20) 8) ≡ same_call (call_at s a) (call_at t b)
        go (yes l) = eq-eqb (le_at s (a + 20) 8) (le_at t (b + 20) 8) l ∙ sym (eq_same (call_at s a) (call_at t b) (one_call h k l))
        go (no l) = ne_eqb (le_at s (a + 20) 8) (le_at t (b + 20) 8) l ∙ unlike (λ e. l (terms e))

-- neither withdrawn or both, and at one revision
pub record Level (x y : Call) : Type 0 where
  pub first : (is_withdrawn x && not (is_withdrawn y)) ≡ false
  pub second : (not (is_withdrawn x) && is_withdrawn y) ≡ false
  pub low : x.revision ≤ y.revision
  pub high : y.revision ≤ x.revision

or_true : (t : Bool) → (t || true) ≡ true
or_true true = refl
or_true false = refl

module _ {x y : Call} (l : Level x y) where
  pub contested_stands : x.state ≡ contested → First ≡ decide x y
  unfolding decide
  contested_stands c =
      simp (l.first, l.second, le-ltb _ _ l.low, le-ltb _ _ l.high, eq-eqb x.state contested c, or_true (same_call x y))

  pub equal_stands : same_call x y ≡ true → First ≡ decide x y
  unfolding decide
  equal_stands u = simp (l.first, l.second, le-ltb _ _ l.low, le-ltb _ _ l.high, u)

  module _ (c : x.state ≡ contested → ⊥) (u : same_call x y ≡ false) where
    pub second_stands : y.state ≡ contested → Second ≡ decide x y
    unfolding decide
    second_stands v =
        simp (l.first, l.second, le-ltb _ _ l.low, le-ltb _ _ l.high, u, ne_eqb x.state contested c, eq-eqb y.state contested v)

    pub both_struck : (y.state ≡ contested → ⊥) → Struck ≡ decide x y
    unfolding decide
    both_struck v =
        simp (l.first, l.second, le-ltb _ _ l.low, le-ltb _ _ l.high, u, ne_eqb x.state contested c, ne_eqb y.state contested v)
