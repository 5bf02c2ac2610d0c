-- The 32 bytes of a record, both ways. Assumes nothing.
use mathlib.Core.Path.{◌≡◌, refl, sym, ◌∙◌, ap}
use mathlib.Core.List.{List, [], ◌++◌}
use Prim.Native.Nat.{ℕ, ◌+◌, ◌<◌, ◌≤◌}
use native.Mathlib.Nat.{add_assoc, add-zero}
use native.Mathlib.Omega.{arith}
use lib.ListN.{length, drop, length-drop}
use lib.Seq.{drop-drop}
use mir.Syntax.{w32}
use mir.Val.{to_z, of_z, SFits}
use mir.ValLaws.{to_z-of_z, of_z-to_z, of_z_fits}
use Rattle.le.specs.Le.{le_at, le_bytes, IsBytes}
use Rattle.le.proofs.Laws.{back, again, bytes_at, cat, split, le_at_append, le_at_drop, le_at_fits, bytes_drop}
use Rattle.call.specs.Layout.{call_at, reserved_at, key_bytes, time_bytes, term_bytes, call_bytes}
use Rattle.call.specs.declared.Call.{Call}

-- each field fits its bytes
pub record Sized (c : Call) : Type 0 where
  pub participant : c.participant < 65536
  pub service : c.service < 256
  pub state : c.state < 256
  pub number : c.number < 4294967296
  pub revision : c.revision < 4294967296
  pub start : c.start < 65536
  pub length : c.length < 65536
  pub signed_a : SFits w32 c.a
  pub most_b : c.b < 4294967296
  pub most_c : c.c < 4294967296

pub length_call : (c : Call) → length (call_bytes c) ≡ 32
unfolding call_bytes key_bytes time_bytes term_bytes le_bytes
length_call c = refl

-- what was written is read back
pub call_back : (c : Call) (t : List ℕ) → Sized c → call_at (call_bytes c ++ t) 0 ≡ c
unfolding call_at call_bytes key_bytes time_bytes term_bytes le_at le_bytes
call_back c t s =
    λ i. record {
      participant = back 2 c.participant [] s.participant i;
      service = back 1 c.service [] s.service i;
      state = back 1 c.state [] s.state i;
      number = back 4 c.number [] s.number i;
      revision = back 4 c.revision [] s.revision i;
      start = back 2 c.start [] s.start i;
      length = back 2 c.length [] s.length i;
      a = (ap (to_z w32) (back 4 (of_z w32 c.a) [] (of_z_fits w32 c.a s.signed_a).fits) ∙ to_z-of_z w32 c.a s.signed_a) i;
      b = back 4 c.b [] s.most_b i;
      c = back 4 c.c [] s.most_c i;
    }

pub reserved_back : (c : Call) (t : List ℕ) → reserved_at (call_bytes c ++ t) 0 ≡ 0
unfolding call_bytes key_bytes time_bytes term_bytes le_at le_bytes
reserved_back c t = refl

-- reading anywhere behind a prefix
pub call_behind : (p s : List ℕ) (o : ℕ) → call_at (p ++ s) (length p + o) ≡ call_at s o
unfolding call_at
call_behind p s o =
    let at : (w k : ℕ) → le_at (p ++ s) (length p + o + k) w ≡ le_at s (o + k) w =
    λ w k. ap (λ (j : ℕ). le_at (p ++ s) j w) (add_assoc (length p) o k) ∙ le_at_append w p s (o + k) in
    λ i. record {
      participant = le_at_append 2 p s o i;
      service = at 1 2 i;
      state = at 1 3 i;
      number = at 4 4 i;
      revision = at 4 8 i;
      start = at 2 12 i;
      length = at 2 14 i;
      a = to_z w32 (at 4 16 i);
      b = at 4 20 i;
      c = at 4 24 i;
    }

-- reading behind a prefix, and at the front of what lies from a place on
pub call_append : (p s : List ℕ) → call_at (p ++ s) (length p) ≡ call_at s 0
unfolding call_at
call_append p s =
    let at : (w : ℕ) → le_at (p ++ s) (length p) w ≡ le_at s 0 w = λ w. ap (λ (k : ℕ). le_at (p ++ s) k w) (sym (add-zero (length p))) ∙ le_at_append w p s 0 in
    λ i. record {
      participant = at 2 i;
      service = le_at_append 1 p s 2 i;
      state = le_at_append 1 p s 3 i;
      number = le_at_append 4 p s 4 i;
      revision = le_at_append 4 p s 8 i;
      start = le_at_append 2 p s 12 i;
      length = le_at_append 2 p s 14 i;
      a = to_z w32 (le_at_append 4 p s 16 i);
      b = le_at_append 4 p s 20 i;
      c = le_at_append 4 p s 24 i;
    }

pub call_drop : (s : List ℕ) (at : ℕ) → call_at (drop at s) 0 ≡ call_at s at
unfolding call_at
call_drop s at =
    let here : (w : ℕ) → le_at (drop at s) 0 w ≡ le_at s at w = λ w. le_at_drop w s at 0 ∙ ap (λ (k : ℕ). le_at s k w) (add-zero at) in
    λ i. record {
      participant = here 2 i;
      service = le_at_drop 1 s at 2 i;
      state = le_at_drop 1 s at 3 i;
      number = le_at_drop 4 s at 4 i;
      revision = le_at_drop 4 s at 8 i;
      start = le_at_drop 2 s at 12 i;
      length = le_at_drop 2 s at 14 i;
      a = to_z w32 (le_at_drop 4 s at 16 i);
      b = le_at_drop 4 s at 20 i;
      c = le_at_drop 4 s at 24 i;
    }

-- what was read is written again, where the last four bytes are zero
pub bytes_again : (s : List ℕ) → IsBytes s → reserved_at s 0 ≡ 0 → call_bytes (call_at s 0) ≡ bytes_at s 0 32
unfolding call_at call_bytes key_bytes time_bytes term_bytes bytes_at
bytes_again s h z =
    let field : (w o : ℕ) → le_bytes w (le_at s o w) ≡ bytes_at s o w = λ w o. again w s o h in
    let a : le_bytes 4 (of_z w32 (to_z w32 (le_at s 16 4))) ≡ bytes_at s 16 4 =
    ap (le_bytes 4) (of_z-to_z w32 (le_at s 16 4) (record { fits = le_at_fits s h 4 16 })) ∙ field 4 16 in
    let zeros : le_bytes 4 0 ≡ bytes_at s 28 4 = ap (le_bytes 4) (sym z) ∙ field 4 28 in
    cat (cat (cat (cat (cat (field 2 0) (field 1 2)) (field 1 3)) (field 4 4)) (cat (cat (field 4 8) (field 2 12)) (field 2 14)))
    (cat (cat (cat a (field 4 20)) (field 4 24)) zeros)

-- the bytes of a record that was read are those it was read from
pub record_again : (b : List ℕ) → IsBytes b → (o : ℕ) → o + 32 ≤ length b → reserved_at b o ≡ 0 → drop o b ≡ call_bytes (call_at b o) ++ drop (o + 32) b
record_again b h o l z =
    let s = drop o b in
    let r : reserved_at s 0 ≡ 0 = le_at_drop 4 b o 28 ∙ z in
    split 32 s 0 (omega (arith, length-drop o b)) ∙ cat (sym (bytes_again s (bytes_drop b h o) r) ∙ ap call_bytes (call_drop b o)) (drop-drop 32 o b)

-- the numbers of a record that was read fit 32 bits
module _ (b : List ℕ) (h : IsBytes b) (o : ℕ) where
  pub number_fits : (call_at b o).number < 4294967296
  unfolding call_at
  number_fits = le_at_fits b h 4 (o + 4)

  pub revision_fits : (call_at b o).revision < 4294967296
  unfolding call_at
  revision_fits = le_at_fits b h 4 (o + 8)
