-- A name as it is printed has no control character. Assumes nothing.
use mathlib.Core.Path.{◌≡◌, refl, sym, ◌∙◌, ap}
use mathlib.Core.List.{List, [], ◌∷◌}
use Prim.Native.Nat.{ℕ, zero, suc, ◌+◌, ◌≤◌, ◌<◌}
use native.Mathlib.Numerals.{add-one}
use native.Mathlib.Decide.{dec_lt, ℕ_discrete}
use native.Mathlib.Omega.{arith}
use borrow.Author.Tests.{lt-ltb, le-ltb, eq-eqb, ne_eqb}
use lib.ListN.{length, get_or, drop, set, length-map}
use lib.Seq.{sets, drop-cons, drop-length}
use Rattle.render.specs.Inner.{Puts}
use Rattle.text.specs.Texts.{shown_byte, shown_name}

pub shown_control : (b : ℕ) → b < 32 → shown_byte b ≡ 63
unfolding shown_byte
shown_control b h = simp (lt-ltb b 32 h)

pub shown_delete : (b : ℕ) → 32 ≤ b → b ≡ 127 → shown_byte b ≡ 63
unfolding shown_byte
shown_delete b h e = simp (le-ltb b 32 h, eq-eqb b 127 e)

pub shown_other : (b : ℕ) → 32 ≤ b → (b ≡ 127 → ⊥) → shown_byte b ≡ b
unfolding shown_byte
shown_other b h n = simp (le-ltb b 32 h, ne_eqb b 127 n)

-- NO BYTE OF A PRINTED NAME IS A CONTROL CHARACTER: none begins another line.
pub shown_plain : (b : ℕ) → (32 ≤ shown_byte b) × (shown_byte b ≡ 127 → ⊥)
shown_plain b = go (dec_lt b 32) (ℕ_discrete b 127)
  where
    go : Dec (b < 32) → Dec (b ≡ 127) → (32 ≤ shown_byte b) × (shown_byte b ≡ 127 → ⊥)
    go (yes h) d = rw (shown_control b h) (omega arith, λ e. absurd (omega arith))
    go (no h) (yes e) = rw (shown_delete b (omega arith) e) (omega arith, λ e. absurd (omega arith))
    go (no h) (no n) = rw (shown_other b (omega arith) n) (omega arith, n)

pub shown_at : (name : List ℕ) (k : ℕ) → k < length name → get_or (shown_name name) k 0 ≡ shown_byte (get_or name k 0)
unfolding shown_name
shown_at [] k h = absurd (omega arith)
shown_at (b ∷ name) zero h = refl
shown_at (b ∷ name) (suc k) h = shown_at name k (omega arith)

pub shown_long : (name : List ℕ) → length (shown_name name) ≡ length name
unfolding shown_name
shown_long name = length-map name shown_byte

-- one byte more of a name, and all of it
pub one_shown : (s name : List ℕ) (k : ℕ) → k < length name → sets (set s k (shown_byte (get_or name k 0))) (k + 1) (drop (k + 1) (shown_name name)) ≡ sets s k (drop k (shown_name name))
one_shown s name k h =
    let within : k < length (shown_name name) = omega (arith, shown_long name) in
    ap (λ (b : ℕ). sets (set s k b) (k + 1) (drop (k + 1) (shown_name name))) (sym (shown_at name k h)) ∙ rw (add-one, drop-cons (shown_name name) k 0)

pub all_shown : (name before after : List ℕ) (k : ℕ) → k ≡ length name → sets after k (drop k (shown_name name)) ≡ sets before 0 (shown_name name)
    → Puts (length name) before 0 (shown_name name) after (length name)
all_shown name before after k e h =
    let end : k ≡ length (shown_name name) = e ∙ sym (shown_long name) in
    record {
      fits = omega (arith, shown_long name);
      behind = omega (arith, shown_long name);
      bytes = record { is = sym (ap (λ (l : List ℕ). sets after k l) (ap (λ (i : ℕ). drop i (shown_name name)) end ∙ drop-length (shown_name name))) ∙ h };
    }
