-- Lines and parts as bytes. Assumes nothing.
use mathlib.Core.Path.{◌≡◌, refl, sym, ap, ◌∙◌, subst}
use mathlib.Core.Bool.{Bool}
use mathlib.Core.List.{List, [], ◌∷◌, ◌++◌, append-nil, append_assoc}
use Prim.Native.Nat.{ℕ, zero, suc, ◌+◌, ◌*◌, ◌≤◌, ◌<◌}
use native.Mathlib.Nat.{not-suc-le-zero}
use native.Mathlib.Numerals.{add-one}
use native.Mathlib.Omega.{arith}
use lib.ListN.{length, get_or, take, length-append}
use lib.Seq.{length-take-le, take_all, sets}
use mir.Syntax.{w64}
use lib.IntN.{ℤ}
use mir.Val.{of_z, to_z, SFits}
use mir.Facts.{to_z-of_z}
use Rattle.le.specs.Le.{le_bytes, Stores}
use Rattle.le.proofs.Laws.{length_le_bytes, then}
use Rattle.share.specs.declared.Line.{Line}
use Rattle.share.specs.Sharing.{Part, part_of, parts_by}
use Rattle.share.specs.Forms.{filled}
use Rattle.share.proofs.Lines.{length_parts, part_at}
use Rattle.share_bytes.specs.Bytes.{line_size, lines_by, part_bytes, parts_bytes}

-- Lines

module _ (line : ℕ → Line) where
  pub length_lines : (at n : ℕ) → length (lines_by line at n) ≡ n
  unfolding lines_by
  length_lines at zero = refl
  length_lines at (suc n) = ap suc (length_lines (at + line_size) n)

  lines_at : (at n i : ℕ) (d : Line) → i < n → get_or (lines_by line at n) i d ≡ line (at + line_size * i)
  unfolding lines_by
  lines_at at zero i d h = absurd (not-suc-le-zero h)
  lines_at at (suc n) zero d h = ap line (omega arith)
  lines_at at (suc n) (suc i) d h = lines_at (at + line_size) n i d (omega arith) ∙ ap line (omega arith)

  pub line_of : (n i : ℕ) (d : Line) → i < n → get_or (lines_by line 0 n) i d ≡ line (line_size * i)
  line_of n i d h = lines_at 0 n i d h ∙ ap line (omega arith)

  -- the first lines of more
  pub lines_take : (at m n : ℕ) → m ≤ n → lines_by line at m ≡ take m (lines_by line at n)
  unfolding lines_by
  lines_take at zero n h = refl
  lines_take at (suc m) zero h = absurd (not-suc-le-zero h)
  lines_take at (suc m) (suc n) h = ap (λ (ls : List Line). line at ∷ ls) (lines_take (at + line_size) m n (omega arith))

-- Parts written

pub length_part_bytes : (p : Part) → length (part_bytes p) ≡ 16
unfolding part_bytes
length_part_bytes p =
    length-append (le_bytes 8 (of_z w64 p.share)) (le_bytes 8 (of_z w64 p.amount))
    ∙ omega (arith, length_le_bytes 8 (of_z w64 p.share), length_le_bytes 8 (of_z w64 p.amount))

pub length_parts_bytes : (ps : List Part) → length (parts_bytes ps) ≡ 16 * length ps
unfolding parts_bytes
length_parts_bytes [] = omega arith
length_parts_bytes (p ∷ ps) =
    length-append (part_bytes p) (parts_bytes ps) ∙ omega (arith, length_part_bytes p, length_parts_bytes ps)

-- a share, and an amount behind it
pub part_stored : (p : Part) (at : ℕ) {k l m : List ℕ} → Stores k at (le_bytes 8 (of_z w64 p.share)) l → Stores l (at + 8) (le_bytes 8 (of_z w64 p.amount)) m
    → Stores k at (part_bytes p) m
unfolding part_bytes
part_stored p at f g = then (at + 8) (ap (λ (n : ℕ). at + n) (sym (length_le_bytes 8 (of_z w64 p.share)))) f g

parts_more : (ps : List Part) (i : ℕ) (d : Part) → i < length ps → parts_bytes (take i ps) ++ part_bytes (get_or ps i d) ≡ parts_bytes (take (suc i) ps)
unfolding parts_bytes
parts_more [] i d h = absurd (not-suc-le-zero h)
parts_more (p ∷ ps) zero d h = sym (append-nil (part_bytes p))
parts_more (p ∷ ps) (suc i) d h =
    append_assoc (part_bytes p) (parts_bytes (take i ps)) (part_bytes (get_or ps i d)) ∙ ap (λ (t : List ℕ). part_bytes p ++ t) (parts_more ps i d (omega arith))

pub parts_none : (ps : List Part) (k : List ℕ) → Stores k 0 (parts_bytes (take 0 ps)) k
unfolding parts_bytes
parts_none ps k = record { is = refl }

-- the first i parts, and one more
pub parts_stored : (ps : List Part) (i : ℕ) (d : Part) {k l m : List ℕ} → i < length ps → Stores k 0 (parts_bytes (take i ps)) l
    → Stores l (16 * i) (part_bytes (get_or ps i d)) m → Stores k 0 (parts_bytes (take (i + 1) ps)) m
parts_stored ps i d {k} {l} {m} h f g =
    let at : 16 * i ≡ 0 + length (parts_bytes (take i ps)) = omega (arith, length_parts_bytes (take i ps), length-take-le i ps (omega arith)) in
    rw (add-one, ← parts_more ps i d h) (then (16 * i) at f g)

-- one part behind the others
pub parts_last : (ps : List Part) (p : Part) → parts_bytes ps ++ part_bytes p ≡ parts_bytes (ps ++ (p ∷ []))
unfolding parts_bytes
parts_last [] p = sym (append-nil (part_bytes p))
parts_last (q ∷ ps) p = append_assoc (part_bytes q) (parts_bytes ps) (part_bytes p) ∙ ap (λ (t : List ℕ). part_bytes q ++ t) (parts_last ps p)

pub last_stored : (ps : List Part) (p : Part) (n : ℕ) {k l m : List ℕ} → length ps ≡ n → Stores k 0 (parts_bytes ps) l → Stores l (16 * n) (part_bytes p) m
    → Stores k 0 (parts_bytes (ps ++ (p ∷ []))) m
last_stored ps p n {k} {l} {m} e f g =
    let at : 16 * n ≡ 0 + length (parts_bytes ps) = omega (arith, length_parts_bytes ps) in
    subst (λ (xs : List ℕ). Stores k 0 xs m) (parts_last ps p) (then (16 * n) at f g)

-- what a line has been given
abbrev part_in : Line → Part
part_in l = record { share = l.share.0; amount = l.amount.0 }

-- the parts of lines, by a share each
module _ (is_below : Bool) (ls : List Line) (ss : List ℕ) (each : length ss ≡ length ls) where
  abbrev given : List Part
  given = parts_by is_below ls ss

  length_given : length given ≡ length ls
  length_given = length_parts is_below ls ss each

  -- one line more: its part as it was filled in
  pub part_more : (i : ℕ) (d l : Line) {k b m : List ℕ} → i < length ls → l ≡ filled (get_or ls i d) (part_of is_below (get_or ls i d) (get_or ss i 0)) → Stores k 0 (parts_bytes (take i given)) b
      → Stores b (16 * i) (part_bytes (part_in l)) m → Stores k 0 (parts_bytes (take (i + 1) given)) m
  part_more i d l {k} {b} {m} h e f g =
      let p : Part = part_of is_below d 0 in
      let same : part_in l ≡ get_or given i p =
      ap part_in e ∙ sym (part_at is_below ls ss i d p each h) in
      parts_stored given i p (omega (arith, length_given)) f (subst (λ (q : Part). Stores b (16 * i) (part_bytes q) m) same g)

  pub all_written : (n : ℕ) {k m : List ℕ} → length ls ≤ n → Stores k 0 (parts_bytes (take n given)) m → Stores k 0 (parts_bytes given) m
  all_written n {k} {m} h f = subst (λ (ps : List Part). Stores k 0 (parts_bytes ps) m) (take_all n given (omega (arith, length_given))) f

-- a signed number stored as its bits: the machine's way through them and back changes nothing
pub bits_stored : (z : ℤ) {at : ℕ} {k l : List ℕ} → SFits w64 z → Stores k at (le_bytes 8 (of_z w64 (to_z w64 (of_z w64 z)))) l → Stores k at (le_bytes 8 (of_z w64 z)) l
bits_stored z {at} {k} {l} f s = record { is = s.is ∙ ap (λ (v : ℤ). sets k at (le_bytes 8 (of_z w64 v))) (to_z-of_z f) }
