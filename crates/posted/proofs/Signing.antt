-- Signed numbers at the front of a text. Assumes nothing.
use mathlib.Core.Path.{◌≡◌, ◌∙◌, ap}
use mathlib.Core.Bool.{true, false}
use mathlib.Core.List.{List, ◌++◌, append_assoc}
use Prim.Native.Nat.{ℕ, suc, ◌-◌, ◌^◌, ◌≤◌, ◌<◌}
use native.Mathlib.Omega.{arith}
use lib.IntN.{ℤ, pos, negsuc}
use lib.ListN.{drop}
use lib.Seq.{drop_at}
use mir.Syntax.{w64}
use mir.Val.{SFits, to_z, of_z}
use mir.ValLaws.{to_z-of_z}
use Rattle.render.specs.Decimal.{decimal, signed_decimal}
use Rattle.posted.specs.Inner.{worth, behind_digits, starts_digit, starts_minus, NumberIs, SignedIs, SignedFieldIs}
use Rattle.posted.proofs.Words.{never}
use Rattle.posted.proofs.Taking.{worth_decimal, behind_decimal, unsigned}

-- a number that fits comes through its bits
pub through : (z y : ℤ) → SFits w64 y → z ≡ y → to_z w64 (of_z w64 z) ≡ y
through z y f e = ap (λ (x : ℤ). to_z w64 (of_z w64 x)) e ∙ to_z-of_z w64 y f

-- a number turned over bit by bit is one below its negative
pub turned : (z : ℤ) (n : ℕ) → n < 2 ^ 63 → z ≡ pos n → to_z w64 (2 ^ 64 - 1 - of_z w64 z) ≡ negsuc n
turned z n h e =
    let k : 2 ^ 64 - 1 - n ≡ 2 ^ 64 - suc n = omega arith in
    ap (λ (y : ℤ). to_z w64 (2 ^ 64 - 1 - of_z w64 y)) e ∙ ap (to_z w64) k ∙ to_z-of_z w64 (negsuc n) (record { sfits = h })

module _ (t : List ℕ) (size : ℕ) (left : List ℕ) (v : ℤ) where
  -- behind `-`
  pub minus_reads : (from : List ℕ) → starts_minus t ≡ true → from ≡ drop 1 t → NumberIs from size left → (0 < size → size ≤ 2 ^ 63 → v ≡ negsuc (size - 1)) → SignedIs t v left
  unfolding signed_decimal
  minus_reads from m h l is = record { reads = reads }
    where
      reads : (z : ℤ) (rest : List ℕ) → SFits w64 z → starts_digit rest ≡ false → t ≡ signed_decimal z ++ rest → (v ≡ z) × (left ≡ rest)
      reads (pos n) rest f e cut = never (starts_minus t) m (ap starts_minus cut ∙ unsigned n rest)
      reads (negsuc n) rest f e cut =
          let few = f.sfits in
          let here : from ≡ decimal (suc n) ++ rest = h ∙ ap (drop 1) cut in
          let worths : worth 0 from ≡ suc n = ap (worth 0) here ∙ worth_decimal (suc n) rest e in
          let value : size ≡ suc n = l.is (omega arith) ∙ worths in
          let one : size - 1 ≡ n = omega arith in
          (is (omega arith) (omega arith) ∙ ap negsuc one, l.rest ∙ ap behind_digits here ∙ behind_decimal (suc n) rest e)

  -- without it
  pub plus_reads : starts_minus t ≡ false → NumberIs t size left → (size < 2 ^ 63 → v ≡ pos size) → SignedIs t v left
  unfolding signed_decimal starts_minus
  plus_reads m l is = record { reads = reads }
    where
      reads : (z : ℤ) (rest : List ℕ) → SFits w64 z → starts_digit rest ≡ false → t ≡ signed_decimal z ++ rest → (v ≡ z) × (left ≡ rest)
      reads (negsuc n) rest f e cut = never (starts_minus t) (ap starts_minus cut) m
      reads (pos n) rest f e cut =
          let few = f.sfits in
          let worths : worth 0 t ≡ n = ap (worth 0) cut ∙ worth_decimal n rest e in
          let value : size ≡ n = l.is (omega arith) ∙ worths in
          (is (omega arith) ∙ ap pos value, l.rest ∙ ap behind_digits cut ∙ behind_decimal n rest e)

-- the signed number behind a name
pub signed_reads : (size : ℕ) (t from : List ℕ) (value : ℤ) (left : List ℕ) → from ≡ drop size t → SignedIs from value left → SignedFieldIs size t value left
signed_reads size t from value left h l =
    record {
      reads =
          λ name z rest long few e cut.
          l.reads z rest few e (h ∙ ap (drop size) (cut ∙ append_assoc name (signed_decimal z) rest) ∙ drop_at name (signed_decimal z ++ rest) size long);
    }
