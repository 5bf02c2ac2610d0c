-- A run of digits, digit by digit. Assumes nothing.
use mathlib.Core.Path.{◌≡◌, refl, ap, sym, ◌∙◌}
use mathlib.Core.Bool.{true, false}
use mathlib.Core.List.{List, [], ◌∷◌, ◌++◌}
use Prim.Native.Nat.{ℕ, ◌+◌, ◌≤◌, ◌<◌}
use native.Mathlib.Omega.{arith}
use lib.ListN.{length, drop, get_or, length-append}
use lib.Seq.{append_snoc}
use Rattle.le.proofs.Tests.{each}
use Rattle.row.specs.Numbers.{is_digit, digits, value, hold}
use Rattle.row.proofs.Left.{next_byte}
use Rattle.grid.specs.Meaning.{RunFrom}

-- the digits so far
pub record Running (text : List ℕ) (i v end worth : ℕ) : Type 0 where
  pub read : List ℕ
  pub stands : drop i text ≡ read ++ drop end text
  pub all : digits read ≡ true
  pub long : end ≡ i + length read
  pub within : end ≤ length text
  pub same : (p : List ℕ) → hold (value worth p) ≡ hold (value v (read ++ p))

pub none_yet : (text : List ℕ) (i v : ℕ) → i ≤ length text → Running text i v i v
none_yet text i v h = record { read = []; stands = refl; all = refl; long = omega arith; within = h; same = λ p. refl }

digits_one : (ds : List ℕ) (d : ℕ) → digits ds ≡ true → is_digit d ≡ true → digits (ds ++ d ∷ []) ≡ true
digits_one [] d h is = rw is
digits_one (e ∷ ds) d h is = let t = each (is_digit e) (digits ds ∷ []) h in rw (t.0, digits_one ds d t.1.0 is)

pub one_more : (text : List ℕ) (i v end worth w : ℕ) → end < length text → is_digit (get_or text end 0) ≡ true
    → ((p : List ℕ) → hold (value w p) ≡ hold (value worth (get_or text end 0 ∷ p))) → Running text i v end worth → Running text i v (end + 1) w
one_more text i v end worth w more is grown r =
    let d = get_or text end 0 in
    record {
      read = r.read ++ d ∷ [];
      stands = r.stands ∙ ap (λ (x : List ℕ). r.read ++ x) (next_byte text end more) ∙ sym (append_snoc r.read d (drop (end + 1) text));
      all = digits_one r.read d r.all is;
      long = omega (arith, r.long, length-append r.read (d ∷ []));
      within = omega arith;
      same = λ p. grown p ∙ r.same (d ∷ p) ∙ ap (λ (x : List ℕ). hold (value v x)) (sym (append_snoc r.read d p));
    }

pub ended : (text : List ℕ) (i v end worth : ℕ) → (end < length text → is_digit (get_or text end 0) ≡ false) → Running text i v end worth
    → RunFrom text i v (record { end = end; value = worth })
ended text i v end worth h r = record { read = r.read; stands = r.stands; all = r.all; long = r.long; within = r.within; whole = h; worth = r.same }
