-- Books of calls that are numbered in turn: sound, of one month, and one key longer with a call of a higher number. Assumes nothing.
use mathlib.Core.Path.{◌≡◌, refl, sym, ◌∙◌, ap, ap₂}
use mathlib.Core.Logic.{⊎_elim}
use mathlib.Core.List.Memᴰ.{cases_cons as in-cons}
use mathlib.Core.List.Memᴰ.{eq_of_singleton as eq-of-one}
use mathlib.Core.List.{List, [], ◌∷◌, Memᴰ as In}
use Prim.Native.Nat.{ℕ, zero, suc, ◌+◌, ◌≤◌, ◌<◌}
use native.Mathlib.Omega.{arith}
use lib.Dec.{lit<, lit≤}
use lib.ListN.{length, length-replicate}
use Rattle.call.specs.declared.Call.{Call}
use Rattle.call.specs.Key.{call_key}
use Rattle.call.specs.Service.{CallWithin, is_withdrawn_lem}
use Rattle.book.specs.Book.{most_records, most_keys, size_of, version_at, header_at, calls_of, book_bytes}
use Rattle.book.specs.Check.{header_minutes}
use Rattle.book.specs.Sound.{Known, Heading, CallsWithin, Rises, Sound}
use Rattle.book.proofs.Exact.{version_of, reads_back}
use Rattle.rule.specs.Keys.{different_keys}
use Rattle.rule.specs.Inner.{merge}
use Rattle.rule.specs.Joined.{join_calls}
use Rattle.rule.proofs.Joins.{join_length}
use Rattle.rule.proofs.Merging.{merge_lt, merge_joins}
use Rattle.rule.proofs.Bounds.{Calls}
use Rattle.join.specs.Joining.{key_count}
use Rattle.join.specs.Trees.{OneMonth}
use Rattle.join.proofs.Trees.{book_sound}
use Rattle.sums.specs.Crowded.{january, gone, numbered, output}

-- Calls numbered in turn

gone_within : (m number : ℕ) → number < 4294967296 → CallWithin m (gone number)
gone_within m number h =
    record {
      participant = (lit≤ tt, lit≤ tt);
      number = h;
      revision = (lit≤ tt, lit< tt);
      content = is_withdrawn_lem refl (record { service = refl; time = record { no_start = refl; no_length = refl }; no_a = refl; no_b = refl; no_c = refl });
    }

all_within : (m number n : ℕ) → number + n ≤ 4294967296 → CallsWithin m (numbered number n)
unfolding numbered
all_within m number zero h = tt
all_within m number (suc n) h = (gone_within m number (omega arith), all_within m (suc number) n (omega arith))

all_rise : (low number n : ℕ) → low ≤ call_key (gone number) → Rises low (numbered number n)
unfolding numbered
all_rise low number zero h = tt
all_rise low number (suc n) h = (h, all_rise (suc (call_key (gone number))) (suc number) n (omega arith))

so_many : (number n : ℕ) → length (numbered number n) ≡ n
unfolding numbered
so_many number zero = refl
so_many number (suc n) = ap suc (so_many (suc number) n)

pub numbered_calls : (m number n : ℕ) → number + n ≤ 4294967296 → Calls m (numbered number n)
numbered_calls m number n h = record { within = all_within m number n h; rises = all_rise 0 number n (omega arith) }

pub numbered_fit : (v number n : ℕ) → n ≤ most_records v → length (numbered number n) ≤ most_records v
numbered_fit v number n h = omega (arith, so_many number n)

-- joined with a call of a higher number, they are one more
one_longer : (number n last : ℕ) → number + n ≤ last → length (merge (numbered number n) (numbered last 1)) ≡ suc n
unfolding numbered merge
one_longer number zero last h = refl
one_longer number (suc n) last h =
    ap length (merge_lt (gone number) (numbered (suc number) n) (gone last) [] (omega arith)) ∙ ap suc (one_longer (suc number) n last (omega arith))

pub joined_one_longer : (n : ℕ) → n < 4294967296 → length (join_calls (numbered 0 n) (numbered n 1)) ≡ suc n
joined_one_longer n h =
    ap length (sym (merge_joins 0 (numbered 0 n) (numbered n 1) (numbered_calls 0 0 n (omega arith)).rises (numbered_calls 0 n 1 (omega arith)).rises))
    ∙ one_longer 0 n n (omega arith)

-- Their books

pub heads : Heading january
unfolding january
heads = record { area = (lit≤ tt, lit≤ tt); year = (lit≤ tt, lit≤ tt); month = (lit≤ tt, lit≤ tt) }

module _ (v number n : ℕ) (known : Known v) (fits : n ≤ most_records v) (small : number + n ≤ 4294967296) where
  abbrev numbered_book : List ℕ
  numbered_book = book_bytes v january (numbered number n)

  pub numbered_sound : Sound numbered_book
  numbered_sound = book_sound v january (numbered number n) known heads (numbered_fit v number n fits) (numbered_calls (header_minutes january) number n small)

  pub numbered_reads : (header_at numbered_book ≡ january) × (calls_of numbered_book ≡ numbered number n)
  numbered_reads = reads_back v january (numbered number n) known heads (numbered_fit v number n fits) (numbered_calls (header_minutes january) number n small).within

  pub numbered_version : version_at numbered_book ≡ v
  numbered_version = version_of v january (numbered number n) known heads (numbered_fit v number n fits)

-- Two books

-- what holds of both
pub both : {A : Type 0} (P : A → Type 0) (x y : A) → P x → P y → (z : A) → In z (x ∷ y ∷ []) → P z
both P x y p q z i = ⊎_elim (λ (e : z ≡ x). rw e p) (λ j. let e : z ≡ y = eq-of-one j in rw e q) (in-cons i)

pub month_of_both : (x y : List ℕ) → Sound x → Sound y → header_at x ≡ january → header_at y ≡ january → OneMonth january (x ∷ y ∷ [])
month_of_both x y s t f g = record { sound = both Sound x y s t; header = both (λ (b : List ℕ). header_at b ≡ january) x y f g }

-- n calls and the next one have one key more
pub keys_of_both_lem : (x y : List ℕ) (n : ℕ) → n < 4294967296 → calls_of x ≡ numbered 0 n → calls_of y ≡ numbered n 1 → key_count (x ∷ y ∷ []) ≡ suc n
unfolding key_count
keys_of_both_lem x y n h e f =
    ap₂ (λ (xs ys : List Call). length (different_keys (xs ∷ ys ∷ []))) e f ∙ sym (join_length (numbered 0 n) (numbered n 1)) ∙ joined_one_longer n h

-- the output has room for every book
pub output_long : length output ≡ size_of most_keys
unfolding output
output_long = length-replicate {A = ℕ} (size_of most_keys) 0
