-- The outcome over bytes by its cases. Assumes nothing.
use mathlib.Core.Path.{◌≡◌, refl, sym, ap, ◌∙◌}
use mathlib.Core.List.{List, [], ◌∷◌, ◌++◌}
use Prim.Native.Nat.{ℕ, ◌+◌, ◌*◌, ◌%◌, ◌≤◌, ◌<◌}
use native.Mathlib.Decide.{ℕ_discrete}
use native.Mathlib.Omega.{arith}
use mathlib.Core.Logic.{◌≢◌}
use borrow.Author.Tests.{lt-ltb, le-ltb, eq-eqb, ne_eqb}
use lib.ListN.{length, length-append}
use Rattle.le.specs.Le.{Stores}
use Rattle.units.specs.declared.SignedFen.{SignedFen}
use Rattle.share.specs.declared.Answer.{Answer}
use Rattle.share.specs.Sharing.{Part, SharingOutcome, sharing_refused}
use Rattle.share.specs.Forms.{answer_of}
use Rattle.share.proofs.Outcomes.{taken, each_given}
use Rattle.share_bytes.specs.Bytes.{line_size, fields_at, part_size, byte_count, byte_lines, parts_bytes, user_part, parts_written, sharing_spelt, if_room, sharing_bytes}
use Rattle.share_bytes.specs.Verdict.{written_size}
use Rattle.share_bytes.proofs.Spelling.{length_lines}

-- What is written: by a refusal nothing ..
pub none_written : (o : SharingOutcome) → 0 < o.number → parts_written o ≡ []
unfolding parts_written
none_written o h = rw (ne_eqb o.number 0 (λ e. omega arith))

-- .. else what each line gets, and one part more
pub some_written : (o : SharingOutcome) → o.number ≡ 0 → parts_written o ≡ o.parts ++ (user_part o.user ∷ [])
unfolding parts_written
some_written o z = rw (eq-eqb o.number 0 z)

pub long_written : (o : SharingOutcome) → o.number ≡ 0 → length (parts_written o) ≡ length o.parts + 1
long_written o z = ap length (some_written o z) ∙ length-append o.parts (user_part o.user ∷ [])

-- 1
pub bytes_1 : (part : ℕ) (input : List ℕ) (room : ℕ) → length input % line_size ≢ 0 → sharing_refused 1 0 ≡ sharing_bytes part input room
unfolding sharing_bytes
bytes_1 part input room h = rw (ne_eqb (length input % line_size) 0 h)

module _ (part : ℕ) (input : List ℕ) (room : ℕ) (whole : length input % line_size ≡ 0) where
  -- 10, 15 and 16 as they are
  pub bytes_refused : 0 < (sharing_spelt part input).number → sharing_spelt part input ≡ sharing_bytes part input room
  unfolding sharing_bytes if_room
  bytes_refused h =
      let none : part_size * length (parts_written (sharing_spelt part input)) ≡ 0 = ap (λ (ps : List Part). part_size * length ps) (none_written (sharing_spelt part input) h) in
      rw (eq-eqb (length input % line_size) 0 whole, le-ltb room (part_size * length (parts_written (sharing_spelt part input))) (omega arith))

  module _ (z : (sharing_spelt part input).number ≡ 0) where
    long : length (parts_written (sharing_spelt part input)) ≡ byte_count input + 1
    long =
        long_written (sharing_spelt part input) z
        ∙ ap (λ (n : ℕ). n + 1) (each_given part _ (byte_count input) (byte_lines input) (taken part _ _ (byte_lines input) z) ∙ length_lines (fields_at input) 0 (byte_count input))

    -- 9
    pub bytes_9 : room < written_size input → sharing_refused 9 0 ≡ sharing_bytes part input room
    unfolding sharing_bytes if_room
    bytes_9 h = rw (eq-eqb (length input % line_size) 0 whole, lt-ltb room (part_size * length (parts_written (sharing_spelt part input))) (omega (arith, long)))

    pub bytes_on : written_size input ≤ room → sharing_spelt part input ≡ sharing_bytes part input room
    unfolding sharing_bytes if_room
    bytes_on h = rw (eq-eqb (length input % line_size) 0 whole, le-ltb room (part_size * length (parts_written (sharing_spelt part input))) (omega (arith, long)))

  -- where there is room for all, 9 does not come
  pub bytes_enough : written_size input ≤ room → sharing_bytes part input room ≡ sharing_spelt part input
  bytes_enough h = go (ℕ_discrete (sharing_spelt part input).number 0)
    where
      go : Dec ((sharing_spelt part input).number ≡ 0) → sharing_bytes part input room ≡ sharing_spelt part input
      go (yes z) = sym (bytes_on z h)
      go (no f) = sym (bytes_refused (omega arith))

-- where nothing is written, nothing is stored
pub nothing_stored : (out : List ℕ) (o : SharingOutcome) → parts_written o ≡ [] → Stores out 0 (parts_bytes (parts_written o)) out
unfolding parts_bytes
nothing_stored out o e = rw e (record { is = refl })

-- the answer of an accepted outcome, from R and the user's amount
pub told_is : (o : SharingOutcome) (number place : ℕ) (whole user : SignedFen) → number ≡ o.number → place ≡ o.place → whole.0 ≡ o.gap → user.0 ≡ o.user
    → ◌≡◌ {A = Answer} (record { number = number; place = place; gap = whole; user = user }) (answer_of o)
told_is o number place whole user en ep ew eu = λ i. record { number = en i; place = ep i; gap = record { 0 = ew i }; user = record { 0 = eu i } }
