-- The two parts of a window: they are within the limits, and their keys are the window's and a new one. Assumes nothing.
use mathlib.Core.Path.{◌≡◌, sym, ◌∙◌}
use mathlib.Core.Logic.{◌⊎◌, ⊎_elim}
use mathlib.Core.List.{List, Memᴰ as In}
use Prim.Native.Nat.{ℕ, ◌+◌, ◌%◌, ◌≤◌, ◌<◌}
use native.Mathlib.Omega.{arith}
use Rattle.units.specs.Month.{minutes_per_quarter}
use Rattle.call.specs.declared.Call.{Call}
use Rattle.call.specs.Key.{call_key}
use Rattle.call.specs.Revising.{live}
use Rattle.call.specs.Service.{Window, ServiceRow, is_deep_peak, is_reserve, is_start_stop, is_standby, is_black_start, is_agc_availability, is_agc_contribution}
use Rattle.call.specs.Service.{is_frequency_event, is_avc, is_stability_trip, Stated, is_live, is_contested_lem, is_withdrawn_lem, CallWithin}
use Rattle.call.specs.Services.{deep_peak, reserve}
use Rattle.call.proofs.Keys.{key_same}
use Rattle.book.specs.Book.{header_at, calls_of}
use Rattle.book.specs.Check.{header_minutes}
use Rattle.book.specs.Sound.{CallsWithin, Rises, Sound}
use Rattle.book.proofs.Exact.{sound_reads}
use Rattle.book.specs.Cut.{PartOf, NewNumber, Numbers, first_keeps, second_keeps, Cuttable}
use Rattle.book.proofs.Rising.{within_in}

module _ (b : List ℕ) (s : Sound b) where
  pub calls_rise : Rises 0 (calls_of b)
  calls_rise = rw (sound_reads b s).1 s.rising

  pub calls_within : CallsWithin (header_minutes (header_at b)) (calls_of b)
  calls_within = rw ((sound_reads b s).0, (sound_reads b s).1) s.within

  pub call_within : (x : Call) → In x (calls_of b) → CallWithin (header_minutes (header_at b)) x
  call_within x i = within_in (header_minutes (header_at b)) (calls_of b) x calls_within i

-- Limits

-- a live call of service 1 or 2 is a window that ends within the month; what has its service and its a, and is a window with b and c 0, is of a row of the table too
pub record IsWindow (m : ℕ) (x : Call) : Type 0 where
  pub ends : x.start + x.length ≤ m
  pub window : Window x
  pub row : (y : Call) → y.service ≡ x.service → y.a ≡ x.a → Window y → y.b ≡ 0 → y.c ≡ 0 → ServiceRow y

module _ (m : ℕ) (x : Call) (w : (x.service ≡ deep_peak) ⊎ (x.service ≡ reserve)) (l : x.state ≡ live) where
  other : (n : ℕ) → x.service ≡ n → 3 ≤ n → ⊥
  other n e h = ⊎_elim (λ (d : x.service ≡ deep_peak). omega arith) (λ (d : x.service ≡ reserve). omega arith) w

  of_row : x.start + x.length ≤ m → ServiceRow x → IsWindow m x
  of_row h (is_deep_peak e i a b c) = record { ends = h; window = i; row = λ y f g j p q. is_deep_peak (f ∙ e) j (g ∙ a) p q }
  of_row h (is_reserve e i kw a k b c) = record { ends = h; window = i; row = λ y f g j p q. is_reserve (f ∙ e) j kw (g ∙ a) k p q }
  of_row h (is_start_stop e i a b c) = absurd (other _ e (omega arith))
  of_row h (is_standby e i a b c) = absurd (other _ e (omega arith))
  of_row h (is_black_start e i a b c) = absurd (other _ e (omega arith))
  of_row h (is_agc_availability e i a b c) = absurd (other _ e (omega arith))
  of_row h (is_agc_contribution e i a b c) = absurd (other _ e (omega arith))
  of_row h (is_frequency_event e a b c) = absurd (other _ e (omega arith))
  of_row h (is_avc e i a b c) = absurd (other _ e (omega arith))
  of_row h (is_stability_trip e i a b c) = absurd (other _ e (omega arith))

  is_window_lem : Stated m x → IsWindow m x
  is_window_lem (is_live e h row) = of_row h row
  is_window_lem (is_contested_lem e blank) = absurd (omega arith)
  is_window_lem (is_withdrawn_lem e blank) = absurd (omega arith)

-- a part whose number and revision are numbers of 32 bits
part_within : (m : ℕ) (whole part : Call) → CallWithin m whole → IsWindow m whole → PartOf whole part → Window part → part.start + part.length ≤ m
    → part.number < 4294967296 → part.revision < 4294967296 → CallWithin m part
part_within m whole part v w p i h n r =
    record {
      participant = let q = v.participant in rw p.participant q;
      number = n;
      revision = (p.revision, r);
      content = is_live p.live h (w.row part p.service p.same_a i p.no_b p.no_c);
    }

-- The parts

-- the second begins where the first ends, and together they are as long as the whole; both begin and end with a quarter hour
pub record EndToEnd (whole first second : Call) : Type 0 where
  pub lengths : whole.length ≡ first.length + second.length
  pub starts : second.start ≡ whole.start + first.length
  pub aligned : whole.start % minutes_per_quarter ≡ 0
  pub quarters : first.length % minutes_per_quarter ≡ 0

module _ (b : List ℕ) (s : Sound b) (whole first second : Call) (cut : Cuttable b whole first second) where
  pub whole_window : IsWindow (header_minutes (header_at b)) whole
  whole_window = is_window_lem (header_minutes (header_at b)) whole cut.window cut.live (call_within b s whole cut.has).content

  -- the parts lie end to end in the whole, and are of whole quarter hours
  pub end_to_end : EndToEnd whole first second
  end_to_end =
      let w = whole_window in
      record { lengths = omega arith; starts = omega arith; aligned = w.window.starts; quarters = omega arith }

  pub first_within : first.number < 4294967296 → first.revision < 4294967296 → CallWithin (header_minutes (header_at b)) first
  first_within n r =
      let w = whole_window in
      part_within _ whole first (call_within b s whole cut.has) w cut.first_part
      (record { starts = omega arith; lasts = omega arith; shortest = omega arith }) (omega arith) n r

  pub second_within : second.number < 4294967296 → second.revision < 4294967296 → CallWithin (header_minutes (header_at b)) second
  second_within n r =
      let w = whole_window in
      part_within _ whole second (call_within b s whole cut.has) w cut.second_part
      (record { starts = omega arith; lasts = omega arith; shortest = omega arith }) (omega arith) n r

-- Keys

-- of the parts' keys one is the window's and the other is none of the book's
pub record Keys (b : List ℕ) (whole first second : Call) : Type 0 where
  pub distinct : call_key first ≡ call_key second → ⊥
  pub first_free : (y : Call) → In y (calls_of b) → call_key y ≡ call_key first → call_key y ≡ call_key whole
  pub second_free : (y : Call) → In y (calls_of b) → call_key y ≡ call_key second → call_key y ≡ call_key whole

module _ (b : List ℕ) (s : Sound b) (whole : Call) (has : In whole (calls_of b)) where
  pub keeps : (x : Call) → PartOf whole x → x.number ≡ whole.number → call_key x ≡ call_key whole
  keeps x p e = omega arith

  pub new : (x : Call) → PartOf whole x → x.number < 4294967296 → NewNumber b x → (y : Call) → In y (calls_of b) → call_key y ≡ call_key x → ⊥
  new x p l n y i e = let k = key_same y x (call_within b s y i).number l e in n y i k.0 k.1

  pub keys : (first second : Call) → Cuttable b whole first second → first.number < 4294967296 → second.number < 4294967296 → Keys b whole first second
  keys first second cut l r = go cut.numbers
    where
      go : Numbers b whole first second → Keys b whole first second
      go (first_keeps e n) =
          let k = keeps first cut.first_part e in
          record {
            distinct = λ d. new second cut.second_part r n whole has (sym k ∙ d);
            first_free = λ y i d. d ∙ k;
            second_free = λ y i d. absurd (new second cut.second_part r n y i d);
          }
      go (second_keeps e n) =
          let k = keeps second cut.second_part e in
          record {
            distinct = λ d. new first cut.first_part l n whole has (sym k ∙ sym d);
            first_free = λ y i d. absurd (new first cut.first_part l n y i d);
            second_free = λ y i d. d ∙ k;
          }
