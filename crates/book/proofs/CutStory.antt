-- A book of 511 calls, all windows, of the first version: it has one free place, and a cut of it has 512 calls. Assumes nothing.
use mathlib.Core.Path.{◌≡◌, refl, ◌∙◌, ap}
use mathlib.Core.Logic.{inl}
use mathlib.Core.List.Memᴰ.{head as here}
use mathlib.Core.List.{List, [], ◌∷◌}
use Prim.Native.Nat.{ℕ, zero, suc, ◌*◌}
use lib.Dec.{lit<, lit≤}
use Rattle.units.specs.Month.{is_leap, days_of, minutes_of}
use Rattle.call.specs.declared.Call.{Call}
use Rattle.call.specs.Key.{call_key}
use Rattle.call.specs.Limits.{table, limits_of, limits_allow, call_is_sound}
use Rattle.book.specs.Book.{first_version, version_at, count_at}
use Rattle.book.specs.Check.{header_minutes}
use Rattle.book.specs.Without.{without}
use Rattle.book.proofs.Rising.{placed}
use Rattle.book.proofs.Cutting.{cut_count}
use Rattle.book.proofs.Samples.{march, good_from, Sample, sample, sample_count, is_new, in_parts, window, by_first, CutTo, halved}

-- so many deep-peak windows of half an hour, one behind the other, from number k on
unfoldable pub windows : ℕ → ℕ → List Call
windows k zero = []
windows k (suc left) = window 1 0 k 1 (30 * k) 30 ∷ windows (suc k) left

pub nearly_full : Sample (windows 0 511)
unfolding windows good_from march header_minutes minutes_of days_of is_leap call_is_sound limits_allow limits_of table
nearly_full = sample (windows 0 511) (lit≤ tt) refl

abbrev first_window : Call
first_window = window 1 0 0 1 0 30

abbrev kept : Call
kept = window 1 0 0 2 0 15

abbrev new : Call
new = window 1 0 511 1 15 15

pub full : CutTo nearly_full.book first_window kept new (placed kept (placed new (without (call_key first_window) (windows 0 511))))
unfolding windows is_new in_parts
full = halved (windows 0 511) nearly_full (lit< tt) 1 0 0 1 0 30 (inl refl) (here refl) 0 2 511 1 15 refl (by_first refl refl)

-- 511 calls before, 512 after, and still of the first version
pub has_512 : (count_at nearly_full.book ≡ 511) × (count_at full.after.book ≡ 512) × (version_at full.after.book ≡ first_version)
unfolding windows
has_512 =
    let before = sample_count (windows 0 511) nearly_full in (
      before,
      cut_count nearly_full.book full.after.book nearly_full.sound full.after.sound first_window kept new full.is_cut ∙ ap suc before,
      full.after.version,
    )
