-- A month without a call is scored, for every sound register line and every month: the hypotheses of the table of outcomes can be met. Assumes nothing.
use mathlib.Core.Path.{◌≡◌, refl, sym, ◌∙◌, ap}
use mathlib.Core.List.{List, []}
use Prim.Native.Nat.{ℕ, ◌≤◌, ◌<◌}
use native.Mathlib.Omega.{arith}
use lib.Dec.{lit≤}
use lib.ListN.{length, get_or, replicate, length-replicate, get_or-replicate}
use Rattle.units.specs.Month.{quarters_of}
use Rattle.units.specs.Money.{grains_to_fen}
use Rattle.call.specs.declared.Call.{Call}
use Rattle.book.specs.declared.Header.{Header}
use Rattle.book.specs.Book.{first_version, header_at, count_at, record_at, calls_of, book_bytes}
use Rattle.book.specs.Sound.{Heading, Sound}
use Rattle.book.proofs.Heads.{first_known, first_fits}
use Rattle.book.proofs.Exact.{sound_accepted, reads_back}
use Rattle.book.proofs.Records.{length_calls}
use Rattle.pay.specs.declared.Member.{Member}
use Rattle.pay.specs.Sum.{total, total_z}
use Rattle.pay.specs.Event.{clamp, energy_pay}
use Rattle.pay.specs.Member.{MemberWithin}
use Rattle.score.specs.Series.{most_output}
use Rattle.score.specs.Scoring.{month_grains, scoring}
use Rattle.score.specs.Outcomes.{Ready, scored}
use Rattle.score.proofs.Exact.{outcome_exact}

no_grains_lem : (m : Member) (series : List ℕ) (book : ℕ → Call) → month_grains m series book 0 ≡ 0
unfolding month_grains total total_z energy_pay clamp
no_grains_lem m series book = refl

-- no output in so many quarter hours
abbrev pub still : ℕ → List ℕ
still n = replicate n 0

module _ (m : Member) (line : MemberWithin m) (h : Header) (heading : Heading h) where
  abbrev pub empty : List ℕ
  empty = book_bytes first_version h []

  abbrev pub quarters : ℕ
  quarters = quarters_of h.year h.month

  is_sound_lem : Sound empty
  is_sound_lem = record { version = first_version; header = h; calls = []; known = first_known; heading = heading; few = first_fits _ (lit≤ tt); within = tt; rising = tt; bytes = refl }

  reads : (header_at empty ≡ h) × (calls_of empty ≡ [])
  reads = reads_back first_version h [] first_known heading (first_fits _ (lit≤ tt)) tt

  none : count_at empty ≡ 0
  unfolding calls_of
  none = sym (length_calls empty (count_at empty) 0) ∙ ap length reads.1

  small : (j : ℕ) → j < length (still quarters) → get_or (still quarters) j 0 ≤ most_output
  small j l =
      let n : length (still quarters) ≡ quarters = length-replicate quarters 0 in
      let e : get_or (still quarters) j 0 ≡ 0 = get_or-replicate quarters j 0 0 (omega (arith, n)) in
      omega (arith, e)

  ready : Ready m empty (still quarters)
  ready =
      record {
        front = record { line = line; book = sound_accepted empty is_sound_lem };
        spans = length-replicate quarters 0 ∙ sym (ap (λ (k : Header). quarters_of k.year k.month) reads.0);
        within = small;
      }

  -- no call, a series of zeros: accepted, 0 grains and 0 fen
  pub empty_month : scoring m empty (still quarters) ≡ record { number = 0; place = 0; grains = record { 0 = 0 }; fen = record { 0 = grains_to_fen 0 } }
  empty_month =
      sym ((outcome_exact m empty (still quarters) _).1
      (scored 0 refl ready (λ k l. absurd (omega (arith, none)))
      (sym (ap (month_grains m (still quarters) (record_at empty)) none ∙ no_grains_lem m (still quarters) (record_at empty)))))
