-- The words of services, kinds and months: how long they are, and that they are read back. Assumes nothing.
use mathlib.Core.Path.{◌≡◌, refl, ◌∙◌, ap}
use mathlib.Core.Bool.{Bool, true, false, cond}
use mathlib.Core.List.{List, []}
use Prim.Native.Nat.{ℕ, zero, suc, ◌+◌, ◌≤◌, ◌<◌}
use native.Mathlib.Omega.{arith}
use lib.Dec.{lit≤}
use lib.ListN.{length}
use Rattle.render.specs.Decimal.{word}
use Rattle.clock.specs.Clock.{before, behind}
use Rattle.std.specs.Prelude.{Some}
use Rattle.names.specs.Names.{blank, skip, word_at, services, kinds, months, same, place_from, service_of, kind_of, service_word, kind_word, month_word, most_word, most_service, most_kind}
use Rattle.names.proofs.Words.{skip_none, same_exactly}

-- No word is longer than its room

empty_short : (n : ℕ) → length (before blank (skip [] n)) ≤ most_word
unfolding before
empty_short n = rw (skip_none n) (lit≤ tt)

pub service_short : (n : ℕ) → length (service_word n) ≤ most_word
unfolding service_word word_at skip services before behind
service_short zero = lit≤ tt
service_short (suc zero) = lit≤ tt
service_short (suc (suc zero)) = lit≤ tt
service_short (suc (suc (suc zero))) = lit≤ tt
service_short (suc (suc (suc (suc zero)))) = lit≤ tt
service_short (suc (suc (suc (suc (suc zero))))) = lit≤ tt
service_short (suc (suc (suc (suc (suc (suc zero)))))) = lit≤ tt
service_short (suc (suc (suc (suc (suc (suc (suc zero))))))) = lit≤ tt
service_short (suc (suc (suc (suc (suc (suc (suc (suc zero)))))))) = lit≤ tt
service_short (suc (suc (suc (suc (suc (suc (suc (suc (suc zero))))))))) = lit≤ tt
service_short (suc (suc (suc (suc (suc (suc (suc (suc (suc (suc zero)))))))))) = lit≤ tt
service_short (suc (suc (suc (suc (suc (suc (suc (suc (suc (suc (suc n))))))))))) = empty_short n

pub kind_short : (n : ℕ) → length (kind_word n) ≤ most_word
unfolding kind_word word_at skip kinds before behind
kind_short zero = lit≤ tt
kind_short (suc zero) = lit≤ tt
kind_short (suc (suc zero)) = lit≤ tt
kind_short (suc (suc (suc zero))) = lit≤ tt
kind_short (suc (suc (suc (suc zero)))) = lit≤ tt
kind_short (suc (suc (suc (suc (suc zero))))) = lit≤ tt
kind_short (suc (suc (suc (suc (suc (suc zero)))))) = lit≤ tt
kind_short (suc (suc (suc (suc (suc (suc (suc zero))))))) = lit≤ tt
kind_short (suc (suc (suc (suc (suc (suc (suc (suc zero)))))))) = lit≤ tt
kind_short (suc (suc (suc (suc (suc (suc (suc (suc (suc n))))))))) = empty_short n

pub month_short : (n : ℕ) → length (month_word n) ≤ most_word
unfolding month_word word_at skip months before behind
month_short zero = lit≤ tt
month_short (suc zero) = lit≤ tt
month_short (suc (suc zero)) = lit≤ tt
month_short (suc (suc (suc zero))) = lit≤ tt
month_short (suc (suc (suc (suc zero)))) = lit≤ tt
month_short (suc (suc (suc (suc (suc zero))))) = lit≤ tt
month_short (suc (suc (suc (suc (suc (suc zero)))))) = lit≤ tt
month_short (suc (suc (suc (suc (suc (suc (suc zero))))))) = lit≤ tt
month_short (suc (suc (suc (suc (suc (suc (suc (suc zero)))))))) = lit≤ tt
month_short (suc (suc (suc (suc (suc (suc (suc (suc (suc zero))))))))) = lit≤ tt
month_short (suc (suc (suc (suc (suc (suc (suc (suc (suc (suc zero)))))))))) = lit≤ tt
month_short (suc (suc (suc (suc (suc (suc (suc (suc (suc (suc (suc zero))))))))))) = lit≤ tt
month_short (suc (suc (suc (suc (suc (suc (suc (suc (suc (suc (suc (suc zero)))))))))))) = lit≤ tt
month_short (suc (suc (suc (suc (suc (suc (suc (suc (suc (suc (suc (suc (suc n))))))))))))) = empty_short n

-- THE WORDS BY THEIR NUMBERS, each by itself: the services and kinds as the paper numbers them, and the months in their order

pub services_told :
    (service_word 1 ≡ word "deep-peak") × (service_word 2 ≡ word "reserve") × (service_word 3 ≡ word "start-stop")
    × (service_word 4 ≡ word "standby") × (service_word 5 ≡ word "black-start") × (service_word 6 ≡ word "agc-availability")
    × (service_word 7 ≡ word "agc-contribution") × (service_word 8 ≡ word "frequency-event") × (service_word 9 ≡ word "avc")
    × (service_word 10 ≡ word "stability-trip")
unfolding service_word word_at skip services before behind
services_told = (refl, refl, refl, refl, refl, refl, refl, refl, refl, refl)

pub kinds_told :
    (kind_word 1 ≡ word "coal") × (kind_word 2 ≡ word "gas") × (kind_word 3 ≡ word "hydro") × (kind_word 4 ≡ word "wind")
    × (kind_word 5 ≡ word "photovoltaic") × (kind_word 6 ≡ word "solar-thermal") × (kind_word 7 ≡ word "pumped-storage") × (kind_word 8 ≡ word "new-storage")
unfolding kind_word word_at skip kinds before behind
kinds_told = (refl, refl, refl, refl, refl, refl, refl, refl)

pub months_told :
    (month_word 1 ≡ word "January") × (month_word 2 ≡ word "February") × (month_word 3 ≡ word "March") × (month_word 4 ≡ word "April")
    × (month_word 5 ≡ word "May") × (month_word 6 ≡ word "June") × (month_word 7 ≡ word "July") × (month_word 8 ≡ word "August")
    × (month_word 9 ≡ word "September") × (month_word 10 ≡ word "October") × (month_word 11 ≡ word "November") × (month_word 12 ≡ word "December")
unfolding month_word word_at skip months before behind
months_told = (refl, refl, refl, refl, refl, refl, refl, refl, refl, refl, refl, refl)

-- Read back

-- THE WORD OF A SERVICE IS READ AS ITS NUMBER.
pub service_back : (n : ℕ) → 1 ≤ n → n ≤ 10 → service_of (service_word n) ≡ Some n
unfolding service_of place_from same service_word word_at skip services before behind
service_back zero h l = absurd (omega arith)
service_back (suc zero) h l = refl
service_back (suc (suc zero)) h l = refl
service_back (suc (suc (suc zero))) h l = refl
service_back (suc (suc (suc (suc zero)))) h l = refl
service_back (suc (suc (suc (suc (suc zero))))) h l = refl
service_back (suc (suc (suc (suc (suc (suc zero)))))) h l = refl
service_back (suc (suc (suc (suc (suc (suc (suc zero))))))) h l = refl
service_back (suc (suc (suc (suc (suc (suc (suc (suc zero)))))))) h l = refl
service_back (suc (suc (suc (suc (suc (suc (suc (suc (suc zero))))))))) h l = refl
service_back (suc (suc (suc (suc (suc (suc (suc (suc (suc (suc zero)))))))))) h l = refl
service_back (suc (suc (suc (suc (suc (suc (suc (suc (suc (suc (suc n))))))))))) h l = absurd (omega arith)

-- THE WORD OF A KIND IS READ AS ITS NUMBER.
pub kind_back : (n : ℕ) → 1 ≤ n → n ≤ 8 → kind_of (kind_word n) ≡ Some n
unfolding kind_of place_from same kind_word word_at skip kinds before behind
kind_back zero h l = absurd (omega arith)
kind_back (suc zero) h l = refl
kind_back (suc (suc zero)) h l = refl
kind_back (suc (suc (suc zero))) h l = refl
kind_back (suc (suc (suc (suc zero)))) h l = refl
kind_back (suc (suc (suc (suc (suc zero))))) h l = refl
kind_back (suc (suc (suc (suc (suc (suc zero)))))) h l = refl
kind_back (suc (suc (suc (suc (suc (suc (suc zero))))))) h l = refl
kind_back (suc (suc (suc (suc (suc (suc (suc (suc zero)))))))) h l = refl
kind_back (suc (suc (suc (suc (suc (suc (suc (suc (suc n))))))))) h l = absurd (omega arith)

-- and only that word

found : (words text : List ℕ) (left k n : ℕ) → place_from words left k text ≡ Some n → (text ≡ word_at words n) × (k ≤ n) × (n < k + left)
unfolding place_from
found words text zero k n e = absurd (let z : ◌≡◌ {A = ℕ} 0 1 = cc in omega arith)
found words text (suc left) k n e = go (same text (word_at words k)) refl e (λ f. found words text left (suc k) n f)
  where
    go : (t : Bool) → same text (word_at words k) ≡ t → cond t (Some k) (place_from words left (suc k) text) ≡ Some n
        → (place_from words left (suc k) text ≡ Some n → (text ≡ word_at words n) × (suc k ≤ n) × (n < suc k + left)) → (text ≡ word_at words n) × (k ≤ n) × (n < k + suc left)
    go true h f rest = let e : k ≡ n = cc in ((same_exactly text (word_at words k)).0 h ∙ ap (λ (j : ℕ). word_at words j) e, omega arith, omega arith)
    go false h f rest = let p = rest f in (p.0, omega arith, omega arith)

-- A text is read as a service only where it is the service's word; so of a kind.
pub service_only : (text : List ℕ) (n : ℕ) → service_of text ≡ Some n → (text ≡ service_word n) × (1 ≤ n) × (n ≤ most_service)
unfolding service_of service_word
service_only text n e = let p = found services text most_service 1 n e in (p.0, p.1, omega arith)

pub kind_only : (text : List ℕ) (n : ℕ) → kind_of text ≡ Some n → (text ≡ kind_word n) × (1 ≤ n) × (n ≤ most_kind)
unfolding kind_of kind_word
kind_only text n e = let p = found kinds text most_kind 1 n e in (p.0, p.1, omega arith)
