-- The header: its test, and its sixteen bytes both ways. Assumes nothing.
use mathlib.Core.Path.{◌≡◌, refl, sym, ◌∙◌, ap}
use mathlib.Core.Bool.{Bool, true, false, cond, ◌||◌, true≢false}
use mathlib.Core.Logic.{inl, inr}
use mathlib.Core.List.{List, [], ◌∷◌, ◌++◌}
use Prim.Native.Nat.{ℕ, ◌<◌, ◌≤◌}
use native.Mathlib.Omega.{arith}
use lib.Dec.{eqb, leb}
use lib.ListN.{get_or}
use borrow.Author.Tests.{leb-true, le-leb, eqb-true, eq-eqb}
use Rattle.le.specs.Le.{le_at, le_bytes, IsBytes}
use Rattle.le.proofs.Laws.{back, again, bytes_at, cat}
use Rattle.le.proofs.Tests.{each, all}
use Rattle.units.specs.Month.{months_per_year, most_minutes}
use Rattle.units.proofs.Laws.{minutes_most}
use Rattle.book.specs.declared.Header.{Header}
use Rattle.book.specs.Book.{first_version, second_version, most_records, most_keys, header_size, most_area, first_year, last_year}
use Rattle.book.specs.Book.{version_at, header_at, count_at, mark_bytes, date_bytes, count_bytes, head_bytes}
use Rattle.book.specs.Check.{is_marked, is_known, is_versioned, header_is_sound, is_headed, header_minutes}
use Rattle.book.specs.Sound.{Known, Heading}
use Rattle.book.specs.Refusals.{Marked, Versioned, Headed}

-- no month has more minutes than the longest
pub month_most : (h : Header) → header_minutes h ≤ most_minutes
unfolding header_minutes
month_most h = minutes_most h.year h.month

-- A version that is read

pub known_is : (v : ℕ) → is_known v ≡ true → Known v
unfolding is_known
known_is v e = go (eqb v first_version) refl (eqb v second_version) refl
  where
    go : (t : Bool) → eqb v first_version ≡ t → (u : Bool) → eqb v second_version ≡ u → Known v
    go true p u q = inl (eqb-true _ _ p)
    go false p true q = inr (eqb-true _ _ q)
    go false p false q = absurd (true≢false (sym (rw (p, q) at e)))

pub is_known_lem : (v : ℕ) → Known v → is_known v ≡ true
unfolding is_known
is_known_lem v (inl p) = rw (eq-eqb v first_version p) refl
is_known_lem v (inr p) = rw (eq-eqb v second_version p) (either (eqb v first_version))
  where
    either : (t : Bool) → (t || true) ≡ true
    either true = refl
    either false = refl

-- no book of it has more records than any book may have, and its number is one of two bytes
pub known_most : (v : ℕ) → Known v → most_records v ≤ most_keys
unfolding most_records
known_most v k = go (eqb v first_version)
  where
    go : (t : Bool) → cond t 512 2000 ≤ most_keys
    go true = omega arith
    go false = omega arith

pub first_known : Known first_version
first_known = inl refl

pub second_known : Known second_version
second_known = inr refl

-- up to 512 records are a book of the first version, a book of one among them
pub first_fits : (n : ℕ) → n ≤ 512 → n ≤ most_records first_version
unfolding most_records
first_fits n l = l

-- up to the most that any book has are one of the second
pub second_fits : (n : ℕ) → n ≤ most_keys → n ≤ most_records second_version
unfolding most_records
second_fits n l = l

pub first_some : 1 ≤ most_records first_version
first_some = first_fits 1 (omega arith)

known_short : (v : ℕ) → Known v → v < 65536
known_short v (inl e) = omega arith
known_short v (inr e) = omega arith

-- The tests, exactly

module _ (h : Header) where
  abbrev bounds : List Bool
  bounds = leb h.area most_area ∷ leb first_year h.year ∷ leb h.year last_year ∷ leb 1 h.month ∷ leb h.month months_per_year ∷ []

  pub sound_heading : header_is_sound h ≡ true → Heading h
  unfolding header_is_sound
  sound_heading e =
      let p = each (leb 1 h.area) bounds e in
      let q = p.1 in
      record {
        area = (leb-true _ _ p.0, leb-true _ _ q.0);
        year = (leb-true _ _ q.1.0, leb-true _ _ q.1.1.0);
        month = (leb-true _ _ q.1.1.1.0, leb-true _ _ q.1.1.1.1.0);
      }

  pub heading_sound : Heading h → header_is_sound h ≡ true
  unfolding header_is_sound
  heading_sound w =
      all (leb 1 h.area) bounds
      (le-leb _ _ w.area.0, (le-leb _ _ w.area.1, (le-leb _ _ w.year.0, (le-leb _ _ w.year.1, (le-leb _ _ w.month.0, (le-leb _ _ w.month.1, tt))))))

module _ (b : List ℕ) where
  pub marked_is : is_marked b ≡ true → Marked b
  unfolding is_marked
  marked_is e =
      let p = each (eqb (get_or b 0 0) 78) (eqb (get_or b 1 0) 87 ∷ eqb (get_or b 2 0) 66 ∷ []) e in
      record { letter_n = eqb-true _ _ p.0; letter_w = eqb-true _ _ p.1.0; letter_b = eqb-true _ _ p.1.1.0 }

  pub is_marked_lem : Marked b → is_marked b ≡ true
  unfolding is_marked
  is_marked_lem w =
      all (eqb (get_or b 0 0) 78) (eqb (get_or b 1 0) 87 ∷ eqb (get_or b 2 0) 66 ∷ [])
      (eq-eqb _ _ w.letter_n, (eq-eqb _ _ w.letter_w, (eq-eqb _ _ w.letter_b, tt)))

  pub versioned_is : is_versioned b ≡ true → Versioned b
  unfolding is_versioned
  versioned_is e = known_is (version_at b) e

  pub is_versioned_lem : Versioned b → is_versioned b ≡ true
  unfolding is_versioned
  is_versioned_lem e = is_known_lem (version_at b) e

  abbrev others : List Bool
  others = eqb (le_at b 9 1) 0 ∷ leb (count_at b) (most_records (version_at b)) ∷ eqb (le_at b 12 4) 0 ∷ []

  pub headed_is : is_headed b ≡ true → Headed b
  unfolding is_headed
  headed_is e =
      let p = each (header_is_sound (header_at b)) others e in
      record {
        heading = sound_heading (header_at b) p.0;
        zero = eqb-true _ _ p.1.0;
        few = leb-true _ _ p.1.1.0;
        zeros = eqb-true _ _ p.1.1.1.0;
      }

  pub is_headed_lem : Headed b → is_headed b ≡ true
  unfolding is_headed
  is_headed_lem w =
      all (header_is_sound (header_at b)) others
      (heading_sound (header_at b) w.heading, (eq-eqb _ _ w.zero, (le-leb _ _ w.few, (eq-eqb _ _ w.zeros, tt))))

-- What was written is read back

module _ (v : ℕ) (h : Header) (n : ℕ) (t : List ℕ) where
  pub header_back : Heading h → header_at (head_bytes v h n ++ t) ≡ h
  unfolding header_at head_bytes mark_bytes date_bytes count_bytes le_at le_bytes
  header_back w =
      λ i. record {
        area = back 1 h.area [] (omega (arith, w.area.1)) i;
        year = back 2 h.year [] (omega (arith, w.year.1)) i;
        month = back 1 h.month [] (omega (arith, w.month.1)) i;
      }

  pub count_back : Known v → n ≤ most_records v → count_at (head_bytes v h n ++ t) ≡ n
  unfolding count_at head_bytes mark_bytes date_bytes count_bytes le_at le_bytes
  count_back k l = back 2 n [] (omega (arith, known_most v k))

  pub mark_back : Marked (head_bytes v h n ++ t)
  unfolding head_bytes mark_bytes date_bytes count_bytes le_bytes
  mark_back = record { letter_n = refl; letter_w = refl; letter_b = refl }

  pub version_back : Known v → version_at (head_bytes v h n ++ t) ≡ v
  unfolding head_bytes mark_bytes date_bytes count_bytes le_at le_bytes
  version_back k = back 2 v [] (known_short v k)

  pub versioned_back : Known v → Versioned (head_bytes v h n ++ t)
  versioned_back k = rw (version_back k) k

  zero_back : le_at (head_bytes v h n ++ t) 9 1 ≡ 0
  unfolding head_bytes mark_bytes date_bytes count_bytes le_at le_bytes
  zero_back = refl

  zeros_back : le_at (head_bytes v h n ++ t) 12 4 ≡ 0
  unfolding head_bytes mark_bytes date_bytes count_bytes le_at le_bytes
  zeros_back = refl

  pub headed_back : Known v → Heading h → n ≤ most_records v → Headed (head_bytes v h n ++ t)
  headed_back k w l =
      record { heading = rw (header_back w) w; zero = zero_back; few = rw (version_back k, count_back k l) l; zeros = zeros_back }

-- What was read is written again

pub head_again : (b : List ℕ) → IsBytes b → Marked b → Headed b → head_bytes (version_at b) (header_at b) (count_at b) ≡ bytes_at b 0 header_size
unfolding head_bytes mark_bytes date_bytes count_bytes header_at count_at bytes_at
head_again b h m w =
    let field : (k o : ℕ) → le_bytes k (le_at b o k) ≡ bytes_at b o k = λ k o. again k b o h in
    let letters : ◌≡◌ {A = List ℕ} (78 ∷ 87 ∷ 66 ∷ []) (get_or b 0 0 ∷ get_or b 1 0 ∷ get_or b 2 0 ∷ []) =
    λ i. sym m.letter_n i ∷ sym m.letter_w i ∷ sym m.letter_b i ∷ [] in
    let zero : le_bytes 1 0 ≡ bytes_at b 9 1 = ap (le_bytes 1) (sym w.zero) ∙ field 1 9 in
    let zeros : le_bytes 4 0 ≡ bytes_at b 12 4 = ap (le_bytes 4) (sym w.zeros) ∙ field 4 12 in
    cat (cat (cat letters (field 1 3)) (cat (cat (cat (field 2 4) (field 2 6)) (field 1 8)) zero)) (cat (field 2 10) zeros)
