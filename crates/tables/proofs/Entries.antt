-- When an entry is sound, and what an entry says that was read from a line. Assumes nothing.
use mathlib.Core.Path.{◌≡◌, refl, ap, sym, ◌∙◌}
use mathlib.Core.Bool.{Bool, true, false, cond, ◌&&◌}
use mathlib.Core.List.{List, [], ◌∷◌, ◌++◌}
use Prim.Native.Nat.{ℕ, ◌≤◌}
use native.Mathlib.Omega.{arith}
use lib.Dec.{ltb, leb}
use lib.ListN.{length, get_or, take, length-take, length-append}
use lib.Seq.{take_all}
use borrow.Author.Tests.{lt-ltb, leb-true, eq-eqb, ne_eqb}
use Rattle.le.proofs.Tests.{joined, each}
use Rattle.row.specs.Meaning.{most_columns}
use Rattle.row.specs.Inner.{fair_by}
use Rattle.row.proofs.Texts.{and_false}
use Rattle.row.proofs.Judging.{Lawful}
use Rattle.share.specs.Sharing.{line_is_sound, most_number, most_status, most_energy, most_assessment}
use Rattle.ceiling.specs.declared.Limit.{Limit}
use Rattle.ceiling.specs.Ceiling.{limit_is_sound, limited_is_sound}
use Rattle.pay.specs.Member.{member_is_sound}
use Rattle.grid.specs.declared.Grid.{Grid}
use Rattle.grid.specs.Meaning.{cell_told}
use Rattle.grid.proofs.Ends.{cells_here, cells_end}
use Rattle.register.specs.declared.Entry.{Entry}
use Rattle.register.specs.Register.{blank_entry, entry_line, entry_limited, entry_is_sound}
use Rattle.tables.specs.Register.{register_row, limit_told, as_entry, register_entries}
use Rattle.tables.specs.Meaning.{seven_of, fair_entry, entry_cells, entry_in}

-- Limits

-- the limits of what an entry says
abbrev pub bounds : Entry → List Bool
bounds e =
    leb e.member.number 64 ∷ leb 1 e.member.kind ∷ leb e.member.kind 8 ∷ leb 1 e.member.rated.0 ∷ leb e.member.rated.0 4000000
    ∷ leb e.status most_status ∷ leb e.energy.0 most_energy ∷ leb e.assessment.0 most_assessment ∷ limit_is_sound e.limit ∷ []

abbrev pub within : Entry → Bool
within e = joined (leb 1 e.member.number) (bounds e)

once : (l n x b s e a m : Bool) → (l && n && x && (b && n && s && e && true && a && m)) ≡ (l && n && x && s && e && a && m && b)
once false n x b s e a m = refl
once true false x b s e a m = refl
once true true false b s e a m = refl
once true true true false s e a m = sym (and_false (s && e && a && m))
once true true true true false e a m = refl
once true true true true true false a m = refl
once true true true true true true false m = refl
once true true true true true true true false = refl
once true true true true true true true true = refl

-- an entry is sound after a number where it is within its limits and its own number is above that
pub sound_is : (b : ℕ) (e : Entry) → entry_is_sound b e ≡ (within e && ltb b e.member.number)
unfolding entry_is_sound member_is_sound line_is_sound limited_is_sound entry_line entry_limited
sound_is b e = go (leb 1 e.member.number) (leb e.member.number 64) (leb 1 e.member.kind) (leb e.member.kind 8) (leb 1 e.member.rated.0) (leb e.member.rated.0 4000000)
    (ltb b e.member.number) (leb e.status most_status) (leb e.energy.0 most_energy) (leb e.assessment.0 most_assessment) (limit_is_sound e.limit)
  where
    go : (l n k c p q b s e a m : Bool) → (l && n && k && c && p && q && (b && n && s && e && true && a && m)) ≡ (l && n && k && c && p && q && s && e && a && m && b)
    go false n k c p q b s e a m = refl
    go true false k c p q b s e a m = refl
    go true true k c p q b s e a m = once true true (k && c && p && q) b s e a m

pub lawful : Lawful register_entries
lawful =
    record {
      within = λ e. within e;
      splits = sound_is;
      few = λ e h. leb-true e.member.number most_number (each (leb 1 e.member.number) (bounds e) h).1.0;
      none = refl;
    }

fair_by_lem : (t : Bool) (e : Entry) → within e ≡ t → fair_entry e ≡ cond t e blank_entry
unfolding fair_by
fair_by_lem true e h =
    let p = each (leb 1 e.member.number) (bounds e) h in
    rw (sound_is 0 e, h, lt-ltb 0 e.member.number (omega (arith, leb-true 1 e.member.number p.0)))
fair_by_lem false e h = rw (sound_is 0 e, h)

-- Seven cells

-- the limits that the casts of an entry's numbers need
abbrev pub Casts : List ℕ → Type 0
Casts d = (get_or d 0 0 ≤ 64) × (get_or d 1 0 ≤ 8) × (get_or d 2 0 ≤ 4000000) × (get_or d 3 0 ≤ most_status) × (get_or d 4 0 ≤ most_energy) × (get_or d 5 0 ≤ most_assessment)

-- the entry by what the cells that ended say, and its limit
abbrev pub entry_by : List ℕ → Limit → Entry
entry_by d limit =
    record {
      member = record { number = get_or d 0 0; kind = get_or d 1 0; rated = record { 0 = get_or d 2 0 } };
      status = get_or d 3 0;
      energy = record { 0 = get_or d 4 0 };
      assessment = record { 0 = get_or d 5 0 };
      limit = limit;
    }

entry_by_lem : (d : List ℕ) (v : ℕ) → most_columns ≤ length d → entry_by d (limit_told v) ≡ as_entry (seven_of d v)
unfolding as_entry
entry_by_lem [] v h = absurd (omega arith)
entry_by_lem (n ∷ []) v h = absurd (omega arith)
entry_by_lem (n ∷ k ∷ []) v h = absurd (omega arith)
entry_by_lem (n ∷ k ∷ p ∷ []) v h = absurd (omega arith)
entry_by_lem (n ∷ k ∷ p ∷ s ∷ []) v h = absurd (omega arith)
entry_by_lem (n ∷ k ∷ p ∷ s ∷ e ∷ []) v h = absurd (omega arith)
entry_by_lem (n ∷ k ∷ p ∷ s ∷ e ∷ a ∷ d) v h = refl

pub seven_limits : (d : List ℕ) (limit : Limit) → within (entry_by d limit) ≡ true → Casts d
seven_limits d limit h =
    let p = each (leb 1 (get_or d 0 0)) (bounds (entry_by d limit)) h in
    let q = p.1 in (
      leb-true _ _ q.0,
      leb-true _ _ q.1.1.0,
      leb-true _ _ q.1.1.1.1.0,
      leb-true _ _ q.1.1.1.1.1.0,
      leb-true _ _ q.1.1.1.1.1.1.0,
      leb-true _ _ q.1.1.1.1.1.1.1.0,
    )

module _ (d : List ℕ) (v : ℕ) (limit : Limit) (long : most_columns ≤ length d) (is : limit ≡ limit_told v) where
  seven_fair : fair_entry (entry_by d limit) ≡ fair_entry (as_entry (seven_of d v))
  seven_fair = ap (λ (l : Limit). fair_entry (entry_by d l)) is ∙ ap (λ (e : Entry). fair_entry e) (entry_by_lem d v long)

  pub seven_sound : within (entry_by d limit) ≡ true → entry_by d limit ≡ fair_entry (as_entry (seven_of d v))
  seven_sound h = sym (fair_by_lem true (entry_by d limit) h) ∙ seven_fair

  pub seven_bad : within (entry_by d limit) ≡ false → blank_entry ≡ fair_entry (as_entry (seven_of d v))
  seven_bad h = sym (fair_by_lem false (entry_by d limit) h) ∙ seven_fair

-- A line that ends

module _ (grid : Grid) (ended : List ℕ) (room : most_columns ≤ length ended) where
  pub entry_whole : (v : ℕ) → grid.at ≡ 6 → v ≡ cell_told grid.cell → fair_entry (as_entry (seven_of ended v)) ≡ entry_in grid ended
  unfolding register_row
  entry_whole v at e =
      let cells = cells_here grid ended room in
      let long : length cells ≡ 7 = omega (arith, length-append (take grid.at ended) (cell_told grid.cell ∷ []), length-take grid.at ended) in
      let here : seven_of ended v ≡ cells = λ i. take (sym at i) ended ++ e i ∷ [] in
      let row : entry_cells grid ended ≡ cells = cells_end grid ended room register_row ∙ ap register_row (take_all most_columns cells (omega arith)) ∙ rw (eq-eqb (length cells) 7 long) in
      ap (λ (ns : List ℕ). fair_entry (as_entry ns)) (here ∙ sym row)

  pub entry_none : (grid.at ≡ 6 → ⊥) → blank_entry ≡ entry_in grid ended
  unfolding register_row as_entry limit_told
  entry_none ne =
      let n = length (take most_columns (cells_here grid ended room)) in
      let apart : n ≡ 7 → ⊥ = λ e. ne
      (omega (arith, length-append (take grid.at ended) (cell_told grid.cell ∷ []), length-take grid.at ended, length-take most_columns (cells_here grid ended room))) in
      let row : entry_cells grid ended ≡ [] = cells_end grid ended room register_row ∙ rw (ne_eqb n 7 apart) in
      sym (ap (λ (ns : List ℕ). fair_entry (as_entry ns)) row ∙ fair_by_lem false blank_entry refl)
