use mathlib.Core.Path.{refl, ap, ◌∙◌}
use mathlib.Core.Bool.{Bool}
use mathlib.Core.List.{List, map}
use native.Mathlib.Omega.{arith}
use Rattle.row.proofs.Judging.{with_refused, with_bad, with_full, with_sound}
use Rattle.grid.specs.declared.Grid.{Grid}
use Prim.Native.Nat.{ℕ, ◌+◌}
use lib.ListN.{set}
use Rattle.row.specs.Inner.{judged_on}
use Rattle.register.specs.declared.Entry.{Entry}
use Rattle.tables.specs.Register.{as_entry, register_entries}
use Rattle.tables.specs.Meaning.{entry_cells, roll_so_far}
use Rattle.tables.proofs.Entries.{lawful}
use Rattle.tables.proofs.roll.Roll.with.Goals as goal

-- the entry as its line says it
abbrev said : Grid → List ℕ → Entry
said grid ended = as_entry (entry_cells grid ended)

pub returns-then-self : goal.returns-then-self
returns-then-self c =
    let a = c.args in
    record { by_index = λ rows. with_refused register_entries lawful (roll_so_far a.self) (said a.grid a.ended) c.if-self.true (map as_entry rows); blank_value = refl }

pub returns-then-e-self : goal.returns-then-e-self
returns-then-e-self c =
    let a = c.args in
    let e = c.entry_in-e in record {
      by_index = (λ rows. with_bad register_entries lawful (roll_so_far a.self) (said a.grid a.ended) c.if-self.false e.result e.ensures
          (roll_so_far c.refuse.result) (c.refuse.ensures.0, c.refuse.ensures.1) c.if-e-self.true (map as_entry rows));
      blank_value = c.refuse.ensures.2;
    }

pub returns-then-at-ge-MOST_ENTRIES : goal.returns-then-at-ge-MOST_ENTRIES
returns-then-at-ge-MOST_ENTRIES c =
    let a = c.args in record {
      by_index = (λ rows. with_full register_entries lawful (roll_so_far a.self) (said a.grid a.ended) c.if-self.false
          (roll_so_far c.refuse-then-at-ge-MOST_ENTRIES.result) (c.refuse-then-at-ge-MOST_ENTRIES.ensures.0, c.refuse-then-at-ge-MOST_ENTRIES.ensures.1) c.if-at-ge-MOST_ENTRIES.true
          (map as_entry rows));
      blank_value = c.refuse-then-at-ge-MOST_ENTRIES.ensures.2;
    }

pub returns : goal.returns
returns c =
    let a = c.args in
    let e = c.entry_in-e in record {
      by_index = (λ rows. ap (λ (b : Bool). judged_on register_entries
          (record { refused = b; before = e.result.member.number; count = a.self.count + 1; all = set a.self.entries a.self.count e.result }) (map as_entry rows)) c.if-self.false
          ∙ with_sound register_entries lawful (roll_so_far a.self) (said a.grid a.ended) c.if-self.false e.result e.ensures
          c.if-e-self.false (omega (arith, c.if-at-ge-MOST_ENTRIES.false)) (map as_entry rows));
      blank_value = refl;
    }
