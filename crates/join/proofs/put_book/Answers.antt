use mathlib.Core.Path.{◌≡◌, sym, ◌∙◌}
use native.Mathlib.Omega.{arith}
use Rattle.join.specs.Joining.{keys_of_both, pair_version, joined_version}
use Rattle.join.proofs.Books.{long, keys_rise}
use Rattle.join.proofs.Steps.{joined_length}
use Rattle.join.proofs.Taken.{run_over, ran_turns}
use Rattle.join.proofs.Writes.{stores_book}
use Rattle.join.proofs.put_book.Goals as goal

pub version_at-requires : goal.version_at-requires
version_at-requires c = long _ c.requires.accepted

pub version_at-requires-2 : goal.version_at-requires-2
version_at-requires-2 c = long _ c.requires.accepted_2

pub overflow_cast-count : goal.overflow_cast-count
overflow_cast-count c =
    let turns : c.put_records-turns.result ≡ keys_of_both c.args.first.now c.args.second.now =
    (run_over _ _ _ _ _ c.requires.accepted c.requires.accepted_2 c.put_records-turns.ensures).0 in
    omega (arith, turns, c.requires.second_bound)

pub header_at-requires : goal.header_at-requires
header_at-requires c = long _ c.requires.accepted

pub returns : goal.returns
returns c =
    let put = run_over _ _ _ _ _ c.requires.accepted c.requires.accepted_2 c.put_records-turns.ensures in
    let v : c.pair_version-version.result ≡ joined_version c.args.first.now c.args.second.now =
    c.pair_version-version.ensures
    ∙ (λ i. pair_version (c.version_at.ensures i) (c.version_at-2.ensures i) (put.0 i)) in (
      put.0 ∙ sym (ran_turns _ _ _ (keys_rise _ c.requires.accepted) (keys_rise _ c.requires.accepted_2)),
      stores_book _ _ _ _ _ _ _ (put.0 ∙ sym (joined_length _ _)) (omega (arith, c.requires.second_in_bounds, joined_length c.args.first.now c.args.second.now)) put.1
          (rw (c.header_at.ensures, v) at c.put_header.ensures),
    )
