use mathlib.Core.Path.{◌∙◌, ap₂}
use native.Mathlib.Omega.{arith}
use Rattle.call.specs.Key.{key_of}
use Rattle.book.specs.Book.{record_at}
use Rattle.lookup.proofs.Places.{fits}
use Rattle.lookup.proofs.key_at.Goals as goal

pub place_of-at-requires : goal.place_of-at-requires
place_of-at-requires c = omega (arith, fits _ c.args.i c.requires.accepted c.requires.i_bound)

pub participant_at-participant-requires : goal.participant_at-participant-requires
participant_at-participant-requires c = omega (arith, fits _ c.args.i c.requires.accepted c.requires.i_bound, c.place_of-at.ensures)

pub call_number_at-number-requires : goal.call_number_at-number-requires
call_number_at-number-requires c = omega (arith, fits _ c.args.i c.requires.accepted c.requires.i_bound, c.place_of-at.ensures)

pub returns : goal.returns
unfolding record_at
returns c =
    c.key_of.ensures
    ∙ rw (← c.place_of-at.ensures) (ap₂ key_of c.participant_at-participant.ensures c.call_number_at-number.ensures)
