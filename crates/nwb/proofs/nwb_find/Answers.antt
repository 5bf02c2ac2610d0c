use Rattle.lookup.proofs.Places.{in_word, first_fits, second_fits}
use Rattle.nwb.proofs.nwb_find.Goals as goal

pub place_of-requires : goal.place_of-requires
place_of-requires c = in_word _ ((first_fits _ _ _ _ c.which.result c.which.ensures _ c.in-InFirst.is).0)

pub place_of-requires-in-InSecond : goal.place_of-requires-in-InSecond
place_of-requires-in-InSecond c = in_word _ ((second_fits _ _ _ _ c.which.result c.which.ensures _ c.in-InSecond.is).0)
