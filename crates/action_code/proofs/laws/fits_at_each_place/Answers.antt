use Rattle.action_code.proofs.EachPlaces.{each_place_from, each_place_to}
use Rattle.action_code.proofs.laws.fits_at_each_place.Goals as goal

pub returns : goal.returns
returns c p = (each_place_from p, each_place_to p)
