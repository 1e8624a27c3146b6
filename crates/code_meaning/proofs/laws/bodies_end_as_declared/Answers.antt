use Rattle.std.proofs.Common.{refl}
use Rattle.action_code.proofs.EachPlaces.{each_place_from}
use Rattle.code_meaning.proofs.Bodies.{run_ends}
use Rattle.code_meaning.proofs.laws.bodies_end_as_declared.Goals as goal

pub returns : goal.returns
returns c p n d arguments v fits found fit declared lawful =
    let g = run_ends p (each_place_from p fits) v.machine n d found declared arguments fit in g.gives v lawful refl
