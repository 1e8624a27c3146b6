-- What names stand for at a place of a body, as the definitions of a protocol's rules see it.
use Rattle.std.specs.Prelude.{◌≡◌, map, reverse}
use Rattle.slicc_plan.specs.Prelude.{within}
use Rattle.slicc_plan.specs.Environment as plan
use Rattle.declared_types.specs.Prelude.{scope_at}
use Rattle.body_types.specs.declared.environment.BodySort.{BodySort}
use Rattle.body_types.specs.declared.environment.BodySort.TheVariants.{Port, Action, Function}
use Rattle.body_types.specs.declared.environment.Bound.{Bound}
use Rattle.body_types.specs.declared.environment.Environment.{Environment}
use Rattle.body_types.specs.Lines.{AreLines}
use Rattle.body_types.specs.Views.{meaning_of}

abbrev pub sort_of : BodySort → plan.BodySort
sort_of Port = plan.of_port
sort_of Action = plan.of_action
sort_of Function = plan.of_function

abbrev pub bound_of : Bound → plan.Bound
bound_of b = record { name = b.name.now; meaning = meaning_of b.meaning; is_local = b.is_local }

abbrev pub environment_of : Environment → plan.Environment
environment_of e = record {
  trees = e.scopes.now.trees.now;
  machine = e.lines.machine.now;
  body = sort_of e.sort;
  answer = meaning_of e.answer;
  bound = reverse (map bound_of e.bound.now);
}

-- the scope is the machine's, and the structures are those of its lines
pub record IsEnvironment (e : Environment) : Type 0 where
  pub lines : AreLines e.lines
  pub scope : scope_at e.scopes.now.trees.now e.scope ≡ within e.lines.machine.now
