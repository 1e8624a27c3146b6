-- The environment of a body with the names that are bound at a place of it.
use Rattle.std.specs.Prelude.{◌≡◌, ◌≤◌, List, length, map, reverse, take}
use Rattle.slicc_plan.specs.Environment as plan
use Rattle.body_types.specs.declared.environment.Bound.{Bound}
use Rattle.body_types.specs.declared.environment.Environment.{Environment}
use Rattle.body_types.specs.Prelude.{bound_of, sort_of, meaning_of}

-- with these names, the outermost first
abbrev pub at : Environment → List Bound → plan.Environment
at e bound = record {
  trees = e.scopes.now.trees.now;
  machine = e.lines.machine.now;
  body = sort_of e.sort;
  answer = meaning_of e.answer;
  bound = reverse (map bound_of bound);
}

-- names came in behind these, and none went
pub record IsGrown (before after : List Bound) : Type 0 where
  pub long : length before ≤ length after
  pub same : take (length before) after ≡ before
