use Rattle.std.proofs.Common.{◌≡◌, ap, find, flat_map, ◌∙◌}
use Rattle.slicc_plan.specs.Prelude.{declared_in, machine_declarations, structure_in}
use Rattle.declared_types.specs.declared.lines.LineSort.TheVariants.{Directory, Entry, Tbe}
use Rattle.declared_types.specs.Prelude.{declarations_of, is_of_sort}
use Rattle.body_rules.proofs.machine_in.lines_of.Goals as goal

pub returns-clause-lines : goal.returns-clause-lines
returns-clause-lines c =
    let declared : declarations_of c.declarations-declarations.result.now ≡ machine_declarations c.args.machine.now =
    c.declarations-declarations.ensures ∙ ap (declared_in c.args.scopes.now.trees.now) c.requires in
    record {
      entry = c.first_line.ensures ∙ ap (λ ds. find (is_of_sort Entry) (flat_map structure_in ds)) declared;
      directory = c.first_line-2.ensures ∙ ap (λ ds. find (is_of_sort Directory) (flat_map structure_in ds)) declared;
      tbe = c.first_line-3.ensures ∙ ap (λ ds. find (is_of_sort Tbe) (flat_map structure_in ds)) declared;
    }
