use Rattle.std.proofs.Common.{ap, sym}
use Rattle.slicc_ast.specs.Prelude.{formal_list, node, ◌▸◌, comma, of, repeated}
use Rattle.slicc_ast.specs.Form.Form.{formal}
use Rattle.slicc_reading.specs.Prelude.{no_memory}
use Rattle.slicc_reading.proofs.GoingOn.{of_read, of_value, on_fault}
use Rattle.slicc_reading.proofs.Parts.{as_node, as_part, as_tree, at_first}
use Rattle.slicc_decl.proofs.Lists.{each_formal, formals_onto, formals_onto_none, further_formal}
use Rattle.slicc_reading.proofs.Repeats.{first_read, one_further, fault_in_further, all_separated}
use Rattle.slicc_decl.proofs.signatures.several_formals.Goals as goal

pub returns-in-Err-push : goal.returns-in-Err-push
returns-in-Err-push c = no_memory

pub returns-in-Err : goal.returns-in-Err
returns-in-Err c = at_first (repeated (comma ▸ of formal)) c.in-Err.ensures.read

pub commas-init : goal.commas-init
commas-init c =
    first_read further_formal (comma ▸ of formal) c.new-items.result c.in-Ok.first c.push.new.self c.new-items.ensures c.in-Ok-push.ensures.ok (as_part c.in-Ok.ensures.read)

pub commas-preserved : goal.commas-preserved
commas-preserved c =
    let a = c.in-Ok-added.ensures.added in
    one_further c.commas.items a.0 c.added.new.items a.1 (sym c.commas-test.ensures) (of_read _ _ c.next_formal.result c.next_formal.ensures.read a.2) c.commas.invariant

pub returns : goal.returns
returns c =
    as_tree (node c.span-span.result (formal_list c.commas.items)) (ap (λ p. node c.span-span.result p) (sym (formals_onto_none c.commas.items)))
    (as_node c.span-span.result c.span-span.ensures (all_separated formals_onto each_formal (sym c.commas-test.ensures) c.commas.invariant))

pub commas-smaller : goal.commas-smaller
commas-smaller c =
    of_value _ c.next_formal.result c.next_formal.ensures.shorter c.in-Ok-added.ensures.added.2

pub returns-in-Err-added : goal.returns-in-Err-added
returns-in-Err-added c =
    fault_in_further (sym c.commas-test.ensures) (c.in-Err-added.ensures.refused _ _ _ (on_fault _ _ c.next_formal.result c.next_formal.ensures.read)) c.commas.invariant
