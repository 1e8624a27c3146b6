use Rattle.std.proofs.Common.{◌==◌, not, length, sym}
use Rattle.slicc_ast.specs.Prelude.{name_list, provided, ◌▸◌, comma, repeated}
use Rattle.slicc_ast.specs.Names.{sign as sign_of}
use Rattle.slicc_ast.specs.declared.tree.token.Sign.TheVariants.{CloseBrace}
use Rattle.slicc_ast.specs.Parts.{name, sign}
use Rattle.slicc_reading.specs.Prelude.{no_memory}
use Rattle.slicc_reading.proofs.GoingOn.{of_read, of_value, on_fault}
use Rattle.slicc_reading.proofs.Parts.{allow, as_part, at_first}
use Rattle.slicc_decl.proofs.Lists.{each_name, further_name, some_names}
use Rattle.slicc_reading.proofs.Repeats.{first_read, one_further, fault_in_further, all_separated, some_separated}
use Rattle.slicc_decl.proofs.signatures.closed_names.Goals as goal

pub returns-in-Err-push-clause-read : goal.returns-in-Err-push-clause-read
returns-in-Err-push-clause-read c = no_memory

pub returns-in-Err-clause-read : goal.returns-in-Err-clause-read
returns-in-Err-clause-read c = at_first (repeated (comma ▸ name) ▸ sign CloseBrace) c.in-Err.ensures.read

pub commas-init : goal.commas-init
commas-init c =
    first_read further_name (comma ▸ name) c.new-items.result c.in-Ok.first c.push.new.self c.new-items.ensures c.in-Ok-push.ensures.ok (as_part c.in-Ok.ensures.read)

pub commas-preserved : goal.commas-preserved
commas-preserved c =
    let a = c.in-Ok-added.ensures.added in
    one_further c.commas.items a.0 c.added.new.items a.1 (sym c.commas-test.ensures) (of_read _ _ c.name_after.result c.name_after.ensures.read a.2) c.commas.invariant

pub returns-clause-read : goal.returns-clause-read
returns-clause-read c =
    c.ended.ensures.read (name ▸ repeated (comma ▸ name)) name_list c.args.tokens.now (all_separated name_list each_name (sym c.commas-test.ensures) c.commas.invariant)

pub returns-clause-some : goal.returns-clause-some
returns-clause-some c =
    some_names c.args.room (name ▸ repeated (comma ▸ name) ▸ sign CloseBrace) c.args.tokens.now (λ items others. name_list items (sign_of CloseBrace others)) c.ended.result
    (c.ended.ensures.read (name ▸ repeated (comma ▸ name)) (λ items others. provided (not (length items == 0)) (name_list items others)) c.args.tokens.now
    (allow (some_separated c.commas.invariant) (all_separated name_list each_name (sym c.commas-test.ensures) c.commas.invariant)))

pub commas-smaller : goal.commas-smaller
commas-smaller c =
    of_value _ c.name_after.result c.name_after.ensures.shorter c.in-Ok-added.ensures.added.2

pub returns-in-Err-added-clause-read : goal.returns-in-Err-added-clause-read
returns-in-Err-added-clause-read c =
    at_first (sign CloseBrace) (fault_in_further (sym c.commas-test.ensures) (c.in-Err-added.ensures.refused _ _ _ (on_fault _ _ c.name_after.result c.name_after.ensures.read)) c.commas.invariant)
