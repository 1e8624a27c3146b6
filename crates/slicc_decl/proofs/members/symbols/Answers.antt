use Rattle.std.proofs.Common.{sym}
use Rattle.slicc_ast.specs.Prelude.{symbol_list, repeated}
use Rattle.slicc_ast.specs.declared.tree.token.Sign.TheVariants.{CloseBrace}
use Rattle.slicc_ast.specs.Parts.{sign}
use Rattle.slicc_reading.specs.Prelude.{no_memory}
use Rattle.slicc_reading.proofs.Parts.{at_first}
use Rattle.slicc_decl.specs.Prelude.{symbol_parts, symbol_row}
use Rattle.slicc_decl.proofs.Lists.{each_symbol}
use Rattle.slicc_reading.proofs.Repeats.{none_yet, one_more, fault_in_one, all_read}
use Rattle.slicc_decl.proofs.members.symbols.Goals as goal

pub members-init : goal.members-init
members-init c =
    none_yet symbol_parts c.args.room symbol_row c.args.tokens.now c.new-items.result c.new-items.ensures

pub returns-in-Err-push : goal.returns-in-Err-push
returns-in-Err-push c = no_memory

pub members-preserved : goal.members-preserved
members-preserved c =
    one_more c.members.items (record { name = c.in-Ok.name; pairs = c.in-Ok.pairs }) c.push.new.self c.in-Ok-push.ensures.ok (sym c.members-test.ensures) c.in-Ok.ensures.read c.members.invariant

pub returns-in-Err : goal.returns-in-Err
returns-in-Err c = at_first (sign CloseBrace) (fault_in_one (sym c.members-test.ensures) c.in-Err.ensures.read c.members.invariant)

pub returns : goal.returns
returns c =
    c.ended.ensures.read (repeated symbol_row) symbol_list c.args.tokens.now
    (all_read (symbol_list c.members.items) (each_symbol c.members.items) (sym c.members-test.ensures) c.members.invariant)
