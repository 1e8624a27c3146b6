use Rattle.std.proofs.Common.{sym}
use Rattle.slicc_ast.specs.Prelude.{decl_list, declaration, of}
use Rattle.slicc_ast.specs.declared.tree.token.Sign.TheVariants.{CloseBrace}
use Rattle.slicc_ast.specs.Parts.{sign}
use Rattle.slicc_reading.specs.Prelude.{no_memory}
use Rattle.slicc_reading.proofs.Parts.{◌then◌, as_part, at_first, behind}
use Rattle.slicc_parse.proofs.Lists.{decl_parts, each_decl}
use Rattle.slicc_parse.proofs.Starts.{behind_decl}
use Rattle.slicc_reading.proofs.Repeats.{none_yet, one_more, fault_in_one, all_read}
use Rattle.slicc_parse.proofs.declarations.closed_declarations.Goals as goal

pub members-init : goal.members-init
members-init c = none_yet decl_parts c.args.room (of declaration) c.args.tokens.now c.new-items.result.items c.new-items.ensures.items

pub returns-in-Err-push : goal.returns-in-Err-push
returns-in-Err-push c = no_memory

pub members-preserved : goal.members-preserved
members-preserved c =
    one_more c.members.items.items c.in-Ok.next c.push.new.self.items c.in-Ok-push.ensures.items (sym c.members-test.ensures) (as_part c.in-Ok.ensures) c.members.invariant

pub returns-in-Err : goal.returns-in-Err
returns-in-Err c = at_first (sign CloseBrace) (fault_in_one (sym c.members-test.ensures) c.in-Err.ensures c.members.invariant)

pub returns-in-Ok-sign : goal.returns-in-Ok-sign
returns-in-Ok-sign c =
    all_read (decl_list c.members.items.items) (each_decl c.members.items.items) (sym c.members-test.ensures) c.members.invariant then c.in-Ok-sign.ensures.read

pub returns : goal.returns
returns c =
    behind (all_read (decl_list c.members.items.items) (each_decl c.members.items.items) (sym c.members-test.ensures) c.members.invariant) c.in-Err-sign.ensures.read

pub members-smaller : goal.members-smaller
members-smaller c = behind_decl c.in-Ok.next c.in-Ok.ensures
