use Rattle.body_meaning.specs.Prelude.{reading}
use Rattle.emit_expressions.proofs.SpotForms.{group_spot, postfix_spot, same_spot}
use Rattle.emit_expressions.proofs.spots.+spot_of.Goals as goal

pub returns-in-Group : goal.returns-in-Group
returns-in-Group t c =
    same_spot (reading c.args.s) c.args.n.now c.args.names.now _ _ c.spot_of.result
    (group_spot (reading c.args.s) c.args.n.now c.args.names.now c.args.e.now c.in-Group.inner c.get.result.now c.in-Group.field-1 c.in-Group.is c.get.ensures)
    c.spot_of.ensures

pub returns-in-Postfix : goal.returns-in-Postfix
returns-in-Postfix t c =
    same_spot (reading c.args.s) c.args.n.now c.args.names.now _ _ c.spot_behind.result
    (postfix_spot (reading c.args.s) c.args.n.now c.args.names.now c.args.e.now c.in-Postfix.inner c.get-in-Postfix.result.now
    c.in-Postfix.suffixes c.deref-in-Postfix.result.now c.in-Postfix.span c.in-Postfix.is c.get-in-Postfix.ensures c.deref-in-Postfix.ensures)
    c.spot_behind.ensures
