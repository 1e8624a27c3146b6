use Rattle.std.proofs.Common.{◌∙◌, ap, sym}
use Rattle.slicc_ast.proofs.Boxes.{Cast_is, Group_is}
use Rattle.body_meaning.specs.Prelude.{reading}
use Rattle.body_code.specs.Statements.{event_of}
use Rattle.emit_statements.proofs.triggers.+event_of.Goals as goal

pub returns-in-Group : goal.returns-in-Group
returns-in-Group t c =
    c.event_of.ensures ∙ ap (event_of (reading c.args.s)) c.get.ensures ∙ sym (ap (event_of (reading c.args.s)) (c.in-Group.is ∙ Group_is c.in-Group.inner c.in-Group.field-1))

pub returns-in-Cast : goal.returns-in-Cast
returns-in-Cast t c =
    c.event_of-in-Cast.ensures ∙ ap (event_of (reading c.args.s)) c.get-in-Cast.ensures
    ∙ sym (ap (event_of (reading c.args.s)) (c.in-Cast.is ∙ Cast_is c.in-Cast.target c.in-Cast.mode c.in-Cast.inner c.in-Cast.span))
