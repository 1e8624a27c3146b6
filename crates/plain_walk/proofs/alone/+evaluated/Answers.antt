use Rattle.std.proofs.Common.{◌≡◌, ◌∙◌, List, sym, ap, subst}
use Rattle.slicc_ast.specs.declared.tree.expression.Expr.{Expr}
use Rattle.slicc_ast.specs.declared.tree.expression.Suffix.{Suffix}
use Rattle.acts.specs.Prelude.{Acting, DoesAs}
use Rattle.body_meaning.specs.declared.frame.Frame.{Frame}
use Rattle.body_meaning.specs.Prelude.{calls_within, Calls, Ended, ended, Reading, reading, behind_alone, evaluated}
use Rattle.plain_walk.proofs.Forms.{evaluated_of_Group, evaluated_of_Postfix}
use Rattle.plain_walk.proofs.alone.+evaluated.Goals as goal

pub returns-in-Group : goal.returns-in-Group
returns-in-Group g t c =
    let s : Reading = reading c.args.s in
    let calls : Calls = calls_within s c.args.depth in
    let frame : Frame = c.args.frame.now in
    let is : evaluated s calls c.get.result.now frame ≡ evaluated s calls c.args.e.now frame =
    ap (λ (e : Expr). evaluated s calls e frame) c.get.ensures
    ∙ sym (ap (λ (e : Expr). evaluated s calls e frame) c.in-Group.is ∙ evaluated_of_Group s calls frame c.in-Group.inner c.in-Group.field-1) in
    subst (λ (p : Acting Ended). DoesAs (ended c.evaluated.new.frame) p c.evaluated.result (g.T.Local.view c.args.local.now) (g.T.Local.view c.evaluated.new.local)) is c.evaluated.ensures

pub returns-in-Postfix : goal.returns-in-Postfix
returns-in-Postfix g t c =
    let s : Reading = reading c.args.s in
    let calls : Calls = calls_within s c.args.depth in
    let frame : Frame = c.args.frame.now in
    let inner = c.in-Postfix.inner in
    let is : behind_alone s calls c.get-in-Postfix.result.now c.deref.result.now frame ≡ evaluated s calls c.args.e.now frame =
    ap (λ (e : Expr). behind_alone s calls e c.deref.result.now frame) c.get-in-Postfix.ensures
    ∙ ap (λ (xs : List Suffix). behind_alone s calls inner xs frame) c.deref.ensures
    ∙ sym (ap (λ (e : Expr). evaluated s calls e frame) c.in-Postfix.is ∙ evaluated_of_Postfix s calls frame inner c.in-Postfix.suffixes c.in-Postfix.span) in
    subst (λ (p : Acting Ended). DoesAs (ended c.behind_alone.new.frame) p c.behind_alone.result (g.T.Local.view c.args.local.now) (g.T.Local.view c.behind_alone.new.local)) is c.behind_alone.ensures
