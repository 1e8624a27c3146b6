use Rattle.std.proofs.Common.{refl, sym, ◌∙◌, drop, length, ◌-◌, subst, ap}
use Rattle.slicc_ast.specs.Prelude.{expr, expression, of}
use Rattle.slicc_reading.specs.Prelude.{IsFaultFrom, placed, IsRead, Refuses}
use Rattle.slicc_reading.proofs.Border.{read_from, fault_from}
use Rattle.slicc_expr.proofs.reading.expr.Goals as goal

pub returns-in-Ok : goal.returns-in-Ok
returns-in-Ok c =
    read_from expression c.args.depth c.args.at c.place.result c.args.tokens.now c.split_at.result.1.now c.in-Ok.left.now (expr c.in-Ok.tree)
    c.requires.place (c.split_at.ensures.back ∙ ap (λ ts. drop c.args.at ts) c.as_slice.ensures) (c.place.ensures ∙ ap (λ n. n - length c.in-Ok.left.now) c.len-count.ensures)
    (subst (λ room. IsRead room (of expression) (expr c.in-Ok.tree) c.split_at.result.1.now c.split_at.result.1.now c.in-Ok.left.now) c.room_within.ensures c.in-Ok.ensures.read)

pub returns-in-Err : goal.returns-in-Err
returns-in-Err c =
    subst (λ f. IsFaultFrom expression c.args.depth c.args.tokens.now c.args.at f) (sym (c.placed.ensures ∙ ap (λ n. placed n c.in-Err.fault) c.len-count.ensures))
    (fault_from expression c.args.depth c.args.at c.args.tokens.now c.split_at.result.1.now c.in-Err.fault refl
    c.requires.place (c.split_at.ensures.back ∙ ap (λ ts. drop c.args.at ts) c.as_slice.ensures) c.requires.ended
    (subst (λ room. Refuses room (of expression) c.split_at.result.1.now c.in-Err.fault) c.room_within.ensures c.in-Err.ensures.read))
