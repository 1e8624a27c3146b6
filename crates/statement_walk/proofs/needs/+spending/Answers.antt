use Rattle.std.proofs.Common.{◌≡◌, ◌++◌, ◌∙◌, sym, ap, flat_map}
use Rattle.body_meaning.specs.Prelude.{block_names, names_in, of_enqueue}
use Rattle.statement_walk.specs.Prelude.{else_if_names, passes, pick, spent}
use Rattle.statement_walk.proofs.Spends.{names_of_Enqueue, names_of_Peek, spent-append, spent-if}
use Rattle.statement_walk.proofs.needs.+spending.Goals as goal

pub spend_if-returns-in-Some : goal.spend_if-returns-in-Some
spend_if-returns-in-Some t c =
    let test = passes c.args.m.now c.args.counted in
    let some = pick c.args.counted in
    spent-if test some c.args.left c.spend_block-first.result c.spend_others-second.result c.spend_block.result c.args.i.now
    c.spend_block-first.ensures
    (c.spend_others-second.ensures ∙ ap (λ others. spent test c.spend_block-first.result (flat_map (else_if_names some) others)) c.deref.ensures)
    (c.spend_block.ensures ∙ ap (λ o. spent test c.spend_others-second.result (block_names some o)) (sym c.in-Some.is))

pub spend_if-returns-in-None : goal.spend_if-returns-in-None
spend_if-returns-in-None t c =
    let test = passes c.args.m.now c.args.counted in
    let some = pick c.args.counted in
    spent-if test some c.args.left c.spend_block-first.result c.spend_others-second.result c.spend_others-second.result c.args.i.now
    c.spend_block-first.ensures
    (c.spend_others-second.ensures ∙ ap (λ others. spent test c.spend_block-first.result (flat_map (else_if_names some) others)) c.deref.ensures)
    (ap (λ o. spent test c.spend_others-second.result (block_names some o)) (sym c.in-None.is))

pub spend_stmt-returns-in-Peek : goal.spend_stmt-returns-in-Peek
spend_stmt-returns-in-Peek t c =
    let some = pick c.args.counted in
    let same : names_in some c.args.s.now ≡ flat_map (names_in some) c.in-Peek.body.statements =
    ap (names_in some) c.in-Peek.is ∙ names_of_Peek some c.in-Peek.port c.in-Peek.message c.in-Peek.pairs c.in-Peek.body c.in-Peek.span in
    c.spend_block.ensures ∙ ap (spent (passes c.args.m.now c.args.counted) c.args.left) (sym same)

pub spend_stmt-returns-in-Enqueue : goal.spend_stmt-returns-in-Enqueue
spend_stmt-returns-in-Enqueue t c =
    let some = pick c.args.counted in
    let test = passes c.args.m.now c.args.counted in
    let port = of_enqueue some c.in-Enqueue.port.text in
    let inner = flat_map (names_in some) c.in-Enqueue.body.statements in
    let same : names_in some c.args.s.now ≡ port ++ inner =
    ap (names_in some) c.in-Enqueue.is ∙ names_of_Enqueue some c.in-Enqueue.port c.in-Enqueue.message c.in-Enqueue.latency c.in-Enqueue.body c.in-Enqueue.span in
    c.spend_block-in-Enqueue.ensures
    ∙ ap (λ o. spent test o inner) (c.spend_enqueue-after.ensures ∙ ap (λ text. spent test c.args.left (of_enqueue some text)) c.as_slice.ensures)
    ∙ sym (ap (spent test c.args.left) same ∙ spent-append test c.args.left port inner)
