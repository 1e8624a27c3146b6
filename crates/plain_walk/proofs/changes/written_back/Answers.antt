use Rattle.std.proofs.Common.{◌≡◌, ◌≤◌, ◌-◌, List, [], ◌∷◌, drop, get_or, length, sym, ap, subst, take, arith, ◌∙◌}
use Rattle.std.proofs.lemmas.List.{take_all}
use Rattle.std.proofs.lemmas.Result.{err_from_is_err_and}
use Rattle.slicc_ast.specs.declared.tree.expression.Expr.{Expr}
use Rattle.acts.specs.Prelude.{◌>>=◌, DoesAs, itself}
use Rattle.acts.proofs.Walk.{then_does, then_stops}
use Rattle.body_meaning.specs.Prelude.{calls_within, Calls, value, ended, place_of, Reading, reading, written_back}
use Rattle.plain_walk.specs.Prelude.{stored}
use Rattle.plain_walk.proofs.changes.written_back.Goals as goal

two_and_more : (xs : List Expr) (a b : Expr) → 2 ≤ length xs → a ≡ get_or xs 0 a → b ≡ get_or xs 1 b → xs ≡ a ∷ b ∷ take (length xs - 2) (drop 2 xs)
two_and_more [] a b some p q = absurd (omega arith)
two_and_more (x ∷ []) a b some p q = absurd (omega arith)
two_and_more (x ∷ y ∷ xs) a b some p q =
    let all : length xs ≤ length (x ∷ y ∷ xs) - 2 = omega arith in
    ap (λ (z : Expr). z ∷ y ∷ xs) (sym p) ∙ ap (λ (z : Expr). a ∷ z ∷ xs) (sym q)
    ∙ ap (λ (zs : List Expr). a ∷ b ∷ zs) (sym (take_all (length (x ∷ y ∷ xs) - 2) xs all))

pub returns-in_err-t : goal.returns-in_err-t
returns-in_err-t g c =
    let s : Reading = reading c.args.s in
    let calls : Calls = calls_within s c.args.depth in
    let frame = c.args.frame.now in
    let others : List Expr = take (length c.args.arguments.now - 2) (drop 2 c.args.arguments.now) in
    let v = g.T.Local.view c.args.local.now in
    let w = g.T.Local.view c.value.new.local in
    let is = two_and_more c.args.arguments.now c.address-item.result c.block-item.result c.in-len2-up.len_at_least c.address-item.is c.block-item.is in
    let p = err_from_is_err_and c.from_residual.result c.from_residual.ensures.1 in
    rw (p.1, p.2) (rw is
    (then_stops itself (ended frame) (value s calls frame c.address-item.result) (λ t. place_of s calls frame c.block-item.result >>= (λ p. stored s calls t others frame p)) _ v w w c.in_err-t.ensures))

pub returns-in_err-p : goal.returns-in_err-p
returns-in_err-p g c =
    let s : Reading = reading c.args.s in
    let calls : Calls = calls_within s c.args.depth in
    let frame = c.args.frame.now in
    let others : List Expr = take (length c.args.arguments.now - 2) (drop 2 c.args.arguments.now) in
    let v = g.T.Local.view c.args.local.now in
    let u = g.T.Local.view c.value.new.local in
    let w = g.T.Local.view c.place_of.new.local in
    let is = two_and_more c.args.arguments.now c.address-item.result c.block-item.result c.in-len2-up.len_at_least c.address-item.is c.block-item.is in
    let p = err_from_is_err_and c.from_residual-in_err-p.result c.from_residual-in_err-p.ensures.1 in
    rw (p.1, p.2) (rw is
    (then_does itself (ended frame) (value s calls frame c.address-item.result) (λ t. place_of s calls frame c.block-item.result >>= (λ p. stored s calls t others frame p)) c.in_ok-t.t _ v u w c.in_ok-t.ensures
    (then_stops itself (ended frame) (place_of s calls frame c.block-item.result) (λ p. stored s calls c.in_ok-t.t others frame p) _ u w w c.in_err-p.ensures)))

pub returns : goal.returns
returns g c =
    let s : Reading = reading c.args.s in
    let calls : Calls = calls_within s c.args.depth in
    let frame = c.args.frame.now in
    let others : List Expr = take (length c.args.arguments.now - 2) (drop 2 c.args.arguments.now) in
    let after = c.stored.new.frame in
    let v = g.T.Local.view c.args.local.now in
    let w = g.T.Local.view c.stored.new.local in
    let is = two_and_more c.args.arguments.now c.address-item.result c.block-item.result c.in-len2-up.len_at_least c.address-item.is c.block-item.is in
    subst (λ (xs : List Expr). DoesAs (ended after) (written_back s calls xs frame) c.stored.result v w) (sym is)
    (then_does itself (ended after) (value s calls frame c.address-item.result) (λ t. place_of s calls frame c.block-item.result >>= (λ p. stored s calls t others frame p)) c.in_ok-t.t c.stored.result v (g.T.Local.view c.value.new.local) w c.in_ok-t.ensures
    (then_does itself (ended after) (place_of s calls frame c.block-item.result) (λ p. stored s calls c.in_ok-t.t others frame p) c.in_ok-p.p c.stored.result (g.T.Local.view c.value.new.local) (g.T.Local.view c.place_of.new.local) w c.in_ok-p.ensures
    c.stored.ensures))
