-- The first that is broken in what has parts, of which the first in each is known.
use Rattle.std.proofs.Common.{◌≡◌, ◌∙◌, ◌++◌, Option, refl, sym, ap}
use Rattle.slicc_ast.specs.declared.tree.span.Span.{Span}
use Rattle.slicc_ast.specs.declared.tree.expression.Expr.{Expr}
use Rattle.slicc_ast.specs.declared.tree.expression.Operator.{Operator}
use Rattle.slicc_plan.specs.declared.broken.Broken.{Broken}
use Rattle.slicc_plan.specs.declared.built_in.BuiltInType.{BuiltInType}
use Rattle.slicc_plan.specs.Buffers.{listed}
use Rattle.slicc_plan.specs.CallTypes as call
use Rattle.slicc_plan.specs.Prelude.{Environment, broken_where, from_operand, joined, operator_type, span_of, typed, wanted_left, wanted_right, unfit, value, earlier_of_both, first_of, built_in}
use Rattle.slicc_plan.specs.Meanings.{Wanted}
use Rattle.slicc_plan.proofs.Firsts.{first_of-append}
use Rattle.body_types.specs.declared.typed.Given.{Given}
use Rattle.body_types.specs.declared.typed.Typed.{Typed}
use Rattle.body_types.specs.Prelude.{Found, found_of, given_of, typed_of}
use Rattle.call_types.proofs.Firsts.{first_of_listed, first_of_listed_append}
use Rattle.call_types.proofs.Steps.{found_plain}

pub operand_by_firsts : (env : Environment) (w : Wanted) (b : BuiltInType) (g : Given) (u first : Option Broken) (t : call.Typed) → u ≡ first_of (unfit env.machine w g.place (typed_of g.typed).meaning) → first ≡ earlier_of_both g.typed.broken u → t ≡ call.plain (value (built_in b)) (listed first) → found_of t ≡ found_of (from_operand env w b (given_of g))
operand_by_firsts env w b g u first t is_u is_first is_t =
    let us = unfit env.machine w g.place (typed_of g.typed).meaning in
    found_plain t (value (built_in b)) (value (built_in b)) first (listed g.typed.broken ++ us) is_t refl
    (is_first ∙ ap (earlier_of_both g.typed.broken) is_u ∙ sym (first_of_listed_append g.typed.broken us))

pub joined_by_firsts : (env : Environment) (o : Operator) (l r : Given) (wl wr : Wanted) (both u first v last : Option Broken) (b : BuiltInType) (t : call.Typed) → both ≡ earlier_of_both l.typed.broken r.typed.broken → wl ≡ wanted_left o → u ≡ first_of (unfit env.machine wl l.place (typed_of l.typed).meaning) → first ≡ earlier_of_both both u → wr ≡ wanted_right o (typed_of l.typed).meaning → v ≡ first_of (unfit env.machine wr r.place (typed_of r.typed).meaning) → last ≡ earlier_of_both first v → b ≡ operator_type o → t ≡ call.plain (value (built_in b)) (listed last) → found_of t ≡ found_of (joined env o (given_of l) (given_of r))
joined_by_firsts env o l r wl wr both u first v last b t is_both is_wl is_u is_first is_wr is_v is_last is_b is_t =
    let lb = l.typed.broken in
    let rb = r.typed.broken in
    let lm = (typed_of l.typed).meaning in
    let rm = (typed_of r.typed).meaning in
    let us = unfit env.machine (wanted_left o) l.place lm in
    let vs = unfit env.machine (wanted_right o lm) r.place rm in
    found_plain t (value (built_in b)) (value (built_in (operator_type o))) last (((listed lb ++ listed rb) ++ us) ++ vs) is_t
    (ap (λ k. value (built_in k)) is_b)
    (is_last
    ∙ ap (λ x. earlier_of_both x v) (is_first ∙ ap (λ x. earlier_of_both x u) is_both ∙ ap (earlier_of_both (earlier_of_both lb rb)) (is_u ∙ ap (λ w. first_of (unfit env.machine w l.place lm)) is_wl))
    ∙ ap (earlier_of_both (earlier_of_both (earlier_of_both lb rb) (first_of us))) (is_v ∙ ap (λ w. first_of (unfit env.machine w r.place rm)) is_wr)
    ∙ sym (first_of-append ((listed lb ++ listed rb) ++ us) vs
    ∙ ap (λ x. earlier_of_both x (first_of vs)) (first_of-append (listed lb ++ listed rb) us
    ∙ ap (λ x. earlier_of_both x (first_of us)) (first_of_listed_append lb (listed rb) ∙ ap (earlier_of_both lb) (first_of_listed rb)))))

pub where_by_firsts : (env : Environment) (w : Wanted) (e : Expr) (t : Typed) (at : Span) (then r : Option Broken) → found_of (typed_of t) ≡ found_of (typed env e) → at ≡ span_of e → then ≡ first_of (unfit env.machine w at (typed_of t).meaning) → r ≡ earlier_of_both t.broken then → r ≡ first_of (broken_where env w e)
where_by_firsts env w e t at then r is_t is_at is_then is_r =
    let k = typed env e in
    let us = unfit env.machine w (span_of e) k.meaning in
    is_r
    ∙ ap (earlier_of_both t.broken) (is_then ∙ ap (λ p. first_of (unfit env.machine w p (typed_of t).meaning)) is_at
    ∙ ap (λ (f : Found). first_of (unfit env.machine w (span_of e) f.meaning)) is_t)
    ∙ ap (λ o. earlier_of_both o (first_of us)) (sym (first_of_listed t.broken) ∙ ap (λ (f : Found). f.first) is_t)
    ∙ sym (first_of-append k.broken us)
