use Rattle.std.proofs.Common.{◌≡◌, ◌+◌, ◌-◌, ◌∙◌, List, [], ◌∷◌, IfOk, length, sym, subst, arith}
use Rattle.ruby_value.specs.declared.value.Value.{Value}
use Rattle.body_meaning.specs.Prelude.{outermost, fields_made}
use Rattle.statement_walk.proofs.Made.{fields_of_name, fields_of_none}
use Rattle.statement_walk.proofs.sends.fields_made.Goals as goal

pub returns-in-Some : goal.returns-in-Some
returns-in-Some c =
    let names = c.args.names.now in
    let k = c.saturating_sub-before.result in
    let before : k ≡ length names - c.args.n - 1 = omega arith in
    let is : fields_made (outermost (c.args.n + 1) names) ≡ fields_made (c.in-Some.b.now ∷ []) = fields_of_name c.args.n k names c.in-Some.b.now before (sym c.in-Some.ensures) in
    subst (λ (fs : List Value). IfOk c.fields_of.result (λ fields. fields ≡ fs)) (sym is) c.fields_of.ensures

pub returns-in-None : goal.returns-in-None
returns-in-None c =
    let names = c.args.names.now in
    let k = c.saturating_sub-before.result in
    let before : k ≡ length names - c.args.n - 1 = omega arith in
    c.of.ensures ∙ c.new.ensures.items ∙ sym (fields_of_none c.args.n k names before (sym c.in-None.ensures))
