use Rattle.std.proofs.Common.{◌≡◌, ◌∙◌, sym, ap, subst, take, drop, length, true, false, codes, arith}
use Rattle.std.specs.Str.{bytes_eq}
use Rattle.call_types.proofs.Split.{front_matches, front_differs}
use Rattle.call_types.proofs.called.is_permission_call.Goals as goal

pub returns-then-eq : goal.returns-then-eq
returns-then-eq c =
    let f : bytes_eq (take (length c.args.machine.now) c.args.text.now) c.args.machine.now ≡ true = ap (λ xs. bytes_eq xs c.args.machine.now) (sym c.split_at.ensures.front) ∙ sym c.eq.ensures ∙ c.if-eq.true in
    c.eq-then-eq.ensures ∙ ap (λ xs. bytes_eq xs c.split_at.result.1.now) c.as_slice.ensures ∙ ap (λ xs. bytes_eq (codes "_State_to_permission") xs) c.split_at.ensures.back
    ∙ front_matches c.args.machine.now (codes "_State_to_permission") c.args.text.now f

pub returns-else-eq : goal.returns-else-eq
returns-else-eq c =
    let f : bytes_eq (take (length c.args.machine.now) c.args.text.now) c.args.machine.now ≡ false = ap (λ xs. bytes_eq xs c.args.machine.now) (sym c.split_at.ensures.front) ∙ sym c.eq.ensures ∙ c.if-eq.false in
    c.if-eq.false ∙ front_differs c.args.machine.now (codes "_State_to_permission") c.args.text.now f
