use Rattle.std.proofs.Common.{◌≡◌, ◌++◌, ◌∙◌, [], true, ap, sym, codes}
use Rattle.slicc_plan.specs.Prelude.{asks_next, call_of, number_in}
use Rattle.slicc_flow.proofs.Asked.{asked_among, asked_with}
use Rattle.slicc_flow.proofs.machine.asked_functions.Goals as goal

pub returns : goal.returns
returns c =
    let names = c.args.names.now.functions in
    let m = c.args.m.now in
    let asked = c.add_function.new.functions in
    let yes : asks_next m ≡ true = ap asked_among (sym c.deref.ensures) ∙ sym c.if-not-any_asked.ensures in
    let first : asked ≡ [] ++ call_of (number_in names (codes "getState")) =
    c.in_ok-add_function.ensures ∙ ap (λ xs. xs ++ call_of c.function.result) c.new-asked.ensures
    ∙ ap (λ o. [] ++ call_of o) (c.function.ensures ∙ ap (number_in names) c.as_bytes.ensures.value) in
    let all : c.add_function-2.new.functions ≡ asked ++ call_of (number_in names (codes "getNextState")) =
    c.in_ok-add_function-2.ensures ∙ ap (λ o. asked ++ call_of o) (c.function-2.ensures ∙ ap (number_in names) c.as_bytes-2.ensures.value) in
    asked_with (asks_next m) (number_in names (codes "getState")) (number_in names (codes "getNextState")) asked c.add_function-2.new.functions yes first all
