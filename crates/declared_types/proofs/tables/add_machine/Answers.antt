use Rattle.std.proofs.Common.{◌≡◌, OnOk, Result, Ok, Err, List, [], ◌∷◌, ◌++◌, sym, ap, ◌∙◌}
use Rattle.std.proofs.lemmas.List.{map-append}
use Rattle.ruby_base.specs.declared.memory.NoMemory.{NoMemory}
use Rattle.declared_types.specs.Prelude.{declarations_of, scope_of, machine_table, summaries, summary}
use Rattle.declared_types.proofs.tables.add_machine.Goals as goal

follows : {A : Type 0} {P Q : Type 0} (r : Result A NoMemory) → (P → Q) → OnOk r P → OnOk r Q
follows (Ok a) f h = f h
follows (Err e) f h = tt

pub returns : goal.returns
returns c =
    follows c.push.result
    (λ q. ap summaries q ∙ map-append summary c.args.tables.now (c.in_ok-table.table ∷ [])
    ∙ ap (λ t. summaries c.args.tables.now ++ t ∷ [])
    (λ i. record { scope = ap scope_of c.in_ok-table.ensures.scope i; declarations = (ap declarations_of c.in_ok-table.ensures.declarations ∙ c.in_ok-declarations.ensures) i }))
    c.push.ensures.ok
