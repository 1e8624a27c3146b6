use Rattle.std.proofs.Common.{IfSome, List, Option, ap, subst, sym, ◌∙◌}
use Rattle.slicc_plan.specs.Prelude.{KnownType, PortOn}
use Rattle.machine_table.specs.Prelude.{buffer_seen}
use Rattle.type_numbers.specs.Prelude.{IsOfFewFields, trees_of, type_among}
use Rattle.type_numbers.proofs.Small.{message_few}
use Rattle.protocol_symbols.proofs.objects.buffer_of_place.Goals as goal

pub buffer_place-place-requires-clause-fields : goal.buffer_place-place-requires-clause-fields
buffer_place-place-requires-clause-fields c =
    let b = buffer_seen c.args.b in
    subst (λ (t : Option KnownType). IfSome t IsOfFewFields) (sym (c.message_type-t.ensures ∙ ap (λ (ps : List PortOn). type_among ps c.args.number b) c.requires.ports)) (message_few (trees_of c.args.types.now) c.requires.types.accepted c.args.number b)
