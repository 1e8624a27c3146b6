use Rattle.std.proofs.Common.{Bor, ℕ, List, sym, ◌∙◌}
use Rattle.std.specs.Str.{bytes_eq}
use Rattle.type_numbers.proofs.Lists.{position_map}
use Rattle.protocol_symbols.proofs.states.number_among.Goals as goal

pub returns-clause-place : goal.returns-clause-place
returns-clause-place c =
    c.place_named.ensures.place
    ∙ sym (position_map (λ name. bytes_eq name c.args.text.now) (λ (name : Bor (List ℕ)). name.now) c.args.names.now)
