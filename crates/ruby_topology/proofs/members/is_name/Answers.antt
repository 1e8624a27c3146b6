use Rattle.std.proofs.Common.{◌∷◌, ◌∙◌, ◌≤◌, arith, length, sym}
use Rattle.ruby_topology.specs.Prelude.{decimal}
use Rattle.ruby_topology.proofs.Names.{other_front, same_front}
use Rattle.ruby_topology.proofs.members.is_name.Goals as goal

pub returns-then-eq : goal.returns-then-eq
returns-then-eq c =
    let name = c.args.machine.now in
    let text = c.args.text.now in
    let inside : length name ≤ length text = omega arith in
    c.is_index.ensures
    ∙ same_front name (45 ∷ decimal c.args.index) text _ _ inside c.split_at.ensures.front c.split_at.ensures.back (sym c.eq.ensures ∙ c.if-eq.true)

pub returns-else-eq : goal.returns-else-eq
returns-else-eq c =
    let name = c.args.machine.now in
    let text = c.args.text.now in
    let inside : length name ≤ length text = omega arith in
    c.if-eq.false
    ∙ other_front name (45 ∷ decimal c.args.index) text _ inside c.split_at.ensures.front (sym c.eq.ensures ∙ c.if-eq.false)
