use Rattle.std.proofs.Common.{◌≡◌, ◌∙◌, sym}
use Rattle.std.specs.Option.{option_copied}
use Rattle.ruby_world.specs.Prelude.{view_of}
use Rattle.ruby_world.proofs.ReadOff.{in-world}
use Rattle.ruby_world.proofs.world.World.verdict.Goals as goal

pub returns : goal.returns
returns g c =
    let w = c.self.inside in
    let facts = c.self.invariant in
    rw (← c.self.view_is)
    (in-world g.D.Driver.drive (view_of g.D.Driver.opening w.plan w.topology w.limits w.state) facts.world facts.kept.run (λ u. option_copied c.as_ref.result ≡ u.verdict)
    (c.as_ref.ensures.value ∙ sym facts.kept.verdict))
