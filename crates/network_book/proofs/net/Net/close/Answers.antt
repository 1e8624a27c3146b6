use denote.Param.Send.{sendable}
use Rattle.network_book.proofs.BookCrosses.{shared_book-send}
use Rattle.std.proofs.Common.{ap, sym, ◌∙◌}
use Rattle.ruby_world.specs.Prelude.{WorldView}
use Rattle.network_book.specs.Numbers.{numbers_of}
use Rattle.network_book.specs.Plans.{plan_of}
use Rattle.network_book.proofs.Visiting.{view-is}
use Rattle.network_book.proofs.net.Net.close.Goals as goal

pub close-requires-send-V : goal.close-requires-send-V
close-requires-send-V g c κs within = let d = c.type_bounds.send-D in search (sendable, shared_book-send) depth 10

pub returns-clause-world : goal.returns-clause-world
returns-clause-world g c =
    let taken = c.into_world.ensures in
    sym (view-is c.args.pass.plan c.args.pass.seen c.into_world.result (ap plan_of taken.world ∙ c.close.ensures.plan)
    (ap (λ (u : WorldView _). numbers_of u.history) taken.world ∙ c.close.ensures.history) taken.small)
