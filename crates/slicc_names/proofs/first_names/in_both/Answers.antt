use Rattle.std.proofs.Common.{◌≡◌, flat_map}
use Rattle.std.proofs.lemmas.Result.{IfOk-weaker}
use Rattle.slicc_plan.specs.Prelude.{first_after, repeated_after}
use Rattle.slicc_plan.specs.TwiceDeclared.{names_of}
use Rattle.slicc_names.proofs.Repeats.{two_lists}
use Rattle.slicc_names.proofs.first_names.in_both.Goals as goal

pub returns : goal.returns
returns g c =
    IfOk-weaker c.declare_all-2.result (λ r. r ≡ first_after c.in_ok-first.first (repeated_after c.declare_all.new.self (names_of (flat_map g.U.Declares.declares c.args.others.now)))) _
    (λ r told.
    two_lists (flat_map g.T.Declares.declares c.args.parts.now) (flat_map g.U.Declares.declares c.args.others.now) c.new-scope.result c.declare_all.new.self c.args.first c.in_ok-first.first r
    c.new-scope.ensures c.in_ok-first.ensures.told c.in_ok-first.ensures.names told)
    c.declare_all-2.ensures.told
