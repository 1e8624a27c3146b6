use Rattle.std.proofs.Common.{◌∙◌}
use Rattle.code_frame.proofs.Values.{set_elsewhere, set_there}
use Rattle.code_frame.proofs.apart.put_apart.Goals as goal

pub returns : goal.returns
returns c = record {
  there = set_there c.pad.new.apart.items c.args.at c.args.v c.in_ok-pad.ensures.there;
  elsewhere = λ k other. set_elsewhere c.pad.new.apart.items c.args.at c.args.v k other ∙ c.in_ok-pad.ensures.same k;
}
