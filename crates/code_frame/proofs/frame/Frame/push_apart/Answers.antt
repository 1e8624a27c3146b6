use Rattle.std.proofs.Common.{refl}
use Rattle.code_frame.specs.declared.slot.Sort.TheVariants.{Apart}
use Rattle.code_frame.proofs.Windows.{pushed_apart}
use Rattle.code_frame.proofs.frame.Frame.push_apart.Goals as goal

pub returns : goal.returns
returns c =
    pushed_apart c.self.inside.words c.push.new.self (record { word = 0; sort = Apart }) c.self.inside.apart.items c.put_apart.new.apart.items c.args.v c.len.result c.self.inside.base c.self.inside.floor c.args.self.now
    c.in_ok-push.ensures.ok c.self.invariant.0 c.self.invariant.1 c.self.view_is c.len.ensures c.in_ok-put_apart.ensures (λ x. refl) c.requires
