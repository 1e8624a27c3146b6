use Rattle.std.proofs.Common.{◌≡◌, false, true, nat_lt, ◌∙◌, sym, arith, refl}
use Rattle.slicc_plan.specs.Prelude.{whole_size}
use Rattle.slicc_flow.proofs.FirstOf.{is_large}
use Rattle.slicc_flow.proofs.sizes.large_of.Goals as goal

pub returns-then-size_in-le-LARGEST : goal.returns-then-size_in-le-LARGEST
returns-then-size_in-le-LARGEST c =
    let seen = is_large c.args.functions.now c.args.sizes.now c.args.b.now c.size_in.result c.requires c.size_in.ensures in
    let small : nat_lt 100000 (whole_size c.args.functions.now c.args.b.now) ≡ false = seen ∙ grind (arith) in
    rw (small) refl

pub returns : goal.returns
returns c =
    let seen = is_large c.args.functions.now c.args.sizes.now c.args.b.now c.size_in.result c.requires c.size_in.ensures in
    let big : nat_lt 100000 (whole_size c.args.functions.now c.args.b.now) ≡ true = seen ∙ grind (arith) in
    rw (big) c.earlier_broken.ensures
