use Rattle.std.proofs.Common.{◌≡◌, ◌<◌, ◌^◌, ◌∙◌, ℕ, pos, Some, Ok, ap, w64, arith}
use Rattle.std.proofs.lemmas.Int.{ints, to_z_pos}
use Rattle.ruby_value.specs.declared.value.Value.{Value}
use Rattle.ruby_value.specs.declared.value.Value.TheVariants as value
use Rattle.acts.specs.Prelude.{Now, act}
use Rattle.built_in_acts.proofs.Cycles.{cycle_is_small, is_cycle}
use Rattle.built_in_acts.proofs.Told.{told_does}
use Rattle.built_in_acts.proofs.doing.cycle.Goals as goal

pub overflow_cast-result : goal.overflow_cast-result
overflow_cast-result g c =
    let is : c.now.result ≡ (g.T.Local.view c.args.local.now).now = is_cycle (g.T.Local.view c.args.local.now) c.now.result c.now.ensures in
    let low : (g.T.Local.view c.args.local.now).now < 2 ^ 63 = cycle_is_small (g.T.Local.view c.args.local.now) (g.met.T.Local.lawful c.args.local.now) in
    omega (arith, ints)

pub returns : goal.returns
returns g c =
    let is : c.now.result ≡ (g.T.Local.view c.args.local.now).now = is_cycle (g.T.Local.view c.args.local.now) c.now.result c.now.ensures in
    let low : (g.T.Local.view c.args.local.now).now < 2 ^ 63 = cycle_is_small (g.T.Local.view c.args.local.now) (g.met.T.Local.lawful c.args.local.now) in
    told_does (act Now) (λ n. value.Int (pos n)) c.now.result _ _ _ c.now.ensures (ap value.Int (to_z_pos w64 c.now.result (omega arith)))
