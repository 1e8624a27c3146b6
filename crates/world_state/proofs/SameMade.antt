-- What a store was made for stays, whatever happens to its controller.
use Rattle.std.proofs.Common.{◌≡◌, ℕ, ap, ◌∙◌}
use Rattle.ruby_value.specs.declared.setup.MachineSetup.{MachineSetup}
use Rattle.ctl_face.specs.declared.routes.Routes.{Routes}
use Rattle.ctl_store.specs.declared.parts.Parts.{Parts}
use Rattle.ctl_store.specs.Prelude.{machine_of, me_of, IsSameStore}
use Rattle.world_state.specs.Prelude.{Made}

pub same-made : (first second third : Parts) (routes : Routes) → IsSameStore first second → IsSameStore second third
    → ◌≡◌ {A = Made} (record { machine = machine_of third; me = me_of third; routes = routes }) (record { machine = machine_of first; me = me_of first; routes = routes })
same-made first second third routes one two =
    ap (λ (m : MachineSetup). let made : Made = record { machine = m; me = me_of third; routes = routes } in made) (two.machine ∙ one.machine)
    ∙ ap (λ (n : ℕ). let made : Made = record { machine = machine_of first; me = n; routes = routes } in made) (two.me ∙ one.me)
