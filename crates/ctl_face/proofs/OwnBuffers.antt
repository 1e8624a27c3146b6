-- What a list of buffers has to be, where it is the one that the routes have for a controller; and what routes that fit a run
-- are for each controller.
use Rattle.std.proofs.Common.{◌≡◌, ◌↔◌, ℕ, Bool, List, All, IsTrue, IfSome, Option, Some, sym, subst, slice_get}
use Rattle.std.specs.Option.{option_and_then, option_flatten}
use Rattle.ruby_value.specs.declared.setup.MachineSetup.{MachineSetup}
use Rattle.ctl_face.specs.declared.routes.Routes.{Routes}
use Rattle.ctl_face.specs.Prelude.{IsController, Actor, AreFrom, HasRoutes, IsFrom, KeepsOrder, NamesBuffers, ReceivesFrom}
use Rattle.ctl_face.proofs.Lines.{All-found}

pub own_from : (machine : MachineSetup) (routes : Routes) (me : ℕ) (buffers : List (Option ℕ)) → slice_get routes.receiving me ≡ Some buffers → (b : Bool) → (IsTrue b ↔ AreFrom machine buffers) → IsTrue b ↔ ReceivesFrom machine me routes
own_from machine routes me buffers is b both =
    let Q : Option (List (Option ℕ)) → Type 0 = λ o. IsTrue b ↔ ((network : ℕ) → IsFrom machine network (option_and_then (λ bs. option_flatten (slice_get bs network)) o)) in
    subst Q (sym is) both

pub fit_each : (machines : List MachineSetup) (ranges : List (ℕ × ℕ)) (m : MachineSetup) (actor : Actor) → IsController machines ranges m actor → HasRoutes m actor.me actor.routes
fit_each machines ranges m actor controller =
    let fit = controller.routes in
    let at = controller.machine in
    record {
      limits = fit.limits;
      own_path = fit.own_paths actor.me;
      order = own (λ x. All (KeepsOrder actor.routes) x.buffers) (All-found (λ (x : MachineSetup). All (KeepsOrder actor.routes) x.buffers) machines at fit.order);
      own_named = own (λ x. NamesBuffers x.buffers actor.me actor.routes) (fit.named at actor.me controller.of_machine);
      own_buffers = own (λ x. ReceivesFrom x actor.me actor.routes) (fit.receivers at actor.me controller.of_machine);
    }
  where
    own : (P : MachineSetup → Type 0) → IfSome (slice_get machines controller.machine) P → P m
    own P holds = subst (λ (o : Option MachineSetup). IfSome o P) controller.is holds
