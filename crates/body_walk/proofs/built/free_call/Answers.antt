use Rattle.std.proofs.Common.{◌≡◌, ◌∙◌, true, false, codes, sym, ap}
use Rattle.std.specs.Str.{bytes_eq}
use Rattle.acts.specs.Prelude.{itself}
use Rattle.acts.proofs.Walk.{does_ends_as}
use Rattle.body_meaning.specs.declared.thing.Thing.TheVariants as thing
use Rattle.body_meaning.specs.Prelude.{free_call}
use Rattle.body_walk.proofs.built.free_call.Goals as goal

pub returns-then-eq : goal.returns-then-eq
unfolding free_call
returns-then-eq g c =
    let is : bytes_eq c.args.name.now (codes "trigger") ≡ true = sym (c.eq.ensures ∙ ap (λ xs. bytes_eq c.args.name.now xs) c.as_slice.ensures) ∙ c.if-eq.true in
    rw is (does_ends_as itself _ _ _ (ap thing.Trigger c.trigger_of.ensures))

pub returns-in-Some : goal.returns-in-Some
unfolding free_call
returns-in-Some g c =
    let no : bytes_eq c.args.name.now (codes "trigger") ≡ false = sym (c.eq.ensures ∙ ap (λ xs. bytes_eq c.args.name.now xs) c.as_slice.ensures) ∙ c.if-eq.false in
    rw (no, sym c.in-Some.ensures) c.thing_built.ensures

pub returns-in-None : goal.returns-in-None
unfolding free_call
returns-in-None g c =
    let no : bytes_eq c.args.name.now (codes "trigger") ≡ false = sym (c.eq.ensures ∙ ap (λ xs. bytes_eq c.args.name.now xs) c.as_slice.ensures) ∙ c.if-eq.false in
    rw (no, sym c.in-None.ensures) c.permission_call.ensures
