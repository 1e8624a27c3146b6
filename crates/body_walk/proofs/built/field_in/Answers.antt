use Rattle.std.proofs.Common.{◌≡◌, ℕ, List, refl}
use Rattle.std.proofs.lemmas.Result.{err_from_is_err_and}
use Rattle.ruby_value.specs.declared.fields.Fields.{Fields}
use Rattle.ruby_value.specs.declared.fault.Fault.TheVariants.{Reference}
use Rattle.ruby_value.specs.declared.value.Value.{Value}
use Rattle.acts.specs.declared.body_fault.BodyFault.TheVariants as own
use Rattle.acts.specs.Prelude.{stops, itself}
use Rattle.acts.proofs.Walk.{does_stops, does_without_memory}
use Rattle.body_meaning.specs.declared.thing.Thing.{Thing}
use Rattle.body_meaning.specs.declared.thing.Thing.TheVariants as thing
use Rattle.body_meaning.specs.Prelude.{field_in, Reading, reading}
use Rattle.body_walk.proofs.built.field_in.Goals as goal

-- nothing else has fields
no_fields : (s : Reading) (text : List ℕ) (t : Thing) → ((v : Value) → t ≡ thing.Value v → ⊥) → ((structure : ℕ) (fields : Fields) → t ≡ thing.Message structure fields → ⊥)
    → field_in s text t ≡ stops own.Reference
no_fields s text (thing.Value v) value message = absurd (value v refl)
no_fields s text (thing.Message structure fields) value message = absurd (message structure fields refl)
no_fields s text _ value message = refl

pub returns-in-Value : goal.returns-in-Value
returns-in-Value g c = rw c.in-Value.is c.field_through.ensures

pub returns-in_err-v-in-Message : goal.returns-in_err-v-in-Message
returns-in_err-v-in-Message g c =
    let p = err_from_is_err_and c.from_residual.result c.from_residual.ensures.1 in rw (p.1, p.2) (does_without_memory itself _ _ _)

pub returns-in_ok-v-in-Message : goal.returns-in_ok-v-in-Message
returns-in_ok-v-in-Message g c = rw (c.in-Message.is, ← c.in_ok-v-in-Message.ensures) c.value_found.ensures

pub returns-in_default : goal.returns-in_default
returns-in_default g c =
    rw (no_fields (reading c.args.s) c.args.name.now c.args.t.now c.in_default.not-Value c.in_default.not-Message, c.from.ensures)
    (does_stops itself own.Reference Reference _ _ refl)
