-- What a walk needs of what it calls for the functions of its machine: that each call does what these calls mean.
use Rattle.std.specs.Prelude.{ℕ, List, Result}
use Rattle.std.specs.Fn.{Shared}
use denote.Ref.{MutBor}
use Rattle.ruby_value.specs.declared.value.Value.{Value}
use Rattle.ctl_face.specs.declared.trouble.Trouble.{Trouble}
use Rattle.ctl_face.specs.Prelude.{LocalView}
use Rattle.acts.specs.Prelude.{DoesAs, itself}
use Rattle.body_meaning.specs.declared.thing.Thing.{Thing}
use Rattle.body_meaning.specs.Prelude.{Calls}

unfoldable pub CallsDo : {T F : Type 0} → (T → LocalView)
    → Shared F (ℕ × (List Value × (MutBor T × Unit {0}))) (Result Thing Trouble × (MutBor T × Unit {0})) → F → Calls → Type 0
CallsDo {T} view g f means =
    (k : ℕ) (arguments : List Value) (p q : MutBor T) (r : Result Thing Trouble)
    → g.post f (k, (arguments, (p, tt))) (r, (q, tt)) → DoesAs itself (means k arguments) r (view p.now) (view q.now)
