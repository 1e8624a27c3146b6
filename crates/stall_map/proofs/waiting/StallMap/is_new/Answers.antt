use Rattle.std.proofs.Common.{◌≡◌, false, Option, None, Some, Bor, List, is_some, not, refl, sym, ap, ◌∙◌, arith}
use Rattle.std.proofs.lemmas.Grind.{common_steps}
use Rattle.std.specs.Option.{option_copied}
use Rattle.stall_map.specs.declared.stalled.Stalled.{Stalled}
use Rattle.stall_map.specs.Prelude.{waiting_of}
use Rattle.stall_map.proofs.Orders.{new-from-none, none-from-new}
use Rattle.stall_map.proofs.waiting.StallMap.is_new.Goals as goal

copied-none : (o : Option (Bor Stalled)) → is_some o ≡ false → option_copied o ≡ None
copied-none None is = refl
copied-none (Some h) is = absurd (cc is)

none-copied : (o : Option (Bor Stalled)) → option_copied o ≡ None → is_some o ≡ false
none-copied None is = refl
none-copied (Some h) is = absurd (cc is)

pub returns : goal.returns
returns c =
    let ws : List Stalled = waiting_of c.self.inside.slots.items in
    rw (← c.self.view_is) (
      (λ is. new-from-none c.args.number ws (sym c.find.ensures ∙ copied-none c.find.result (c.is_none.ensures ∙ ap not is))),
      (λ new. let no : is_some c.find.result ≡ false = none-copied c.find.result (c.find.ensures ∙ none-from-new c.args.number ws new) in grind (arith, common_steps)),
    )
