use Rattle.std.proofs.Common.{ℕ, ◌%◌, Option, length, sym, ap, subst, ◌∙◌}
use Rattle.std.proofs.lemmas.List.{length-map}
use Rattle.cache_array.specs.Prelude.{IsMask}
use Rattle.cache_array.proofs.Sets.{Order, masked}
use Rattle.cache_array.proofs.cache.CacheArray.place.Goals as goal

pub returns-in-Some-clause-place : goal.returns-in-Some-clause-place
returns-in-Some-clause-place c =
    let n = length c.self.inside.sets.items in
    let is = subst (λ (o : Option ℕ). IsMask n o) c.in-Some.is c.self.invariant.is_mask in
    rw (← c.self.view_is)
    (masked n c.in-Some.mask c.args.line is ∙ ap (λ (k : ℕ). c.args.line % k) (sym (length-map c.self.inside.sets.items (λ (o : Order). o.kept))))
