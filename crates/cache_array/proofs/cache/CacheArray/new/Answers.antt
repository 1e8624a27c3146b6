use Rattle.std.proofs.Common.{ℕ, List, sym, subst, ◌∙◌, arith}
use Rattle.ruby_value.specs.Prelude.{Line, IsCache}
use Rattle.ruby_value.proofs.CacheEdits.{empty_cache}
use Rattle.cache_array.specs.Prelude.{IsMask}
use Rattle.cache_array.proofs.cache.CacheArray.new.Goals as goal

pub invariant_of-result : goal.invariant_of-result
invariant_of-result c = record {
  is_cache = subst (λ (ls : List (List Line)). IsCache (record { ways = c.args.ways; sets = ls })) (sym c.in_ok-sets.ensures.empty) (empty_cache c.args.ways c.args.sets (omega arith) (omega arith));
  places = c.in_ok-sets.ensures.places;
  is_mask = subst (λ (n : ℕ). IsMask n c.mask_of.result) (c.len.ensures ∙ c.in_ok-sets.sets.ok.0) c.mask_of.ensures;
}
