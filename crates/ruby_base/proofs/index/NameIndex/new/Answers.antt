use Rattle.std.proofs.Common.{◌≡◌, ℕ, Vec, Global, [], refl, sym, ap, subst, map, arith}
use Rattle.std.specs.List.{IsDistinct}
use Rattle.ruby_base.specs.Prelude.{AreDistinct, Finds}
use Rattle.ruby_base.proofs.index.NameIndex.new.Goals as goal

pub invariant_of-result : goal.invariant_of-result
unfolding IsDistinct Finds
invariant_of-result c =
    let none : map (λ (v : Vec ℕ Global). v.items) c.new.result.items ≡ [] = ap (map (λ (v : Vec ℕ Global). v.items)) c.new.ensures.items in
    (rw c.new.ensures.items (omega arith), subst AreDistinct (sym none) tt, λ n. rw (c.new-2.ensures.empty, none) refl)
