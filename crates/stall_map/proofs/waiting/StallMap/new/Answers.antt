use Rattle.std.proofs.Common.{[], refl, arith}
use Rattle.std.specs.FinMap as map
use Rattle.std.specs.Ordering.{nat_cmp}
use Rattle.std.proofs.lemmas.List.Elements.{All-nil}
use Rattle.ruby_value.proofs.Ordered.{AllPairs-nil}
use Rattle.stall_map.specs.Prelude.{IsFollowedBy, IsNamed, IsOrder}
use Rattle.stall_map.proofs.waiting.StallMap.new.Goals as goal

pub invariant_of-result : goal.invariant_of-result
invariant_of-result c =
    let order : IsOrder [] = record { rises = AllPairs-nil IsFollowedBy; named = All-nil IsNamed } in
    rw (c.new.ensures.items, c.new-2.ensures) (record {
      order = order;
      count = refl;
      serves = λ line. rw (map.get-empty nat_cmp line) (record { known = refl; bound = omega arith; ready = tt });
      small = omega arith;
      entries_left = omega arith;
      lines_left = omega arith;
      lanes_left = omega arith;
      wide = λ positive. absurd (omega arith);
    })
