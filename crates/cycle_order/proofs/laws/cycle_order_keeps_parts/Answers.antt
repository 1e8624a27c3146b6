use Rattle.cycle_order.proofs.Ordered.{cycle-rises, cycle-stays, each-cycle, keeps-count, keeps-parts, keeps-turns}
use Rattle.cycle_order.proofs.laws.cycle_order_keeps_parts.Goals as goal

pub returns : goal.returns
returns c = record {
  parts = λ journal controller. keeps-parts controller journal;
  turns = keeps-turns;
  count = keeps-count;
  cycles = each-cycle;
  rises = cycle-rises;
  stays = cycle-stays;
}
