use Rattle.std.proofs.Common.{arith}
use Rattle.run_journal.proofs.columns.Columns.keep_fired.Goals as goal

pub returns-then-is_empty-3-clause-room : goal.returns-then-is_empty-3-clause-room
returns-then-is_empty-3-clause-room c e n s h =
    c.keep_plain.ensures.room e n s
    (record {
      fires = h.fires;
      number_lists = h.number_lists;
      numbers_fit = omega arith;
      sent_lists = h.sent_lists;
      sents_fit = h.sents_fit;
      stops = h.stops;
      closings = h.closings;
    })
