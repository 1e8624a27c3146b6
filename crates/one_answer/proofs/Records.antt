-- The answers of every ended run of a record's setting, from the law of such runs.
use Rattle.std.proofs.Common.{◌≡◌, ◌∙◌, ℕ, List, None, Option, Some, ap, sym}
use Rattle.run_journal.specs.declared.entry.Entry.{Entry}
use Rattle.run_journal.specs.declared.event.Event.{Event}
use Rattle.run_journal.specs.declared.verdict.Verdict.{Verdict}
use Rattle.ctl_face.specs.Prelude.{Ctl}
use Rattle.protocol_runs.specs.Prelude.{HasEnded, IsRun, World, rules}
use Rattle.protocol_meaning.specs.declared.record.RunRecord.{RunRecord}
use Rattle.protocol_meaning.specs.Prelude.{IsWholeRunBy, rules_in}
use Rattle.schedule_laws.specs.Prelude.{IsEveryAnswer, IsOne}
use Rattle.sequencer.specs.Prelude.{Drive, Seat}
use Rattle.one_answer.specs.Prelude.{IsOneAnswer}

module _ {D : Type 0} (drive : D → List Seat → ℕ → Drive D) (driver : D) (r : RunRecord) where
  pub of_record : IsWholeRunBy drive driver r
      → ((history : List Event) (w : World Ctl D) (journal : List Entry) → IsRun (rules_in drive driver r) history w journal → HasEnded w → IsEveryAnswer (rules_in drive driver r) w journal)
      → ((history : List Event) (w : World Ctl D) (journal : List Entry) → IsRun (rules_in drive driver r) history w journal → HasEnded w → IsOne (rules_in drive driver r) w journal)
      → IsOneAnswer drive driver r
  of_record (w, is_record, ended) every one =
      let lone = one r.history w r.journal is_record.run ended in
      record {
        every = λ history v journal ran over.
            let alike = every history v journal ran over r.history w r.journal is_record.run ended in
            let own = every r.history w r.journal is_record.run ended history v journal ran over in
            record {
              finals = own.finals r.finals is_record.finals;
              account = alike.account ∙ sym is_record.account;
              verdict = ap (λ (u : World Ctl D). u.verdict) alike.world ∙ is_record.verdict;
              part = alike.part;
              turns = alike.turns;
              order = alike.order;
            };
        history = lone.history;
        world = w;
        run = lone.run;
        ended = ended;
        alone = lone.alone;
      }
