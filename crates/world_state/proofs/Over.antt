-- The verdict with which a cycle has ended.
use Rattle.std.proofs.Common.{◌≡◌, ℕ, Option, None, Some, List, sym, ◌∙◌}
use Rattle.ruby_value.specs.declared.fault.Finding.{Finding}
use Rattle.ruby_value.specs.declared.message.MsgNo.{MsgNo}
use Rattle.run_journal.specs.declared.verdict.Verdict.{Verdict}
use Rattle.world_state.specs.declared.state.State.{State}
use Rattle.world_state.specs.Prelude.{GoesOn, IsCycleEnded, next_in}

stands-by : {D : Type 0} (old new : State D) (next : Option ℕ) (v : Option Verdict) → old.verdict ≡ None → GoesOn next v old new → v ≡ new.verdict
stands-by old new None (Some v) running goes = sym goes.verdict_is
stands-by old new (Some n) (Some v) running goes = sym goes.verdict_is
stands-by old new None None running goes = sym (goes.verdict_is ∙ running)
stands-by old new (Some n) None running goes = sym (goes.verdict ∙ running)

pub stands : {D : Type 0} (worker cycles : ℕ) (numbers : List MsgNo) (finding : Option Finding) (v : Option Verdict) (old new : State D) → old.verdict ≡ None
    → IsCycleEnded worker cycles numbers finding v old new → v ≡ new.verdict
stands worker cycles numbers finding v old new running ended = stands-by old new (next_in old) v running ended.goes
