-- The row of a call, from what the call did with its sink and from what is printed of it.
use Rattle.std.proofs.Common.{◌≡◌, ℕ, List, [], Result, Ok, Err, IfOk, subst, ap, ◌∙◌}
use Rattle.ruby_outside.specs.declared.library.Got.{Got}
use Rattle.ruby_outside.specs.Prelude.{begun, SinkState, IsPlannedWrite}
use Rattle.ruby_answers.specs.declared.done.Done.{Done}
use Rattle.ruby_cli.specs.Prelude.{IsAnswered, asked_by}
use Rattle.rows.specs.Prelude.{IsRow, row_of}

-- a sink with room for so many bytes, which fails at these writes
abbrev pub sink_failing : ℕ → List ℕ → SinkState
sink_failing room fails = record { written = []; most = room; room = room; plan = begun fails }

pub is_row : {L E : Type 0} (reads : L → List ℕ → ℕ → Got → L → Type 0) (room : ℕ) (call : List ℕ) (words : List (List ℕ)) (library library' : L)
    (fails : List ℕ) (before after : SinkState) (done : Done) (bytes : List ℕ) (status : ℕ) (result : Result (List ℕ) E)
    → before ≡ sink_failing room fails → fails ≡ [] → IsAnswered reads IsPlannedWrite (asked_by words) library library' before after done
    → bytes ≡ after.written → status ≡ done.status → IfOk result (λ row. row ≡ row_of call bytes status)
    → IfOk result (IsRow reads room call words library library')
is_row reads room call words library library' fails before after done bytes status (Ok row) is none answered held ended printed = record {
  sink = after;
  done = done;
  answered =
      subst (λ (s : SinkState). IsAnswered reads IsPlannedWrite (asked_by words) library library' s after done)
      (is ∙ ap (λ (f : List ℕ). sink_failing room f) none) answered;
  text = printed ∙ ap (λ (b : List ℕ). row_of call b status) held ∙ ap (λ (n : ℕ). row_of call after.written n) ended;
}
is_row reads room call words library library' fails before after done bytes status (Err e) is none answered held ended printed = tt
