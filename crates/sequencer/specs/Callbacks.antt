-- What the callbacks of a scan make of a sequencer's requests before they are applied: a log of the answers with which they
-- finished requests, in their order. This project's own.
use Rattle.std.specs.Prelude.{◌≡◌, Some, List, [], ◌∷◌, Result, Ok, Err}
use Rattle.ruby_value.specs.declared.asked.Answer.{Answer}
use Rattle.ruby_value.specs.declared.asked.BackFault.{BackFault}
use Rattle.sequencer.specs.declared.fault.CallbackFault.{CallbackFault}
use Rattle.sequencer.specs.declared.fault.CallbackFault.TheVariants.{Refused, NoMemory}
use Rattle.ruby_value.specs.Prelude.{Requests, request_for, requests_with_answer}

unfoldable pub after_callbacks : List Answer → Requests → Requests
after_callbacks [] r = r
after_callbacks (a ∷ log) r = after_callbacks log (requests_with_answer r a.asked.line a)

-- each of them finishes a request that is outstanding at that time
unfoldable pub FitCallbacks : List Answer → Requests → Type 0
FitCallbacks [] r = Unit {0}
FitCallbacks (a ∷ log) r =
    (request_for r a.asked.line ≡ Some a.asked) × FitCallbacks log (requests_with_answer r a.asked.line a)

-- What a callback does by what its definition has for it, as `Finishes`; and without memory it leaves the requests as they were.
abbrev pub CallsBack : {A : Type 0} → Result Requests BackFault → A → Result A CallbackFault → Requests → Requests → Type 0
CallsBack want answer (Ok a) old new = (want ≡ Ok new) × (a ≡ answer)
CallsBack want answer (Err (Refused fault)) old new = (want ≡ Err fault) × (new ≡ old)
CallsBack want answer (Err NoMemory) old new = new ≡ old
