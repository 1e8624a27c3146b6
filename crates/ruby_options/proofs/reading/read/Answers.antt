use Rattle.std.proofs.Common.{◌∙◌, Bor, List, ap, map, string_bytes, ℕ}
use Rattle.ruby_options.proofs.Asking.{of_fault, of_taken}
use Rattle.ruby_options.proofs.reading.read.Goals as goal

pub returns-in-Err-clause-asked : goal.returns-in-Err-clause-asked
returns-in-Err-clause-asked c =
    of_fault (map string_bytes c.args.words.now) (map (λ w. w.now) c.as_slice.result.now)
    (ap (map (λ (w : Bor (List ℕ)). w.now)) c.as_slice.ensures.value ∙ c.in_ok-line.ensures) c.in-Err.fault c.in-Err.ensures

pub returns-clause-asked : goal.returns-clause-asked
returns-clause-asked c =
    of_taken (map string_bytes c.args.words.now) (map (λ w. w.now) c.as_slice.result.now)
    (ap (map (λ (w : Bor (List ℕ)). w.now)) c.as_slice.ensures.value ∙ c.in_ok-line.ensures) _ c.asked_of.result
    c.in-Ok.ensures.0 c.in-Ok.ensures.1 c.asked_of.ensures.asked
