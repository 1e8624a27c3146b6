use Rattle.std.proofs.Common.{ℕ, List, [], ◌∷◌, codes, decimal, ap, subst, ◌∙◌}
use Rattle.trace_print.specs.Prelude.{IsAdded, hexadecimal, spaced, controller_word}
use Rattle.trace_print.proofs.ends.add_verdict.Goals as goal

pub returns-in-Incoherent : goal.returns-in-Incoherent
returns-in-Incoherent g c =
    let v = c.in-Incoherent in
    let added = c.add_words-in-Incoherent in
    let words : List ℕ → ℕ → ℕ → ℕ → List (List ℕ) =
    λ name offset expected found.
    codes "incoherent" ∷ decimal v.cycle ∷ name ∷ hexadecimal v.address ∷ decimal offset ∷ decimal expected ∷ decimal found ∷ [] in
    let name : List ℕ = controller_word c.args.names.now v.controller in
    let P : List (List ℕ) → Type 0 = λ ws. IsAdded g.S.Sink.writes c.args.sink.now c.args.line.now.items (spaced ws) added.result added.new.sink added.new.line.items in
    rw v.is
    (subst P
    (ap (λ (n : List ℕ). words n c.from.result c.from-in-Incoherent.result c.from-in-Incoherent-2.result) c.controller_word-in-Incoherent.ensures
    ∙ ap (λ (k : ℕ). words name k c.from-in-Incoherent.result c.from-in-Incoherent-2.result) c.from.ensures
    ∙ ap (λ (k : ℕ). words name v.offset k c.from-in-Incoherent-2.result) c.from-in-Incoherent.ensures
    ∙ ap (λ (k : ℕ). words name v.offset v.expected k) c.from-in-Incoherent-2.ensures)
    added.ensures)
