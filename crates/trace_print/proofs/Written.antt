-- What became of lines that went to a lawful sink.
use Rattle.std.proofs.Common.{◌≡◌, ℕ, Bool, true, false, List, ◌++◌, Option, take, drop, subst}
use Rattle.std.proofs.lemmas.List.{take-append-drop}
use Rattle.ruby_outside.specs.declared.sink.Wrote.{Wrote}
use Rattle.ruby_outside.specs.Prelude.{IsLawfulWrite, IsWritten}
use Rattle.ruby_outside.proofs.Growth.{cut_before}
use Rattle.ruby_outside.proofs.Puts.{nothing_written, put_written, written_on}
use Rattle.trace_print.specs.Prelude.{IsLinePut, AreLinesPut, text_of}

module _ {S : Type 0} (written : S → Option (List ℕ)) (faults : S → ℕ) (writes : S → List ℕ → Wrote → S → Type 0) (lawful : (before : S) (piece : List ℕ) (wrote : Wrote) (after : S) → writes before piece wrote after → IsLawfulWrite (written before) (faults before) piece wrote (written after) (faults after)) where
  -- a front that was written whole, and then what became of the rest
  front_on : (before middle after : S) (front rest : List ℕ) (whole : Bool)
      → IsWritten (written before) (faults before) front true (written middle) (faults middle)
      → IsWritten (written middle) (faults middle) rest whole (written after) (faults after)
      → IsWritten (written before) (faults before) (front ++ rest) whole (written after) (faults after)
  front_on before middle after front rest whole p q =
      written_on (written before) (written middle) (written after) (faults before) (faults middle) (faults after) front rest whole p.whole p.counts q

  -- a front that was cut off cuts off what was to follow it
  front_cut : (before after : S) (front rest : List ℕ)
      → IsWritten (written before) (faults before) front false (written after) (faults after)
      → IsWritten (written before) (faults before) (front ++ rest) false (written after) (faults after)
  front_cut before after front rest p =
      record {
        counts = p.counts;
        whole = tt;
        cut_off = cut_before (written before) front rest (written after) p.cut_off;
        cause = p.cause;
      }

  same_text : (before after : S) (a b : List ℕ) (whole : Bool) → a ≡ b
      → IsWritten (written before) (faults before) a whole (written after) (faults after) → IsWritten (written before) (faults before) b whole (written after) (faults after)
  same_text before after a b whole is p =
      let P : List ℕ → Type 0 = λ text. IsWritten (written before) (faults before) text whole (written after) (faults after) in subst P is p

  line_written : (before : S) (line : List ℕ) (whole : Bool) (after : S) → IsLinePut writes before line whole after
      → IsWritten (written before) (faults before) line whole (written after) (faults after)
  line_written _ _ _ _ (IsLinePut.as_one_piece before after line whole small put) = put_written written faults writes lawful before line whole after put
  line_written _ _ _ _ (IsLinePut.in_pieces before middle after line whole long put rest) =
      same_text before after (take 1024 line ++ drop 1024 line) line whole (take-append-drop 1024 line)
      (front_on before middle after (take 1024 line) (drop 1024 line) whole (put_written written faults writes lawful before (take 1024 line) true middle put) (line_written middle (drop 1024 line) whole after rest))
  line_written _ _ _ _ (IsLinePut.cut_in_piece before after line long put) =
      same_text before after (take 1024 line ++ drop 1024 line) line false (take-append-drop 1024 line)
      (front_cut before after (take 1024 line) (drop 1024 line) (put_written written faults writes lawful before (take 1024 line) false after put))

  pub lines_written : (before : S) (lines : List (List ℕ)) (whole : Bool) (after : S) → AreLinesPut writes before lines whole after
      → IsWritten (written before) (faults before) (text_of lines) whole (written after) (faults after)
  lines_written _ _ _ _ (AreLinesPut.all_put before) = nothing_written (written before) (faults before)
  lines_written _ _ _ _ (AreLinesPut.line_put before middle after line lines whole put rest) =
      front_on before middle after line (text_of lines) whole (line_written before line true middle put) (lines_written middle lines whole after rest)
  lines_written _ _ _ _ (AreLinesPut.line_cut before after line lines put) =
      front_cut before after line (text_of lines) (line_written before line false after put)
