-- What a call did with the library and the sink, from the answer that it found.
use Rattle.std.proofs.Common.{◌≡◌, inl, inr, ℕ, Bool, Some, List, refl}
use Rattle.ruby_outside.specs.declared.library.Got.{Got}
use Rattle.ruby_outside.specs.declared.sink.Wrote.{Wrote}
use Rattle.slicc_files.specs.Prelude.{Read}
use Rattle.trace_print.specs.Prelude.{AreLinesPut}
use Rattle.ruby_options.specs.declared.options.Options.{Options}
use Rattle.ruby_answers.specs.declared.done.Answer.{Answer}
use Rattle.ruby_answers.specs.declared.done.Done.{Done}
use Rattle.ruby_answers.specs.Prelude.{done_of, out_of_memory, lines_of, IsAnswered, IsReadOnce, IsFoundBy, IsRight}

module _ {L S : Type 0} (reads : L → List ℕ → ℕ → Got → L → Type 0) (writes : S → List ℕ → Wrote → S → Type 0) (o : Options) where
  pub answered : (library library' : L) (sink sink' : S) (a : Answer) (whole : Bool) (d : Done)
      → IsFoundBy reads o library library' (λ made. IsRight (Some o) made a) → AreLinesPut writes sink (lines_of a) whole sink' → d ≡ done_of a whole
      → IsAnswered reads writes (Some o) library library' sink sink' d
  answered library library' sink sink' a whole d found put done =
      record {
        made = found.made;
        are_made = found.are_made;
        ended = inr (record { answer = a; right = found.holds; whole = whole; text = put; done_is = done });
      }

  pub unanswered : (library library' : L) (sink : S) (P : List Read → Type 0) (d : Done) → IsFoundBy reads o library library' P → d ≡ out_of_memory
      → IsAnswered reads writes (Some o) library library' sink sink d
  unanswered library library' sink P d found done =
      record {
        made = found.made;
        are_made = found.are_made;
        ended = inl (record { beginning = found.begun; untouched = refl; done_is = done });
      }

  pub read_once : (library library' : L) (P : List Read → Type 0) → IsFoundBy reads o library library' P → IsReadOnce reads o library library'
  read_once library library' P found = (found.made, found.are_made, found.once)
