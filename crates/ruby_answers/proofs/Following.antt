-- Lines that are put in several parts, one after the other.
use Rattle.std.proofs.Common.{◌≡◌, ℕ, Bool, true, false, Option, None, Some, List, [], ◌++◌, if◌then◌else◌, refl, subst, sym, true≢false}
use Rattle.ruby_outside.specs.declared.sink.Wrote.{Wrote}
use Rattle.run_journal.specs.declared.entry.Entry.{Entry}
use Rattle.cycle_order.specs.Prelude.{ordered}
use Rattle.ruby_options.specs.declared.options.Order.{Order}
use Rattle.ruby_options.specs.declared.options.Order.TheVariants.{Cycle, Journal}
use Rattle.ruby_answers.specs.Prelude.{in_text_order, reordered}
use Rattle.trace_print.specs.Prelude.{AreLinesPut, all_put}
use Rattle.trace_print.proofs.Listing.{lines_on, lines_stopped}

module _ {S : Type 0} (writes : S → List ℕ → Wrote → S → Type 0) where
  pub same_lines : (before after : S) (whole : Bool) (a b : List (List ℕ)) → a ≡ b → AreLinesPut writes before a whole after → AreLinesPut writes before b whole after
  same_lines before after whole a b is put = let P : List (List ℕ) → Type 0 = λ lines. AreLinesPut writes before lines whole after in subst P is put

  pub part_on : (before middle after : S) (all part rest : List (List ℕ)) (whole : Bool)
      → all ≡ part ++ rest → AreLinesPut writes before part true middle → AreLinesPut writes middle rest whole after → AreLinesPut writes before all whole after
  part_on before middle after all part rest whole is put more =
      same_lines before after whole (part ++ rest) all (sym is) (lines_on writes before part true middle put rest whole after refl more)

  pub part_cut : (before after : S) (all part rest : List (List ℕ))
      → all ≡ part ++ rest → AreLinesPut writes before part false after → AreLinesPut writes before all false after
  part_cut before after all part rest is put =
      same_lines before after false (part ++ rest) all (sym is) (lines_stopped writes before part false after put rest refl)

  pub no_part : (before : S) (all : List (List ℕ)) → all ≡ [] → AreLinesPut writes before all true before
  no_part before all is = same_lines before before true [] all (sym is) (all_put before)

-- the lines of a journal that isn't traced, and of one that is
pub untraced : (trace : Bool) (lines : List (List ℕ)) → trace ≡ false → (if trace then lines else []) ≡ []
untraced true lines e = absurd (true≢false e)
untraced false lines e = refl

pub traced : (trace : Bool) (lines : List (List ℕ)) → trace ≡ true → lines ≡ (if trace then lines else [])
traced true lines e = refl
traced false lines e = absurd (true≢false (sym e))

-- a journal in the order of its run's text
pub own_order : (o : Order) (journal : List Entry) → reordered o journal ≡ None → journal ≡ in_text_order o journal
own_order Journal journal is = refl
own_order Cycle journal is = absurd (cc is)

pub other_order : (o : Order) (journal other : List Entry) → reordered o journal ≡ Some other → other ≡ in_text_order o journal
other_order Journal journal other is = absurd (cc is)
other_order Cycle journal other is = let same : ordered journal ≡ other = cc is in sym same
