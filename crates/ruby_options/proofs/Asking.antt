-- What is asked by what clap makes of the line of the words.
use Rattle.std.proofs.Common.{◌≡◌, ◌∙◌, ◌⊎◌, Bool, true, false, cond, Result, Err, List, ap, inl, inr, sym}
use Rattle.clap.specs.Walk.{Row, Text}
use Rattle.ruby_options.specs.declared.options.Options.{Options}
use Rattle.ruby_options.specs.declared.options.OptionFault.{OptionFault}
use Rattle.ruby_options.specs.declared.options.OptionFault.TheVariants.{Words, NoMemory}
use Rattle.ruby_options.specs.Prelude.{found_in, is_taken, line_of, IsRead, asked, asked_of}

abbrev if_taken : List Text → Bool → Result Options OptionFault
if_taken words b = cond b (asked_of (found_in (line_of words))) (Err Words)

module _ (words line : List Text) (l : line ≡ line_of words) where
  pub of_taken : (found : List Row) (r : Result Options OptionFault) → is_taken line ≡ true → found ≡ found_in line → IsRead (asked_of found) r
      → IsRead (asked words) r
  of_taken found r taken f is =
      let same : asked_of found ≡ asked words =
      ap asked_of (f ∙ ap found_in l) ∙ sym (ap (if_taken words) (sym (ap is_taken l) ∙ taken)) in
      elim is [ inl m ↦ inl m | inr e ↦ inr (e ∙ same) ]

  pub of_fault : (fault : OptionFault) → (fault ≡ NoMemory) ⊎ ((fault ≡ Words) × (is_taken line ≡ false)) → IsRead (asked words) (Err fault)
  of_fault fault is =
      elim is [
        | inl m ↦ inl (ap (λ (f : OptionFault). Err f) m)
        | inr refused ↦ inr (ap (λ (f : OptionFault). Err f) refused.0 ∙ sym (ap (if_taken words) (sym (ap is_taken l) ∙ refused.1)))
      ]
