-- What holds of all options that words ask for, and of what is answered to words.
use Rattle.std.proofs.Common.{◌≡◌, ◌≢◌, ◌∙◌, ◌⊎◌, inl, inr, ℕ, Bool, true, false, cond, Option, Some, None, Result, Ok, Err, List, [], option_and_then, refl, sym, ap, subst, IfSome}
use Rattle.std.specs.Option.{option_map_or}
use Rattle.std.specs.Result.{result_ok}
use Rattle.clap.specs.Walk.{Row, Text}
use Rattle.ruby_outside.specs.declared.library.Got.{Got}
use Rattle.ruby_outside.specs.declared.sink.Wrote.{Wrote}
use Rattle.slicc_files.specs.Prelude.{no_memory}
use Rattle.slicc_files.specs.declared.gathered.Gathered.TheVariants as gathered
use Rattle.ruby_options.specs.declared.options.Command.{Command}
use Rattle.ruby_options.specs.declared.options.Command.TheVariants.{Run, Plain, Check, Table, Code, Gen}
use Rattle.ruby_options.specs.declared.options.Options.{Options}
use Rattle.ruby_options.specs.declared.options.OptionFault.{OptionFault}
use Rattle.ruby_options.specs.declared.options.OptionFault.TheVariants.{Words, Range, NoMemory}
use Rattle.ruby_options.specs.Prelude.{IsRead, are_in_range, asked, asked_by, asked_of, by_names, command_named, command_of, count_in, counting, name_at, names_found, options_of, served, word_found, found_in, is_taken, line_of, are_digits, IsWithin}
use Rattle.ruby_options.proofs.Between.{are_within}
use Rattle.ruby_answers.specs.declared.done.Done.{Done}
use Rattle.ruby_answers.specs.Prelude.{out_of_memory, IsAnswered, IsBeginning, IsUsageAnswered, IsReadBy}
use Rattle.ruby_answers.specs.Words as words

-- over plain values, since the options that words give are long
ok-is : {A E : Type 0} (x y : A) → ◌≡◌ {A = Result A E} (Ok x) (Ok y) → x ≡ y
ok-is x y e = cc e

no-ok : {A E : Type 0} (f : E) (y : A) → ◌≡◌ {A = Result A E} (Err f) (Ok y) → ⊥
no-ok f y e = cc e

module _ (o : Options) where
  abbrev IsAllowed : Command → Type 0
  IsAllowed command = IsWithin o × (o.command ≡ command)

  in_range : (command : Command) (names : List Text) (found : List Row) (count : ℕ) → count_in command names ≡ Some count → (b : Bool) → are_in_range command found ≡ b
      → ◌≡◌ {A = Result Options OptionFault} (cond b (Ok (options_of command names count (counting command found))) (Err Range)) (Ok o) → IsAllowed command
  in_range command names found count is true range e =
      let same : options_of command names count (counting command found) ≡ o = ok-is (options_of command names count (counting command found)) o e in
      (subst IsWithin same (are_within command names count found is range), sym (ap (λ (x : Options). x.command) same))
  in_range command names found count is false range e = absurd (no-ok Range o e)

  by_count : (command : Command) (names : List Text) (found : List Row) (c : Option ℕ) → count_in command names ≡ c → asked_by names found command ≡ Ok o → IsAllowed command
  by_count command names found None is e =
      let none : ◌≡◌ {A = Result Options OptionFault} (Err Range) (Ok o) = subst (λ (k : Option ℕ). option_map_or (λ (n : ℕ). cond (are_in_range command found) (Ok (options_of command names n (counting command found))) (Err Range)) k (Err Range) ≡ Ok o) is e in
      absurd (no-ok Range o none)
  by_count command names found (Some count) is e =
      in_range command names found count is (are_in_range command found) refl
      (subst (λ (k : Option ℕ). option_map_or (λ (n : ℕ). cond (are_in_range command found) (Ok (options_of command names n (counting command found))) (Err Range)) k (Err Range) ≡ Ok o) is e)

  not_code : (b : Bool) (command : Command) → Some (cond b Plain Run) ≡ Some command → command ≢ Code
  not_code true command is code = cc (is, code)
  not_code false command is code = cc (is, code)

  is_served : (names : List Text) (c command : Command) → served names c ≡ Some command → command ≢ Code
  is_served names Run command is code = not_code (are_digits (name_at names 1)) command is code
  is_served names Plain command is code = cc (is, code)
  is_served names Check command is code = cc (is, code)
  is_served names Table command is code = cc (is, code)
  is_served names Code command is code = cc is
  is_served names Gen command is code = cc (is, code)

  is_command : (names : List Text) (n : Option Command) (command : Command) → option_and_then (served names) n ≡ Some command → command ≢ Code
  is_command names None command is code = cc is
  is_command names (Some c) command is code = is_served names c command is code

  by_command : (word : Text) (names : List Text) (found : List Row) (k : Option Command) → command_of word names ≡ k → option_map_or (asked_by names found) k (Err Words) ≡ Ok o
      → IsWithin o × (o.command ≢ Code)
  by_command word names found None is e = absurd (no-ok Words o e)
  by_command word names found (Some command) is e =
      let allowed = by_count command names found (count_in command names) refl e in
      (allowed.0, λ code. is_command names _ command is (sym allowed.1 ∙ code))

  taken : (found : List Row) → asked_of found ≡ Ok o → IsWithin o × (o.command ≢ Code)
  taken found e = by_command (word_found found) (names_found found) found (command_of (word_found found) (names_found found)) refl e

  if_taken : (b : Bool) (found : List Row) → cond b (asked_of found) (Err Words) ≡ Ok o → IsWithin o × (o.command ≢ Code)
  if_taken true found e = taken found e
  if_taken false found e = absurd (no-ok Words o e)

  pub asked_is : (line : List Text) → asked line ≡ Ok o → IsWithin o × (o.command ≢ Code)
  asked_is line e = if_taken (is_taken (line_of line)) (found_in (line_of line)) e

-- what was read of words, if memory didn't run out
pub was_asked : (line : List Text) (o : Options) → IsRead (asked line) (Ok o) → asked line ≡ Ok o
was_asked line o (inl none) = absurd (cc none)
was_asked line o (inr is) = sym is

pub was_refused : (line : List Text) (fault : OptionFault) → fault ≢ NoMemory → IsRead (asked line) (Err fault) → words.asked_by line ≡ None
was_refused line fault some (inl none) = absurd (some (cc none))
was_refused line fault some (inr is) = ap result_ok (sym is)

within_of : (line : List Text) (r : Result Options OptionFault) → asked line ≡ r → IfSome (result_ok r) IsWithin
within_of line (Ok o) is = (asked_is o line is).0
within_of line (Err fault) is = tt

pub within_asked : (line : List Text) → IfSome (words.asked_by line) IsWithin
within_asked line = within_of line (asked line) refl

-- a call that reads nothing

read_nothing : (command : Command) (o : Options) → IsReadBy command o [] gathered.NoMemory
read_nothing Run o = no_memory
read_nothing Plain o = no_memory
read_nothing Check o = no_memory
read_nothing Table o = no_memory
read_nothing Code o = no_memory
read_nothing Gen o = (refl, ([], tt, no_memory))

beginning : (asked : Option Options) → IsBeginning asked []
beginning None = refl
beginning (Some o) = inl (read_nothing o.command o)

module _ {L S : Type 0} (reads : L → List ℕ → ℕ → Got → L → Type 0) (writes : S → List ℕ → Wrote → S → Type 0) (library : L) (sink : S) where
  pub not_read : (asked : Option Options) (d : Done) → d ≡ out_of_memory → IsAnswered reads writes asked library library sink sink d
  not_read asked d done = record { made = []; are_made = refl; ended = inl (record { beginning = beginning asked; untouched = refl; done_is = done }) }

  pub nothing_asked : (asked : Option Options) (sink' : S) (d : Done) → asked ≡ None → IsUsageAnswered writes sink sink' d → IsAnswered reads writes asked library library sink sink' d
  nothing_asked asked sink' d none usage =
      subst (λ (x : Option Options). IsAnswered reads writes x library library sink sink' d) (sym none)
      (record { made = []; are_made = refl; ended = usage })
