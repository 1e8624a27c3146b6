-- What a parse by clap says of a line, where the command is the program's.
use Rattle.std.proofs.Common.{◌≡◌, ◌∷◌, [], true, false, List, ap, fold, map, subst, refl, inl, inr, arith}
use Rattle.std.proofs.lemmas.Bool.{ne_eqb}
use Rattle.clap.specs.Faults.{fault_of, is_simple_and_free}
use Rattle.clap.specs.Kinds.{HasKind, IsAmong, Kinds}
use Rattle.clap.specs.Matches.{found_of}
use Rattle.clap.specs.Simple.{App, HasMatchesOf, is_simple}
use Rattle.clap.specs.Values.{kind_of}
use Rattle.clap.specs.Walk.{Text, is_empty, rows_of}
use Rattle.clap.specs.declared.error.Error.{Error}
use Rattle.clap.specs.declared.error.kind.ErrorKind.{ErrorKind}
use Rattle.clap.specs.declared.error.kind.ErrorKind.TheVariants.{OutOfMemory}
use Rattle.clap.specs.declared.parser.matches.ArgMatches.{ArgMatches}
use Rattle.ruby_options.specs.Prelude.{found_in, is_taken, named_command, ruby_command, with_option}
use Rattle.ruby_options.specs.declared.tables.TheConstants.{NUMBERS, ORDER, TRACE}

pub whole : with_option (with_option (fold with_option named_command (map (λ o. o.0.now) NUMBERS)) TRACE.now) ORDER.now ≡ ruby_command
unfolding ruby_command
whole = refl

is_free : is_simple_and_free ruby_command ≡ true
unfolding ruby_command
is_free = refl

is_plain : is_simple ruby_command ≡ true
unfolding ruby_command
is_plain = refl

not_empty : (kinds : Kinds) (k : ErrorKind) → IsAmong k kinds → is_empty kinds ≡ false
not_empty [] k among = absurd among
not_empty (x ∷ xs) k among = ne_eqb _ _ (λ e. omega arith)

pub taken : (app : App) (line : List Text) → app ≡ ruby_command → (is_simple_and_free app ≡ true → fault_of app line ≡ []) → is_taken line ≡ true
unfolding is_taken
taken app line is free =
    ap is_empty (subst (λ a. is_simple_and_free a ≡ true → fault_of a line ≡ []) is free is_free)

pub rows : (app : App) (line : List Text) (m : ArgMatches) → app ≡ ruby_command → HasMatchesOf app line m → rows_of (found_of m) ≡ found_in line
unfolding found_in
rows app line m is matches = (subst (λ a. HasMatchesOf a line m) is matches is_plain).0

pub refused : (app : App) (line : List Text) (e : Error) → app ≡ ruby_command → (is_simple_and_free app ≡ true → HasKind (fault_of app line) e)
    → (kind_of e ≡ OutOfMemory → ⊥) → is_taken line ≡ false
unfolding is_taken
refused app line e is kinds other =
    elim (subst (λ a. is_simple_and_free a ≡ true → HasKind (fault_of a line) e) is kinds is_free) [
      | inl memory ↦ absurd (other memory)
      | inr among ↦ not_empty (fault_of ruby_command line) (kind_of e) among
    ]
