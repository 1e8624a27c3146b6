-- The command that `clap` is given, and what it makes of words: whether it takes them, and what it finds in them for each
-- argument. The command has a positional argument for the command's word, a last one of one or more names, and an option
-- with one value for each of the tables; `clap` adds a flag for help, which it always refuses. How `clap` reads a line, its
-- own definitions say; the command is this project's own.
use Rattle.std.specs.Prelude.{Bool, Option, Some, None, List, [], ◌∷◌, fold, map}
use Rattle.std.specs.Borrow.{Bor}
use Rattle.clap.specs.Lexer.{usize_max}
use Rattle.clap.specs.Walk.{Row, Rule, Text, is_empty, rows_of}
use Rattle.clap.specs.Simple.{App, matches_of, new_app, new_rule, with_rule}
use Rattle.clap.specs.Faults.{fault_of}
use Rattle.clap.specs.Matches.{found_of}
use Rattle.clap.specs.declared.parser.matches.ArgMatches.{ArgMatches}
use Rattle.ruby_options.specs.declared.tables.TheConstants.{PROGRAM, COMMAND, NAMES, NUMBERS, ORDER, TRACE}

abbrev pub command_rule : Rule
command_rule = new_rule COMMAND.now

abbrev pub names_rule : Rule
names_rule =
    record (new_rule NAMES.now) { range = Some (record { start_inclusive = 1; end_inclusive = usize_max }) }

-- an option with one value
abbrev pub option_rule : Text → Rule
option_rule name = record (new_rule name) { long = Some name }

abbrev pub with_option : App → Text → App
with_option app name = with_rule app (option_rule name)

-- the command without its options
abbrev pub named_command : App
named_command = with_rule (with_rule (new_app PROGRAM.now) command_rule) names_rule

-- with the options of the tables
unfoldable pub ruby_command : App
ruby_command = with_option (with_option (fold with_option named_command (map (λ o. o.0.now) NUMBERS)) TRACE.now) ORDER.now

-- the words behind the program's name
abbrev pub line_of : List Text → List Text
line_of words = PROGRAM.now ∷ words

unfoldable pub is_taken : List Text → Bool
is_taken line = is_empty (fault_of ruby_command line)

-- what is found in a line that is taken, argument by argument
unfoldable pub found_in : List Text → List Row
found_in line = matches_of ruby_command line

-- the same of what a parse gives, where there is one
abbrev pub rows_given : Option (Bor ArgMatches) → List Row
rows_given None = []
rows_given (Some m) = rows_of (found_of m.now)
