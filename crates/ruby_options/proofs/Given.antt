-- What is there, or isn't, as a list.
use Rattle.std.proofs.Common.{Bor, map, ◌≡◌, ◌∙◌, Option, Some, None, List, [], ap, option_map, refl, sym, unwrap_or}
use Rattle.clap.specs.Matches.{matched_of, raw_values}
use Rattle.clap.specs.Walk.{Text, rows_of}
use Rattle.clap.specs.declared.parser.matches.Found.{Found}
use Rattle.clap.proofs.WalkLemmas.{raw_values-rows}
use Rattle.ruby_options.specs.declared.tables.TheConstants.{NAMES}
use Rattle.ruby_options.specs.Prelude.{names_found}

pub some_list : {X Y : Type 0} (o : Option X) (f : X → List Y) (all : Option (List Y)) → option_map f o ≡ all → (x : X) → o ≡ Some x → f x ≡ unwrap_or all []
some_list o f all e x is = ap (λ a. unwrap_or a []) (sym (ap (option_map f) is) ∙ e)

pub no_list : {X Y : Type 0} (o : Option X) (f : X → List Y) (all : Option (List Y)) → option_map f o ≡ all → o ≡ None → [] ≡ unwrap_or all []
no_list o f all e is = ap (λ a. unwrap_or a []) (sym (ap (option_map f) is) ∙ e)

pub list_or_none : {X Y : Type 0} (o : Option X) (default : X) (f : X → List Y) (all : Option (List Y)) → option_map f o ≡ all → f default ≡ []
    → f (unwrap_or o default) ≡ unwrap_or all []
list_or_none {X} o default f all e none = go o ∙ ap (λ a. unwrap_or a []) e
  where
    go : (o : Option X) → f (unwrap_or o default) ≡ unwrap_or (option_map f o) []
    go None = none
    go (Some x) = refl

-- the texts behind references
abbrev pub texts : Bor (List (Bor Text)) → List Text
texts names = map (λ name. name.now) names.now

-- the names that are found, where no names are an empty list
pub names_are : (found : Found) (o : Option (Bor (List (Bor Text)))) (none : Bor (List (Bor Text))) (names : Bor (List (Bor Text)))
    → option_map texts o ≡ option_map raw_values (matched_of found NAMES.now) → names ≡ unwrap_or o none → texts none ≡ []
    → texts names ≡ names_found (rows_of found)
names_are found o none names e is empty =
    ap texts is ∙ list_or_none o none texts _ (e ∙ raw_values-rows found NAMES.now) empty
