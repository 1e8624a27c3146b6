-- What is left of a meaning that fits what is wanted.
use Rattle.std.proofs.Common.{◌≡◌, ◌∙◌, ◌||◌, ℕ, Bool, true, false, cond, Option, None, Some, List, [], ◌∷◌, refl, sym, ap, option_and_then}
use Rattle.ruby_value.specs.declared.kind.Kind.{Kind}
use Rattle.ruby_value.specs.declared.kind.Kind.TheVariants as kind
use Rattle.ruby_value.specs.Prelude.{is_reference}
use Rattle.slicc_ast.specs.declared.tree.declaration.Structure.{Structure}
use Rattle.slicc_ast.specs.declared.tree.item.Tree.{Tree}
use Rattle.slicc_ast.specs.declared.tree.machine.Machine.{Machine}
use Rattle.slicc_ast.specs.declared.tree.span.Span.{Span}
use Rattle.slicc_plan.specs.declared.broken.Rule.{Rule}
use Rattle.slicc_plan.specs.declared.built_in.BuiltInType.{BuiltInType}
use Rattle.slicc_plan.specs.declared.built_in.BuiltInType.TheVariants.{Address}
use Rattle.slicc_plan.specs.Declarations.{Scope}
use Rattle.slicc_plan.specs.Machines.{directory_structure, entry_structure, tbe_structure}
use Rattle.slicc_plan.specs.Meanings.{Meaning, value, no_line, bare_line, new_line, incoming, outgoing, table, in_port, out_port, nothing, unknown, one_of, any_line, only_no_line, comparable, address_or_line_of, table_of, any_in_port, any_out_port, agree, fits, is_line, is_line_of, line_structures, unless}
use Rattle.slicc_plan.specs.TypeNumbers.{is_its, reference_kind, structure_number, value_kind}
use Rattle.slicc_plan.specs.Types.{KnownType, built_in, enumerated, structured}
use Rattle.rules_symbols.specs.Fitting.{IsAddressOrLine, IsAnyLine, IsComparable, IsInPort, IsLike, IsNoLine, IsOfKind, IsOutPort, IsSure, IsTable}
use Rattle.rules_symbols.proofs.Types.{built_in_same, kinds_agree}

-- what isn't told holds
pub untold : (b : Bool) (rule : Rule) (place : Span) → unless b rule place ≡ [] → b ≡ true
untold true rule place none = refl
untold false rule place none = absurd (cc none)

alone : (b : Bool) → (b || false) ≡ true → b ≡ true
alone true is = refl
alone false is = is

either_one : (a b : Bool) → (a || (b || false)) ≡ true → (a || b) ≡ true
either_one true b is = refl
either_one false b is = alone b is

-- a value of a type
pub like_fits : (m : Machine) (t : KnownType) (meaning : Meaning) → fits m (one_of (t ∷ [])) meaning ≡ true → IsSure meaning → IsLike m t meaning
like_fits m t (value t') fit sure = alone (agree t t') fit
like_fits m t no_line fit sure = alone (is_line m t) fit
like_fits m t bare_line fit sure = absurd (cc fit)
like_fits m t (new_line made) fit sure = absurd (cc sure)
like_fits m t (incoming u) fit sure = absurd (cc fit)
like_fits m t (outgoing u) fit sure = absurd (cc fit)
like_fits m t (table c) fit sure = absurd (cc fit)
like_fits m t (in_port u) fit sure = absurd (cc fit)
like_fits m t (out_port u) fit sure = absurd (cc fit)
like_fits m t nothing fit sure = absurd (cc fit)
like_fits m t unknown fit sure = absurd (cc sure)

-- a reference
pub any_line_fits : (m : Machine) (meaning : Meaning) → fits m any_line meaning ≡ true → IsSure meaning → IsAnyLine m meaning
any_line_fits m (value t') fit sure = fit
any_line_fits m no_line fit sure = tt
any_line_fits m bare_line fit sure = tt
any_line_fits m (new_line made) fit sure = absurd (cc sure)
any_line_fits m (incoming u) fit sure = absurd (cc fit)
any_line_fits m (outgoing u) fit sure = absurd (cc fit)
any_line_fits m (table c) fit sure = absurd (cc fit)
any_line_fits m (in_port u) fit sure = absurd (cc fit)
any_line_fits m (out_port u) fit sure = absurd (cc fit)
any_line_fits m nothing fit sure = absurd (cc fit)
any_line_fits m unknown fit sure = absurd (cc sure)

-- `OOD`
pub no_line_is : (m : Machine) (meaning : Meaning) → fits m only_no_line meaning ≡ true → IsSure meaning → IsNoLine meaning
no_line_is m (value t') fit sure = absurd (cc fit)
no_line_is m no_line fit sure = tt
no_line_is m bare_line fit sure = absurd (cc fit)
no_line_is m (new_line made) fit sure = absurd (cc sure)
no_line_is m (incoming u) fit sure = absurd (cc fit)
no_line_is m (outgoing u) fit sure = absurd (cc fit)
no_line_is m (table c) fit sure = absurd (cc fit)
no_line_is m (in_port u) fit sure = absurd (cc fit)
no_line_is m (out_port u) fit sure = absurd (cc fit)
no_line_is m nothing fit sure = absurd (cc fit)
no_line_is m unknown fit sure = absurd (cc sure)

-- what is compared
pub comparable_fits : (m : Machine) (meaning : Meaning) → fits m comparable meaning ≡ true → IsSure meaning → IsComparable m meaning
comparable_fits m (value t') fit sure = fit
comparable_fits m no_line fit sure = absurd (cc fit)
comparable_fits m bare_line fit sure = absurd (cc fit)
comparable_fits m (new_line made) fit sure = absurd (cc sure)
comparable_fits m (incoming u) fit sure = absurd (cc fit)
comparable_fits m (outgoing u) fit sure = absurd (cc fit)
comparable_fits m (table c) fit sure = absurd (cc fit)
comparable_fits m (in_port u) fit sure = absurd (cc fit)
comparable_fits m (out_port u) fit sure = absurd (cc fit)
comparable_fits m nothing fit sure = absurd (cc fit)
comparable_fits m unknown fit sure = absurd (cc sure)

-- a table, whose sort is the one wanted
pub table_is : (m : Machine) (b : BuiltInType) (meaning : Meaning) → fits m (table_of b) meaning ≡ true → IsSure meaning → IsTable b meaning
table_is m b (value t') fit sure = absurd (cc fit)
table_is m b no_line fit sure = absurd (cc fit)
table_is m b bare_line fit sure = absurd (cc fit)
table_is m b (new_line made) fit sure = absurd (cc sure)
table_is m b (incoming u) fit sure = absurd (cc fit)
table_is m b (outgoing u) fit sure = absurd (cc fit)
table_is m b (table c) fit sure = built_in_same b c fit
table_is m b (in_port u) fit sure = absurd (cc fit)
table_is m b (out_port u) fit sure = absurd (cc fit)
table_is m b nothing fit sure = absurd (cc fit)
table_is m b unknown fit sure = absurd (cc sure)

-- a port
pub in_port_is : (m : Machine) (meaning : Meaning) → fits m any_in_port meaning ≡ true → IsSure meaning → IsInPort meaning
in_port_is m (value t') fit sure = absurd (cc fit)
in_port_is m no_line fit sure = absurd (cc fit)
in_port_is m bare_line fit sure = absurd (cc fit)
in_port_is m (new_line made) fit sure = absurd (cc sure)
in_port_is m (incoming u) fit sure = absurd (cc fit)
in_port_is m (outgoing u) fit sure = absurd (cc fit)
in_port_is m (table c) fit sure = absurd (cc fit)
in_port_is m (in_port u) fit sure = tt
in_port_is m (out_port u) fit sure = absurd (cc fit)
in_port_is m nothing fit sure = absurd (cc fit)
in_port_is m unknown fit sure = absurd (cc sure)

-- a port
pub out_port_is : (m : Machine) (meaning : Meaning) → fits m any_out_port meaning ≡ true → IsSure meaning → IsOutPort meaning
out_port_is m (value t') fit sure = absurd (cc fit)
out_port_is m no_line fit sure = absurd (cc fit)
out_port_is m bare_line fit sure = absurd (cc fit)
out_port_is m (new_line made) fit sure = absurd (cc sure)
out_port_is m (incoming u) fit sure = absurd (cc fit)
out_port_is m (outgoing u) fit sure = absurd (cc fit)
out_port_is m (table c) fit sure = absurd (cc fit)
out_port_is m (in_port u) fit sure = absurd (cc fit)
out_port_is m (out_port u) fit sure = tt
out_port_is m nothing fit sure = absurd (cc fit)
out_port_is m unknown fit sure = absurd (cc sure)

-- an address or a reference
pub address_or_line_fits : (m : Machine) (line : Option KnownType) (meaning : Meaning) → fits m (address_or_line_of line) meaning ≡ true → IsSure meaning → IsAddressOrLine m line meaning
address_or_line_fits m None (value t') fit sure = alone (agree (built_in Address) t') fit
address_or_line_fits m (Some t) (value t') fit sure = either_one (agree (built_in Address) t') (agree t t') fit
address_or_line_fits m None no_line fit sure = tt
address_or_line_fits m (Some t) no_line fit sure = tt
address_or_line_fits m None bare_line fit sure = absurd (cc fit)
address_or_line_fits m (Some t) bare_line fit sure = absurd (cc fit)
address_or_line_fits m None (new_line made) fit sure = absurd (cc sure)
address_or_line_fits m (Some t) (new_line made) fit sure = absurd (cc sure)
address_or_line_fits m None (incoming u) fit sure = absurd (cc fit)
address_or_line_fits m (Some t) (incoming u) fit sure = absurd (cc fit)
address_or_line_fits m None (outgoing u) fit sure = absurd (cc fit)
address_or_line_fits m (Some t) (outgoing u) fit sure = absurd (cc fit)
address_or_line_fits m None (table c) fit sure = absurd (cc fit)
address_or_line_fits m (Some t) (table c) fit sure = absurd (cc fit)
address_or_line_fits m None (in_port u) fit sure = absurd (cc fit)
address_or_line_fits m (Some t) (in_port u) fit sure = absurd (cc fit)
address_or_line_fits m None (out_port u) fit sure = absurd (cc fit)
address_or_line_fits m (Some t) (out_port u) fit sure = absurd (cc fit)
address_or_line_fits m None nothing fit sure = absurd (cc fit)
address_or_line_fits m (Some t) nothing fit sure = absurd (cc fit)
address_or_line_fits m None unknown fit sure = absurd (cc sure)
address_or_line_fits m (Some t) unknown fit sure = absurd (cc sure)

-- Kinds.

-- what has the kind of references of a type is a reference
its_reference : (m : Machine) (scope : Scope) (s : Structure) (n : ℕ) (k : Kind) → reference_kind m scope s n ≡ Some k → is_reference k ≡ true
its_reference m scope s n k is = by (is_its m scope s (tbe_structure m)) (is_its m scope s (entry_structure m) || is_its m scope s (directory_structure m)) is
  where
    by : (a b : Bool) → cond a (Some (kind.Tbe n)) (cond b (Some (kind.Entry n)) None) ≡ Some k → is_reference k ≡ true
    by true b is = let same : kind.Tbe n ≡ k = cc is in sym (ap is_reference same) ∙ refl
    by false true is = let same : kind.Entry n ≡ k = cc is in sym (ap is_reference same) ∙ refl
    by false false is = absurd (cc is)

pub structure_kind : (trees : List Tree) (m : Machine) (scope : Scope) (s : Structure) (k : Kind) → value_kind trees m (structured scope s) ≡ Some k → is_reference k ≡ true
structure_kind trees m scope s k is = by (structure_number trees (structured scope s)) is
  where
    by : (o : Option ℕ) → option_and_then (reference_kind m scope s) o ≡ Some k → is_reference k ≡ true
    by None is = absurd (cc is)
    by (Some n) is = its_reference m scope s n k is

-- only structures are types of lines
pub no_other_line : (m : Machine) (ss : List Structure) (t : KnownType) → ((scope : Scope) (s : Structure) → t ≡ structured scope s → ⊥) → is_line_of m ss t ≡ false
no_other_line m [] t not = refl
no_other_line m (s ∷ ss) (built_in b) not = no_other_line m ss (built_in b) not
no_other_line m (s ∷ ss) (enumerated scope text members) not = no_other_line m ss (enumerated scope text members) not
no_other_line m (s ∷ ss) (structured scope u) not = absurd (not scope u refl)

pub line_kinds : (trees : List Tree) (m : Machine) (t : KnownType) (k : Kind) → is_line m t ≡ true → value_kind trees m t ≡ Some k → is_reference k ≡ true
line_kinds trees m (structured scope s) k line is = structure_kind trees m scope s k is
line_kinds trees m (built_in b) k line is = absurd (cc (sym line ∙ no_other_line m (line_structures m) (built_in b) (λ scope s e. cc e)))
line_kinds trees m (enumerated scope text members) k line is =
    absurd (cc (sym line ∙ no_other_line m (line_structures m) (enumerated scope text members) (λ a s e. cc e)))

-- what serves as a value of a type has the kind of its values
pub like_kind : (trees : List Tree) (m : Machine) (t : KnownType) (k : Kind) (meaning : Meaning) → value_kind trees m t ≡ Some k → IsLike m t meaning → IsOfKind trees m k meaning
like_kind trees m t k (value u) is like = sym (kinds_agree trees m t u like) ∙ is
like_kind trees m t k no_line is like = line_kinds trees m t k like is
like_kind trees m t k bare_line is like = absurd like
like_kind trees m t k (new_line made) is like = absurd like
like_kind trees m t k (incoming u) is like = absurd like
like_kind trees m t k (outgoing u) is like = absurd like
like_kind trees m t k (table c) is like = absurd like
like_kind trees m t k (in_port u) is like = absurd like
like_kind trees m t k (out_port u) is like = absurd like
like_kind trees m t k nothing is like = absurd like
like_kind trees m t k unknown is like = absurd like

pub kind_fits : (trees : List Tree) (m : Machine) (t : KnownType) (k : Kind) (meaning : Meaning) → value_kind trees m t ≡ Some k → fits m (one_of (t ∷ [])) meaning ≡ true → IsSure meaning → IsOfKind trees m k meaning
kind_fits trees m t k meaning is fit sure = like_kind trees m t k meaning is (like_fits m t meaning fit sure)
