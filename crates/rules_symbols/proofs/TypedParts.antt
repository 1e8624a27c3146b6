-- What typing rests on beside trees: kinds of values of types, and structures of a machine's lines.
use Rattle.std.proofs.Common.{◌≡◌, ◌∙◌, ◌++◌, ◌||◌, ℕ, Bool, true, false, cond, Option, None, Some, List, [], ◌∷◌, refl, sym, ap}
use Rattle.std.proofs.lemmas.List.Folds.{list_any-append}
use Rattle.ruby_value.specs.declared.kind.Kind.{Kind}
use Rattle.ruby_value.specs.declared.kind.Kind.TheVariants as kind
use Rattle.slicc_ast.specs.declared.tree.declaration.Structure.{Structure}
use Rattle.slicc_ast.specs.declared.tree.expression.Operator.{Operator}
use Rattle.slicc_ast.specs.declared.tree.expression.Operator.TheVariants.{Or, And, Equal, Unequal, Plus, Minus, Times}
use Rattle.slicc_ast.specs.declared.tree.item.Tree.{Tree}
use Rattle.slicc_ast.specs.declared.tree.machine.Machine.{Machine}
use Rattle.slicc_plan.specs.declared.broken.Broken.{Broken}
use Rattle.slicc_plan.specs.declared.built_in.BuiltInType.{BuiltInType}
use Rattle.slicc_plan.specs.declared.built_in.BuiltInType.TheVariants.{AbstractEntry, Int, Bool as Boolean}
use Rattle.slicc_plan.specs.Buffers.{is_same_known, listed}
use Rattle.slicc_plan.specs.BuiltIn.{Nature, number, boolean, address, enumeration, other_value, structure, is_among, is_table_nature, members_of, nature_of}
use Rattle.slicc_plan.specs.BuiltIn as natures
use Rattle.slicc_plan.specs.BuiltInCalls.{Answer, no_value, answered, line}
use Rattle.slicc_plan.specs.Declarations.{Scope, within, machine_names}
use Rattle.slicc_plan.specs.Environment.{Bound, Environment, known_in_bodies, type_named, type_unless, value_named}
use Rattle.slicc_plan.specs.ExpressionTypes.{enumeration_members, is_enumeration_nature, operator_type}
use Rattle.slicc_plan.specs.FieldTypes.{may_be_field}
use Rattle.slicc_plan.specs.Machines.{directory_structure, entry_structure, tbe_structure}
use Rattle.slicc_plan.specs.Meanings.{is_line_of, line_structures, Meaning, value, no_line, bare_line, new_line, incoming, outgoing, table as table_meaning, in_port as in_port_meaning, out_port as out_port_meaning, nothing as nothing_meaning, unknown, agree, is_line, is_number, is_value}
use Rattle.slicc_plan.specs.TypeNumbers.{built_in_kind}
use Rattle.slicc_plan.specs.Types.{KnownType, built_in, enumerated, structured, is_built_in, nature_in, type_in}
use Rattle.rules_symbols.specs.Fitting.{IsLike, IsSure}
use Rattle.rules_symbols.specs.TypedMeaning.{IsTyped}
use Rattle.rules_symbols.proofs.Types.{built_in_same, known_alike}
use Rattle.rules_symbols.proofs.ValueKinds.{structure_itself, structure_turned}
use Rattle.rules_symbols.proofs.WhatFits.{no_other_line}

-- something that is known isn't told
pub typed_sure : (trees : List Tree) (m : Machine) (meaning : Meaning) → IsTyped trees m meaning → IsSure meaning
typed_sure trees m (value t) is = refl
typed_sure trees m no_line is = refl
typed_sure trees m bare_line is = refl
typed_sure trees m (new_line made) is = absurd is
typed_sure trees m (incoming t) is = refl
typed_sure trees m (outgoing t) is = refl
typed_sure trees m (table_meaning b) is = refl
typed_sure trees m (in_port_meaning t) is = refl
typed_sure trees m (out_port_meaning t) is = refl
typed_sure trees m nothing_meaning is = refl
typed_sure trees m unknown is = absurd is

-- what is told is broken
pub told_last : (bs : List Broken) (b : Broken) → bs ++ b ∷ [] ≡ [] → ⊥
told_last [] b none = cc none
told_last (c ∷ bs) b none = cc none

-- values of built-in types
pub built_in_typed : (trees : List Tree) (m : Machine) (b : BuiltInType) (k : Kind) → may_be_field (nature_of b) ≡ true → built_in_kind b ≡ Some k → IsTyped trees m (value (built_in b))
built_in_typed trees m b k may is = (may, tt, (k, is))

pub int_typed : (trees : List Tree) (m : Machine) → IsTyped trees m (value (built_in Int))
int_typed trees m = (refl, tt, (kind.Int, refl))

pub bool_typed : (trees : List Tree) (m : Machine) → IsTyped trees m (value (built_in Boolean))
bool_typed trees m = (refl, tt, (kind.Bool, refl))

pub operator_typed : (trees : List Tree) (m : Machine) (o : Operator) → IsTyped trees m (value (built_in (operator_type o)))
operator_typed trees m Plus = int_typed trees m
operator_typed trees m Minus = int_typed trees m
operator_typed trees m Times = int_typed trees m
operator_typed trees m Or = bool_typed trees m
operator_typed trees m And = bool_typed trees m
operator_typed trees m Equal = bool_typed trees m
operator_typed trees m Unequal = bool_typed trees m
operator_typed trees m _ = bool_typed trees m

-- The types that names stand for.

pub known_same : (o : Option KnownType) (t : KnownType) → known_in_bodies o ≡ Some t → o ≡ Some t
known_same o t is = by (is_built_in AbstractEntry o) is
  where
    by : (b : Bool) → cond b None o ≡ Some t → o ≡ Some t
    by true none = absurd (cc none)
    by false some = some

pub type_in_of : (env : Environment) (text : List ℕ) (t : KnownType) → type_named env text ≡ Some t → type_in env.trees (within env.machine) text ≡ Some t
type_in_of env text t is = by (value_named env text) is
  where
    by : (b : Option Bound) → type_unless env text b ≡ Some t → type_in env.trees (within env.machine) text ≡ Some t
    by (Some b) none = absurd (cc none)
    by None some = known_same (type_in env.trees (within env.machine) text) t some

-- Members, casts and calls.

pub enumeration_valued : (n : Nature) → is_enumeration_nature n ≡ true → may_be_field n ≡ true
enumeration_valued enumeration is = refl
enumeration_valued number is = absurd (cc is)
enumeration_valued boolean is = absurd (cc is)
enumeration_valued address is = absurd (cc is)
enumeration_valued other_value is = absurd (cc is)
enumeration_valued structure is = absurd (cc is)
enumeration_valued natures.table is = absurd (cc is)
enumeration_valued natures.nothing is = absurd (cc is)

pub members_valued : (trees : List Tree) (m : Machine) (t : KnownType) (members : List (List ℕ)) → enumeration_members trees t ≡ Some members → is_value m t ≡ true
members_valued trees m (built_in b) members is = by (is_enumeration_nature (nature_of b)) refl is
  where
    by : (v : Bool) → is_enumeration_nature (nature_of b) ≡ v → cond v (Some (members_of (machine_names trees) b)) None ≡ Some members → may_be_field (nature_of b) ≡ true
    by true enum some = enumeration_valued (nature_of b) enum
    by false enum none = absurd (cc none)
members_valued trees m (enumerated scope text names) members is = refl
members_valued trees m (structured scope s) members is = absurd (cc is)

pub number_valued : (m : Machine) (t : KnownType) → is_number (nature_in t) ≡ true → is_value m t ≡ true
number_valued m (built_in b) is = by (nature_of b) is
  where
    by : (n : Nature) → is_number n ≡ true → may_be_field n ≡ true
    by number so = refl
    by boolean so = absurd (cc so)
    by address so = absurd (cc so)
    by enumeration so = absurd (cc so)
    by other_value so = absurd (cc so)
    by structure so = absurd (cc so)
    by natures.table so = absurd (cc so)
    by natures.nothing so = absurd (cc so)
number_valued m (enumerated scope text members) is = refl
number_valued m (structured scope s) is = absurd (cc is)

pub line_alike : (m : Machine) (a b : Scope) (s t : Structure) (ss : List Structure) → is_same_known (structured a s) (structured b t) ≡ true → is_line_of m ss (structured b t) ≡ true → is_line_of m ss (structured a s) ≡ true
line_alike m a b s t [] same is = absurd (cc is)
line_alike m a b s t (u ∷ us) same is = by (is_same_known (structured (within m) u) (structured b t)) refl is (λ rest. line_alike m a b s t us same rest)
  where
    first : (x y : Bool) → x ≡ true → (x || y) ≡ true
    first true y e = refl
    first false y e = absurd (cc e)

    second : (x y : Bool) → y ≡ true → (x || y) ≡ true
    second true y e = refl
    second false y e = e

    by : (v : Bool) → is_same_known (structured (within m) u) (structured b t) ≡ v → (v || is_line_of m us (structured b t)) ≡ true → (is_line_of m us (structured b t) ≡ true → is_line_of m us (structured a s) ≡ true)
        → (is_same_known (structured (within m) u) (structured a s) || is_line_of m us (structured a s)) ≡ true
    by true one all in_rest =
        first (is_same_known (structured (within m) u) (structured a s)) (is_line_of m us (structured a s))
        (known_alike (structured (within m) u) (structured b t) one (structured a s) ∙ structure_turned a b s t same)
    by false other all in_rest = second (is_same_known (structured (within m) u) (structured a s)) (is_line_of m us (structured a s)) (in_rest all)

pub same_valued : (m : Machine) (t u : KnownType) → is_same_known t u ≡ true → is_value m u ≡ true → is_value m t ≡ true
same_valued m (built_in b) (built_in c) same valued = ap (λ d. may_be_field (nature_of d)) (built_in_same b c same) ∙ valued
same_valued m (enumerated a s members) u same valued = refl
same_valued m (structured a s) (structured b t) same valued = line_alike m a b s t (line_structures m) same valued
same_valued m (built_in b) (enumerated c u symbols) same valued = absurd (cc same)
same_valued m (built_in b) (structured c u) same valued = absurd (cc same)
same_valued m (structured a s) (built_in c) same valued = absurd (cc same)
same_valued m (structured a s) (enumerated c u symbols) same valued = absurd (cc same)

pub agreed_valued : (m : Machine) (t u : KnownType) → agree t u ≡ true → is_value m u ≡ true → is_value m t ≡ true
agreed_valued m t u is valued = by (is_number (nature_in t)) refl is
  where
    by : (b : Bool) → is_number (nature_in t) ≡ b → cond b (is_number (nature_in u)) (is_same_known t u) ≡ true → is_value m t ≡ true
    by true so other = number_valued m t so
    by false so same = same_valued m t u same valued

pub line_valued_type : (m : Machine) (t : KnownType) → is_line m t ≡ true → is_value m t ≡ true
line_valued_type m (structured scope s) is = is
line_valued_type m (enumerated scope text members) is = refl
line_valued_type m (built_in b) is = absurd (cc (sym is ∙ no_other_line m (line_structures m) (built_in b) (λ scope s e. cc e)))

-- what is cast to a type is a value of it
pub like_valued : (trees : List Tree) (m : Machine) (t : KnownType) (meaning : Meaning) → IsTyped trees m meaning → IsLike m t meaning → is_value m t ≡ true
like_valued trees m t (value u) is like = agreed_valued m t u like is.0
like_valued trees m t no_line is like = line_valued_type m t like
like_valued trees m t bare_line is like = absurd like
like_valued trees m t (new_line made) is like = absurd like
like_valued trees m t (incoming u) is like = absurd like
like_valued trees m t (outgoing u) is like = absurd like
like_valued trees m t (table_meaning c) is like = absurd like
like_valued trees m t (in_port_meaning u) is like = absurd like
like_valued trees m t (out_port_meaning u) is like = absurd like
like_valued trees m t nothing_meaning is like = absurd like
like_valued trees m t unknown is like = absurd like

pub told_among : (bs cs : List Broken) (b : Broken) → bs ++ b ∷ cs ≡ [] → ⊥
told_among [] cs b none = cc none
told_among (c ∷ bs) cs b none = cc none

abbrev pub answer_valued : Answer → Bool
answer_valued no_value = true
answer_valued (answered b) = may_be_field (nature_of b)
answer_valued line = true

-- a machine's own structure of lines is a type of lines
pub own_line : (m : Machine) (own : Option Structure) (s : Structure) → own ≡ Some s → is_line_of m (listed own) (structured (within m) s) ≡ true
own_line m None s is = absurd (cc is)
own_line m (Some u) s is =
    let same : u ≡ s = cc is in
    let itself : is_same_known (structured (within m) u) (structured (within m) s) ≡ true = ap (λ (x : Structure). is_same_known (structured (within m) u) (structured (within m) x)) (sym same) ∙ structure_itself (within m) u in
    ap (λ b. b || false) itself

pub three_lines : (m : Machine) (t : KnownType) (a b c : Bool) → is_line_of m (listed (entry_structure m)) t ≡ a → is_line_of m (listed (directory_structure m)) t ≡ b → is_line_of m (listed (tbe_structure m)) t ≡ c → is_line m t ≡ ((a || b) || c)
three_lines m t a b c first second third =
    let p : Structure → Bool = λ (s : Structure). is_same_known (structured (within m) s) t in
    list_any-append p (listed (entry_structure m) ++ listed (directory_structure m)) (listed (tbe_structure m))
    ∙ ap (λ v. v || is_line_of m (listed (tbe_structure m)) t) (list_any-append p (listed (entry_structure m)) (listed (directory_structure m)))
    ∙ ap (λ v. (v || is_line_of m (listed (directory_structure m)) t) || is_line_of m (listed (tbe_structure m)) t) first
    ∙ ap (λ v. (a || v) || is_line_of m (listed (tbe_structure m)) t) second ∙ ap (λ v. (a || b) || v) third

pub entry_line : (m : Machine) (s : Structure) → entry_structure m ≡ Some s → is_line m (structured (within m) s) ≡ true
entry_line m s is = three_lines m (structured (within m) s) true _ _ (own_line m (entry_structure m) s is) refl refl

pub or_true : (a b : Bool) → ((a || true) || b) ≡ true
or_true true b = refl
or_true false b = refl

pub or_last : (a : Bool) → (a || true) ≡ true
or_last true = refl
or_last false = refl

pub directory_line : (m : Machine) (s : Structure) → directory_structure m ≡ Some s → is_line m (structured (within m) s) ≡ true
directory_line m s is =
    let t : KnownType = structured (within m) s in
    three_lines m t (is_line_of m (listed (entry_structure m)) t) true (is_line_of m (listed (tbe_structure m)) t) refl (own_line m (directory_structure m) s is) refl
    ∙ or_true (is_line_of m (listed (entry_structure m)) t) (is_line_of m (listed (tbe_structure m)) t)

pub tbe_line_is : (m : Machine) (s : Structure) → tbe_structure m ≡ Some s → is_line m (structured (within m) s) ≡ true
tbe_line_is m s is =
    let t : KnownType = structured (within m) s in
    let front = is_line_of m (listed (entry_structure m)) t || is_line_of m (listed (directory_structure m)) t in
    three_lines m t (is_line_of m (listed (entry_structure m)) t) (is_line_of m (listed (directory_structure m)) t) true refl refl (own_line m (tbe_structure m) s is)
    ∙ or_last (is_line_of m (listed (entry_structure m)) t || is_line_of m (listed (directory_structure m)) t)
