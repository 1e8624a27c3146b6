-- What is told of a call doesn't depend on what is broken in its parts, but for the first.
use Rattle.std.proofs.Common.{◌≡◌, ◌∙◌, ◌++◌, ◌+◌, ◌&&◌, ℕ, Bool, true, false, cond, Option, None, Some, List, [], ◌∷◌, length, map, nat_le, refl, sym, ap, slice_get, codes}
use Rattle.std.proofs.lemmas.List.{length-map}
use Rattle.std.proofs.lemmas.Option.{slice_get-map}
use Rattle.std.specs.Option.{option_map}
use Rattle.slicc_ast.specs.declared.tree.span.Span.{Span}
use Rattle.slicc_ast.specs.declared.tree.name.Name.{Name}
use Rattle.slicc_ast.specs.declared.tree.declaration.Formal.{Formal}
use Rattle.slicc_ast.specs.declared.tree.declaration.Function.TheVariants.{Plain, Skipped}
use Rattle.slicc_plan.specs.declared.broken.Broken.{Broken}
use Rattle.slicc_plan.specs.declared.broken.Rule.TheVariants.{NotAllowedHere, NotThere, WrongCount, WrongType}
use Rattle.slicc_plan.specs.Buffers.{listed}
use Rattle.slicc_plan.specs.Prelude.{Call, Change, no_change, of_receiver, of_block, of_lines, Given, Typed, answer_of, broken_in, built_in_call, built_in_named, call_named, call_unless, declared_call, formal_wanted, found_index, found_method, function_call, index_call, is_told, method_call, named_call, no_field, not_called, plain, plain_call, wanted_by, wrong_argument, wrong_arguments, wrong_change, wrong_count, wrong_line_type, wrong_new_line, Declaration, machine, states, parameter, object, action, function, symbol, state, member, formal, local, first_named, machine_declarations, within, Bound, Environment, is_allowed, type_named, value_named, Meaning, value, no_line, bare_line, incoming, outgoing, unknown, anything, any_value, one_of, any_line, only_no_line, comparable, new_line_of, address_or_line_of, table_of, any_in_port, any_out_port, answer_of_type, told, unfit, unless, first_of, KnownType, type_in}
use Rattle.slicc_plan.specs.Declarations.{enumeration, structure, out_port as out_port_declaration, in_port as in_port_declaration}
use Rattle.slicc_plan.specs.Meanings.{new_line, table, in_port, out_port, nothing, Wanted}
use Rattle.body_types.specs.Prelude.{found_of}
use Rattle.expression_types.specs.Prelude.{all_known, known, known_given}
use Rattle.expression_types.proofs.Known.{SameFirst, back_same, both_same, first_known, front_known, front_same, plain_same, unchanged}

pub broken_in_known : (gs : List Given) → SameFirst (broken_in gs) (broken_in (all_known gs))
broken_in_known [] = unchanged []
broken_in_known (g ∷ gs) =
    both_same g.typed.broken (listed (first_of g.typed.broken)) (broken_in gs) (broken_in (all_known gs)) (first_known g.typed.broken) (broken_in_known gs)

-- Arguments.

new_line_known : (env : Environment) (t : Option KnownType) (g : Given) (m : Meaning) → SameFirst (wrong_new_line env t g m) (wrong_new_line env t (known_given g) m)
new_line_known env t g (new_line made) = record { first = refl }
new_line_known env u g (value t) = front_known g.typed.broken (unfit env.machine (new_line_of u) g.place (value t))
new_line_known env t g no_line = front_known g.typed.broken (unfit env.machine (new_line_of t) g.place no_line)
new_line_known env t g bare_line = front_known g.typed.broken (unfit env.machine (new_line_of t) g.place bare_line)
new_line_known env u g (incoming t) = front_known g.typed.broken (unfit env.machine (new_line_of u) g.place (incoming t))
new_line_known env u g (outgoing t) = front_known g.typed.broken (unfit env.machine (new_line_of u) g.place (outgoing t))
new_line_known env u g (table b) = front_known g.typed.broken (unfit env.machine (new_line_of u) g.place (table b))
new_line_known env u g (in_port t) = front_known g.typed.broken (unfit env.machine (new_line_of u) g.place (in_port t))
new_line_known env u g (out_port t) = front_known g.typed.broken (unfit env.machine (new_line_of u) g.place (out_port t))
new_line_known env t g nothing = front_known g.typed.broken (unfit env.machine (new_line_of t) g.place nothing)
new_line_known env t g unknown = front_known g.typed.broken (unfit env.machine (new_line_of t) g.place unknown)

argument_known : (env : Environment) (w : Wanted) (g : Given) → SameFirst (wrong_argument env w g) (wrong_argument env w (known_given g))
argument_known env (new_line_of t) g = new_line_known env t g g.typed.meaning
argument_known env anything g = front_known g.typed.broken (unfit env.machine anything g.place g.typed.meaning)
argument_known env any_value g = front_known g.typed.broken (unfit env.machine any_value g.place g.typed.meaning)
argument_known env (one_of ts) g = front_known g.typed.broken (unfit env.machine (one_of ts) g.place g.typed.meaning)
argument_known env (address_or_line_of t) g = front_known g.typed.broken (unfit env.machine (address_or_line_of t) g.place g.typed.meaning)
argument_known env any_line g = front_known g.typed.broken (unfit env.machine any_line g.place g.typed.meaning)
argument_known env only_no_line g = front_known g.typed.broken (unfit env.machine only_no_line g.place g.typed.meaning)
argument_known env comparable g = front_known g.typed.broken (unfit env.machine comparable g.place g.typed.meaning)
argument_known env (table_of b) g = front_known g.typed.broken (unfit env.machine (table_of b) g.place g.typed.meaning)
argument_known env any_in_port g = front_known g.typed.broken (unfit env.machine any_in_port g.place g.typed.meaning)
argument_known env any_out_port g = front_known g.typed.broken (unfit env.machine any_out_port g.place g.typed.meaning)

pub arguments_known : (env : Environment) (ws : List Wanted) (gs : List Given) → SameFirst (wrong_arguments env ws gs) (wrong_arguments env ws (all_known gs))
arguments_known env [] [] = unchanged []
arguments_known env (w ∷ ws) [] = unchanged []
arguments_known env [] (g ∷ gs) = broken_in_known (g ∷ gs)
arguments_known env (w ∷ ws) (g ∷ gs) =
    both_same (wrong_argument env w g) (wrong_argument env w (known_given g)) (wrong_arguments env ws gs) (wrong_arguments env ws (all_known gs)) (argument_known env w g) (arguments_known env ws gs)

count_known : (at : Span) (always perhaps : ℕ) (gs : List Given) → SameFirst (wrong_count at always perhaps gs) (wrong_count at always perhaps (all_known gs))
count_known at always perhaps gs =
    record { first = ap (λ n. first_of (unless (nat_le always n && nat_le n (always + perhaps)) WrongCount at)) (sym (length-map gs known_given)) }

no_field_known : (at : Span) (o : Option Given) → SameFirst (no_field at o) (no_field at (option_map known_given o))
no_field_known at None = record { first = refl }
no_field_known at (Some g) = record { first = refl }

change_known : (c : Change) (at : Span) (on : Typed) (gs : List Given) → SameFirst (wrong_change c at on gs) (wrong_change c at on (all_known gs))
change_known no_change at on gs = record { first = refl }
change_known of_receiver at on gs = record { first = refl }
change_known of_block at on gs =
    record { first = (no_field_known at (slice_get gs 1)).first ∙ ap (λ o. first_of (no_field at o)) (sym (slice_get-map known_given gs 1)) }
change_known of_lines at on gs = record { first = refl }

change_known_on : (c : Change) (at : Span) (on : Typed) (gs : List Given) → SameFirst (wrong_change c at on gs) (wrong_change c at (known on) gs)
change_known_on no_change at on gs = record { first = refl }
change_known_on of_receiver at on gs = record { first = refl }
change_known_on of_block at on gs = record { first = refl }
change_known_on of_lines at on gs = record { first = refl }

-- Calls.

pub built_in_known : (env : Environment) (at : Span) (on : Typed) (c : Call) (gs : List Given) → found_of (built_in_call env at on c gs) ≡ found_of (built_in_call env at on c (all_known gs))
built_in_known env at on c gs =
    let always = wanted_by env.machine c.receiver c.always in
    let perhaps = wanted_by env.machine c.receiver c.perhaps in
    plain_same (answer_of env.machine c.receiver c.answer) _ _
    (both_same _ _ (wrong_change c.change at on gs) (wrong_change c.change at on (all_known gs))
    (both_same _ _ (wrong_arguments env (always ++ perhaps) gs) (wrong_arguments env (always ++ perhaps) (all_known gs))
    (back_same (on.broken ++ unless (is_allowed env.body c.allowed) NotAllowedHere at) (wrong_count at (length always) (length perhaps) gs) (wrong_count at (length always) (length perhaps) (all_known gs)) (count_known at (length always) (length perhaps) gs))
    (arguments_known env (always ++ perhaps) gs))
    (change_known c.change at on gs))

pub built_in_known_on : (env : Environment) (at : Span) (c : Call) (gs : List Given) (on : Typed) → found_of (built_in_call env at on c gs) ≡ found_of (built_in_call env at (known on) c gs)
built_in_known_on env at c gs on =
    let always = wanted_by env.machine c.receiver c.always in
    let perhaps = wanted_by env.machine c.receiver c.perhaps in
    plain_same (answer_of env.machine c.receiver c.answer) _ _
    (both_same _ _ (wrong_change c.change at on gs) (wrong_change c.change at (known on) gs)
    (front_same _ _ (wrong_arguments env (always ++ perhaps) gs)
    (front_same _ _ (wrong_count at (length always) (length perhaps) gs)
    (front_known on.broken (unless (is_allowed env.body c.allowed) NotAllowedHere at))))
    (change_known_on c.change at on gs))

function_known : (env : Environment) (at : Span) (kind : List ℕ) (fs : List Formal) (gs : List Given) → found_of (function_call env at kind fs gs) ≡ found_of (function_call env at kind fs (all_known gs))
function_known env at kind fs gs =
    plain_same (answer_of_type env.machine (type_in env.trees (within env.machine) kind)) _ _
    (both_same (wrong_count at (length fs) 0 gs) (wrong_count at (length fs) 0 (all_known gs)) _ _ (count_known at (length fs) 0 gs) (arguments_known env (map (formal_wanted env) fs) gs))

not_called_known : (bs : List Broken) (n : Name) (gs : List Given) → found_of (not_called bs n gs) ≡ found_of (not_called bs n (all_known gs))
not_called_known bs n gs =
    plain_same unknown _ _
    (back_same bs (told NotThere n.span ∷ broken_in gs) (told NotThere n.span ∷ broken_in (all_known gs))
    (back_same (told NotThere n.span ∷ []) (broken_in gs) (broken_in (all_known gs)) (broken_in_known gs)))

named_known_call : (env : Environment) (at : Span) (n : Name) (o : Option Call) (gs : List Given) → found_of (built_in_named env at n o gs) ≡ found_of (built_in_named env at n o (all_known gs))
named_known_call env at n None gs = not_called_known [] n gs
named_known_call env at n (Some c) gs = built_in_known env at (plain nothing []) c gs

declared_known : (env : Environment) (at : Span) (n : Name) (d : Option Declaration) (gs : List Given) → found_of (declared_call env at n d gs) ≡ found_of (declared_call env at n d (all_known gs))
declared_known env at n None gs = named_known_call env at n (plain_call env.trees n.text) gs
declared_known env at n (Some (function (Plain kind name formals attributes (Some body) span))) gs =
    function_known env at kind.text formals.items gs
declared_known env at n (Some (function (Plain kind name formals attributes None span))) gs =
    named_known_call env at n (plain_call env.trees n.text) gs
declared_known env at n (Some (function (Skipped s))) gs = not_called_known [] n gs
declared_known env at n (Some (machine m)) gs = not_called_known [] n gs
declared_known env at n (Some (enumeration e)) gs = not_called_known [] n gs
declared_known env at n (Some (structure s)) gs = not_called_known [] n gs
declared_known env at n (Some (states s)) gs = not_called_known [] n gs
declared_known env at n (Some (parameter p)) gs = not_called_known [] n gs
declared_known env at n (Some (object o)) gs = not_called_known [] n gs
declared_known env at n (Some (out_port_declaration p)) gs = not_called_known [] n gs
declared_known env at n (Some (in_port_declaration p)) gs = not_called_known [] n gs
declared_known env at n (Some (action a)) gs = not_called_known [] n gs
declared_known env at n (Some (symbol s)) gs = not_called_known [] n gs
declared_known env at n (Some (state s)) gs = not_called_known [] n gs
declared_known env at n (Some (member m)) gs = not_called_known [] n gs
declared_known env at n (Some (formal f)) gs = not_called_known [] n gs
declared_known env at n (Some (local kind name span)) gs = not_called_known [] n gs

unless_known : (env : Environment) (at : Span) (n : Name) (b : Option Bound) (gs : List Given) → found_of (call_unless env at n b gs) ≡ found_of (call_unless env at n b (all_known gs))
unless_known env at n (Some b) gs =
    plain_same unknown _ _ (back_same (told WrongType n.span ∷ []) (broken_in gs) (broken_in (all_known gs)) (broken_in_known gs))
unless_known env at n None gs =
    declared_known env at n (first_named n.text (machine_declarations env.machine)) gs

pub named_known : (env : Environment) (at : Span) (n : Name) (gs : List Given) → found_of (named_call env at n gs) ≡ found_of (named_call env at n (all_known gs))
named_known env at n gs = unless_known env at n (value_named env n.text) gs

method_found_known : (env : Environment) (at : Span) (on : Typed) (n : Name) (o : Option Call) (gs : List Given) → found_of (found_method env at on n o gs) ≡ found_of (found_method env at on n o (all_known gs))
method_found_known env at on n None gs = not_called_known on.broken n gs
method_found_known env at on n (Some c) gs = built_in_known env at on c gs

method_found_known_on : (env : Environment) (at : Span) (n : Name) (o : Option Call) (gs : List Given) (on : Typed) → found_of (found_method env at on n o gs) ≡ found_of (found_method env at (known on) n o gs)
method_found_known_on env at n None gs on = plain_same unknown _ _ (front_known on.broken (told NotThere n.span ∷ broken_in gs))
method_found_known_on env at n (Some c) gs on = built_in_known_on env at c gs on

either : (v : Bool) (a b c d : Typed) → found_of a ≡ found_of b → found_of c ≡ found_of d → found_of (cond v a c) ≡ found_of (cond v b d)
either true a b c d h k = h
either false a b c d h k = k

pub method_known : (env : Environment) (at : Span) (on : Typed) (n : Name) (gs : List Given) → found_of (method_call env at on n gs) ≡ found_of (method_call env at on n (all_known gs))
method_known env at on n gs =
    either (is_told on.meaning) _ _ _ _
    (plain_same unknown _ _ (back_same on.broken (broken_in gs) (broken_in (all_known gs)) (broken_in_known gs)))
    (method_found_known env at on n (call_named env.machine on.meaning n.text) gs)

pub method_known_on : (env : Environment) (at : Span) (n : Name) (gs : List Given) (on : Typed) → found_of (method_call env at on n gs) ≡ found_of (method_call env at (known on) n gs)
method_known_on env at n gs on =
    either (is_told on.meaning) _ _ _ _
    (plain_same unknown _ _ (front_known on.broken (broken_in gs)))
    (method_found_known_on env at n (call_named env.machine on.meaning n.text) gs on)

index_found_known : (env : Environment) (at : Span) (on : Typed) (o : Option Call) (g : Given) → found_of (found_index env at on o (g ∷ [])) ≡ found_of (found_index env at on o (known_given g ∷ []))
index_found_known env at on None g =
    plain_same unknown _ _
    (back_same on.broken (told NotThere at ∷ broken_in (g ∷ [])) (told NotThere at ∷ broken_in (known_given g ∷ []))
    (back_same (told NotThere at ∷ []) (broken_in (g ∷ [])) (broken_in (known_given g ∷ [])) (broken_in_known (g ∷ []))))
index_found_known env at on (Some c) g = built_in_known env at on c (g ∷ [])

index_found_known_on : (env : Environment) (at : Span) (o : Option Call) (gs : List Given) (on : Typed) → found_of (found_index env at on o gs) ≡ found_of (found_index env at (known on) o gs)
index_found_known_on env at None gs on = plain_same unknown _ _ (front_known on.broken (told NotThere at ∷ broken_in gs))
index_found_known_on env at (Some c) gs on = built_in_known_on env at c gs on

pub index_known : (env : Environment) (at : Span) (on : Typed) (g : Given) → found_of (index_call env at on g) ≡ found_of (index_call env at on (known_given g))
index_known env at on g =
    either (is_told on.meaning) _ _ _ _
    (plain_same unknown _ _ (back_same on.broken g.typed.broken (listed (first_of g.typed.broken)) (first_known g.typed.broken)))
    (index_found_known env at on (call_named env.machine on.meaning (codes "[]")) g)

pub index_known_on : (env : Environment) (at : Span) (g : Given) (on : Typed) → found_of (index_call env at on g) ≡ found_of (index_call env at (known on) g)
index_known_on env at g on =
    either (is_told on.meaning) _ _ _ _
    (plain_same unknown _ _ (front_known on.broken g.typed.broken))
    (index_found_known_on env at (call_named env.machine on.meaning (codes "[]")) (g ∷ []) on)
