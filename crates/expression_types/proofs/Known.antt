-- What is told of an expression doesn't depend on what is broken in its parts, but for the first.
use Rattle.std.proofs.Common.{◌≡◌, ◌∙◌, ◌++◌, Option, None, Some, List, [], ◌∷◌, refl, sym, ap}
use Rattle.slicc_ast.specs.declared.tree.span.Span.{Span}
use Rattle.slicc_ast.specs.declared.tree.name.Name.{Name}
use Rattle.slicc_ast.specs.declared.tree.name.TypeName.{TypeName}
use Rattle.slicc_ast.specs.declared.tree.expression.Operator.{Operator}
use Rattle.slicc_plan.specs.declared.broken.Broken.{Broken}
use Rattle.slicc_plan.specs.declared.broken.Rule.TheVariants.{NotThere}
use Rattle.slicc_plan.specs.declared.built_in.BuiltInType.{BuiltInType}
use Rattle.slicc_plan.specs.Buffers.{listed}
use Rattle.slicc_plan.specs.CallTypes.{Written}
use Rattle.slicc_plan.specs.Prelude.{Given, Typed, a_field, no_place, plain, Environment, wrong_type_name, cast_meaning, cast_to, field_in, found_field, from_operand, given_at, joined, operator_type, wanted_left, wanted_right, Meaning, value, no_line, bare_line, incoming, outgoing, unknown, one_of, told, unfit, earlier_of_both, first_of, KnownType, built_in}
use Rattle.slicc_plan.specs.ExpressionTypes.{field_of}
use Rattle.slicc_plan.specs.Meanings.{new_line, table, in_port, out_port, nothing, Wanted}
use Rattle.slicc_plan.proofs.Firsts.{first_of-append}
use Rattle.body_types.specs.Prelude.{Found, found_of}
use Rattle.call_types.proofs.Firsts.{first_of_listed, first_of_listed_append}
use Rattle.expression_types.specs.Prelude.{known}

-- Lists of which the firsts are the same.

pub record SameFirst (bs cs : List Broken) : Type 0 where
  pub first : first_of bs ≡ first_of cs

pub unchanged : (bs : List Broken) → SameFirst bs bs
unchanged bs = record { first = refl }

pub both_same : (ls bs cs ds : List Broken) → SameFirst ls bs → SameFirst cs ds → SameFirst (ls ++ cs) (bs ++ ds)
both_same ls bs cs ds h k =
    record { first = first_of-append ls cs ∙ ap (λ o. earlier_of_both o (first_of cs)) h.first ∙ ap (earlier_of_both (first_of bs)) k.first ∙ sym (first_of-append bs ds) }

pub front_same : (ls bs cs : List Broken) → SameFirst ls bs → SameFirst (ls ++ cs) (bs ++ cs)
front_same ls bs cs h = both_same ls bs cs cs h (unchanged cs)

pub back_same : (ls bs cs : List Broken) → SameFirst bs cs → SameFirst (ls ++ bs) (ls ++ cs)
back_same ls bs cs h = both_same ls ls bs cs (unchanged ls) h

pub first_known : (bs : List Broken) → SameFirst bs (listed (first_of bs))
first_known bs = record { first = sym (first_of_listed (first_of bs)) }

pub front_known : (bs cs : List Broken) → SameFirst (bs ++ cs) (listed (first_of bs) ++ cs)
front_known bs cs = front_same bs (listed (first_of bs)) cs (first_known bs)

pub plain_same : (m : Meaning) (bs cs : List Broken) → SameFirst bs cs → found_of (plain m bs) ≡ found_of (plain m cs)
plain_same m bs cs h =
    let of_first : Option Broken → Found = λ o. record { meaning = m; written = no_place; first = o } in ap of_first h.first

-- Where the same is told of two expressions, the same is told of what depends on what is known of them alone.

abbrev of_found : Found → Typed
of_found f = record { meaning = f.meaning; written = f.written; broken = listed f.first }

pub known_same : (x y : Typed) → found_of x ≡ found_of y → known x ≡ known y
known_same x y h = ap of_found h

pub by_known : {R : Type 0} (f : Typed → R) → ((t : Typed) → f t ≡ f (known t)) → (x y : Typed) → found_of x ≡ found_of y → f x ≡ f y
by_known f same x y h = same x ∙ ap f (known_same x y h) ∙ sym (same y)

-- Operators.

pub joined_left : (env : Environment) (o : Operator) (p : Span) (r : Given) (t : Typed) → found_of (joined env o (given_at p t) r) ≡ found_of (joined env o (given_at p (known t)) r)
joined_left env o p r t =
    plain_same (value (built_in (operator_type o))) _ _
    (front_same _ _ (unfit env.machine (wanted_right o t.meaning) r.place r.typed.meaning)
    (front_same _ _ (unfit env.machine (wanted_left o) p t.meaning) (front_known t.broken r.typed.broken)))

pub joined_right : (env : Environment) (o : Operator) (l : Given) (p : Span) (t : Typed) → found_of (joined env o l (given_at p t)) ≡ found_of (joined env o l (given_at p (known t)))
joined_right env o l p t =
    plain_same (value (built_in (operator_type o))) _ _
    (front_same _ _ (unfit env.machine (wanted_right o l.typed.meaning) p t.meaning)
    (front_same _ _ (unfit env.machine (wanted_left o) l.place l.typed.meaning)
    (back_same l.typed.broken t.broken (listed (first_of t.broken)) (first_known t.broken))))

pub operand_known : (env : Environment) (w : Wanted) (b : BuiltInType) (p : Span) (t : Typed) → found_of (from_operand env w b (given_at p t)) ≡ found_of (from_operand env w b (given_at p (known t)))
operand_known env w b p t =
    plain_same (value (built_in b)) _ _ (front_known t.broken (unfit env.machine w p t.meaning))

pub cast_known : (env : Environment) (n : TypeName) (o : Option KnownType) (p : Span) (t : Typed) → found_of (cast_to env n (given_at p t) o) ≡ found_of (cast_to env n (given_at p (known t)) o)
cast_known env n None p t =
    plain_same unknown _ _ (back_same (wrong_type_name env n.text n.span) t.broken (listed (first_of t.broken)) (first_known t.broken))
cast_known env n (Some u) p t =
    plain_same (cast_meaning env.machine u t.meaning) _ _ (front_known t.broken (unfit env.machine (one_of (u ∷ [])) p t.meaning))

-- Fields.

found_field_known : (w : Written) (bs : List Broken) (n : Name) (m : Option Meaning) → found_of (found_field w bs n m) ≡ found_of (found_field w (listed (first_of bs)) n m)
found_field_known w bs n None = plain_same unknown _ _ (front_known bs (told NotThere n.span ∷ []))
found_field_known w bs n (Some m) =
    let of_first : Option Broken → Found = λ o. record { meaning = m; written = w; first = o } in ap of_first (first_known bs).first

pub field_known : (env : Environment) (bs : List Broken) (n : Name) (m : Meaning) → found_of (field_of env bs n m) ≡ found_of (field_of env (listed (first_of bs)) n m)
field_known env bs n (value t) = found_field_known a_field bs n (field_in env.trees env.machine t n.text)
field_known env bs n (incoming t) = found_field_known no_place bs n (field_in env.trees env.machine t n.text)
field_known env bs n (outgoing t) = found_field_known a_field bs n (field_in env.trees env.machine t n.text)
field_known env bs n no_line = found_field_known no_place bs n None
field_known env bs n bare_line = found_field_known no_place bs n None
field_known env bs n (new_line made) = plain_same unknown _ _ (first_known bs)
field_known env bs n (table b) = found_field_known no_place bs n None
field_known env bs n (in_port t) = found_field_known no_place bs n None
field_known env bs n (out_port t) = found_field_known no_place bs n None
field_known env bs n nothing = found_field_known no_place bs n None
field_known env bs n unknown = plain_same unknown _ _ (first_known bs)
