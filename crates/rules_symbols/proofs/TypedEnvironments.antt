-- The names of bodies stand for things that are known: as a body begins, after a declaration, and in the blocks of messages.
use Rattle.std.proofs.Common.{◌≡◌, ◌++◌, ℕ, Bool, Option, None, Some, List, [], ◌∷◌, All, slice_get, refl, sym, subst, codes}
use Rattle.std.proofs.lemmas.List.Elements.{All-append, All-cons, All-nil}
use Rattle.ruby_value.specs.declared.kind.Kind.TheVariants as kind
use Rattle.slicc_ast.specs.declared.tree.declaration.Formal.{Formal}
use Rattle.slicc_ast.specs.declared.tree.declaration.Formals.{Formals}
use Rattle.slicc_ast.specs.declared.tree.declaration.Function.TheVariants.{Plain}
use Rattle.slicc_ast.specs.declared.tree.declaration.Pairs.{Pairs}
use Rattle.slicc_ast.specs.declared.tree.declaration.Structure.{Structure}
use Rattle.slicc_ast.specs.declared.tree.expression.Expr.{Expr}
use Rattle.slicc_ast.specs.declared.tree.item.Tree.{Tree}
use Rattle.slicc_ast.specs.declared.tree.machine.Machine.{Machine}
use Rattle.slicc_ast.specs.declared.tree.name.Name.{Name}
use Rattle.slicc_ast.specs.declared.tree.name.TypeName.{TypeName}
use Rattle.slicc_ast.specs.declared.tree.span.Span.{Span}
use Rattle.slicc_ast.specs.declared.tree.statement.Block.{Block}
use Rattle.slicc_plan.specs.declared.built_in.BuiltInType.TheVariants.{Address}
use Rattle.slicc_plan.specs.AllRules.{IsAccepted}
use Rattle.slicc_plan.specs.BrokenBodies.{action_environment, formal_name, formal_names, function_environment, port_environment}
use Rattle.slicc_plan.specs.Declarations.{function, within, machine_declarations, machines_of}
use Rattle.slicc_plan.specs.Environment.{Bound, Environment, binding, fixed, line_name, local_name, meaning_named, meaning_of_found, value_named}
use Rattle.slicc_plan.specs.JudgedStatements.{declared, enqueued, in_enqueue, in_peek, in_type, local_meaning, out_type, peeked}
use Rattle.slicc_plan.specs.Machines.{entry_structure, is_entry, is_tbe, tbe_structure}
use Rattle.slicc_plan.specs.Meanings.{Meaning, value, in_port, out_port, incoming_of_type, line_of_structure, outgoing_of_type, value_of_type}
use Rattle.slicc_plan.specs.Types.{KnownType, built_in, type_in}
use Rattle.slicc_plan.proofs.There.{There, there_first, there_later}
use Rattle.rules_symbols.specs.Fitting.{IsInPort, IsOutPort}
use Rattle.rules_symbols.specs.TypedMeaning.{IsTyped, IsTypedIn}
use Rattle.rules_symbols.proofs.FunctionKinds.{formal_is}
use Rattle.rules_symbols.proofs.StatementForms.{declared_is, enqueued_is, peeked_is}
use Rattle.rules_symbols.proofs.TypedExpressions.{line_of, named_typed, type_value, value_typed}
use Rattle.rules_symbols.proofs.TypedParts.{entry_line, tbe_line_is, type_in_of, typed_sure}
use Rattle.rules_symbols.proofs.WhatFits.{in_port_is, out_port_is}

-- one more name
pub binding_typed : (k : ℕ) (env : Environment) (b : Bound) → IsTypedIn k env → IsTyped env.trees env.machine b.meaning → IsTypedIn k (binding env b)
binding_typed k env b h is =
    record {
      accepted = h.accepted;
      machine = h.machine;
      bound = All-cons (λ (x : Bound). IsTyped env.trees env.machine x.meaning) b env.bound is h.bound;
    }

module _ (trees : List Tree) (accepted : IsAccepted trees) (k : ℕ) (m : Machine) (at : slice_get (machines_of trees) k ≡ Some m) where
  abbrev IsRightName : Bound → Type 0
  IsRightName b = IsTyped trees m b.meaning

  pub port_typed : IsTypedIn k (port_environment trees m)
  port_typed = record { accepted = accepted; machine = at; bound = All-nil IsRightName }

  one_line : (name : List ℕ) (p : Structure → Bool) (o : Option Structure) → IsTyped trees m (line_of_structure m o) → All IsRightName (line_name m name o)
  one_line name p None is = All-nil IsRightName
  one_line name p (Some s) is = All-cons IsRightName (fixed name (line_of_structure m (Some s))) [] is (All-nil IsRightName)

  pub action_typed : IsTypedIn k (action_environment trees m)
  action_typed =
      let lines = All-append IsRightName (line_name m (codes "cache_entry") (entry_structure m)) (line_name m (codes "tbe") (tbe_structure m))
      (one_line (codes "cache_entry") is_entry (entry_structure m) (line_of k (port_environment trees m) port_typed is_entry (entry_structure m) refl (λ s found. entry_line m s found)))
      (one_line (codes "tbe") is_tbe (tbe_structure m) (line_of k (port_environment trees m) port_typed is_tbe (tbe_structure m) refl (λ s found. tbe_line_is m s found))) in
      record {
        accepted = accepted;
        machine = at;
        bound = All-cons IsRightName (fixed (codes "address") (value (built_in Address))) (line_name m (codes "cache_entry") (entry_structure m) ++ line_name m (codes "tbe") (tbe_structure m)) (refl, tt, (kind.Addr, refl)) lines;
      }

  formals_typed : (fs : List Formal) → ((f : Formal) → There fs f → IsTyped trees m (value_of_type m (type_in trees (within m) f.kind.text))) → All IsRightName (formal_names trees m fs)
  formals_typed [] each = All-nil IsRightName
  formals_typed (f ∷ fs) each =
      All-append IsRightName (formal_name trees m f.kind f.name) (formal_names trees m fs) (one f.name (each f (there_first f fs)))
      (formals_typed fs (λ g there. each g (there_later f g fs there)))
    where
      one : (n : Option Name) → IsTyped trees m (value_of_type m (type_in trees (within m) f.kind.text)) → All IsRightName (formal_name trees m f.kind n)
      one None is = All-nil IsRightName
      one (Some n) is = All-cons IsRightName (fixed n.text (value_of_type m (type_in trees (within m) f.kind.text))) [] is (All-nil IsRightName)

  pub function_typed : (kind : TypeName) (called : Name) (formals : Formals) (attributes : Pairs) (body : Block) (span : Span) → There (machine_declarations m) (function (Plain kind called formals attributes (Some body) span))
      → IsTypedIn k (function_environment trees m kind formals.items)
  function_typed kind called formals attributes body span there =
      record {
        accepted = accepted;
        machine = at;
        bound = formals_typed formals.items (λ f place.
            let is = formal_is trees accepted k m at kind called formals attributes body span there f place in
            subst (λ (o : Option KnownType). IsTyped trees m (value_of_type m o)) (sym is.2) (value_typed k (port_environment trees m) port_typed f.kind.text is.0 is.2 is.3));
      }

module _ (k : ℕ) (env : Environment) (h : IsTypedIn k env) where
  -- after a declaration
  pub declared_typed : (kind : TypeName) (called : Name) (e : Expr) → declared env kind e ≡ [] → IsTypedIn k (binding env (local_name called.text (local_meaning env kind)))
  declared_typed kind called e none =
      let is = declared_is env kind e none in
      binding_typed k env (local_name called.text (local_meaning env kind)) h
      (subst (λ (x : Meaning). IsTyped env.trees env.machine x) (sym is.meaning) (type_value k env h kind.text is.type (type_in_of env kind.text is.type is.named) is.valued))

  -- what a name stands for is known
  pub meaning_typed : (text : List ℕ) (meaning : Meaning) → meaning_named env text ≡ Some meaning → IsTyped env.trees env.machine meaning
  meaning_typed text meaning is = by (value_named env text) refl is
    where
      by : (o : Option Bound) → value_named env text ≡ o → meaning_of_found o ≡ Some meaning → IsTyped env.trees env.machine meaning
      by None found none = absurd (cc none)
      by (Some b) found same =
          let one : b.meaning ≡ meaning = cc same in
          subst (λ (x : Meaning). IsTyped env.trees env.machine x) one (named_typed k env h text b found)

  -- in the block of a `peek`
  pub peek_typed : (span : Span) (port : Name) (message : TypeName) → peeked env span port message ≡ [] → IsTypedIn k (in_peek env port)
  peek_typed span port message none =
      let is = peeked_is env span port message none in
      let means = meaning_typed port.text is.meaning is.named in
      binding_typed k env (fixed (codes "in_msg") (incoming_of_type (in_type (meaning_named env port.text)))) h
      (subst (λ (o : Option Meaning). IsTyped env.trees env.machine (incoming_of_type (in_type o))) (sym is.named)
      (by is.meaning means (in_port_is env.machine is.meaning is.fitting (typed_sure env.trees env.machine is.meaning means))))
    where
      by : (meaning : Meaning) → IsTyped env.trees env.machine meaning → IsInPort meaning → IsTyped env.trees env.machine (incoming_of_type (in_type (Some meaning)))
      by (in_port None) is port_so = absurd is
      by (in_port (Some t)) is port_so = is
      by _ is port_so = absurd port_so

  -- in that of an `enqueue`
  pub enqueue_typed : (span : Span) (port : Name) (message : TypeName) (latency : Option Expr) → enqueued env span port message latency ≡ [] → IsTypedIn k (in_enqueue env port)
  enqueue_typed span port message latency none =
      let is = enqueued_is env span port message latency none in
      let means = meaning_typed port.text is.meaning is.named in
      binding_typed k env (fixed (codes "out_msg") (outgoing_of_type (out_type (meaning_named env port.text)))) h
      (subst (λ (o : Option Meaning). IsTyped env.trees env.machine (outgoing_of_type (out_type o))) (sym is.named)
      (by is.meaning means (out_port_is env.machine is.meaning is.fitting (typed_sure env.trees env.machine is.meaning means))))
    where
      by : (meaning : Meaning) → IsTyped env.trees env.machine meaning → IsOutPort meaning → IsTyped env.trees env.machine (outgoing_of_type (out_type (Some meaning)))
      by (out_port None) is port_so = absurd is
      by (out_port (Some t)) is port_so = is
      by _ is port_so = absurd port_so
