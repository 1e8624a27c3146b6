-- Members of enumerations.
use Rattle.std.proofs.Common.{◌≡◌, ℕ, Bool, true, false, cond, Option, None, Some, List, [], ◌∷◌, slice_get, refl, sym, ap, subst, ◌∙◌, option_and_then}
use Rattle.std.proofs.lemmas.Bool.{eq-eqb}
use Rattle.std.specs.Option.{option_map}
use Rattle.ruby_value.specs.declared.kind.Kind.TheVariants as kind
use Rattle.ruby_value.specs.declared.value.Value.TheVariants as value
use Rattle.ruby_symbols.specs.declared.symbols.Symbols.{Symbols}
use Rattle.ruby_symbols.specs.declared.types.EnumerationSymbol.{EnumerationSymbol}
use Rattle.ruby_symbols.specs.Prelude.{enumeration_named, member_named}
use Rattle.slicc_ast.specs.declared.tree.name.Name.{Name}
use Rattle.slicc_plan.specs.declared.broken.Rule.TheVariants.{NotThere}
use Rattle.slicc_plan.specs.BuiltIn.{is_among}
use Rattle.slicc_plan.specs.CallTypes.{plain}
use Rattle.slicc_plan.specs.Declarations.{within}
use Rattle.slicc_plan.specs.Environment.{BodySort, Bound, Environment, type_named}
use Rattle.slicc_plan.specs.ExpressionTypes.{enumeration_members, member_among, member_of_type, member_type}
use Rattle.slicc_plan.specs.Meanings.{Meaning, value as value_meaning, unknown, told}
use Rattle.slicc_plan.specs.TypeNumbers.{value_kind}
use Rattle.slicc_plan.specs.Types.{KnownType, type_in}
use Rattle.rules_symbols.proofs.Members.{member_is}
use Rattle.rules_symbols.proofs.StatementForms.{type_name_is}
use Rattle.rules_symbols.proofs.TypedParts.{type_in_of}
use Rattle.acts.specs.Prelude.{◌>>=◌, found}
use Rattle.body_meaning.specs.Prelude.{member_at, member_in, member_value, value_found}
use Rattle.code_meaning.specs.Prelude.{Held}
use Rattle.body_code.specs.Prelude.{member_pushed}
use Rattle.code_laws.specs.Setting.{IsSet, Setting, env_of}
use Rattle.code_laws.proofs.Good.{IsGood, pushed_done}

module _ (z : Setting) (is : IsSet z) (body : BodySort) (answer : Meaning) (bound : List Bound) (h : Held) where
  abbrev E : Environment
  E = env_of z body answer bound

  value_there : (symbols : Symbols) (number : ℕ) (owner member : List ℕ) (n j : ℕ) (e : EnumerationSymbol) → enumeration_named symbols number owner ≡ Some n → slice_get symbols.enumerations n ≡ Some e → member_named e member ≡ Some j
      → option_and_then (member_at symbols member) (enumeration_named symbols number owner) ≡ Some (value.Enum n j)
  value_there symbols number owner member n j e named there found =
      ap (option_and_then (member_at symbols member)) named ∙ ap (option_and_then (member_in member n)) there ∙ ap (option_map (λ k. value.Enum n k)) found

  pushed_good : (t : KnownType) (owner member : List ℕ) (n j d : ℕ) → member_value z.s owner member ≡ Some (value.Enum n j) → value_kind z.trees z.m t ≡ Some (kind.Enum n d)
      → IsGood z h (value_meaning t) (member_pushed z.s owner member) (value_found (member_value z.s owner member))
  unfolding value_found found ◌>>=◌
  pushed_good t owner member n j d is_value kind_is =
      rw is_value (record {
        left_is = record { kind = kind.Enum n d; kind_is = kind_is; left_is = refl };
        done = pushed_done z h (kind.Enum n 0) (value.Enum n j) 0 (eq-eqb n n refl);
      })

  pub member_good : (owner called : Name) → (member_type E owner called).broken ≡ [] → IsGood z h (member_type E owner called).meaning (member_pushed z.s owner.text called.text) (value_found (member_value z.s owner.text called.text))
  member_good owner called none = by (type_named E owner.text) refl none
    where
      there : (t : KnownType) (members : List (List ℕ)) → type_in z.trees (within z.m) owner.text ≡ Some t → enumeration_members z.trees t ≡ Some members → (v : Bool) → is_among members called.text ≡ v
          → (cond v (plain (value_meaning t) []) (plain unknown (told NotThere called.span ∷ []))).broken ≡ []
          → IsGood z h (cond v (plain (value_meaning t) []) (plain unknown (told NotThere called.span ∷ []))).meaning (member_pushed z.s owner.text called.text) (value_found (member_value z.s owner.text called.text))
      there t members named listed true among clear =
          let found = member_is z.trees is.accepted z.s.number z.m is.machine_there is.numbered owner.text called.text t members named listed among in
          let e = found.2 in
          pushed_good t owner.text called.text found.0 found.2 found.1.default
          (value_there z.s.symbols z.s.number owner.text called.text found.0 found.2 found.1
          (subst (λ ss. enumeration_named ss z.s.number owner.text ≡ Some found.0) (sym is.symbols) found.3)
          (subst (λ ss. slice_get ss.enumerations found.0 ≡ Some found.1) (sym is.symbols) found.4) found.5)
          found.6
      there t members named listed false among clear = absurd (cc clear)

      among : (t : KnownType) → type_in z.trees (within z.m) owner.text ≡ Some t → (o : Option (List (List ℕ))) → enumeration_members z.trees t ≡ o → (member_among t owner called o).broken ≡ []
          → IsGood z h (member_among t owner called o).meaning (member_pushed z.s owner.text called.text) (value_found (member_value z.s owner.text called.text))
      among t named None listed clear = absurd (cc clear)
      among t named (Some members) listed clear = there t members named listed (is_among members called.text) refl clear

      by : (o : Option KnownType) → type_named E owner.text ≡ o → (member_of_type E owner called o).broken ≡ []
          → IsGood z h (member_of_type E owner called o).meaning (member_pushed z.s owner.text called.text) (value_found (member_value z.s owner.text called.text))
      by None named told = let known = type_name_is E owner.text owner.span told in let wrong : None ≡ Some known.1.0 = sym named ∙ known.1.1 in absurd (cc wrong)
      by (Some t) named told = among t (type_in_of E owner.text t named) (enumeration_members z.trees t) refl told
