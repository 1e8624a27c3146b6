-- What an expression's type tells of what its code leaves.
use Rattle.std.proofs.Common.{◌≡◌, true, false, Some, [], ◌∷◌, refl, sym, ap, ◌∙◌}
use Rattle.std.proofs.lemmas.Bool.{cond_both}
use Rattle.ruby_symbols.specs.declared.machine.MachineSymbols.{MachineSymbols}
use Rattle.ruby_value.specs.declared.kind.Kind.{Kind}
use Rattle.ruby_value.specs.declared.kind.Kind.TheVariants as kind
use Rattle.ruby_value.specs.Prelude.{is_reference}
use Rattle.slicc_plan.specs.Meanings.{Meaning, value, no_line, bare_line, new_line, incoming, outgoing, table, in_port, out_port, nothing, unknown, one_of, any_line, fits}
use Rattle.slicc_plan.specs.TypeNumbers.{value_kind}
use Rattle.slicc_plan.specs.Types.{KnownType}
use Rattle.rules_symbols.specs.Fitting.{IsAnyLine, IsOfKind, IsSure}
use Rattle.rules_symbols.proofs.WhatFits.{any_line_fits, kind_fits, line_kinds}
use Rattle.body_code.specs.declared.left.Left.{Left}
use Rattle.body_code.specs.declared.left.Left.TheVariants as left
use Rattle.body_code.specs.Prelude.{code_kind}
use Rattle.code_laws.specs.Holding.{IsLeft, IsReferenceLeft}
use Rattle.code_laws.specs.Setting.{Setting}

pub code_kind_reference : (m : MachineSymbols) (k : Kind) → is_reference k ≡ true → is_reference (code_kind m k) ≡ true
code_kind_reference m (kind.Entry n) is = refl
code_kind_reference m (kind.Tbe n) is = cond_both _ (kind.Tbe n) (kind.Entry n) (λ k. is_reference k ≡ true) (λ e. refl) (λ e. refl)
code_kind_reference m k is = absurd (cc is)

module _ (z : Setting) where
  -- what is known isn't told
  pub left_sure : (meaning : Meaning) (l : Left) → IsLeft z meaning l → IsSure meaning
  left_sure (value t) l is = refl
  left_sure no_line l is = refl
  left_sure bare_line l is = refl
  left_sure (new_line made) l is = absurd is
  left_sure (incoming t) l is = refl
  left_sure (outgoing t) l is = refl
  left_sure (table b) l is = refl
  left_sure (in_port t) l is = refl
  left_sure (out_port t) l is = refl
  left_sure nothing l is = refl
  left_sure unknown l is = absurd is

  pub kind_of_left : (meaning : Meaning) (l : Left) (k : Kind) → IsLeft z meaning l → IsOfKind z.trees z.m k meaning → is_reference k ≡ false → l ≡ left.Value (code_kind z.s.machine k)
  kind_of_left (value t) l k is of plain =
      let same : is.kind ≡ k = cc (sym is.kind_is ∙ of) in is.left_is ∙ ap (λ x. left.Value (code_kind z.s.machine x)) same
  kind_of_left no_line l k is of plain = absurd (cc (sym of ∙ plain))
  kind_of_left bare_line l k is of plain = absurd of
  kind_of_left (new_line made) l k is of plain = absurd of
  kind_of_left (incoming t) l k is of plain = absurd of
  kind_of_left (outgoing t) l k is of plain = absurd of
  kind_of_left (table b) l k is of plain = absurd of
  kind_of_left (in_port t) l k is of plain = absurd of
  kind_of_left (out_port t) l k is of plain = absurd of
  kind_of_left nothing l k is of plain = absurd of
  kind_of_left unknown l k is of plain = absurd of

  -- where a value of a type is wanted that isn't of references
  pub wanted_left : (t : KnownType) (k : Kind) (meaning : Meaning) (l : Left) → IsLeft z meaning l → value_kind z.trees z.m t ≡ Some k → is_reference k ≡ false → fits z.m (one_of (t ∷ [])) meaning ≡ true
      → l ≡ left.Value (code_kind z.s.machine k)
  wanted_left t k meaning l is kind_is plain fit = kind_of_left meaning l k is (kind_fits z.trees z.m t k meaning kind_is fit (left_sure meaning l is)) plain

  -- where a reference is wanted
  pub reference_left : (meaning : Meaning) (l : Left) → IsLeft z meaning l → IsAnyLine z.m meaning → IsReferenceLeft l
  reference_left (value t) l is line =
      record { kind = code_kind z.s.machine is.kind; kind_is = code_kind_reference z.s.machine is.kind (line_kinds z.trees z.m t is.kind line is.kind_is); left_is = is.left_is }
  reference_left no_line l is line = is
  reference_left bare_line l is line = is
  reference_left (new_line made) l is line = absurd line
  reference_left (incoming t) l is line = absurd line
  reference_left (outgoing t) l is line = absurd line
  reference_left (table b) l is line = absurd line
  reference_left (in_port t) l is line = absurd line
  reference_left (out_port t) l is line = absurd line
  reference_left nothing l is line = absurd line
  reference_left unknown l is line = absurd line

  pub any_reference : (meaning : Meaning) (l : Left) → IsLeft z meaning l → fits z.m any_line meaning ≡ true → IsReferenceLeft l
  any_reference meaning l is fit = reference_left meaning l is (any_line_fits z.m meaning fit (left_sure meaning l is))
