-- What calls do on both sides. The body of a function takes as many values as the function has formals and, on arguments of their kinds, does
-- what the function does and ends with what it answers, which is a value of the function's kind or nothing. The body from the states of a
-- machine to their permissions gives the permission of a value of their enumeration.
use Rattle.std.specs.Prelude.{◌≡◌, ℕ, true, Option, None, Some, List, [], ◌∷◌, length, slice_get}
use Rattle.ruby_value.specs.declared.kind.Kind.{Kind}
use Rattle.ruby_value.specs.declared.kind.Kind.TheVariants as kind
use Rattle.ruby_value.specs.declared.value.Value.{Value}
use Rattle.ruby_symbols.specs.declared.machine.FunctionSymbol.{FunctionSymbol}
use Rattle.ruby_symbols.specs.declared.machine.MachineSymbols.{MachineSymbols}
use Rattle.ctl_face.specs.Prelude.{IsLawful, LocalView}
use Rattle.acts.specs.Prelude.{ends, ◌>>=◌, run}
use Rattle.body_meaning.specs.declared.thing.Thing.{Thing}
use Rattle.body_meaning.specs.declared.thing.Thing.TheVariants as thing
use Rattle.body_meaning.specs.Prelude.{permission_of, value_in}
use Rattle.code_meaning.specs.declared.code_end.CodeEnd.{CodeEnd}
use Rattle.code_meaning.specs.declared.code_end.CodeEnd.TheVariants as code_end
use Rattle.code_meaning.specs.Prelude.{HoldsOfAnswer, argument_count, are_of_kinds, is_of_kind}
use Rattle.body_code.specs.Prelude.{formals_in, function_body_number, permission_body_number, result_of}
use Rattle.code_laws.specs.Holding.{IsValueOf}
use Rattle.code_laws.specs.Same.{Same}
use Rattle.code_laws.specs.Setting.{Setting, tables}

-- how a body ends that has this result, by what the function answers
abbrev pub end_by : Option Kind → Thing → CodeEnd
end_by None t = code_end.Nothing
end_by (Some k) t = code_end.Value (value_in t)

abbrev pub AnswersAs : Setting → Option Kind → Thing → Type 0
AnswersAs z None t = t ≡ thing.Nothing
AnswersAs z (Some k) t = IsValueOf z k t

pub record DoesFunction (z : Setting) (k : ℕ) (f : FunctionSymbol) : Type 0 where
  pub count : argument_count (slice_get z.p.bodies (function_body_number z.numbers k)) ≡ length f.formals
  pub stays : (arguments : List Value) → are_of_kinds (tables z) (formals_in z.s (Some f)) arguments ≡ true → (v : LocalView) → IsLawful v → v.machine ≡ z.setup
      → HoldsOfAnswer (AnswersAs z (result_of z.s (Some f))) (run (z.functions k arguments) v)
  pub does : (arguments : List Value) → are_of_kinds (tables z) (formals_in z.s (Some f)) arguments ≡ true
      → Same z.setup (z.calls (function_body_number z.numbers k) arguments) (z.functions k arguments >>= (λ t. ends (end_by (result_of z.s (Some f)) t)))

pub record DoesPermissions (z : Setting) (machine : ℕ) (m : MachineSymbols) : Type 0 where
  pub count : argument_count (slice_get z.p.bodies (permission_body_number z.numbers machine)) ≡ 1
  pub does : (state : Value) → is_of_kind (tables z) (kind.Enum m.states 0) state ≡ true → Same z.setup (z.calls (permission_body_number z.numbers machine) (state ∷ [])) (ends (code_end.Value (permission_of m state)))

pub record CallsDo (z : Setting) : Type 0 where
  pub functions : (k : ℕ) (f : FunctionSymbol) → slice_get z.s.machine.functions k ≡ Some f → z.may_call k ≡ true → DoesFunction z k f
  pub permissions : (machine : ℕ) (m : MachineSymbols) → slice_get z.s.symbols.machines machine ≡ Some m → DoesPermissions z machine m
