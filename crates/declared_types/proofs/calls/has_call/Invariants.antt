use Rattle.std.proofs.Common.{◌≡◌, drop, map}
use Rattle.std.specs.List.{list_any}
use Rattle.std.specs.Str.{bytes_eq}
use Rattle.slicc_plan.specs.Prelude.{Call}
use Rattle.declared_types.specs.Prelude.{call_of}
use Rattle.declared_types.proofs.calls.has_call.Given as goal

abbrev pub invariant-loop-c : goal.invariant-loop-c
invariant-loop-c l =
    list_any (λ (c : Call). bytes_eq c.name l.text) (map call_of l.calls) ≡ list_any (λ (c : Call). bytes_eq c.name l.text) (map call_of (drop l.c-index l.calls))
