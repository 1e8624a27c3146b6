use Rattle.std.proofs.Common.{◌≡◌, ◌∙◌, ℕ, List, Option, None, Some, Ok, refl, sym, ap, subst}
use Rattle.ruby_value.specs.declared.value.Value.{Value}
use Rattle.ruby_symbols.specs.Prelude.{function_named}
use Rattle.acts.specs.Prelude.{DoesAs}
use Rattle.acts.proofs.Walk.{does_ends_as}
use Rattle.body_meaning.specs.declared.frame.About.{About}
use Rattle.body_meaning.specs.declared.frame.Flow.TheVariants.{WentOn}
use Rattle.body_meaning.specs.declared.frame.Frame.{Frame}
use Rattle.body_meaning.specs.Prelude.{calls_within, Calls, ended, Reading, reading, about_after, called_alone, called_or}
use Rattle.plain_walk.proofs.calls.called_alone.Goals as goal

-- what is found for the arguments and the function as code has them
about_is : (s : Reading) (calls : Calls) (text : List ℕ) (about : Option About) (borrowed arguments : List Value) (looked function : Option ℕ) (o : Option (Option About))
    → borrowed ≡ arguments → looked ≡ function → o ≡ about_after s calls text borrowed about looked → about_after s calls text arguments about function ≡ o
about_is s calls text about borrowed arguments looked function o same found is =
    sym (is ∙ ap (λ (xs : List Value). about_after s calls text xs about looked) same ∙ ap (λ (f : Option ℕ). about_after s calls text arguments about f) found)

pub returns-in-Some : goal.returns-in-Some
unfolding called_alone
returns-in-Some g c =
    let s : Reading = reading c.args.s in
    let calls : Calls = calls_within s c.args.depth in
    let text = c.args.name.now in
    let frame : Frame = c.args.frame.now in
    let after : Frame = record frame { about = c.in-Some.about } in
    let v = g.T.Local.view c.args.local.now in
    let is = about_is s calls text frame.about c.deref.result.now c.args.arguments c.function_named-function.result (function_named s.machine text) (Some c.in-Some.about) c.deref.ensures c.function_named-function.ensures (c.in-Some.ensures s calls) in
    subst (λ (o : Option (Option About)). DoesAs (ended after) (called_or s calls text c.args.arguments frame o) (Ok WentOn) v v) (sym is)
    (does_ends_as (ended after) (ended after WentOn) WentOn v refl)

pub returns-in-None : goal.returns-in-None
unfolding called_alone
returns-in-None g c =
    let s : Reading = reading c.args.s in
    let calls : Calls = calls_within s c.args.depth in
    let text = c.args.name.now in
    let frame : Frame = c.args.frame.now in
    let is = about_is s calls text frame.about c.deref.result.now c.args.arguments c.function_named-function.result (function_named s.machine text) None c.deref.ensures c.function_named-function.ensures (c.in-None.ensures s calls) in
    subst (λ (o : Option (Option About)). DoesAs (ended frame) (called_or s calls text c.args.arguments frame o) c.called.result (g.T.Local.view c.args.local.now) (g.T.Local.view c.called.new.local)) (sym is)
    c.called.ensures
