use Rattle.std.proofs.Common.{◌≡◌, ◌∙◌, refl, ap, subst, sym}
use Rattle.statement_rules.specs.Prelude.{IsGrown, at}
use Rattle.statement_rules.proofs.Steps.{grown_push, local_bound}
use Rattle.statement_rules.proofs.messages.bind_local.Goals as goal

pub returns-clause-names : goal.returns-clause-names
returns-clause-names c =
    let d = c.in-Declare in
    local_bound c.args.env c.args.bound.now.items c.push.new.self.items _ c.args.s.now d.kind d.name d.value d.span _
    c.in_ok-push.ensures.items c.as_slice-2.ensures c.local_meaning-meaning.ensures (c.with_names.ensures.is ∙ ap (at c.args.env) c.as_slice.ensures.value) refl d.is

pub returns-clause-kept : goal.returns-clause-kept
returns-clause-kept c =
    subst (IsGrown c.args.bound.now.items) (sym c.in_ok-push.ensures.items) (grown_push c.args.bound.now.items _)
