use Rattle.std.proofs.Common.{rules, ◌<◌, ◌≤◌, IsSome, ap, ◌∙◌, sym, subst}
use mathlib.Core.Option.{some}
use Rattle.turn_lock.specs.Histories.{owned, AreOwned}
use Rattle.turn_lock.specs.Standing.{lists_of}
use Rattle.turn_lock.proofs.Histories.{all_owned}
use Rattle.turn_lock.proofs.Meets.{ends, ends_with}
use Rattle.turn_lock.proofs.Stages.{stage_out}
use Rattle.turn_lock.proofs.turnstile.Turnstile.close.Goals as goal

pub unwrap-requires : goal.unwrap-requires
unwrap-requires g c =
    let out = stage_out _ c.pass.invariant.4 (ap (λ v. v.inside) c.pass.view_is ∙ c.requires.outside) in
    let some_part = subst (λ n. 0 < n) (sym c.pass.invariant.0) c.pass.invariant.1 in
    let all = ap (λ v. v.met) c.pass.view_is ∙ c.requires.all ∙ sym (ap (λ t. t.passes) c.self.view_is) ∙ sym c.self.invariant.2 in
    let x = ends g.V.Kept.plan g.V.Kept.history _ _ _ _ _ _ _ out some_part all c.pass.invariant.6 c.close_with-closed.ensures.values.2 c.take-value.ensures.value in
    subst (λ o. IsSome o) (sym x.1) (search rules)

pub returns-clause-plan : goal.returns-clause-plan
returns-clause-plan g c =
    let out = stage_out _ c.pass.invariant.4 (ap (λ v. v.inside) c.pass.view_is ∙ c.requires.outside) in
    let some_part = subst (λ n. 0 < n) (sym c.pass.invariant.0) c.pass.invariant.1 in
    let all = ap (λ v. v.met) c.pass.view_is ∙ c.requires.all ∙ sym (ap (λ t. t.passes) c.self.view_is) ∙ sym c.self.invariant.2 in
    let end = ends_with g.V.Kept.plan g.V.Kept.history _ _ _ _ _ _ _ _ out some_part all c.pass.invariant.6 c.pass.invariant.3 c.close_with-closed.ensures.values.2 (c.take-value.ensures.value ∙ ap some c.unwrap.ensures) in
    end.0 ∙ ap (λ v. v.plan) c.pass.view_is

pub returns-clause-history : goal.returns-clause-history
returns-clause-history g c =
    let out = stage_out _ c.pass.invariant.4 (ap (λ v. v.inside) c.pass.view_is ∙ c.requires.outside) in
    let some_part = subst (λ n. 0 < n) (sym c.pass.invariant.0) c.pass.invariant.1 in
    let all = ap (λ v. v.met) c.pass.view_is ∙ c.requires.all ∙ sym (ap (λ t. t.passes) c.self.view_is) ∙ sym c.self.invariant.2 in
    let end = ends_with g.V.Kept.plan g.V.Kept.history _ _ _ _ _ _ _ _ out some_part all c.pass.invariant.6 c.pass.invariant.3 c.close_with-closed.ensures.values.2 (c.take-value.ensures.value ∙ ap some c.unwrap.ensures) in
    end.1 ∙ ap (λ v. v.seen) c.pass.view_is

pub returns-clause-entries : goal.returns-clause-entries
returns-clause-entries g c = subst (λ v. AreOwned (lists_of v) v.seen) c.pass.view_is (all_owned _ _ _ _ c.pass.invariant.7.0 c.pass.invariant.7.1)

pub returns-clause-of_passes : goal.returns-clause-of_passes
returns-clause-of_passes g c =
    let out = stage_out _ c.pass.invariant.4 (ap (λ v. v.inside) c.pass.view_is ∙ c.requires.outside) in
    let some_part = subst (λ n. 0 < n) (sym c.pass.invariant.0) c.pass.invariant.1 in
    let all = ap (λ v. v.met) c.pass.view_is ∙ c.requires.all ∙ sym (ap (λ t. t.passes) c.self.view_is) ∙ sym c.self.invariant.2 in
    let end = ends_with g.V.Kept.plan g.V.Kept.history _ _ _ _ _ _ _ _ out some_part all c.pass.invariant.6 c.pass.invariant.3 c.close_with-closed.ensures.values.2 (c.take-value.ensures.value ∙ ap some c.unwrap.ensures) in
    let passes = c.self.invariant.2 ∙ ap (λ t. t.passes) c.self.view_is in
    λ k le. ap (λ v. owned k v.seen) (sym c.pass.view_is) ∙ end.2 k (subst (λ n. n ≤ k) (sym passes) le)
