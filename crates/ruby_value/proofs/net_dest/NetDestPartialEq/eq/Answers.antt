use Rattle.std.proofs.Common.{Bool, ◌&&◌, ◌∙◌, ap, eq-eqb, nat_eq, sym}
use Rattle.std.proofs.lemmas.Bool.{ne_eqb}
use Rattle.std.specs.Cmp.Lexicographic.{pointwise}
use Rattle.ruby_value.proofs.Words.{equal_sets}
use Rattle.ruby_value.proofs.net_dest.NetDestPartialEq.eq.Goals as goal

pub returns-then-self-other : goal.returns-then-self-other
returns-then-self-other c =
    let f = c.self.inside.far in
    let g = c.other.inside.far in
    let u = c.self.inside.near in
    let w = c.other.inside.near in
    rw (← c.self.view_is, ← c.other.view_is)
    (c.eq.ensures ∙ ap (λ (b : Bool). b && pointwise nat_eq f g) (sym (eq-eqb u w c.if-self-other.true)) ∙ equal_sets u w f g c.self.invariant.0 c.other.invariant.0 c.self.invariant.1 c.other.invariant.1)

pub returns-else-self-other : goal.returns-else-self-other
returns-else-self-other c =
    let f = c.self.inside.far in
    let g = c.other.inside.far in
    let u = c.self.inside.near in
    let w = c.other.inside.near in
    rw (← c.self.view_is, ← c.other.view_is)
    (ne_eqb u w c.if-self-other.false ∙ ap (λ (b : Bool). b && pointwise nat_eq f g) (sym (ne_eqb u w c.if-self-other.false)) ∙ equal_sets u w f g c.self.invariant.0 c.other.invariant.0 c.self.invariant.1 c.other.invariant.1)
