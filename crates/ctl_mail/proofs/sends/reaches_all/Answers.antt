use Rattle.std.proofs.Common.{◌≡◌, ◌<◌, ◌≤◌, ◌+◌, ℕ, Bool, Option, Some, [], ◌∷◌, All, is_some, length, slice_get, get_or, sym, ap, ◌∙◌, unwrap_or, arith}
use Rattle.std.specs.List.{list_all}
use Rattle.ctl_mail.specs.Prelude.{is_routed, members_from}
use Rattle.ctl_mail.proofs.Members.{all-below, and-first, from-zero, member-holds, next-member, no-next, none-there, one-fails, past-routes, rise-from, some-there}
use Rattle.ctl_mail.proofs.sends.reaches_all.Goals as goal

pub loop-receiver-init : goal.loop-receiver-init
loop-receiver-init c = record {
  within = omega arith;
  left = ap (list_all (is_routed c.args.routes.now c.args.network)) (sym (from-zero c.args.members.now));
}

pub returns-then-is_some-clause-value : goal.returns-then-is_some-clause-value
returns-then-is_some-clause-value c =
    let members = c.args.members.now in
    let count = c.len-controllers.result in
    let r = unwrap_or c.least_from.result 0 in
    let there : slice_get (members_from count members) 0 ≡ Some r =
    sym c.least_from.ensures ∙ some-there c.least_from.result (sym c.is_some.ensures ∙ c.if-is_some.true) in
    let past : count ≤ r = (next-member members (rise-from members c.count-count.ensures.increasing) count r there).0 in
    sym (one-fails (is_routed c.args.routes.now c.args.network) members count r there
    (past-routes c.args.routes.now c.args.network r (omega (arith, c.len-controllers.ensures))))

pub returns-then-is_none-clause-value : goal.returns-then-is_none-clause-value
returns-then-is_none-clause-value c =
    sym (one-fails (is_routed c.args.routes.now c.args.network) c.args.members.now c.loop-receiver.from c.in-Some.receiver (sym c.in-Some.ensures)
    (ap (λ (o : Option ℕ). is_some o) (sym c.receiving_buffer.ensures) ∙ c.if-is_none.ensures))

pub overflow_add-from : goal.overflow_add-from
overflow_add-from c =
    let members = c.args.members.now in
    let count = c.len-controllers.result in
    let below : All (λ x. x < count) members = all-below members count (no-next _ (sym c.least_from.ensures ∙ none-there c.least_from.result (sym c.is_some.ensures ∙ c.if-is_some.false))) in
    let small : c.in-Some.receiver < count = member-holds (λ x. x < count) members c.loop-receiver.from c.in-Some.receiver below (sym c.in-Some.ensures) in
    omega (arith, c.requires.controllers, c.len-controllers.ensures)

pub loop-receiver-smaller : goal.loop-receiver-smaller
loop-receiver-smaller c =
    let members = c.args.members.now in
    let is : members_from c.loop-receiver.from members ≡ c.in-Some.receiver ∷ members_from (c.in-Some.receiver + 1) members =
    (next-member members (rise-from members c.count-count.ensures.increasing) c.loop-receiver.from c.in-Some.receiver (sym c.in-Some.ensures)).1 in
    let so : length (members_from (c.in-Some.receiver + 1) members) < length (members_from c.loop-receiver.from members) = omega (arith, ap length is) in
    so

pub loop-receiver-preserved : goal.loop-receiver-preserved
loop-receiver-preserved c =
    let members = c.args.members.now in
    let count = c.len-controllers.result in
    let p : ℕ → Bool = is_routed c.args.routes.now c.args.network in
    let below : All (λ x. x < count) members = all-below members count (no-next _ (sym c.least_from.ensures ∙ none-there c.least_from.result (sym c.is_some.ensures ∙ c.if-is_some.false))) in
    let small : c.in-Some.receiver < count = member-holds (λ x. x < count) members c.loop-receiver.from c.in-Some.receiver below (sym c.in-Some.ensures) in
    let is : members_from c.loop-receiver.from members ≡ c.in-Some.receiver ∷ members_from (c.in-Some.receiver + 1) members =
    (next-member members (rise-from members c.count-count.ensures.increasing) c.loop-receiver.from c.in-Some.receiver (sym c.in-Some.ensures)).1 in
    record {
      within = omega (arith, c.requires.controllers, c.len-controllers.ensures);
      left =
          c.loop-receiver.invariant.left ∙ (ap (list_all p) is
          ∙ and-first (p c.in-Some.receiver) (list_all p (members_from (c.in-Some.receiver + 1) members)) (ap (λ (o : Option ℕ). is_some o) (sym c.receiving_buffer.ensures) ∙ c.if-is_none.ensures));
    }

pub returns-clause-value : goal.returns-clause-value
returns-clause-value c =
    let members = c.args.members.now in
    let p : ℕ → Bool = is_routed c.args.routes.now c.args.network in
    let none : members_from c.loop-receiver.from members ≡ [] = no-next _ (sym c.least_from-in-loop-receiver.ensures ∙ c.in_default.is) in
    sym (c.loop-receiver.invariant.left ∙ ap (list_all p) none)

pub returns-clause-next : goal.returns-clause-next
returns-clause-next c =
    let members = c.args.members.now in
    let count = c.len-controllers.result in
    let below : All (λ x. x < count) members = all-below members count (no-next _ (sym c.least_from.ensures ∙ none-there c.least_from.result (sym c.is_some.ensures ∙ c.if-is_some.false))) in
    λ always k d within. let small : get_or members k d < count = below k d within in omega (arith, c.requires.controllers, c.len-controllers.ensures)
