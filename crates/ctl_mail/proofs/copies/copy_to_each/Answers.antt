use Rattle.std.proofs.Common.{◌≡◌, ◌≤◌, ◌<◌, ◌+◌, ◌*◌, ◌^◌, ◌++◌, ℕ, Some, List, [], ◌∷◌, All, length, length-append, slice_get, refl, sym, subst, ap, ◌∙◌, arith}
use Rattle.ruby_value.specs.declared.value.Value.{Value}
use Rattle.ctl_face.specs.Prelude.{Actor}
use Rattle.ctl_mail.specs.Prelude.{mail_of, MaySend, actor_of, members_from, view_with_network_copy, HasSpace, changed_mail, changed_view, told_by}
use Rattle.ctl_mail.proofs.Edits.{past-end}
use Rattle.ctl_mail.proofs.Members.{from-zero, member-holds, next-member, no-longer, no-next, push-parts, rise-from}
use Rattle.ctl_mail.proofs.Sending.{Progress, all-done, may-fewer, more-progress, no-progress, space-fewer}
use Rattle.ctl_mail.proofs.copies.copy_to_each.Goals as goal

pub loop-clone-init : goal.loop-clone-init
loop-clone-init c =
    let members = c.args.members.now in
    let first = mail_of c.args.store.now in
    let told = told_by c.args.changes.now in
    let actor : Actor = actor_of c.args.me c.args.seed c.args.routes.now in
    let all : members ≡ members_from 0 members = sym (from-zero members) in
    record {
      count = c.requires.count ∙ ap length all;
      clones = c.requires.clones;
      are = c.requires.changes;
      may = subst (λ (xs : List ℕ). MaySend c.args.me told.cycle (length xs) (changed_mail first told)) all c.requires.may;
      space = subst (λ (xs : List ℕ). HasSpace c.args.changes.now (4 * length xs) (length xs)) all c.requires.space;
      words = c.requires.words;
      cycle = refl;
      progress =
          subst (Progress actor c.args.network c.args.latency c.args.fields told.cycle first told told members) all
          (no-progress actor c.args.network c.args.latency c.args.fields told.cycle first told members);
    }

pub returns-in_default-least_from-clause-after : goal.returns-in_default-least_from-clause-after
returns-in_default-least_from-clause-after c =
    let members = c.args.members.now in
    let from = c.loop-clone.from in
    let left = members_from from members in
    let inv = c.loop-clone.invariant in
    let none : left ≡ [] = no-next left (sym c.least_from.ensures ∙ c.in_default-least_from.is) in
    absurd (omega (arith, inv.count, ap length none))

pub returns-in_default-least_from-clause-changes : goal.returns-in_default-least_from-clause-changes
returns-in_default-least_from-clause-changes c = c.loop-clone.invariant.are

pub returns-in_default-least_from-clause-cycle : goal.returns-in_default-least_from-clause-cycle
returns-in_default-least_from-clause-cycle c = c.loop-clone.invariant.cycle

pub copy_to-requires-clause-changes : goal.copy_to-requires-clause-changes
copy_to-requires-clause-changes c = c.loop-clone.invariant.are

pub copy_to-requires-clause-cycle : goal.copy_to-requires-clause-cycle
copy_to-requires-clause-cycle c = omega (arith, c.loop-clone.invariant.cycle, c.requires.cycle)

pub copy_to-requires-clause-may : goal.copy_to-requires-clause-may
copy_to-requires-clause-may c =
    let members = c.args.members.now in
    let from = c.loop-clone.from in
    let left = members_from from members in
    let inv = c.loop-clone.invariant in
    let r = c.in-Some-least_from.receiver in
    let rest = members_from (r + 1) members in
    let there : slice_get left 0 ≡ Some r = sym c.in-Some-least_from.ensures in
    let is : left ≡ r ∷ rest = (next-member members (rise-from members c.count-count.ensures.increasing) from r there).1 in
    let count : length left ≡ length rest + 1 = omega (arith, ap length is) in
    let mail = changed_mail (mail_of c.args.store.now) (told_by c.loop-clone.changes) in
    subst (λ now. MaySend c.args.me now 1 mail) (sym inv.cycle) (may-fewer c.args.me c.args.changes.now.cycle 1 (length left) mail (omega (arith, count)) inv.may)

pub copy_to-requires-clause-space : goal.copy_to-requires-clause-space
copy_to-requires-clause-space c =
    let members = c.args.members.now in
    let from = c.loop-clone.from in
    let left = members_from from members in
    let inv = c.loop-clone.invariant in
    let r = c.in-Some-least_from.receiver in
    let rest = members_from (r + 1) members in
    let there : slice_get left 0 ≡ Some r = sym c.in-Some-least_from.ensures in
    let is : left ≡ r ∷ rest = (next-member members (rise-from members c.count-count.ensures.increasing) from r there).1 in
    let count : length left ≡ length rest + 1 = omega (arith, ap length is) in
    space-fewer c.loop-clone.changes 4 (4 * length left) 1 (length left) (omega (arith, count)) (omega (arith, count)) inv.space

pub copy_to-requires-clause-words : goal.copy_to-requires-clause-words
copy_to-requires-clause-words c = c.loop-clone.invariant.words

pub overflow_add-from : goal.overflow_add-from
overflow_add-from c =
    let members = c.args.members.now in
    let from = c.loop-clone.from in
    let left = members_from from members in
    let inv = c.loop-clone.invariant in
    let small : c.in-Some-least_from.receiver + 1 < 2 ^ 32 = member-holds (λ x. x + 1 < 2 ^ 32) members from c.in-Some-least_from.receiver c.requires.next (sym c.in-Some-least_from.ensures) in
    omega arith

pub loop-clone-preserved : goal.loop-clone-preserved
loop-clone-preserved c =
    let members = c.args.members.now in
    let from = c.loop-clone.from in
    let left = members_from from members in
    let inv = c.loop-clone.invariant in
    let r = c.in-Some-least_from.receiver in
    let rest = members_from (r + 1) members in
    let there : slice_get left 0 ≡ Some r = sym c.in-Some-least_from.ensures in
    let is : left ≡ r ∷ rest = (next-member members (rise-from members c.count-count.ensures.increasing) from r there).1 in
    let count : length left ≡ length rest + 1 = omega (arith, ap length is) in
    let first = mail_of c.args.store.now in
    let start = told_by c.args.changes.now in
    let told = told_by c.loop-clone.changes in
    let new = told_by c.copy_to.new.changes in
    let actor : Actor = actor_of c.args.me c.args.seed c.args.routes.now in
    let items : c.loop-clone.clones.items ≡ c.pop.new.self.items ++ c.in-Some.clone ∷ [] = c.in-Some.ensures.items in
    let parts = push-parts (λ (f : List Value). f ≡ c.args.fields) c.pop.new.self.items c.in-Some.clone (subst (All (λ (f : List Value). f ≡ c.args.fields)) items inv.clones) in
    let one : changed_view first new ≡ view_with_network_copy actor c.args.network c.args.latency c.args.fields start.cycle (changed_view first told) r =
    subst (λ now. changed_view first new ≡ view_with_network_copy actor c.args.network c.args.latency c.args.fields now (changed_view first told) r) inv.cycle
    (subst (λ (f : List Value). changed_view first new ≡ view_with_network_copy actor c.args.network c.args.latency f told.cycle (changed_view first told) r) parts.1 c.copy_to.ensures.after) in
    let may : MaySend c.args.me told.cycle (length rest + 1) (changed_mail first told) =
    subst (λ now. MaySend c.args.me now (length rest + 1) (changed_mail first told)) (sym inv.cycle) (may-fewer c.args.me start.cycle (length rest + 1) (length left) (changed_mail first told) (omega (arith, count)) inv.may) in
    record {
      count = omega (arith, count, inv.count, ap length items, length-append c.pop.new.self.items (c.in-Some.clone ∷ []));
      clones = parts.0;
      are = c.copy_to.ensures.changes;
      may = subst (λ now. MaySend c.args.me now (length rest) (changed_mail first new)) inv.cycle (c.copy_to.ensures.may (length rest) may);
      space =
          c.copy_to.ensures.space (length rest)
          (space-fewer c.loop-clone.changes (4 * (length rest + 1)) (4 * length left) (length rest + 1) (length left) (omega (arith, count)) (omega (arith, count)) inv.space);
      words = c.copy_to.ensures.words;
      cycle = c.copy_to.ensures.cycle ∙ inv.cycle;
      progress = more-progress actor c.args.network c.args.latency c.args.fields start.cycle first start told new members r left rest is one inv.progress;
    }

pub copy_to-requires-in-Some-least_from-2-clause-changes : goal.copy_to-requires-in-Some-least_from-2-clause-changes
copy_to-requires-in-Some-least_from-2-clause-changes c = c.loop-clone.invariant.are

pub copy_to-requires-in-Some-least_from-2-clause-cycle : goal.copy_to-requires-in-Some-least_from-2-clause-cycle
copy_to-requires-in-Some-least_from-2-clause-cycle c = omega (arith, c.loop-clone.invariant.cycle, c.requires.cycle)

pub copy_to-requires-in-Some-least_from-2-clause-may : goal.copy_to-requires-in-Some-least_from-2-clause-may
copy_to-requires-in-Some-least_from-2-clause-may c =
    let members = c.args.members.now in
    let from = c.loop-clone.from in
    let left = members_from from members in
    let inv = c.loop-clone.invariant in
    let r = c.in-Some-least_from-2.receiver in
    let rest = members_from (r + 1) members in
    let there : slice_get left 0 ≡ Some r = sym c.in-Some-least_from-2.ensures in
    let is : left ≡ r ∷ rest = (next-member members (rise-from members c.count-count.ensures.increasing) from r there).1 in
    let count : length left ≡ length rest + 1 = omega (arith, ap length is) in
    let mail = changed_mail (mail_of c.args.store.now) (told_by c.loop-clone.changes) in
    subst (λ now. MaySend c.args.me now 1 mail) (sym inv.cycle) (may-fewer c.args.me c.args.changes.now.cycle 1 (length left) mail (omega (arith, count)) inv.may)

pub copy_to-requires-in-Some-least_from-2-clause-space : goal.copy_to-requires-in-Some-least_from-2-clause-space
copy_to-requires-in-Some-least_from-2-clause-space c =
    let members = c.args.members.now in
    let from = c.loop-clone.from in
    let left = members_from from members in
    let inv = c.loop-clone.invariant in
    let r = c.in-Some-least_from-2.receiver in
    let rest = members_from (r + 1) members in
    let there : slice_get left 0 ≡ Some r = sym c.in-Some-least_from-2.ensures in
    let is : left ≡ r ∷ rest = (next-member members (rise-from members c.count-count.ensures.increasing) from r there).1 in
    let count : length left ≡ length rest + 1 = omega (arith, ap length is) in
    space-fewer c.loop-clone.changes 4 (4 * length left) 1 (length left) (omega (arith, count)) (omega (arith, count)) inv.space

pub copy_to-requires-in-Some-least_from-2-clause-words : goal.copy_to-requires-in-Some-least_from-2-clause-words
copy_to-requires-in-Some-least_from-2-clause-words c = c.loop-clone.invariant.words

pub returns-in-Some-least_from-2-clause-after : goal.returns-in-Some-least_from-2-clause-after
returns-in-Some-least_from-2-clause-after c =
    let members = c.args.members.now in
    let from = c.loop-clone.from in
    let left = members_from from members in
    let inv = c.loop-clone.invariant in
    let r = c.in-Some-least_from-2.receiver in
    let rest = members_from (r + 1) members in
    let there : slice_get left 0 ≡ Some r = sym c.in-Some-least_from-2.ensures in
    let is : left ≡ r ∷ rest = (next-member members (rise-from members c.count-count.ensures.increasing) from r there).1 in
    let count : length left ≡ length rest + 1 = omega (arith, ap length is) in
    let none : length c.loop-clone.clones.items ≤ 0 = omega (arith, past-end _ 0 c.in_default.ensures.variant.1, c.loop-clone.clones.ok.0) in
    let empty : rest ≡ [] = no-longer rest (omega (arith, count, inv.count)) in
    let first = mail_of c.args.store.now in
    let start = told_by c.args.changes.now in
    let told = told_by c.loop-clone.changes in
    let new = told_by c.copy_to-in-Some-least_from-2.new.changes in
    let actor : Actor = actor_of c.args.me c.args.seed c.args.routes.now in
    let one : changed_view first new ≡ view_with_network_copy actor c.args.network c.args.latency c.args.fields start.cycle (changed_view first told) r =
    subst (λ now. changed_view first new ≡ view_with_network_copy actor c.args.network c.args.latency c.args.fields now (changed_view first told) r) inv.cycle c.copy_to-in-Some-least_from-2.ensures.after in
    all-done actor c.args.network c.args.latency c.args.fields start.cycle first start new members rest empty
    (more-progress actor c.args.network c.args.latency c.args.fields start.cycle first start told new members r left rest is one inv.progress)

pub returns-in-Some-least_from-2-clause-cycle : goal.returns-in-Some-least_from-2-clause-cycle
returns-in-Some-least_from-2-clause-cycle c = c.copy_to-in-Some-least_from-2.ensures.cycle ∙ c.loop-clone.invariant.cycle

pub returns-clause-after : goal.returns-clause-after
returns-clause-after c =
    let members = c.args.members.now in
    let from = c.loop-clone.from in
    let left = members_from from members in
    let inv = c.loop-clone.invariant in
    let none : left ≡ [] = no-next left (sym c.least_from-2.ensures ∙ c.in_default-least_from-2.is) in
    absurd (omega (arith, inv.count, ap length none))

pub returns-clause-changes : goal.returns-clause-changes
returns-clause-changes c = c.loop-clone.invariant.are

pub returns-clause-cycle : goal.returns-clause-cycle
returns-clause-cycle c = c.loop-clone.invariant.cycle
