use Rattle.std.proofs.Common.{◌≡◌, ◌∙◌, IsSome, Option, Some, refl, subst, sym}
use Rattle.ruby_value.proofs.Entries.{get_entries, inserted}
use Rattle.ruby_value.proofs.line_map.LineMap+Fields.set_field.Goals as goal
use Rattle.ruby_value.proofs.line_map.LineMap+Fields.set_field.Goals.{in-Some, in-None}

is_there : {X : Type 0} (o : Option X) (x : X) → Some x ≡ o → IsSome o
is_there o x is = subst IsSome is refl

pub returns-clause-written : goal.returns-clause-written
returns-clause-written c = elim c.match-get_mut.branch [
  | in-Some w ↦
      let found = get_entries c.self.inside.entries.entries c.args.line ∙ sym w.in-Some.ensures.value in
      let writes = c.get_mut.follows.holds w.write.new.self in
      rw (w.result-is, w.self-inside-is, ← c.self.view_is, found, ← w.write.ensures) (inserted _ _ _ _ (writes.3 (is_there _ _ w.in-Some.ensures.value)).0)
  | in-None w ↦ rw w.result-is tt
]

pub returns-clause-there : goal.returns-clause-there
returns-clause-there c = elim c.match-get_mut.branch [
  | in-Some w ↦
      let found = get_entries c.self.inside.entries.entries c.args.line ∙ sym w.in-Some.ensures.value in
      rw (w.result-is, ← c.self.view_is, found) (λ _. refl, λ _. refl)
  | in-None w ↦
      let none = get_entries c.self.inside.entries.entries c.args.line ∙ sym w.in-None.ensures.value in
      rw (w.result-is, ← c.self.view_is, none) (λ wrong. wrong, λ wrong. wrong)
]
