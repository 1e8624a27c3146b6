use Rattle.ruby_value.proofs.Members.{contains_of}
use Rattle.ruby_value.proofs.far_members.FarMembers.contains.Goals as goal

pub returns : goal.returns
returns c = rw (c.is_ok.ensures.value, ← c.self.view_is, ← c.deref.ensures.value) (contains_of _ _ c.binary_search.result (rw c.deref.ensures.value c.self.invariant) c.binary_search.ensures.position)
