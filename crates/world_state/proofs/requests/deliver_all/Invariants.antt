use Rattle.std.proofs.Common.{◌≡◌, reverse, vec_len}
use Rattle.std.specs.List.{All}
use Rattle.ctl_face.specs.Prelude.{Ctl}
use Rattle.world_state.specs.Prelude.{CanArrive, HasRoom, delivered, made_in, places_with}
use Rattle.world_state.proofs.requests.deliver_all.Given as goal

-- what is left can still come, and when it has come all have
abbrev pub invariant-loop-d : goal.invariant-loop-d
invariant-loop-d l = record {
  can : CanArrive l.places.items (reverse l.newest_first.items);
  room : All (HasRoom (vec_len l.newest_first)) l.places.items;
  come :
      (held : Ctl)
      → delivered (places_with held l.places.items) (reverse l.newest_first.items)
      ≡ delivered (places_with held l.initial.places.items) (reverse l.initial.newest_first.items);
  made : made_in l.places.items ≡ made_in l.initial.places.items;
}

abbrev pub decreases-loop-d : goal.decreases-loop-d
decreases-loop-d l = vec_len l.newest_first
