use Rattle.std.proofs.Common.{◌≡◌, ◌+◌, ℕ, drop, length, reverse, vec_len}
use Rattle.std.specs.List.{All}
use Rattle.ctl_face.specs.Prelude.{Ctl}
use Rattle.sequencer.specs.Prelude.{seats_of}
use Rattle.world_state.specs.Prelude.{HasRoom, made_in, places_with, seated}
use Rattle.world_state.proofs.all_seats.put_all.Given as goal

-- the seats before this one have theirs, and those from it on get what is left
abbrev pub invariant-loop-a : goal.invariant-loop-a
invariant-loop-a l = record {
  count : vec_len l.newest_first + l.a-index ≡ length l.seats;
  seats :
      (held : Ctl)
      → seated (drop l.a-index l.seats) (places_with held l.places.items) (seats_of (reverse l.newest_first.items))
      ≡ seated l.seats (places_with held l.fn.places.items) (seats_of (reverse l.fn.newest_first.items));
  made : made_in l.places.items ≡ made_in l.fn.places.items;
  room : (n : ℕ) → All (HasRoom n) l.fn.places.items → All (HasRoom n) l.places.items;
}
