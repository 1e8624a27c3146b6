-- A book may go between threads, where its driver may.
use denote.Param.Send.{IsSend, sendable}
use denote.Param.SendFields.{declared_send}
use denote.RattleType.{RattleType}
use Rattle.std.proofs.Crossing.{crosses, Vec-send}
use Rattle.ctl_face.specs.contracts.parcel.Parcel as Parcel
use Rattle.run_journal.specs.contracts.verdict.Verdict as Verdict
use Rattle.sequencer.specs.declared.driver.Driver.{Ghosts}
use Rattle.world_state.specs.contracts.place.Place as Place
use Rattle.world_state.specs.contracts.seat.SeatAt as SeatAt
use Rattle.world_state.specs.contracts.state.State as State
use Rattle.ruby_world.specs.contracts.world.RunLimits as RunLimits
use Rattle.ruby_world.specs.contracts.world.World as World
use Rattle.network_book.specs.contracts.book.Book as Book
use Rattle.network_book.proofs.TreesCross.{option-send}
use Rattle.network_book.proofs.StoresCross.{book-send, parcel-send, place-send, plan-send, seatat-send, topology-send, verdict-send}

limits-send : IsSend RunLimits.the_row
limits-send = search sendable depth 20

state-send : (D : RattleType) → IsSend D → IsSend (State.the_row D)
state-send D s =
    let places = Vec-send Place.the_row place-send in
    let verdict = option-send Verdict.the_row verdict-send in
    declared_send (State.the_type D) (
      search sendable,
      (
        search (sendable, places),
        (
          search (sendable, s) depth 20,
          (
            search sendable,
            (
              search (sendable, crosses) depth 20,
              (
                search (sendable, verdict) depth 20,
                (search (sendable, book-send), tt),
              ),
            ),
          ),
        ),
      ),
    )

world-send : (D : RattleType) (g : Ghosts D.Denot) → IsSend D → IsSend (World.the_row D g)
world-send D g s = record {
  owned = λ d vs x. (
    (λ vss. (
      tt,
      (
        plan-send.owned x.0.plan vss.0,
        (
          topology-send.owned x.0.topology vss.1.0,
          (
            limits-send.owned x.0.limits vss.1.1.0,
            (
              (Vec-send SeatAt.the_row seatat-send).owned x.0.seats vss.1.1.1.0,
              (
                (state-send D s).owned x.0.state vss.1.1.1.1.0,
                ((Vec-send _ (Vec-send Parcel.the_row parcel-send)).owned x.0.waiting vss.1.1.1.1.1.0, tt),
              ),
            ),
          ),
        ),
      ),
    )),
    tt,
  );
  leaving = λ k d w. tt;
}

pub shared_book-send : (D : RattleType) (g : Ghosts D.Denot) → IsSend D → IsSend (Book.the_row D g)
shared_book-send D g s = record {
  owned = λ d vs x. ((λ vss. (tt, ((world-send D g s).owned x.0.world vss.0, tt))), tt);
  leaving = λ k d w. tt;
}
