use denote.Param.Send.{sendable}
use Rattle.network_book.proofs.BookCrosses.{shared_book-send}
use Rattle.network_book.proofs.net.Net.meet.Goals as goal

pub meet-requires-send-V : goal.meet-requires-send-V
meet-requires-send-V g c κs within = let d = c.type_bounds.send-D in search (sendable, shared_book-send) depth 10
