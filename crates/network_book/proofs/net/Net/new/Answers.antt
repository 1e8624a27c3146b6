use denote.Param.Send.{sendable}
use Rattle.network_book.proofs.BookCrosses.{shared_book-send}
use Rattle.network_book.proofs.net.Net.new.Goals as goal

pub new-requires-send-V : goal.new-requires-send-V
new-requires-send-V g c κs within = let d = c.type_bounds.send-D in search (sendable, shared_book-send) depth 10
