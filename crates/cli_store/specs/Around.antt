-- What is around the program, and who calls it there.
use Rattle.std.specs.Prelude.{ℕ, List, Option, Result}
use Rattle.std.specs.declared.net.socket_addr.SocketAddr.{SocketAddr}
use Rattle.office_wire.specs.declared.ending.Ending.{Ending}
use Rattle.office_wire.specs.declared.serve_fault.ServeFault.{ServeFault}
use Rattle.office_wire.specs.Order.{Flow}
use Rattle.wire_tcp.specs.Waits.{Times}

-- What the files of paths hold, where it is known, and that one cannot be read; that a listener is had at an address and listens at another
-- one, as at a port that is chosen, and that there can be none.
pub record Around (H : Type 0) : Type 1 where
  pub file : List ℕ → Option (List ℕ)
  pub unreadable : List ℕ → Type 0
  pub heard : SocketAddr → H → SocketAddr → Type 0
  pub unheard : SocketAddr → Type 0

-- Who calls at a listener: that no further connection can be had; which peer it gives, and which it takes back, with how its connection
-- ended; and what is known of a peer, and of time at it.
pub record Callers (H P : Type 0) : Type 1 where
  pub cut : H → Type 0
  pub gives : H → P → H → Type 0
  pub ends : H → P → Result Ending ServeFault → H → Type 0
  pub flow : P → Flow
  pub times : P → Times
