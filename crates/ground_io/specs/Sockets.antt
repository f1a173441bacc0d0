-- What an object over a socket shows.
use Rattle.std.specs.Prelude.{ℕ, Bool}
use Rattle.std.specs.declared.net.socket_addr.SocketAddr.{SocketAddr}

-- a listener: where it listens, whether it is bound, how many sessions may still come, how many are out, and the count of its faults
pub record ListenerView : Type 0 where
  pub address : SocketAddr
  pub is_bound : Bool
  pub sessions : ℕ
  pub out : ℕ
  pub faults : ℕ
