-- What a recorded link shows.
use Rattle.std.specs.Prelude.{ℕ, List, map}
use Rattle.ground_io.specs.Order.{Event}
use Rattle.ground_io.specs.Order as order
use Rattle.ground_io.specs.declared.recorded.Call.{Call}
use Rattle.ground_io.specs.declared.recorded.Call.TheVariants.{Received, Sent}

-- a call as an event
abbrev pub event_of : Call → Event
event_of (Received bytes) = order.Received bytes.items
event_of (Sent bytes) = order.Sent bytes.items

-- calls as events
abbrev pub events_of : List Call → List Event
events_of calls = map event_of calls

-- a recorded link: the link, its calls in their order, and the counts of its faults
pub record RecordView (L : Type 0) : Type 0 where
  pub link : L
  pub calls : List Event
  pub read_faults : ℕ
  pub write_faults : ℕ
