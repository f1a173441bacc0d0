-- A record that grows by one call.
use Rattle.std.proofs.Common.{◌≡◌, List, [], ◌∷◌, ◌++◌, ap, ◌∙◌}
use Rattle.std.proofs.lemmas.List.{map-append}
use Rattle.ground_io.specs.declared.recorded.Call.{Call}
use Rattle.ground_io.specs.Recording.{event_of, events_of}

-- the call is the last event
pub records_call : (old new : List Call) (call : Call) → new ≡ old ++ call ∷ [] → events_of new ≡ events_of old ++ event_of call ∷ []
records_call old new call p = ap events_of p ∙ map-append event_of old (call ∷ [])
