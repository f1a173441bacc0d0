-- How a server of a document's surface runs.
use Rattle.std.specs.Prelude.{◌≡◌, ℕ, ◌^◌, Bool, true, false, not, List, [], ◌∷◌, ◌++◌, length, codes, nat_eq, Option, None, Some, Result, Ok, Err}
use Rattle.std.specs.List.{filter, list_any}
use Rattle.std.specs.Io.KnownBytes.{Appends}
use Rattle.ground_io.specs.Causes.{Rose}
use Rattle.ground_io.specs.Streams.{AppendsSome}
use Rattle.ground_io.specs.Wires.{WireView}
use Rattle.ground_model.specs.declared.entry.Entry.{Entry}
use Rattle.ground_model.specs.declared.limits.Limits.{Limits}
use Rattle.ground_model.specs.Limits.{AreFull}
use Rattle.landxml_surface.specs.declared.origin.OriginRule.{OriginRule}
use Rattle.line_protocol.specs.Replies.{spaced}
use Rattle.turn_lock.specs.declared.journal.Journal.{Journal}
use Rattle.store.specs.Versions.{StoreView}
use Rattle.document_commands.specs.declared.ending.Ending.{Ending}
use Rattle.document_commands.specs.Rewriting.{Opens}
use Rattle.document_commands.specs.Streams.{Stream, WritesNothing}
use Rattle.serve.specs.Surfaces.{ServesSurface}
use Rattle.serve.specs.declared.worker.Worker.{Worker}
use Rattle.terrain_main.specs.Documents.{status_by}
use Rattle.terrain_main.specs.declared.status.Status.{Status}
use Rattle.terrain_main.specs.declared.status.Status.TheVariants as statuses

-- how doors are seen: the wires to come and those handed back, where they are known, how many wires are out, how many sessions may still come, and how often an accept failed
pub record Doors (D : Type 0) : Type 0 where
  pub coming : D → Option (List WireView)
  pub back : D → Option (List WireView)
  pub out : D → ℕ
  pub sessions : D → ℕ
  pub faults : D → ℕ

abbrev pub doors : {D : Type 0} → (D → Option (List WireView)) → (D → Option (List WireView)) → (D → ℕ) → (D → ℕ) → (D → ℕ) → Doors D
doors coming back out sessions faults = record { coming = coming; back = back; out = out; sessions = sessions; faults = faults }

-- a server at one moment: what it writes to, and its workers
pub record Server (D : Type 0) : Type 0 where
  pub sink : Stream
  pub workers : List (Worker D)

abbrev pub server : {D : Type 0} → Stream → List (Worker D) → Server D
server sink workers = record { sink = sink; workers = workers }

-- nothing was written, and no door was asked
pub record IsUntouched {D : Type 0} (before after : Server D) : Type 0 where
  pub sink : WritesNothing before.sink after.sink
  pub workers : after.workers ≡ before.workers

-- the entries that sessions made, which are those whose author isn't 0
abbrev pub made_by_sessions : List Entry → List Entry
made_by_sessions es = filter (λ e. not (nat_eq e.author 0)) es

-- the last line of a server: how many entries sessions made, and the last front
abbrev pub served_line : List Entry → List ℕ
served_line es = codes "served" ++ spaced (length (made_by_sessions es)) ++ codes " front" ++ spaced (length es) ++ 10 ∷ []

-- whether the door of a worker failed
abbrev pub any_failed : {D : Type 0} → List (Worker D) → Bool
any_failed workers = list_any (λ w. w.failed) workers

-- how serving ends whose last line is this: it was written and no door failed, or one did; or a beginning of it, since a write failed
abbrev pub EndsServing : {D : Type 0} → Stream → Stream → List (Worker D) → List ℕ → Status → Type 0
EndsServing before after workers line statuses.Ok = Appends before.bytes after.bytes line × (after.faults ≡ before.faults) × (any_failed workers ≡ false)
EndsServing before after workers line statuses.DoorFault = Appends before.bytes after.bytes line × (after.faults ≡ before.faults) × (any_failed workers ≡ true)
EndsServing before after workers line statuses.WriteFault = AppendsSome before.bytes after.bytes line × Rose before.faults after.faults
EndsServing before after workers line statuses.Usage = ⊥
EndsServing before after workers line statuses.BadDocument = ⊥
EndsServing before after workers line statuses.ReadFault = ⊥
EndsServing before after workers line statuses.Memory = ⊥
EndsServing before after workers line statuses.TooLarge = ⊥
EndsServing before after workers line statuses.BadSurface = ⊥
EndsServing before after workers line statuses.Spent = ⊥
EndsServing before after workers line statuses.LongLine = ⊥
EndsServing before after workers line statuses.Cut = ⊥

-- a surface was served from its opening journal to this last one, and then the last line was written
pub record ServesLoaded {D : Type 0} (seen : Doors D) (opening closing : Journal) (before after : Server D) (status : Status) : Type 0 where
  pub serves : ServesSurface seen.coming seen.back seen.out seen.sessions seen.faults (2 ^ 40) opening closing before.workers after.workers
  pub ends : EndsServing before.sink after.sink after.workers (served_line closing.entries) status

-- a loaded surface was served to a last journal; or there is none, out of memory before any door was asked
abbrev pub ServesTo : {D : Type 0} → Doors D → Journal → Server D → Server D → Status → Option Journal → Type 0
ServesTo seen opening before after status None = (status ≡ statuses.Memory) × IsUntouched before after
ServesTo seen opening before after status (Some closing) = ServesLoaded seen opening closing before after status

-- what comes of a surface that was to be opened: its store is served, or no door was asked
abbrev pub ServesOpened : {D : Type 0} → Doors D → Server D → Server D → Status → Result StoreView Ending → Type 0
ServesOpened seen before after status (Err end) = (status ≡ status_by end) × IsUntouched before after
ServesOpened seen before after status (Ok store) = (closing : Option Journal) × ServesTo seen store.journal before after status closing

-- a document is read from the source, the first of its surfaces that is asked for is loaded with the full limits, and then it is served by the workers as they were, after what the load wrote
pub record RunsServe {D : Type 0} (seen : Doors D) (name : Option (List ℕ)) (rule : OriginRule) (source : Stream × Stream) (before after : Server D) (status : Status) : Type 0 where
  pub limits : Limits
  pub full : AreFull limits
  pub loaded : Stream
  pub opened : Result StoreView Ending
  pub opens : Opens name rule limits (record { source = source.0; sink = before.sink }) (record { source = source.1; sink = loaded }) opened
  pub serves : ServesOpened seen (server loaded before.workers) after status opened
