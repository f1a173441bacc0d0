-- What is written of a surface once it is loaded, or where it can't be.
use Rattle.std.specs.Prelude.{◌≡◌, ℕ, ◌+◌, ◌-◌, List, [], length, None, Some, Result, Ok, Err}
use Rattle.std.specs.Io.KnownBytes.{Appends}
use Rattle.ground_io.specs.Causes.{Rose}
use Rattle.ground_io.specs.Streams.{AppendsSome}
use Rattle.ground_model.specs.declared.limits.Limits.{Limits}
use Rattle.ground_model.specs.declared.refusal.Refusal.{Refusal}
use Rattle.landxml_surface.specs.declared.draft.Draft.{Draft}
use Rattle.store.specs.Versions.{StoreView}
use Rattle.document_commands.specs.declared.ending.Ending.{Ending}
use Rattle.document_commands.specs.declared.ending.Ending.TheVariants.{Done, BadDocument, ReadFault, WriteFault, Memory, TooLarge, BadSurface}
use Rattle.document_commands.specs.Faults.{refused_line}
use Rattle.document_commands.specs.Loaded.{refused, loaded}
use Rattle.document_commands.specs.Streams.{Stream, WritesLine, WritesNothing}

-- the fault line of a draft that is refused as the surface with this number
abbrev pub refusal_of : ℕ → Draft → ℕ × Refusal → List ℕ
refusal_of number d r = refused_line number (r.0 + 1 - length d.points) d.head.origin r.1

-- a draft can't be loaded as the surface with this number, and its fault line was written; or memory ran out
abbrev pub Fails : Limits → ℕ → Draft → Stream → Stream → Ending → Type 0
Fails limits number d before after BadSurface = (r : ℕ × Refusal) × (refused limits d ≡ Some r) × WritesLine before after [] (refusal_of number d r)
Fails limits number d before after Memory = WritesNothing before after
Fails limits number d before after Done = ⊥
Fails limits number d before after BadDocument = ⊥
Fails limits number d before after ReadFault = ⊥
Fails limits number d before after WriteFault = ⊥
Fails limits number d before after TooLarge = ⊥

-- the store of a draft that was loaded, or what was written in its place
abbrev pub Reaches : Limits → ℕ → Draft → Stream → Stream → Result StoreView Ending → Type 0
Reaches limits number d before after (Ok store) = (refused limits d ≡ None) × (store.journal ≡ loaded limits d) × WritesNothing before after
Reaches limits number d before after (Err end) = Fails limits number d before after end

-- a text was written, or a beginning of it where a write failed, or nothing out of memory
abbrev pub Puts : Stream → Stream → List ℕ → Ending → Type 0
Puts before after text Done = Appends before.bytes after.bytes text × (after.faults ≡ before.faults)
Puts before after text WriteFault = AppendsSome before.bytes after.bytes text × Rose before.faults after.faults
Puts before after text Memory = WritesNothing before after
Puts before after text BadDocument = ⊥
Puts before after text ReadFault = ⊥
Puts before after text TooLarge = ⊥
Puts before after text BadSurface = ⊥

-- the text of a draft that was loaded was written, or a beginning of it where a write failed; or what was written in its place
abbrev pub Writes : Limits → ℕ → Draft → List ℕ → Stream → Stream → Ending → Type 0
Writes limits number d text before after Done = (refused limits d ≡ None) × Appends before.bytes after.bytes text × (after.faults ≡ before.faults)
Writes limits number d text before after WriteFault = (refused limits d ≡ None) × AppendsSome before.bytes after.bytes text × Rose before.faults after.faults
Writes limits number d text before after BadSurface = Fails limits number d before after BadSurface
Writes limits number d text before after Memory = Fails limits number d before after Memory
Writes limits number d text before after BadDocument = ⊥
Writes limits number d text before after ReadFault = ⊥
Writes limits number d text before after TooLarge = ⊥
