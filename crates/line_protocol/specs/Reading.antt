-- What is answered where a text is read.
use Rattle.std.specs.Prelude.{◌≡◌, ℕ, Bool, true, false, List, [], ◌∷◌, map, Option, Some, None, Result, Ok, Err, is_some, option_map, option_and_then}
use Rattle.std.specs.List.{list_all}
use Rattle.ground_num.specs.declared.head.Origin.{Origin}
use Rattle.ground_model.specs.Content.{is_new_line}
use Rattle.ground_model.specs.Place.{Coords}
use Rattle.line_protocol.specs.declared.read.LineFault.{LineFault}
use Rattle.line_protocol.specs.declared.read.LineFault.TheVariants as faults
use Rattle.line_protocol.specs.declared.request.Request.{Request}
use Rattle.line_protocol.specs.declared.request.Request.TheVariants.{Plan, Apply}
use Rattle.line_protocol.specs.declared.words.Unread.{Unread}
use Rattle.line_protocol.specs.declared.words.Unread.TheVariants.{NoSuch, Outside, NoRoom}
use Rattle.line_protocol.specs.Grammar.{spoken, places}
use Rattle.line_protocol.specs.Fault.{IsFaultOffset}
use Rattle.line_protocol.specs.Within.{is_place, from_origin, where_true, request_of}

-- whether memory is taken while the line is read: for the places of a new line
abbrev pub takes_memory_early : Request → Bool
takes_memory_early (Plan edit) = is_new_line edit
takes_memory_early (Apply edit) = is_new_line edit
takes_memory_early request = false

-- A part of a line that says `found`, of which `within` is the value where it is within its limits. Only for such a value, and only where `early` says so, memory is taken.
abbrev pub IsRead : {S E : Type 0} → Option S → (S → Option E) → (E → Bool) → Result E Unread → Type 0
IsRead found within early (Ok value) = option_and_then within found ≡ Some value
IsRead found within early (Err NoSuch) = found ≡ None
IsRead found within early (Err Outside) = (is_some found ≡ true) × (option_and_then within found ≡ None)
IsRead found within early (Err NoRoom) = option_map early (option_and_then within found) ≡ Some true

-- a part that takes memory
abbrev pub always : {E : Type 0} → E → Bool
always value = true

-- a part that takes none
abbrev pub never : {E : Type 0} → E → Bool
never value = false

-- whether all places are within the limit
abbrev pub are_within : Origin → List Coords → Bool
are_within o ps = list_all is_place (map (from_origin o) ps)

-- nothing but that they are
abbrev pub checked : Origin → List Coords → Option Unit
checked o ps = where_true (are_within o ps) tt

-- The request of a line; its fault offset where it is none; out of range where a place or level is outside its limit; and out of memory for a new line within its limits alone.
abbrev pub Reads : Origin → List ℕ → Result Request LineFault → Type 0
Reads o line (Ok request) = request_of o line ≡ Some request
Reads o line (Err (faults.Syntax offset)) = (spoken line ≡ None) × IsFaultOffset line offset
Reads o line (Err faults.Range) = (is_some (spoken line) ≡ true) × (request_of o line ≡ None)
Reads o line (Err faults.Memory) = option_map takes_memory_early (request_of o line) ≡ Some true

-- the first pair of these words, and the words after it
abbrev pub IsPair : List (List ℕ) → Coords → Option (List (List ℕ)) → Type 0
IsPair ws p None = places ws ≡ Some (p ∷ [])
IsPair ws p (Some rest) = places ws ≡ option_map (λ ps. p ∷ ps) (places rest)
