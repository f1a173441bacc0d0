-- How the value of an attribute is decoded, byte by byte.
use Rattle.std.specs.Prelude.{ℕ, true, false, ◌==◌, ◌&&◌, ◌||◌, List, [], ◌∷◌, ◌++◌, Option, Some, None, if◌then◌else◌}
use Rattle.landxml_read.specs.declared.decode.Decoding.{Decoding}
use Rattle.landxml_read.specs.Values.{reference}

-- a raw TAB, LF or CR as a space
abbrev pub space_for : ℕ → ℕ
space_for b = if b == 9 || b == 10 || b == 13 then 32 else b

-- at the beginning of a value
abbrev pub no_decoding : Decoding
no_decoding = record { out = []; after_cr = false; in_name = false; name = [] }

-- after a byte outside a reference
abbrev pub plain_next : Decoding → ℕ → Option Decoding
plain_next d b =
    if b == 38 then Some (record d { in_name = true; name = [] })
    else (if d.after_cr && b == 10 then Some (record d { after_cr = false }) else Some (record d { out = d.out ++ space_for b ∷ []; after_cr = b == 13 }))

-- after the ; of a reference, where it is listed
abbrev pub replaced : Decoding → Option (List ℕ) → Option Decoding
replaced d None = None
replaced d (Some text) = Some (record d { out = d.out ++ text; after_cr = false; in_name = false })

-- after a byte of a reference
abbrev pub name_next : Decoding → ℕ → Option Decoding
name_next d b = if b == 38 then None else (if b == 59 then replaced d (reference d.name) else Some (record d { name = d.name ++ b ∷ [] }))

-- after a byte
abbrev pub decoding_next : Decoding → ℕ → Option Decoding
decoding_next d b = if d.in_name then name_next d b else plain_next d b

-- after some bytes
abbrev pub decoding_run : Option Decoding → List ℕ → Option Decoding
decoding_run o [] = o
decoding_run None (b ∷ bs) = None
decoding_run (Some d) (b ∷ bs) = decoding_run (decoding_next d b) bs

-- what was decoded at the end, where no reference is open
abbrev pub decoding_end : Option Decoding → Option (List ℕ)
decoding_end None = None
decoding_end (Some d) = if d.in_name then None else Some d.out
