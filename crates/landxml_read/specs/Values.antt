-- What the value of a read attribute stands for.
use Rattle.std.specs.Prelude.{ℕ, ◌+◌, Bool, false, ◌==◌, ◌&&◌, ◌||◌, not, nat_lt, List, [], ◌∷◌, ◌++◌, length, take, drop, codes, bytes_eq, position, Option, Some, None, option_and_then, option_map, if◌then◌else◌, encode_utf8}
use Rattle.std.specs.List.{list_all, slice_split}
use Rattle.std.specs.Char.{digit_value}
use Rattle.std.specs.Str.Parse.{digits_value}

-- a raw TAB, LF, CR or CR LF is one space, after a CR or not
abbrev pub spaced_after : Bool → List ℕ → List ℕ
spaced_after after_cr [] = []
spaced_after after_cr (b ∷ bs) =
    if after_cr && b == 10 then spaced_after false bs
    else (if b == 9 || b == 10 || b == 13 then 32 else b) ∷ spaced_after (b == 13) bs

-- a raw TAB, LF, CR or CR LF is one space
abbrev pub spaced : List ℕ → List ℕ
spaced bytes = spaced_after false bytes

-- one digit of the base or more
abbrev pub is_numeral : ℕ → List ℕ → Bool
is_numeral base digits = not (length digits == 0) && list_all (λ b. nat_lt (digit_value b) base) digits

-- 9, 10, 13 or a Unicode scalar value from 32 on
abbrev pub is_character : ℕ → Bool
is_character c = c == 9 || c == 10 || c == 13 || (nat_lt 31 c && nat_lt c 0xD800) || (nat_lt 0xDFFF c && nat_lt c 0x110000)

-- the UTF-8 of the character that the digits number
abbrev pub numbered : ℕ → List ℕ → Option (List ℕ)
numbered base digits =
    if is_numeral base digits && is_character (digits_value base digits) then Some (encode_utf8 (digits_value base digits)) else None

-- the byte of the first row of this name
abbrev pub named : List (List ℕ × ℕ) → List ℕ → Option (List ℕ)
named [] name = None
named (row ∷ rows) name = if bytes_eq name row.0 then Some (row.1 ∷ []) else named rows name

-- the five names
abbrev pub names : List (List ℕ × ℕ)
names = (codes "amp", 38) ∷ (codes "lt", 60) ∷ (codes "gt", 62) ∷ (codes "quot", 34) ∷ (codes "apos", 39) ∷ []

-- what stands between & and ;
abbrev pub reference : List ℕ → Option (List ℕ)
reference name =
    if bytes_eq (take 2 name) (codes "#x") then numbered 16 (drop 2 name)
    else (if bytes_eq (take 1 name) (codes "#") then numbered 10 (drop 1 name) else named names name)

-- a reference, its ; and what follows
abbrev pub after_ampersand : List ℕ → Option (List ℕ)
after_ampersand bytes =
    option_and_then (λ k. option_map (λ c. c ++ spaced (drop (k + 1) bytes)) (reference (take k bytes))) (position (λ b. b == 59) bytes)

-- the parts that begin after an ampersand, each decoded
abbrev pub joined : List (List ℕ) → Option (List ℕ)
joined [] = Some []
joined (part ∷ parts) = option_and_then (λ first. option_map (λ rest. first ++ rest) (joined parts)) (after_ampersand part)

-- the part before the first ampersand, and the others
abbrev pub decoded_parts : List (List ℕ) → Option (List ℕ)
decoded_parts [] = Some []
decoded_parts (plain ∷ parts) = option_map (λ rest. spaced plain ++ rest) (joined parts)

-- the value with its references replaced, where each is listed
unfoldable pub decoded : List ℕ → Option (List ℕ)
decoded value = decoded_parts (slice_split (λ b. b == 38) value)
