-- The ids of points.
use Rattle.std.specs.Prelude.{◌≡◌, ℕ, Bool, List, bytes_eq, Option, option_map}
use Rattle.std.specs.List.{find, list_any}
use Rattle.landxml_read.specs.declared.raw.RawId.{RawId}

-- the triple of the first id with these bytes
abbrev pub triple_of : List RawId → List ℕ → Option ℕ
triple_of ids name = option_map (λ i. i.triple) (find (λ i. bytes_eq name i.id) ids)

-- whether one of the ids has these bytes
abbrev pub is_id : List RawId → List ℕ → Bool
is_id ids name = list_any (λ i. bytes_eq name i.id) ids

-- what is looked up is the triple of the first of these ids
abbrev pub AreIds : List RawId → (List ℕ → Option ℕ) → Type 0
AreIds ids look = (name : List ℕ) → look name ≡ triple_of ids name
