-- Codes of kinds, lines, tables and contents: each is kept as numbers and lists, so that proofs compare them.
use Rattle.std.specs.Prelude.{ℕ, ℤ, zero, suc, ◌≡◌, List, refl}
use Rattle.std.specs.Ordering.{nat_cmp}
use Rattle.std.specs.FinMap as finmap
use Rattle.std.specs.Coded.{Coded, code_by, coded×, coded_ℕ, coded_ℤ, coded_list}
use Rattle.ground_model.specs.declared.line.LineKind.{LineKind}
use Rattle.ground_model.specs.declared.line.LineKind.TheVariants.{Breakline, Outer, Void, Island}
use Rattle.ground_model.specs.Place.{Coords, place_cmp, coded_coords}
use Rattle.ground_model.specs.Line.{Line}
use Rattle.ground_model.specs.Table.{Table}
use Rattle.ground_model.specs.Content.{Content}

-- the number that stands for a kind
abbrev pub number_of_kind : LineKind → ℕ
number_of_kind Breakline = 0
number_of_kind Outer = 1
number_of_kind Void = 2
number_of_kind Island = 3

-- the kind that a number stands for
abbrev pub kind_of_number : ℕ → LineKind
kind_of_number zero = Breakline
kind_of_number (suc zero) = Outer
kind_of_number (suc (suc zero)) = Void
kind_of_number (suc (suc (suc n))) = Island

-- the number of a kind stands for that kind
abbrev pub kind_back : (kind : LineKind) → kind_of_number (number_of_kind kind) ≡ kind
kind_back Breakline = refl
kind_back Outer = refl
kind_back Void = refl
kind_back Island = refl

-- a kind as a number
abbrev pub coded_kind : Coded LineKind
coded_kind = code_by ℕ coded_ℕ number_of_kind kind_of_number kind_back

-- a line as its kind and places
abbrev pub coded_line : Coded Line
coded_line = code_by (LineKind × List Coords) (coded× coded_kind (coded_list coded_coords)) (λ l. (l.kind, l.places)) (λ p. record { kind = p.0; places = p.1 }) (λ _. refl)

-- a table as its map and the number to come
abbrev pub coded_table : Coded Table
coded_table = code_by (finmap.FinMap nat_cmp Line × ℕ) (coded× (finmap.code coded_ℕ coded_line) coded_ℕ) (λ t. (t.lines, t.next)) (λ p. record { lines = p.0; next = p.1 }) (λ _. refl)

-- a content as its map of points and its table
abbrev pub coded_content : Coded Content
coded_content = code_by (finmap.FinMap place_cmp ℤ × Table) (coded× (finmap.code coded_coords coded_ℤ) coded_table) (λ c. (c.points, c.table)) (λ p. record { points = p.0; table = p.1 }) (λ _. refl)
