-- Pieces, point by point.
use Rattle.std.proofs.Common.{◌≡◌, ◌+◌, ◌<◌, refl, sym, ap, ◌∙◌, subst, arith, Bool, true, false, cond, [], ◌∷◌, ◌++◌, List, inl, inr, ⊎_elim, append_assoc, append-nil}
use Rattle.std.specs.Prelude.{Option, Some, None, IfSome, ◌&&◌, ◌||◌, nat_lt, count_by, map}
use Rattle.std.specs.List.{flat_map, list_any, filter, dedup, dedup_from}
use Rattle.std.specs.List.Sorted.{IsStrictlySortedBy}
use Rattle.std.proofs.lemmas.Bool.{and_parts, false_from_ne_true, lt-ltb, ltb-true}
use Rattle.std.specs.declared.cmp.Ordering.{Ordering}
use Rattle.std.specs.declared.cmp.Ordering.TheVariants.{Less, Equal, Greater}
use Rattle.std.specs.Ordering.{is_lt, is_eq, eq_by_cmp, ordering_reverse}
use Rattle.std.proofs.lemmas.Cmp.{tied_itself}
use Rattle.std.proofs.lemmas.List.{map-append}
use Rattle.std.proofs.lemmas.List.Elements.{filter-append}
use Rattle.std.proofs.lemmas.List.Folds.{list_any-append}
use Rattle.std.proofs.lemmas.List.Sums.{sum_by-cons}
use Rattle.ground_model.specs.declared.piece.Piece.{Piece}
use Rattle.ground_model.specs.Place.{Coords, place_cmp, is_before, is_same}
use Rattle.ground_model.specs.Side.{is_on_segment}
use Rattle.ground_model.specs.Line.{Line, links, has_piece, is_point, is_clear, pieces_of}
use Rattle.ground_model.specs.Table.{count_on, pieces_on, counted_pieces}
use Rattle.line_table.specs.Ends.{next_points, spans, count_over, AreEnds}
use Rattle.ground_model.proofs.Contents.{places_total}
use Rattle.ground_model.proofs.Ties.{same_of_is_same}
use Rattle.ground_model.proofs.Along.{same_place}
use Rattle.ground_model.proofs.Elements.{In, both_true, any_gives, any_agrees, none_from, some_counted}
use Rattle.ground_model.proofs.LinePieces.{is_same_itself, is_point_in}
use Rattle.ground_model.proofs.Segments.{before_trans}
use Rattle.line_table.proofs.NextPoints.{split_of, piece_next, next_later, earlier_before, not_itself, is_first, in_order_after}

-- the piece from p to q with its count
abbrev pub piece_at : List Coords → List Line → Coords → Coords → Piece
piece_at points lines p q = record { p = p; q = q; count = count_on points lines p q }

-- the pieces of all lines from p
unfoldable pub all_row : List Coords → List Line → Coords → List Piece
all_row points lines p = map (piece_at points lines p) (filter (λ q. nat_lt 0 (count_on points lines p q)) points)

-- the pieces of one line from p
unfoldable pub line_row : List Coords → List Line → Line → Coords → List Piece
line_row points lines line p = map (piece_at points lines p) (filter (has_piece points line p) points)

-- ---- lists

filter-map : {X Y : Type 0} (f : Y → Bool) (g : X → Y) (xs : List X) → filter f (map g xs) ≡ map g (filter (λ x. f (g x)) xs)
filter-map f g [] = refl
filter-map f g (x ∷ xs) = at (f (g x)) (filter-map f g xs)
  where
    at : (b : Bool) → filter f (map g xs) ≡ map g (filter (λ x. f (g x)) xs) → cond b (g x ∷ filter f (map g xs)) (filter f (map g xs)) ≡ map g (cond b (x ∷ filter (λ x. f (g x)) xs) (filter (λ x. f (g x)) xs))
    at true e = ap (λ ys. g x ∷ ys) e
    at false e = e

map-map : {X Y Z : Type 0} (f : Y → Z) (g : X → Y) (xs : List X) → map f (map g xs) ≡ map (λ x. f (g x)) xs
map-map f g [] = refl
map-map f g (x ∷ xs) = ap (λ ys. f (g x) ∷ ys) (map-map f g xs)

pub filter-alike : {X : Type 0} (f g : X → Bool) (xs : List X) → ((x : X) → In x xs → f x ≡ g x) → filter f xs ≡ filter g xs
filter-alike f g [] h = refl
filter-alike f g (x ∷ xs) h = ap (λ b. cond b (x ∷ filter f xs) (filter f xs)) (h x (inl refl)) ∙ ap (λ ys. cond (g x) (x ∷ ys) ys) (filter-alike f g xs (λ y i. h y (inr i)))

pub map-alike : {X Y : Type 0} (f g : X → Y) (xs : List X) → ((x : X) → In x xs → f x ≡ g x) → map f xs ≡ map g xs
map-alike f g [] h = refl
map-alike f g (x ∷ xs) h = (λ i. h x (inl refl) i ∷ map f xs) ∙ ap (λ ys. g x ∷ ys) (map-alike f g xs (λ y i. h y (inr i)))

only_later : (f : Coords → Bool) (front : List Coords) (p : Coords) (later : List Coords) → ((x : Coords) → In x front → f x ≡ false) → f p ≡ false → filter f (front ++ p ∷ later) ≡ filter f later
only_later f [] p later h e = ap (λ b. cond b (p ∷ filter f later) (filter f later)) e
only_later f (x ∷ front) p later h e = ap (λ b. cond b (x ∷ filter f (front ++ p ∷ later)) (filter f (front ++ p ∷ later))) (h x (inl refl)) ∙ only_later f front p later (λ y i. h y (inr i)) e

any-flat_map : {X Y : Type 0} (f : Y → Bool) (g : X → List Y) (xs : List X) → list_any f (flat_map g xs) ≡ list_any (λ x. list_any f (g x)) xs
any-flat_map f g [] = refl
any-flat_map f g (x ∷ xs) = list_any-append f (g x) (flat_map g xs) ∙ ap (λ b. list_any f (g x) || b) (any-flat_map f g xs)

any-counted : {X : Type 0} (f : X → Bool) (xs : List X) → nat_lt 0 (count_by f xs) ≡ list_any f xs
any-counted {X = X} f xs = both_true (nat_lt 0 (count_by f xs)) (list_any f xs) (λ h. some_counted f xs (ltb-true 0 (count_by f xs) h)) (λ h. lt-ltb 0 (count_by f xs) (counted xs h))
  where
    counted : (ys : List X) → list_any f ys ≡ true → 0 < count_by f ys
    counted [] h = cc
    counted (y ∷ ys) h = by_test (f y) h (counted ys) (sum_by-cons (λ z. cond (f z) 1 0) y ys)
      where
        by_test : (b : Bool) → (b || list_any f ys) ≡ true → (list_any f ys ≡ true → 0 < count_by f ys) → count_by f (y ∷ ys) ≡ cond b 1 0 + count_by f ys → 0 < count_by f (y ∷ ys)
        by_test true h rest e = omega (arith, e)
        by_test false h rest e = omega (arith, e, rest h)

-- ---- ends in order

differ : (x q : Coords) → is_before x q ≡ true → is_same q x ≡ false
differ x q h = false_from_ne_true (is_same q x) (λ e. let same = same_of_is_same q x e in let f = not_itself x in let g = ap (is_before x) same in cc)

none_among : (ends : List Coords) (q : Coords) → ((x : Coords) → In x ends → is_same q x ≡ false) → list_any (is_same q) ends ≡ false
none_among ends q h = none_from (is_same q) ends h

pub none_kept : (f : Coords → Bool) (xs : List Coords) → ((x : Coords) → f x ≡ false) → filter f xs ≡ []
none_kept f [] h = refl
none_kept f (x ∷ xs) h = ap (λ b. cond b (x ∷ filter f xs) (filter f xs)) (h x) ∙ none_kept f xs h

-- those of the later points that are among the ends are the ends
pub kept_ends : (later ends : List Coords) → IsStrictlySortedBy place_cmp later → IsStrictlySortedBy place_cmp ends → ((q : Coords) → In q ends → In q later) → filter (λ q. list_any (is_same q) ends) later ≡ ends
kept_ends [] [] s t h = refl
kept_ends [] (x ∷ xs) s t h = absurd (h x (inl refl))
kept_ends (y ∷ ys) [] s t h = none_kept (λ q. list_any (is_same q) []) (y ∷ ys) (λ q. refl)
kept_ends (y ∷ ys) (x ∷ xs) s t h = by_first (h x (inl refl)) (kept_ends ys xs (in_order_after y ys s) (in_order_after x xs t)) (kept_ends ys (x ∷ xs) (in_order_after y ys s) t)
  where
    by_first : In x (y ∷ ys)
        → (((q : Coords) → In q xs → In q ys) → filter (λ q. list_any (is_same q) xs) ys ≡ xs)
        → (((q : Coords) → In q (x ∷ xs) → In q ys) → filter (λ q. list_any (is_same q) (x ∷ xs)) ys ≡ x ∷ xs)
        → filter (λ q. list_any (is_same q) (x ∷ xs)) (y ∷ ys) ≡ x ∷ xs
    by_first (inl same) here later =
        ap (λ b. cond b (y ∷ filter (λ q. list_any (is_same q) (x ∷ xs)) ys) (filter (λ q. list_any (is_same q) (x ∷ xs)) ys)) (ap (λ b. b || list_any (is_same y) xs) (ap (λ z. is_same z x) (sym same) ∙ is_same_itself x))
        ∙ (λ i. sym same i ∷ (filter-alike (λ q. list_any (is_same q) (x ∷ xs)) (λ q. list_any (is_same q) xs) ys (λ q j. ap (λ b. b || list_any (is_same q) xs) (differ x q (ap (λ z. is_before z q) same ∙ is_first y ys s q j))) ∙ here rest) i)
      where
        rest : (q : Coords) → In q xs → In q ys
        rest q j = ⊎_elim (λ e. let f = is_first x xs t q j in let g = ap (is_before x) (e ∙ sym same) in let k = not_itself x in cc) (λ k. k) (h q (inr j))
    by_first (inr i) here later =
        ap (λ b. cond b (y ∷ filter (λ q. list_any (is_same q) (x ∷ xs)) ys) (filter (λ q. list_any (is_same q) (x ∷ xs)) ys)) (none_among (x ∷ xs) y (λ z j. above z j)) ∙ later below
      where
        y_first : is_before y x ≡ true
        y_first = is_first y ys s x i

        after_y : (z : Coords) → In z (x ∷ xs) → is_before y z ≡ true
        after_y z (inl e) = ap (is_before y) e ∙ y_first
        after_y z (inr j) = before_trans y x z y_first (is_first x xs t z j)

        above : (z : Coords) → In z (x ∷ xs) → is_same y z ≡ false
        above z j = false_from_ne_true (is_same y z) (λ e. let same = same_of_is_same y z e in let f = ap (λ w. is_before w z) same in let g = not_itself z in let k = after_y z j in cc)

        below : (q : Coords) → In q (x ∷ xs) → In q ys
        below q j = ⊎_elim (λ e. let f = ap (is_before y) e in let g = not_itself y in let k = after_y q j in cc) (λ k. k) (h q j)

-- ---- the pieces from one point

-- where one line has the piece, each has it that has a link over both ends
spanned : (points : List Coords) (line m : Line) (p q : Coords) → has_piece points line p q ≡ true → has_piece points m p q ≡ spans p q m
unfolding has_piece spans
spanned points line m p q h =
    ap (λ b. b && list_any (λ link. is_on_segment link.0 link.1 p && is_on_segment link.0 link.1 q) (links m))
    (and_parts (is_before p q && is_point points p && is_point points q && is_clear points p q) (list_any (λ link. is_on_segment link.0 link.1 p && is_on_segment link.0 link.1 q) (links line)) h).0

pub counted_over : (points : List Coords) (lines : List Line) (line : Line) (p q : Coords) → has_piece points line p q ≡ true → count_on points lines p q ≡ count_over lines p q
unfolding count_on
counted_over points lines line p q h = λ i. count_by (λ m. spanned points line m p q h i) lines

module _ (front : List Coords) (p : Coords) (later : List Coords) (sorted : IsStrictlySortedBy place_cmp (front ++ p ∷ later)) (lines : List Line) where
  no_piece : (line : Line) (x : Coords) → is_before p x ≡ false → has_piece (front ++ p ∷ later) line p x ≡ false
  unfolding has_piece
  no_piece line x h = ap (λ b. b && is_point (front ++ p ∷ later) p && is_point (front ++ p ∷ later) x && is_clear (front ++ p ∷ later) p x && list_any (λ link. is_on_segment link.0 link.1 p && is_on_segment link.0 link.1 x) (links line)) h

  -- some of these lines has a piece from p to a later point exactly where that is one of the ends
  ends_next : (some : List Line) (ends : List Coords) → AreEnds later p some ends → (q : Coords) → In q later → list_any (λ line. has_piece (front ++ p ∷ later) line p q) some ≡ list_any (is_same q) ends
  ends_next some ends are q i =
      any_agrees (λ line. has_piece (front ++ p ∷ later) line p q) (λ line. list_any (is_same q) (next_points later p line)) some (λ line j. piece_next (front ++ p ∷ later) p later (split_of front p later sorted) line q i)
      ∙ sym (are.each q)

  ends_later : (some : List Line) (ends : List Coords) → AreEnds later p some ends → (q : Coords) → In q ends → In q later
  ends_later some ends are q i =
      let found = any_gives (λ line. list_any (is_same q) (next_points later p line)) some (sym (are.each q) ∙ is_point_in ends q i) in
      next_later later p found.0 q found.2

  -- the pieces from p of some of the lines lead to the ends
  row-is : (some : List Line) (ends : List Coords) (test : Coords → Bool) → AreEnds later p some ends → ((q : Coords) → test q ≡ list_any (λ line. has_piece (front ++ p ∷ later) line p q) some)
      → map (piece_at (front ++ p ∷ later) lines p) (filter test (front ++ p ∷ later)) ≡ map (λ q. record { p = p; q = q; count = count_over lines p q }) ends
  row-is some ends test are says =
      ap (map (piece_at (front ++ p ∷ later) lines p))
      (only_later test front p later (λ x i. none x (earlier_before front p later sorted x i)) (none p (not_itself p))
      ∙ filter-alike test (λ q. list_any (is_same q) ends) later (λ q i. says q ∙ ends_next some ends are q i)
      ∙ kept_ends later ends (split_of front p later sorted).sorted are.in_order (ends_later some ends are))
      ∙ map-alike (piece_at (front ++ p ∷ later) lines p) (λ q. record { p = p; q = q; count = count_over lines p q }) ends
      (λ q i. let found = any_gives (λ line. has_piece (front ++ p ∷ later) line p q) some (ends_next some ends are q (ends_later some ends are q i) ∙ is_point_in ends q i) in
      ap (λ n. record { p = p; q = q; count = n }) (counted_over (front ++ p ∷ later) lines found.0 p q found.2))
    where
      none : (x : Coords) → is_before p x ≡ false → test x ≡ false
      none x h = says x ∙ none_from (λ line. has_piece (front ++ p ∷ later) line p x) some (λ line i. no_piece line x h)

  pub all_row-is : (ends : List Coords) → AreEnds later p lines ends → all_row (front ++ p ∷ later) lines p ≡ map (λ q. record { p = p; q = q; count = count_over lines p q }) ends
  unfolding all_row count_on
  all_row-is ends are = row-is lines ends (λ q. nat_lt 0 (count_on (front ++ p ∷ later) lines p q)) are (λ q. any-counted (λ line. has_piece (front ++ p ∷ later) line p q) lines)

  pub line_row-is : (line : Line) (ends : List Coords) → AreEnds later p (line ∷ []) ends → line_row (front ++ p ∷ later) lines line p ≡ map (λ q. record { p = p; q = q; count = count_over lines p q }) ends
  unfolding line_row
  line_row-is line ends are = row-is (line ∷ []) ends (has_piece (front ++ p ∷ later) line p) are (λ q. alone (has_piece (front ++ p ∷ later) line p q))
    where
      alone : (b : Bool) → b ≡ (b || false)
      alone true = refl
      alone false = refl

-- ---- all rows are all pieces

filtered : {X Y Z : Type 0} (f : Z → Bool) (g : X × Y → Z) (xs : List X) (ys : List Y) → filter f (map g (flat_map (λ x. map (λ y. (x, y)) ys) xs)) ≡ flat_map (λ x. map (λ y. g (x, y)) (filter (λ y. f (g (x, y))) ys)) xs
filtered f g [] ys = refl
filtered f g (x ∷ xs) ys =
    ap (filter f) (map-append g (map (λ y. (x, y)) ys) (flat_map (λ x. map (λ y. (x, y)) ys) xs))
    ∙ filter-append f (map g (map (λ y. (x, y)) ys)) (map g (flat_map (λ x. map (λ y. (x, y)) ys) xs))
    ∙ (λ i. (ap (filter f) (map-map g (λ y. (x, y)) ys) ∙ filter-map f (λ y. g (x, y)) ys) i ++ filtered f g xs ys i)

mapped : {X Y Z : Type 0} (f : X × Y → Bool) (g : X × Y → Z) (xs : List X) (ys : List Y) → map g (filter f (flat_map (λ x. map (λ y. (x, y)) ys) xs)) ≡ flat_map (λ x. map (λ y. g (x, y)) (filter (λ y. f (x, y)) ys)) xs
mapped f g [] ys = refl
mapped f g (x ∷ xs) ys =
    ap (map g) (filter-append f (map (λ y. (x, y)) ys) (flat_map (λ x. map (λ y. (x, y)) ys) xs))
    ∙ map-append g (filter f (map (λ y. (x, y)) ys)) (filter f (flat_map (λ x. map (λ y. (x, y)) ys) xs))
    ∙ (λ i. (ap (map g) (filter-map f (λ y. (x, y)) ys) ∙ map-map g (λ y. (x, y)) (filter (λ y. f (x, y)) ys)) i ++ mapped f g xs ys i)

pub all_rows : (points : List Coords) (lines : List Line) → flat_map (all_row points lines) points ≡ pieces_on points lines
unfolding all_row pieces_on
all_rows points lines = sym (filtered (λ (x : Piece). nat_lt 0 x.count) (λ pair. piece_at points lines pair.0 pair.1) points points)

pub line_rows : (points : List Coords) (lines : List Line) (line : Line) → flat_map (line_row points lines line) points ≡ counted_pieces points lines line
unfolding line_row counted_pieces pieces_of
line_rows points lines line = sym (mapped (λ pair. has_piece points line pair.0 pair.1) (λ pair. piece_at points lines pair.0 pair.1) points points)

-- ---- a point more

further : (R : Coords → List Piece) (found all : List Piece) (p : Coords) (later : List Coords) → found ++ flat_map R (p ∷ later) ≡ all → (found ++ R p) ++ flat_map R later ≡ all
further R found all p later h = append_assoc found (R p) (flat_map R later) ∙ h

-- the pieces so far with those from p, where R gives the pieces from a point
step : (R : List Coords → Coords → List Piece) (points : List Coords) (found more all new : List Piece) (rest : List Coords) (p : Coords) (later : List Coords)
    → ((front : List Coords) → IsStrictlySortedBy place_cmp (front ++ p ∷ later) → R (front ++ p ∷ later) p ≡ new) → IsStrictlySortedBy place_cmp points
    → rest ≡ p ∷ later → (front : List Coords) × (points ≡ front ++ rest) → more ≡ found ++ new
    → found ++ flat_map (R points) rest ≡ all → (more ++ flat_map (R points) later ≡ all) × ((front : List Coords) × (points ≡ front ++ later))
step R points found more all new rest p later is sorted here front grown so_far =
    let e : points ≡ front.0 ++ p ∷ later = front.1 ∙ ap (λ k. front.0 ++ k) here in
    let row : R points p ≡ new = subst (λ (ps : List Coords). IsStrictlySortedBy place_cmp ps → R ps p ≡ new) (sym e) (is front.0) sorted in
    let made : more ≡ found ++ R points p = grown ∙ ap (λ r. found ++ r) (sym row) in (
      ap (λ m. m ++ flat_map (R points) later) made ∙ further (R points) found all p later (ap (λ r. found ++ flat_map (R points) r) (sym here) ∙ so_far),
      (front.0 ++ p ∷ [], e ∙ sym (append_assoc front.0 (p ∷ []) later)),
    )

pub all_step : (points : List Coords) → IsStrictlySortedBy place_cmp points → (lines : List Line) (found more all : List Piece) (rest : List Coords) (p : Coords) (later ends : List Coords)
    → rest ≡ p ∷ later → (front : List Coords) × (points ≡ front ++ rest) → AreEnds later p lines ends
    → more ≡ found ++ map (λ q. record { p = p; q = q; count = count_over lines p q }) ends
    → found ++ flat_map (all_row points lines) rest ≡ all → (more ++ flat_map (all_row points lines) later ≡ all) × ((front : List Coords) × (points ≡ front ++ later))
all_step points sorted lines found more all rest p later ends here front are grown so_far =
    step (λ ps. all_row ps lines) points found more all (map (λ q. record { p = p; q = q; count = count_over lines p q }) ends) rest p later (λ front s. all_row-is front p later s lines ends are) sorted here front grown so_far

pub line_step : (points : List Coords) → IsStrictlySortedBy place_cmp points → (lines : List Line) (line : Line) (found more all : List Piece) (rest : List Coords) (p : Coords) (later ends : List Coords)
    → rest ≡ p ∷ later → (front : List Coords) × (points ≡ front ++ rest) → AreEnds later p (line ∷ []) ends
    → more ≡ found ++ map (λ q. record { p = p; q = q; count = count_over lines p q }) ends
    → found ++ flat_map (line_row points lines line) rest ≡ all → (more ++ flat_map (line_row points lines line) later ≡ all) × ((front : List Coords) × (points ≡ front ++ later))
line_step points sorted lines line found more all rest p later ends here front are grown so_far =
    step (λ ps. line_row ps lines line) points found more all (map (λ q. record { p = p; q = q; count = count_over lines p q }) ends) rest p later (λ front s. line_row-is front p later s lines line ends are) sorted here front grown so_far

-- ---- ends put in order

-- gathered from all lines, or from one
pub all_ends : (later : List Coords) (p : Coords) (lines : List Line) (gathered ends : List Coords) → gathered ≡ flat_map (next_points later p) lines
    → ((q : Coords) → list_any (is_same q) ends ≡ list_any (is_same q) gathered) → IsStrictlySortedBy place_cmp ends → AreEnds later p lines ends
all_ends later p lines gathered ends e each sorted = record {
  each = λ q. each q ∙ ap (list_any (is_same q)) e ∙ any-flat_map (is_same q) (next_points later p) lines;
  in_order = sorted;
}

pub line_ends : (later : List Coords) (p : Coords) (line : Line) (gathered ends : List Coords) → gathered ≡ next_points later p line
    → ((q : Coords) → list_any (is_same q) ends ≡ list_any (is_same q) gathered) → IsStrictlySortedBy place_cmp ends → AreEnds later p (line ∷ []) ends
line_ends later p line gathered ends e each sorted = all_ends later p (line ∷ []) gathered ends (e ∙ sym (append-nil (next_points later p line))) each sorted

-- `dedup` loses no place
dedup_from-any : (q k : Coords) (xs : List Coords) → list_any (is_same q) (dedup_from is_same k xs) ≡ (is_same q k || list_any (is_same q) xs)
dedup_from-any q k [] = refl
dedup_from-any q k (x ∷ xs) = by_same (is_same x k) refl (dedup_from-any q k xs) (dedup_from-any q x xs)
  where
    twice : (a b : Bool) → (a || b) ≡ (a || (a || b))
    twice true b = refl
    twice false b = refl

    by_same : (t : Bool) → is_same x k ≡ t → list_any (is_same q) (dedup_from is_same k xs) ≡ (is_same q k || list_any (is_same q) xs) → list_any (is_same q) (dedup_from is_same x xs) ≡ (is_same q x || list_any (is_same q) xs)
        → list_any (is_same q) (cond t (dedup_from is_same k xs) (k ∷ dedup_from is_same x xs)) ≡ (is_same q k || (is_same q x || list_any (is_same q) xs))
    by_same true e kept next = kept ∙ twice (is_same q k) (list_any (is_same q) xs) ∙ ap (λ z. is_same q k || (is_same q z || list_any (is_same q) xs)) (sym (same_of_is_same x k e))
    by_same false e kept next = ap (λ b. is_same q k || b) next

pub dedup-any : (q : Coords) (xs : List Coords) → list_any (is_same q) (dedup is_same xs) ≡ list_any (is_same q) xs
dedup-any q [] = refl
dedup-any q (x ∷ xs) = dedup_from-any q x xs

-- one place by its coordinates is one place in the order
pub ties : (x y : Coords) → is_same x y ≡ eq_by_cmp place_cmp x y
ties x y = both_true (is_same x y) (eq_by_cmp place_cmp x y) (λ e. ap (λ z. is_eq (place_cmp z y)) (same_of_is_same x y e) ∙ ap is_eq (tied_itself places_total y)) back
  where
    level : (o : Ordering) → is_eq o ≡ true → (is_lt o ≡ false) × (is_lt (ordering_reverse o) ≡ false)
    level Less e = cc
    level Equal e = (refl, refl)
    level Greater e = cc

    back : is_eq (place_cmp x y) ≡ true → is_same x y ≡ true
    back e =
        let h = level (place_cmp x y) e in
        ap (λ z. is_same z y) (same_place x y h.0 (ap is_lt (places_total.antisymm y x) ∙ h.1)) ∙ is_same_itself y

pub of_line : (o : Option Line) (line : Line) (found : List Piece) (pieces : Line → List Piece) → Some line ≡ o → found ≡ pieces line → IfSome o (λ line. found ≡ pieces line)
of_line None line found pieces e h = cc
of_line (Some m) line found pieces e h = let same : line ≡ m = cc in h ∙ ap pieces same
