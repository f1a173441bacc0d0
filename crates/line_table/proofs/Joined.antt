-- Lines of which links cross, as searches among all.
use Rattle.std.proofs.Common.{◌≡◌, ℕ, refl, sym, ap, ◌∙◌, List, [], ◌∷◌, Bool, true, false, get_or, Bor}
use Rattle.std.specs.Prelude.{Option, Some, None, option_map, ◌&&◌, ◌||◌, find, nat_le, IsTrue}
use Rattle.std.specs.List.{All, list_any}
use Rattle.std.specs.FinMap as finmap
use Rattle.std.proofs.lemmas.List.Elements.{All-weaker}
use Rattle.ground_model.specs.declared.line.LineId.{LineId}
use Rattle.ground_model.specs.Place.{Coords}
use Rattle.ground_model.specs.Side.{crosses, is_on_segment}
use Rattle.ground_model.specs.Line.{Line, Segment, links}
use Rattle.ground_model.specs.Crossings.{lines_cross, least_pair, joint, piece_crosses, link_crosses, links_cross, is_on_points, AreWithout}
use Rattle.ground_model.specs.Table.{Table, live, least_where}
use Rattle.line_table.specs.Joints.{cross_over, links_cross_over}
use Rattle.ground_model.proofs.Crossings.{lines_cross-links, piece_crosses-links, joint-through}
use Rattle.line_table.proofs.Searches.{found-alike, found-none, all-always, all-of_map, first_pair, pairs-first, first_pair-alike, first_pair-some, first_pair-none, first_pair-nil}

-- ---- the least line

least-alike : (f g : Line → Bool) (t : Table) → All (λ line. f line ≡ g line) (live t) → least_where f t ≡ least_where g t
least-alike f g t h = ap (option_map (λ (entry : ℕ × Line). entry.0)) (found-alike (λ (entry : ℕ × Line). f entry.1) (λ entry. g entry.1) (finmap.entries t.lines) (all-of_map (λ line. f line ≡ g line) (λ (entry : ℕ × Line). entry.1) (finmap.entries t.lines) h))

pub least_crossing : (points : List Coords) (s : Segment) (t : Table) → All (λ line. IsTrue (is_on_points points line)) (live t) → least_where (link_crosses points s) t ≡ least_where (piece_crosses points s) t
least_crossing points s t on =
    least-alike (link_crosses points s) (piece_crosses points s) t (All-weaker (λ line. IsTrue (is_on_points points line)) (λ line. link_crosses points s line ≡ piece_crosses points s line) (λ line h. sym (piece_crosses-links points s line h)) (live t) on)

pub least_crossed : (points : List Coords) (line : Line) (t : Table) → IsTrue (is_on_points points line) → All (λ other. IsTrue (is_on_points points other)) (live t) → least_where (links_cross points line) t ≡ least_where (lines_cross points line) t
least_crossed points line t own on =
    least-alike (links_cross points line) (lines_cross points line) t (All-weaker (λ other. IsTrue (is_on_points points other)) (λ other. links_cross points line other ≡ lines_cross points line other) (λ other h. sym (lines_cross-links points line other own h)) (live t) on)

pub number-map : (found : Option (LineId × Bor Line)) (entry : Option (ℕ × Line)) → option_map {U = ℕ × Line} (λ (e : LineId × Bor Line). (e.0.0, e.1.now)) found ≡ entry → option_map (λ (e : LineId × Bor Line). e.0.0) found ≡ option_map (λ (e : ℕ × Line). e.0) entry
number-map None entry h = ap (option_map (λ (e : ℕ × Line). e.0)) h
number-map (Some e) entry h = ap (option_map (λ (e : ℕ × Line). e.0)) h

-- ---- the least pair

none_over : (p : Coords) (s : Segment) (ts : List Segment) → is_on_segment s.0 s.1 p ≡ false → list_any (cross_over p s) ts ≡ false
none_over p s [] h = refl
none_over p s (t ∷ ts) h = off (is_on_segment s.0 s.1 p) h (none_over p s ts h)
  where
    off : (b : Bool) → b ≡ false → list_any (cross_over p s) ts ≡ false → ((b && is_on_segment t.0 t.1 p && crosses s.0 s.1 t.0 t.1) || list_any (cross_over p s) ts) ≡ false
    off true e rest = cc
    off false e rest = rest

apart_over : (p : Coords) (m ls : List Segment) → list_any (λ link. is_on_segment link.0 link.1 p) ls ≡ false → list_any (λ s. list_any (cross_over p s) m) ls ≡ false
apart_over p m [] h = refl
apart_over p m (s ∷ ls) h = off (apart_over p m ls) (is_on_segment s.0 s.1 p) refl h
  where
    off : (list_any (λ link. is_on_segment link.0 link.1 p) ls ≡ false → list_any (λ s. list_any (cross_over p s) m) ls ≡ false) → (b : Bool) → is_on_segment s.0 s.1 p ≡ b → (b || list_any (λ link. is_on_segment link.0 link.1 p) ls) ≡ false → (list_any (cross_over p s) m || list_any (λ s. list_any (cross_over p s) m) ls) ≡ false
    off rest true e k = cc
    off rest false e k = ap (λ b. b || list_any (λ s. list_any (cross_over p s) m) ls) (none_over p s m e) ∙ rest k

-- a line with no link over the place has no partner
pub no_partner : (p : Coords) (id : ℕ) (l : Line) (es : List (ℕ × Line)) → list_any (λ link. is_on_segment link.0 link.1 p) (links l) ≡ false → find (λ entry. nat_le id entry.0 && links_cross_over p l entry.1) es ≡ None
unfolding links_cross_over
no_partner p id l es h = found-none (λ (entry : ℕ × Line). nat_le id entry.0 && links_cross_over p l entry.1) es (all-always (λ entry. (nat_le id entry.0 && links_cross_over p l entry.1) ≡ false) (λ entry. off (nat_le id entry.0) (links_cross_over p l entry.1) (apart_over p (links entry.1) (links l) h)) es)
  where
    off : (a b : Bool) → b ≡ false → (a && b) ≡ false
    off true b e = e
    off false b e = refl

-- whether links of the two cross over the place, the lesser number first
abbrev pub joined : Coords → ℕ × Line → ℕ × Line → Bool
joined p l m = nat_le l.0 m.0 && links_cross_over p l.1 m.1

pub least_joint : (rest points : List Coords) (p : Coords) (t : Table) → AreWithout rest points p → All (λ l. All (λ m. lines_cross points l m ≡ false) (live t)) (live t) → All (λ line. IsTrue (is_on_points rest line)) (live t)
    → least_pair (λ l m. nat_le l.0 m.0 && links_cross_over p l.1 m.1) (finmap.entries t.lines) ≡ joint rest t
unfolding links_cross_over joint
least_joint rest points p t without apart on =
    ap (option_map (λ (found : (ℕ × Line) × (ℕ × Line)). (found.0.0, found.1.0)))
    (pairs-first by_links es es ∙ first_pair-alike by_links by_pieces es es each ∙ sym (pairs-first by_pieces es es))
  where
    es : List (ℕ × Line)
    es = finmap.entries t.lines

    by_links : ℕ × Line → ℕ × Line → Bool
    by_links l m = nat_le l.0 m.0 && links_cross_over p l.1 m.1

    by_pieces : ℕ × Line → ℕ × Line → Bool
    by_pieces l m = nat_le l.0 m.0 && lines_cross rest l.1 m.1

    each : All (λ l. All (λ m. by_links l m ≡ by_pieces l m) es) es
    each k d lt j e below =
        ap (λ b. nat_le (get_or es k d).0 (get_or es j e).0 && b) (sym (joint-through points rest p without.are (get_or es k d).1 (get_or es j e).1
        (all-of_map (λ m. lines_cross points (get_or es k d).1 m ≡ false) (λ (entry : ℕ × Line). entry.1) es (all-of_map (λ l. All (λ m. lines_cross points l m ≡ false) (live t)) (λ (entry : ℕ × Line). entry.1) es apart k d lt) j e below)
        (all-of_map (λ line. IsTrue (is_on_points rest line)) (λ (entry : ℕ × Line). entry.1) es on k d lt)
        (all-of_map (λ line. IsTrue (is_on_points rest line)) (λ (entry : ℕ × Line). entry.1) es on j e below)))

-- ---- the search for a pair

some_of : {X : Type 0} (x y : X) → Some x ≡ Some y → x ≡ y
some_of x y e = cc

-- the pair, where the first line left has a partner
pub pair_found : (p : Coords) (es : List (ℕ × Line)) (l : ℕ × Line) (ls : List (ℕ × Line)) (m : ℕ) → Some m ≡ option_map (λ (entry : ℕ × Line). entry.0) (find (joined p l) es)
    → first_pair (joined p) es es ≡ first_pair (joined p) es (l ∷ ls) → Some (l.0, m) ≡ least_pair (joined p) es
pair_found p es l ls m h same = at (find (joined p l) es) refl h
  where
    at : (o : Option (ℕ × Line)) → find (joined p l) es ≡ o → Some m ≡ option_map (λ (entry : ℕ × Line). entry.0) o → Some (l.0, m) ≡ least_pair (joined p) es
    at None e k = cc
    at (Some y) e k =
        ap (λ n. Some (l.0, n)) (some_of m y.0 k)
        ∙ ap (option_map {U = ℕ × ℕ} (λ (found : (ℕ × Line) × (ℕ × Line)). (found.0.0, found.1.0))) (sym (pairs-first (joined p) es es ∙ same ∙ first_pair-some (joined p) es l ls y e))

-- and else the lines after it are left
pub pair_passed : (p : Coords) (es : List (ℕ × Line)) (l : ℕ × Line) (ls : List (ℕ × Line)) → None ≡ option_map (λ (entry : ℕ × Line). entry.0) (find (joined p l) es) → first_pair (joined p) es (l ∷ ls) ≡ first_pair (joined p) es ls
pair_passed p es l ls h = at (find (joined p l) es) refl h
  where
    at : (o : Option (ℕ × Line)) → find (joined p l) es ≡ o → None ≡ option_map (λ (entry : ℕ × Line). entry.0) o → first_pair (joined p) es (l ∷ ls) ≡ first_pair (joined p) es ls
    at None e k = first_pair-none (joined p) es l ls e
    at (Some y) e k = cc

pub no_pair : (p : Coords) (es : List (ℕ × Line)) → first_pair (joined p) es es ≡ first_pair (joined p) es [] → None ≡ least_pair (joined p) es
no_pair p es same = ap (option_map {U = ℕ × ℕ} (λ (found : (ℕ × Line) × (ℕ × Line)). (found.0.0, found.1.0))) (sym (pairs-first (joined p) es es ∙ same ∙ first_pair-nil (joined p) es))
