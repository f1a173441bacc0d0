-- The scans take the words that the forms take.
use Rattle.std.proofs.Common.{◌≡◌, Bool, true, false, List, [], ◌∷◌, refl, sym, ◌∙◌, ap, Option, None, Some}
use Rattle.std.specs.Prelude.{ℤ, ◌&&◌, is_some, option_map, codes, bytes_eq, if◌then◌else◌}
use Rattle.ground_model.specs.Place.{Coords}
use Rattle.ground_model.specs.declared.line.LineKind.TheVariants.{Breakline, Outer, Void, Island}
use Rattle.line_protocol.specs.declared.figure.Figure.TheVariants.{Start, IdStart}
use Rattle.line_protocol.specs.declared.figure.Follower.TheVariants.{TwoNumbers, OneNumber, Nothing, Easting}
use Rattle.line_protocol.specs.Spoken.{AddLine}
use Rattle.line_protocol.specs.Grammar.{Word, Form, number_of, both, onto, place_of, place, spot, level, id, places, kind_named, line_edit, by_word}
use Rattle.line_protocol.specs.Scanning.{ends_number, end_numbers}
use Rattle.line_protocol.proofs.Scans.{and_false, scan_of}
use Rattle.line_protocol.proofs.Numerals.{and_true, number_scanned, id_scanned, is_some_map}

nothing_after_two : (a b : Bool) → (a && (b && false)) ≡ false
nothing_after_two a b = ap (λ t. a && t) (and_false b) ∙ and_false a

nothing_after_three : (a b c : Bool) → (a && (b && (c && false))) ≡ false
nothing_after_three a b c = ap (λ t. a && t) (nothing_after_two b c) ∙ and_false a

-- a pair, and what comes after
pair_and : (f : ℤ × ℤ → Coords) (a b rest : Bool) (n e : Option ℤ) → a ≡ is_some n → b ≡ is_some e → (a && (b && rest)) ≡ (is_some (option_map f (both n e)) && rest)
pair_and f a b rest n e p q = (λ i. p i && (q i && rest)) ∙ by n e
  where
    by : (n e : Option ℤ) → (is_some n && (is_some e && rest)) ≡ (is_some (option_map f (both n e)) && rest)
    by None e = refl
    by (Some n) None = refl
    by (Some n) (Some e) = refl

is_some_both : {X Y : Type 0} (x : Option X) (y : Option Y) → is_some (both x y) ≡ (is_some x && is_some y)
is_some_both None y = refl
is_some_both (Some x) None = refl
is_some_both (Some x) (Some y) = refl

pub level_scanned : (ws : List Word) → end_numbers (Some (scan_of Start Nothing)) ws ≡ is_some (level ws)
level_scanned [] = refl
level_scanned (z ∷ []) = and_true (ends_number (Some Start) z) ∙ number_scanned z
level_scanned (z ∷ w ∷ ws) = nothing_after_two (ends_number (Some Start) z) (ends_number (Some Start) w)

pub id_word_scanned : (ws : List Word) → end_numbers (Some (scan_of IdStart Nothing)) ws ≡ is_some (id ws)
id_word_scanned [] = refl
id_word_scanned (w ∷ []) = and_true (ends_number (Some IdStart) w) ∙ id_scanned w
id_word_scanned (w ∷ v ∷ ws) = nothing_after_two (ends_number (Some IdStart) w) (ends_number (Some Start) v)

pub place_scanned : (ws : List Word) → end_numbers (Some (scan_of Start OneNumber)) ws ≡ is_some (place ws)
place_scanned [] = refl
place_scanned (n ∷ []) = and_false (ends_number (Some Start) n)
place_scanned (n ∷ e ∷ []) = pair_and _ _ _ true (number_of n) (number_of e) (number_scanned n) (number_scanned e) ∙ and_true (is_some (place_of n e))
place_scanned (n ∷ e ∷ w ∷ ws) = nothing_after_three (ends_number (Some Start) n) (ends_number (Some Start) e) (ends_number (Some Start) w)

pub spot_scanned : (ws : List Word) → end_numbers (Some (scan_of Start TwoNumbers)) ws ≡ is_some (spot ws)
spot_scanned [] = refl
spot_scanned (n ∷ []) = and_false (ends_number (Some Start) n)
spot_scanned (n ∷ e ∷ []) = nothing_after_two (ends_number (Some Start) n) (ends_number (Some Start) e)
spot_scanned (n ∷ e ∷ z ∷ []) =
    pair_and _ _ _ (ends_number (Some Start) z && true) (number_of n) (number_of e) (number_scanned n) (number_scanned e)
    ∙ ap (λ t. is_some (place_of n e) && t) (and_true (ends_number (Some Start) z) ∙ number_scanned z)
    ∙ sym (is_some_both (place_of n e) (number_of z))
spot_scanned (n ∷ e ∷ z ∷ w ∷ ws) =
    ap (λ t. ends_number (Some Start) n && t) (nothing_after_three (ends_number (Some Start) e) (ends_number (Some Start) z) (ends_number (Some Start) w))
    ∙ and_false (ends_number (Some Start) n)

pub places_scanned : (ws : List Word) → end_numbers (Some (scan_of Start Easting)) ws ≡ is_some (places ws)
unfolding places
places_scanned [] = refl
places_scanned (n ∷ []) = and_false (ends_number (Some Start) n)
places_scanned (n ∷ e ∷ []) =
    pair_and _ _ _ true (number_of n) (number_of e) (number_scanned n) (number_scanned e)
    ∙ and_true (is_some (place_of n e)) ∙ sym (is_some_map (λ p. p ∷ []) (place_of n e))
places_scanned (n ∷ e ∷ w ∷ ws) =
    pair_and _ _ _ (end_numbers (Some (scan_of Start Easting)) (w ∷ ws)) (number_of n) (number_of e) (number_scanned n) (number_scanned e)
    ∙ ap (λ t. is_some (place_of n e) && t) (places_scanned (w ∷ ws))
    ∙ sym (is_some_both (place_of n e) (places (w ∷ ws)))
    ∙ sym (is_some_map onto (both (place_of n e) (places (w ∷ ws))))

-- ---- the kinds of a line, as a table
abbrev pub kinds : List (Word × Form (List Coords))
kinds = (codes "break", places) ∷ (codes "outer", places) ∷ (codes "void", places) ∷ (codes "island", places) ∷ []

pub line_of_kinds : (ws : List Word) → is_some (line_edit ws) ≡ is_some (by_word kinds ws)
unfolding line_edit kind_named
line_of_kinds [] = refl
line_of_kinds (w ∷ ws) =
    is_some_map (λ line. AddLine line.0 line.1) (both (kind_named w) (places ws))
    ∙ is_some_both (kind_named w) (places ws)
    ∙ by (bytes_eq w (codes "break")) (bytes_eq w (codes "outer")) (bytes_eq w (codes "void")) (bytes_eq w (codes "island")) (places ws)
  where
    by : (a b c d : Bool) (found : Option (List Coords))
        → (is_some (if a then Some Breakline else if b then Some Outer else if c then Some Void else if d then Some Island else None) && is_some found) ≡ is_some (if a then found else if b then found else if c then found else if d then found else None)
    by true b c d found = refl
    by false true c d found = refl
    by false false true d found = refl
    by false false false true found = refl
    by false false false false found = refl
