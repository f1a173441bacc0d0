-- How the numbers of a line go on, byte by byte.
use Rattle.std.proofs.Common.{◌≡◌, ℕ, suc, Bool, true, false, cond, List, [], ◌∷◌, refl, sym, ◌∙◌, ap, Option, None, Some}
use Rattle.std.specs.Prelude.{◌==◌, ◌&&◌, option_map, if◌then◌else◌}
use Rattle.ground_num.specs.FirstFault.{Begins, IsFirstFault}
use Rattle.line_protocol.specs.declared.figure.Figure.{Figure}
use Rattle.line_protocol.specs.declared.figure.Figure.TheVariants.{Start, Minus, Digits, Point, Decimals, IdStart, IdDigits}
use Rattle.line_protocol.specs.declared.figure.Follower.{Follower}
use Rattle.line_protocol.specs.declared.figure.Follower.TheVariants.{TwoNumbers, OneNumber, Nothing, Easting, Pairs}
use Rattle.line_protocol.specs.declared.figure.Scan.{Scan}
use Rattle.line_protocol.specs.Grammar.{Word, words_of}
use Rattle.line_protocol.specs.Scanning.{next_figure, is_whole, ends_number, next_follower, are_followers, end_numbers, next_scan, EndsNumbers}
use Rattle.line_protocol.proofs.Splitting.{words_some}
use Rattle.line_protocol.proofs.Faults.{of_stray, of_next}

pub and_false : (a : Bool) → (a && false) ≡ false
and_false true = refl
and_false false = refl

abbrev pub scan_of : Figure → Follower → Scan
scan_of figure follower = record { figure = figure; follower = follower }

-- ---- one byte
spaced : (whole : Bool) (next : Option Follower) (w : Word) (ws : List Word)
    → (whole && (ends_number (Some Start) w && are_followers next ws)) ≡ end_numbers (if whole then option_map (λ f. record { figure = Start; follower = f }) next else None) (w ∷ ws)
spaced true None w ws = and_false (ends_number (Some Start) w)
spaced true (Some follower) w ws = refl
spaced false next w ws = refl

unspaced : (next : Option Figure) (follower : Follower) (w : Word) (ws : List Word)
    → (ends_number next w && are_followers (Some follower) ws) ≡ end_numbers (option_map (λ f. record { figure = f; follower = follower }) next) (w ∷ ws)
unspaced None follower w ws = refl
unspaced (Some figure) follower w ws = refl

-- a text goes on where its rest goes on after its first byte
pub first_byte : (scan : Scan) (b : ℕ) (text : List ℕ) → end_numbers (Some scan) (words_of (b ∷ text)) ≡ end_numbers (next_scan scan b) (words_of text)
first_byte scan b text =
    let some = words_some text in
    rw some.2 (by (b == 32) some.0 some.1)
  where
    by : (space : Bool) (w : Word) (ws : List Word)
        → end_numbers (Some scan) (cond space ([] ∷ w ∷ ws) ((b ∷ w) ∷ ws)) ≡ end_numbers (if space then if is_whole scan.figure then option_map (λ next. record { figure = Start; follower = next }) (next_follower scan.follower) else None else option_map (λ next. record { figure = next; follower = scan.follower }) (next_figure scan.figure b)) (w ∷ ws)
    by true w ws = spaced (is_whole scan.figure) (next_follower scan.follower) w ws
    by false w ws = unspaced (next_figure scan.figure b) scan.follower w ws

-- ---- each scan has an end
end_of_followers : Follower → List ℕ
end_of_followers TwoNumbers = 32 ∷ 48 ∷ 32 ∷ 48 ∷ []
end_of_followers OneNumber = 32 ∷ 48 ∷ []
end_of_followers Nothing = []
end_of_followers Easting = 32 ∷ 48 ∷ []
end_of_followers Pairs = []

whole_and : (whole rest : Bool) → whole ≡ true → rest ≡ true → (whole && rest) ≡ true
whole_and true rest e h = h
whole_and false rest e h = cc

whole_ends : (figure : Figure) (follower : Follower) → is_whole figure ≡ true → EndsNumbers (scan_of figure follower) (end_of_followers follower)
unfolding end_of_followers
whole_ends figure TwoNumbers whole = whole_and _ _ whole refl
whole_ends figure OneNumber whole = whole_and _ _ whole refl
whole_ends figure Nothing whole = whole_and _ _ whole refl
whole_ends figure Easting whole = whole_and _ _ whole refl
whole_ends figure Pairs whole = whole_and _ _ whole refl

-- by one byte more it is whole
by_byte : (figure next : Figure) (follower : Follower) (b : ℕ) → next_scan (scan_of figure follower) b ≡ Some (scan_of next follower) → is_whole next ≡ true → Begins (EndsNumbers (scan_of figure follower)) []
by_byte figure next follower b step whole = (
  b ∷ end_of_followers follower,
  first_byte (scan_of figure follower) b (end_of_followers follower) ∙ ap (λ s. end_numbers s (words_of (end_of_followers follower))) step ∙ whole_ends next follower whole,
)

at_once : (figure : Figure) (follower : Follower) → is_whole figure ≡ true → Begins (EndsNumbers (scan_of figure follower)) []
at_once figure follower whole = (end_of_followers follower, whole_ends figure follower whole)

has_end : (figure : Figure) (follower : Follower) → Begins (EndsNumbers (scan_of figure follower)) []
has_end Start follower = by_byte Start (Digits 8) follower 48 refl refl
has_end Minus follower = by_byte Minus (Digits 8) follower 48 refl refl
has_end (Digits more) follower = at_once (Digits more) follower refl
has_end Point follower = by_byte Point (Decimals 2) follower 48 refl refl
has_end (Decimals more) follower = at_once (Decimals more) follower refl
has_end IdStart follower = by_byte IdStart (IdDigits 7) follower 49 refl refl
has_end (IdDigits more) follower = at_once (IdDigits more) follower refl

pub scan_has_end : (scan : Scan) → Begins (EndsNumbers scan) []
scan_has_end scan = has_end scan.figure scan.follower

-- ---- the fault offset, one byte on
pub stray_byte : (scan : Scan) (b : ℕ) (text : List ℕ) → next_scan scan b ≡ None → IsFirstFault (EndsNumbers scan) (b ∷ text) 0
stray_byte scan b text none = of_stray b text (λ t h. not_none (next_scan scan b) (words_of t) none (sym (first_byte scan b t) ∙ h))
  where
    not_none : (next : Option Scan) (ws : List Word) → next ≡ None → end_numbers next ws ≡ true → ⊥
    not_none None ws e h = cc
    not_none (Some s) ws e h = cc

pub next_byte : (scan next : Scan) (b : ℕ) (text : List ℕ) (k : ℕ) → next_scan scan b ≡ Some next → IsFirstFault (EndsNumbers next) text k → IsFirstFault (EndsNumbers scan) (b ∷ text) (suc k)
next_byte scan next b text k step fault =
    of_next b text k
    (λ t h. ap (λ s. end_numbers s (words_of t)) (sym step) ∙ sym (first_byte scan b t) ∙ h)
    (λ t h. first_byte scan b t ∙ ap (λ s. end_numbers s (words_of t)) step ∙ h)
    (scan_has_end next)
    fault
