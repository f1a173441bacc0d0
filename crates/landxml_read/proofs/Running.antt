-- Runs of a reading.
use Rattle.std.proofs.Common.{◌≡◌, ℕ, ◌+◌, Bool, true, false, cond, List, [], ◌∷◌, ◌++◌, length, Option, None, Some, refl, sym, ◌∙◌, ap, arith, append_assoc}
use Rattle.std.proofs.lemmas.List.{append-nil}
use Rattle.std.specs.Option.{option_map}
use Rattle.std.specs.List.{list_all}
use Rattle.landxml_read.specs.declared.scan.Scan.{Scan}
use Rattle.landxml_read.specs.declared.level.Level.{Level}
use Rattle.landxml_read.specs.declared.scan.Part.{Part}
use Rattle.landxml_read.specs.declared.tokens.Tokens.{Tokens}
use Rattle.landxml_read.specs.Events.{Event}
use Rattle.landxml_read.specs.Scan.{next, run}
use Rattle.landxml_read.specs.declared.act.Act.{Act}
use Rattle.landxml_read.specs.Tokens.{Reading, act, after, shown, on, led, step, reads, pushed}
use Rattle.landxml_read.proofs.Bytes.{both}

-- the scan in a part at a level
abbrev pub scan : Part → Level → Scan
scan part level = record { part = part; level = level }

-- the reading in a part at a level, at an offset
abbrev pub reading : Part → Level → ℕ → Tokens → List Event → Reading
reading part level n tokens told = record { scan = scan part level; offset = n; tokens = tokens; told = told }

-- the scan of some bytes from a part at a level on
abbrev pub from : Part → Level → List ℕ → Option Scan
from part level bytes = run (Some (scan part level)) bytes

pub if_true : {A : Type 0} (x : Bool) (o u : A) → x ≡ true → cond x o u ≡ o
if_true true o u e = refl
if_true false o u e = cc

pub if_false : {A : Type 0} (x : Bool) (o u : A) → x ≡ false → cond x o u ≡ u
if_false false o u e = refl
if_false true o u e = cc

-- a byte, and then others
pub goes : (r : Reading) (b : ℕ) (s : Scan) (bs : List ℕ) (o : Option Reading) → next r.scan b ≡ Some s → reads (Some (on r b s)) bs ≡ o → reads (Some r) (b ∷ bs) ≡ o
goes r b s bs o e h = ap (λ u. reads (led r b u) bs) e ∙ h

-- a byte that is known to the tokens
pub goes_by : (r : Reading) (b : ℕ) (s : Scan) (a : Act) → next r.scan b ≡ Some s → act r.scan.part s.part ≡ a
    → step r b ≡ Some (record { scan = s; offset = r.offset + 1; tokens = after a r.offset b r.tokens; told = pushed (shown a r.offset b r.tokens) r.told })
goes_by r b s a e h = ap (led r b) e ∙ ap (λ x. Some (record { scan = s; offset = r.offset + 1; tokens = after x r.offset b r.tokens; told = pushed (shown x r.offset b r.tokens) r.told })) h

reads_none : (bs : List ℕ) → reads None bs ≡ None
reads_none [] = refl
reads_none (b ∷ bs) = refl

pub reads_more : (o : Option Reading) (xs ys : List ℕ) → reads o (xs ++ ys) ≡ reads (reads o xs) ys
reads_more o [] ys = refl
reads_more None (x ∷ xs) ys = sym (reads_none ys)
reads_more (Some r) (x ∷ xs) ys = reads_more (step r x) xs ys

-- some bytes, and then others
pub then_reads : (r u : Reading) (xs ys : List ℕ) (o : Option Reading) → reads (Some r) xs ≡ Some u → reads (Some u) ys ≡ o → reads (Some r) (xs ++ ys) ≡ o
then_reads r u xs ys o e h = reads_more (Some r) xs ys ∙ ap (λ p. reads p ys) e ∙ h

-- a family of readings that each byte of a kind leads on in
pub grows : (f : List ℕ → ℕ → Reading) (p : ℕ → Bool) → ((text : List ℕ) (n b : ℕ) → p b ≡ true → step (f text n) b ≡ Some (f (text ++ b ∷ []) (n + 1)))
    → (bs text : List ℕ) (n : ℕ) → list_all p bs ≡ true → reads (Some (f text n)) bs ≡ Some (f (text ++ bs) (n + length bs))
grows f p each [] text n all = let e : text ≡ text ++ [] = sym (append-nil text) in let g : n ≡ n + 0 = omega arith in λ i. Some (f (e i) (g i))
grows f p each (b ∷ bs) text n all =
    let h = both (p b) (list_all p bs) all in
    let e : (text ++ b ∷ []) ++ bs ≡ text ++ (b ∷ bs) = append_assoc text (b ∷ []) bs in
    let g : n + 1 + length bs ≡ n + length (b ∷ bs) = omega arith in
    ap (λ o. reads o bs) (each text n b h.0) ∙ grows f p each bs (text ++ b ∷ []) (n + 1) h.1 ∙ (λ i. Some (f (e i) (g i)))

-- one that they leave as it is, but for its offset
pub stays : (f : ℕ → Reading) (p : ℕ → Bool) → ((n b : ℕ) → p b ≡ true → step (f n) b ≡ Some (f (n + 1))) → (bs : List ℕ) (n : ℕ) → list_all p bs ≡ true → reads (Some (f n)) bs ≡ Some (f (n + length bs))
stays f p each bs n all = grows (λ text. f) p (λ text. each) bs [] n all

-- events after others
pub pushed_more : (xs ys told : List Event) → pushed (xs ++ ys) told ≡ pushed ys (pushed xs told)
pushed_more [] ys told = refl
pushed_more (x ∷ xs) ys told = pushed_more xs ys (x ∷ told)

-- the scan goes with the reading
pub run_of : (r : Reading) (bytes : List ℕ) → run (Some r.scan) bytes ≡ option_map (λ u. u.scan) (reads (Some r) bytes)
run_of r [] = refl
run_of r (b ∷ bs) = go (next r.scan b) (λ s. run_of (on r b s) bs)
  where
    dead : (bs : List ℕ) → run None bs ≡ None
    dead [] = refl
    dead (x ∷ xs) = refl

    go : (o : Option Scan) → ((s : Scan) → run (Some s) bs ≡ option_map (λ u. u.scan) (reads (Some (on r b s)) bs)) → run o bs ≡ option_map (λ u. u.scan) (reads (led r b o) bs)
    go None again = dead bs ∙ sym (ap (option_map (λ u. u.scan)) (reads_none bs))
    go (Some s) again = again s
