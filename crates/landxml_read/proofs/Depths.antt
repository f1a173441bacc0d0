-- What a byte leads to: it opens at most one element, and after <! the bytes were < and !.
use Rattle.std.proofs.Common.{◌≡◌, ℕ, zero, suc, ◌+◌, ◌≤◌, Bool, true, false, ◌==◌, ◌&&◌, ◌||◌, cond, List, [], ◌∷◌, ◌++◌, Option, None, Some, refl, sym, ◌∙◌, ap, subst, arith, eqb-true, append_assoc}
use Rattle.std.proofs.lemmas.List.{append-nil}
use Rattle.landxml_read.proofs.Scanning.{run_more}
use Rattle.landxml_read.specs.Markup.{is_white, is_free, begins_name, is_in_name, is_in_value}
use Rattle.landxml_read.specs.declared.scan.Scan.{Scan}
use Rattle.landxml_read.specs.declared.level.Level.{Level}
use Rattle.landxml_read.specs.declared.level.Level.TheVariants.{Before, Inside, After}
use Rattle.landxml_read.specs.declared.scan.Part.{Part}
use Rattle.landxml_read.specs.declared.scan.Part.TheVariants.{Start, MarkFirst, MarkSecond, Text, Open, Bang, BangDash, Bracket, BracketC, BracketCd, BracketCda, BracketCdat, BracketCdata, In, Tag, EndOpen, EndName, EndWhite}
use Rattle.landxml_read.specs.declared.skipped.Skipped.{Skipped}
use Rattle.landxml_read.specs.declared.skipped.Skipped.TheVariants.{Comment, CommentDash, CommentDashes, Instruction, InstructionMark, CData, CDataBracket, CDataBrackets}
use Rattle.landxml_read.specs.declared.tag.TagPart.{TagPart}
use Rattle.landxml_read.specs.declared.tag.TagPart.TheVariants.{Name, White, Attribute, BeforeEquals, AfterEquals, DoubleQuoted, SingleQuoted, AfterValue, Slash}
use Rattle.landxml_read.specs.Scan.{opened, passed, closed, is_inside, is_unclosed, inner_depth, at, text_next, open_next, bang_next, skipping, skipped_next, white_or_end, value_next, tag_next, end_next, part_next, next, run, start, is_bang}

abbrev pub is_open : Part → Bool
is_open Open = true
is_open _ = false

-- what is known of a state after a byte at a part
record Led (n b : ℕ) (from : Part) (t : Scan) : Type 0 where
  depth : inner_depth t.level ≤ n
  open_by : is_open t.part ≡ true → b ≡ 60
  bang_by : is_bang t.part ≡ true → (is_open from ≡ true) × (b ≡ 33)

abbrev Leads : ℕ → ℕ → Part → Option Scan → Type 0
Leads n b from None = Unit {0}
Leads n b from (Some t) = Led n b from t

plain : (n b : ℕ) (from : Part) (L : Level) (part : Part) → inner_depth L ≤ n → is_open part ≡ false → is_bang part ≡ false → Leads n b from (at L part)
plain n b from L part h no_open no_bang = record { depth = h; open_by = λ e. cc; bang_by = λ e. cc }

by_if : (n b : ℕ) (from : Part) (x : Bool) (o u : Option Scan) → (x ≡ true → Leads n b from o) → Leads n b from u → Leads n b from (cond x o u)
by_if n b from true o u first second = first refl
by_if n b from false o u first second = second

passed_less : (L : Level) → inner_depth (passed L) ≤ inner_depth L
passed_less Before = omega arith
passed_less (Inside k) = omega arith
passed_less After = omega arith

closed_less : (L : Level) → inner_depth (closed L) ≤ inner_depth L
closed_less Before = omega arith
closed_less (Inside zero) = omega arith
closed_less (Inside (suc k)) = omega arith
closed_less After = omega arith

opened_more : (L : Level) → inner_depth (opened L) ≤ inner_depth L + 1
opened_more Before = omega arith
opened_more (Inside k) = omega arith
opened_more After = omega arith

module _ (from : Part) (L : Level) (b n : ℕ) (h : inner_depth L + 1 ≤ n) where
  to : (part : Part) → is_open part ≡ false → is_bang part ≡ false → Leads n b from (at L part)
  to part no_open no_bang = plain n b from L part (omega arith) no_open no_bang

  on : (x : Bool) (part : Part) (u : Option Scan) → is_open part ≡ false → is_bang part ≡ false → Leads n b from u → Leads n b from (cond x (at L part) u)
  on x part u no_open no_bang second = by_if n b from x (at L part) u (λ _. to part no_open no_bang) second

  text : Leads n b from (text_next L b)
  text = by_if n b from (b == 60) (at L Open) _ (λ e. record { depth = omega arith; open_by = λ _. eqb-true b 60 e; bang_by = λ f. cc }) (on (is_white b || (is_inside L && is_free b)) Text None refl refl tt)

  open_tag : is_open from ≡ true → Leads n b from (open_next L b)
  open_tag opens =
      by_if n b from (b == 33) (at L Bang) _ (λ e. record { depth = omega arith; open_by = λ f. cc; bang_by = λ _. (opens, eqb-true b 33 e) })
      (on (b == 63) (In Instruction) _ refl refl (on (b == 47 && is_inside L) EndOpen _ refl refl (on (begins_name b && is_unclosed L) (Tag Name) None refl refl tt)))

  bang : Leads n b from (bang_next L b)
  bang = on (b == 45) BangDash _ refl refl (on (b == 91 && is_inside L) Bracket None refl refl tt)

  skip : (part : Skipped) → Leads n b from (skipping L part b)
  skip part = on (is_free b) (In part) None refl refl tt

  skipped : (part : Skipped) → Leads n b from (skipped_next L part b)
  skipped Comment = on (b == 45) (In CommentDash) _ refl refl (skip Comment)
  skipped CommentDash = on (b == 45) (In CommentDashes) _ refl refl (skip Comment)
  skipped CommentDashes = on (b == 62) Text _ refl refl (on (b == 45) (In CommentDashes) _ refl refl (skip Comment))
  skipped Instruction = on (b == 63) (In InstructionMark) _ refl refl (skip Instruction)
  skipped InstructionMark = on (b == 62) Text _ refl refl (on (b == 63) (In InstructionMark) _ refl refl (skip Instruction))
  skipped CData = on (b == 93) (In CDataBracket) _ refl refl (skip CData)
  skipped CDataBracket = on (b == 93) (In CDataBrackets) _ refl refl (skip CData)
  skipped CDataBrackets = on (b == 62) Text _ refl refl (on (b == 93) (In CDataBrackets) _ refl refl (skip CData))

  ending : Leads n b from (white_or_end L b)
  ending =
      let more = opened_more L in
      on (is_white b) (Tag White) _ refl refl (by_if n b from (b == 62) (at (opened L) Text) _ (λ _. plain n b from (opened L) Text (omega arith) refl refl) (on (b == 47) (Tag Slash) None refl refl tt))

  equals : Leads n b from (tag_next L BeforeEquals b)
  equals = on (is_white b) (Tag BeforeEquals) _ refl refl (on (b == 61) (Tag AfterEquals) None refl refl tt)

  value : (part : TagPart) (quote : ℕ) → Leads n b from (value_next L part quote b)
  value part quote = on (b == quote) (Tag AfterValue) _ refl refl (on (is_in_value quote b) (Tag part) None refl refl tt)

  tag : (part : TagPart) → Leads n b from (tag_next L part b)
  tag Name = on (is_in_name b) (Tag Name) _ refl refl ending
  tag White = on (begins_name b) (Tag Attribute) _ refl refl ending
  tag Attribute = on (is_in_name b) (Tag Attribute) _ refl refl equals
  tag BeforeEquals = equals
  tag AfterEquals = on (is_white b) (Tag AfterEquals) _ refl refl (on (b == 34) (Tag DoubleQuoted) _ refl refl (on (b == 39) (Tag SingleQuoted) None refl refl tt))
  tag DoubleQuoted = value DoubleQuoted 34
  tag SingleQuoted = value SingleQuoted 39
  tag AfterValue = ending
  tag Slash = let less = passed_less L in by_if n b from (b == 62) (at (passed L) Text) None (λ _. plain n b from (passed L) Text (omega arith) refl refl) tt

  end : Leads n b from (end_next L b)
  end =
      let less = closed_less L in
      on (is_white b) EndWhite _ refl refl (by_if n b from (b == 62) (at (closed L) Text) None (λ _. plain n b from (closed L) Text (omega arith) refl refl) tt)

leads : (part : Part) (L : Level) (b n : ℕ) → inner_depth L + 1 ≤ n → Leads n b part (part_next L part b)
leads Start L b n h = on Start L b n h (b == 0xEF) MarkFirst _ refl refl (text Start L b n h)
leads MarkFirst L b n h = on MarkFirst L b n h (b == 0xBB) MarkSecond None refl refl tt
leads MarkSecond L b n h = on MarkSecond L b n h (b == 0xBF) Text None refl refl tt
leads Text L b n h = text Text L b n h
leads Open L b n h = open_tag Open L b n h refl
leads Bang L b n h = bang Bang L b n h
leads BangDash L b n h = on BangDash L b n h (b == 45) (In Comment) None refl refl tt
leads Bracket L b n h = on Bracket L b n h (b == 67) BracketC None refl refl tt
leads BracketC L b n h = on BracketC L b n h (b == 68) BracketCd None refl refl tt
leads BracketCd L b n h = on BracketCd L b n h (b == 65) BracketCda None refl refl tt
leads BracketCda L b n h = on BracketCda L b n h (b == 84) BracketCdat None refl refl tt
leads BracketCdat L b n h = on BracketCdat L b n h (b == 65) BracketCdata None refl refl tt
leads BracketCdata L b n h = on BracketCdata L b n h (b == 91) (In CData) None refl refl tt
leads (In part) L b n h = skipped (In part) L b n h part
leads (Tag part) L b n h = tag (Tag part) L b n h part
leads EndOpen L b n h = on EndOpen L b n h (begins_name b) EndName None refl refl tt
leads EndName L b n h = on EndName L b n h (is_in_name b) EndName _ refl refl (end EndName L b n h)
leads EndWhite L b n h = end EndWhite L b n h

led : (s t : Scan) (b : ℕ) → next s b ≡ Some t → Led (inner_depth s.level + 1) b s.part t
led s t b e = let P : Option Scan → Type 0 = Leads (inner_depth s.level + 1) b s.part in subst P e (leads s.part s.level b (inner_depth s.level + 1) (omega arith))

-- a byte opens at most one element
pub next_depth : (s t : Scan) (b : ℕ) → next s b ≡ Some t → inner_depth t.level ≤ inner_depth s.level + 1
next_depth s t b e = (led s t b e).depth

-- the bytes before a part
pub record Behind (seen : List ℕ) (part : Part) : Type 0 where
  pub open_by : is_open part ≡ true → (front : List ℕ) × (seen ≡ front ++ 60 ∷ [])
  pub bang_by : is_bang part ≡ true → (front : List ℕ) × (seen ≡ front ++ 60 ∷ 33 ∷ [])

behind_step : (seen : List ℕ) (s t : Scan) (b : ℕ) → Behind seen s.part → next s b ≡ Some t → Behind (seen ++ b ∷ []) t.part
behind_step seen s t b h e =
    let l = led s t b e in
    record {
      open_by = λ opens. (seen, ap (λ x. seen ++ x ∷ []) (l.open_by opens));
      bang_by = λ bangs. let p = l.bang_by bangs in let front = h.open_by p.0 in
          (front.0, ap (λ x. seen ++ x ∷ []) p.1 ∙ ap (λ w. w ++ 33 ∷ []) front.1 ∙ append_assoc front.0 (60 ∷ []) (33 ∷ []));
    }

behind_run : (seen ys : List ℕ) (s t : Scan) → Behind seen s.part → run (Some s) ys ≡ Some t → Behind (seen ++ ys) t.part
behind_run seen [] s t h e =
    let same : s ≡ t = cc in
    let P : Scan → Type 0 = λ x. Behind (seen ++ []) x.part in
    let Q : List ℕ → Type 0 = λ w. Behind w s.part in
    subst P same (subst Q (sym (append-nil seen)) h)
behind_run seen (b ∷ ys) s t h e = go (next s b) refl (λ w u k f. behind_run w ys u t k f) e
  where
    dead : (ys : List ℕ) → run None ys ≡ Some t → ⊥
    dead [] h = cc
    dead (y ∷ ys) h = cc

    go : (o : Option Scan) → next s b ≡ o → ((w : List ℕ) (u : Scan) → Behind w u.part → run (Some u) ys ≡ Some t → Behind (w ++ ys) t.part) → run o ys ≡ Some t → Behind (seen ++ b ∷ ys) t.part
    go None f again e = absurd (dead ys e)
    go (Some u) f again e = let Q : List ℕ → Type 0 = λ w. Behind w t.part in subst Q (append_assoc seen (b ∷ []) ys) (again (seen ++ b ∷ []) u (behind_step seen s u b h f) e)

-- after <! the bytes end so
pub after_bang : (seen : List ℕ) (s : Scan) → run (Some start) seen ≡ Some s → is_bang s.part ≡ true → (front : List ℕ) × (seen ≡ front ++ 60 ∷ 33 ∷ [])
after_bang seen s e bangs = (behind_run [] seen start s (record { open_by = λ e. cc; bang_by = λ e. cc }) e).bang_by bangs

-- a state that takes < and !, and then no D, is the one after <!
abbrev Only : Option Scan → Type 0
Only None = Unit {0}
Only (Some s) = next s 68 ≡ None → is_bang s.part ≡ true

abbrev led_to : Part → Level → Option Scan
led_to part L = run (Some (record { part = part; level = L })) (60 ∷ 33 ∷ [])

only_in : (part : Skipped) (L : Level) → Only (led_to (In part) L)
only_in Comment L = λ e. cc
only_in CommentDash L = λ e. cc
only_in CommentDashes L = λ e. cc
only_in Instruction L = λ e. cc
only_in InstructionMark L = λ e. cc
only_in CData L = λ e. cc
only_in CDataBracket L = λ e. cc
only_in CDataBrackets L = λ e. cc

only_tag : (part : TagPart) (L : Level) → Only (led_to (Tag part) L)
only_tag Name L = tt
only_tag White L = tt
only_tag Attribute L = tt
only_tag BeforeEquals L = tt
only_tag AfterEquals L = tt
only_tag DoubleQuoted L = tt
only_tag SingleQuoted L = tt
only_tag AfterValue L = tt
only_tag Slash L = tt

only_part : (part : Part) (L : Level) → Only (led_to part L)
only_part Start L = λ e. refl
only_part MarkFirst L = tt
only_part MarkSecond L = tt
only_part Text L = λ e. refl
only_part Open L = tt
only_part Bang L = tt
only_part BangDash L = tt
only_part Bracket L = tt
only_part BracketC L = tt
only_part BracketCd L = tt
only_part BracketCda L = tt
only_part BracketCdat L = tt
only_part BracketCdata L = tt
only_part (In part) L = only_in part L
only_part (Tag part) L = only_tag part L
only_part EndOpen L = tt
only_part EndName L = tt
only_part EndWhite L = tt

pub only_bang : (front : List ℕ) (s : Scan) → run (Some start) (front ++ 60 ∷ 33 ∷ []) ≡ Some s → next s 68 ≡ None → is_bang s.part ≡ true
only_bang front s e none = go (run (Some start) front) (sym (run_more (Some start) front (60 ∷ 33 ∷ [])) ∙ e)
  where
    go : (o : Option Scan) → run o (60 ∷ 33 ∷ []) ≡ Some s → is_bang s.part ≡ true
    go None f = cc
    go (Some r) f = let P : Option Scan → Type 0 = Only in subst P f (only_part r.part r.level) none
