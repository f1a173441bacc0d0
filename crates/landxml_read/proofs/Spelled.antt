-- A byte keeps the open word, the open value and the first value spelled, and what it ends is a name.
use Rattle.std.proofs.Common.{◌≡◌, ℕ, Bool, true, false, ◌==◌, ◌&&◌, ◌||◌, nat_lt, cond, Option, None, Some, refl, sym, ◌∙◌, ap, subst, eqb-true}
use Rattle.std.specs.List.{list_any}
use Rattle.ground_num.specs.Names.{is_control}
use Rattle.landxml_read.specs.Markup.{is_white, is_free, begins_name, is_in_name, is_in_value}
use Rattle.landxml_read.specs.declared.utf8.Utf8.{Utf8}
use Rattle.landxml_read.specs.declared.utf8.Utf8.TheVariants.{Ready, One, Two}
use Rattle.landxml_read.specs.declared.scan.Scan.{Scan}
use Rattle.landxml_read.specs.declared.level.Level.{Level}
use Rattle.landxml_read.specs.declared.scan.Part.{Part}
use Rattle.landxml_read.specs.declared.scan.Part.TheVariants.{Start, MarkFirst, MarkSecond, Text, Open, Bang, BangDash, Bracket, BracketC, BracketCd, BracketCda, BracketCdat, BracketCdata, In, Tag, EndOpen, EndName, EndWhite}
use Rattle.landxml_read.specs.declared.skipped.Skipped.{Skipped}
use Rattle.landxml_read.specs.declared.skipped.Skipped.TheVariants.{Comment, CommentDash, CommentDashes, Instruction, InstructionMark, CData, CDataBracket, CDataBrackets}
use Rattle.landxml_read.specs.declared.tag.TagPart.{TagPart}
use Rattle.landxml_read.specs.declared.tag.TagPart.TheVariants as tag
use Rattle.landxml_read.specs.declared.tokens.Tokens.{Tokens}
use Rattle.landxml_read.specs.declared.act.Act.{Act}
use Rattle.landxml_read.specs.declared.act.Act.TheVariants.{Pass, Less, BeginName, Name, BeginAttribute, Attribute, BeginValue, Value, EndValue, Opens, Passes, Closes, Quotes}
use Rattle.landxml_read.specs.Faults.{has_text}
use Rattle.landxml_read.specs.Utf8.{utf8_next}
use Rattle.landxml_read.specs.Scan.{opened, passed, closed, is_inside, is_unclosed, at, text_next, open_next, bang_next, skipping, skipped_next, white_or_end, value_next, tag_next, end_next, part_next, next}
use Rattle.landxml_read.specs.Tokens.{act, after, kind_in, kind_of, no_tokens}
use Rattle.landxml_read.specs.Verdict.{word_verdict, letter_verdict, verdict_of}
use Rattle.landxml_read.specs.Gather.{HoldsWord, CanGather}
use Rattle.landxml_read.specs.Known.{due, is_text, is_quoted, IsSpelled}
use Rattle.landxml_read.proofs.Bytes.{both, white_free}
use Rattle.landxml_read.proofs.Running.{if_true}
use Rattle.landxml_read.proofs.Plain.{ascii}
use Rattle.landxml_read.proofs.Rests.{white_low, low, value_free, Rests, none_kept, apart, at_text, rests_of, letter, value_begins, value_goes, value_ends, begins, names_on, begins_attribute, attribute_on, opens, closes, less, holds_word, first_named, quiet_caused, quiet_empty}

-- each byte

abbrev Goes : Utf8 → ℕ → ℕ → Tokens → Part → Option Scan → Type 0
Goes u n b t from None = Unit {0}
Goes u n b t from (Some x) = IsSpelled u x.part (after (act from x.part) n b t) × (verdict_of (act from x.part) n b t ≡ None → CanGather (act from x.part) b t)

module _ (s u : Utf8) (n b : ℕ) (t : Tokens) (e : utf8_next s b ≡ Some u) where
  by_if : (from : Part) (x : Bool) (o p : Option Scan) → (x ≡ true → Goes u n b t from o) → (x ≡ false → Goes u n b t from p) → Goes u n b t from (cond x o p)
  by_if from true o p first second = first refl
  by_if from false o p first second = second refl

  -- to a part outside text and values, by an act
  to : (from part : Part) (L : Level) (a : Act) → act from part ≡ a → due part ≡ None → is_text part ≡ false → is_quoted part ≡ false → Rests (after a n b t) → (verdict_of a n b t ≡ None → CanGather a b t) → Goes u n b t from (at L part)
  to from part L a is no_due no_text no_quote r can =
      let P : Act → Type 0 = λ x. IsSpelled u part (after x n b t) × (verdict_of x n b t ≡ None → CanGather x b t) in
      subst P (sym is) (apart u part (after a n b t) no_due no_text no_quote r, can)

  -- to text, by an act
  to_text : (from : Part) (L : Level) (a : Act) → act from Text ≡ a → u ≡ Ready → Rests (after a n b t) → (verdict_of a n b t ≡ None → CanGather a b t) → Goes u n b t from (at L Text)
  to_text from L a is ready r can =
      let P : Act → Type 0 = λ x. IsSpelled u Text (after x n b t) × (verdict_of x n b t ≡ None → CanGather x b t) in
      subst P (sym is) (at_text u (after a n b t) ready r, can)

  ready : (k : ℕ) → (b == k) ≡ true → nat_lt k 128 ≡ true → u ≡ Ready
  ready k is is_low = (ascii s u b (low b k is is_low) e).1

  -- from a part outside text
  module _ (from : Part) (L : Level) (r : Rests t) where
    pass : (x : Bool) (part : Part) (o : Option Scan) → act from part ≡ Pass → due part ≡ None → is_text part ≡ false → is_quoted part ≡ false → Goes u n b t from o → Goes u n b t from (cond x (at L part) o)
    pass x part o is no_due no_text no_quote second = by_if from x (at L part) o (λ _. to from part L Pass is no_due no_text no_quote r (λ _. tt)) (λ _. second)

    pass_text : (k : ℕ) (o : Option Scan) → act from Text ≡ Pass → nat_lt k 128 ≡ true → Goes u n b t from o → Goes u n b t from (cond (b == k) (at L Text) o)
    pass_text k o is is_low second = by_if from (b == k) (at L Text) o (λ f. to_text from L Pass is (ready k f is_low) r (λ _. tt)) (λ _. second)

  less_goes : (from : Part) (L : Level) → act from Open ≡ Less → IsSpelled s from t → (b == 60) ≡ true → Goes u n b t from (at L Open)
  less_goes from L is h f = to from Open L Less is refl refl refl (less s from n b t h) (holds_word s u b from t h (low b 60 f refl) e)

  text : (L : Level) → IsSpelled s Text t → Goes u n b t Text (text_next L b)
  text L h =
      by_if Text (b == 60) (at L Open) _ (λ f. less_goes Text L refl h f)
      (λ _. by_if Text (is_white b || (is_inside L && is_free b)) (at L Text) None (λ f. (letter s u n b t e (free (is_white b) refl f) h, can)) (λ _. tt))
    where
      free : (x : Bool) → is_white b ≡ x → (x || (is_inside L && is_free b)) ≡ true → is_free b ≡ true
      free true w f = white_free b w
      free false w f = (both (is_inside L) (is_free b) f).1

      can : letter_verdict n b t ≡ None → (has_text (kind_in t.stack) && is_white b) ≡ true → HoldsWord t
      can quiet f =
          let p = both (has_text (kind_in t.stack)) (is_white b) f in
          holds_word s u b Text t h (white_low b p.1) e (sym (if_true (has_text (kind_in t.stack)) _ None p.0 ∙ if_true (is_white b) (word_verdict t) _ p.1) ∙ quiet)

  -- parts of markup
  module _ (L : Level) (r : Rests t) where
    open_tag : Goes u n b t Open (open_next L b)
    open_tag =
        pass Open L r (b == 33) Bang _ refl refl refl refl (pass Open L r (b == 63) (In Instruction) _ refl refl refl refl (pass Open L r (b == 47 && is_inside L) EndOpen _ refl refl refl refl
        (by_if Open (begins_name b && is_unclosed L) (at L (Tag tag.Name)) None (λ _. to Open (Tag tag.Name) L BeginName refl refl refl refl (begins t n b r) (λ _. tt)) (λ _. tt))))

    bang : Goes u n b t Bang (bang_next L b)
    bang = pass Bang L r (b == 45) BangDash _ refl refl refl refl (pass Bang L r (b == 91 && is_inside L) Bracket None refl refl refl refl tt)

    skip : (from part : Skipped) → Goes u n b t (In from) (skipping L part b)
    skip from part = pass (In from) L r (is_free b) (In part) None refl refl refl refl tt

    skipped : (part : Skipped) → Goes u n b t (In part) (skipped_next L part b)
    skipped Comment = pass (In Comment) L r (b == 45) (In CommentDash) _ refl refl refl refl (skip Comment Comment)
    skipped CommentDash = pass (In CommentDash) L r (b == 45) (In CommentDashes) _ refl refl refl refl (skip CommentDash Comment)
    skipped CommentDashes = pass_text (In CommentDashes) L r 62 _ refl refl (pass (In CommentDashes) L r (b == 45) (In CommentDashes) _ refl refl refl refl (skip CommentDashes Comment))
    skipped Instruction = pass (In Instruction) L r (b == 63) (In InstructionMark) _ refl refl refl refl (skip Instruction Instruction)
    skipped InstructionMark = pass_text (In InstructionMark) L r 62 _ refl refl (pass (In InstructionMark) L r (b == 63) (In InstructionMark) _ refl refl refl refl (skip InstructionMark Instruction))
    skipped CData = pass (In CData) L r (b == 93) (In CDataBracket) _ refl refl refl refl (skip CData CData)
    skipped CDataBracket = pass (In CDataBracket) L r (b == 93) (In CDataBrackets) _ refl refl refl refl (skip CDataBracket CData)
    skipped CDataBrackets = pass_text (In CDataBrackets) L r 62 _ refl refl (pass (In CDataBrackets) L r (b == 93) (In CDataBrackets) _ refl refl refl refl (skip CDataBrackets CData))

    -- the end of a tag
    ending : (from : TagPart) → act (Tag from) (Tag tag.White) ≡ Pass → act (Tag from) (Tag tag.Slash) ≡ Pass → act (Tag from) Text ≡ Opens → Goes u n b t (Tag from) (white_or_end L b)
    ending from white slash ends =
        pass (Tag from) L r (is_white b) (Tag tag.White) _ white refl refl refl
        (by_if (Tag from) (b == 62) (at (opened L) Text) _
        (λ f. to_text (Tag from) (opened L) Opens ends (ready 62 f refl) (opens t n b r) (λ quiet. first_named t r.first (quiet_caused t.at _ quiet)))
        (λ _. pass (Tag from) L r (b == 47) (Tag tag.Slash) None slash refl refl refl tt))

    equals : (from : TagPart) → act (Tag from) (Tag tag.BeforeEquals) ≡ Pass → act (Tag from) (Tag tag.AfterEquals) ≡ Pass → Goes u n b t (Tag from) (tag_next L tag.BeforeEquals b)
    equals from before after = pass (Tag from) L r (is_white b) (Tag tag.BeforeEquals) _ before refl refl refl (pass (Tag from) L r (b == 61) (Tag tag.AfterEquals) None after refl refl refl tt)

    quote : (part : TagPart) (k : ℕ) → act (Tag tag.AfterEquals) (Tag part) ≡ BeginValue → (b == k) ≡ true → nat_lt k 128 ≡ true → Goes u n b t (Tag tag.AfterEquals) (at L (Tag part))
    quote part k is f is_low =
        let P : Act → Type 0 = λ x. IsSpelled u (Tag part) (after x n b t) × (verdict_of x n b t ≡ None → CanGather x b t) in
        subst P (sym is) (value_begins u part n b t (ready k f is_low) r, λ _. tt)

    slash : Goes u n b t (Tag tag.Slash) (tag_next L tag.Slash b)
    slash =
        by_if (Tag tag.Slash) (b == 62) (at (passed L) Text) None
        (λ f. to_text (Tag tag.Slash) (passed L) Passes refl (ready 62 f refl) r (λ quiet. first_named t r.first (quiet_empty (kind_of t) _ (quiet_caused t.at _ quiet)))) (λ _. tt)

    end : (from : Part) → act from EndWhite ≡ Pass → act from Text ≡ Closes → Goes u n b t from (end_next L b)
    end from white ends =
        pass from L r (is_white b) EndWhite _ white refl refl refl
        (by_if from (b == 62) (at (closed L) Text) None (λ f. to_text from (closed L) Closes ends (ready 62 f refl) (closes t n b r) (λ _. tt)) (λ _. tt))

  value : (part : TagPart) (k : ℕ) (L : Level) → act (Tag part) (Tag part) ≡ Value → act (Tag part) (Tag tag.AfterValue) ≡ EndValue → is_quoted (Tag part) ≡ true → nat_lt k 128 ≡ true → IsSpelled s (Tag part) t → Goes u n b t (Tag part) (value_next L part k b)
  value part k L goes ends is is_low h =
      by_if (Tag part) (b == k) (at L (Tag tag.AfterValue)) _
      (λ f. to (Tag part) (Tag tag.AfterValue) L EndValue ends refl refl refl (value_ends s part n b t (ascii s u b (low b k f is_low) e).0 is h) (λ _. tt))
      (λ _. by_if (Tag part) (is_in_value k b) (at L (Tag part)) None
      (λ f. let P : Act → Type 0 = λ x. IsSpelled u (Tag part) (after x n b t) × (verdict_of x n b t ≡ None → CanGather x b t) in
      subst P (sym goes) (value_goes s u part n b t e (value_free k b f) is h, λ _. tt)) (λ _. tt))

  in_tag : (part : TagPart) (L : Level) → IsSpelled s (Tag part) t → Goes u n b t (Tag part) (tag_next L part b)
  in_tag part L h = by part h (rests_of s (Tag part) t refl h)
    where
      by : (part : TagPart) → IsSpelled s (Tag part) t → Rests t → Goes u n b t (Tag part) (tag_next L part b)
      by tag.Name h r =
          by_if (Tag tag.Name) (is_in_name b) (at L (Tag tag.Name)) _ (λ _. to (Tag tag.Name) (Tag tag.Name) L Name refl refl refl refl (names_on t n b r) (λ _. tt)) (λ _. ending L r tag.Name refl refl refl)
      by tag.White h r =
          by_if (Tag tag.White) (begins_name b) (at L (Tag tag.Attribute)) _ (λ _. to (Tag tag.White) (Tag tag.Attribute) L BeginAttribute refl refl refl refl (begins_attribute t n b r) (λ _. tt))
          (λ _. ending L r tag.White refl refl refl)
      by tag.Attribute h r =
          by_if (Tag tag.Attribute) (is_in_name b) (at L (Tag tag.Attribute)) _ (λ _. to (Tag tag.Attribute) (Tag tag.Attribute) L Attribute refl refl refl refl (attribute_on t n b r) (λ _. tt))
          (λ _. equals L r tag.Attribute refl refl)
      by tag.BeforeEquals h r = equals L r tag.BeforeEquals refl refl
      by tag.AfterEquals h r =
          pass (Tag tag.AfterEquals) L r (is_white b) (Tag tag.AfterEquals) _ refl refl refl refl
          (by_if (Tag tag.AfterEquals) (b == 34) (at L (Tag tag.DoubleQuoted)) _ (λ f. quote L r tag.DoubleQuoted 34 refl f refl)
          (λ _. by_if (Tag tag.AfterEquals) (b == 39) (at L (Tag tag.SingleQuoted)) None (λ f. quote L r tag.SingleQuoted 39 refl f refl) (λ _. tt)))
      by tag.DoubleQuoted h r = value tag.DoubleQuoted 34 L refl refl refl refl h
      by tag.SingleQuoted h r = value tag.SingleQuoted 39 L refl refl refl refl h
      by tag.AfterValue h r = ending L r tag.AfterValue refl refl refl
      by tag.Slash h r = slash L r

  -- in a byte order mark
  marked : (part : Part) (L : Level) (m : Utf8) → due part ≡ Some m → is_text part ≡ false → is_quoted part ≡ false → u ≡ m → has_text (kind_in t.stack) ≡ false → Rests t → IsSpelled u part t
  marked part L m is no_text no_quote same outside r = record {
    mark = λ k f. (same ∙ some (sym is ∙ f), outside);
    word = λ f. let g = sym f ∙ ap (λ x. x && has_text (kind_in t.stack)) no_text in cc;
    no_word = λ f. r.word;
    plain_word = ap (list_any is_control) r.word;
    value = λ f. let g = sym f ∙ no_quote in cc;
    plain_value = r.value;
    first = r.first;
  }
    where
      some : {x y : Utf8} → Some x ≡ Some y → x ≡ y
      some k = cc

  -- the state after a byte of it
  mark_led : (from to : Utf8) (k : ℕ) → s ≡ from → (b == k) ≡ true → utf8_next from k ≡ Some to → u ≡ to
  mark_led from to k is f g = some (sym e ∙ (λ i. utf8_next (is i) (eqb-true b k f i)) ∙ g)
    where
      some : {x y : Utf8} → Some x ≡ Some y → x ≡ y
      some k = cc

  -- to text in which no words are read
  outside_text : (from : Part) (L : Level) → act from Text ≡ Pass → has_text (kind_in t.stack) ≡ false → Rests t → Goes u n b t from (at L Text)
  outside_text from L is outside r =
      let P : Act → Type 0 = λ x. IsSpelled u Text (after x n b t) × (verdict_of x n b t ≡ None → CanGather x b t) in
      subst P (sym is) (
        record {
          mark = λ m f. cc;
          word = λ f. let g = sym f ∙ outside in cc;
          no_word = λ f. r.word;
          plain_word = ap (list_any is_control) r.word;
          value = λ f. cc;
          plain_value = r.value;
          first = r.first;
        },
        λ _. tt,
      )

  from_start : (L : Level) → IsSpelled s Start t → Goes u n b t Start (part_next L Start b)
  from_start L h =
      let r = rests_of s Start t refl h in
      let m = h.mark Ready refl in
      by_if Start (b == 0xEF) (at L MarkFirst) _ (λ f. (marked MarkFirst L Two refl refl refl (mark_led Ready Two 0xEF m.0 f refl) m.1 r, λ _. tt))
      (λ _. by_if Start (b == 60) (at L Open) _ (λ f. less_goes Start L refl h f)
      (λ _. by_if Start (is_white b || (is_inside L && is_free b)) (at L Text) None (λ f. outside_text Start L refl m.1 r) (λ _. tt)))

  from_first : (L : Level) → IsSpelled s MarkFirst t → Goes u n b t MarkFirst (part_next L MarkFirst b)
  from_first L h =
      let r = rests_of s MarkFirst t refl h in
      let m = h.mark Two refl in
      by_if MarkFirst (b == 0xBB) (at L MarkSecond) None (λ f. (marked MarkSecond L One refl refl refl (mark_led Two One 0xBB m.0 f refl) m.1 r, λ _. tt)) (λ _. tt)

  from_second : (L : Level) → IsSpelled s MarkSecond t → Goes u n b t MarkSecond (part_next L MarkSecond b)
  from_second L h = by_if MarkSecond (b == 0xBF) (at L Text) None (λ f. outside_text MarkSecond L refl (h.mark One refl).1 (rests_of s MarkSecond t refl h)) (λ _. tt)

  -- one of the letters of what opens CDATA
  one : (from part : Part) (L : Level) (k : ℕ) → act from part ≡ Pass → due part ≡ None → is_text part ≡ false → is_quoted part ≡ false → Rests t → Goes u n b t from (cond (b == k) (at L part) None)
  one from part L k is no_due no_text no_quote r = pass from L r (b == k) part None is no_due no_text no_quote tt

  goes : (part : Part) (L : Level) → IsSpelled s part t → Goes u n b t part (part_next L part b)
  goes Start L h = from_start L h
  goes MarkFirst L h = from_first L h
  goes MarkSecond L h = from_second L h
  goes Text L h = text L h
  goes Open L h = open_tag L (rests_of s Open t refl h)
  goes Bang L h = bang L (rests_of s Bang t refl h)
  goes BangDash L h = one BangDash (In Comment) L 45 refl refl refl refl (rests_of s BangDash t refl h)
  goes Bracket L h = one Bracket BracketC L 67 refl refl refl refl (rests_of s Bracket t refl h)
  goes BracketC L h = one BracketC BracketCd L 68 refl refl refl refl (rests_of s BracketC t refl h)
  goes BracketCd L h = one BracketCd BracketCda L 65 refl refl refl refl (rests_of s BracketCd t refl h)
  goes BracketCda L h = one BracketCda BracketCdat L 84 refl refl refl refl (rests_of s BracketCda t refl h)
  goes BracketCdat L h = one BracketCdat BracketCdata L 65 refl refl refl refl (rests_of s BracketCdat t refl h)
  goes BracketCdata L h =
      by_if BracketCdata (b == 91) (at L (In CData)) None (λ _. to BracketCdata (In CData) L Quotes refl refl refl refl (rests_of s BracketCdata t refl h) (λ _. tt)) (λ _. tt)
  goes (In part) L h = skipped L (rests_of s (In part) t refl h) part
  goes (Tag part) L h = in_tag part L h
  goes EndOpen L h =
      let r = rests_of s EndOpen t refl h in
      by_if EndOpen (begins_name b) (at L EndName) None (λ _. to EndOpen EndName L BeginName refl refl refl refl (begins t n b r) (λ _. tt)) (λ _. tt)
  goes EndName L h =
      let r = rests_of s EndName t refl h in
      by_if EndName (is_in_name b) (at L EndName) _ (λ _. to EndName EndName L Name refl refl refl refl (names_on t n b r) (λ _. tt)) (λ _. end L r EndName refl refl)
  goes EndWhite L h = end L (rests_of s EndWhite t refl h) EndWhite refl refl

-- a byte that leads encoding and markup on keeps all spelled
pub spelled_on : (s u : Utf8) (x y : Scan) (n b : ℕ) (t : Tokens) → utf8_next s b ≡ Some u → next x b ≡ Some y → IsSpelled s x.part t → IsSpelled u y.part (after (act x.part y.part) n b t)
spelled_on s u x y n b t e f h = let P : Option Scan → Type 0 = Goes u n b t x.part in (subst P f (goes s u n b t e x.part x.level h)).0

-- and where it shows no fault, what it shows can be gathered
pub can_gather : (s u : Utf8) (x y : Scan) (n b : ℕ) (t : Tokens) → utf8_next s b ≡ Some u → next x b ≡ Some y → IsSpelled s x.part t → verdict_of (act x.part y.part) n b t ≡ None → CanGather (act x.part y.part) b t
can_gather s u x y n b t e f h quiet = let P : Option Scan → Type 0 = Goes u n b t x.part in (subst P f (goes s u n b t e x.part x.level h)).1 quiet

-- at the beginning
pub spelled_at_start : IsSpelled Ready Start no_tokens
spelled_at_start = record {
  mark = λ m f. (some f, refl);
  word = λ f. cc;
  no_word = λ f. refl;
  plain_word = refl;
  value = λ f. cc;
  plain_value = refl;
  first = none_kept;
}
  where
    some : {x y : Utf8} → Some x ≡ Some y → x ≡ y
    some k = cc
