-- A reading passes comments, processing instructions and CDATA.
use Rattle.std.proofs.Common.{◌≡◌, ℕ, ◌+◌, Bool, true, false, ◌==◌, ◌&&◌, cond, List, [], ◌∷◌, ◌++◌, length, codes, bytes_eq, take, Option, Some, refl, sym, ◌∙◌, ap, arith, eqb-true}
use Rattle.landxml_read.specs.Markup.{is_free, is_up_to}
use Rattle.landxml_read.specs.declared.level.Level.{Level}
use Rattle.landxml_read.specs.declared.scan.Part.TheVariants.{Text, In}
use Rattle.landxml_read.specs.declared.skipped.Skipped.{Skipped}
use Rattle.landxml_read.specs.declared.skipped.Skipped.TheVariants.{Comment, CommentDash, CommentDashes, Instruction, InstructionMark, CData, CDataBracket, CDataBrackets}
use Rattle.landxml_read.specs.declared.tokens.Tokens.{Tokens}
use Rattle.landxml_read.specs.Events.{Event}
use Rattle.landxml_read.specs.Scan.{at, skipping, skipped_next}
use Rattle.landxml_read.specs.Tokens.{Reading, reads}
use Rattle.landxml_read.proofs.Bytes.{both, clash, flip_true}
use Rattle.landxml_read.proofs.Closing.{twice}
use Rattle.landxml_read.proofs.Running.{scan, reading, if_true, if_false, goes}

-- what is skipped up to a byte twice and >
record Twice (L : Level) (x : ℕ) (none one two : Skipped) : Type 0 where
  first : (b : ℕ) → skipped_next L none b ≡ cond (b == x) (at L (In one)) (skipping L none b)
  second : (b : ℕ) → skipped_next L one b ≡ cond (b == x) (at L (In two)) (skipping L none b)
  third : (b : ℕ) → skipped_next L two b ≡ cond (b == 62) (at L Text) (cond (b == x) (at L (In two)) (skipping L none b))
  itself : (x == x) ≡ true
  apart : (x == 62) ≡ false

up_after : (end : List ℕ) (y : ℕ) (ys : List ℕ) → is_up_to end (y ∷ ys) ≡ true → is_up_to end ys ≡ true
up_after end y ys up = (both _ _ up).1

up_free : (end : List ℕ) (y : ℕ) (ys : List ℕ) → is_up_to end (y ∷ ys) ≡ true → is_free y ≡ true
up_free end y ys up = (both _ _ (both _ _ up).0).1

-- the reading in something that is skipped
abbrev within : Level → Tokens → List Event → Skipped → ℕ → Reading
within L t told part n = reading (In part) L n t told

-- a byte in it
on_in : (L : Level) (t : Tokens) (told : List Event) (part to : Skipped) (n b : ℕ) (bs : List ℕ) (o : Option Reading) → skipped_next L part b ≡ at L (In to) → reads (Some (within L t told to (n + 1))) bs ≡ o
    → reads (Some (within L t told part n)) (b ∷ bs) ≡ o
on_in L t told part to n b bs o e h = goes (within L t told part n) b (scan (In to) L) bs o e h

-- the byte that ends it
out_of : (L : Level) (t : Tokens) (told : List Event) (part : Skipped) (n : ℕ) → skipped_next L part 62 ≡ at L Text → reads (Some (within L t told part n)) (62 ∷ []) ≡ Some (reading Text L (n + 1) t told)
out_of L t told part n e = goes (within L t told part n) 62 (scan Text L) [] _ e refl

record Skips (L : Level) (t : Tokens) (told : List Event) (x : ℕ) (none one two : Skipped) (bytes : List ℕ) (n : ℕ) : Type 0 where
  first : (m : ℕ) → m ≡ n + length bytes + 3 → is_up_to (twice x) bytes ≡ true → reads (Some (within L t told none n)) (bytes ++ twice x) ≡ Some (reading Text L m t told)
  second : (m : ℕ) → m ≡ n + length bytes + 3 → is_up_to (twice x) (x ∷ bytes) ≡ true → reads (Some (within L t told one n)) (bytes ++ twice x) ≡ Some (reading Text L m t told)
  third : (m : ℕ) → m ≡ n + length bytes + 3 → is_up_to (twice x) (x ∷ x ∷ bytes) ≡ true → reads (Some (within L t told two n)) (bytes ++ twice x) ≡ Some (reading Text L m t told)

skips : (L : Level) (t : Tokens) (told : List Event) (x : ℕ) (none one two : Skipped) → Twice L x none one two → (bytes : List ℕ) (n : ℕ) → Skips L t told x none one two bytes n
skips L t told x none one two w [] n =
    let up = w.first x ∙ if_true (x == x) _ _ w.itself in
    let on = w.second x ∙ if_true (x == x) _ _ w.itself in
    let again = w.third x ∙ if_false (x == 62) _ _ w.apart ∙ if_true (x == x) _ _ w.itself in
    let out : (m : ℕ) → m ≡ n + 0 + 3 → reads (Some (within L t told two (n + 1 + 1))) (62 ∷ []) ≡ Some (reading Text L m t told) =
    λ m e. out_of L t told two (n + 1 + 1) (w.third 62) ∙ (let g : n + 1 + 1 + 1 ≡ m = omega arith in λ i. Some (reading Text L (g i) t told)) in
    record {
      first = λ m e _. on_in L t told none one n x (x ∷ 62 ∷ []) _ up (on_in L t told one two (n + 1) x (62 ∷ []) _ on (out m e));
      second = λ m e _. on_in L t told one two n x (x ∷ 62 ∷ []) _ on (on_in L t told two two (n + 1) x (62 ∷ []) _ again (out m e));
      third = λ m e _. on_in L t told two two n x (x ∷ 62 ∷ []) _ again (on_in L t told two two (n + 1) x (62 ∷ []) _ again (out m e));
    }
skips L t told x none one two w (b ∷ bs) n = by (skips L t told x none one two w bs (n + 1)) (b == x) refl (b == 62) refl
  where
    less : (m : ℕ) → m ≡ n + length (b ∷ bs) + 3 → m ≡ n + 1 + length bs + 3
    less m e = omega arith

    renamed : (front : List ℕ) → b ≡ x → is_up_to (twice x) (front ++ b ∷ bs) ≡ true → is_up_to (twice x) (front ++ x ∷ bs) ≡ true
    renamed front e up = ap (λ y. is_up_to (twice x) (front ++ y ∷ bs)) (sym e) ∙ up

    ended : is_up_to (twice x) (x ∷ x ∷ b ∷ bs) ≡ true → (b == 62) ≡ true → ⊥
    ended up e =
        let there : bytes_eq (take 3 (x ∷ x ∷ b ∷ bs ++ twice x)) (twice x) ≡ true =
        ap (λ u. u && (u && (b == 62 && bytes_eq (take 0 (bs ++ twice x)) []))) w.itself ∙ ap (λ u. u && bytes_eq (take 0 (bs ++ twice x)) []) e in
        clash _ there (flip_true _ (both _ _ (both _ _ up).0).0)

    other : is_up_to (twice x) (x ∷ x ∷ b ∷ bs) ≡ true → (d : Bool) → (b == 62) ≡ d → (b == 62) ≡ false
    other up true f = absurd (ended up f)
    other up false f = f

    by : Skips L t told x none one two bs (n + 1) → (c : Bool) → (b == x) ≡ c → (d : Bool) → (b == 62) ≡ d → Skips L t told x none one two (b ∷ bs) n
    by s true e d f =
        let same = eqb-true b x e in
        record {
          first = λ m g up. on_in L t told none one n b (bs ++ twice x) _ (w.first b ∙ if_true (b == x) _ _ e) (s.second m (less m g) (renamed [] same up));
          second = λ m g up. on_in L t told one two n b (bs ++ twice x) _ (w.second b ∙ if_true (b == x) _ _ e) (s.third m (less m g) (renamed (x ∷ []) same up));
          third = λ m g up.
              on_in L t told two two n b (bs ++ twice x) _ (w.third b ∙ if_false (b == 62) _ _ (ap (λ y. y == 62) same ∙ w.apart) ∙ if_true (b == x) _ _ e)
              (s.third m (less m g) (renamed (x ∷ []) same (up_after (twice x) x (x ∷ b ∷ bs) up)));
        }
    by s false e d f = record {
      first = λ m g up. on_in L t told none none n b (bs ++ twice x) _ (w.first b ∙ if_false (b == x) _ _ e ∙ if_true (is_free b) _ _ (up_free (twice x) b bs up)) (s.first m (less m g) (up_after (twice x) b bs up));
      second = λ m g up.
          let inner = up_after (twice x) x (b ∷ bs) up in
          on_in L t told one none n b (bs ++ twice x) _ (w.second b ∙ if_false (b == x) _ _ e ∙ if_true (is_free b) _ _ (up_free (twice x) b bs inner)) (s.first m (less m g) (up_after (twice x) b bs inner));
      third = λ m g up.
          let inner = up_after (twice x) x (b ∷ bs) (up_after (twice x) x (x ∷ b ∷ bs) up) in
          on_in L t told two none n b (bs ++ twice x) _ (w.third b ∙ if_false (b == 62) _ _ (other up d f) ∙ if_false (b == x) _ _ e ∙ if_true (is_free b) _ _ (up_free (twice x) b bs inner))
          (s.first m (less m g) (up_after (twice x) b bs inner));
    }

-- from its first byte to its end
pub comment_read : (L : Level) (t : Tokens) (told : List Event) (bytes : List ℕ) (n m : ℕ) → m ≡ n + length bytes + 3 → is_up_to (codes "-->") bytes ≡ true → reads (Some (reading (In Comment) L n t told)) (bytes ++ codes "-->") ≡ Some (reading Text L m t told)
comment_read L t told bytes n m e up =
    let w : Twice L 45 Comment CommentDash CommentDashes = record { first = λ b. refl; second = λ b. refl; third = λ b. refl; itself = refl; apart = refl } in
    (skips L t told 45 Comment CommentDash CommentDashes w bytes n).first m e up

pub cdata_read : (L : Level) (t : Tokens) (told : List Event) (bytes : List ℕ) (n m : ℕ) → m ≡ n + length bytes + 3 → is_up_to (codes "]]>") bytes ≡ true → reads (Some (reading (In CData) L n t told)) (bytes ++ codes "]]>") ≡ Some (reading Text L m t told)
cdata_read L t told bytes n m e up =
    let w : Twice L 93 CData CDataBracket CDataBrackets = record { first = λ b. refl; second = λ b. refl; third = λ b. refl; itself = refl; apart = refl } in
    (skips L t told 93 CData CDataBracket CDataBrackets w bytes n).first m e up

record SkipsMark (L : Level) (t : Tokens) (told : List Event) (bytes : List ℕ) (n : ℕ) : Type 0 where
  first : (m : ℕ) → m ≡ n + length bytes + 2 → is_up_to (codes "?>") bytes ≡ true → reads (Some (within L t told Instruction n)) (bytes ++ codes "?>") ≡ Some (reading Text L m t told)
  second : (m : ℕ) → m ≡ n + length bytes + 2 → is_up_to (codes "?>") (63 ∷ bytes) ≡ true → reads (Some (within L t told InstructionMark n)) (bytes ++ codes "?>") ≡ Some (reading Text L m t told)

skips_mark : (L : Level) (t : Tokens) (told : List Event) (bytes : List ℕ) (n : ℕ) → SkipsMark L t told bytes n
skips_mark L t told [] n =
    let out : (m : ℕ) → m ≡ n + 0 + 2 → reads (Some (within L t told InstructionMark (n + 1))) (62 ∷ []) ≡ Some (reading Text L m t told) =
    λ m e. out_of L t told InstructionMark (n + 1) refl ∙ (let g : n + 1 + 1 ≡ m = omega arith in λ i. Some (reading Text L (g i) t told)) in
    record {
      first = λ m e _. on_in L t told Instruction InstructionMark n 63 (62 ∷ []) _ refl (out m e);
      second = λ m e _. on_in L t told InstructionMark InstructionMark n 63 (62 ∷ []) _ refl (out m e);
    }
skips_mark L t told (b ∷ bs) n = by (skips_mark L t told bs (n + 1)) (b == 63) refl (b == 62) refl
  where
    less : (m : ℕ) → m ≡ n + length (b ∷ bs) + 2 → m ≡ n + 1 + length bs + 2
    less m e = omega arith

    by : SkipsMark L t told bs (n + 1) → (c : Bool) → (b == 63) ≡ c → (d : Bool) → (b == 62) ≡ d → SkipsMark L t told (b ∷ bs) n
    by s true e d f =
        let same = eqb-true b 63 e in
        record {
          first = λ m g up. on_in L t told Instruction InstructionMark n b (bs ++ codes "?>") _ (if_true (b == 63) _ _ e) (s.second m (less m g) (ap (λ y. is_up_to (codes "?>") (y ∷ bs)) (sym same) ∙ up));
          second = λ m g up.
              on_in L t told InstructionMark InstructionMark n b (bs ++ codes "?>") _ (if_false (b == 62) _ _ (ap (λ y. y == 62) same) ∙ if_true (b == 63) _ _ e)
              (s.second m (less m g) (ap (λ y. is_up_to (codes "?>") (y ∷ bs)) (sym same) ∙ (both _ _ up).1));
        }
    by s false e d f = record {
      first = λ m g up.
          on_in L t told Instruction Instruction n b (bs ++ codes "?>") _ (if_false (b == 63) _ _ e ∙ if_true (is_free b) _ _ (both _ _ (both _ _ up).0).1) (s.first m (less m g) (both _ _ up).1);
      second = λ m g up.
          let inner = (both _ _ up).1 in
          on_in L t told InstructionMark Instruction n b (bs ++ codes "?>") _ (if_false (b == 62) _ _ (other up d f) ∙ if_false (b == 63) _ _ e ∙ if_true (is_free b) _ _ (both _ _ (both _ _ inner).0).1)
          (s.first m (less m g) (both _ _ inner).1);
    }
      where
        other : is_up_to (codes "?>") (63 ∷ b ∷ bs) ≡ true → (d : Bool) → (b == 62) ≡ d → (b == 62) ≡ false
        other up false f = f
        other up true f =
            let there : bytes_eq (take 2 (63 ∷ b ∷ bs ++ codes "?>")) (codes "?>") ≡ true = ap (λ u. u && bytes_eq (take 0 (bs ++ codes "?>")) []) f in
            absurd (clash _ there (flip_true _ (both _ _ (both _ _ up).0).0))

pub instruction_read : (L : Level) (t : Tokens) (told : List Event) (bytes : List ℕ) (n m : ℕ) → m ≡ n + length bytes + 2 → is_up_to (codes "?>") bytes ≡ true → reads (Some (reading (In Instruction) L n t told)) (bytes ++ codes "?>") ≡ Some (reading Text L m t told)
instruction_read L t told bytes n m e up = (skips_mark L t told bytes n).first m e up
