-- The states of UTF-8 accept it, each goes on to it, and where it fails.
use Rattle.std.proofs.Common.{◌≡◌, ℕ, zero, suc, ◌+◌, ◌-◌, ◌/◌, ◌%◌, ◌≤◌, ◌<◌, Bool, true, false, ◌==◌, nat_lt, cond, List, [], ◌∷◌, ◌++◌, length, take, Option, None, Some, refl, sym, ◌∙◌, ap, subst, arith, le-ltb, lt-ltb, length-append}
use Rattle.std.proofs.lemmas.Bool.Decides.{nat_tests}
use Rattle.std.proofs.lemmas.List.{take-append-le}
use Rattle.std.proofs.Math.Seq.{take-append-add, take-length}
use Rattle.std.specs.Char.{encode_utf8, IsScalar}
use Rattle.std.specs.Str.{IsUtf8, encode_utf8_all, all_scalars}
use Rattle.ground_num.specs.FirstFault.{Begins}
use Rattle.landxml_read.specs.declared.utf8.Utf8.{Utf8}
use Rattle.landxml_read.specs.declared.utf8.Utf8.TheVariants.{Ready, One, Two, Three, AfterE0, AfterEd, AfterF0, AfterF4}
use Rattle.landxml_read.specs.Utf8.{on_between, begun_by, utf8_next, is_ready, utf8_run}
use Rattle.landxml_read.proofs.Bytes.{both}
use Rattle.landxml_read.specs.Answer.{IsLastUtf8}
use Rattle.landxml_read.proofs.Sequences.{sound}

step : (s : Utf8) (b : ℕ) (t : Utf8) (ys : List ℕ) → utf8_next s b ≡ Some t → utf8_run (Some s) (b ∷ ys) ≡ utf8_run (Some t) ys
step s b t ys e = ap (λ o. utf8_run o ys) e

-- first bytes

other : (b k : ℕ) → (b ≡ k → ⊥) → (b == k) ≡ false
other b k never = grind (arith, nat_tests)

by_one : (b : ℕ) → b < 0x80 → begun_by b ≡ Some Ready
by_one b low = rw (lt-ltb b 0x80 low) refl

by_two : (b : ℕ) → 0xC2 ≤ b → b < 0xE0 → begun_by b ≡ Some One
by_two b low high = rw (le-ltb b 0x80 (omega arith), le-ltb b 0xC2 low, lt-ltb b 0xE0 high) refl

by_three : (b : ℕ) → 0xE1 ≤ b → b < 0xF0 → (b ≡ 0xED → ⊥) → begun_by b ≡ Some Two
by_three b low high never =
    rw (le-ltb b 0x80 (omega arith), le-ltb b 0xC2 (omega arith), le-ltb b 0xE0 (omega arith), other b 0xE0 (λ e. omega arith), other b 0xED never, lt-ltb b 0xF0 high) refl

by_four : (b : ℕ) → 0xF1 ≤ b → b < 0xF4 → begun_by b ≡ Some Three
by_four b low high =
    rw (le-ltb b 0x80 (omega arith), le-ltb b 0xC2 (omega arith), le-ltb b 0xE0 (omega arith), other b 0xE0 (λ e. omega arith), other b 0xED (λ e. omega arith), le-ltb b 0xF0 (omega arith), other b 0xF0 (λ e. omega arith), lt-ltb b 0xF4 high) refl

-- the next bytes
on : (first last b : ℕ) (s : Utf8) → first < b → b < last → on_between first last b s ≡ Some s
on first last b s low high = rw (lt-ltb first b low, lt-ltb b last high) refl

tail_1 : (c : ℕ) (ys : List ℕ) → utf8_run (Some One) ((128 + c % 64) ∷ ys) ≡ utf8_run (Some Ready) ys
tail_1 c ys = step One (128 + c % 64) Ready ys (on 0x7F 0xC0 (128 + c % 64) Ready (omega arith) (omega arith))

tail_2 : (c d : ℕ) (ys : List ℕ) → utf8_run (Some Two) ((128 + d % 64) ∷ (128 + c % 64) ∷ ys) ≡ utf8_run (Some Ready) ys
tail_2 c d ys = step Two (128 + d % 64) One ((128 + c % 64) ∷ ys) (on 0x7F 0xC0 (128 + d % 64) One (omega arith) (omega arith)) ∙ tail_1 c ys

pick : (x : Bool) (G : Type 0) → (x ≡ true → G) → (x ≡ false → G) → G
pick true G first second = first refl
pick false G first second = second refl

three_run : (c : ℕ) (ys : List ℕ) → 2048 ≤ c → c < 65536 → (55296 ≤ c → 57344 ≤ c) → utf8_run (Some Ready) ((224 + c / 4096) ∷ (128 + (c / 64) % 64) ∷ (128 + c % 64) ∷ ys) ≡ utf8_run (Some Ready) ys
three_run c ys low high scalar =
    pick (224 + c / 4096 == 0xE0) _
    (λ e. let same : 224 + c / 4096 ≡ 0xE0 = grind (arith, nat_tests) in
    step Ready (224 + c / 4096) AfterE0 ((128 + (c / 64) % 64) ∷ (128 + c % 64) ∷ ys) (ap begun_by same)
    ∙ step AfterE0 (128 + (c / 64) % 64) One ((128 + c % 64) ∷ ys) (on 0x9F 0xC0 (128 + (c / 64) % 64) One (omega arith) (omega arith)) ∙ tail_1 c ys)
    (λ e. pick (224 + c / 4096 == 0xED) _
    (λ f. let same : 224 + c / 4096 ≡ 0xED = grind (arith, nat_tests) in
    step Ready (224 + c / 4096) AfterEd ((128 + (c / 64) % 64) ∷ (128 + c % 64) ∷ ys) (ap begun_by same)
    ∙ step AfterEd (128 + (c / 64) % 64) One ((128 + c % 64) ∷ ys) (on 0x7F 0xA0 (128 + (c / 64) % 64) One (omega arith) (below c low high scalar same)) ∙ tail_1 c ys)
    (λ f. let differ : (224 + c / 4096 ≡ 0xE0) → ⊥ = λ h. grind (arith, nat_tests) in
    step Ready (224 + c / 4096) Two ((128 + (c / 64) % 64) ∷ (128 + c % 64) ∷ ys) (by_three (224 + c / 4096) (lower (c / 4096) differ) (omega arith) (λ h. grind (arith, nat_tests))) ∙ tail_2 c (c / 64) ys))
  where
    lower : (q : ℕ) → (224 + q ≡ 0xE0 → ⊥) → 0xE1 ≤ 224 + q
    lower zero never = absurd (never refl)
    lower (suc q) never = omega arith

    below : (c : ℕ) → 2048 ≤ c → c < 65536 → (55296 ≤ c → 57344 ≤ c) → 224 + c / 4096 ≡ 0xED → 128 + (c / 64) % 64 < 0xA0
    below c low high scalar same =
        pick (nat_lt c 55296) _ (λ e. let less : c < 55296 = grind (arith, nat_tests) in omega arith)
        (λ e. let more : 55296 ≤ c = grind (arith, nat_tests) in let far = scalar more in absurd (omega arith))

four_run : (c : ℕ) (ys : List ℕ) → 65536 ≤ c → c < 1114112 → utf8_run (Some Ready) ((240 + c / 262144) ∷ (128 + (c / 4096) % 64) ∷ (128 + (c / 64) % 64) ∷ (128 + c % 64) ∷ ys) ≡ utf8_run (Some Ready) ys
four_run c ys low high =
    pick (240 + c / 262144 == 0xF0) _
    (λ e. let same : 240 + c / 262144 ≡ 0xF0 = grind (arith, nat_tests) in
    step Ready (240 + c / 262144) AfterF0 ((128 + (c / 4096) % 64) ∷ (128 + (c / 64) % 64) ∷ (128 + c % 64) ∷ ys) (ap begun_by same)
    ∙ step AfterF0 (128 + (c / 4096) % 64) Two ((128 + (c / 64) % 64) ∷ (128 + c % 64) ∷ ys) (on 0x8F 0xC0 (128 + (c / 4096) % 64) Two (omega arith) (omega arith)) ∙ tail_2 c (c / 64) ys)
    (λ e. pick (240 + c / 262144 == 0xF4) _
    (λ f. let same : 240 + c / 262144 ≡ 0xF4 = grind (arith, nat_tests) in
    step Ready (240 + c / 262144) AfterF4 ((128 + (c / 4096) % 64) ∷ (128 + (c / 64) % 64) ∷ (128 + c % 64) ∷ ys) (ap begun_by same)
    ∙ step AfterF4 (128 + (c / 4096) % 64) Two ((128 + (c / 64) % 64) ∷ (128 + c % 64) ∷ ys) (on 0x7F 0x90 (128 + (c / 4096) % 64) Two (omega arith) (omega arith)) ∙ tail_2 c (c / 64) ys)
    (λ f. let differ : (240 + c / 262144 ≡ 0xF0) → ⊥ = λ h. grind (arith, nat_tests) in
    let differs : (240 + c / 262144 ≡ 0xF4) → ⊥ = λ h. grind (arith, nat_tests) in
    step Ready (240 + c / 262144) Three ((128 + (c / 4096) % 64) ∷ (128 + (c / 64) % 64) ∷ (128 + c % 64) ∷ ys) (by_four (240 + c / 262144) (lower (c / 262144) differ) (upper (c / 262144) (omega arith) differs))
    ∙ step Three (128 + (c / 4096) % 64) Two ((128 + (c / 64) % 64) ∷ (128 + c % 64) ∷ ys) (on 0x7F 0xC0 (128 + (c / 4096) % 64) Two (omega arith) (omega arith)) ∙ tail_2 c (c / 64) ys))
  where
    lower : (q : ℕ) → (240 + q ≡ 0xF0 → ⊥) → 0xF1 ≤ 240 + q
    lower zero never = absurd (never refl)
    lower (suc q) never = omega arith

    upper : (q : ℕ) → q ≤ 4 → (240 + q ≡ 0xF4 → ⊥) → 240 + q < 0xF4
    upper q small never = pick (q == 4) _ (λ e. let same : q ≡ 4 = grind (arith, nat_tests) in absurd (never (omega arith))) (λ e. let less : q < 4 = grind (arith, nat_tests) in omega arith)

char_run : (c : ℕ) (ys : List ℕ) → IsScalar c → utf8_run (Some Ready) (encode_utf8 c ++ ys) ≡ utf8_run (Some Ready) ys
unfolding encode_utf8
char_run c ys scalar =
    pick (nat_lt c 128) _ (λ e. let low : c < 128 = grind (arith, nat_tests) in rw (lt-ltb c 128 low) (step Ready c Ready ys (by_one c low)))
    (λ e. pick (nat_lt c 2048) _
    (λ f. let low : 128 ≤ c = grind (arith, nat_tests) in
    let high : c < 2048 = grind (arith, nat_tests) in
    rw (le-ltb c 128 low, lt-ltb c 2048 high) (step Ready (192 + c / 64) One ((128 + c % 64) ∷ ys) (by_two (192 + c / 64) (omega arith) (omega arith)) ∙ tail_1 c ys))
    (λ f. let low : 2048 ≤ c = grind (arith, nat_tests) in
    pick (nat_lt c 65536) _
    (λ g. let high : c < 65536 = grind (arith, nat_tests) in
    rw (le-ltb c 128 (omega arith), le-ltb c 2048 low, lt-ltb c 65536 high) (three_run c ys low high (λ h. grind (arith, nat_tests))))
    (λ g. let more : 65536 ≤ c = grind (arith, nat_tests) in
    rw (le-ltb c 128 (omega arith), le-ltb c 2048 low, le-ltb c 65536 more) (four_run c ys more (grind (arith, nat_tests))))))

-- UTF-8 is taken to where no sequence is open
pub taken : (bs : List ℕ) → IsUtf8 bs → utf8_run (Some Ready) bs ≡ Some Ready
taken bs u = ap (utf8_run (Some Ready)) (sym u.1.1) ∙ all u.0 u.1.0
  where
    all : (cs : List ℕ) → all_scalars cs ≡ true → utf8_run (Some Ready) (encode_utf8_all cs) ≡ Some Ready
    all [] ok = refl
    all (c ∷ cs) ok = let h = both _ (all_scalars cs) ok in char_run c (encode_utf8_all cs) h.0 ∙ all cs h.1

-- each state goes on to UTF-8
alive : (s : Utf8) → (more : List ℕ) × (utf8_run (Some s) more ≡ Some Ready)
alive Ready = ([], refl)
alive One = (0x80 ∷ [], refl)
alive Two = (0x80 ∷ 0x80 ∷ [], refl)
alive Three = (0x80 ∷ 0x80 ∷ 0x80 ∷ [], refl)
alive AfterE0 = (0xA0 ∷ 0x80 ∷ [], refl)
alive AfterEd = (0x80 ∷ 0x80 ∷ [], refl)
alive AfterF0 = (0x90 ∷ 0x80 ∷ 0x80 ∷ [], refl)
alive AfterF4 = (0x80 ∷ 0x80 ∷ 0x80 ∷ [], refl)

run_none : (bs : List ℕ) → utf8_run None bs ≡ None
run_none [] = refl
run_none (b ∷ bs) = refl

pub utf8_run_more : (o : Option Utf8) (xs ys : List ℕ) → utf8_run o (xs ++ ys) ≡ utf8_run (utf8_run o xs) ys
utf8_run_more o [] ys = refl
utf8_run_more None (x ∷ xs) ys = sym (run_none ys)
utf8_run_more (Some s) (x ∷ xs) ys = utf8_run_more (utf8_next s x) xs ys

-- the bytes that the states have taken begin UTF-8
pub utf8_begun : (xs : List ℕ) (s : Utf8) → utf8_run (Some Ready) xs ≡ Some s → Begins IsUtf8 xs
utf8_begun xs s e = let a = alive s in (a.0, sound (xs ++ a.0) (utf8_run_more (Some Ready) xs a.0 ∙ ap (λ o. utf8_run o a.0) e ∙ a.1))

-- with a byte that the state doesn't take, no UTF-8 begins so
pub not_utf8 : (xs : List ℕ) (s : Utf8) (b : ℕ) (more : List ℕ) → utf8_run (Some Ready) xs ≡ Some s → utf8_next s b ≡ None → IsUtf8 (xs ++ b ∷ more) → ⊥
not_utf8 xs s b more e none u =
    let stuck = sym (taken (xs ++ b ∷ more) u) ∙ utf8_run_more (Some Ready) xs (b ∷ more) ∙ ap (λ o. utf8_run o (b ∷ more)) e ∙ ap (λ o. utf8_run o more) none ∙ run_none more in
    cc

-- inside a sequence the bytes are not UTF-8
pub not_ready : (xs : List ℕ) (s : Utf8) → utf8_run (Some Ready) xs ≡ Some s → is_ready s ≡ false → ¬ (IsUtf8 xs)
not_ready xs s e busy u = let same : s ≡ Ready = cc (sym (taken xs u) ∙ e) in let P = ap is_ready same in cc

-- where no sequence is open
pub ready : (t : Utf8) → is_ready t ≡ true → t ≡ Ready
ready Ready r = refl
ready One r = cc
ready Two r = cc
ready Three r = cc
ready AfterE0 r = cc
ready AfterEd r = cc
ready AfterF0 r = cc
ready AfterF4 r = cc

-- where the open sequence begins, or the end of what was taken where none is open
pub sequence_on : (seen : List ℕ) (s t : Utf8) (b n : ℕ) → utf8_run (Some Ready) seen ≡ Some s → utf8_next s b ≡ Some t → IsLastUtf8 seen n → n ≤ length seen → IsLastUtf8 (seen ++ b ∷ []) (cond (is_ready t) (length seen + 1) n)
sequence_on seen s t b n e f is within = by (is_ready t) refl
  where
    len : length (seen ++ b ∷ []) ≡ length seen + 1
    len = length-append seen (b ∷ [])

    all : utf8_run (Some Ready) (seen ++ b ∷ []) ≡ Some t
    all = utf8_run_more (Some Ready) seen (b ∷ []) ∙ ap (λ o. utf8_run o (b ∷ [])) e ∙ f

    longer : is_ready t ≡ false → (m : ℕ) → n < m → m ≤ length (seen ++ b ∷ []) → ¬ (IsUtf8 (take m (seen ++ b ∷ [])))
    longer r m more fits u =
        pick (nat_lt (length seen) m) ⊥
        (λ h. let past : length seen < m = grind (arith, nat_tests) in let full : m ≡ length (seen ++ b ∷ []) = omega (arith, length-append seen (b ∷ [])) in
        let Q : List ℕ → Type 0 = IsUtf8 in not_ready (seen ++ b ∷ []) t all r (subst Q (ap (λ i. take i (seen ++ b ∷ [])) full ∙ take-length (seen ++ b ∷ [])) u))
        (λ h. let short : m ≤ length seen = grind (arith, nat_tests) in let Q : List ℕ → Type 0 = IsUtf8 in is.last m more short (subst Q (take-append-le m seen (b ∷ []) short) u))

    by : (r : Bool) → is_ready t ≡ r → IsLastUtf8 (seen ++ b ∷ []) (cond r (length seen + 1) n)
    by true r =
        let Q : List ℕ → Type 0 = IsUtf8 in record {
          is = subst Q (sym (ap (λ i. take i (seen ++ b ∷ [])) (sym len) ∙ take-length (seen ++ b ∷ []))) (sound (seen ++ b ∷ []) (all ∙ ap Some (ready t r)));
          last = λ m more fits. absurd (omega (arith, length-append seen (b ∷ [])));
        }
    by false r = let Q : List ℕ → Type 0 = IsUtf8 in record { is = subst Q (sym (take-append-le n seen (b ∷ []) within)) is.is; last = longer r }

-- where the state doesn't take a byte, UTF-8 ends with what was whole before
pub sequence_fails : (seen : List ℕ) (s : Utf8) (b n : ℕ) (more : List ℕ) → utf8_run (Some Ready) seen ≡ Some s → utf8_next s b ≡ None → IsLastUtf8 seen n → n ≤ length seen → IsLastUtf8 (seen ++ b ∷ more) n
sequence_fails seen s b n more e none is within =
    let Q : List ℕ → Type 0 = IsUtf8 in record {
      is = subst Q (sym (take-append-le n seen (b ∷ more) within)) is.is;
      last = λ m longer fits u. pick (nat_lt (length seen) m) ⊥
          (λ h. let past : length seen < m = grind (arith, nat_tests) in
          let split : take m (seen ++ b ∷ more) ≡ seen ++ b ∷ take (m - length seen - 1) more = ap (λ i. take i (seen ++ b ∷ more)) (sum past) ∙ take-append-add seen (b ∷ more) (suc (m - length seen - 1)) in
          not_utf8 seen s b (take (m - length seen - 1) more) e none (subst Q split u))
          (λ h. let short : m ≤ length seen = grind (arith, nat_tests) in is.last m longer short (subst Q (take-append-le m seen (b ∷ more) short) u));
    }
  where
    sum : {m : ℕ} → length seen < m → m ≡ length seen + suc (m - length seen - 1)
    sum past = omega arith
