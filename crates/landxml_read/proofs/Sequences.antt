-- What the states of UTF-8 accept is UTF-8.
use Rattle.std.proofs.Common.{◌≡◌, ℕ, zero, suc, ◌+◌, ◌-◌, ◌*◌, ◌/◌, ◌%◌, ◌≤◌, ◌<◌, Bool, true, false, ◌==◌, nat_lt, cond, List, [], ◌∷◌, Option, None, Some, refl, sym, subst, arith, le-ltb, lt-ltb, eqb-true}
use Rattle.std.proofs.lemmas.Bool.Decides.{nat_tests}
use Rattle.std.proofs.lemmas.Str.{IsUtf8-append, IsUtf8-encode, IsUtf8-nil}
use Rattle.std.specs.Char.{encode_utf8, IsScalar}
use Rattle.std.specs.Str.{IsUtf8}
use Rattle.landxml_read.specs.declared.utf8.Utf8.{Utf8}
use Rattle.landxml_read.specs.declared.utf8.Utf8.TheVariants.{Ready, One, Two, Three, AfterE0, AfterEd, AfterF0, AfterF4}
use Rattle.landxml_read.specs.Utf8.{is_between, on_between, begun_by, utf8_next, utf8_run}
use Rattle.landxml_read.proofs.Bytes.{both}

-- characters of one to four bytes

one_coded : (b : ℕ) → b < 0x80 → IsScalar b × (encode_utf8 b ≡ b ∷ [])
unfolding encode_utf8
one_coded b low = (grind (arith, nat_tests), rw (lt-ltb b 128 low))

two_coded : (b c : ℕ) → 0xC2 ≤ b → b < 0xE0 → 0x80 ≤ c → c < 0xC0 → IsScalar ((b - 0xC0) * 64 + (c - 0x80)) × (encode_utf8 ((b - 0xC0) * 64 + (c - 0x80)) ≡ b ∷ c ∷ [])
unfolding encode_utf8
two_coded b c low high from to =
    let x = (b - 0xC0) * 64 + (c - 0x80) in
    let first : 192 + x / 64 ≡ b = omega arith in
    let last : 128 + x % 64 ≡ c = omega arith in
    (grind (arith, nat_tests), rw (le-ltb x 128 (omega arith), lt-ltb x 2048 (omega arith), first, last))

three_coded : (b c d : ℕ) → 0xE0 ≤ b → b < 0xF0 → 0x80 ≤ c → c < 0xC0 → (b ≡ 0xE0 → 0xA0 ≤ c) → (b ≡ 0xED → c < 0xA0) → 0x80 ≤ d → d < 0xC0
    → IsScalar (((b - 0xE0) * 64 + (c - 0x80)) * 64 + (d - 0x80)) × (encode_utf8 (((b - 0xE0) * 64 + (c - 0x80)) * 64 + (d - 0x80)) ≡ b ∷ c ∷ d ∷ [])
unfolding encode_utf8
three_coded b c d low high from to narrow surrogates low_d high_d =
    let x = ((b - 0xE0) * 64 + (c - 0x80)) * 64 + (d - 0x80) in
    let bounds : (2048 ≤ x) × (x < 65536) × (55296 ≤ x → 57344 ≤ x) = (grind arith, omega arith, λ h. grind arith) in
    let first : 224 + x / 4096 ≡ b = omega arith in
    let middle : 128 + (x / 64) % 64 ≡ c = omega arith in
    let last : 128 + x % 64 ≡ d = omega arith in
    (grind (arith, nat_tests), rw (le-ltb x 128 (omega arith), le-ltb x 2048 (omega arith), lt-ltb x 65536 (omega arith), first, middle, last))

four_coded : (b c d e : ℕ) → 0xF0 ≤ b → b ≤ 0xF4 → 0x80 ≤ c → c < 0xC0 → (b ≡ 0xF0 → 0x90 ≤ c) → (b ≡ 0xF4 → c < 0x90) → 0x80 ≤ d → d < 0xC0 → 0x80 ≤ e → e < 0xC0
    → IsScalar ((((b - 0xF0) * 64 + (c - 0x80)) * 64 + (d - 0x80)) * 64 + (e - 0x80)) × (encode_utf8 ((((b - 0xF0) * 64 + (c - 0x80)) * 64 + (d - 0x80)) * 64 + (e - 0x80)) ≡ b ∷ c ∷ d ∷ e ∷ [])
unfolding encode_utf8
four_coded b c d e low high from to narrow above low_d high_d low_e high_e =
    let x = (((b - 0xF0) * 64 + (c - 0x80)) * 64 + (d - 0x80)) * 64 + (e - 0x80) in
    let bounds : (65536 ≤ x) × (x < 1114112) = (grind arith, grind arith) in
    let first : 240 + x / 262144 ≡ b = omega arith in
    let next : 128 + (x / 4096) % 64 ≡ c = omega arith in
    let middle : 128 + (x / 64) % 64 ≡ d = omega arith in
    let last : 128 + x % 64 ≡ e = omega arith in
    (grind (arith, nat_tests), rw (le-ltb x 128 (omega arith), le-ltb x 2048 (omega arith), le-ltb x 65536 (omega arith), first, next, middle, last))

coded : (x : ℕ) (text : List ℕ) → IsScalar x × (encode_utf8 x ≡ text) → IsUtf8 text
coded x text h = let P : List ℕ → Type 0 = IsUtf8 in subst P h.1 (IsUtf8-encode x h.0)

encode_1 : (b : ℕ) → b < 0x80 → IsUtf8 (b ∷ [])
encode_1 b low = coded b (b ∷ []) (one_coded b low)

encode_2 : (b c : ℕ) → 0xC2 ≤ b → b < 0xE0 → 0x80 ≤ c → c < 0xC0 → IsUtf8 (b ∷ c ∷ [])
encode_2 b c low high from to = coded _ (b ∷ c ∷ []) (two_coded b c low high from to)

encode_3 : (b c d : ℕ) → 0xE0 ≤ b → b < 0xF0 → 0x80 ≤ c → c < 0xC0 → (b ≡ 0xE0 → 0xA0 ≤ c) → (b ≡ 0xED → c < 0xA0) → 0x80 ≤ d → d < 0xC0 → IsUtf8 (b ∷ c ∷ d ∷ [])
encode_3 b c d low high from to narrow surrogates low_d high_d = coded _ (b ∷ c ∷ d ∷ []) (three_coded b c d low high from to narrow surrogates low_d high_d)

encode_4 : (b c d e : ℕ) → 0xF0 ≤ b → b ≤ 0xF4 → 0x80 ≤ c → c < 0xC0 → (b ≡ 0xF0 → 0x90 ≤ c) → (b ≡ 0xF4 → c < 0x90) → 0x80 ≤ d → d < 0xC0 → 0x80 ≤ e → e < 0xC0 → IsUtf8 (b ∷ c ∷ d ∷ e ∷ [])
encode_4 b c d e low high from to narrow above low_d high_d low_e high_e = coded _ (b ∷ c ∷ d ∷ e ∷ []) (four_coded b c d e low high from to narrow above low_d high_d low_e high_e)

-- what may follow

-- a byte between two, and then an R
record Narrow (first last : ℕ) (R : List ℕ → Type 0) (ys : List ℕ) : Type 0 where
  byte : ℕ
  is : is_between first last byte ≡ true
  rest : List ℕ
  after : R rest
  text : ys ≡ byte ∷ rest

-- so many bytes that continue a sequence, and then UTF-8
abbrev Tail : ℕ → List ℕ → Type 0
Tail zero ys = IsUtf8 ys
Tail (suc n) ys = Narrow 0x7F 0xC0 (Tail n) ys

abbrev Accepts : Utf8 → List ℕ → Type 0
Accepts Ready ys = IsUtf8 ys
Accepts One ys = Tail 1 ys
Accepts Two ys = Tail 2 ys
Accepts Three ys = Tail 3 ys
Accepts AfterE0 ys = Narrow 0x9F 0xC0 (Tail 1) ys
Accepts AfterEd ys = Narrow 0x7F 0xA0 (Tail 1) ys
Accepts AfterF0 ys = Narrow 0x8F 0xC0 (Tail 2) ys
Accepts AfterF4 ys = Narrow 0x7F 0x90 (Tail 2) ys

abbrev Continues : Option Utf8 → List ℕ → Type 0
Continues None ys = ⊥
Continues (Some s) ys = Accepts s ys

by_test : (x : Bool) (o u : Option Utf8) (ys : List ℕ) (G : Type 0) → (x ≡ true → Continues o ys → G) → (x ≡ false → Continues u ys → G) → Continues (cond x o u) ys → G
by_test true o u ys G first second c = first refl c
by_test false o u ys G first second c = second refl c

between : (first last b : ℕ) → is_between first last b ≡ true → (first < b) × (b < last)
between first last b e = let p = both (nat_lt first b) (nat_lt b last) e in (grind (arith, nat_tests, p.0), grind (arith, nat_tests, p.1))

-- a sequence at the front
front_2 : (b : ℕ) (ys : List ℕ) → 0xC2 ≤ b → b < 0xE0 → Tail 1 ys → IsUtf8 (b ∷ ys)
front_2 b ys low high n =
    let P : List ℕ → Type 0 = λ w. IsUtf8 (b ∷ w) in
    let c = between 0x7F 0xC0 n.byte n.is in
    subst P (sym n.text) (IsUtf8-append (b ∷ n.byte ∷ []) n.rest (encode_2 b n.byte low high (omega arith) (omega arith)) n.after)

front_3 : (b first last : ℕ) (ys : List ℕ) → 0xE0 ≤ b → b < 0xF0 → 0x7F ≤ first → last ≤ 0xC0 → (b ≡ 0xE0 → first ≡ 0x9F) → (b ≡ 0xED → last ≡ 0xA0) → Narrow first last (Tail 1) ys → IsUtf8 (b ∷ ys)
front_3 b first last ys low high from to narrow surrogates n =
    let P : List ℕ → Type 0 = λ w. IsUtf8 (b ∷ w) in
    let Q : List ℕ → Type 0 = λ w. IsUtf8 (b ∷ n.byte ∷ w) in
    let m = n.after in
    let c = between first last n.byte n.is in
    let d = between 0x7F 0xC0 m.byte m.is in
    subst P (sym n.text) (subst Q (sym m.text) (IsUtf8-append (b ∷ n.byte ∷ m.byte ∷ []) m.rest
    (encode_3 b n.byte m.byte low high (omega arith) (omega arith) (λ e. let f = narrow e in omega arith) (λ e. let f = surrogates e in omega arith) (omega arith) (omega arith)) m.after))

front_4 : (b first last : ℕ) (ys : List ℕ) → 0xF0 ≤ b → b ≤ 0xF4 → 0x7F ≤ first → last ≤ 0xC0 → (b ≡ 0xF0 → first ≡ 0x8F) → (b ≡ 0xF4 → last ≡ 0x90) → Narrow first last (Tail 2) ys → IsUtf8 (b ∷ ys)
front_4 b first last ys low high from to narrow above n =
    let P : List ℕ → Type 0 = λ w. IsUtf8 (b ∷ w) in
    let Q : List ℕ → Type 0 = λ w. IsUtf8 (b ∷ n.byte ∷ w) in
    let m = n.after in
    let R : List ℕ → Type 0 = λ w. IsUtf8 (b ∷ n.byte ∷ m.byte ∷ w) in
    let k = m.after in
    let c = between first last n.byte n.is in
    let d = between 0x7F 0xC0 m.byte m.is in
    let e = between 0x7F 0xC0 k.byte k.is in
    subst P (sym n.text) (subst Q (sym m.text) (subst R (sym k.text) (IsUtf8-append (b ∷ n.byte ∷ m.byte ∷ k.byte ∷ []) k.rest
    (encode_4 b n.byte m.byte k.byte low high (omega arith) (omega arith) (λ h. let f = narrow h in omega arith) (λ h. let f = above h in omega arith) (omega arith) (omega arith) (omega arith) (omega arith)) k.after)))

begun_back : (b : ℕ) (ys : List ℕ) → Continues (begun_by b) ys → IsUtf8 (b ∷ ys)
begun_back b ys c =
    let G : Type 0 = IsUtf8 (b ∷ ys) in
    by_test (nat_lt b 0x80) (Some Ready) _ ys G (λ e a. IsUtf8-append (b ∷ []) ys (encode_1 b (grind (arith, nat_tests))) a)
    (λ e1 c. by_test (nat_lt b 0xC2) None _ ys G (λ e n. absurd n)
    (λ e2 c. by_test (nat_lt b 0xE0) (Some One) _ ys G (λ e a. front_2 b ys (grind (arith, nat_tests)) (grind (arith, nat_tests)) a)
    (λ e3 c. by_test (b == 0xE0) (Some AfterE0) _ ys G (λ e a. let same = eqb-true b 0xE0 e in front_3 b 0x9F 0xC0 ys (omega arith) (omega arith) (omega arith) (omega arith) (λ _. refl) (λ h. absurd (omega arith)) a)
    (λ e4 c. by_test (b == 0xED) (Some AfterEd) _ ys G (λ e a. let same = eqb-true b 0xED e in front_3 b 0x7F 0xA0 ys (omega arith) (omega arith) (omega arith) (omega arith) (λ h. absurd (omega arith)) (λ _. refl) a)
    (λ e5 c. by_test (nat_lt b 0xF0) (Some Two) _ ys G (λ e a. front_3 b 0x7F 0xC0 ys (grind (arith, nat_tests)) (grind (arith, nat_tests)) (omega arith) (omega arith) (λ h. absurd (never b 0xE0 h e4)) (λ h. absurd (never b 0xED h e5)) a)
    (λ e6 c. by_test (b == 0xF0) (Some AfterF0) _ ys G (λ e a. let same = eqb-true b 0xF0 e in front_4 b 0x8F 0xC0 ys (omega arith) (omega arith) (omega arith) (omega arith) (λ _. refl) (λ h. absurd (omega arith)) a)
    (λ e7 c. by_test (nat_lt b 0xF4) (Some Three) _ ys G (λ e a. front_4 b 0x7F 0xC0 ys (grind (arith, nat_tests)) (let less : b < 0xF4 = grind (arith, nat_tests) in omega arith) (omega arith) (omega arith) (λ h. absurd (never b 0xF0 h e7)) (λ h. let less : b < 0xF4 = grind (arith, nat_tests) in absurd (omega arith)) a)
    (λ e8 c. by_test (b == 0xF4) (Some AfterF4) None ys G (λ e a. let same = eqb-true b 0xF4 e in front_4 b 0x7F 0x90 ys (omega arith) (omega arith) (omega arith) (omega arith) (λ h. absurd (omega arith)) (λ _. refl) a) (λ e n. absurd n) c) c) c) c) c) c) c) c) c
  where
    never : (b k : ℕ) → b ≡ k → (b == k) ≡ false → ⊥
    never b k h e = let t : (b == k) ≡ true = grind (arith, nat_tests) in cc

on_back : (first last b : ℕ) (s : Utf8) (ys : List ℕ) → Continues (on_between first last b s) ys → Narrow first last (Accepts s) (b ∷ ys)
on_back first last b s ys c =
    by_test (is_between first last b) (Some s) None ys (Narrow first last (Accepts s) (b ∷ ys)) (λ e a. record { byte = b; is = e; rest = ys; after = a; text = refl }) (λ e n. absurd n) c

back : (s : Utf8) (b : ℕ) (ys : List ℕ) → Continues (utf8_next s b) ys → Accepts s (b ∷ ys)
back Ready b ys c = begun_back b ys c
back One b ys c = on_back 0x7F 0xC0 b Ready ys c
back Two b ys c = on_back 0x7F 0xC0 b One ys c
back Three b ys c = on_back 0x7F 0xC0 b Two ys c
back AfterE0 b ys c = on_back 0x9F 0xC0 b One ys c
back AfterEd b ys c = on_back 0x7F 0xA0 b One ys c
back AfterF0 b ys c = on_back 0x8F 0xC0 b Two ys c
back AfterF4 b ys c = on_back 0x7F 0x90 b Two ys c

-- what the states accept may follow
accepts : (ys : List ℕ) (s : Utf8) → utf8_run (Some s) ys ≡ Some Ready → Accepts s ys
accepts [] s e = let same : s ≡ Ready = cc in let P : Utf8 → Type 0 = λ t. Accepts t [] in subst P (sym same) IsUtf8-nil
accepts (b ∷ ys) s e = back s b ys (go (utf8_next s b) (accepts ys) e)
  where
    dead : (ys : List ℕ) → utf8_run None ys ≡ Some Ready → ⊥
    dead [] h = cc
    dead (y ∷ ys) h = cc

    go : (o : Option Utf8) → ((t : Utf8) → utf8_run (Some t) ys ≡ Some Ready → Accepts t ys) → utf8_run o ys ≡ Some Ready → Continues o ys
    go None again h = dead ys h
    go (Some t) again h = again t h

-- what the states take from the beginning to where no sequence is open is UTF-8
pub sound : (ys : List ℕ) → utf8_run (Some Ready) ys ≡ Some Ready → IsUtf8 ys
sound ys e = accepts ys Ready e
