-- The text of a reply: a table with a row for each reply and a row for each refusal.
use Rattle.std.specs.Prelude.{ℕ, ◌≤◌, ◌^◌, ℤ, ◌+ℤ◌, unsigned_abs, List, [], ◌∷◌, ◌++◌, length, codes, Option, Some, None, Result, MatchResult, ◌≡◌, ⊤}
use Rattle.std.specs.List.{flat_map}
use Rattle.std.specs.Io.KnownBytes.{Appends}
use Rattle.ground_io.specs.Order.{Event, SendsAll, SendsSome}
use Rattle.ground_io.specs.Streams.{AppendsSome}
use Rattle.std.specs.Fmt.{decimal, signed_decimal}
use Rattle.ground_num.specs.Decimal.{thousandths_text, volume_text}
use Rattle.ground_num.specs.declared.head.Origin.{Origin}
use Rattle.ground_model.specs.declared.line.LineId.{LineId}
use Rattle.ground_model.specs.declared.refusal.Refusal.{Refusal}
use Rattle.ground_model.specs.declared.refusal.Refusal.TheVariants as reasons
use Rattle.ground_model.specs.declared.mark.Mark.{Mark}
use Rattle.ground_model.specs.declared.mark.Mark.TheVariants.{Point, Tri}
use Rattle.ground_model.specs.declared.cut.Cut.{Cut}
use Rattle.ground_model.specs.declared.volume.Volume.{Volume as Volumes}
use Rattle.ground_model.specs.Place.{Coords}
use Rattle.line_protocol.specs.declared.reply.Reply.{Reply}
use Rattle.line_protocol.specs.declared.reply.Reply.TheVariants.{Held, Planned, Done, Conflict, Refused, Level, Contour, Volume, Stat, Export, Bye, Syntax, Range, NoPlan, Memory}

-- a space and a number
abbrev pub spaced : ℕ → List ℕ
spaced k = 32 ∷ decimal k

-- a space and a number of thousandths
abbrev pub spaced_level : ℤ → List ℕ
spaced_level z = 32 ∷ thousandths_text z

-- ` N E`, with the origin added
abbrev pub spaced_place : Origin → Coords → List ℕ
spaced_place o p = spaced_level (p.n +ℤ o.n.0) ++ spaced_level (p.e +ℤ o.e.0)

-- `N E`, with the origin added, and no space before them
abbrev pub place_text : Origin → Coords → List ℕ
place_text o p = thousandths_text (p.n +ℤ o.n.0) ++ spaced_level (p.e +ℤ o.e.0)

-- further lines, each begun with a line end
abbrev pub lines_text : {X : Type 0} → (X → List ℕ) → List X → List ℕ
lines_text text xs = flat_map (λ x. 10 ∷ text x) xs

abbrev pub line_text : Option LineId → List ℕ
line_text None = []
line_text (Some id) = codes " line" ++ spaced id.0

abbrev pub mark_text : Origin → Mark → List ℕ
mark_text o (Point p) = codes " at" ++ spaced_place o p
mark_text o (Tri f) = spaced_place o f.a ++ spaced_place o f.b ++ spaced_place o f.c

abbrev pub reason_text : Origin → Refusal → List ℕ
reason_text o (reasons.Occupied z) = codes "occupied" ++ spaced_level z
reason_text o (reasons.Absent p) = codes "absent" ++ spaced_place o p
reason_text o (reasons.Held i) = codes "held" ++ spaced i.0
reason_text o (reasons.Joint i j) = codes "joint" ++ spaced i.0 ++ spaced j.0
reason_text o reasons.TooShort = codes "short"
reason_text o (reasons.Repeated k) = codes "repeated" ++ spaced k
reason_text o (reasons.NotPoint k) = codes "not-point" ++ spaced k
reason_text o (reasons.Crosses i) = codes "crosses" ++ spaced i.0
reason_text o (reasons.SelfCross i j) = codes "self-cross" ++ spaced i ++ spaced j
reason_text o (reasons.NoLine i) = codes "no-line" ++ spaced i.0
reason_text o reasons.PointsFull = codes "points-full"
reason_text o reasons.LinesFull = codes "lines-full"
reason_text o reasons.VerticesFull = codes "vertices-full"
reason_text o reasons.LogFull = codes "log-full"

abbrev pub level_text : ℕ → Option ℤ → List ℕ
level_text f (Some z) = codes "level" ++ spaced f ++ spaced_level z
level_text f None = codes "outside" ++ spaced f

abbrev pub cut_text : Origin → Cut → List ℕ
cut_text o cut = place_text o cut.from ++ spaced_place o cut.to

-- the three numbers of a volume in cubic units
abbrev pub volume_texts : Volumes → List ℕ
volume_texts v = 32 ∷ volume_text v.cut ++ 32 ∷ volume_text v.fill ++ 32 ∷ volume_text v.net

-- the three numbers of a volume in whole sixths of a cubic thousandth
abbrev pub wholes : Volumes → List ℕ
wholes v = 32 ∷ signed_decimal v.cut ++ 32 ∷ signed_decimal v.fill ++ 32 ∷ signed_decimal v.net

abbrev pub sixths_words : Volumes → List ℕ
sixths_words v = codes " sixths" ++ wholes v

abbrev pub stat_words : ℕ → ℕ → ℕ → List ℕ
stat_words f points lines = codes "stat" ++ spaced f ++ codes " points" ++ spaced points ++ codes " lines" ++ spaced lines

-- the first line of a reply, without its end
unfoldable pub first_words : Origin → Reply → List ℕ
first_words o (Held f) = codes "front" ++ spaced f
first_words o (Planned f z) = codes "planned" ++ spaced f ++ spaced z
first_words o (Done f id) = codes "done" ++ spaced f ++ line_text id
first_words o (Conflict f m) = codes "conflict" ++ spaced f ++ mark_text o m
first_words o (Refused f reason) = codes "refused" ++ spaced f ++ 32 ∷ reason_text o reason
first_words o (Level f z) = level_text f z
first_words o (Contour f cuts) = codes "contour" ++ spaced f ++ spaced (length cuts)
first_words o (Volume f v) = codes "volume" ++ spaced f ++ volume_texts v ++ sixths_words v
first_words o (Stat f points lines) = stat_words f points lines
first_words o (Export f bytes) = codes "export" ++ spaced f ++ spaced bytes
first_words o Bye = codes "bye"
first_words o (Syntax k) = codes "error syntax" ++ spaced k
first_words o Range = codes "error range"
first_words o NoPlan = codes "error no-plan"
first_words o Memory = codes "error memory"

-- further lines, each begun with a line end: those of a contour, one for each cut
abbrev pub further_lines : Origin → Reply → List ℕ
further_lines o (Contour f cuts) = lines_text (cut_text o) cuts
further_lines o reply = []

-- the whole text; the bytes of an export are not part of it
unfoldable pub reply_text : Origin → Reply → List ℕ
reply_text o reply = first_words o reply ++ further_lines o reply ++ 10 ∷ []

-- the numbers of a volume are at most 2 ^ 120
pub record IsVolumeWithin (v : Volumes) : Type 0 where
  pub cut : unsigned_abs v.cut ≤ 2 ^ 120
  pub fill : unsigned_abs v.fill ≤ 2 ^ 120
  pub net : unsigned_abs v.net ≤ 2 ^ 120

abbrev pub HasVolumeWithin : Reply → Type 0
HasVolumeWithin (Volume f v) = IsVolumeWithin v
HasVolumeWithin reply = ⊤

-- At Ok the front of the text was written, so that the rest is left; else a beginning of it was.
abbrev pub Hands : {E : Type 0} → Option (List ℕ) → Option (List ℕ) → List ℕ → List ℕ → Result Unit E → Type 0
Hands old new text left result = MatchResult result (λ _. (front : List ℕ) × (front ++ left ≡ text) × Appends old new front) (λ _. AppendsSome old new text)

-- what writes of a text's front sent: the front alone, or a beginning of the text where a write failed
abbrev pub SendsFront : {E : Type 0} → Option (List Event) → Option (List Event) → List ℕ → List ℕ → Result Unit E → Type 0
SendsFront old new text left result = MatchResult result (λ _. (front : List ℕ) × (front ++ left ≡ text) × SendsAll old new front) (λ _. SendsSome old new text)
