-- How a session ends, as one statement of the whole of it.
use Rattle.std.proofs.Common.{◌≡◌, ℕ, ◌<◌, ◌≤◌, false, List, [], length, Option, sym, subst}
use Rattle.std.specs.List.{All, flat_map}
use Rattle.std.specs.Bool.{⊤}
use Rattle.std.specs.Io.KnownBytes.{Appends, Consumes, IsAtEnd}
use Rattle.ground_model.specs.declared.entry.Entry.{Entry}
use Rattle.ground_model.specs.Answer.{Pending}
use Rattle.line_protocol.specs.declared.reply.Reply.{Reply}
use Rattle.session.specs.Lines.{ended, unfinished, whole_lines}
use Rattle.ground_io.specs.Wires.{WireView}
use Rattle.turn_lock.specs.Setting.{Setting}
use Rattle.session.specs.Texts.{text_at}
use Rattle.session.specs.Talk.{line_limit, up_to_quit, has_quit, IsOpen, AreTaken, AreWritten, IsEnding, State, Visit}
use Rattle.session.specs.Talking.{Start, Output, sitting, IsStop, Talking, Stops}
use Rattle.session.specs.declared.conversation.Ended.{Ended}
use Rattle.session.specs.declared.conversation.Ended.TheVariants.{Quit, End, Cut, LongLine, Spent, ReadFault, WriteFault, Memory}
use Rattle.session.proofs.Quits.{has_quit_none, quit_is_none}
use Rattle.session.proofs.Sessions.{transcript_of}

-- an end that no line makes
IsPlain : Ended → Type 0
IsPlain Quit = ⊥
IsPlain WriteFault = ⊥
IsPlain End = ⊤
IsPlain Cut = ⊤
IsPlain LongLine = ⊤
IsPlain Spent = ⊤
IsPlain ReadFault = ⊤
IsPlain Memory = ⊤

plain_taken : (end : Ended) → IsPlain end → (ls : List (List ℕ)) → has_quit ls ≡ false → AreTaken (up_to_quit ls) ls end
unfolding IsPlain
plain_taken Quit p ls none = absurd p
plain_taken WriteFault p ls none = absurd p
plain_taken End p ls none = sym (has_quit_none ls none)
plain_taken Cut p ls none = sym (has_quit_none ls none)
plain_taken LongLine p ls none = sym (has_quit_none ls none)
plain_taken Spent p ls none = sym (has_quit_none ls none)
plain_taken ReadFault p ls none = sym (has_quit_none ls none)
plain_taken Memory p ls none = sym (has_quit_none ls none)

plain_written : (text : Reply → List ℕ) (end : Ended) → IsPlain end → (old new : Option (List ℕ)) (replies : List Reply) → Appends old new (flat_map text replies) → AreWritten text old new replies end
unfolding IsPlain
plain_written text Quit p old new replies a = absurd p
plain_written text WriteFault p old new replies a = absurd p
plain_written text End p old new replies a = a
plain_written text Cut p old new replies a = a
plain_written text LongLine p old new replies a = a
plain_written text Spent p old new replies a = a
plain_written text ReadFault p old new replies a = a
plain_written text Memory p old new replies a = a

-- what is known of the output of a wire
abbrev pub output_of : WireView → Output
output_of w = record { written = w.written; order = w.order }

-- the start at this state of a session whose first version is at this front
abbrev pub start_of : Setting → ℕ → ℕ → State → Start
start_of set author front before = record { setting = set; author = author; first = before.entries; front = front; output = output_of before.wire }

module _ (set : Setting) (author front budget : ℕ) (before after : State) (fronts read : List ℕ)
    (consumed : Consumes before.wire.left after.wire.left read) (within : length read ≤ budget) (short : All (λ (line : List ℕ). length line < line_limit) (ended read)) where
  plain_end : {held : ℕ} {pending : Option Pending} (end : Ended) → IsPlain end → Talking (start_of set author front before) after.entries held pending (output_of after.wire) fronts read read → IsEnding budget read after.wire.left end → Visit (sitting (start_of set author front before)) front fronts budget before after end
  plain_end end plain t ending = record {
    read = read;
    lines = whole_lines read;
    replies = t.replies;
    events = t.events;
    consumed = consumed;
    within = within;
    short = short;
    taken = plain_taken end plain (whole_lines read) t.no_quit;
    transcript = transcript_of (start_of set author front before) after.entries _ _ (whole_lines read) t.replies fronts t.legal t.going (quit_is_none (whole_lines read) t.no_quit);
    turns = t.going.visits;
    begins = t.going.begins;
    written = plain_written (text_at set after.entries) end plain before.wire.written after.wire.written t.replies t.written;
    ordered = t.ordered;
    received = t.received;
    in_time = t.in_time;
    ending = ending;
  }

  open_so_far : {held : ℕ} {pending : Option Pending} → Talking (start_of set author front before) after.entries held pending (output_of after.wire) fronts read read → length (unfinished read) < line_limit → IsOpen read
  open_so_far t below = record { no_quit = t.no_quit; short = below }

  pub ends_memory : {held : ℕ} {pending : Option Pending} → Talking (start_of set author front before) after.entries held pending (output_of after.wire) fronts read read → read ≡ [] → Visit (sitting (start_of set author front before)) front fronts budget before after Memory
  unfolding IsPlain
  ends_memory t is = plain_end Memory tt t is

  pub ends_fault : {held : ℕ} {pending : Option Pending} → Talking (start_of set author front before) after.entries held pending (output_of after.wire) fronts read read → length (unfinished read) < line_limit → length read < budget → Visit (sitting (start_of set author front before)) front fronts budget before after ReadFault
  unfolding IsPlain
  ends_fault t short_line below = plain_end ReadFault tt t (open_so_far t short_line, below)

  pub ends_end : {held : ℕ} {pending : Option Pending} → Talking (start_of set author front before) after.entries held pending (output_of after.wire) fronts read read → length (unfinished read) < line_limit → unfinished read ≡ [] → length read < budget → IsAtEnd after.wire.left → Visit (sitting (start_of set author front before)) front fronts budget before after End
  unfolding IsPlain
  ends_end t short_line none below at_end = plain_end End tt t (open_so_far t short_line, none, below, at_end)

  pub ends_cut : {held : ℕ} {pending : Option Pending} → Talking (start_of set author front before) after.entries held pending (output_of after.wire) fronts read read → length (unfinished read) < line_limit → (unfinished read ≡ [] → ⊥) → length read < budget → IsAtEnd after.wire.left → Visit (sitting (start_of set author front before)) front fronts budget before after Cut
  unfolding IsPlain
  ends_cut t short_line some below at_end = plain_end Cut tt t (open_so_far t short_line, some, below, at_end)

  pub ends_long : {held : ℕ} {pending : Option Pending} → Talking (start_of set author front before) after.entries held pending (output_of after.wire) fronts read read → length (unfinished read) ≡ line_limit → Visit (sitting (start_of set author front before)) front fronts budget before after LongLine
  unfolding IsPlain
  ends_long t long = plain_end LongLine tt t (t.no_quit, long)

  pub ends_spent : {held : ℕ} {pending : Option Pending} → Talking (start_of set author front before) after.entries held pending (output_of after.wire) fronts read read → length (unfinished read) < line_limit → length read ≡ budget → Visit (sitting (start_of set author front before)) front fronts budget before after Spent
  unfolding IsPlain
  ends_spent t short_line all = plain_end Spent tt t (open_so_far t short_line, all)

  pub ends_stopped : (end : Ended) → Stops (start_of set author front before) after.entries (output_of after.wire) fronts read end → Visit (sitting (start_of set author front before)) front fronts budget before after end
  ends_stopped end s = record {
    read = read;
    lines = s.lines;
    replies = s.replies;
    events = s.events;
    consumed = consumed;
    within = within;
    short = short;
    taken = s.taken;
    transcript = s.transcript;
    turns = s.turns;
    begins = s.begins;
    written = s.written;
    ordered = s.ordered;
    received = s.received;
    in_time = s.in_time;
    ending = stop_ending end s.ending;
  }
    where
      stop_ending : (end : Ended) → IsStop (has_quit (whole_lines read)) end → IsEnding budget read after.wire.left end
      stop_ending Quit e = e
      stop_ending WriteFault e = tt
      stop_ending End e = absurd e
      stop_ending Cut e = absurd e
      stop_ending LongLine e = absurd e
      stop_ending Spent e = absurd e
      stop_ending ReadFault e = absurd e
      stop_ending Memory e = absurd e

-- a session that a line stopped was not ended by a failed read
pub stops_by_line : (b : Start) (h : List Entry) (output : Output) (fronts read : List ℕ) (end : Ended) → Stops b h output fronts read end → end ≡ ReadFault → ⊥
stops_by_line b h output fronts read end s is = subst (λ (e : Ended). IsStop (has_quit (whole_lines read)) e) is s.ending

-- a session, by another name of its setting
pub visit_in : (set set' : Setting) (author start first : ℕ) (fronts : List ℕ) (budget : ℕ) (before after : State) (end : Ended) → set ≡ set' → Visit (record { setting = set; author = author; start = start }) first fronts budget before after end
    → Visit (record { setting = set'; author = author; start = start }) first fronts budget before after end
visit_in set set' author start first fronts budget before after end same v = subst (λ (set : Setting). Visit (record { setting = set; author = author; start = start }) first fronts budget before after end) same v

-- nor out of memory
pub stops_with_memory : (b : Start) (h : List Entry) (output : Output) (fronts read : List ℕ) (end : Ended) → Stops b h output fronts read end → end ≡ Memory → ⊥
stops_with_memory b h output fronts read end s is = subst (λ (e : Ended). IsStop (has_quit (whole_lines read)) e) is s.ending
