-- What an object over std shows.
use Rattle.std.specs.Prelude.{◌-◌, ℕ, List, length, take, Option}
use Rattle.std.specs.Option.{option_map}

-- a reader, and the count of its faults
pub record ReaderView (R : Type 0) : Type 0 where
  pub inner : R
  pub faults : ℕ

-- a writer, the count of its faults, and how many of its last bytes could not be flushed
pub record WriterView (W : Type 0) : Type 0 where
  pub inner : W
  pub faults : ℕ
  pub unflushed : ℕ

-- known bytes without the last n
abbrev pub without_last : ℕ → Option (List ℕ) → Option (List ℕ)
without_last n known = option_map (λ xs. take (length xs - n) xs) known

-- a stream, and the counts of its faults
pub record StreamView (S : Type 0) : Type 0 where
  pub stream : S
  pub read_faults : ℕ
  pub write_faults : ℕ
