-- A turn of the day program's loop: a step of the reader on what is held of the file.
use Rattle.std.specs.Prelude.{◌≡◌, List, ℕ, ◌+◌, ◌-◌, ◌≤◌, ltb, length, take, drop}
use Rattle.stream.specs.Part.{part}
use Rattle.steps.specs.Machine.{coming_reading, Next, step_of}
use Rattle.steps.specs.Run.{HeldEnough}
use Rattle.day.specs.declared.Turn.{Turn}

-- the step's part in what a turn gives
abbrev pub next_of : Turn → Next
next_of r = record { reader = r.reader; used = r.at - r.from; came = coming_reading r.came }

-- the bytes that a turn has left, not used up, of those that are held
abbrev pub unused : Turn → List ℕ → List ℕ
unused r held = part held r.at r.end

-- a turn behind the last one
pub record Turned (before : List ℕ) (last : Turn) (held : List ℕ) (r : Turn) : Type 0 where
  pub whole : length held ≡ length before
  -- the step sees first what was not used up
  pub kept : take (length (unused last before)) (drop r.from held) ≡ unused last before
  pub inside : (r.from + length (unused last before) ≤ r.end) × (r.end ≤ length held)
  -- it sees what is held; the file ends with it where the buffer is not full
  pub step : next_of r ≡ step_of last.reader (part held r.from r.end) (ltb r.end (length held))
  pub enough : HeldEnough last.reader (r.end - r.from) (ltb r.end (length held))
  pub used : (r.from ≤ r.at) × (r.at ≤ r.end)
