-- What a step through C answers, and what is in what it was lent when it returns.
use Rattle.std.specs.Prelude.{Bool, List, [], ◌∷◌, ◌++◌, ℕ, length, drop, replicate}
use Rattle.quantity.specs.Rules.{Outcome, refused, given}
use Rattle.quantity.specs.Lent.{Left}
use Rattle.offering.specs.Offer.{Accepted}
use Rattle.closing.specs.Close.{Closing}
use Rattle.c_interface.specs.Numbers.{level_bits, highest_number}
use Rattle.steps.specs.Machine.{Coming, more, started, answered, ends, nothing, line_for, Next, step_of}
use Rattle.c_reader.specs.Words.{reader_words, reader_from}

-- what came: more bytes are needed, the start was read, an event was answered, the day was closed, a fault was met, or the file was done with before
abbrev pub came_number : Coming → ℕ
came_number more = 0
came_number started = 1
came_number (answered i a) = 2
came_number (ends (given answer)) = 3
came_number (ends (refused n)) = 4
came_number nothing = 5

-- its eight numbers: the first is 0 or the number of the refusal. Of an event: its number, the bits of LAE, and Lmax
abbrev pub event_numbers : ℕ → Outcome Accepted → List ℕ
event_numbers i (refused n) = n ∷ i ∷ replicate 6 0
event_numbers i (given a) = 0 ∷ i ∷ level_bits a.exposure ∷ a.lmax ∷ replicate 4 0

-- of a closing: the bits of Ldn, the method, Nd', Nn', the highest Lmax, and the bits of the lowest and of the highest Ldn (W-211)
abbrev pub close_numbers : Outcome Closing → List ℕ
close_numbers (refused n) = n ∷ replicate 7 0
close_numbers (given c) =
    0
    ∷ level_bits c.ldn
    ∷ c.method
    ∷ c.day_events
    ∷ c.night_events
    ∷ highest_number c.highest
    ∷ level_bits c.lowest_ldn
    ∷ level_bits c.highest_ldn
    ∷ []

abbrev pub numbers_for : Coming → List ℕ
numbers_for more = replicate 8 0
numbers_for started = replicate 8 0
numbers_for (answered i a) = event_numbers i a
numbers_for (ends (given answer)) = close_numbers answer
numbers_for (ends (refused n)) = n ∷ replicate 7 0
numbers_for nothing = replicate 8 0

-- what is lent to a step; what was in `used`, `numbers` and `size` before does not matter
pub record StepLent : Type 0 where
  pub reader : List ℕ
  pub used : ℕ
  pub numbers : List ℕ
  pub line : List ℕ
  pub size : ℕ

-- a text at the beginning of a lent line, the rest of which stays
abbrev pub line_over : List ℕ → List ℕ → List ℕ
line_over text line = text ++ drop (length text) line

-- a step: the words of the next reader, the bytes that are used up, the numbers of what came, and its line with its length
abbrev pub leaves_next : Next → (line : List ℕ) → Left StepLent
leaves_next next line =
    record {
      answer = came_number next.came;
      lent = record {
        reader = reader_words next.reader;
        used = next.used;
        numbers = numbers_for next.came;
        line = line_over (line_for next.came) line;
        size = length (line_for next.came);
      };
    }

abbrev pub step_leaves : (reader line window : List ℕ) → Bool → Left StepLent
step_leaves reader line window ended = leaves_next (step_of (reader_from reader) window ended) line
