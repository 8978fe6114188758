-- A reader as 336 words of 32 bits: the words of its day; then its stage, the calibration before and after, the number of the file's events and how
-- many of them are done; then words that are 0.
use Rattle.std.specs.Prelude.{◌≡◌, cond, List, ◌∷◌, ◌++◌, ℕ, ◌%◌, ◌<◌, eqb, take, get_or, replicate}
use Rattle.day_words.specs.Words.{word_count, day_words, day_from, DayFits}
use Rattle.steps.specs.Machine.{reader_at, fresh_reader}
use Rattle.steps.specs.declared.Reader.{Reader}
use Rattle.steps.specs.declared.Stage.{Stage}
use Rattle.steps.specs.declared.Stage.TheVariants.{Fresh, Events, Ended}

abbrev pub stage_number : Stage → ℕ
stage_number Fresh = 0
stage_number Events = 1
stage_number Ended = 2

-- the words behind those of the day: 5 that are used, and 11 that are 0
abbrev pub place_words : Reader → List ℕ
place_words r = stage_number r.stage ∷ r.before.0 ∷ r.after.0 ∷ r.count ∷ r.done ∷ replicate 11 0

unfoldable pub reader_words : Reader → List ℕ
reader_words r = day_words r.day ++ place_words r

-- the reader that any 336 words stand for
abbrev pub stage_from : ℕ → Stage
stage_from n = cond (eqb n 0) Fresh (cond (eqb n 1) Events Ended)

unfoldable pub reader_from : List ℕ → Reader
reader_from words =
    reader_at (stage_from (get_or words 320 0)) (day_from (take word_count words)) (get_or words 321 0) (get_or words 322 0)
    (get_or words 323 0 % 65536) (get_or words 324 0 % 65536)

-- a reader whose day fits into its words and whose counts fit into 16 bits, as every reader has that a program holds
pub record ReaderFits (r : Reader) : Type 0 where
  pub day : DayFits r.day
  pub count : r.count < 65536
  pub done : r.done < 65536

-- the words of a reader stand for that very reader
abbrev pub InverseLaw : Type 0
InverseLaw = (r : Reader) → ReaderFits r → reader_from (reader_words r) ≡ r

-- the words of an opened reader are all 0
abbrev pub FreshLaw : Type 0
FreshLaw = reader_words fresh_reader ≡ replicate 336 0
