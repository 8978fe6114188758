-- Document 01, 'Day file': calls over a whole file, cut into parts in any way, come to what the file's definition says.
use Rattle.std.specs.Prelude.{◌≡◌, Bool, List, ◌++◌, ℕ, ◌<◌, take, drop, get_or}
use Rattle.day_words.specs.Words.{word_count, day_words}
use Rattle.day_file.specs.File.{file_of}
use Rattle.steps.specs.Report.{report_of}
use Rattle.steps.specs.Machine.{fresh_reader}
use Rattle.steps.specs.Run.{Says}
use Rattle.c_reader.specs.Words.{reader_words}
use Rattle.c_reader.specs.Calls.{StepLent, step_leaves}

-- the bytes of a file
abbrev pub Bytes : List ℕ → Type 0
Bytes file = (i : ℕ) → get_or file i 0 < 256

-- what a caller prints of what a call leaves
abbrev pub printed_of : StepLent → List ℕ
printed_of lent = take lent.size lent.line

-- a run of calls: from the words of a reader and the bytes that are not used up, by what is printed, to the last words. At each call any part is lent
-- with which the bytes begin. The last call answers 3 or more: the day is closed, a fault is met, or the file was done with before.
pub data Calls : (words rest printed end : List ℕ) → Type 0 where
  by_last : {words rest : List ℕ} (line window behind : List ℕ) (ended : Bool) → rest ≡ window ++ behind → Says ended behind
      → 2 < (step_leaves words line window ended).answer
      → Calls words rest (printed_of (step_leaves words line window ended).lent) (step_leaves words line window ended).lent.reader
  by_call : {words rest printed end : List ℕ} (line window behind : List ℕ) (ended : Bool) → rest ≡ window ++ behind → Says ended behind
      → Calls (step_leaves words line window ended).lent.reader (drop (step_leaves words line window ended).lent.used rest) printed end
      → Calls words rest (printed_of (step_leaves words line window ended).lent ++ printed) end

-- each run over a file from an opened reader has printed the report of the file, and the last words begin with those of the file's day
abbrev pub CallsLaw : Type 0
CallsLaw =
    (file printed end : List ℕ) → Bytes file → Calls (reader_words fresh_reader) file printed end
    → (printed ≡ report_of file) × (take word_count end ≡ day_words (file_of file).end.day)

-- each file has such a run
abbrev pub CallsEnd : List ℕ → List ℕ → Type 0
CallsEnd words rest = (printed : List ℕ) × (end : List ℕ) × Calls words rest printed end

abbrev pub CallsEndLaw : Type 0
CallsEndLaw = (file : List ℕ) → Bytes file → CallsEnd (reader_words fresh_reader) file
