-- Each run of calls over a file from an opened reader has printed the report of the file, and each file has such a run.
use mathlib.Core.Path.{◌≡◌, refl, sym}
use mathlib.Core.Bool.{Bool, true, false, true≢false}
use mathlib.Core.List.{List, [], ◌∷◌, ◌++◌, append-nil}
use Prim.Native.Nat.{ℕ, zero, suc, ◌+◌, ◌<◌}
use native.Mathlib.Omega.{arith}
use lib.Dec.{ltb}
use lib.ListN.{length, take, drop}
use lib.Seq.{take_at, get_or-drop}
use Rattle.quantity.proofs.Tests.{test}
use Rattle.day_file.specs.File.{start_of, taken_of}
use Rattle.steps.specs.declared.Reader.{Reader}
use Rattle.steps.specs.declared.Stage.{Stage}
use Rattle.steps.specs.declared.Stage.TheVariants as stages
use Rattle.steps.specs.Machine.{fresh_reader, is_done, line_for, Next, start_step, event_step, goes_on, step_of, asks}
use Rattle.steps.specs.Run.{Says, reads_on, Run, at_end, by_step}
use Rattle.steps.proofs.Ending.{by_answer, ends_law}
use Rattle.steps.proofs.Running.{run_law}
use Rattle.c_reader.specs.Words.{reader_words, reader_from, ReaderFits}
use Rattle.c_reader.specs.Calls.{StepLent, came_number, line_over, step_leaves}
use Rattle.c_reader.specs.Run.{Bytes, printed_of, Calls, by_last, by_call, CallsLaw, CallsEnd, CallsEndLaw}
use Rattle.c_reader.proofs.Inverse.{day_first, inverse}
use Rattle.c_reader.proofs.Reached.{fresh_fits, step_fits}

-- where a step answers 3 or more, the reader is behind the last line
abbrev Last : Next → Type 0
Last n = 2 < came_number n.came → is_done n.reader ≡ true

last_on : (r : Reader) (window : List ℕ) → Last (goes_on r.stage r window)
last_on r window = go r.stage refl
  where
    go : (g : Stage) → r.stage ≡ g → Last (goes_on r.stage r window)
    go stages.Fresh h = rw h (by_answer Last (start_step r) (start_of window) (λ n _. refl) (λ x _ few. absurd (omega arith)))
    go stages.Events h =
        rw h
        (test (ltb r.done r.count)
        (λ y. rw y (by_answer Last (event_step r) (taken_of r.day window) (λ n _. refl) (λ x _ few. absurd (omega arith))))
        (λ y. rw y (λ _. refl)))
    go stages.Ended h = rw h (λ _. refl)

last_law : (r : Reader) (window : List ℕ) (ended : Bool) → Last (step_of r window ended)
unfolding step_of
last_law r window ended = test (asks r window ended) (λ t. rw t (λ few. absurd (omega arith))) (λ t. rw t (last_on r window))

-- the bytes of a part, and those that are left
bytes_front : (window behind : List ℕ) → Bytes (window ++ behind) → Bytes window
bytes_front [] behind h i = omega arith
bytes_front (x ∷ xs) behind h zero = h 0
bytes_front (x ∷ xs) behind h (suc i) = bytes_front xs behind (λ j. h (suc j)) i

bytes_left : (n : ℕ) (file : List ℕ) → Bytes file → Bytes (drop n file)
bytes_left n file h i = rw get_or-drop (h (n + i))

-- what is printed is the line
printed_line : (text line : List ℕ) → take (length text) (line_over text line) ≡ text
printed_line text line = take_at text (drop (length text) line) (length text) refl

-- a run of calls is a run of steps
record Ran (r : Reader) (rest printed end : List ℕ) : Type 0 where
  last : Reader
  fits : ReaderFits last
  words : end ≡ reader_words last
  run : Run r rest printed last

-- a call that is the last, and a call before others
module _ (words rest line window behind : List ℕ) (ended : Bool) (e : rest ≡ window ++ behind) (says : Says ended behind) (f : ReaderFits (reader_from words)) (bytes : Bytes rest) where
  abbrev next : Next
  next = step_of (reader_from words) window ended

  abbrev left : StepLent
  left = (step_leaves words line window ended).lent

  fits : ReaderFits next.reader
  fits = step_fits (reader_from words) window ended f (bytes_front window behind (rw e at bytes))

  -- the words that it leaves stand for the next reader
  same : reader_from left.reader ≡ next.reader
  same = inverse next.reader fits

  fits_again : ReaderFits (reader_from left.reader)
  fits_again = rw same fits

  ran_last : 2 < (step_leaves words line window ended).answer → Ran (reader_from words) rest (printed_of left) left.reader
  ran_last many =
      let text = line_for next.came in
      record {
        last = next.reader;
        fits = fits;
        words = refl;
        run = rw (printed_line text line, ← append-nil text) (by_step window behind ended e says (at_end (last_law (reader_from words) window ended many)));
      }

  ran_more : {printed end : List ℕ} → Ran (reader_from left.reader) (drop left.used rest) printed end → Ran (reader_from words) rest (printed_of left ++ printed) end
  ran_more others =
      record {
        last = others.last;
        fits = others.fits;
        words = others.words;
        run = rw (printed_line (line_for next.came) line) (by_step window behind ended e says (rw same at others.run));
      }

ran : {words rest printed end : List ℕ} → Calls words rest printed end → ReaderFits (reader_from words) → Bytes rest → Ran (reader_from words) rest printed end
ran (by_last {words = words} {rest = rest} line window behind ended e says many) f bytes =
    ran_last words rest line window behind ended e says f bytes many
ran (by_call {words = words} {rest = rest} line window behind ended e says more) f bytes =
    ran_more words rest line window behind ended e says f bytes
    (ran more (fits_again words rest line window behind ended e says f bytes) (bytes_left (step_leaves words line window ended).lent.used rest bytes))

pub calls_law : CallsLaw
calls_law file printed end bytes calls =
    let same = inverse fresh_reader fresh_fits in
    let r = ran calls (rw same fresh_fits) bytes in
    let law = run_law file printed r.last (rw same at r.run) in
    (law.0, rw (r.words, day_first r.last r.fits.day, law.1))

-- and a run of steps gives a run of calls: behind the last line a call answers 5
done_answer : (r : Reader) → is_done r ≡ true → 2 < came_number (step_of r [] false).came
unfolding step_of
done_answer r e = go r.stage refl
  where
    go : (g : Stage) → r.stage ≡ g → 2 < came_number (step_of r [] false).came
    go stages.Fresh h = absurd (true≢false (sym (rw h at e)))
    go stages.Events h = absurd (true≢false (sym (rw h at e)))
    go stages.Ended h = rw h (omega arith)

calls_of : {r end : Reader} {rest printed : List ℕ} → Run r rest printed end → ReaderFits r → Bytes rest → CallsEnd (reader_words r) rest
calls_of (at_end {s = r} {rest = rest} e) f bytes =
    (_, _, by_last {words = reader_words r} [] [] rest false refl reads_on (rw (inverse r f) (done_answer r e)))
calls_of (by_step {s = r} {rest = rest} window behind ended e says more) f bytes =
    let n = step_of r window ended in
    let fits = step_fits r window ended f (bytes_front window behind (rw e at bytes)) in
    let next = calls_of more fits (bytes_left n.used rest bytes) in
    (_, next.1, by_call {words = reader_words r} {printed = next.0} {end = next.1} [] window behind ended e says (rw (inverse r f) next.2))

pub calls_end_law : CallsEndLaw
calls_end_law file bytes = calls_of (ends_law file).2 fresh_fits bytes
