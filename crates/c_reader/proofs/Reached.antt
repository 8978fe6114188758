-- Every reader that steps reach over a file fits into its words.
use mathlib.Core.Path.{◌≡◌, refl}
use mathlib.Core.Bool.{Bool}
use mathlib.Core.List.{List, []}
use Prim.Native.Nat.{ℕ, ◌+◌, ◌<◌}
use native.Mathlib.Omega.{arith}
use borrow.Author.Tests.{ltb-true}
use lib.Dec.{ltb}
use Rattle.quantity.specs.Rules.{Outcome, refused, given, first_of}
use Rattle.quantity.proofs.Outcomes.{given_value, followed}
use Rattle.quantity.proofs.Tests.{test}
use Rattle.ledger.specs.Day.{no_day, opening_of}
use Rattle.admission.specs.Checks.{offering_of}
use Rattle.ledger.specs.declared.Day.{Day}
use Rattle.day_words.specs.Words.{DayFits}
use Rattle.day_words.proofs.Reached.{opened_fits, offered_fits}
use Rattle.day_file.specs.Records.{rate_of_file, first_of_file, last_of_file, end_of_file, book_section, book_end, day_flights, night_flights, Header, header_rules, header_at, EventFields, event_record, record_samples}
use Rattle.day_file.specs.File.{book_opened, start_of, taken_of}
use Rattle.steps.specs.declared.Reader.{Reader}
use Rattle.steps.specs.declared.Stage.{Stage}
use Rattle.steps.specs.declared.Stage.TheVariants as stages
use Rattle.steps.specs.Machine.{fresh_reader, Next, start_step, event_step, goes_on, step_of, asks}
use Rattle.steps.proofs.Ending.{by_answer}
use Rattle.c_reader.specs.Words.{ReaderFits}
use Rattle.c_reader.specs.Run.{Bytes}

no_day_fits : DayFits no_day
unfolding first_of
no_day_fits = opened_fits (opening_of 0 0 0 0 [] [])

pub fresh_fits : ReaderFits fresh_reader
fresh_fits = record { day = no_day_fits; count = omega arith; done = omega arith }

-- the day that stands before the events, and the day after an event
start_fits : (window : List ℕ) → DayFits (start_of window).day
start_fits window = go (book_section window) refl
  where
    go : (o : Outcome ℕ) → book_section window ≡ o → DayFits (start_of window).day
    go (refused n) e = rw e no_day_fits
    go (given classes) e = rw e (opened_fits (opening_of (rate_of_file window) (first_of_file window) (last_of_file window) (end_of_file window) (day_flights window classes) (night_flights window classes)))

event_fits : (d : Day) (window : List ℕ) → DayFits d → DayFits (taken_of d window).day
event_fits d window f = go (event_record d.settings.rate window) refl
  where
    go : (o : Outcome EventFields) → event_record d.settings.rate window ≡ o → DayFits (taken_of d window).day
    go (refused n) e = rw e f
    go (given x) e = rw e (offered_fits d (offering_of x.recording (record_samples window x.count)) f)

-- the number of events is in two bytes
few_events : (window : List ℕ) {h : Header} → Bytes window → (start_of window).answer ≡ given h → h.events < 65536
few_events window {h} bytes e = go (book_section window) refl
  where
    at_header : (at : ℕ) → header_at window at ≡ given h → h.events < 65536
    at_header at t =
        let g = given_value (first_of (header_rules window at)) t in
        rw (← g.1) (omega (arith, bytes (at + 5), bytes (at + 5 + 1)))

    go : (o : Outcome ℕ) → book_section window ≡ o → h.events < 65536
    go (refused n) t =
        let wrong = rw t at e in
        let z : ◌≡◌ {A = ℕ} 0 1 = cc in
        absurd (omega arith)
    go (given classes) t = at_header (book_end classes) (followed (book_opened window classes).answer (rw t at e)).2

-- a step
abbrev Fits : Next → Type 0
Fits n = ReaderFits n.reader

goes_on_fits : (g : Stage) (r : Reader) (window : List ℕ) → ReaderFits r → Bytes window → Fits (goes_on g r window)
goes_on_fits stages.Fresh r window f bytes =
    by_answer Fits (start_step r) (start_of window)
    (λ n. record { day = start_fits window; count = f.count; done = f.done })
    (λ h e. record { day = start_fits window; count = few_events window bytes e; done = omega arith })
goes_on_fits stages.Events r window f bytes =
    let after = event_fits r.day window f.day in
    test (ltb r.done r.count)
    (λ y. rw y
    (by_answer Fits (event_step r) (taken_of r.day window)
    (λ n. record { day = after; count = f.count; done = f.done })
    (λ x e. record { day = after; count = f.count; done = omega (arith, f.count, ltb-true r.done r.count y) })))
    (λ y. rw y (record { day = f.day; count = f.count; done = f.done }))
goes_on_fits stages.Ended r window f bytes = f

pub step_fits : (r : Reader) (window : List ℕ) (ended : Bool) → ReaderFits r → Bytes window → Fits (step_of r window ended)
unfolding step_of
step_fits r window ended f bytes =
    test (asks r window ended) (λ t. rw t f) (λ t. rw t (goes_on_fits r.stage r window f bytes))
