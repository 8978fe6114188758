-- What the turns of the day program have printed so far, of a file that the input is known to hold: with what a run of steps over the rest prints, it is
-- what a run over the file prints.
use Rattle.std.proofs.Common.{◌≡◌, ℕ, ◌+◌, ◌-◌, ◌≤◌, Bool, true, false, List, [], ◌++◌, Option, Some, None, IfSome, length, take, drop, refl, sym, ap, ◌∙◌, subst, append_assoc, append-nil, arith, drop-drop}
use Rattle.std.proofs.lemmas.List.{drop-take, drop-append-le}
use Rattle.std.specs.Io.KnownBytes.{Appends, IsAtEnd}
use Rattle.std.proofs.KnownBytes.{Appends-nil, Appends-trans}
use Rattle.stream.specs.Part.{part, SameRun}
use Rattle.steps.specs.declared.Reader.{Reader}
use Rattle.steps.specs.Machine.{Next, fresh_reader, is_done, line_for, step_of}
use Rattle.steps.specs.Report.{report_of}
use Rattle.steps.specs.Run.{Says, reads_on, ends_here, Run, at_end, by_step}
use Rattle.steps.proofs.Ending.{used_law}
use Rattle.steps.proofs.Running.{run_law}

-- the file, the reader, the bytes that are held and not used up, those that the input still has, and what the output held at first and holds now
abbrev pub SoFar : Option (List ℕ) → Reader → List ℕ → Option (List ℕ) → Option (List ℕ) → Option (List ℕ) → Type 0
SoFar None s unused left first now = Unit {0}
SoFar (Some file) s unused None first now = ⊥
SoFar (Some file) s unused (Some rest) first now =
    (printed : List ℕ) × Appends first now printed
    × ((more : List ℕ) (end : Reader) → Run s (unused ++ rest) more end → Run fresh_reader file (printed ++ more) end)

pub nothing_yet : (file out : Option (List ℕ)) (s : Reader) (unused : List ℕ) → s ≡ fresh_reader → unused ≡ [] → SoFar file s unused file out out
nothing_yet None out s unused fresh none = tt
nothing_yet (Some file) out s unused fresh none =
    ([], Appends-nil out, λ more end r. subst (λ u. Run fresh_reader (u ++ file) more end) none (subst (λ t. Run t (unused ++ file) more end) fresh r))

pub part_none : (held : List ℕ) (n : ℕ) → part held n n ≡ []
part_none held n = let e : n - n ≡ 0 = omega arith in ap (λ k. take k (drop n held)) e

-- what is not used up behind a step
pub left_of_part : (held : List ℕ) (from at end : ℕ) → (from ≤ at) × (at ≤ end) → part held at end ≡ drop (at - from) (part held from end)
left_of_part held from at end places =
    let size : (at - from) + (end - at) ≡ end - from = omega arith in
    let place : from + (at - from) ≡ at = omega arith in
    sym (ap (λ n. drop (at - from) (take n (drop from held))) (sym size)
    ∙ drop-take (at - from) (end - at) (drop from held)
    ∙ ap (take (end - at)) (drop-drop (at - from) from held ∙ ap (λ n. drop n held) place))

said : (ended : Bool) (rest : List ℕ) → (ended ≡ true → rest ≡ []) → Says ended rest
said true rest h = subst (Says true) (sym (h refl)) ends_here
said false rest h = reads_on

module _ (s : Reader) (unused window rest rest' : List ℕ) (ended : Bool) (next : Next) (same : window ++ rest' ≡ unused ++ rest) (ends : ended ≡ true → rest' ≡ [])
    (step : next ≡ step_of s window ended) where
  -- what is left behind the step
  left : drop next.used (unused ++ rest) ≡ drop next.used window ++ rest'
  left =
      let within : next.used ≤ length window = omega (arith, used_law s window ended, ap (λ (n : Next). n.used) step) in
      ap (drop next.used) (sym same) ∙ drop-append-le next.used window rest' within

  -- a run from there is one from before the step
  longer : (more : List ℕ) (end : Reader) → Run next.reader (drop next.used window ++ rest') more end → Run s (unused ++ rest) (line_for next.came ++ more) end
  longer more end r =
      subst (λ (n : Next). Run n.reader (drop n.used (unused ++ rest)) more end → Run s (unused ++ rest) (line_for n.came ++ more) end) (sym step)
      (λ q. by_step window rest' ended (sym same) (said ended rest' ends) q) (subst (λ l. Run next.reader l more end) (sym left) r)

-- one step more, whose line is written
pub one_line_more : (file left left' first now then : Option (List ℕ)) (s : Reader) (unused window unused' : List ℕ) (ended : Bool) (next : Next)
    → SoFar file s unused left first now → SameRun unused left window left' → (ended ≡ true → IsAtEnd left') → next ≡ step_of s window ended
    → unused' ≡ drop next.used window → Appends now then (line_for next.came) → SoFar file next.reader unused' left' first then
one_line_more None left left' first now then s unused window unused' ended next so same ends step e wrote = tt
one_line_more (Some file) None left' first now then s unused window unused' ended next so same ends step e wrote = absurd so
one_line_more (Some file) (Some rest) None first now then s unused window unused' ended next so same ends step e wrote = absurd same
one_line_more (Some file) (Some rest) (Some rest') first now then s unused window unused' ended next so same ends step e wrote =
    let line = line_for next.came in (
      so.0 ++ line,
      Appends-trans first now then so.0 line so.1 wrote,
      λ more end r.
          subst (λ l. Run fresh_reader file l end) (sym (append_assoc so.0 line more))
          (so.2 (line ++ more) end (longer s unused window rest rest' ended next same ends step more end (subst (λ l. Run next.reader (l ++ rest') more end) e r))),
    )

-- the last line is written
pub all_printed : (file left first now : Option (List ℕ)) (s : Reader) (unused : List ℕ) → SoFar file s unused left first now → is_done s ≡ true
    → IfSome file (λ bytes. Appends first now (report_of bytes))
all_printed None left first now s unused so done = tt
all_printed (Some file) None first now s unused so done = absurd so
all_printed (Some file) (Some rest) first now s unused so done =
    let run = so.2 [] s (at_end done) in
    subst (Appends first now) (sym (append-nil so.0) ∙ (run_law file (so.0 ++ []) s run).0) so.1
