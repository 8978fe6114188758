-- The words of a reader stand for that very reader: each field is read where it was put.
use mathlib.Core.Path.{◌≡◌, refl, sym, ap, ◌∙◌}
use mathlib.Core.List.{◌++◌}
use Prim.Native.Nat.{ℕ, ◌+◌}
use native.Mathlib.Nat.{mod-eq_of_lt}
use native.Mathlib.Omega.{arith}
use lib.ListN.{length, take, get_or, length-append}
use lib.Seq.{take_at, get_or-append-add}
use Rattle.ledger.specs.declared.Day.{Day}
use Rattle.ledger.specs.declared.Period.{Period}
use Rattle.day_words.specs.Words.{word_count, period_words, day_words, PeriodFits, DayFits}
use Rattle.day_words.proofs.Inverse as day_words_lem
use Rattle.steps.specs.declared.Reader.{Reader}
use Rattle.steps.specs.declared.Stage.{Stage}
use Rattle.steps.specs.declared.Stage.TheVariants.{Fresh, Events, Ended}
use Rattle.c_reader.specs.Words.{stage_number, stage_from, place_words, reader_words, reader_from, InverseLaw, FreshLaw}

length_period : (p : Period) → PeriodFits p → length (period_words p) ≡ 136
length_period p f =
    simp length-append
    (omega (arith, f.booked, f.accepted, f.cells, day_words_lem.length_cell_words p.cells f.limbs, f.lowest, f.highest))

length_day : (d : Day) → DayFits d → length (day_words d) ≡ word_count
unfolding day_words
length_day d f =
    simp length-append
    (omega (
      arith,
      simp length-append at (length_period d.daytime f.daytime),
      simp length-append at (length_period d.night f.night),
      day_words_lem.two_words d.highest,
      day_words_lem.length_class_words d.highest_by_class,
      f.by_class,
    ))

stage_read : (g : Stage) → stage_from (stage_number g) ≡ g
stage_read Fresh = refl
stage_read Events = refl
stage_read Ended = refl

-- the first words are those of the day
pub day_first : (r : Reader) → DayFits r.day → take word_count (reader_words r) ≡ day_words r.day
unfolding reader_words
day_first r f = take_at (day_words r.day) (place_words r) word_count (length_day r.day f)

behind_day : (r : Reader) → DayFits r.day → (i : ℕ) → get_or (reader_words r) (word_count + i) 0 ≡ get_or (place_words r) i 0
unfolding reader_words
behind_day r f i =
    ap (λ (n : ℕ). get_or (day_words r.day ++ place_words r) (n + i) 0) (sym (length_day r.day f))
    ∙ get_or-append-add (day_words r.day) (place_words r) i 0

pub inverse : InverseLaw
unfolding reader_from
inverse r f =
    let word = behind_day r f.day in
    rw (
      word 0,
      word 1,
      word 2,
      word 3,
      word 4,
      stage_read r.stage,
      day_first r f.day,
      day_words_lem.inverse r.day f.day,
      mod-eq_of_lt f.count,
      mod-eq_of_lt f.done,
    )

pub fresh_law : FreshLaw
unfolding reader_words day_words
fresh_law = refl
