-- The highest level that a day keeps, and that of each class, are those of the stretches that the tally holds.
use Rattle.std.specs.Prelude as std
use Rattle.std.specs.Prelude.{Some, None}
use Rattle.quantity.specs.declared.Level.{Level}
use mathlib.Core.Path.{◌≡◌, refl, sym, ap, ◌∙◌}
use mathlib.Core.List.{List, [], ◌∷◌}
use mathlib.Core.Option.{Option, some, none}
use Prim.Native.Nat.{ℕ, zero, suc, ◌≤◌, ◌<◌}
use native.Mathlib.Omega.{arith}
use borrow.Author.Tests.{ltb-true, ltb-false, eqb-true, eqb-false, ne_eqb}
use lib.Dec.{ltb, eqb}
use lib.ListN.{length, get_or, set, length-set}
use lib.Seq.{get_or-set_same, get_or-set_other}
use Rattle.quantity.specs.Answers.{highest_reading}
use Rattle.quantity.proofs.Tests.{test}
use Rattle.quantity.proofs.Lists.{same_at}
use Rattle.event.specs.Window.{highest}
use Rattle.ledger.specs.Book.{most_classes}
use Rattle.ledger.specs.Day.{levels_by_class}
use Rattle.offering.specs.Offer.{raised, raised_in_class}
use Rattle.accuracy.specs.Tally.{Held, Tally}
use Rattle.accuracy.specs.Laws.{larger, highest_held, of_class, ByClass, largest, Highest}
use Rattle.accuracy.proofs.Agreement.{highest_of_stretches, classes_of_stretches, day_of_tally, OfFirst, Bounded}

-- a level is raised to the larger of two
raised_reading : (top : std.Option Level) (c : ℕ) → highest_reading (raised top (record { 0 = c })) ≡ larger (highest_reading top) (some c)
raised_reading None c = refl
raised_reading (Some l) c =
    test (ltb l.0 c)
    (λ t. rw t (ap some (omega (arith, ltb-true l.0 c t))))
    (λ f. rw f (ap some (omega (arith, ltb-false l.0 c f))))

highest_of_stretches_lem : (hs : List Held) → highest_reading (highest_of_stretches hs) ≡ highest_held hs
highest_of_stretches_lem [] = refl
highest_of_stretches_lem (h ∷ hs) =
    raised_reading (highest_of_stretches hs) (highest h.levels)
    ∙ ap (λ (top : Option ℕ). larger top (some (highest h.levels))) (highest_of_stretches_lem hs)

-- so it is in its class
abbrev raised_at : List (Option ℕ) → ℕ → ℕ → List (Option ℕ)
raised_at levels k c = set levels k (larger (get_or levels k none) (some c))

raised_levels : (classes : List (std.Option Level)) (k c : ℕ) → levels_by_class (raised_in_class classes k (record { 0 = c })) ≡ raised_at (levels_by_class classes) k c
raised_levels [] k c = refl
raised_levels (x ∷ xs) zero c = ap (λ (l : Option ℕ). l ∷ levels_by_class xs) (raised_reading x c)
raised_levels (x ∷ xs) (suc k) c = ap (λ (ls : List (Option ℕ)). highest_reading x ∷ ls) (raised_levels xs k c)

-- the levels of the classes, as a day keeps them
abbrev class_levels : List Held → List (Option ℕ)
class_levels hs = levels_by_class (classes_of_stretches hs)

level_more : (h : Held) (hs : List Held) → class_levels (h ∷ hs) ≡ raised_at (class_levels hs) h.class (highest h.levels)
level_more h hs = raised_levels (classes_of_stretches hs) h.class (highest h.levels)

sixteen : (hs : List Held) → length (class_levels hs) ≡ most_classes
sixteen [] = refl
sixteen (h ∷ hs) = ap length (level_more h hs) ∙ length-set (class_levels hs) h.class _ ∙ sixteen hs

-- each class has the highest level of its own stretches
by_class_lem : {n : ℕ} (hs : List Held) → n ≤ most_classes → OfFirst n hs → ByClass hs (class_levels hs)
by_class_lem [] l p class = same_at none most_classes class
by_class_lem (h ∷ hs) l p class =
    let so_far : ByClass hs (class_levels hs) = by_class_lem hs l p.1 in
    let there : h.class < length (class_levels hs) = omega (arith, l, p.0, sixteen hs) in
    test (eqb h.class class)
    (λ t.
    let e = eqb-true h.class class t in
    rw (level_more h hs, t, e, get_or-set_same (class_levels hs) class _ none (rw e at there), so_far class))
    (λ f. rw (level_more h hs, f, get_or-set_other (class_levels hs) h.class class _ none (λ e. eqb-false h.class class f (sym e))) (so_far class))

-- a class beyond the first n has none
none_held : {n : ℕ} (hs : List Held) → OfFirst n hs → (class : ℕ) → n ≤ class → of_class class hs ≡ []
none_held [] p class l = refl
none_held (h ∷ hs) p class l = rw (ne_eqb h.class class (λ e. omega (arith, p.0))) (none_held hs p.1 class l)

beyond_first : {n : ℕ} (hs : List Held) → n ≤ most_classes → OfFirst n hs → (class : ℕ) → n ≤ class → get_or (class_levels hs) class none ≡ none
beyond_first hs m p class l = by_class_lem hs m p class ∙ ap highest_held (none_held hs p class l)

-- the largest of all levels, one of which is raised
larger_later : (a b c : Option ℕ) → larger a (larger b c) ≡ larger (larger a b) c
larger_later none b c = refl
larger_later (some a) none c = refl
larger_later (some a) (some b) none = refl
larger_later (some a) (some b) (some c) = ap some (omega arith)

larger_either : (a b : Option ℕ) → larger a b ≡ larger b a
larger_either none none = refl
larger_either none (some b) = refl
larger_either (some a) none = refl
larger_either (some a) (some b) = ap some (omega arith)

largest_raised : (levels : List (Option ℕ)) (k c : ℕ) → k < length levels → largest (raised_at levels k c) ≡ larger (largest levels) (some c)
largest_raised [] k c h = absurd (omega arith)
largest_raised (x ∷ xs) zero c h =
    sym (larger_later x (some c) (largest xs))
    ∙ ap (larger x) (larger_either (some c) (largest xs))
    ∙ larger_later x (largest xs) (some c)
largest_raised (x ∷ xs) (suc k) c h = ap (larger x) (largest_raised xs k c (omega arith)) ∙ larger_later x (largest xs) (some c)

-- the single highest level is the largest of the classes'
largest_of_classes : {n : ℕ} (hs : List Held) → n ≤ most_classes → OfFirst n hs → largest (class_levels hs) ≡ highest_held hs
largest_of_classes [] l p = refl
largest_of_classes (h ∷ hs) l p =
    let c = highest h.levels in
    ap largest (level_more h hs)
    ∙ largest_raised (class_levels hs) h.class c (omega (arith, l, p.0, sixteen hs))
    ∙ ap (λ (top : Option ℕ). larger top (some c)) (largest_of_classes hs l p.1)

-- all of it, of the day that a tally gives
pub highest_of_tally : {t : Tally} → Bounded t → Highest t (day_of_tally t)
highest_of_tally {t} b =
    let single = highest_of_stretches_lem t.stretches in
    record {
      single = single;
      by_class = by_class_lem t.stretches b.most b.classes;
      largest_of_all = single ∙ sym (largest_of_classes t.stretches b.most b.classes);
      beyond = beyond_first t.stretches b.most b.classes;
    }
