-- Laws on plain lists: a list in a number of places, a count or a sum that is raised, and the energy of a part of a list.
use mathlib.Core.Path.{◌≡◌, refl, ap}
use mathlib.Core.List.{List, [], ◌∷◌, map}
use Prim.Native.Nat.{ℕ, zero, suc, ◌+◌, ◌*◌, ◌≤◌, ◌<◌, zero-le}
use native.Mathlib.Nat.{le_refl, le_trans}
use native.Mathlib.Omega.{arith}
use borrow.Author.Tests.{eqb-true, eqb-false}
use lib.Dec.{eqb}
use lib.ListN.{length, get_or, set, take, drop, replicate}
use lib.Seq.{slice, get_or-set_same, get_or-set_other}
use Rattle.power.specs.Power.{e}
use Rattle.power.proofs.Scale.{e_mono}
use Rattle.event.specs.Window.{highest}
use Rattle.decades.specs.Decades.{energies}
use Rattle.ledger.specs.Book.{sum_of, padded}
use Rattle.quantity.proofs.Tests.{test}

-- a list in n places has the same numbers, the same sum, and is set at the same place
pub padded_at : (n : ℕ) (xs : List ℕ) (k : ℕ) → length xs ≤ n → get_or (padded n xs) k 0 ≡ get_or xs k 0
padded_at zero [] k h = refl
padded_at zero (x ∷ xs) k h = absurd (omega arith)
padded_at (suc n) [] zero h = refl
padded_at (suc n) [] (suc k) h = padded_at n [] k zero-le
padded_at (suc n) (x ∷ xs) zero h = refl
padded_at (suc n) (x ∷ xs) (suc k) h = padded_at n xs k (omega arith)

pub padded_sum : (n : ℕ) (xs : List ℕ) → length xs ≤ n → sum_of (padded n xs) ≡ sum_of xs
unfolding sum_of
padded_sum zero [] h = refl
padded_sum zero (x ∷ xs) h = absurd (omega arith)
padded_sum (suc n) [] h = omega (arith, padded_sum n [] zero-le)
padded_sum (suc n) (x ∷ xs) h = ap (λ (m : ℕ). x + m) (padded_sum n xs (omega arith))

pub padded_set : (n : ℕ) (xs : List ℕ) (k x : ℕ) → k < length xs → set (padded n xs) k x ≡ padded n (set xs k x)
padded_set zero xs k x h = refl
padded_set (suc n) [] k x h = absurd (omega arith)
padded_set (suc n) (y ∷ ys) zero x h = refl
padded_set (suc n) (y ∷ ys) (suc k) x h = ap (λ (l : List ℕ). y ∷ l) (padded_set n ys k x (omega arith))

-- zeros
pub padded_zeros : (n k : ℕ) → padded n (replicate k 0) ≡ replicate n 0
padded_zeros zero k = refl
padded_zeros (suc n) zero = ap (λ (l : List ℕ). 0 ∷ l) (padded_zeros n zero)
padded_zeros (suc n) (suc k) = ap (λ (l : List ℕ). 0 ∷ l) (padded_zeros n k)

pub sum_zeros : (n : ℕ) → sum_of (replicate n 0) ≡ 0
unfolding sum_of
sum_zeros zero = refl
sum_zeros (suc n) = omega (arith, sum_zeros n)

-- counts within a book, one of them raised by one where the book has more
pub raised_within : (counts book : List ℕ) (k : ℕ) → k < length counts → get_or counts k 0 < get_or book k 0
    → ((j : ℕ) → get_or counts j 0 ≤ get_or book j 0) → (j : ℕ) → get_or (set counts k (get_or counts k 0 + 1)) j 0 ≤ get_or book j 0
raised_within counts book k l g h j =
    test (eqb j k)
    (λ t. rw (eqb-true j k t, get_or-set_same counts k (get_or counts k 0 + 1) 0 l) (omega arith))
    (λ f. rw (get_or-set_other counts k j (get_or counts k 0 + 1) 0 (eqb-false j k f)) (h j))

-- a list in which one number is raised has a sum that is higher by as much
pub sum_raised : (xs : List ℕ) (k S : ℕ) → k < length xs → sum_of (set xs k (get_or xs k 0 + S)) ≡ sum_of xs + S
unfolding sum_of
sum_raised [] k S h = absurd (omega arith)
sum_raised (x ∷ xs) zero S h = omega arith
sum_raised (x ∷ xs) (suc k) S h = omega (arith, sum_raised xs k S (omega arith))

-- what is made of each entry, of a list with one entry set
pub map_set : {A B : Type 0} (f : A → B) (xs : List A) (k : ℕ) (x : A) → map f (set xs k x) ≡ set (map f xs) k (f x)
map_set f [] k x = refl
map_set f (y ∷ ys) zero x = refl
map_set {A} {B} f (y ∷ ys) (suc k) x = ap (λ (l : List B). f y ∷ l) (map_set f ys k x)

-- samples up to a level have at most its power each
pub energies_most : (c : ℕ) (s : List ℕ) → highest s ≤ c → energies s ≤ e c * length s
unfolding energies
energies_most c [] h = zero-le
energies_most c (x ∷ xs) h =
    let l : highest xs ≤ c = omega arith in
    let m : x ≤ c = omega arith in
    omega (arith, e_mono m, energies_most c xs l)

-- a part of a list has at most the energy of a part that it lies in

pub drop_energy : (i j : ℕ) (s : List ℕ) → i ≤ j → energies (drop j s) ≤ energies (drop i s)
unfolding energies
drop_energy zero zero s h = le_refl _
drop_energy zero (suc j) [] h = le_refl _
drop_energy zero (suc j) (c ∷ cs) h = omega (arith, drop_energy zero j cs zero-le)
drop_energy (suc i) zero s h = absurd (omega arith)
drop_energy (suc i) (suc j) [] h = le_refl _
drop_energy (suc i) (suc j) (c ∷ cs) h = drop_energy i j cs (omega arith)

slice_energy : (a i j : ℕ) (s : List ℕ) → i ≤ j → energies (slice a i s) ≤ energies (slice a j s)
unfolding energies
slice_energy zero zero j s h = zero-le
slice_energy zero (suc i) zero s h = absurd (omega arith)
slice_energy zero (suc i) (suc j) [] h = le_refl _
slice_energy zero (suc i) (suc j) (c ∷ cs) h = omega (arith, slice_energy zero i j cs (omega arith))
slice_energy (suc a) zero j s h = zero-le
slice_energy (suc a) (suc i) zero s h = absurd (omega arith)
slice_energy (suc a) (suc i) (suc j) [] h = le_refl _
slice_energy (suc a) (suc i) (suc j) (c ∷ cs) h = slice_energy a i j cs (omega arith)

pub part_energy : (s : List ℕ) {first end from to : ℕ} → from ≤ first → end ≤ to → energies (slice first end s) ≤ energies (slice from to s)
part_energy s {first} {end} {from} {to} l h = le_trans (drop_energy from first (take end s) l) (slice_energy from end to s h)
