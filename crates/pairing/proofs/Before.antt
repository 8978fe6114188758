-- Answers on times from 0 stay: they are those on the same times counted from another origin, on which lengths, falls and distances do not depend.
use mathlib.Core.Path.{◌≡◌, refl, sym, ◌∙◌}
use mathlib.Core.List.{List, [], ◌∷◌, map}
use Prim.Native.Nat.{ℕ, zero, suc, ◌+◌, ◌<◌}
use native.Mathlib.Omega.{arith}
use borrow.Author.Tests.{lt-ltb, le-ltb, ltb-true, ltb-false}
use lib.Dec.{ltb}
use lib.IntN.{pos}
use lib.ListN.{length, get_or, length-map}
use Rattle.quantity.specs.Instants.{midnight}
use Rattle.quantity.specs.Rules.{Outcome}
use Rattle.quantity.proofs.Tests.{test}
use Rattle.quantity.proofs.Lists.{each_map}
use Rattle.pairing.specs.Pairing.{instants, Pair, Marks, Near, Pairing}
use Rattle.pairing.specs.Answers.{falls, unfit, Answered, untouched, paired}
use Rattle.pairing.specs.Before.{AsBefore}
use Rattle.pairing.proofs.Instants.{as_many}

-- the same times in two lists, each counted from an origin of its own: with k added to those of one and l to those of the other they are equal
record Moved (k l : ℕ) (s r : List ℕ) : Type 0 where
  as_long : length s ≡ length r
  fall_alike : falls s ≡ falls r
  moved : (i : ℕ) → i < length s → k + get_or s i 0 ≡ l + get_or r i 0

ltb_moved : (k a b : ℕ) → ltb (k + a) (k + b) ≡ ltb a b
ltb_moved k a b =
    test (ltb a b)
    (λ t. rw (t, lt-ltb (k + a) (k + b) (omega (arith, ltb-true a b t))))
    (λ f. rw (f, le-ltb (k + a) (k + b) (omega (arith, ltb-false a b f))))

falls_moved : (times : List ℕ) → falls (instants (map pos times)) ≡ falls times
unfolding falls
falls_moved [] = refl
falls_moved (a ∷ []) = refl
falls_moved (a ∷ b ∷ times) = rw (ltb_moved midnight b a, falls_moved (b ∷ times))

time_moved : (times : List ℕ) (i : ℕ) → i < length times → get_or (instants (map pos times)) i 0 ≡ midnight + get_or times i 0
time_moved [] i there = absurd (omega arith)
time_moved (time ∷ times) zero there = refl
time_moved (time ∷ times) (suc i) there = time_moved times i (omega arith)

from_midnight : (times : List ℕ) → Moved 0 midnight (instants (map pos times)) times
from_midnight times =
    let e : length (instants (map pos times)) ≡ length times = as_many (map pos times) ∙ length-map times pos in
    record {
      as_long = e;
      fall_alike = falls_moved times;
      moved = λ i there. omega (arith, time_moved times i (omega arith));
    }

back : {k l : ℕ} {s r : List ℕ} → Moved k l s r → Moved l k r s
back m =
    record {
      as_long = sym m.as_long;
      fall_alike = sym m.fall_alike;
      moved = λ i there. sym (m.moved i (rw m.as_long there));
    }

unfit_moved : {k l : ℕ} {s r : List ℕ} → Moved k l s r → (marks : List ℕ) → unfit s marks ≡ unfit r marks
unfolding unfit
unfit_moved m marks = simp (m.fall_alike, m.as_long)

module _ {k l : ℕ} {s r t u : List ℕ} (m : Moved k l s r) (p : Moved k l t u) {tolerance : ℕ} where
  pairing_moved : (pairs : List Pair) → Pairing s t tolerance pairs → Pairing r u tolerance pairs
  pairing_moved pairs q =
      let near : (c : Pair) → Near s t tolerance c → Near r u tolerance c =
      λ c n. record {
        movement_there = omega (arith, n.movement_there, m.as_long);
        peak_there = omega (arith, n.peak_there, p.as_long);
        near = omega (arith, n.near, m.moved c.movement n.movement_there, p.moved c.peak n.peak_there);
      } in
      record { near = each_map near pairs q.near; movements_once = q.movements_once; peaks_once = q.peaks_once }

answered_moved : {k l : ℕ} {s r t u : List ℕ} → Moved k l s r → Moved k l t u → {tolerance : ℕ} {lent : Marks} {answer : Outcome ℕ} {marks : Marks}
    → Answered s t tolerance lent answer marks → Answered r u tolerance lent answer marks
answered_moved m p {lent = lent} (untouched e) = untouched (rw (unfit_moved m lent.movements, unfit_moved p lent.peaks) at e)
answered_moved m p {lent = lent} (paired e g) =
    paired (rw (unfit_moved m lent.movements, unfit_moved p lent.peaks) at e)
    (record {
      movements_marked = g.movements_marked ∙ m.as_long;
      peaks_marked = g.peaks_marked ∙ p.as_long;
      named_back = g.named_back;
      given = pairing_moved m p _ g.given;
      counted = g.counted;
      most = λ pairs q. g.most pairs (pairing_moved (back m) (back p) pairs q);
    })

pub as_before : AsBefore
as_before movements peaks tolerance lent answer marks =
    let m = from_midnight movements in
    let p = from_midnight peaks in
    (answered_moved m p, answered_moved (back m) (back p))
