-- The turns of the pairing: the first movement and the first peak that are left are paired, or the earlier of them is passed alone.
use mathlib.Core.Path.{◌≡◌, ◌∙◌}
use mathlib.Core.Bool.{true, false}
use mathlib.Core.List.{List}
use Prim.Native.Nat.{ℕ, ◌+◌, ◌≤◌, ◌<◌}
use native.Mathlib.Omega.{arith}
use borrow.Author.Tests.{ltb-true, ltb-false}
use lib.Dec.{ltb}
use lib.ListN.{length, get_or, set, replicate}
use lib.Seq.{get_or-set_other}
use Rattle.quantity.specs.Numbers.{distance}
use Rattle.quantity.proofs.Lists.{zero_at}
use Rattle.pairing.specs.Answers.{unfit}
use Rattle.pairing.specs.Pairing.{Near, Largest}
use Rattle.pairing.proofs.Rising.{Fit, fit, fit_set}
use Rattle.pairing.proofs.Counting.{Most, most_none, most_pair, most_movement, most_peak, most_movements, most_peaks}
use Rattle.pairing.proofs.Marking.{Marked, marked_none, marked_more, largest}

-- what lies before the movement at i and the peak at j is settled
pub record Settled (movements peaks : List ℕ) (tolerance : ℕ) (m p : List ℕ) (i j count : ℕ) : Type 0 where
  pub movements_fit : Fit movements m
  pub peaks_fit : Fit peaks p
  pub few : count ≤ i
  pub marked : Marked movements peaks tolerance m p count
  pub m_free : (k : ℕ) → i ≤ k → get_or m k 0 ≡ 0
  pub p_free : (k : ℕ) → j ≤ k → get_or p k 0 ≡ 0
  pub most : Most movements peaks tolerance i j count

pub settled_none : (movements peaks : List ℕ) (tolerance : ℕ) (m p : List ℕ)
    → unfit movements m ≡ false → unfit peaks p ≡ false → m ≡ replicate (length m) 0 → p ≡ replicate (length p) 0
    → Settled movements peaks tolerance m p 0 0 0
settled_none movements peaks tolerance m p a b x y =
    record {
      movements_fit = fit movements m a;
      peaks_fit = fit peaks p b;
      few = omega arith;
      marked = rw (x, y) (marked_none movements peaks tolerance (length m) (length p));
      m_free = λ k h. rw x (zero_at (length m) k);
      p_free = λ k h. rw y (zero_at (length p) k);
      most = most_none movements peaks tolerance;
    }

module _ {movements peaks : List ℕ} {tolerance : ℕ} {m p : List ℕ} {i j count : ℕ} (s : Settled movements peaks tolerance m p i j count) where
  pub ended_movements : length movements ≤ i → Largest movements peaks tolerance (record { movements = m; peaks = p }) count
  ended_movements h = largest s.movements_fit.as_many s.peaks_fit.as_many s.marked (most_movements s.most h)

  pub ended_peaks : length peaks ≤ j → Largest movements peaks tolerance (record { movements = m; peaks = p }) count
  ended_peaks h = largest s.movements_fit.as_many s.peaks_fit.as_many s.marked (most_peaks s.most h)

  module _ (i_there : i < length movements) (j_there : j < length peaks) where
    pub past_pair : distance (get_or movements i 0) (get_or peaks j 0) ≤ tolerance
        → Settled movements peaks tolerance (set m i (j + 1)) (set p j (i + 1)) (i + 1) (j + 1) (count + 1)
    past_pair near =
        let pair : Near movements peaks tolerance (record { movement = i; peak = j }) =
        record { movement_there = i_there; peak_there = j_there; near = near } in
        let m_there : i < length m = omega (arith, s.movements_fit.as_many) in
        let p_there : j < length p = omega (arith, s.peaks_fit.as_many) in
        record {
          movements_fit = fit_set s.movements_fit i (j + 1);
          peaks_fit = fit_set s.peaks_fit j (i + 1);
          few = omega (arith, s.few);
          marked = marked_more s.marked i j pair m_there p_there (s.m_free i (omega arith)) (s.p_free j (omega arith));
          m_free = λ k h. get_or-set_other m i k (j + 1) 0 (λ e. absurd (omega arith)) ∙ s.m_free k (omega arith);
          p_free = λ k h. get_or-set_other p j k (i + 1) 0 (λ e. absurd (omega arith)) ∙ s.p_free k (omega arith);
          most = most_pair s.most;
        }

    module _ (far : tolerance < distance (get_or movements i 0) (get_or peaks j 0)) where
      pub past_movement : ltb (get_or movements i 0) (get_or peaks j 0) ≡ true → Settled movements peaks tolerance m p (i + 1) j count
      past_movement earlier =
          let early : get_or movements i 0 + tolerance < get_or peaks j 0 = omega (arith, far, ltb-true (get_or movements i 0) (get_or peaks j 0) earlier) in
          record {
            movements_fit = s.movements_fit;
            peaks_fit = s.peaks_fit;
            few = omega (arith, s.few);
            marked = s.marked;
            m_free = λ k h. s.m_free k (omega arith);
            p_free = s.p_free;
            most = most_movement s.most s.movements_fit.rises s.peaks_fit.rises i_there early;
          }

      pub past_peak : ltb (get_or movements i 0) (get_or peaks j 0) ≡ false → Settled movements peaks tolerance m p i (j + 1) count
      past_peak later =
          let early : get_or peaks j 0 + tolerance < get_or movements i 0 = omega (arith, far, ltb-false (get_or movements i 0) (get_or peaks j 0) later) in
          record {
            movements_fit = s.movements_fit;
            peaks_fit = s.peaks_fit;
            few = s.few;
            marked = s.marked;
            m_free = s.m_free;
            p_free = λ k h. s.p_free k (omega arith);
            most = most_peak s.most s.movements_fit.rises s.peaks_fit.rises j_there early;
          }
