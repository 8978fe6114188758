-- A run of the table: a test that is computed at each entry, carried to every place of the run; runs behind each other.
use mathlib.Core.Path.{◌≡◌, sym, subst, ◌∙◌}
use mathlib.Core.Bool.{Bool, true, false, ◌&&◌}
use mathlib.Core.List.{List, [], ◌∷◌}
use Prim.Native.Nat.{ℕ, zero, suc, ◌+◌, ◌-◌, ◌^◌, ◌≤◌, ◌<◌}
use native.Mathlib.Decide.{dec_lt}
use native.Mathlib.Omega.{arith}
use lib.Dec.{T, leb, ltb, leb→le, ltb→lt, lit<}
use lib.ListN.{length, get_or, take, drop, length-drop}
use lib.Seq.{get_or-take, get_or-drop, length-take-le}
use Rattle.power.specs.Power.{X, m}
use Rattle.power.proofs.Search.{root_only}

pub both : (a b : Bool) → T (a && b) → T a × T b
both true b t = (tt, t)
both false b t = absurd t

-- x ^ 1000 ≤ 10 ^ (9000 + f) < (x + 1) ^ 1000
unfoldable pub right : ℕ → ℕ → Bool
right f x = leb (x ^ 1000) (10 ^ (9000 + f)) && ltb (10 ^ (9000 + f)) ((x + 1) ^ 1000)

-- so x is the whole root that m(f) stands for
is_mantissa : (f x : ℕ) → T (right f x) → x ≡ m f
unfolding right X
is_mantissa f x h =
    let p = 10 ^ (9000 + f) in
    let t = both (leb (x ^ 1000) p) (ltb p ((x + 1) ^ 1000)) h in
    root_only 1000 p x (lit< tt) (leb→le (x ^ 1000) p t.0) (ltb→lt p ((x + 1) ^ 1000) t.1)

-- each entry of a list is right at its place, counted from i
abbrev pub every : ℕ → List ℕ → Bool
every i [] = true
every i (x ∷ xs) = right i x && every (suc i) xs

passes : (xs : List ℕ) (i : ℕ) → T (every i xs) → (k : ℕ) → k < length xs → T (right (i + k) (get_or xs k 0))
passes [] i t k h = absurd (omega arith)
passes (x ∷ xs) i t zero h =
    let e : i ≡ i + 0 = omega arith in
    subst (λ (n : ℕ). T (right n x)) e (both (right i x) (every (suc i) xs) t).0
passes (x ∷ xs) i t (suc k) h =
    let e : suc i + k ≡ i + suc k = omega arith in
    subst (λ (n : ℕ). T (right n (get_or xs k 0))) e (passes xs (suc i) (both (right i x) (every (suc i) xs) t).1 k (omega arith))

-- a run of mantissas: m(from), m(from + 1) and so on
pub record IsRun (from : ℕ) (run : List ℕ) : Type 0 where
  pub entry : (k : ℕ) → k < length run → get_or run k 0 ≡ m (from + k)

-- the test, computed over a list, makes it a run
pub run : (from : ℕ) (xs : List ℕ) → T (every from xs) → IsRun from xs
run from xs t = record { entry = λ k h. is_mantissa (from + k) (get_or xs k 0) (passes xs from t k h) }

-- two runs behind each other
pub runs : (from n : ℕ) (xs : List ℕ) → n ≤ length xs → IsRun from (take n xs) → IsRun (from + n) (drop n xs) → IsRun from xs
runs from n xs w a b = record { entry = λ k h. elim (dec_lt k n) [ yes u ↦ front k u | no v ↦ back k h (omega arith) ] }
  where
    front : (k : ℕ) → k < n → get_or xs k 0 ≡ m (from + k)
    front k u = sym (get_or-take n xs k 0 u) ∙ a.entry k (rw (length-take-le n xs w) u)

    back : (k : ℕ) → k < length xs → n ≤ k → get_or xs k 0 ≡ m (from + k)
    back k h v =
        let i : n + (k - n) ≡ k = omega arith in
        let f : from + n + (k - n) ≡ from + k = omega arith in
        rw (get_or-drop n xs (k - n) 0, i, f) at (b.entry (k - n) (omega (arith, length-drop n xs)))
