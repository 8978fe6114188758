-- The lists that pass, counted class after class.
use mathlib.Core.Path.{◌≡◌, refl, ap, sym, ◌∙◌}
use mathlib.Core.Bool.{Bool, true, false, ◌&&◌, cond}
use mathlib.Core.List.{List, [], ◌∷◌, ◌++◌, map}
use Prim.Native.Nat.{ℕ, zero, suc, ◌+◌, ◌-◌, ◌≤◌, ◌<◌}
use native.Mathlib.Nat.{le_refl}
use native.Mathlib.Omega.{arith}
use lib.Dec.{eqb, eqb-zero-suc, eqb-suc-zero}
use lib.ListN.{length}
use borrow.Author.Tests.{eqb-true, eqb-false, eq-eqb, ne_eqb}
use Rattle.quantity.proofs.Tests.{test}
use Rattle.ledger.specs.Book.{sum_of, both_periods}
use Rattle.method.specs.Method.{on_each_class, share_holds, shares_hold}
use Rattle.method.proofs.Each.{first_class, first_share}
use Rattle.method.specs.declared.Count.{Count}
use Rattle.mixes.specs.Mix.{book_count, class_in, is_within_book, headed, lists_of, passing, mixes_of}
use Rattle.mixes.specs.Ways.{fits, sum_below, with_class, ways}
use Rattle.mixes.proofs.Sums.{sum_none, sum_more, sum_same, sum_cut}

-- ---- how many of some lists pass a test

abbrev how_many : (List ℕ → Bool) → List (List ℕ) → ℕ
how_many p lists = length (passing p lists)

many_nil : (p : List ℕ → Bool) → how_many p [] ≡ 0
unfolding passing
many_nil p = refl

many_more : (p : List ℕ → Bool) (l : List ℕ) (a : List (List ℕ)) → how_many p (l ∷ a) ≡ cond (p l) 1 0 + how_many p a
unfolding passing
many_more p l a = go (p l)
  where
    go : (b : Bool) → length (cond b (l ∷ passing p a) (passing p a)) ≡ cond b 1 0 + length (passing p a)
    go true = omega arith
    go false = omega arith

many_append : (p : List ℕ → Bool) (a b : List (List ℕ)) → how_many p (a ++ b) ≡ how_many p a + how_many p b
many_append p [] b = omega (arith, many_nil p)
many_append p (l ∷ a) b = omega (arith, many_more p l (a ++ b), many_more p l a, many_append p a b)

many_map : (p : List ℕ → Bool) (x : ℕ) (a : List (List ℕ)) → how_many p (map (λ l. x ∷ l) a) ≡ how_many (λ l. p (x ∷ l)) a
many_map p x [] = many_nil p ∙ sym (many_nil (λ l. p (x ∷ l)))
many_map p x (l ∷ a) = omega (arith, many_more p (x ∷ l) (map (λ r. x ∷ r) a), many_more (λ r. p (x ∷ r)) l a, many_map p x a)

many_same : (p q : List ℕ → Bool) → ((l : List ℕ) → p l ≡ q l) → (a : List (List ℕ)) → how_many p a ≡ how_many q a
many_same p q h [] = many_nil p ∙ sym (many_nil q)
many_same p q h (l ∷ a) = rw (many_more p l a, many_more q l a, h l, many_same p q h a)

many_none : (p : List ℕ → Bool) → ((l : List ℕ) → p l ≡ false) → (a : List (List ℕ)) → how_many p a ≡ 0
many_none p h [] = many_nil p
many_none p h (l ∷ a) = rw (many_more p l a, h l) (omega (arith, many_none p h a))

-- a test that hangs on one of its two parts alone
many_where : (b : Bool) (p : List ℕ → Bool) (a : List (List ℕ)) → how_many (λ l. b && p l) a ≡ cond b (how_many p a) 0
many_where true p a = refl
many_where false p a = many_none (λ l. false) (λ l. refl) a

-- lists behind each number, number by number
many_headed : (p : List ℕ → Bool) (most : ℕ) (a : List (List ℕ)) → how_many p (headed most a) ≡ sum_below (λ x. how_many (λ l. p (x ∷ l)) a) (suc most)
unfolding headed
many_headed p zero a = rw (many_map p 0 a, sum_more, sum_none) (omega arith)
many_headed p (suc most) a = rw (many_append, many_map p (suc most) a, sum_more, many_headed p most a)

-- ---- the first class apart

-- a number before a sum that is asked for
rest_sum : (x y s : ℕ) → x ≤ s → eqb (x + y) s ≡ eqb y (s - x)
rest_sum x y s h = test (eqb y (s - x)) equal unequal
  where
    equal : eqb y (s - x) ≡ true → eqb (x + y) s ≡ eqb y (s - x)
    equal t = eq-eqb (x + y) s (omega (arith, eqb-true y (s - x) t)) ∙ sym t

    unequal : eqb y (s - x) ≡ false → eqb (x + y) s ≡ eqb y (s - x)
    unequal t = ne_eqb (x + y) s (λ e. eqb-false y (s - x) t (omega arith)) ∙ sym t

shuffle : (e w W h H : Bool) → (e && ((w && W) && (h && H))) ≡ ((w && h) && (e && (W && H)))
shuffle true true W true H = refl
shuffle true true true false H = refl
shuffle true true false false H = refl
shuffle true false W h H = refl
shuffle false true W true H = refl
shuffle false true W false H = refl
shuffle false false W h H = refl

-- the test of a mix, whatever N, N' and its sum
abbrev passes_by : Count → List ℕ → List ℕ → ℕ → List ℕ → Bool
passes_by all daytime night s mix =
    eqb (sum_of mix) s
    && (on_each_class is_within_book (class_in daytime night mix) (length daytime)
    && shares_hold all (class_in daytime night mix) (length daytime))

-- the lists of a class and the classes behind it, with a sum, that begin with a count
module _ (all : Count) (d n : ℕ) (daytime night : List ℕ) (lists : List (List ℕ)) where
  behind : ℕ → ℕ → ℕ
  behind s x = how_many (λ l. passes_by all (d ∷ daytime) (n ∷ night) s (x ∷ l)) lists

  far : (s x : ℕ) → s < x → behind s x ≡ 0
  unfolding behind sum_of
  far s x h = many_none _ (λ l. rw (ne_eqb (x + sum_of l) s (λ e. omega arith))) lists

  one : (s x : ℕ) → x ≤ s → (l : List ℕ) → passes_by all (d ∷ daytime) (n ∷ night) s (x ∷ l) ≡ (fits all (d + n) x && passes_by all daytime night (s - x) l)
  unfolding sum_of
  one s x h l =
      rw (
        rest_sum x (sum_of l) s h,
        first_class is_within_book (class_in (d ∷ daytime) (n ∷ night) (x ∷ l)) (length daytime),
        first_share all (class_in (d ∷ daytime) (n ∷ night) (x ∷ l)) (length daytime),
      )
      (shuffle (eqb (sum_of l) (s - x))
      (is_within_book (record { flights = d + n; events = x })) (on_each_class is_within_book (class_in daytime night l) (length daytime))
      (share_holds all (record { flights = d + n; events = x })) (shares_hold all (class_in daytime night l) (length daytime)))

  near : (s x : ℕ) → x ≤ s → behind s x ≡ cond (fits all (d + n) x) (how_many (passes_by all daytime night (s - x)) lists) 0
  unfolding behind
  near s x h = many_same _ _ (one s x h) lists ∙ many_where (fits all (d + n) x) (passes_by all daytime night (s - x)) lists

-- those of all lists that pass are as many as the ways
counted_by : (all : Count) (most : ℕ) (daytime night : List ℕ) → length daytime ≡ length night → (s : ℕ) → s ≤ most
    → how_many (passes_by all daytime night s) (lists_of most (length daytime)) ≡ ways all (both_periods daytime night) s
unfolding lists_of ways with_class both_periods shares_hold on_each_class sum_of passing behind
counted_by all most [] night e zero h = refl
counted_by all most [] night e (suc s) h = rw (eqb-zero-suc, eqb-suc-zero)
counted_by all most (d ∷ daytime) [] e s h = absurd (omega arith)
counted_by all most (d ∷ daytime) (n ∷ night) e s h =
    let lists = lists_of most (length daytime) in
    let m : suc s + (most - s) ≡ suc most = omega arith in
    let cut = sum_cut (behind all d n daytime night lists s) (suc s) (most - s) (λ x l. far all d n daytime night lists s x l) in
    many_headed (passes_by all (d ∷ daytime) (n ∷ night) s) most lists
    ∙ (rw m at cut)
    ∙ sum_same _ _ (suc s)
    (λ x l.
    near all d n daytime night lists s x (omega arith)
    ∙ ap (λ (k : ℕ). cond (fits all (d + n) x) k 0) (counted_by all most daytime night (omega arith) (s - x) (omega arith)))

pub counted : (daytime night : List ℕ) (N' : ℕ) → length daytime ≡ length night
    → length (mixes_of daytime night N') ≡ ways (book_count daytime night N') (both_periods daytime night) N'
counted daytime night N' e = counted_by (book_count daytime night N') N' daytime night e N' (le_refl _)
