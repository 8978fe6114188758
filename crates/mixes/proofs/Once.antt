-- Each mix is among the lists that are counted, once, and nothing else is.
use mathlib.Core.Path.{◌≡◌, refl, ap, sym, ◌∙◌, subst}
use mathlib.Core.Bool.{Bool, true, false, cond, true≢false}
use mathlib.Core.HLevel.{⊥_prop}
use mathlib.Core.Logic.Or
use mathlib.Core.List.{List, [], ◌∷◌, ◌++◌, map, Mem, Mem-prop, Nodup, not-mem-nil, eq-or-mem_of_mem-cons, mem-cons_self, mem-cons_of_mem, mem-cast, mem-append_left, mem-append_right, mem-map_of_mem, Nodup-nil, Nodup-cons, Nodup-append}
use mathlib.Mathlib.Data.List.Nodup.{Nodup-singleton, Nodup-map_iff}
use Prim.Native.Nat.{ℕ, zero, suc, ◌≤◌, ◌<◌}
use native.Mathlib.Omega.{arith}
use lib.Dec.{leb, eqb}
use lib.ListN.{length, get_or, drop}
use borrow.Author.Tests.{leb-true, leb-false, le-leb, eqb-true, eqb-false, eq-eqb}
use Rattle.quantity.specs.Lists.{Each}
use Rattle.quantity.proofs.Tests.{test, both}
use Rattle.ledger.specs.Book.{sum_of}
use Rattle.method.specs.Method.{shares_hold, on_each_class}
use Rattle.method.proofs.Each.{each_known, each_shown, shares_known, shares_shown}
use Rattle.method.proofs.Shares.{ShareHolds, share_known, share_shown}
use Rattle.mixes.specs.Mix.{book_count, class_in, is_within_book, passes, headed, lists_of, passing, mixes_of}
use Rattle.mixes.specs.Laws.{IsMix, EachOnceLaw}

-- ---- what holds for each entry

-- what holds for each entry of a list and not for x keeps x out of the list
not_among : {A : Type 0} (P : A → Type 0) (x : A) → (P x → ⊥) → (xs : List A) → Each P xs → Mem x xs → ⊥
not_among P x n [] e m = not-mem-nil m
not_among P x n (y ∷ ys) e m = Or.elim ⊥_prop (eq-or-mem_of_mem-cons m) (λ s. n (subst P (sym s) e.0)) (not_among P x n ys e.1)

each_append : {A : Type 0} (P : A → Type 0) (xs ys : List A) → Each P xs → Each P ys → Each P (xs ++ ys)
each_append P [] ys e f = f
each_append P (x ∷ xs) ys e f = (e.0, each_append P xs ys e.1 f)

each_behind : (P Q : List ℕ → Type 0) (x : ℕ) → ((l : List ℕ) → P l → Q (x ∷ l)) → (lists : List (List ℕ)) → Each P lists → Each Q (map (λ l. x ∷ l) lists)
each_behind P Q x f [] e = tt
each_behind P Q x f (l ∷ lists) e = (f l e.0, each_behind P Q x f lists e.1)

each_headed : (P Q : List ℕ → Type 0) (most : ℕ) → ((x : ℕ) (l : List ℕ) → x ≤ most → P l → Q (x ∷ l)) → (lists : List (List ℕ)) → Each P lists → Each Q (headed most lists)
unfolding headed
each_headed P Q zero f lists e = each_behind P Q 0 (λ l. f 0 l (omega arith)) lists e
each_headed P Q (suc most) f lists e =
    each_append Q (headed most lists) _
    (each_headed P Q most (λ x l h. f x l (omega arith)) lists e)
    (each_behind P Q (suc most) (λ l. f (suc most) l (omega arith)) lists e)

-- ---- all lists of k numbers

lists_long : (most k : ℕ) → Each (λ l. length l ≡ k) (lists_of most k)
unfolding lists_of
lists_long most zero = (refl, tt)
lists_long most (suc k) = each_headed (λ l. length l ≡ k) (λ l. length l ≡ suc k) most (λ x l h e. ap suc e) (lists_of most k) (lists_long most k)

headed_has : (most x : ℕ) (l : List ℕ) (lists : List (List ℕ)) → x ≤ most → Mem l lists → Mem (x ∷ l) (headed most lists)
unfolding headed
headed_has zero x l lists h m =
    let e : x ≡ 0 = omega arith in
    rw e (mem-map_of_mem (λ r. 0 ∷ r) m)
headed_has (suc most) x l lists h m = test (eqb x (suc most)) last (λ t. mem-append_left _ (headed_has most x l lists (omega (arith, eqb-false x (suc most) t)) m))
  where
    last : eqb x (suc most) ≡ true → Mem (x ∷ l) (headed most lists ++ map (λ r. suc most ∷ r) lists)
    last t = rw (eqb-true x (suc most) t) (mem-append_right (headed most lists) (mem-map_of_mem (λ r. suc most ∷ r) m))

lists_have : (most : ℕ) (l : List ℕ) → sum_of l ≤ most → Mem l (lists_of most (length l))
unfolding lists_of sum_of
lists_have most [] h = mem-cons_self
lists_have most (x ∷ l) h = headed_has most x l (lists_of most (length l)) (omega arith) (lists_have most l (omega arith))

behind_once : (x : ℕ) (lists : List (List ℕ)) → Nodup lists → Nodup (map (λ l. x ∷ l) lists)
behind_once x lists n = (Nodup-map_iff {f = λ (l : List ℕ). x ∷ l} {l = lists} (λ a b e. ap (drop 1) e)).1 n

headed_once : (most : ℕ) (lists : List (List ℕ)) → Nodup lists → Nodup (headed most lists)
unfolding headed
headed_once zero lists n = behind_once 0 lists n
headed_once (suc most) lists n = Nodup-append.1 (headed_once most lists n, behind_once (suc most) lists n, apart)
  where
    each : {P : List ℕ → Type 0} → ((l : List ℕ) → P l) → (xs : List (List ℕ)) → Each P xs
    each f [] = tt
    each f (l ∷ xs) = (f l, each f xs)

    apart : (l : List ℕ) → Mem l (headed most lists) → Mem l (map (λ r. suc most ∷ r) lists) → ⊥
    apart l a b =
        test (leb (get_or l 0 0) most)
        (λ t. not_among (λ r. get_or r 0 0 ≡ suc most) l (λ e. omega (arith, leb-true (get_or l 0 0) most t)) _
        (each_behind (λ r. Unit) (λ r. get_or r 0 0 ≡ suc most) (suc most) (λ r u. refl) lists (each (λ r. tt) lists)) b)
        (λ t. not_among (λ r. get_or r 0 0 ≤ most) l (λ h. omega (arith, leb-false (get_or l 0 0) most t)) _
        (each_headed (λ r. Unit) (λ r. get_or r 0 0 ≤ most) most (λ x r h u. h) lists (each (λ r. tt) lists)) a)

lists_once : (most k : ℕ) → Nodup (lists_of most k)
unfolding lists_of
lists_once most zero = Nodup-singleton []
lists_once most (suc k) = headed_once most (lists_of most k) (lists_once most k)

-- ---- those that pass a test

module _ (p : List ℕ → Bool) where
  each_passes : (lists : List (List ℕ)) → Each (λ l. p l ≡ true) (passing p lists)
  unfolding passing
  each_passes [] = tt
  each_passes (l ∷ lists) = go (p l) refl (each_passes lists)
    where
      go : (b : Bool) → p l ≡ b → Each (λ r. p r ≡ true) (passing p lists) → Each (λ r. p r ≡ true) (cond b (l ∷ passing p lists) (passing p lists))
      go true t e = (t, e)
      go false t e = e

  each_kept : (P : List ℕ → Type 0) (lists : List (List ℕ)) → Each P lists → Each P (passing p lists)
  unfolding passing
  each_kept P [] e = tt
  each_kept P (l ∷ lists) e = go (p l) (each_kept P lists e.1)
    where
      go : (b : Bool) → Each P (passing p lists) → Each P (cond b (l ∷ passing p lists) (passing p lists))
      go true f = (e.0, f)
      go false f = f

  passing_has : (l : List ℕ) → p l ≡ true → (lists : List (List ℕ)) → Mem l lists → Mem l (passing p lists)
  unfolding passing
  passing_has l h [] m = absurd (not-mem-nil m)
  passing_has l h (r ∷ lists) m = go (p r) refl (passing_has l h lists)
    where
      go : (b : Bool) → p r ≡ b → (Mem l lists → Mem l (passing p lists)) → Mem l (cond b (r ∷ passing p lists) (passing p lists))
      go true t k = Or.elim Mem-prop (eq-or-mem_of_mem-cons m) (λ s. mem-cast s mem-cons_self) (λ n. mem-cons_of_mem r (k n))
      go false t k = Or.elim Mem-prop (eq-or-mem_of_mem-cons m) (λ s. absurd (true≢false (sym h ∙ ap p s ∙ t))) k

  passing_from : (l : List ℕ) (lists : List (List ℕ)) → Mem l (passing p lists) → Mem l lists
  unfolding passing
  passing_from l [] m = m
  passing_from l (r ∷ lists) m = go (p r) (passing_from l lists) m
    where
      go : (b : Bool) → (Mem l (passing p lists) → Mem l lists) → Mem l (cond b (r ∷ passing p lists) (passing p lists)) → Mem l (r ∷ lists)
      go true k n = Or.elim Mem-prop (eq-or-mem_of_mem-cons n) (λ s. mem-cast s mem-cons_self) (λ o. mem-cons_of_mem r (k o))
      go false k n = mem-cons_of_mem r (k n)

  passing_once : (lists : List (List ℕ)) → Nodup lists → Nodup (passing p lists)
  unfolding passing
  passing_once [] n = Nodup-nil
  passing_once (l ∷ lists) n = go (p l) (passing_once lists (Nodup-cons.0 n).1)
    where
      go : (b : Bool) → Nodup (passing p lists) → Nodup (cond b (l ∷ passing p lists) (passing p lists))
      go true k = Nodup-cons.1 (λ m. (Nodup-cons.0 n).0 (passing_from l lists m), k)
      go false k = k

-- ---- the mixes

module _ (daytime night : List ℕ) (N' : ℕ) (mix : List ℕ) where
  share : (k : ℕ) → k < length daytime → shares_hold (book_count daytime night N') (class_in daytime night mix) (length daytime) ≡ true
      → ShareHolds (book_count daytime night N') (class_in daytime night mix k)
  share k h t =
      share_known (book_count daytime night N') (class_in daytime night mix k)
      (shares_known (book_count daytime night N') (class_in daytime night mix) (length daytime) t k h)

  pub mix_known : length mix ≡ length daytime → passes daytime night N' mix ≡ true → IsMix daytime night N' mix
  mix_known e t =
      let a = both (eqb (sum_of mix) N') _ t in
      let b = both (on_each_class is_within_book (class_in daytime night mix) (length daytime)) _ a.1 in
      record {
        one_per_class = e;
        adds_up = eqb-true (sum_of mix) N' a.0;
        within_book = λ k h. leb-true _ _ (each_known is_within_book (class_in daytime night mix) (length daytime) b.0 k h);
        measured = λ k h. (share k h b.1).measured;
        shares = λ k h. (share k h b.1).near;
      }

  pub mix_shown : IsMix daytime night N' mix → passes daytime night N' mix ≡ true
  mix_shown i =
      rw (
        eq-eqb (sum_of mix) N' i.adds_up,
        each_shown is_within_book (class_in daytime night mix) (length daytime) (λ k h. le-leb _ _ (i.within_book k h)),
        shares_shown (book_count daytime night N') (class_in daytime night mix) (length daytime)
            (λ k h. share_shown (book_count daytime night N') (class_in daytime night mix k) (record { measured = i.measured k h; near = i.shares k h })),
      )

  counted_passes : Mem mix (mixes_of daytime night N') → passes daytime night N' mix ≡ true
  counted_passes m =
      test (passes daytime night N' mix) (λ t. t)
      (λ t. absurd (not_among (λ l. passes daytime night N' l ≡ true) mix (λ e. true≢false (sym e ∙ t)) _ (each_passes (passes daytime night N') (lists_of N' (length daytime))) m))

  counted_long : Mem mix (mixes_of daytime night N') → length mix ≡ length daytime
  counted_long m =
      test (eqb (length mix) (length daytime)) (eqb-true (length mix) (length daytime))
      (λ t. absurd (not_among (λ l. length l ≡ length daytime) mix (eqb-false (length mix) (length daytime) t) _
      (each_kept (passes daytime night N') (λ l. length l ≡ length daytime) _ (lists_long N' (length daytime))) m))

  mix_counted : IsMix daytime night N' mix → Mem mix (mixes_of daytime night N')
  mix_counted i =
      let m : Mem mix (lists_of N' (length mix)) = lists_have N' mix (omega (arith, i.adds_up)) in
      passing_has (passes daytime night N') mix (mix_shown i) _ (rw i.one_per_class at m)

pub each_once : EachOnceLaw
each_once daytime night N' =
    record {
      each = λ mix. (λ m. mix_known daytime night N' mix (counted_long daytime night N' mix m) (counted_passes daytime night N' mix m), mix_counted daytime night N' mix);
      once = passing_once (passes daytime night N') _ (lists_once N' (length daytime));
    }
