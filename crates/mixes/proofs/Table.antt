-- A table of rows, one behind the other.
use mathlib.Core.Path.{◌≡◌, refl, sym, ◌∙◌}
use mathlib.Core.Bool.{Bool}
use mathlib.Core.List.{List, ◌++◌}
use Prim.Native.Nat.{ℕ, zero, suc, ◌+◌, ◌-◌, ◌*◌, ◌^◌, ◌≤◌, ◌<◌}
use native.Mathlib.Nat.{suc-mul, mul-le-mul_right, lt_of_mul-lt-mul_right}
use native.Mathlib.Omega.{arith}
use borrow.Rule.Slice.PartMut.{put_mid, post_of, same_len_mid}
use lib.ListN.{length, get_or, take, drop, length-drop}
use lib.Seq.{get_or-take, get_or-drop, length-take-le, drop_at, take_at, drop-length}
use Rattle.method.specs.declared.Count.{Count}
use Rattle.mixes.specs.Answers.{most_mixed_classes}
use Rattle.mixes.specs.Ways.{fits, sum_below, with_class, ways, most_fit, Between, cells, Tabulates, part, RowFrom, RowRoom, RowFits, Begun, ClassPut}
use Rattle.mixes.proofs.Classes.{From, ways_none, row_fits, from_more, sized}

part_at : (l : List ℕ) (at size s : ℕ) → s < size → get_or (part l at size) s 0 ≡ get_or l (at + s) 0
part_at l at size s h = get_or-take size (drop at l) s 0 h ∙ get_or-drop at l s 0

pub part_length : (l : List ℕ) (at size : ℕ) → at + size ≤ length l → length (part l at size) ≡ size
part_length l at size h = length-take-le size (drop at l) (rw length-drop (omega arith))

-- the part that was put into a list
pub part_put : (l row rest : List ℕ) (at size : ℕ) → at ≤ length l → length row ≡ size → part (take at l ++ (row ++ rest)) at size ≡ row
part_put l row rest at size h e = rw (drop_at (take at l) (row ++ rest) at (length-take-le at l h), take_at row rest size e)

-- the numbers from a place up to the end of its row
from_to : (at size : ℕ) → at + size - at ≡ size
from_to at size = omega arith

pub class_put : (old row : List ℕ) (at size first end : ℕ) → RowFits old at size
    → ((fit : ℕ → Bool) → Between fit first end → Tabulates row (length (part old at (at + size - at))) (with_class fit (cells (part old at (at + size - at)))))
    → length row ≡ length (part old at (at + size - at))
    → ClassPut old (put_mid at (at + size - at) old row) at size first end
class_put old row at size first end r t e =
    let k = at + size - at in
    let l : length row ≡ size = (rw from_to at e) ∙ part_length old at size r.inside in
    record {
      whole = same_len_mid at k old row e;
      row = λ fit b. rw (part_put old row (post_of at k old) at size (omega (arith, r.inside)) l) (sized (part_length old at size r.inside) (rw from_to at (t fit b)));
    }

-- the rows of the classes from one on
pub record TableFrom (all : Count) (flights table : List ℕ) (size class : ℕ) : Type 0 where
  pub within : class ≤ length flights
  pub few : length flights ≤ most_mixed_classes
  pub whole : length table ≡ length flights * size
  pub rows : RowFrom table (class * size) size (ways all (drop class flights))
  pub bound : (j : ℕ) → sum_below (ways all (drop class flights)) j ≤ most_fit ^ (length flights - class)

pub place_behind : (class size : ℕ) → 0 < class → (class - 1) * size + size ≡ class * size
place_behind zero size h = absurd (omega arith)
place_behind (suc k) size h =
    let e : suc k - 1 ≡ k = omega arith in
    rw (e, suc-mul) (omega arith)

pub table_start : (all : Count) (flights table : List ℕ) (size : ℕ) → length flights ≤ most_mixed_classes → length table ≡ length flights * size
    → TableFrom all flights table size (length flights)
unfolding ways
table_start all flights table size h e =
    let d : length flights - length flights ≡ 0 = omega arith in
    record {
      within = omega arith;
      few = h;
      whole = e;
      rows = rw drop-length (record { last = λ l s. refl; held = λ l. absurd (omega arith) });
      bound = λ j. rw (drop-length, d) (ways_none all j);
    }

module _ {all : Count} {flights table : List ℕ} {size class : ℕ} (p : TableFrom all flights table size class) where
  pub table_room : 0 < class → RowRoom table ((class - 1) * size) size
  table_room h =
      let e = place_behind class size h in
      record {
        inside = omega (arith, e, p.whole, mul-le-mul_right size p.within);
        behind = λ l.
            let less : class < length flights = lt_of_mul-lt-mul_right size (omega (arith, e, p.whole)) in
            let more : suc class * size ≤ length flights * size = mul-le-mul_right size less in
            omega (arith, e, p.whole, suc-mul class size);
      }

  -- the row of the next class has begun, as that of the classes so far
  pub table_begun : {new : List ℕ} → 0 < class → Begun table new ((class - 1) * size) size → From all flights (part new ((class - 1) * size) size) size class
  table_begun {new} h t =
      record { within = p.within; few = p.few; held = t.row _ (rw (place_behind class size h) p.rows); bound = p.bound }

  pub table_fits : {new : List ℕ} → 0 < class → Begun table new ((class - 1) * size) size → RowFits new ((class - 1) * size) size
  table_fits {new} h t =
      let q = table_begun h t in
      record { inside = omega (arith, (table_room h).inside, t.whole); small = rw q.held.size at (row_fits q) }

  -- it has taken in its class
  pub table_more : {mid new : List ℕ} {first end : ℕ} → 1 ≤ size → 0 < class → Begun table mid ((class - 1) * size) size
      → Between (fits all (get_or flights (class - 1) 0)) first end
      → ClassPut mid new ((class - 1) * size) size first end
      → TableFrom all flights new size (class - 1)
  table_more {mid} {new} {first} {end} g h t b c =
      let q = table_begun h t in
      let n = from_more q h b (λ fit f. sized (sym q.held.size) (c.row fit f)) in
      record {
        within = n.within;
        few = n.few;
        whole = c.whole ∙ t.whole ∙ p.whole;
        rows = record { last = λ i. absurd (omega (arith, (table_room h).inside, c.whole, t.whole)); held = λ i. n.held };
        bound = n.bound;
      }
