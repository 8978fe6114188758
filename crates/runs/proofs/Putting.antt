-- Items that are put one run behind the other are put as one run.
use mathlib.Core.Path.{◌≡◌, sym, ap, ◌∙◌}
use mathlib.Core.List.{List, [], ◌++◌, append_assoc, append-nil}
use Prim.Native.Nat.{ℕ, ◌≤◌}
use native.Mathlib.Omega.{arith}
use lib.ListN.{length, take, drop, length-append, length-drop, take-append-drop}
use lib.Seq.{length-take-le, take_at, drop_at, drop-drop, drop-length}
use Rattle.runs.specs.Put.{Put}

pub nothing_put : {A : Type 0} {before : List A} {at : ℕ} → at ≤ length before → Put before at [] before at
nothing_put {A} {before} {at} h = record { end = omega arith; inside = h; run = rw (append-nil (take at before)) (sym (take-append-drop at before)) }

module _ {A : Type 0} {before : List A} {at : ℕ} {items after : List A} {behind : ℕ} (p : Put before at items after behind) where
  front : length (take at before ++ items) ≡ behind
  front = simp (length-append, length-take-le at before (omega (arith, p.end, p.inside))) (sym p.end)

  pub same_length : length after ≡ length before
  same_length = ap length p.run ∙ rw (length-append (take at before ++ items) (drop behind before), front, length-drop) (omega (arith, p.inside))

  pub then : {more last : List A} {end : ℕ} → Put after behind more last end → Put before at (items ++ more) last end
  then {more} {last} {end} q =
      let head : take behind after ≡ take at before ++ items = ap (take behind) p.run ∙ take_at (take at before ++ items) (drop behind before) behind front in
      let tail : drop behind after ≡ drop behind before = ap (drop behind) p.run ∙ drop_at (take at before ++ items) (drop behind before) behind front in
      let rest : drop end after ≡ drop end before = rw (q.end, ← drop-drop, ← drop-drop, tail) in
      record {
        end = rw (length-append, q.end, p.end) (omega arith);
        inside = omega (arith, same_length, q.inside);
        run = rw (q.run, head, rest, append_assoc (take at before) items more);
      }

  -- the last of some fields
  pub last_field : Put before at (items ++ []) after behind
  last_field = rw append-nil p

-- items that fill the run
pub put_whole : {A : Type 0} {before items after : List A} {behind : ℕ} → Put before 0 items after behind → length before ≡ length items → after ≡ items
put_whole {A} {before} {items} {after} {behind} p e =
    let all : behind ≡ length before = omega (arith, p.end) in
    p.run ∙ rw (all, drop-length before) (append-nil items)
