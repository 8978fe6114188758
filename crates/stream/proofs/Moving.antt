-- Parts of a buffer whose places are moved into the buffer.
use mathlib.Core.Path.{◌≡◌, sym, ap, ◌∙◌}
use mathlib.Core.List.{List}
use Prim.Native.Nat.{ℕ, ◌+◌, ◌-◌, ◌≤◌, ◌<◌, min}
use native.Mathlib.Omega.{arith}
use lib.ListN.{length, take, drop, get_or, length-take, length-drop}
use lib.Seq.{get_or-drop, get_or-take, length-take-le, take_at, ext_get_or}
use Rattle.std.specs.List.{copy_within}
use Rattle.stream.specs.Part.{part}

-- a part whose places are moved into the buffer, last and first, is the same part
module _ (held : List ℕ) (from to : ℕ) {last first : ℕ} (e : last ≡ min to (length held)) (f : first ≡ min from last) where
  within : (first ≤ last) × (last ≤ length held)
  within = (omega arith, omega arith)

  pub long : length (part held from to) ≡ last - first
  long = simp (length-take, length-drop) (omega arith)

  inner : length (part held first last) ≡ last - first
  inner = length-take-le (last - first) (drop first held) (simp length-drop (omega (arith, within)))

  same_part : part held first last ≡ part held from to
  same_part =
      ext_get_or 0 (part held first last) (part held from to) (inner ∙ sym long)
      (λ i h.
      let inside : i < last - first = omega (arith, inner) in
      let same : first ≡ from = omega arith in
      let before : i < to - from = omega arith in
      get_or-take (last - first) (drop first held) i 0 inside
      ∙ get_or-drop first held i 0
      ∙ ap (λ (n : ℕ). get_or held (n + i) 0) same
      ∙ sym (get_or-drop from held i 0)
      ∙ sym (get_or-take (to - from) (drop from held) i 0 before))

  -- and it stands at the beginning once it is moved there
  pub moved_part : {after : List ℕ} → after ≡ copy_within held first last 0 → take (last - first) after ≡ part held from to
  moved_part h = ap (take (last - first)) h ∙ take_at (part held first last) _ (last - first) inner ∙ same_part
