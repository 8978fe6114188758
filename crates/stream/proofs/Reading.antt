-- Bytes that are read behind those that are held: what is held grows by what the input loses, so both together stay one run.
use Rattle.std.proofs.Common.{◌≡◌, ℕ, ◌+◌, ◌≤◌, List, ◌++◌, Option, Some, None, Result, Ok, Err, IfOk, length, take, drop, sym, ap, ◌∙◌, subst, append_assoc, take-append-drop}
use Rattle.std.proofs.Math.Seq.{take-add}
use Rattle.std.proofs.lemmas.List.{take-take, length-take-le, drop-append-le}
use Rattle.std.specs.Io.KnownBytes.{Consumes}
use Rattle.std.proofs.KnownBytes.{Consumes-trans}
use Rattle.stream.specs.Part.{SameRun}

-- where more of the first bytes are the same, fewer of them are
pub first_same : (from at : ℕ) (old new : List ℕ) → from ≤ at → take at new ≡ take at old → take from new ≡ take from old
first_same from at old new h same = sym (take-take from at new h) ∙ ap (take from) same ∙ take-take from at old h

-- n bytes more behind `at`
pub read_more : (a b c : Option (List ℕ)) (from at n : ℕ) (old new : List ℕ) → from ≤ at → at ≤ length old → take at new ≡ take at old
    → Consumes a b (drop from (take at old)) → Consumes b c (take n (drop at new)) → Consumes a c (drop from (take (at + n) new))
read_more a b c from at n old new h inside same before more =
    let grown : take (at + n) new ≡ take at old ++ take n (drop at new) = take-add at n new ∙ ap (λ l. l ++ take n (drop at new)) same in
    let room : from ≤ length (take at old) = rw (length-take-le at old inside) h in
    subst (Consumes a c) (sym (ap (drop from) grown ∙ drop-append-le from (take at old) (take n (drop at new)) room)) (Consumes-trans a b c _ _ before more)

-- k bytes stand at the beginning of what is held, and the input has lost the others
same_run : (a b : Option (List ℕ)) (front held : List ℕ) (k : ℕ) → take k held ≡ front → Consumes a b (drop k held) → SameRun front a held b
same_run None b front held k same read = tt
same_run (Some x) None front held k same read = absurd read
same_run (Some x) (Some y) front held k same read =
    let rest = drop k held in
    ap (λ l. l ++ y) (sym (take-append-drop k held) ∙ ap (λ l. l ++ rest) same) ∙ append_assoc front rest y ∙ ap (λ l. front ++ l) (sym read)

-- the same of a buffer that is filled behind these bytes
pub filled_run : {E : Type 0} (r : Result ℕ E) (a b : Option (List ℕ)) (front held : List ℕ) (k : ℕ) → take k held ≡ front
    → IfOk r (λ n. (k ≤ n) × (n ≤ length held)) → IfOk r (λ n. Consumes a b (drop k (take n held))) → IfOk r (λ n. SameRun front a (take n held) b)
filled_run (Ok n) a b front held k same inside read = same_run a b front (take n held) k (take-take k n held inside.0 ∙ same) read
filled_run (Err e) a b front held k same inside read = tt
