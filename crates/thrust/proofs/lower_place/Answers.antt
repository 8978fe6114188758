-- `thrust::lower_place` meets its contract: the last row that passes, or the first row where none does.
use borrow.Author.Rules.{rules}
use mathlib.Core.Path.{◌≡◌, refl, sym, ◌∙◌}
use Prim.Native.Nat.{ℕ, ◌-◌}
use lib.ListN.{length}
use Rattle.std.specs.Prelude.{Option, Some, None, unwrap_or}
use Rattle.thrust.specs.Rows.{lower_place}
use Rattle.thrust.proofs.Walking.{lower_found, lower_nowhere}
use Rattle.thrust.proofs.lower_place.Goals as goal

pub returns-clause-value : goal.returns-clause-value
returns-clause-value c = c.unwrap_or.ensures ∙ go c.rposition.result refl
  where
    go : (o : Option ℕ) → c.rposition.result ≡ o → unwrap_or o 0 ≡ lower_place c.args.rows.now c.args.thrust (length c.args.rows.now - 1)
    go (Some i) e = sym (lower_found c.args.rows.now c.args.thrust (length c.args.rows.now - 1) i (search rules) (search rules) (λ k a b. search rules))
    go None e = sym (lower_nowhere c.args.rows.now c.args.thrust (length c.args.rows.now - 1) (λ k a. search rules))
