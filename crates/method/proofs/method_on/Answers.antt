-- `method::method_on` meets its contract: method one, else method two, else rule 12.
use mathlib.Core.Path.{sym, ◌∙◌}
use borrow.Author.Tests.{eq-eqb, ne_eqb}
use Rattle.method.specs.Method.{counts_of}
use Rattle.method.proofs.Choosing.{no_book, by_method_one, by_method_two, by_neither}
use Rattle.method.proofs.method_on.Goals as goal

pub returns-then-day-eq0 : goal.returns-then-day-eq0
returns-then-day-eq0 c = no_book (counts_of c.args.day) (eq-eqb _ _ c.if-day-eq0.true)

pub returns-then-method_one_holds : goal.returns-then-method_one_holds
returns-then-method_one_holds c =
    let one = rw c.requires.1 at c.method_one_holds.ensures in
    by_method_one (counts_of c.args.day) (ne_eqb _ _ c.if-day-eq0.false) (sym one ∙ c.if-method_one_holds.true)

pub returns-then-method_two_holds : goal.returns-then-method_two_holds
returns-then-method_two_holds c =
    let one = rw c.requires.1 at c.method_one_holds.ensures in
    let two = rw c.requires.1 at c.method_two_holds.ensures in
    by_method_two (counts_of c.args.day) (ne_eqb _ _ c.if-day-eq0.false) (sym one ∙ c.if-method_one_holds.false) (sym two ∙ c.if-method_two_holds.true)

pub returns : goal.returns
returns c =
    let one = rw c.requires.1 at c.method_one_holds.ensures in
    let two = rw c.requires.1 at c.method_two_holds.ensures in
    by_neither (counts_of c.args.day) (ne_eqb _ _ c.if-day-eq0.false) (sym one ∙ c.if-method_one_holds.false) (sym two ∙ c.if-method_two_holds.false)
