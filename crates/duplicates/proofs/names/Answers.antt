-- `duplicates::names` meets its contract. Assumes nothing.
use mathlib.Core.Path.{◌≡◌, refl, sym, ◌∙◌}
use borrow.Author.Tests.{eqb-true, eqb-false}
use denote.Enum.Bare.{sameb}
use lib.Dec.{eqb}
use Rattle.duplicates.specs.Words.{sort_number}
use Rattle.duplicates.specs.contracts.Sort.{the_type}
use Rattle.duplicates.specs.declared.Sort.{Sort}
use Rattle.duplicates.specs.declared.Sort.TheVariants.{Key, Name}
use Rattle.duplicates.proofs.Naming.{no-word, other-sort, own-sort}
use Rattle.duplicates.proofs.names.Goals as goal

-- sorts are the same if their numbers are
by-number : (a b : Sort) → sameb the_type a b ≡ eqb (sort_number a) (sort_number b)
by-number Key Key = refl
by-number Key Name = refl
by-number Name Key = refl
by-number Name Name = refl

pub returns-in-None : goal.returns-in-None
returns-in-None c = no-word _ _ _ _ (sym c.once_of.ensures ∙ c.in-None.is)

pub returns-then-eq : goal.returns-then-eq
returns-then-eq c =
    let same = sym (by-number c.in-Some.own c.args.sort) ∙ sym c.eq.ensures ∙ c.if-eq.true in
    c.same.ensures ∙ rw c.word_of.ensures (own-sort _ _ _ _ _ (sym c.once_of.ensures ∙ c.in-Some.is) (eqb-true _ _ same))

pub returns-else-eq : goal.returns-else-eq
returns-else-eq c =
    let other = sym (by-number c.in-Some.own c.args.sort) ∙ sym c.eq.ensures ∙ c.if-eq.false in
    c.if-eq.false ∙ other-sort _ _ _ _ _ (sym c.once_of.ensures ∙ c.in-Some.is) (eqb-false _ _ other)
