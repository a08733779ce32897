-- `grammar::extensions_step` meets its contract. Assumes nothing.
use mathlib.Core.Path.{sym, ◌∙◌, ap}
use Rattle.heads.specs.Heads.{extension_word}
use Rattle.grammar.proofs.Answers.{names-extension, names-none}
use mathlib.Core.List.{List}
use Prim.Native.Nat.{ℕ}
use Rattle.text.specs.Words.{same_bytes}
use Rattle.grammar.proofs.extensions_step.Goals as goal

pub returns-then-same : goal.returns-then-same
unfolding extension_word
returns-then-same c = let s = c.before.before in
    c.extension_step.ensures ∙ names-extension _ _ _ _ (sym (ap (λ (w : List ℕ). same_bytes w extension_word) s.field.ensures) ∙ sym s.same.ensures ∙ c.if-same.true)

pub returns : goal.returns
unfolding extension_word
returns c = let s = c.before.before in
    c.listed_step.ensures ∙ names-none _ _ _ _ (sym (ap (λ (w : List ℕ). same_bytes w extension_word) s.field.ensures) ∙ sym s.same.ensures ∙ c.if-same.false)
