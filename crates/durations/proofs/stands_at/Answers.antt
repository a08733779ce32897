-- `durations::stands_at` meets its contract: what it says by recursion is std's own word. Assumes nothing.
use Rattle.std.proofs.Common.{ℕ, ◌≡◌, eqb, refl, sym, ◌∙◌, arith, rules, List, length, unwrap_or, Bool, true, false, cond, not, ltb, Some, None, ltb-false}
use Rattle.std.specs.List.{position, position_or_len}
use Rattle.std.proofs.lemmas.Grind.{common_steps}
use Rattle.std.proofs.lemmas.Iterator.{YieldsList-from_slice}
use Rattle.std.proofs.lemmas.Iterator.Search.{position_from_yields_List}
use Rattle.std.proofs.lemmas.List.Recursion.{is_position_or_len}
use Rattle.std.proofs.lemmas.List.Sums.{prefix_len-le-length}
use Rattle.durations.specs.Durations.{stands_at}
use Rattle.durations.proofs.stands_at.Goals as goal

searched : (x : ℕ) (list : List ℕ) → stands_at list x ≡ position_or_len (λ y. eqb y x) list
unfolding stands_at
searched x list = is_position_or_len (λ l. stands_at l x) (λ y. eqb y x) refl (λ y l. grind (arith, common_steps)) list

place : (x : ℕ) (list : List ℕ) → unwrap_or (position (λ y. eqb y x) list) (length list) ≡ position_or_len (λ y. eqb y x) list
place x list = go (ltb at (length list)) refl
  where
    at : ℕ
    at = position_or_len (λ y. eqb y x) list

    go : (b : Bool) → ltb at (length list) ≡ b → unwrap_or (cond b (Some at) None) (length list) ≡ at
    go true e = refl
    go false e = omega (arith, ltb-false at (length list) e, prefix_len-le-length (λ y. not (eqb y x)) list)

pub returns : goal.returns
returns c =
    let a = c.args in
    let found = position_from_yields_List (λ y. eqb y a.x) _ _ _ c.position.ensures.ran (YieldsList-from_slice a.list.now (search rules)) (λ y b q k. search rules) in
    c.unwrap_or.ensures ∙ rw found (place a.x a.list.now ∙ sym (searched a.x a.list.now))
