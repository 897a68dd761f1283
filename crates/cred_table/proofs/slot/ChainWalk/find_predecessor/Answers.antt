use Rattle.std.proofs.Common.{◌≡◌, option_map, ℕ, List, Option, Some, None, Bor, refl, sym, ◌∙◌, ap, rules}
use Rattle.std.proofs.lemmas.Iterator.{Consumers.YieldsList-from_first, Search.find_from_yields_List}
use Rattle.cred_table.specs.{declared.slot.Slot.Slot, Slots.points_to}
use Rattle.cred_table.proofs.slot.ChainWalk.find_predecessor.Goals as goal

-- an item as clauses see it
abbrev seen : (ℕ × Bor Slot) → (ℕ × Slot)
seen item = (item.0, item.1.now)

numbers : (o : Option (ℕ × Bor Slot)) (p : Option (ℕ × Slot)) → option_map seen o ≡ p →
    option_map (λ (item : ℕ × Bor Slot). item.0) o ≡ option_map (λ (found : ℕ × Slot). found.0) p
numbers None p e = ap (option_map (λ (found : ℕ × Slot). found.0)) e
numbers (Some x) p e = ap (option_map (λ (found : ℕ × Slot). found.0)) e

pub returns-in_err-found : goal.returns-in_err-found
returns-in_err-found c =
    let left : List (ℕ × Slot) = c.args.self in
    let f = find_from_yields_List (points_to c.args.number) _ _ c.find.result c.find.ensures.ran
    (YieldsList-from_first seen (λ (l : List (ℕ × Slot)). l) left refl) (λ x b q k. search rules) in
    c.from_residual.ensures ∙ (ap (option_map (λ (item : ℕ × Bor Slot). item.0)) (sym c.in_err-found.was)
    ∙ numbers c.find.result _ f)

pub returns : goal.returns
returns c =
    let left : List (ℕ × Slot) = c.args.self in
    let f = find_from_yields_List (points_to c.args.number) _ _ c.find.result c.find.ensures.ran
    (YieldsList-from_first seen (λ (l : List (ℕ × Slot)). l) left refl) (λ x b q k. search rules) in
    ap (option_map (λ (item : ℕ × Bor Slot). item.0)) (sym c.in_ok-found.was) ∙ numbers c.find.result _ f
