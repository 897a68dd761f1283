use Rattle.std.proofs.Common.{◌≡◌, ℕ, List, Bor, Option, Some, None, option_map, refl, sym, ◌∙◌, ap, rules}
use Rattle.std.specs.List.{find}
use Rattle.std.proofs.lemmas.Iterator.{Consumers.YieldsList-from_first, Search.find_from_yields_List}
use Rattle.cred_table.specs.{declared.row.Row.Row, declared.slot.Slot.Slot, Rows.is_user, Slots.slots_by_age}
use Rattle.cred_table.proofs.Filled.{seen, found_row}
use Rattle.cred_table.proofs.chained.ChainedTable.same_user.Goals as goal

-- the id of a row that is found
ids : (o : Option (ℕ × Bor Slot)) (p : Option Row) → option_map (λ (item : ℕ × Bor Slot). item.1.now.row) o ≡ p →
    option_map (λ (item : ℕ × Bor Slot). item.1.now.row.id) o ≡ option_map (λ (row : Row). row.id) p
ids None p e = ap (option_map (λ (row : Row). row.id)) e
ids (Some x) p e = ap (option_map (λ (row : Row). row.id)) e

pub returns-in_err-found : goal.returns-in_err-found
returns-in_err-found g c =
    let table = c.args.self.now in
    let test : (ℕ × Slot) → _ = λ item. is_user c.args.rp.now c.args.user.now item.1.row in
    let found = find_from_yields_List test _ _ c.find.result c.find.ensures.ran
    (YieldsList-from_first seen (λ (l : List (ℕ × Slot)). l) c.oldest_first.result refl)
    (λ x b q k. search rules) in
    let row = found_row table.chains.slots (slots_by_age table.chains) (is_user c.args.rp.now c.args.user.now) c.find.result
    (found ∙ ap (find test) c.oldest_first.ensures) in
    c.from_residual.ensures ∙ (ap (option_map (λ (item : ℕ × Bor Slot). item.1.now.row.id)) (sym c.in_err-found.was)
    ∙ ids c.find.result _ row)

pub returns : goal.returns
returns g c =
    let table = c.args.self.now in
    let test : (ℕ × Slot) → _ = λ item. is_user c.args.rp.now c.args.user.now item.1.row in
    let found = find_from_yields_List test _ _ c.find.result c.find.ensures.ran
    (YieldsList-from_first seen (λ (l : List (ℕ × Slot)). l) c.oldest_first.result refl)
    (λ x b q k. search rules) in
    let row = found_row table.chains.slots (slots_by_age table.chains) (is_user c.args.rp.now c.args.user.now) c.find.result
    (found ∙ ap (find test) c.oldest_first.ensures) in
    ap (option_map (λ (item : ℕ × Bor Slot). item.1.now.row.id)) (sym c.in_ok-found.was) ∙ ids c.find.result _ row
