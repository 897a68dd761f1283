use Rattle.std.proofs.Common.{◌≡◌, ℕ, List, Bor, option_map, refl, ◌∙◌, ap, rules}
use Rattle.std.specs.List.{find}
use Rattle.std.proofs.lemmas.Iterator.{Consumers.YieldsList-from_first, Search.find_from_yields_List}
use Rattle.cred_table.specs.{declared.row.Row.Row, declared.slot.Slot.Slot, Rows.has_id, Slots.bucket, Slots.id_slots}
use Rattle.cred_table.proofs.Filled.{seen, found_row, found_alike}
use Rattle.cred_table.proofs.chained.ChainedTable.find.Goals as goal

pub returns : goal.returns
returns g c =
    let table = c.args.self.now in
    let id = c.args.id.now in
    let test : (ℕ × Slot) → _ = λ item. has_id id item.1.row in
    let found = find_from_yields_List test _ _ c.find.result c.find.ensures.ran
    (YieldsList-from_first seen (λ (l : List (ℕ × Slot)). l) c.id_chain.result refl) (λ x b q k. search rules) in
    let row : option_map (λ (row : Bor Row). row.now) c.map.result ≡ option_map
    (λ (item : ℕ × Bor Slot). item.1.now.row) c.find.result = search rules in
    row
    ∙ (found_row table.chains.slots (id_slots (bucket id) table.chains) (has_id id) c.find.result (found
    ∙ ap (find test) c.id_chain.ensures)
    ∙ found_alike table.chains (has_id id) id table.linked table.lawful.distinct (λ r h. h))
