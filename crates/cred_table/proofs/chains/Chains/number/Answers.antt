use Rattle.std.proofs.Common.{ℕ, List, refl, ◌∙◌, ap, rules}
use Rattle.std.specs.List.{find}
use Rattle.std.proofs.lemmas.Iterator.{Consumers.YieldsList-from_first, Search.find_from_yields_List}
use Rattle.cred_table.specs.{declared.slot.Slot.Slot, Rows.has_id}
use Rattle.cred_table.proofs.Filled.{seen, slot_found, slot_there}
use Rattle.cred_table.proofs.chains.Chains.number.Goals as goal

pub unwrap-requires : goal.unwrap-requires
unwrap-requires g c =
    let id = c.args.id.now in
    let test : (ℕ × Slot) → _ = λ item. has_id id item.1.row in
    let found = find_from_yields_List test _ _ c.find.result c.find.ensures.ran
    (YieldsList-from_first seen (λ (l : List (ℕ × Slot)). l) c.id_chain.result refl) (λ x b q k. search rules) in
    slot_there c.args.self.now id c.find.result c.requires.linked c.requires.there (found
    ∙ ap (find test) c.id_chain.ensures)

pub returns-clause-held : goal.returns-clause-held
returns-clause-held g c =
    let id = c.args.id.now in
    let test : (ℕ × Slot) → _ = λ item. has_id id item.1.row in
    let found = find_from_yields_List test _ _ c.find.result c.find.ensures.ran
    (YieldsList-from_first seen (λ (l : List (ℕ × Slot)). l) c.id_chain.result refl) (λ x b q k. search rules) in
    (slot_found c.args.self.now id c.find.result c.unwrap.result c.requires.linked c.unwrap.ensures (found
    ∙ ap (find test) c.id_chain.ensures)).0

pub returns-clause-named : goal.returns-clause-named
returns-clause-named g c =
    let id = c.args.id.now in
    let test : (ℕ × Slot) → _ = λ item. has_id id item.1.row in
    let found = find_from_yields_List test _ _ c.find.result c.find.ensures.ran
    (YieldsList-from_first seen (λ (l : List (ℕ × Slot)). l) c.id_chain.result refl) (λ x b q k. search rules) in
    (slot_found c.args.self.now id c.find.result c.unwrap.result c.requires.linked c.unwrap.ensures (found
    ∙ ap (find test) c.id_chain.ensures)).1
