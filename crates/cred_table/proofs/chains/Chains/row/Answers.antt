use Rattle.std.proofs.Common.{ℕ, List, refl, ◌∙◌, ap, slice_get}
use Rattle.std.proofs.lemmas.Iterator.Consumers.{YieldsList-from_first, nth_from_yields_List}
use Rattle.cred_table.{specs.declared.slot.Slot.Slot, specs.Slots.slots_by_age, proofs.Filled.seen, proofs.Filled.nth_row}
use Rattle.cred_table.proofs.chains.Chains.row.Goals as goal

pub unwrap-item-requires : goal.unwrap-item-requires
unwrap-item-requires g c =
    let chains = c.args.self.now in
    let nth = nth_from_yields_List c.nth.result _ c.args.place c.nth.ensures.ran
    (YieldsList-from_first seen (λ (l : List (ℕ × Slot)). l) c.oldest_first.result refl) in
    (nth_row chains.slots (slots_by_age chains) c.nth.result c.args.place c.requires.there
    (nth ∙ ap (λ (l : List (ℕ × Slot)). slice_get l c.args.place) c.oldest_first.ensures)).0

pub returns : goal.returns
returns g c =
    let chains = c.args.self.now in
    let nth = nth_from_yields_List c.nth.result _ c.args.place c.nth.ensures.ran
    (YieldsList-from_first seen (λ (l : List (ℕ × Slot)). l) c.oldest_first.result refl) in
    (nth_row chains.slots (slots_by_age chains) c.nth.result c.args.place c.requires.there (nth ∙ ap (λ (l : List (ℕ × Slot)).
    slice_get l c.args.place) c.oldest_first.ensures)).1 c.unwrap-item.result c.unwrap-item.ensures _
