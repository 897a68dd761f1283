use Rattle.std.proofs.Common.{option_map, ℕ, List, Option, ◌∙◌, ap}
use Rattle.std.specs.List.{find}
use Rattle.cred_table.specs.{declared.slot.Slot.Slot, Slots.id_slots, Slots.row_at}
use Rattle.cred_table.specs.Slots.{points_to, numbered, bucket}
use Rattle.cred_table.proofs.{Unlinked.before_is, Chain.slot_read}
use Rattle.cred_table.proofs.chains.Chains.before.Goals as goal

pub returns : goal.returns
returns g c =
    let chains = c.args.self.now in
    let k = c.args.number in
    let inside = c.requires.linked.inside k c.requires.there in
    let read = slot_read chains.slots k c.from.result c.index-self-from.result inside c.from.ensures in
    let leader : List (ℕ × Slot) → Option ℕ = λ ls. option_map (λ (found : ℕ × Slot). found.0) (find (points_to k) ls) in
    c.find_predecessor.ensures
    ∙ (ap leader c.id_chain.ensures
    ∙ (ap (λ (s : Slot). leader (numbered chains.slots (id_slots (bucket s.row.id) chains))) read
    ∙ before_is chains (bucket (row_at chains.slots k).id) k c.requires.linked))
