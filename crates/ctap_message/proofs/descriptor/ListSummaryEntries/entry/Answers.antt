use Rattle.std.proofs.Common.{◌-◌, ◌&&◌, refl, ap}
use Rattle.ctap_message.specs.{Members.map_of, Members.descriptor_types}
use Rattle.ctap_message.specs.Collected.{to_descriptor, listing_in, to_list_summary}
use Rattle.ctap_message.proofs.{Collecting.adds_entry, Requests.listing_more}
use Rattle.ctap_message.proofs.descriptor.ListSummaryEntries.entry.Goals as goal

pub returns : goal.returns
returns c =
    let h = c.in_ok-typed.ensures in
    adds_entry to_list_summary (map_of descriptor_types) listing_in (5 - c.args.level) c.in_ok-typed.typed c.args.self.now
    _ h.0 c.args.cursor.now c.read_descriptor.new.cursor h.1 (ap (λ x. x.0) h.2)
    (listing_more (to_list_summary c.args.self.now) (c.in_ok-typed.typed, to_descriptor c.in_ok-typed.descriptor)
    c.is_whole.result (c.args.self.now.is_whole && c.is_whole.result) h.0 c.is_whole.ensures refl h.2)
