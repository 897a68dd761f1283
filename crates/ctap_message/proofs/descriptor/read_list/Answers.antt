use Rattle.std.proofs.Common.{◌-◌, Some, sym, subst}
use Rattle.ctap_cbor.specs.Tree.{no_trees}
use Rattle.ctap_message.specs.{Members.entries_of, Members.map_of, Members.descriptor_types, DescriptorWalk.IsAtFirst}
use Rattle.ctap_message.{specs.Collected.listing_in, specs.Collected.to_list_summary, proofs.Collecting.array_read}
use Rattle.ctap_message.proofs.Requests.{listing_start, is_list, list_read, no_walk, given_walk}
use Rattle.ctap_message.proofs.descriptor.read_list.Goals.{then-found, else-found}
use Rattle.ctap_message.proofs.descriptor.read_list.Goals as goal

pub from_entries-list-requires : goal.from_entries-list-requires
from_entries-list-requires c =
    let h = array_read to_list_summary (map_of descriptor_types) listing_in (5 - c.args.level) c.in_ok-typed.typed
    _ c.read_array.new.entries c.args.cursor.now c.read_array.new.cursor
    c.in_ok-typed.ensures listing_start in (
      entries_of (Some h.0),
      is_list c.args.level c.place-from.result h.0 c.args.cursor.now c.read_array.new.cursor c.bytes_since.result.now
          c.requires.low c.place-from.ensures c.bytes_since.ensures h.1
          (given_walk h.0 c.in_ok-typed.typed c.read_array.new.entries.is_whole c.read_array.new.entries.given h.2
          c.if-found.true),
    )

pub returns : goal.returns
returns c =
    let h = array_read to_list_summary (map_of descriptor_types) listing_in (5 - c.args.level) c.in_ok-typed.typed
    _ c.read_array.new.entries c.args.cursor.now c.read_array.new.cursor
    c.in_ok-typed.ensures listing_start in
    let walk : IsAtFirst c.if-found.list (entries_of (Some h.0)) = elim c.if-found.branch [
      | then-found w ↦ subst (λ d. IsAtFirst d (entries_of (Some h.0))) (sym w.list-is)
          (w.from_entries-list.ensures (entries_of (Some h.0))
          (is_list c.args.level c.place-from.result h.0 c.args.cursor.now c.read_array.new.cursor w.bytes_since.result.now
          c.requires.low c.place-from.ensures w.bytes_since.ensures h.1
          (given_walk h.0 c.in_ok-typed.typed c.read_array.new.entries.is_whole c.read_array.new.entries.given h.2
          w.if-found.true)))
      | else-found w ↦ no_walk h.0 c.in_ok-typed.typed c.read_array.new.entries.is_whole
          c.read_array.new.entries.given c.if-found.list h.2 w.if-found.false
          (subst (λ d. IsAtFirst d no_trees) (sym w.list-is) w.none-list.ensures)
    ] in
    (h.0, h.1, list_read h.0 c.in_ok-typed.typed c.read_array.new.entries.is_whole c.read_array.new.entries.given c.if-found.list h.2 walk)
