use Rattle.std.proofs.Common.{◌≡◌, length, subst, sym, ◌∙◌, arith}
use Rattle.hid_assemble.{specs.Table.init_packet_row, proofs.Rows.RowSays, proofs.Rows.row_says}
use Rattle.hid_assemble.proofs.Receiving.{given-is, one_more, short_state, long_state}
use Rattle.hid_assemble.proofs.assembler.Assembler.accept_initialization.Goals as goal

pub invariant_of-self : goal.invariant_of-self
invariant_of-self c =
    let says = subst (RowSays c.self.inside.given c.args.cid c.args.cmd c.args.len)
    (sym c.init_packet_row.ensures ∙ c.in-InitNew.is)
    (row_says c.self.inside.given c.open_on.result c.args.working c.args.cid c.args.cmd c.args.len
    c.self.invariant.channels) in
    one_more _ _ _ c.self.invariant says

pub invariant_of-self-in-Short : goal.invariant_of-self-in-Short
invariant_of-self-in-Short c =
    let says = subst (RowSays c.self.inside.given c.args.cid c.args.cmd c.args.len)
    (sym c.init_packet_row.ensures ∙ c.in-Short.is)
    (row_says c.self.inside.given c.open_on.result c.args.working c.args.cid c.args.cmd c.args.len
    c.self.invariant.channels) in
    let size : length c.put_data.new.message ≡ 7609 = omega arith in
    record { channels = c.self.invariant.channels; size = size; held = omega (arith, says) }

pub invariant_of-self-in-Long : goal.invariant_of-self-in-Long
invariant_of-self-in-Long c =
    let says = subst (RowSays c.self.inside.given c.args.cid c.args.cmd c.args.len)
    (sym c.init_packet_row.ensures ∙ c.in-Long.is)
    (row_says c.self.inside.given c.open_on.result c.args.working c.args.cid c.args.cmd c.args.len
    c.self.invariant.channels) in
    let size : length c.put_data-in-Long.new.message ≡ 7609 = omega arith in
    rw c.new.ensures (record {
      channels = c.self.invariant.channels;
      size = size;
      held = says;
    })

pub returns-in-Short-clause-state : goal.returns-in-Short-clause-state
returns-in-Short-clause-state c =
    let same = given-is _ _ _ _ c.self.view_is in
    let row = sym (c.init_packet_row.ensures ∙ (λ i. init_packet_row (same i) (c.open_on.ensures i) c.args.working
    c.args.cid c.args.cmd c.args.len)) ∙ c.in-Short.is in
    let says = subst (RowSays c.args.self.now.given c.args.cid c.args.cmd c.args.len) row
    (row_says _ _ _ _ _ _ (omega (arith, same, c.self.invariant.channels))) in
    short_state _ _ _ _ c.self.view_is c.args.at _ c.args.cmd _ _ c.args.working c.args.part.now _ c.requires.data
    c.put_data.ensures row says

pub returns-in-Long-clause-state : goal.returns-in-Long-clause-state
returns-in-Long-clause-state c =
    let same = given-is _ _ _ _ c.self.view_is in
    let row = sym (c.init_packet_row.ensures ∙ (λ i. init_packet_row (same i) (c.open_on.ensures i) c.args.working
    c.args.cid c.args.cmd c.args.len)) ∙ c.in-Long.is in
    rw c.new.ensures (long_state _ _ _ _ c.self.view_is c.args.at _ c.args.cmd _ _ c.args.working c.args.part.now _
    c.requires.data c.put_data-in-Long.ensures row)
