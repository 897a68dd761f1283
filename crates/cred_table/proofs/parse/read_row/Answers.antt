use Rattle.cred_table.proofs.Typed.{head_then, no_head, row_read, rp_then, no_rp, id_then, no_id, x_then, no_x}
use Rattle.cred_table.proofs.Typed.{y_then, no_y, user_then, no_user, flag_then, no_flag, counter_then, no_counter}
use Rattle.cred_table.proofs.Typed.{no_name}
use Rattle.cred_table.proofs.parse.read_row.Goals as goal

pub returns-in_err-read_map : goal.returns-in_err-read_map
returns-in_err-read_map c = rw c.from_residual.ensures (no_head c.row_member_count.ensures c.in_err-read_map.ensures)

pub returns-in_err-rp : goal.returns-in_err-rp
returns-in_err-rp c = rw c.from_residual-in_err-rp.ensures (no_rp
    (head_then c.row_member_count.ensures c.in_ok-read_map.ensures) c.in_err-rp.ensures)

pub returns-in_err-id : goal.returns-in_err-id
returns-in_err-id c = rw c.from_residual-in_err-id.ensures (no_id
    (rp_then (head_then c.row_member_count.ensures c.in_ok-read_map.ensures) c.in_ok-rp.ensures) c.in_err-id.ensures)

pub returns-in_err-x : goal.returns-in_err-x
returns-in_err-x c = rw c.from_residual-in_err-x.ensures (no_x (id_then (rp_then (head_then c.row_member_count.ensures
    c.in_ok-read_map.ensures) c.in_ok-rp.ensures) c.in_ok-id.ensures) c.in_err-x.ensures)

pub returns-in_err-y : goal.returns-in_err-y
returns-in_err-y c = rw c.from_residual-in_err-y.ensures (no_y (x_then (id_then (rp_then (head_then c.row_member_count.ensures
    c.in_ok-read_map.ensures) c.in_ok-rp.ensures) c.in_ok-id.ensures) c.in_ok-x.ensures) c.in_err-y.ensures)

pub returns-in_err-user : goal.returns-in_err-user
returns-in_err-user c = rw c.from_residual-in_err-user.ensures
    (no_user (y_then (x_then (id_then (rp_then (head_then c.row_member_count.ensures c.in_ok-read_map.ensures)
    c.in_ok-rp.ensures) c.in_ok-id.ensures) c.in_ok-x.ensures) c.in_ok-y.ensures) c.in_err-user.ensures)

pub returns-in_err-discoverable : goal.returns-in_err-discoverable
returns-in_err-discoverable c = rw c.from_residual-in_err-discoverable.ensures (no_flag
    (user_then (y_then (x_then
    (id_then (rp_then (head_then c.row_member_count.ensures c.in_ok-read_map.ensures) c.in_ok-rp.ensures) c.in_ok-id.ensures)
    c.in_ok-x.ensures) c.in_ok-y.ensures) c.in_ok-user.ensures) c.in_err-discoverable.ensures)

pub returns-in_err-counter : goal.returns-in_err-counter
returns-in_err-counter c = rw c.from_residual-in_err-counter.ensures (no_counter (flag_then (user_then (y_then (x_then
    (id_then (rp_then (head_then c.row_member_count.ensures c.in_ok-read_map.ensures) c.in_ok-rp.ensures) c.in_ok-id.ensures)
    c.in_ok-x.ensures) c.in_ok-y.ensures) c.in_ok-user.ensures) c.in_ok-discoverable.ensures) c.in_err-counter.ensures)

pub returns-in_err-name : goal.returns-in_err-name
returns-in_err-name c = rw c.from_residual-in_err-name.ensures
    (no_name (counter_then (flag_then (user_then (y_then (x_then (id_then (rp_then
    (head_then c.row_member_count.ensures c.in_ok-read_map.ensures) c.in_ok-rp.ensures) c.in_ok-id.ensures) c.in_ok-x.ensures)
    c.in_ok-y.ensures) c.in_ok-user.ensures) c.in_ok-discoverable.ensures) c.in_ok-counter.ensures)
    c.in_err-name.ensures)

pub returns : goal.returns
returns c = row_read _ c.row_member_count.ensures c.in_ok-read_map.ensures c.in_ok-rp.ensures c.in_ok-id.ensures
    c.in_ok-x.ensures c.in_ok-y.ensures c.in_ok-user.ensures c.in_ok-discoverable.ensures c.in_ok-counter.ensures
    c.in_ok-name.ensures
