use Rattle.cred_table.proofs.Typed.{map_then, no_map, version_then, no_version, no_count, heads_read}
use Rattle.cred_table.proofs.parse.read_header.Goals as goal

pub returns-in_err-read_map : goal.returns-in_err-read_map
returns-in_err-read_map c = rw c.from_residual.ensures (no_map c.in_err-read_map.ensures)

pub returns-in_err-named : goal.returns-in_err-named
returns-in_err-named c = rw c.from_residual-in_err-named.ensures
    (no_version (map_then c.in_ok-read_map.ensures) c.in_err-named.ensures)

pub returns-in_err-count : goal.returns-in_err-count
returns-in_err-count c = rw c.from_residual-in_err-count.ensures
    (no_count (version_then (map_then c.in_ok-read_map.ensures) c.in_ok-named.ensures) c.in_err-count.ensures)

pub returns : goal.returns
returns c = heads_read _ _ c.in_ok-read_map.ensures c.in_ok-named.ensures c.in_ok-count.ensures
