use Rattle.std.proofs.Common.{◌≡◌, ◌≤◌, ◌+◌, ◌*◌, ◌/◌, ◌++◌, length, flat_map, map}
use Rattle.session_log.specs.{Semantics.pieces_of, Semantics.signed_line, Semantics.with_line_feed}
use Rattle.session_log.proofs.line_writer.push_signed.Given as goal

-- what was appended, and the lines of what is left, are the lines
abbrev pub invariant-loop-rest : goal.invariant-loop-rest
invariant-loop-rest l =
    record {
      space : length l.text.items + 2 * length l.rest + 10 * ((length l.rest + 95) / 96) ≤ length l.fn.text.items + 2 *
          length l.signed + 10 * ((length l.signed + 95) / 96);
      done : l.text.items ++ flat_map with_line_feed (map signed_line (pieces_of l.rest)) ≡ l.fn.text.items ++ flat_map with_line_feed
          (map signed_line (pieces_of l.signed));
    }

abbrev pub decreases-loop-rest : goal.decreases-loop-rest
decreases-loop-rest l = length l.rest
