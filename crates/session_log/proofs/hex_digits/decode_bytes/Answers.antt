use Rattle.std.proofs.Common.{◌++◌, ◌*◌, ◌/◌, List, ℕ, drop, length, replicate, ap, sym, ◌∙◌}
use Rattle.std.specs.Option.{option_map}
use Rattle.session_log.proofs.Decoding.{decode-trim_zeros, digits_of_zeros}
use Rattle.session_log.proofs.hex_digits.decode_bytes.Goals as goal

pub returns-in_err-decode_digits : goal.returns-in_err-decode_digits
returns-in_err-decode_digits g c =
    let used = c.trim_groups-used.result.now in
    let found = c.trim_groups-used.ensures in
    let split = found.1 ∙ ap (λ (zeros : List ℕ). used ++ zeros) (digits_of_zeros found.0) in
    let zeros = drop (length used / 2) (replicate g.row.N 0) in
    let refused = rw c.in_err-decode_digits.was at c.decode_digits.ensures in
    rw c.from_residual.ensures (sym (decode-trim_zeros c.args.digits.now used (16 * found.0) g.row.N c.if-digits.false split
    ∙ ap (option_map (λ (bytes : List ℕ). bytes ++ zeros)) refused))

pub returns : goal.returns
returns g c =
    let used = c.trim_groups-used.result.now in
    let found = c.trim_groups-used.ensures in
    let split = found.1 ∙ ap (λ (zeros : List ℕ). used ++ zeros) (digits_of_zeros found.0) in
    let zeros = drop (length used / 2) (replicate g.row.N 0) in
    let decoded = rw c.in_ok-decode_digits.was at c.decode_digits.ensures in
    sym (decode-trim_zeros c.args.digits.now used (16 * found.0) g.row.N c.if-digits.false split
    ∙ ap (option_map (λ (bytes : List ℕ). bytes ++ zeros)) decoded)
