use Rattle.std.proofs.Common.{◌≡◌, ◌-◌, ◌&&◌, ◌||◌, refl, ap, rules}
use Rattle.ctap_message.specs.{Members.map_of, Members.parameter_types}
use Rattle.ctap_message.specs.Fields.{parameter_in, is_whole_parameter, is_for_es256, parameters_in}
use Rattle.ctap_message.specs.Collected.{to_parameter, to_parameters}
use Rattle.ctap_message.proofs.Collecting.{adds_entry, map_read}
use Rattle.ctap_message.proofs.Collecting.{parameter_start, parameters_more}
use Rattle.ctap_message.proofs.parameters.ParametersEntries.entry.Goals as goal
use Rattle.ctap_message.proofs.parameters.ParametersEntries.entry.Goals.{then-is_some, else-is_some, then-eq, else-eq}

pub returns : goal.returns
returns c =
    let h = map_read to_parameter parameter_types parameter_in (5 - c.args.level) c.in_ok-typed.typed _
    c.read_map.new.members c.args.cursor.now c.read_map.new.cursor c.in_ok-typed.ensures parameter_start in
    let p = to_parameter c.read_map.new.members in
    let w : c.if-is_some.self ≡ is_whole_parameter p = elim c.if-is_some.branch
    [ then-is_some w ↦ search rules | else-is_some w ↦ search rules ] in
    let s : c.if-eq.self ≡ is_for_es256 p = elim c.if-eq.branch [ then-eq w ↦ search rules | else-eq w ↦ search rules ]
    in
    adds_entry to_parameters (map_of parameter_types) parameters_in (5 - c.args.level) c.in_ok-typed.typed
    c.args.self.now _ h.0 c.args.cursor.now c.read_map.new.cursor h.1 (ap (λ x. x.0) h.2)
    (parameters_more (to_parameters c.args.self.now) (c.in_ok-typed.typed, p) c.if-is_some.self
    (c.args.self.now.is_whole && c.if-is_some.self) c.if-eq.self (c.args.self.now.has_es256 || c.if-eq.self) h.0 w
    refl s refl h.2)
