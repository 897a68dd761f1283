use Rattle.std.proofs.Common.{◌-◌, true, rules}
use Rattle.ctap_cbor.specs.Views.{to_part}
use Rattle.ctap_message.proofs.Collecting.{options_adds}
use Rattle.ctap_message.proofs.options.OptionsMembers.member.Goals as goal

pub returns-in-Text-rk : goal.returns-in-Text-rk
returns-in-Text-rk c = options_adds (5 - c.args.level) (to_part c.args.key) (to_part c.in_ok-value.value)
    c.is_some-typed.result c.args.self.now (record c.args.self.now { rk = c.as_bool-self.result }) c.args.cursor.now
    c.read_whole_item.new.self c.in_ok-value.ensures (search rules) (search rules)

pub returns-in-Text-up : goal.returns-in-Text-up
returns-in-Text-up c = options_adds (5 - c.args.level) (to_part c.args.key) (to_part c.in_ok-value.value)
    c.is_some-typed-in-Text-up.result c.args.self.now (record c.args.self.now { up = c.as_bool-self-in-Text-up.result })
    c.args.cursor.now c.read_whole_item.new.self c.in_ok-value.ensures (search rules) (search rules)

pub returns-in-Text-uv : goal.returns-in-Text-uv
returns-in-Text-uv c = options_adds (5 - c.args.level) (to_part c.args.key) (to_part c.in_ok-value.value)
    c.is_some-typed-in-Text-uv.result c.args.self.now (record c.args.self.now { uv = c.as_bool-self-in-Text-uv.result })
    c.args.cursor.now c.read_whole_item.new.self c.in_ok-value.ensures (search rules) (search rules)

pub returns-in_default : goal.returns-in_default
returns-in_default c = options_adds (5 - c.args.level) (to_part c.args.key) (to_part c.in_ok-value.value) true
    c.args.self.now c.args.self.now c.args.cursor.now c.read_whole_item.new.self c.in_ok-value.ensures (search rules)
    (search rules)

pub returns-in_default-2 : goal.returns-in_default-2
returns-in_default-2 c = options_adds (5 - c.args.level) (to_part c.args.key) (to_part c.in_ok-value.value) true
    c.args.self.now c.args.self.now c.args.cursor.now c.read_whole_item.new.self c.in_ok-value.ensures (search rules)
    (search rules)
