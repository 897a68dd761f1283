use Rattle.std.proofs.Common.{◌-◌, true, rules}
use Rattle.ctap_cbor.specs.Views.{to_part}
use Rattle.ctap_message.proofs.Collecting.{user_adds}
use Rattle.ctap_message.proofs.user.UserMembers.member.Goals as goal

pub returns-in-Text-id : goal.returns-in-Text-id
returns-in-Text-id c = user_adds (5 - c.args.level) (to_part c.args.key) (to_part c.in_ok-value.value)
    c.is_some-typed.result c.args.self.now (record c.args.self.now { id = c.as_bytes-self.result }) c.args.cursor.now
    c.read_whole_item.new.self c.in_ok-value.ensures (search rules) (search rules)

pub returns-in-Text-name : goal.returns-in-Text-name
returns-in-Text-name c = user_adds (5 - c.args.level) (to_part c.args.key) (to_part c.in_ok-value.value)
    c.is_some-typed-in-Text-name.result c.args.self.now (record c.args.self.now { name = c.as_text-self.result })
    c.args.cursor.now c.read_whole_item.new.self c.in_ok-value.ensures (search rules) (search rules)

pub returns-in-Text-displayName : goal.returns-in-Text-displayName
returns-in-Text-displayName c = user_adds (5 - c.args.level) (to_part c.args.key) (to_part c.in_ok-value.value)
    c.is_some-typed-in-Text-displayName.result c.args.self.now c.args.self.now c.args.cursor.now c.read_whole_item.new.self
    c.in_ok-value.ensures (search rules) (search rules)

pub returns-in_default : goal.returns-in_default
returns-in_default c = user_adds (5 - c.args.level) (to_part c.args.key) (to_part c.in_ok-value.value) true
    c.args.self.now c.args.self.now c.args.cursor.now c.read_whole_item.new.self c.in_ok-value.ensures (search rules)
    (search rules)

pub returns-in_default-2 : goal.returns-in_default-2
returns-in_default-2 c = user_adds (5 - c.args.level) (to_part c.args.key) (to_part c.in_ok-value.value) true
    c.args.self.now c.args.self.now c.args.cursor.now c.read_whole_item.new.self c.in_ok-value.ensures (search rules)
    (search rules)
