use Rattle.std.{proofs.Common.◌-◌, proofs.Common.sym, proofs.Common.ap, proofs.Common.◌∙◌, specs.Prelude.is_some}
use Rattle.ctap_cbor.specs.Views.{to_part}
use Rattle.ctap_message.proofs.{Requests.copied_some, Collecting.texts_more}
use Rattle.ctap_message.proofs.descriptor.TextStringsEntries.entry.Goals as goal

pub returns : goal.returns
returns c =
    texts_more (5 - c.args.level) (to_part c.in_ok-value.value) c.is_some.result c.args.self.now c.args.self.now
    c.args.cursor.now c.read_whole_item.new.self c.in_ok-value.ensures
    (c.is_some.ensures ∙ sym (copied_some c.as_text.result) ∙ ap is_some c.as_text.ensures)
