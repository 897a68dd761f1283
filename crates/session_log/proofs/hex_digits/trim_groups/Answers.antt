use Rattle.std.proofs.Common.{◌+◌, ◌∙◌, length, ◌-◌}
use Rattle.session_log.proofs.Decoding.{one_group_more}
use Rattle.session_log.proofs.hex_digits.trim_groups.Goals as goal

pub loop-front-preserved : goal.loop-front-preserved
loop-front-preserved g c =
    let split = c.in-Some.ensures.cases in (
      c.loop-front.invariant.0 + 1,
      c.loop-front.invariant.1
          ∙ one_group_more g.row.N c.loop-front.used.now c.in-Some.front.now c.in-Some.last.now (length c.loop-front.used.now - g.row.N) _
          _
          split.0 split.1 (c.are_all.ensures c.if-are_all.true),
    )
