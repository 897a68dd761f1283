use Rattle.std.proofs.Common.{ap, inl, inr, refl, sym}
use Rattle.hidlog.specs.declared.host.Host.{Host}
use Rattle.hidlog.proofs.host.Host.play.Goals as goal

pub returns-then-failures-gt0-clause-played : goal.returns-then-failures-gt0-clause-played
returns-then-failures-gt0-clause-played g c =
    (c.run-outcome.new.self, c.run-outcome.ensures.answered, refl, inl (refl, refl))

pub returns-clause-played : goal.returns-clause-played
returns-clause-played g c =
    let more = c.further_report-more in (
      c.run-outcome.new.self,
      c.run-outcome.ensures.answered,
      ap (λ (h : Host g.row.D.Denot g.row.L.Denot g.row.O.Denot g.row.E.Denot). record h { faults = c.write_error_text.new.faults })
          more.ensures,
      inr (
        c.as_slice.result.now,
        rw (sym (ap (λ (h : Host g.row.D.Denot g.row.L.Denot g.row.O.Denot g.row.E.Denot). h.faults) more.ensures))
            c.write_error_text.ensures,
      ),
    )
