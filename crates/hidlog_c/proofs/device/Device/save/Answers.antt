use Rattle.std.proofs.{Common.arith, Common.inl, Common.w32, lemmas.Int.to_z_pos}
use Rattle.hidlog_c.{proofs.Written.saves_len, specs.declared.capacity.TheConstants.SNAPSHOT_MAX_LEN}
use Rattle.hidlog_c.proofs.device.Device.save.Goals as goal

pub returns : goal.returns
returns c =
    let within = c.if-out-lt-SNAPSHOT_MAX_LEN.false in
    inl (
      c.save_front.result,
      saves_len SNAPSHOT_MAX_LEN c.args.self.now c.args.out.now c.save_front.new.front
          c.save_front.result (omega (arith, within)) c.save_front.ensures.same_length c.save_front.ensures.saved,
      to_z_pos w32 c.save_front.result (omega (arith, c.save_front.ensures.limit)),
    )
