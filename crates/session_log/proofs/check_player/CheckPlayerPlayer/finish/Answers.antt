use Rattle.std.proofs.Common.{◌+◌, Option, refl, ap}
use Rattle.hid_packet.specs.declared.packet.Packet.{Packet}
use Rattle.session_log.specs.Check.{check_machine, due_packets, missing_of}
use Rattle.session_log.specs.declared.fault.LogFault.TheVariants.{Differs}
use Rattle.session_log.proofs.{Groups.at_most, Groups.standing, Groups.closes_at, Groups.closes_by}
use Rattle.session_log.proofs.check_player.CheckPlayerPlayer.finish.Goals as goal

pub returns-in-Some : goal.returns-in-Some
returns-in-Some g c =
    let o = c.args.self.now in
    let f = Differs o.input (o.found + 1) in
    closes_at check_machine g.T.Target.taken g.T.Target.failed (standing o c.args._session.now) c.args.writer.now
    o.input
    (o.found + 1) c.difference.result (ap (λ (a : Option Packet). missing_of (due_packets a o.outbox) f) c.in-Some.is)
    c.difference.ensures (λ s. refl)

pub returns-in-None : goal.returns-in-None
returns-in-None g c =
    let o = c.args.self.now in
    let f = Differs o.input (o.found + 1) in
    closes_by check_machine g.T.Target.taken g.T.Target.failed (standing o c.args._session.now)
    (c.args.writer.now, c.put_check_result.new.writer) c.put_check_result.result _
    (ap (λ (a : Option Packet). missing_of (due_packets a o.outbox) f) c.in-None.is) refl c.put_check_result.ensures (λ s. refl)

pub put_check_result-requires : goal.put_check_result-requires
put_check_result-requires g c = c.requires.write

pub difference-requires : goal.difference-requires
difference-requires g c =
    let o = c.args.self.now in
    let n = c.requires.ready.0 in
    let ready = c.requires.ready.2 in
    at_most n o.lines o.found ready.0 c.requires.ready.1 ready.1
