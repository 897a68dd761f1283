use Rattle.std.proofs.Common.{[], inl, inr, refl}
use Rattle.session_log.specs.Command.{start_with}
use Rattle.hidlog.proofs.host.Host.play_open.Goals as goal

pub returns-in-Err : goal.returns-in-Err
returns-in-Err g c = inl (refl, c.in-Err.ensures.fails)

pub returns-in-Err-check_writable : goal.returns-in-Err-check_writable
returns-in-Err-check_writable g c =
    let begun = c.in_default.ensures.begins in
    inr (begun.0, begun.1, inl (refl, c.in-Err-check_writable.ensures))

pub returns-in-Err-flush_then : goal.returns-in-Err-flush_then
returns-in-Err-flush_then g c =
    let begun = c.in_default.ensures.begins in
    let played = c.play-answer in
    inr (
      begun.0,
      begun.1,
      inr (
        played.result,
        c.flush_then.result,
        played.new.session,
        played.new.writer,
        played.ensures.plays (start_with begun.0) [] begun.2,
        c.flush_then.ensures,
        rw c.in-Err-flush_then.is (refl, refl),
        refl,
      ),
    )

pub returns-in-Err-save_rows : goal.returns-in-Err-save_rows
returns-in-Err-save_rows g c =
    let begun = c.in_default.ensures.begins in
    let played = c.play-answer in
    inr (
      begun.0,
      begun.1,
      inr (
        played.result,
        c.flush_then.result,
        played.new.session,
        played.new.writer,
        played.ensures.plays (start_with begun.0) [] begun.2,
        c.flush_then.ensures,
        rw c.in_default-flush_then.is c.in-Err-save_rows.ensures,
        refl,
      ),
    )

pub returns-in-Ok : goal.returns-in-Ok
returns-in-Ok g c =
    let begun = c.in_default.ensures.begins in
    let played = c.play-answer in
    inr (
      begun.0,
      begun.1,
      inr (
        played.result,
        c.flush_then.result,
        played.new.session,
        played.new.writer,
        played.ensures.plays (start_with begun.0) [] begun.2,
        c.flush_then.ensures,
        rw c.in_default-flush_then.is c.in-Ok.ensures,
        refl,
      ),
    )
