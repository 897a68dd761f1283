use Rattle.std.proofs.Common.{◌∙◌, List, ℕ, refl, ap, sym, subst, arith}
use Rattle.session_log.specs.{Replay.ending_of, Replay.PlaysLine, Semantics.with_line_feed}
use Rattle.session_log.proofs.Cutting.{cut_twice, fits_in, fits_in_text, short_front}
use Rattle.session_log.proofs.player.process_first_line.Goals as goal

pub parse_and_process_line-played-requires : goal.parse_and_process_line-played-requires
parse_and_process_line-played-requires g c =
    let w = c.args.window.now in
    let end = c.args.end in
    let text = c.split_at.result.0.now in
    let line = c.split_at-2.result.0.now in
    let front = c.split_at.ensures.front in
    let cut = cut_twice w c.as_slice.result.now text line end c.as_slice.ensures.value front c.split_at-2.ensures.front
    in
    let short = short_front w line end cut.1 c.requires.within c.requires.short in
    let whole = cut.0 ∙ c.requires.whole ∙ ap with_line_feed (sym cut.1) in
    (assumption c.well_formed, (c.requires.write, (short, (whole, (c.requires.few, c.requires.ready)))))

pub returns : goal.returns
returns g c =
    let w = c.args.window.now in
    let end = c.args.end in
    let text = c.split_at.result.0.now in
    let line = c.split_at-2.result.0.now in
    let front = c.split_at.ensures.front in
    let cut = cut_twice w c.as_slice.result.now text line end c.as_slice.ensures.value front c.split_at-2.ensures.front
    in
    let state = g.P.Player.state in
    let new = c.parse_and_process_line-played.new in
    let says = c.parse_and_process_line-played.ensures in
    record {
      played = subst
          (λ (l : List ℕ). PlaysLine g.P.Player.semantics g.T.Target.taken g.T.Target.failed c.args.number
          (state c.args.player.now c.args.session.now) (state new.player new.session) l (c.args.writer.now, new.writer)
          (ending_of c.parse_and_process_line-played.result)) cut.1 says.played;
      own = says.own;
      next = says.next;
      rest = c.drop_front.ensures;
    }

pub overflow_add-end : goal.overflow_add-end
overflow_add-end g c = omega (arith, c.requires.within, c.requires.short)

pub split_at-requires : goal.split_at-requires
split_at-requires g c = fits_in c.args.window.now _ c.args.end c.as_slice.ensures.value c.requires.within

pub split_at-requires-2 : goal.split_at-requires-2
split_at-requires-2 g c =
    let fits = fits_in c.args.window.now _ c.args.end c.as_slice.ensures.value c.requires.within in
    fits_in_text c.as_slice.result.now c.split_at.result.0.now c.args.end c.split_at.ensures.front fits

pub drop_front-requires : goal.drop_front-requires
drop_front-requires g c = fits_in c.args.window.now c.args.window.now c.args.end refl c.requires.within
