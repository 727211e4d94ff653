-- `dispatch_request::read_request` meets its contract: the end, a stop, a blank, or a record's request. Assumes nothing.
use mathlib.Core.Path.{◌∙◌, ap}
use Rattle.std.specs.Prelude.{Ok}
use Rattle.std.proofs.lemmas.Result.{err_from_is_err_and}
use Rattle.record.proofs.Judgements.{Sounds, judged_sound}
use Rattle.dispatch_request.specs.Request.{view_of}
use Rattle.dispatch_request.proofs.Standing.{Seen, read_end, read_refused, read_padded, read_record_is}
use Rattle.dispatch_request.proofs.read_request.Goals as goal

pub returns-then-position-readable_end : goal.returns-then-position-readable_end
returns-then-position-readable_end c = read_end _ _ _ _ _ c.if-position-readable_end.true

pub slice_bounds-own-end : goal.slice_bounds-own-end
slice_bounds-own-end c =
    let sound : Sounds c.args.position c.segment_rest-rest.result c.seen_from-seen.result.now c.in-Message.judged.total c.in-Message.judged.text = judged_sound _ _ _ c.judge_at.ensures (c.in_ok-n.was ∙ ap Ok c.in-Message.is) in
    sound.own.whole

pub request_of-requires : goal.request_of-requires
request_of-requires c =
    let s : Sounds c.args.position c.segment_rest-rest.result c.seen_from-seen.result.now c.in-Message.judged.total c.in-Message.judged.text = judged_sound _ _ _ c.judge_at.ensures (c.in_ok-n.was ∙ ap Ok c.in-Message.is) in
    let p = c.requires in
    (s.holds, s.size ∙ s.own.whole, s.text, p.2, p.3)

pub returns-in_err-n : goal.returns-in_err-n
returns-in_err-n c =
    let seen : let a = c.args in Seen a.geometry (view_of a.log.now a.readable_end) a.position c.segment_rest-rest.result c.seen_from-seen.result.now c.judge_at.result = record { before = c.if-position-readable_end.false; rest = c.segment_rest-rest.ensures; bytes = c.seen_from-seen.ensures; judged = c.judge_at.ensures } in
    let p = err_from_is_err_and c.from_residual.result c.from_residual.ensures.1 in
    rw (p.1, p.2) (read_refused _ _ _ _ _ seen c.in_err-n.was)

pub returns-in-Blank : goal.returns-in-Blank
returns-in-Blank c =
    let seen : let a = c.args in Seen a.geometry (view_of a.log.now a.readable_end) a.position c.segment_rest-rest.result c.seen_from-seen.result.now c.judge_at.result = record { before = c.if-position-readable_end.false; rest = c.segment_rest-rest.ensures; bytes = c.seen_from-seen.ensures; judged = c.judge_at.ensures } in
    read_padded _ _ _ _ _ seen (c.in_ok-n.was ∙ ap Ok c.in-Blank.is)

pub returns-in-Message : goal.returns-in-Message
returns-in-Message c =
    let seen : let a = c.args in Seen a.geometry (view_of a.log.now a.readable_end) a.position c.segment_rest-rest.result c.seen_from-seen.result.now c.judge_at.result = record { before = c.if-position-readable_end.false; rest = c.segment_rest-rest.ensures; bytes = c.seen_from-seen.ensures; judged = c.judge_at.ensures } in
    read_record_is _ _ _ _ _ seen (c.in_ok-n.was ∙ ap Ok c.in-Message.is) c.requires.1 c.request_of.ensures
