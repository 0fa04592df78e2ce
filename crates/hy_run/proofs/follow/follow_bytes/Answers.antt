use Rattle.std.proofs.Common.{[], ap, Err}
use Rattle.hy_run.proofs.Streaming.{end_told, fed_fault, whole_stream}
use Rattle.hy_run.proofs.follow.follow_bytes.Goals as goal

pub returns-in_err-feed-clause-refused : goal.returns-in_err-feed-clause-refused
returns-in_err-feed-clause-refused g c =
    fed_fault c.from_residual.result c.in_err-feed.field-0.0 c.args.bytes.now c.feed.new.self c.from_residual.ensures.1
    (λ fine. c.in_err-feed.ensures.taken [] c.new-follower.ensures.followed (λ memory. fine (cc memory))) (λ bad is. c.in_err-feed.ensures.refused bad (ap Err is))

pub returns-in_err-finish-clause-refused : goal.returns-in_err-finish-clause-refused
returns-in_err-finish-clause-refused g c =
    end_told c.from_residual-in_err-finish.result c.in_err-finish.field-0.0 c.args.bytes.now c.from_residual-in_err-finish.ensures.1
    (c.in_err-finish.ensures.whole c.args.bytes.now (c.in_ok-feed.ensures.taken [] c.new-follower.ensures.followed (λ memory. cc memory)))

pub returns-clause-text : goal.returns-clause-text
returns-clause-text g c =
    let followed = c.in_ok-feed.ensures.taken [] c.new-follower.ensures.followed (λ memory. cc memory) in
    (whole_stream c.args.bytes.now (c.in_ok-finish.ensures.whole c.args.bytes.now followed), c.in_ok-told_text.ensures c.args.bytes.now followed)
