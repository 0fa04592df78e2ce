use Rattle.std.proofs.Common.{◌≡◌, ◌∙◌, ◌+◌, ◌-◌, length, min, drop, take, ap, arith}
use Rattle.hy_readahead.proofs.Giving.{given_of, into_is}
use Rattle.hy_readahead.proofs.piece.give.Goals as goal

pub returns-clause-bytes : goal.returns-clause-bytes
returns-clause-bytes c = λ tells seen is tell.
    let bytes = c.args.piece.now.bytes.items in
    let from = c.args.place - c.in-Some.held.place in
    let n = c.min-count.result in
    let size : from + n - from ≡ n = omega arith in
    into_is seen bytes c.args.into.now c.copy_from_slice.new.self from c.args.place n
    (given_of tells seen bytes c.args.piece.now.held c.in-Some.held c.args.place (length c.args.into.now) n c.in-Some.is is tell c.requires.covers (c.min-count.ensures ∙ ap (λ k. min (length c.args.into.now) k) c.saturating_sub.ensures))
    (c.copy_from_slice.ensures.after ∙ (ap (λ k. take k (drop from c.deref.result.now)) size ∙ ap (λ xs. take n (drop from xs)) c.deref.ensures.value))
