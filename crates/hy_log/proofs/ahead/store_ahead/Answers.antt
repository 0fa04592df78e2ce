use Rattle.std.proofs.Common.{ℕ, List}
use Rattle.hy_disk.proofs.Images.{image_synced}
use Rattle.hy_disk.proofs.Moments.{started, goes_on}
use Rattle.hy_log.specs.Ahead.{IsAhead}
use Rattle.hy_log.proofs.TwoGates.{ahead_image, meanwhile_settled, meanwhile_gate, meanwhile_behind}
use Rattle.hy_log.proofs.ahead.store_ahead.Goals as goal

pub returns-in_err-open_gate-clause-any_moment : goal.returns-in_err-open_gate-clause-any_moment
returns-in_err-open_gate-clause-any_moment g c told =
    let old = c.args.disk.now in
    let seen = (g.D.Disk.content old).seen in
    let within = c.requires.within told in
    let P : List ℕ → Type 0 = IsAhead c.args.opens c.args.gate c.args.next seen in
    let none = meanwhile_settled c.args.opens c.args.gate c.args.next seen (g.D.Disk.content old) (c.requires.settled told) in
    let gate = meanwhile_gate c.args.opens c.args.gate c.args.next seen (g.D.Disk.content old) (g.D.Disk.content c.open_gate.new.disk) none (c.open_gate.ensures.pends told) in
    let first = started g.D.Disk.moment g.D.Disk.left_since old P (λ i left. ahead_image c.args.opens c.args.gate c.args.next seen (g.D.Disk.content old) within none i (g.met.D.Disk.only_now old i left)) in
    goes_on g.D.Disk.moment g.D.Disk.left_since old old c.open_gate.new.disk P _ first c.open_gate.ensures.time (ahead_image c.args.opens c.args.gate c.args.next seen (g.D.Disk.content c.open_gate.new.disk) within gate)

pub returns-in_err-write_some-clause-any_moment : goal.returns-in_err-write_some-clause-any_moment
returns-in_err-write_some-clause-any_moment g c told =
    let old = c.args.disk.now in
    let seen = (g.D.Disk.content old).seen in
    let within = c.requires.within told in
    let P : List ℕ → Type 0 = IsAhead c.args.opens c.args.gate c.args.next seen in
    let none = meanwhile_settled c.args.opens c.args.gate c.args.next seen (g.D.Disk.content old) (c.requires.settled told) in
    let gate = meanwhile_gate c.args.opens c.args.gate c.args.next seen (g.D.Disk.content old) (g.D.Disk.content c.open_gate.new.disk) none (c.open_gate.ensures.pends told) in
    let both = meanwhile_behind c.args.opens c.args.gate c.args.next seen (g.D.Disk.content c.open_gate.new.disk) (g.D.Disk.content c.write_some.new.disk) _ gate (c.write_some.ensures.pends told) in
    let first = started g.D.Disk.moment g.D.Disk.left_since old P (λ i left. ahead_image c.args.opens c.args.gate c.args.next seen (g.D.Disk.content old) within none i (g.met.D.Disk.only_now old i left)) in
    let opened = goes_on g.D.Disk.moment g.D.Disk.left_since old old c.open_gate.new.disk P _ first c.open_gate.ensures.time (ahead_image c.args.opens c.args.gate c.args.next seen (g.D.Disk.content c.open_gate.new.disk) within gate) in
    goes_on g.D.Disk.moment g.D.Disk.left_since old c.open_gate.new.disk c.write_some.new.disk P _ opened c.write_some.ensures.time (ahead_image c.args.opens c.args.gate c.args.next seen (g.D.Disk.content c.write_some.new.disk) within both)

pub returns-clause-any_moment : goal.returns-clause-any_moment
returns-clause-any_moment g c told =
    let old = c.args.disk.now in
    let seen = (g.D.Disk.content old).seen in
    let within = c.requires.within told in
    let P : List ℕ → Type 0 = IsAhead c.args.opens c.args.gate c.args.next seen in
    let mid = g.D.Disk.content c.write_some.new.disk in
    let none = meanwhile_settled c.args.opens c.args.gate c.args.next seen (g.D.Disk.content old) (c.requires.settled told) in
    let gate = meanwhile_gate c.args.opens c.args.gate c.args.next seen (g.D.Disk.content old) (g.D.Disk.content c.open_gate.new.disk) none (c.open_gate.ensures.pends told) in
    let both = meanwhile_behind c.args.opens c.args.gate c.args.next seen (g.D.Disk.content c.open_gate.new.disk) mid _ gate (c.write_some.ensures.pends told) in
    let first = started g.D.Disk.moment g.D.Disk.left_since old P (λ i left. ahead_image c.args.opens c.args.gate c.args.next seen (g.D.Disk.content old) within none i (g.met.D.Disk.only_now old i left)) in
    let opened = goes_on g.D.Disk.moment g.D.Disk.left_since old old c.open_gate.new.disk P _ first c.open_gate.ensures.time (ahead_image c.args.opens c.args.gate c.args.next seen (g.D.Disk.content c.open_gate.new.disk) within gate) in
    let pending = ahead_image c.args.opens c.args.gate c.args.next seen mid within both in
    let wrote = goes_on g.D.Disk.moment g.D.Disk.left_since old c.open_gate.new.disk c.write_some.new.disk P _ opened c.write_some.ensures.time pending in
    goes_on g.D.Disk.moment g.D.Disk.left_since old c.write_some.new.disk c.sync.new.self P _ wrote c.sync.ensures.time
    (image_synced c.sync.result mid _ P (c.sync.ensures.synced told) c.sync.ensures.unsynced pending (pending mid.seen (g.met.D.Disk.seen_may_stay c.write_some.new.disk told)))

pub returns-clause-unarmed : goal.returns-clause-unarmed
returns-clause-unarmed g c unarmed = c.sync.ensures.unarmed (c.write_some.ensures.unarmed (c.open_gate.ensures.unarmed unarmed))
