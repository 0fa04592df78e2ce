use Rattle.std.proofs.Common.{◌≡◌, ◌+◌, ◌≤◌, ◌++◌, ◌∙◌, ℕ, List, length, ap, subst, append-nil, arith}
use Rattle.std.proofs.lemmas.Bool.{false≢true}
use Rattle.hy_formats.specs.declared.header.Header.{Header}
use Rattle.hy_log.specs.Pipelined.{header_of_pipe}
use Rattle.hy_log.specs.View.{HoldsUpTo}
use Rattle.hy_log.proofs.Commits.{room_first, room_second}
use Rattle.hy_log.proofs.Failing.{err_holds}
use Rattle.hy_log.proofs.pipelined.PipelinedLog.flush.Goals as goal

moved : (s t : Header) (bodies same batch all : List (List ℕ)) (image : List ℕ) → s ≡ t → bodies ≡ same → batch ≡ all → HoldsUpTo s bodies batch image → HoldsUpTo t same all image
moved s t bodies same batch all image shape is more holds =
    subst (λ (l : List (List ℕ)). HoldsUpTo t same l image) more
    (subst (λ (l : List (List ℕ)). HoldsUpTo t l batch image) is (subst (λ (k : Header). HoldsUpTo k bodies batch image) shape holds))

-- the first commit laid the batch down, and what it acknowledged is nothing
pub returns-in_err-commit-2-clause-kept : goal.returns-in_err-commit-2-clause-kept
returns-in_err-commit-2-clause-kept g c told =
    let old = c.args.self.now in
    let mid = c.commit.new.self in
    let bodies : mid.bodies ≡ old.bodies = (c.in_ok-commit.ensures.acknowledged told).0 ∙ ap (λ (l : List (List ℕ)). old.bodies ++ l) c.requires.nothing_laid ∙ append-nil old.bodies in
    let header : header_of_pipe mid ≡ header_of_pipe old = λ i. record { shape = c.commit.ensures.shape i; from = c.commit.ensures.from i } in
    let failed = c.in_err-commit-2.ensures.kept told in
    err_holds _ c.from_residual-in_err-commit-2.result
    (failed.0 ∙ bodies, λ image is. moved (header_of_pipe mid) (header_of_pipe old) mid.bodies old.bodies mid.laid old.batch image header bodies c.in_ok-commit.ensures.committed.1 (failed.1 image is))

pub returns-in_err-commit-clause-room : goal.returns-in_err-commit-clause-room
returns-in_err-commit-clause-room g c k b has =
    let old = c.args.self.now in
    absurd (false≢true (c.in_err-commit.ensures.room (k + 2) (b + 1) (room_first g.D.Disk.has_room old.disk old.laid old.batch k b c.requires.nothing_laid c.requires.some has)).0)

pub returns-in_err-commit-2-clause-room : goal.returns-in_err-commit-2-clause-room
returns-in_err-commit-2-clause-room g c k b has =
    let old = c.args.self.now in
    let mid = c.commit.new.self in
    let left = (c.in_ok-commit.ensures.room (k + 2) (b + 1) (room_first g.D.Disk.has_room old.disk old.laid old.batch k b c.requires.nothing_laid c.requires.some has)).1 in
    let some : 1 ≤ length mid.laid = omega (arith, c.requires.some, ap length c.in_ok-commit.ensures.committed.1) in
    absurd (false≢true (c.in_err-commit-2.ensures.room k b (room_second g.D.Disk.has_room mid.disk mid.laid mid.batch k b some c.commit.ensures.emptied left)).0)

pub returns-clause-room : goal.returns-clause-room
returns-clause-room g c k b has =
    let old = c.args.self.now in
    let mid = c.commit.new.self in
    let left = (c.in_ok-commit.ensures.room (k + 2) (b + 1) (room_first g.D.Disk.has_room old.disk old.laid old.batch k b c.requires.nothing_laid c.requires.some has)).1 in
    let some : 1 ≤ length mid.laid = omega (arith, c.requires.some, ap length c.in_ok-commit.ensures.committed.1) in
    c.in_ok-commit-2.ensures.room k b (room_second g.D.Disk.has_room mid.disk mid.laid mid.batch k b some c.commit.ensures.emptied left)
