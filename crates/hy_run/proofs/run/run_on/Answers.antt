use Rattle.std.proofs.Common.{◌≡◌, false, List, ℕ, refl, sym, subst, ap, ◌∙◌, inl, inr, length, arith}
use Rattle.hy_formats.specs.declared.header.Header.{Header}
use Rattle.hy_formats.specs.LogDevice.{Holds}
use Rattle.hy_disk.specs.Content.{Image}
use Rattle.hy_disk.specs.Moments.{LeavesOnly}
use Rattle.hy_disk.proofs.Moments.{joined, weaker}
use Rattle.hy_log.specs.View.{header_of}
use Rattle.std.specs.Prelude.{IsErr, IsTrue}
use Rattle.hy_run.specs.Fates.{Fits, opened}
use Rattle.hy_run.specs.Over.{Over, over}
use Rattle.hy_run.specs.RunningParts.{IsRanFault, IsRunPart}
use Rattle.hy_run.proofs.Restarted.{err_with, found_same, opened_same, run_then}
use Rattle.hy_run.proofs.run.run_on.Goals as goal

pub run_from-requires-clause-found : goal.run_from-requires-clause-found
run_from-requires-clause-found g c κs within =
    let same = c.open_run.ensures.same in
    let header : header_of c.args.log ≡ header_of c.open_run.new.log = (λ i. record { shape = sym same.shape i; from = sym same.from i }) in
    found_same g.D.Disk.tells (header_of c.args.log) (header_of c.open_run.new.log) c.args.log.bodies c.open_run.new.log.bodies c.in-Ok.restarted.entries.items header same.bodies c.in-Ok.ensures.found

pub run_from-requires-clause-opened : goal.run_from-requires-clause-opened
run_from-requires-clause-opened g c κs within =
    let same = c.open_run.ensures.same in
    let header : header_of c.args.log ≡ header_of c.open_run.new.log = (λ i. record { shape = sym same.shape i; from = sym same.from i }) in
    opened_same g.D.Disk.tells c.args.options c.args.script.now (header_of c.args.log) (header_of c.open_run.new.log) (g.D.Disk.content c.args.points.now) (g.D.Disk.content c.open_run.new.points) c.in-Ok.restarted.entries.items c.in-Ok.restarted.roller header c.open_run.ensures.points_look.same c.in-Ok.ensures.opened

pub returns-in-Ok-clause-ran : goal.returns-in-Ok-clause-ran
returns-in-Ok-clause-ran g c =
    let disk = g.D.Disk in
    let script = c.args.script.now in
    let old = c.args.log.disk in
    let mid = c.open_run.new.log.disk in
    let new = c.run_from.result.log in
    let after = over disk.tells disk.content disk.moment disk.left_since disk.faults_of mid new in
    let point = over disk.tells disk.content disk.moment disk.left_since disk.faults_of c.open_run.new.points c.run_from.new.points in
    let same = c.open_run.ensures.same in
    let header : header_of c.open_run.new.log ≡ header_of c.args.log = (λ i. record { shape = same.shape i; from = same.from i }) in
    inr (run_then disk.tells disk.content disk.moment disk.left_since disk.faults_of old mid new c.args.points.now c.open_run.new.points c.run_from.new.points c.args.options c.open_run.ensures.log_look.later c.open_run.ensures.points_look
    (λ bytes. bytes.items) script (header_of c.args.log) c.args.log.bodies c.run_from.result.text c.run_from.result.acked
    (λ told. weaker disk.moment disk.left_since old mid (Image (disk.content old)) (Holds (header_of c.args.log) c.args.log.bodies) (λ image is. c.at_rest.ensures told c.requires.running image is) c.open_run.ensures.log_look.quiet)
    (subst (λ (h : Header). IsRunPart (λ bytes. bytes.items) c.args.options script h c.args.log.bodies after point (LeavesOnly disk.moment disk.left_since mid new) (LeavesOnly disk.moment disk.left_since c.open_run.new.points c.run_from.new.points) c.run_from.result.text c.run_from.result.acked) header
    (subst (λ (bs : List (List ℕ)). IsRunPart (λ bytes. bytes.items) c.args.options script (header_of c.open_run.new.log) bs after point (LeavesOnly disk.moment disk.left_since mid new) (LeavesOnly disk.moment disk.left_since c.open_run.new.points c.run_from.new.points) c.run_from.result.text c.run_from.result.acked) same.bodies c.run_from.ensures.ran)))

pub returns-in-Err-clause-ran : goal.returns-in-Err-clause-ran
returns-in-Err-clause-ran g c =
    let disk = g.D.Disk in
    let script = c.args.script.now in
    let h = header_of c.args.log in
    let bodies = c.args.log.bodies in
    let old = c.args.log.disk in
    let mid = c.open_run.new.log.disk in
    let new = c.closed.result.log in
    let log : Over = over disk.tells disk.content disk.moment disk.left_since disk.faults_of old new in
    let point : Over = over disk.tells disk.content disk.moment disk.left_since disk.faults_of c.args.points.now c.open_run.new.points in
    let same = c.open_run.ensures.same in
    let header : header_of c.open_run.new.log ≡ h = (λ i. record { shape = same.shape i; from = same.from i }) in
    let running = same.stopped ∙ c.requires.running in
    let own = λ (image : List ℕ) (is : Holds (header_of c.open_run.new.log) c.open_run.new.log.bodies image). subst (λ (x : Header). Holds x bodies image) header (subst (λ (bs : List (List ℕ)). Holds (header_of c.open_run.new.log) bs image) same.bodies is) in
    let quiet = λ (told : IsTrue disk.tells). weaker disk.moment disk.left_since old mid (Image (disk.content old)) (Holds h bodies) (λ image is. c.at_rest.ensures told c.requires.running image is) c.open_run.ensures.log_look.quiet in
    inl (record {
      failed = subst (λ t. IsErr t) (sym c.closed.ensures.text) refl;
      cause = err_with c.closed.result.text _ (IsRanFault c.args.options script h bodies log point) c.closed.ensures.text
          (subst (λ (d : g.row.D.Denot). IsRanFault c.args.options script h bodies (over disk.tells disk.content disk.moment disk.left_since disk.faults_of old d) point c.in-Err.status) (sym c.closed.ensures.disk) c.in-Err.ensures.cause);
      comes_first = err_with c.closed.result.text _ (λ s. Fits c.args.options false s point (opened h bodies)) c.closed.ensures.text c.in-Err.ensures.comes_first;
      acked_is = omega (arith, c.closed.ensures.acked, same.from, ap (λ (bs : List (List ℕ)). length bs) same.bodies);
      now = λ told image left. own image (c.closed.ensures.exact told running image left);
      ever = λ told. joined disk.moment disk.left_since old mid new (Holds h bodies) (quiet told) (weaker disk.moment disk.left_since mid new _ (Holds h bodies) own (c.closed.ensures.quiet told running));
      read = record { same = c.open_run.ensures.points_look.same; quiet = c.open_run.ensures.points_look.quiet };
      unasked = c.open_run.ensures.unasked;
    })
