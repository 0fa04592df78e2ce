use Rattle.std.proofs.Common.{◌≡◌, map, sym, ap, subst, ◌∙◌}
use Rattle.hy_disk.specs.Content.{Image}
use Rattle.hy_disk.specs.Moments.{LeavesOnly}
use Rattle.hy_formats.specs.declared.header.Header.{Header}
use Rattle.hy_formats.specs.EntryFormat.{spelling}
use Rattle.hy_formats.specs.LogDevice.{Holds, IsKept}
use Rattle.hy_log.specs.View.{header_of}
use Rattle.hy_compact.specs.Compaction.{HoldsFirst, IsPartlyCopied}
use Rattle.hy_compact.proofs.Copies.{opened_only, opened_then, rest_image}
use Rattle.hy_compact.proofs.compacting.copy_past.Goals as goal

pub returns-in-Err-clause-any_moment : goal.returns-in-Err-clause-any_moment
returns-in-Err-clause-any_moment g c told rest =
    opened_only g.D.Disk.moment g.D.Disk.left_since (record { shape = c.args.shape; from = c.args.base }) c.args.entries.now (g.D.Disk.content c.args.spare).seen (c.requires.unborn told) c.args.spare c.in-Err.refused.disk (c.in-Err.ensures.any_moment told rest)

pub returns-then-is_err-clause-any_moment : goal.returns-then-is_err-clause-any_moment
returns-then-is_err-clause-any_moment g c told rest =
    let disk = c.close-then-is_err.ensures.disk ∙ ap (λ v. v.disk) c.reserve.ensures.same in
    subst (λ d. LeavesOnly g.D.Disk.moment g.D.Disk.left_since c.args.spare d (IsPartlyCopied (record { shape = c.args.shape; from = c.args.base }) c.args.entries.now)) (sym disk)
    (opened_only g.D.Disk.moment g.D.Disk.left_since (record { shape = c.args.shape; from = c.args.base }) c.args.entries.now (g.D.Disk.content c.args.spare).seen (c.requires.unborn told) c.args.spare c.in-Ok.log.disk (c.in-Ok.ensures.any_moment told rest))

pub returns-in-Ok-append_all-clause-copied : goal.returns-in-Ok-append_all-clause-copied
returns-in-Ok-append_all-clause-copied g c told image now =
    let h : Header = record { shape = c.args.shape; from = c.args.base } in
    let header : header_of c.reserve.new.self ≡ h = ap header_of c.reserve.ensures.same ∙ (c.is_blank.ensures.is c.if-not-is_blank.false).0 in
    let done = c.in-Ok-append_all.ensures.copied told in
    let there = subst (λ d. Image (g.D.Disk.content d) image) c.close-in-Ok-append_all.ensures.disk now in
    rest_image (g.D.Disk.content c.append_all.new.spare.disk) h (map (spelling c.args.shape.version) c.args.entries.now) done.0 (subst (λ (k : Header). Holds k (map (spelling k.shape.version) c.args.entries.now) (g.D.Disk.content c.append_all.new.spare.disk).seen) header done.1) image there

pub returns-in-Ok-append_all-clause-any_moment : goal.returns-in-Ok-append_all-clause-any_moment
returns-in-Ok-append_all-clause-any_moment g c told rest =
    let h : Header = record { shape = c.args.shape; from = c.args.base } in
    let header : header_of c.reserve.new.self ≡ h = ap header_of c.reserve.ensures.same ∙ (c.is_blank.ensures.is c.if-not-is_blank.false).0 in
    let run = subst (λ (k : Header). LeavesOnly g.D.Disk.moment g.D.Disk.left_since c.reserve.new.self.disk c.append_all.new.spare.disk (HoldsFirst k c.args.entries.now)) header (c.append_all.ensures.any_moment told) in
    let opened = subst (λ d. LeavesOnly g.D.Disk.moment g.D.Disk.left_since c.args.spare d (IsKept (g.D.Disk.content c.args.spare).seen)) (sym (ap (λ v. v.disk) c.reserve.ensures.same)) (c.in-Ok.ensures.any_moment told rest) in
    subst (λ d. LeavesOnly g.D.Disk.moment g.D.Disk.left_since c.args.spare d (IsPartlyCopied h c.args.entries.now)) (sym c.close-in-Ok-append_all.ensures.disk)
    (opened_then g.D.Disk.moment g.D.Disk.left_since h c.args.entries.now (g.D.Disk.content c.args.spare).seen (c.requires.unborn told) c.args.spare c.reserve.new.self.disk c.append_all.new.spare.disk opened run)

pub returns-in-Err-append_all-clause-any_moment : goal.returns-in-Err-append_all-clause-any_moment
returns-in-Err-append_all-clause-any_moment g c told rest =
    let h : Header = record { shape = c.args.shape; from = c.args.base } in
    let header : header_of c.reserve.new.self ≡ h = ap header_of c.reserve.ensures.same ∙ (c.is_blank.ensures.is c.if-not-is_blank.false).0 in
    let run = subst (λ (k : Header). LeavesOnly g.D.Disk.moment g.D.Disk.left_since c.reserve.new.self.disk c.append_all.new.spare.disk (HoldsFirst k c.args.entries.now)) header (c.append_all.ensures.any_moment told) in
    let opened = subst (λ d. LeavesOnly g.D.Disk.moment g.D.Disk.left_since c.args.spare d (IsKept (g.D.Disk.content c.args.spare).seen)) (sym (ap (λ v. v.disk) c.reserve.ensures.same)) (c.in-Ok.ensures.any_moment told rest) in
    subst (λ d. LeavesOnly g.D.Disk.moment g.D.Disk.left_since c.args.spare d (IsPartlyCopied h c.args.entries.now)) (sym c.close-in-Err-append_all.ensures.disk)
    (opened_then g.D.Disk.moment g.D.Disk.left_since h c.args.entries.now (g.D.Disk.content c.args.spare).seen (c.requires.unborn told) c.args.spare c.reserve.new.self.disk c.append_all.new.spare.disk opened run)
