use Rattle.std.proofs.Common.{◌≡◌, ℕ, ◌∙◌, ◌++◌, List, ap, subst, arith, Err}
use Rattle.std.specs.Prelude.{flat_map}
use Rattle.hy_base.specs.declared.layout.Shape.{Shape}
use Rattle.hy_base.specs.Shape.{IsGoodShape}
use Rattle.hy_formats.specs.EntryFormat.{spelling}
use Rattle.hy_formats.specs.StreamFormat.{frame, stream_bytes, stream_head}
use Rattle.hy_log.specs.View.{header_of}
use Rattle.hy_cli.specs.declared.commands.Report.TheVariants.{Stream}
use Rattle.hy_run.proofs.Inspecting.{audit_first_as, fault_told_as, streamed_log}
use Rattle.hy_entries.proofs.PastCut.{from_start, refused_past}
use Rattle.hy_run.proofs.inspect.stream.Goals as goal

pub returns-clause-text : goal.returns-clause-text
returns-clause-text g c =
    let log = c.args.log.now in
    let whole : log.from ≡ 0 = omega (arith, c.from-from.ensures.from, c.if-from-gt0.false) in
    let read = c.in_ok-read_into.ensures.read in
    let shape = c.shape-shape.ensures.shape in
    let bytes : c.read_into.new.receiver.bytes.items ≡ stream_bytes log.shape read.0 =
    read.2.1 ∙ ap (λ (t : List ℕ). t ++ flat_map (λ e. frame (spelling c.shape-shape.result.version e)) read.0) (c.in_ok-push_head.ensures ∙ ap (λ (t : List ℕ). t ++ stream_head c.shape-shape.result) c.new-bytes.ensures.items) ∙ ap (λ (s : Shape). stream_bytes s read.0) shape in
    streamed_log g.D.Disk.tells (header_of log) log.bodies read.0 c.read_into.new.receiver.bytes.items whole (from_start g.D.Disk.tells log.shape log.from log.bodies read.0 whole read.1)
    (subst IsGoodShape shape c.shape-shape.ensures.good) c.a_stream_is_followed.ensures bytes

pub returns-in_err-read_into-clause-refused : goal.returns-in_err-read_into-clause-refused
returns-in_err-read_into-clause-refused g c =
    fault_told_as c.from_residual-in_err-read_into.result Stream g.D.Disk.tells (header_of c.args.log.now) c.args.log.now.bodies c.in_err-read_into.field-0.0 _ _ c.from_residual-in_err-read_into.ensures.1
    (refused_past g.D.Disk.tells c.args.log.now.shape c.args.log.now.from 0 c.args.log.now.bodies c.in_err-read_into.field-0.0 (let whole : 0 ≡ c.args.log.now.from = omega (arith, c.from-from.ensures.from, c.if-from-gt0.false) in whole) c.in_err-read_into.ensures.refused) (λ is. c.in_err-read_into.ensures.look.device (ap Err is))

pub returns-in_err-read_into-clause-comes_first : goal.returns-in_err-read_into-clause-comes_first
returns-in_err-read_into-clause-comes_first g c = audit_first_as c.from_residual-in_err-read_into.result c.in_err-read_into.field-0.0 (header_of c.args.log.now) c.args.log.now.bodies c.from_residual-in_err-read_into.ensures.1
