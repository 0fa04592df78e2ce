use Rattle.std.proofs.Common.{sym, ap, ◌∙◌}
use Rattle.std.specs.Prelude.{bytes_eq}
use Rattle.hy_script.proofs.ScriptLines.{begin_listed, is_last}
use Rattle.hy_script.proofs.script.read_listing.Goals as goal

pub returns-then-eq-clause-fits : goal.returns-then-eq-clause-fits
returns-then-eq-clause-fits c = c.client_of.ensures.fits c.args.shape

pub returns-in-Some-clause-exact : goal.returns-in-Some-clause-exact
returns-in-Some-clause-exact c = λ keeps.
    let last = is_last c.args.clients.now c.in-Some.last.now c.in-Some.ensures.value in
    begin_listed c.args.sim (record { shape = c.args.shape; servers = c.args.servers; keeps = keeps; tables = c.args.tables; clients = c.args.clients.now }) c.in-Some.last.now _ c.cut_fields.ensures.0 c.cut_fields.result.0.now c.begin_of.result
    c.cut_fields.ensures.1 (ap (bytes_eq c.cut_fields.result.0.now) (sym c.as_slice-2.ensures) ∙ sym c.eq-2.ensures ∙ c.if-eq-3.true) last.some last.count (c.begin_of.ensures.exact c.cut_fields.ensures.0 c.cut_fields.ensures.2)
