use Rattle.std.proofs.lemmas.Result.{on_ok_weaker}
use Rattle.hy_hub.specs.Trace.{header_in, faults_at_opening, away_of}
use Rattle.hy_hub.proofs.WrittenOut.{same_header, written_at_once, fillers_load}
use Rattle.hy_hub.proofs.flights.write_fillers.Goals as goal

pub returns : goal.returns
returns g c =
    let e = c.flush.ensures in
    let log = c.args.log.now in record {
      written = λ list server n lifted is out.
          let load = fillers_load out server n lifted is in
          written_at_once g.D.Disk.tells g.D.Disk.content g.D.Disk.moment g.D.Disk.left_since g.B.Since.moment g.B.Since.left g.B.Since.least g.D.Disk.faults_of (faults_at_opening list) (header_in list) (away_of list) log c.flush.new.self log.batch c.flush.result out load.1 load.2 e.position e.stops e.emptied (same_header log c.flush.new.self e.shape e.from) e.cause (λ told. on_ok_weaker c.flush.result (λ all. all.0) (e.acknowledged told)) e.kept e.any_moment;
    }
