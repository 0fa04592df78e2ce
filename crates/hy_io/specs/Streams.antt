-- What the adapters over std's readers and writers show: their counts of faults alone.
use Rattle.std.specs.Prelude.{ℕ}
use Rattle.hy_io.specs.declared.std_streams.StdSource.{StdSource}
use Rattle.hy_io.specs.declared.std_streams.StdSink.{StdSink}

abbrev pub reader_faults : {R : Type 0} → StdSource R → ℕ
reader_faults source = source.faults

abbrev pub writer_faults : {W : Type 0} → StdSink W → ℕ
writer_faults sink = sink.faults
