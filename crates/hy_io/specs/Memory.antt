-- What the sources and the sink in memory show.
use Rattle.std.specs.Prelude.{ℕ, Bool, ◌==◌, List, length}
use Rattle.hy_io.specs.declared.memory.MemSource.{MemSource}
use Rattle.hy_io.specs.declared.memory.MemSink.{MemSink}
use Rattle.hy_io.specs.declared.sure.SureSource.{SureSource}
use Rattle.hy_io.specs.EndFailures.{Plan}

-- the bytes that are left
abbrev pub source_left : MemSource → List ℕ
source_left source = source.rest

-- its calls, and which of them fail
abbrev pub source_plan : MemSource → Plan
source_plan source = source.calls

-- the bytes that are left
abbrev pub sure_left : SureSource → List ℕ
sure_left source = source.rest

-- the bytes that it took
abbrev pub sink_taken : MemSink → List ℕ
sink_taken sink = sink.taken.items

-- how many bytes it takes in all
abbrev pub sink_room : MemSink → ℕ
sink_room sink = sink.room

-- whether no room is left
abbrev pub is_full : MemSink → Bool
is_full sink = length sink.taken.items == sink.room

-- its calls, and which of them fail
abbrev pub sink_plan : MemSink → Plan
sink_plan sink = sink.calls
