use Rattle.std.proofs.Common.{◌≡◌, ◌-◌, ◌++◌, length}
use Rattle.std.specs.Prelude.{replicate}
use Rattle.hy_memlog.specs.Pages.{HasRoomFor}
use Rattle.hy_memlog.proofs.pages.put_all.Given as goal

abbrev pub invariant-loop-at : goal.invariant-loop-at
invariant-loop-at l = record {
  ready : HasRoomFor (length l.body) (l.count - l._at) l.log;
  shape : l.log.shape ≡ l.fn.log.shape;
  bodies : l.log.bodies ≡ l.fn.log.bodies ++ replicate l._at l.body;
}
