use Rattle.std.proofs.Common.{◌≡◌, ◌∙◌, ◌+◌, ◌-◌, ◌++◌, ◌∷◌, [], ℕ, List, length, ap, subst, arith, append_assoc, length-append}
use Rattle.std.specs.Prelude.{replicate}
use Rattle.std.proofs.lemmas.List.{length-replicate, replicate_more}
use Rattle.hy_memlog.specs.Pages.{HasRoomFor}
use Rattle.hy_memlog.proofs.Rooms.{ready_fewer}
use Rattle.hy_memlog.proofs.pages.put_all.Goals as goal

pub put-requires-clause-ready : goal.put-requires-clause-ready
put-requires-clause-ready c = ready_fewer (length c.args.body.now) 1 (c.args.count - c.loop-at._at) c.loop-at.log (omega (arith, c.loop-at-test.true)) c.loop-at.invariant.ready

pub put-requires-clause-room_left : goal.put-requires-clause-room_left
put-requires-clause-room_left c =
    let so_far = ap length c.loop-at.invariant.bodies ∙ length-append c.args.log.now.bodies (replicate c.loop-at._at c.args.body.now) in
    let many : length (replicate c.loop-at._at c.args.body.now) ≡ c.loop-at._at = length-replicate c.loop-at._at c.args.body.now in
    omega (arith, so_far, many, c.loop-at-test.true, c.requires.room_left, ap (λ s. s.cap) c.loop-at.invariant.shape)

pub loop-at-preserved : goal.loop-at-preserved
loop-at-preserved c =
    let left : c.args.count - c.loop-at._at ≡ (c.args.count - (c.loop-at._at + 1)) + 1 = omega (arith, c.loop-at-test.true) in
    record {
      ready = c.put.ensures.ready (c.args.count - (c.loop-at._at + 1)) (subst (λ (n : ℕ). HasRoomFor (length c.args.body.now) n c.loop-at.log) left c.loop-at.invariant.ready);
      shape = c.put.ensures.shape ∙ c.loop-at.invariant.shape;
      bodies = c.put.ensures.bodies ∙ ap (λ (bs : List (List ℕ)). bs ++ c.args.body.now ∷ []) c.loop-at.invariant.bodies
          ∙ append_assoc c.args.log.now.bodies (replicate c.loop-at._at c.args.body.now) (c.args.body.now ∷ [])
          ∙ ap (λ (bs : List (List ℕ)). c.args.log.now.bodies ++ bs) (replicate_more c.loop-at._at c.args.body.now);
    }
