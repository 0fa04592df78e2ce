-- What threads may share, and what may cross to another.
use mathlib.Core.List.{[], ◌∷◌}
use mir.Syntax.{Sym}
use denote.RattleType.{RattleType}
use denote.Ref.{NamedLft}
use denote.Hole.{shared_at}
use denote.Struct.Tuple.{type_at, TupleAt}
use denote.Param.Send.{IsSend, IsSync, sendable, shr_sync, view_send}
use denote.Struct.Field.{row_field}
use denote.Param.SendFields.{as_row_send, declared_send, declared_sync}
use Rattle.std.proofs.Crossing.{send}
use Rattle.hy_disk.specs.declared.Disk.{Ghosts}
use Rattle.hy_hist.proofs.lock.HistLock.TheSendSync as lock
use Rattle.hy_hub.specs.declared.since.Since.{Ghosts as SinceGhosts}
use Rattle.hy_hub.specs.contracts.contents.Contents.{the_row as contents_row}
use Rattle.hy_hub.specs.contracts.contents.ContentsGuarded.TheImpl.{ghosts, no_dict}
use Rattle.hy_hub.specs.contracts.hub.Hub.{the_row as hub_row}
use Rattle.hy_hub.specs.contracts.hub.Hub.TheInside as hub
use Rattle.hy_hub.specs.contracts.occurrence.Away.{the_row as away_row}
use Rattle.hy_hub.specs.contracts.occurrence.Occurrence.{the_row as occurrence_row}
use Rattle.hy_hub.proofs.Sending.{contents_send}
use Rattle.hy_hub.proofs.places.Places.TheSendSync as places
use Rattle.hy_hub.proofs.roll_turns.RollTurns.TheSendSync as rolls

-- a closure that captures three references
module _ {ν : Sym} {a b c : NamedLft} {A B C : RattleType} where
  pub three_sync : IsSync A → IsSync B → IsSync C → IsSync (TupleAt ν (shared_at a A ∷ shared_at b B ∷ shared_at c C ∷ []))
  three_sync p q r = declared_sync (type_at ν (shared_at a A ∷ shared_at b B ∷ shared_at c C ∷ []))
      (shr_sync _ _ _ p, (shr_sync _ _ _ q, (shr_sync _ _ _ r, tt)))

-- a closure that takes two values with it
module _ {ν : Sym} {A B : RattleType} where
  pub two_send : IsSend A → IsSend B → IsSend (TupleAt ν (A ∷ B ∷ []))
  two_send p q = declared_send (type_at ν (A ∷ B ∷ [])) (as_row_send (row_field A) p, (as_row_send (row_field B) q, tt))

-- a hub may go to another thread where its device may
pub hub_send : (D B : RattleType) (g : Ghosts D.Denot) (h : SinceGhosts B.Denot) → IsSend D → IsSend B → IsSend (hub_row D B g h)
hub_send D B g h d b = view_send (hub.the_row D B g h) _ _ _ _ (declared_send (hub.the_type D B g h)
    (send, (lock.the_send (contents_row D B g h) occurrence_row away_row (ghosts D B g no_dict h no_dict) (contents_send D B g h d b), (places.the_send, (rolls.the_send, (search sendable, tt))))))
