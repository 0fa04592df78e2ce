-- What the parts of `follow` hand to one another.
use Rattle.std.specs.Prelude.{◌≡◌, ℕ, ◌<◌, length, Option, IfSome}
use Rattle.hy_base.specs.Faults.{Rose}
use Rattle.hy_base.specs.Spelling.{Text}
use Rattle.hy_follow.specs.declared.follower.FeedError.{FeedError}
use Rattle.hy_follow.specs.declared.follower.FeedError.TheVariants as feeding
use Rattle.hy_formats.specs.declared.damage.BadFrame.{BadFrame}
use Rattle.hy_run.specs.Output.{IsFaultOf, longest_source, too_long}
use Rattle.hy_run.specs.Streams.{IsStreamRefused}
use Rattle.hy_run.specs.declared.status.Status.{Status}
use Rattle.hy_run.specs.declared.status.Status.TheVariants as status

abbrev pub refusal_of : BadFrame → Status
refusal_of bad = status.Frame bad.place bad.why

abbrev pub refusal_or_memory : FeedError → Status
refusal_or_memory feeding.Memory = status.Memory
refusal_or_memory (feeding.BadFrame bad) = refusal_of bad

-- why a source was not read whole as a stream: it is too long, it failed, or memory ran out
abbrev pub IsUnread : Option Text → ℕ → ℕ → Status → Type 0
IsUnread told faults faults_now status =
    IsFaultOf (λ line why. ⊥) (λ bad. (bad ≡ too_long) × IfSome told (λ left. longest_source < length left)) (λ s. ⊥)
    (Rose faults faults_now) (λ one. ⊥) status

-- and why nothing is told of it
abbrev pub IsStreamFault : Option Text → ℕ → ℕ → Status → Type 0
IsStreamFault told faults faults_now status =
    IsFaultOf (λ line why. ⊥) (IsStreamRefused told) (λ s. ⊥) (Rose faults faults_now) (λ one. ⊥) status
