-- The log's length before each round.
use Rattle.std.proofs.Common.{◌≡◌, ◌∙◌, ℕ, zero, suc, ◌+◌, ◌-◌, ◌*◌, ◌<◌, ◌≤◌, Bool, true, false, List, [], ◌∷◌, ◌++◌, map, length, get_or, Option, Some, None, ap, refl, arith}
use Rattle.std.specs.Prelude.{nat_lt, if◌then◌else◌, ◌&&◌}
use Rattle.std.specs.List.{range_with_len, flat_map}
use Rattle.std.proofs.lemmas.List.FromFn.{length-map-range_with_len, get_or-map-range_with_len, map-range_with_len_more}
use Rattle.hy_base.specs.declared.workload.Event.{Event}
use Rattle.hy_base.specs.declared.workload.Event.TheVariants.{Publish}
use Rattle.hy_gen.specs.Rounds.{period, is_last, entry_count, ending, append_count, whole, log_len, publishes}

pub entry_few : (o : Option Bool) → entry_count o ≤ 1
entry_few None = omega arith
entry_few (Some true) = omega arith
entry_few (Some false) = omega arith

appended_few : (readers : List Bool) (round : ℕ) → append_count readers round ≤ 8
appended_few readers round = omega (
  arith,
  entry_few (ending readers round 1),
  entry_few (ending readers round 2),
  entry_few (ending readers round 3),
  entry_few (ending readers round 4),
  entry_few (ending readers round 5),
  entry_few (ending readers round 6),
  entry_few (ending readers round 7),
  entry_few (ending readers round 8),
)

pub log_len_next : (readers : List Bool) (round : ℕ) → log_len readers (round + 1) ≡ whole (log_len readers round + append_count readers round)
unfolding log_len
log_len_next readers round = let is : round + 1 ≡ suc round = omega arith in ap (log_len readers) is

pub log_len_first : (readers : List Bool) → log_len readers 0 ≡ 0
unfolding log_len
log_len_first readers = refl

whole_few : (len n : ℕ) → n ≤ 8 → whole (len + n) ≤ len + 11
whole_few len n few = omega (arith, few)

pub log_len_few : (readers : List Bool) (round : ℕ) → log_len readers round ≤ 11 * round
log_len_few readers zero = omega (arith, log_len_first readers)
log_len_few readers (suc round) =
    let is : suc round ≡ round + 1 = omega arith in
    let step : log_len readers (suc round) ≡ whole (log_len readers round + append_count readers round) = ap (log_len readers) is ∙ log_len_next readers round in
    omega (arith, step, log_len_few readers round, whole_few (log_len readers round) (append_count readers round) (appended_few readers round))

-- the lengths before so many rounds
abbrev pub lens_before : List Bool → ℕ → List ℕ
lens_before readers n = map (log_len readers) (range_with_len 0 n)

pub lens_count : (readers : List Bool) (n : ℕ) → length (lens_before readers n) ≡ n
lens_count readers n = length-map-range_with_len (log_len readers) 0 n

pub len_before : (readers : List Bool) (n at : ℕ) → at < n → get_or (lens_before readers n) at 0 ≡ log_len readers at
len_before readers n at within = get_or-map-range_with_len (log_len readers) 0 n at at 0 within (omega arith)

pub lens_more : (readers : List Bool) (n : ℕ) → lens_before readers (n + 1) ≡ lens_before readers n ++ log_len readers n ∷ []
lens_more readers n = map-range_with_len_more (log_len readers) 0 n n (omega arith)

-- what is published depends on two lengths
abbrev publish_by : ℕ → Bool → ℕ → ℕ → List Event
publish_by server last from upto = if last && nat_lt from upto then Publish server upto ∷ [] else []

publishes_same : (f g : ℕ → ℕ) (round server : ℕ) → ((at : ℕ) → at ≤ round + 1 → f at ≡ g at) → publishes f round server ≡ publishes g round server
publishes_same f g round server same =
    ap (λ (n : ℕ). publish_by server (is_last server round) n (f (round + 1))) (same (round + 1 - period server) (omega arith))
    ∙ ap (λ (n : ℕ). publish_by server (is_last server round) (g (round + 1 - period server)) n) (same (round + 1) (omega arith))

all_same : (f g : ℕ → ℕ) (round from n : ℕ) → ((at : ℕ) → at ≤ round + 1 → f at ≡ g at) → flat_map (publishes f round) (range_with_len from n) ≡ flat_map (publishes g round) (range_with_len from n)
all_same f g round from zero same = refl
all_same f g round from (suc n) same =
    ap (λ (es : List Event). es ++ flat_map (publishes f round) (range_with_len (from + 1) n)) (publishes_same f g round from same)
    ∙ ap (λ (es : List Event). publishes g round from ++ es) (all_same f g round (from + 1) n same)

-- the list of the lengths serves as well
pub published_by_list : (readers : List Bool) (lens : List ℕ) (round : ℕ) → lens ≡ lens_before readers (round + 2)
    → flat_map (publishes (λ at. get_or lens at 0) round) (range_with_len 1 4) ≡ flat_map (publishes (log_len readers) round) (range_with_len 1 4)
published_by_list readers lens round is =
    all_same (λ at. get_or lens at 0) (log_len readers) round 1 4 (λ at within. ap (λ (ls : List ℕ). get_or ls at 0) is ∙ len_before readers (round + 2) at (omega (arith, within)))
