-- How long the log gets: at most four entries for each program that has ended.
use Rattle.std.proofs.Common.{◌≡◌, ◌∙◌, ℕ, zero, suc, ◌+◌, ◌-◌, ◌*◌, ◌/◌, ◌%◌, ◌<◌, ◌≤◌, Bool, true, false, List, length, refl, sym, ap, arith, Option, Some, None}
use Rattle.std.specs.Prelude.{min, slice_get, sum_by}
use Rattle.std.specs.List.{range_with_len}
use Rattle.std.proofs.lemmas.Bool.{eqb-true, eqb-false}
use Rattle.std.proofs.lemmas.List.Sums.{sum_by-cons}
use Rattle.hy_base.proofs.NthLemmas.{nth_within}
use Rattle.hy_gen.specs.Load.{program_count}
use Rattle.hy_gen.specs.Rounds.{append_count, ending, entry_count, home, is_last, log_len, number_in, period, whole}
use Rattle.hy_gen.proofs.Lengths.{entry_few, log_len_next, log_len_first}
use Rattle.hy_gen.proofs.Turns.{IsPeriod, has_no_program, home_within, is_period}

-- ---- lengths before rounds

pub whole_is_whole : (n : ℕ) → whole n % 4 ≡ 0
whole_is_whole n = omega arith

pub whole_least : (n : ℕ) → n ≤ whole n
whole_least n = omega arith

pub len_is_whole : (readers : List Bool) (t : ℕ) → log_len readers t % 4 ≡ 0
len_is_whole readers zero = omega (arith, log_len_first readers)
len_is_whole readers (suc t) =
    let next : suc t ≡ t + 1 = omega arith in
    let same = ap (log_len readers) next ∙ log_len_next readers t in
    omega (arith, same, whole_is_whole (log_len readers t + append_count readers t))

len_grows : (readers : List Bool) (t : ℕ) → log_len readers t ≤ log_len readers (t + 1)
len_grows readers t = omega (arith, log_len_next readers t, whole_least (log_len readers t + append_count readers t))

len_later : (readers : List Bool) (a n : ℕ) → log_len readers a ≤ log_len readers (a + n)
len_later readers a zero = let same : a + 0 ≡ a = omega arith in omega (arith, ap (log_len readers) same)
len_later readers a (suc n) = let same : a + suc n ≡ (a + n) + 1 = omega arith in omega (arith, ap (log_len readers) same, len_later readers a n, len_grows readers (a + n))

pub len_rises : (readers : List Bool) (a b : ℕ) → a ≤ b → log_len readers a ≤ log_len readers b
len_rises readers a b le = let same : a + (b - a) ≡ b = omega (arith, le) in omega (arith, ap (log_len readers) same, len_later readers a (b - a))

-- ---- programs that ended

-- how many programs of a client have ended before a round
abbrev pub ended_before : ℕ → ℕ → ℕ → ℕ
ended_before size t client = min (t / period (home client)) (program_count size client)

abbrev pub all_ended : ℕ → ℕ → ℕ
all_ended size t = sum_by (ended_before size t) (range_with_len 1 8)

no_entry : (o : Option Bool) → o ≡ None → entry_count o ≡ 0
no_entry o is = ap entry_count is

one_ends : (readers : List Bool) (t client : ℕ) → 1 ≤ client → client ≤ 8 → entry_count (ending readers t client) + ended_before (length readers) t client ≤ ended_before (length readers) (t + 1) client
one_ends readers t client least most = go (is_last (home client) t) refl
  where
    size : ℕ
    size = length readers

    turn : ℕ
    turn = t / period (home client)

    p : IsPeriod (period (home client))
    p = is_period (home client) (home_within client).at_least (home_within client).at_most

    found : (o : Option Bool) → slice_get readers (number_in client t) ≡ o → entry_count o + min turn (program_count size client) ≤ min (turn + 1) (program_count size client)
    found None is = omega arith
    found (Some r) is =
        let within = nth_within readers (suc (number_in client t)) r is in
        let few : turn < program_count size client = omega (arith, within.at_most, has_no_program size client turn least most) in
        omega (arith, entry_few (Some r), few)

    go : (b : Bool) → is_last (home client) t ≡ b → entry_count (ending readers t client) + ended_before size t client ≤ ended_before size (t + 1) client
    go true is =
        let turns : (t + 1) / period (home client) ≡ turn + 1 = p.turns t (eqb-true _ _ is) in
        rw (is, turns) (found (slice_get readers (number_in client t)) refl)
    go false is =
        let stays : (t + 1) / period (home client) ≡ turn = p.stays t (eqb-false _ _ is) in
        rw (is, stays) (omega arith)

sums_add : (f g h : ℕ → ℕ) (a n : ℕ) → ((k : ℕ) → a ≤ k → k < a + n → f k + g k ≤ h k) → sum_by f (range_with_len a n) + sum_by g (range_with_len a n) ≤ sum_by h (range_with_len a n)
sums_add f g h a zero each = omega arith
sums_add f g h a (suc n) each =
    let rest = range_with_len (a + 1) n in
    omega (arith, sum_by-cons f a rest, sum_by-cons g a rest, sum_by-cons h a rest, each a (omega arith) (omega arith), sums_add f g h (a + 1) n (λ k least most. each k (omega (arith, least)) (omega (arith, most))))

sum_most : (f g : ℕ → ℕ) (a n : ℕ) → ((k : ℕ) → f k ≤ g k) → sum_by f (range_with_len a n) ≤ sum_by g (range_with_len a n)
sum_most f g a zero each = omega arith
sum_most f g a (suc n) each =
    let rest = range_with_len (a + 1) n in
    omega (arith, sum_by-cons f a rest, sum_by-cons g a rest, each a, sum_most f g (a + 1) n each)

round_ends : (readers : List Bool) (t : ℕ) → append_count readers t + all_ended (length readers) t ≤ all_ended (length readers) (t + 1)
round_ends readers t =
    sums_add (λ client. entry_count (ending readers t client)) (ended_before (length readers) t) (ended_before (length readers) (t + 1)) 1 8 (λ client least most. one_ends readers t client least (omega (arith, most)))

-- ---- all programs

one_more : (size client : ℕ) → 1 ≤ client → client ≤ 8 → program_count (size + 8) client ≡ program_count size client + 1
one_more size client least most = omega (arith, least, most)

eight_more : (size : ℕ) → sum_by (program_count (size + 8)) (range_with_len 1 8) ≡ sum_by (program_count size) (range_with_len 1 8) + 8
eight_more size = omega (arith, one_more size 1 (omega arith) (omega arith), one_more size 2 (omega arith) (omega arith), one_more size 3 (omega arith) (omega arith), one_more size 4 (omega arith) (omega arith), one_more size 5 (omega arith) (omega arith), one_more size 6 (omega arith) (omega arith), one_more size 7 (omega arith) (omega arith), one_more size 8 (omega arith) (omega arith))

count_all : (size : ℕ) → sum_by (program_count size) (range_with_len 1 8) ≡ size
count_all zero = refl
count_all (suc zero) = refl
count_all (suc (suc zero)) = refl
count_all (suc (suc (suc zero))) = refl
count_all (suc (suc (suc (suc zero)))) = refl
count_all (suc (suc (suc (suc (suc zero))))) = refl
count_all (suc (suc (suc (suc (suc (suc zero)))))) = refl
count_all (suc (suc (suc (suc (suc (suc (suc zero))))))) = refl
count_all (suc (suc (suc (suc (suc (suc (suc (suc size)))))))) =
    let later : suc (suc (suc (suc (suc (suc (suc (suc size))))))) ≡ size + 8 = omega arith in
    ap (λ n. sum_by (program_count n) (range_with_len 1 8)) later ∙ (eight_more size ∙ ap (λ n. n + 8) (count_all size) ∙ sym later)

all_at_most : (size t : ℕ) → all_ended size t ≤ size
all_at_most size t = omega (arith, count_all size, sum_most (ended_before size t) (program_count size) 1 8 (λ client. omega arith))

whole_few : (len n : ℕ) → len % 4 ≡ 0 → whole (len + n) ≤ len + 4 * n
whole_few len zero is = omega (arith, is)
whole_few len (suc n) is = omega arith

len_by_ended : (readers : List Bool) (t : ℕ) → log_len readers t ≤ 4 * all_ended (length readers) t
len_by_ended readers zero = omega (arith, log_len_first readers)
len_by_ended readers (suc t) =
    let next : suc t ≡ t + 1 = omega arith in
    let same = ap (log_len readers) next ∙ log_len_next readers t in
    let ended = ap (all_ended (length readers)) next in
    omega (arith, same, ended, len_by_ended readers t, whole_few (log_len readers t) (append_count readers t) (len_is_whole readers t), round_ends readers t)

pub len_at_most : (readers : List Bool) (t : ℕ) → log_len readers t ≤ 4 * length readers
len_at_most readers t = omega (arith, len_by_ended readers t, all_at_most (length readers) t)
