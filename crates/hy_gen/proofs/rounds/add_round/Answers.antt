use Rattle.std.proofs.Common.{rules, ◌≡◌, ◌∙◌, ◌+◌, ◌++◌, ◌∷◌, [], map, length, get_or, ℕ, List, sym, ap, arith, append_assoc}
use Rattle.std.specs.List.{range_with_len, flat_map}
use Rattle.hy_gen.specs.Rounds.{begin_events, ends, pads, publishes, append_count, whole, log_len}
use Rattle.hy_gen.proofs.Lengths.{lens_count, len_before, lens_more, log_len_few, log_len_next, published_by_list}
use Rattle.hy_gen.proofs.rounds.add_round.Goals as goal

pub len_before-requires : goal.len_before-requires
len_before-requires c = omega (arith, ap length c.requires.lens, lens_count c.args.readers.now (c.args.round + 1))

pub overflow_add-len_before : goal.overflow_add-len_before
overflow_add-len_before c =
    let len : c.len_before.result ≡ log_len c.args.readers.now c.args.round = c.len_before.ensures ∙ ap (λ (ls : List ℕ). get_or ls c.args.round 0) (c.deref.ensures.value ∙ c.requires.lens) ∙ len_before c.args.readers.now (c.args.round + 1) c.args.round (omega arith) in
    omega (arith, len, log_len_few c.args.readers.now c.args.round, c.in_ok-entries.ensures.few, c.requires.round)

pub add_pad-requires : goal.add_pad-requires
add_pad-requires c =
    let len : c.len_before.result ≡ log_len c.args.readers.now c.args.round = c.len_before.ensures ∙ ap (λ (ls : List ℕ). get_or ls c.args.round 0) (c.deref.ensures.value ∙ c.requires.lens) ∙ len_before c.args.readers.now (c.args.round + 1) c.args.round (omega arith) in
    omega (arith, len, log_len_few c.args.readers.now c.args.round, c.in_ok-entries.ensures.few, c.requires.round)

pub add_publishes-requires-clause-lens : goal.add_publishes-requires-clause-lens
add_publishes-requires-clause-lens c =
    let before : length c.args.lens.now.items ≡ c.args.round + 1 = ap length c.requires.lens ∙ lens_count c.args.readers.now (c.args.round + 1) in
    search (rules, before, c.in_ok-push.ensures.items)

pub returns-clause-lens : goal.returns-clause-lens
returns-clause-lens c =
    let readers = c.args.readers.now in
    let round = c.args.round in
    let len : c.len_before.result ≡ log_len readers round = c.len_before.ensures ∙ ap (λ (ls : List ℕ). get_or ls round 0) (c.deref.ensures.value ∙ c.requires.lens) ∙ len_before readers (round + 1) round (omega arith) in
    let entries : c.in_ok-entries.entries ≡ append_count readers round = c.in_ok-entries.ensures.append_count in
    let upto : c.in_ok-upto.upto ≡ log_len readers (round + 1) = c.in_ok-upto.ensures.whole ∙ ap (λ (n : ℕ). whole (n + c.in_ok-entries.entries)) len ∙ ap (λ (n : ℕ). whole (log_len readers round + n)) entries ∙ sym (log_len_next readers round) in
    let later : round + 2 ≡ (round + 1) + 1 = omega arith in
    c.in_ok-push.ensures.items ∙ ap (λ (xs : List ℕ). xs ++ c.in_ok-upto.upto ∷ []) c.requires.lens ∙ ap (λ (n : ℕ). map (log_len readers) (range_with_len 0 (round + 1)) ++ n ∷ []) upto
    ∙ sym (lens_more readers (round + 1)) ∙ ap (λ (n : ℕ). map (log_len readers) (range_with_len 0 n)) (sym later)

pub returns-clause-events : goal.returns-clause-events
returns-clause-events c =
    let readers = c.args.readers.now in
    let round = c.args.round in
    let len : c.len_before.result ≡ log_len readers round = c.len_before.ensures ∙ ap (λ (ls : List ℕ). get_or ls round 0) (c.deref.ensures.value ∙ c.requires.lens) ∙ len_before readers (round + 1) round (omega arith) in
    let entries : c.in_ok-entries.entries ≡ append_count readers round = c.in_ok-entries.ensures.append_count in
    let upto : c.in_ok-upto.upto ≡ log_len readers (round + 1) = c.in_ok-upto.ensures.whole ∙ ap (λ (n : ℕ). whole (n + c.in_ok-entries.entries)) len ∙ ap (λ (n : ℕ). whole (log_len readers round + n)) entries ∙ sym (log_len_next readers round) in
    let later : round + 2 ≡ (round + 1) + 1 = omega arith in
    let lens : c.deref-2.result.now ≡ map (log_len readers) (range_with_len 0 (round + 2)) = c.deref-2.ensures.value ∙ c.in_ok-push.ensures.items ∙ ap (λ (xs : List ℕ). xs ++ c.in_ok-upto.upto ∷ []) c.requires.lens
    ∙ ap (λ (n : ℕ). map (log_len readers) (range_with_len 0 (round + 1)) ++ n ∷ []) upto ∙ sym (lens_more readers (round + 1)) ∙ ap (λ (n : ℕ). map (log_len readers) (range_with_len 0 n)) (sym later) in
    let begun = flat_map (begin_events (length readers) round) (range_with_len 1 8) in
    let ended = flat_map (ends readers round) (range_with_len 1 8) in
    let padded = pads (log_len readers round + append_count readers round) in
    let published = flat_map (publishes (log_len readers) round) (range_with_len 1 4) in
    let old = c.args.events.now.items in
    let pad : pads (c.len_before.result + c.in_ok-entries.entries) ≡ padded = ap (λ (n : ℕ). pads (n + c.in_ok-entries.entries)) len ∙ ap (λ (n : ℕ). pads (log_len readers round + n)) entries in
    let all : c.add_publishes.new.events.items ≡ (((old ++ begun) ++ ended) ++ padded) ++ published =
    cc (c.in_ok-add_publishes.ensures, published_by_list readers c.deref-2.result.now round lens, c.in_ok-upto.ensures.events, pad, c.in_ok-entries.ensures.events, c.in_ok-add_begins.ensures) in
    all ∙ append_assoc ((old ++ begun) ++ ended) padded published ∙ append_assoc (old ++ begun) ended (padded ++ published) ∙ append_assoc old begun (ended ++ (padded ++ published))
