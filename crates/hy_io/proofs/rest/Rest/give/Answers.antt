use Rattle.std.proofs.Common.{◌≡◌, ℕ, ◌+◌, ◌≤◌, List, ◌++◌, length, take, drop, sym, ◌∙◌, ap, arith, rules, length-take, length-drop, take-append-drop}
use Rattle.std.proofs.lemmas.List.{take_at, drop-drop}
use Rattle.hy_io.proofs.rest.Rest.give.Goals as goal

-- the next n bytes, put in front of a buffer, and then what is left after them
given : (bytes buffer : List ℕ) (at n : ℕ) → at + n ≤ length bytes → drop at bytes ≡ take n (take n (drop at bytes) ++ drop n buffer) ++ drop (at + n) bytes
given bytes buffer at n within =
    let size : length (take n (drop at bytes)) ≡ n = omega (arith, length-take n (drop at bytes), length-drop at bytes) in
    sym (take-append-drop n (drop at bytes)) ∙ ap (λ (l : List ℕ). l ++ drop n (drop at bytes)) (sym (take_at (take n (drop at bytes)) (drop n buffer) n size))
    ∙ ap (λ (l : List ℕ). take n (take n (drop at bytes) ++ drop n buffer) ++ l) (drop-drop n at bytes)

pub returns-clause-bytes : goal.returns-clause-bytes
returns-clause-bytes c =
    let n = c.min-count.result in
    let at = c.self.inside.at in
    let bytes = c.self.inside.bytes.items in
    let copied : c.copy_from_slice.new.self ≡ take n (drop at bytes) = search rules in
    let within : at + n ≤ length bytes = search rules in
    rw (← c.self.view_is) (rw copied (given bytes c.args.into.now at n within))
