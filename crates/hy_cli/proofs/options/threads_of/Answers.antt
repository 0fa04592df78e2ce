use Rattle.std.proofs.Common.{arith, ◌≤◌, ℕ, lit≤, subst, sym, ◌≡◌, ◌∙◌, codes, false, lit<}
use Rattle.std.specs.Str.Parse.{ParsesUnsigned, ExplainsUnsignedError, HasUnsignedDigitsIfOk}
use Rattle.clap.specs.Words.{found_of, rows_of}
use Rattle.hy_cli.specs.Matches.{choices_found}
use Rattle.hy_base.specs.Limits.{IsThreadCount, most_threads}
use Rattle.hy_cli.proofs.Getters.{found_in_range, reads_number}
use Rattle.hy_cli.proofs.options.threads_of.Goals as goal

pub overflow_cast-result : goal.overflow_cast-result
overflow_cast-result c =
    let value : c.unwrap_or.result ≡ (choices_found (rows_of (found_of c.args.found.now))).number_or 2 (codes "threads") = c.unwrap_or.ensures ∙ reads_number _ (λ bs r. ParsesUnsigned 64 10 bs r × ExplainsUnsignedError 10 bs r × HasUnsignedDigitsIfOk bs r) 64 1 most_threads 2 false (found_of c.args.found.now) (codes "threads") c.get_one.result
    c.get_one.ensures.none c.get_one.ensures.value (λ u x g. g.0) (lit< tt) c.requires in
    let range = found_in_range 1 most_threads 2 (codes "threads") (rows_of (found_of c.args.found.now)) c.requires (lit≤ tt) (lit≤ tt) in
    let fits = subst (λ (n : ℕ). (1 ≤ n) × (n ≤ most_threads)) (sym value) range in omega (arith, fits)

pub returns : goal.returns
returns c =
    let value : c.unwrap_or.result ≡ (choices_found (rows_of (found_of c.args.found.now))).number_or 2 (codes "threads") = c.unwrap_or.ensures ∙ reads_number _ (λ bs r. ParsesUnsigned 64 10 bs r × ExplainsUnsignedError 10 bs r × HasUnsignedDigitsIfOk bs r) 64 1 most_threads 2 false (found_of c.args.found.now) (codes "threads") c.get_one.result
    c.get_one.ensures.none c.get_one.ensures.value (λ u x g. g.0) (lit< tt) c.requires in
    let range = found_in_range 1 most_threads 2 (codes "threads") (rows_of (found_of c.args.found.now)) c.requires (lit≤ tt) (lit≤ tt) in
    record { range = subst IsThreadCount (sym value) (record { at_least = range.0; at_most = range.1 }); value = value }
