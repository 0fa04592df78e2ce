use Rattle.std.proofs.Common.{arith, ◌≤◌, ℕ, subst, sym, ◌≡◌, ◌∙◌, codes, true, lit<}
use Rattle.std.specs.Str.Parse.{ParsesUnsigned, ExplainsUnsignedError, HasUnsignedDigitsIfOk}
use Rattle.clap.specs.Words.{found_of, rows_of}
use Rattle.hy_cli.specs.Matches.{choices_found}
use Rattle.hy_base.specs.Shape.{IsWithin}
use Rattle.hy_base.specs.Limits.{largest_load}
use Rattle.hy_cli.proofs.Getters.{needed_in_range, reads_number}
use Rattle.hy_cli.proofs.options.size_of.Goals as goal

pub overflow_cast-result : goal.overflow_cast-result
overflow_cast-result c =
    let value : c.unwrap_or.result ≡ (choices_found (rows_of (found_of c.args.found.now))).number_or 1 (codes "size") = c.unwrap_or.ensures ∙ reads_number _ (λ bs r. ParsesUnsigned 64 10 bs r × ExplainsUnsignedError 10 bs r × HasUnsignedDigitsIfOk bs r) 64 1 largest_load 1 true (found_of c.args.found.now) (codes "size") c.get_one.result
    c.get_one.ensures.none c.get_one.ensures.value (λ u x g. g.0) (lit< tt) c.requires in
    let range = needed_in_range 1 largest_load 1 (codes "size") (rows_of (found_of c.args.found.now)) c.requires in
    let fits = subst (λ (n : ℕ). (1 ≤ n) × (n ≤ largest_load)) (sym value) range in omega (arith, fits)

pub returns : goal.returns
returns c =
    let value : c.unwrap_or.result ≡ (choices_found (rows_of (found_of c.args.found.now))).number_or 1 (codes "size") = c.unwrap_or.ensures ∙ reads_number _ (λ bs r. ParsesUnsigned 64 10 bs r × ExplainsUnsignedError 10 bs r × HasUnsignedDigitsIfOk bs r) 64 1 largest_load 1 true (found_of c.args.found.now) (codes "size") c.get_one.result
    c.get_one.ensures.none c.get_one.ensures.value (λ u x g. g.0) (lit< tt) c.requires in
    let range = needed_in_range 1 largest_load 1 (codes "size") (rows_of (found_of c.args.found.now)) c.requires in
    record { range = subst (IsWithin 1 80000) (sym value) (record { at_least = range.0; at_most = range.1 }); value = value }
