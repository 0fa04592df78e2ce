use Rattle.std.proofs.Common.{◌≡◌, ◌+◌, ◌-◌, List, drop, take, length, sym, ap, ◌∙◌}
use Rattle.std.proofs.lemmas.List.{take_rest}
use Rattle.hy_base.specs.declared.record.EntryKind.{EntryKind}
use Rattle.hy_base.specs.Shape.{whole_groups}
use Rattle.hy_rules.specs.CutLogs.{filled}
use Rattle.hy_restart.proofs.CutLaws.{filled_rest, filled_size}
use Rattle.hy_restart.proofs.restarting.rest_of.Goals as goal

pub returns : goal.returns
returns c =
    let from = c.args.from in
    let entries : List EntryKind = c.args.entries.now in
    let past = c.args.first - from in
    let front : List EntryKind = take (c.whole_groups-whole.result - from) entries in
    let whole : c.whole_groups-whole.result ≡ whole_groups c.args.shape (from + length entries) = c.whole_groups-whole.ensures in
    take_rest front past
    ∙ ap (λ n. drop past (take (n - from) entries)) whole
    ∙ filled_rest from c.args.first (whole_groups c.args.shape (from + length entries)) entries c.requires.near c.requires.within
    ∙ ap (λ n. drop c.args.first (take (whole_groups c.args.shape n) (filled from entries))) (sym (filled_size from entries))
