use Rattle.std.proofs.Common.{◌≡◌, ◌/◌, ◌-◌, ◌<◌, ◌^◌, List, length, get_or, leb, sym, ap, arith, rules}
use Rattle.std.proofs.lemmas.List.Sorted.{IsPartitionPoint-from_clause, IsPartitionedBy-leb}
use Rattle.hy_base.specs.declared.record.Row.{Row}
use Rattle.hy_tree.proofs.Halves.{AreEnds, xor_some, cut_at, rising, is_fork, ends_differ}
use Rattle.hy_tree.proofs.building.halves.Goals as goal

pub ilog2-bit-requires : goal.ilog2-bit-requires
ilog2-bit-requires c =
    let x : Row = c.index-rows-0.result in
    let y : Row = c.index-rows-rows.result in
    let rows : List Row = c.args.rows.now in
    xor_some (get_or rows 0 x).key (get_or rows (length rows - 1) y).key
    (omega (arith, ends_differ rows x y c.requires.ordered c.requires.several c.index-rows-0.is c.index-rows-rows.is, ap (λ (r : Row). r.key) c.index-rows-0.is, ap (λ (r : Row). r.key) c.index-rows-rows.is))
    c.index-rows-rows.element_fits.fits

pub returns-clause-fork : goal.returns-clause-fork
returns-clause-fork c =
    let x : Row = c.index-rows-0.result in
    let y : Row = c.index-rows-rows.result in
    let rows : List Row = c.args.rows.now in
    let bit = c.ilog2-bit.result in
    let ex : get_or rows 0 x ≡ x = sym c.index-rows-0.is in
    let ey : get_or rows (length rows - 1) y ≡ y = sym c.index-rows-rows.is in
    let fits : y.key < 2 ^ 64 = omega (arith, ap (λ (r : Row). r.key) ey, c.index-rows-rows.element_fits.fits) in
    let point = IsPartitionPoint-from_clause (λ (r : Row). leb (r.key / 2 ^ bit) ((get_or rows 0 x).key / 2 ^ bit)) rows c.partition_point.result c.partition_point.ensures.partitioned
    (IsPartitionedBy-leb (λ (r : Row). r.key / 2 ^ bit) rows ((get_or rows 0 x).key / 2 ^ bit) (rising bit rows c.requires.ordered)) (λ a r f' h. search rules) in
    let ends : AreEnds bit rows x y c.partition_point.result = record {
      ordered = c.requires.ordered;
      several = c.requires.several;
      first = c.index-rows-0.is;
      last = c.index-rows-rows.is;
      cut = cut_at x.key y.key bit (ends_differ rows x y c.requires.ordered c.requires.several c.index-rows-0.is c.index-rows-rows.is) fits (rw (ex, ey) at c.ilog2-bit.ensures.power_le) (rw (ex, ey) at c.ilog2-bit.ensures.next_power_gt);
      within = c.partition_point.ensures.bound;
      point = rw ex at point;
    } in
    let s = c.split_at.ensures in
    is_fork ends c.split_at.result.0.now c.split_at.result.1.now s.front s.back s.front_len s.back_len
