use Rattle.std.proofs.Common.{◌≡◌, ℕ, suc, ◌+◌, ◌-◌, ◌<◌, min, List, [], ◌∷◌, ◌++◌, length, take, drop, reverse, get_or, sym, ◌∙◌, ap, arith, rules, length-take, length-drop}
use Rattle.std.proofs.Math.Seq.{take-suc, take-add}
use Rattle.std.proofs.lemmas.List.{reverse-append}
use Rattle.hy_disk.specs.Content.{overwritten}
use Rattle.hy_mem.specs.Undo.{covered_count, covered_total, restored}
use Rattle.hy_mem.proofs.Undoing.{restored-newest}
use Rattle.hy_mem.proofs.buffers.restore.Goals as goal

pub loop-step-preserved : goal.loop-step-preserved
loop-step-preserved c =
    let before = c.loop-step.invariant in
    let size = length c.args.bytes.now.items in
    let ranges : List (ℕ × ℕ) = c.args.ranges.now in
    let covered : List ℕ = c.args.covered.now in
    let bytes : List ℕ = c.loop-step.bytes.items in
    let k : ℕ = length ranges - 1 - c.loop-step.step in
    let range : ℕ × ℕ = get_or ranges k (0, 0) in
    let earlier : List (ℕ × ℕ) = reverse (take k ranges) in
    let start : ℕ = c.loop-step.end - c.min.result in
    let test : c.loop-step.step < length ranges = search rules in
    let less : length ranges - (c.loop-step.step + 1) ≡ k = omega arith in
    let here : length ranges - c.loop-step.step ≡ suc k = omega (arith, test) in
    let newest : reverse (take (length ranges - c.loop-step.step) ranges) ≡ range ∷ earlier =
    ap (λ (n : ℕ). reverse (take n ranges)) here ∙ ap reverse (take-suc ranges k (0, 0) (omega (arith, test))) ∙ reverse-append (take k ranges) (range ∷ []) in
    let count : c.min.result ≡ covered_count size range = search rules in
    let total : covered_count size range + covered_total size earlier ≡ c.loop-step.end = sym (ap (covered_total size) newest) ∙ before.total in
    let piece : List ℕ = take c.min.result (drop start covered) in
    let split : take c.loop-step.end covered ≡ take start covered ++ piece = ap (λ (n : ℕ). take n covered) (omega (arith, total, count)) ∙ take-add start c.min.result covered in
    let put : c.put_back.new.bytes.items ≡ overwritten bytes range.0 piece = search rules in
    let fits : length piece ≡ min range.1 (size - range.0) = omega (arith, total, count, before.fits, length-take c.min.result (drop start covered), length-drop start covered) in
    let left = sym (restored-newest size bytes range.0 range.1 earlier (take start covered) piece fits) ∙ (λ i. restored size bytes (sym newest i) (sym split i)) ∙ before.left in
    record {
      total = ap (λ (n : ℕ). covered_total size (reverse (take n ranges))) less ∙ omega (arith, total, count);
      fits = omega (arith, before.fits);
      left = (λ i. restored size (put i) (reverse (take (less i) ranges)) (take start covered)) ∙ left;
      len = search rules;
      capacity = search rules;
    }
