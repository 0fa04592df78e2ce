use Rattle.std.proofs.Common.{◌≡◌, ◌∙◌, ℕ, ◌-◌, ◌≤◌, min, List, [], ◌∷◌, ◌++◌, length, take, drop, reverse, ap, arith, rules}
use Rattle.hy_disk.specs.Content.{Content, overwritten}
use Rattle.hy_mem.specs.Undo.{contents_before}
use Rattle.hy_mem.proofs.Undoing.{content-written, before-written}
use Rattle.hy_mem.proofs.store.Store.write.Goals as goal

pub returns-clause-content : goal.returns-clause-content
returns-clause-content c =
    let s = c.self.inside in
    let piece : List ℕ = c.args.piece.now in
    let old : List ℕ = take (min (length piece) (s.last.bytes - c.args.place)) (drop c.args.place s.bytes.items) in
    let pushed : c.push.new.self.items ≡ s.ranges.items ++ (c.args.place, length piece) ∷ [] = search rules in
    let grown : c.extend_from_slice.new.self.items ≡ s.covered.items ++ old = search rules in
    let written : c.overwrite.new.bytes.items ≡ overwritten s.bytes.items c.args.place piece = search rules in
    let within : c.args.place ≤ length s.bytes.items = search rules in
    rw (written, pushed, grown, ← c.self.view_is) (content-written s.last s.bytes.items s.ranges.items s.covered.items c.args.place piece c.self.invariant within)

pub returns-clause-before : goal.returns-clause-before
returns-clause-before c =
    let s = c.self.inside in
    let piece : List ℕ = c.args.piece.now in
    let old : List ℕ = take (min (length piece) (s.last.bytes - c.args.place)) (drop c.args.place s.bytes.items) in
    let more : List (ℕ × ℕ) = (c.args.place, length piece) ∷ [] in
    let pushed : c.push.new.self.items ≡ s.ranges.items ++ more = search rules in
    let grown : c.extend_from_slice.new.self.items ≡ s.covered.items ++ old = search rules in
    let written : c.overwrite.new.bytes.items ≡ overwritten s.bytes.items c.args.place piece = search rules in
    let within : c.args.place ≤ length s.bytes.items = search rules in
    let synced = ap (λ (k : Content). k.synced) (content-written s.last s.bytes.items s.ranges.items s.covered.items c.args.place piece c.self.invariant within) in
    let earlier = ap (λ (b : List ℕ). contents_before (reverse s.syncs.items) b (take s.last.ranges (s.ranges.items ++ more)) (take s.last.covered (s.covered.items ++ old))) synced in
    let enough : s.last.covered ≤ length s.covered.items = omega (arith, c.self.invariant.kept) in
    rw (written, pushed, grown, ← c.self.view_is) (earlier ∙ before-written (reverse s.syncs.items) s.last _ s.ranges.items more s.covered.items old c.self.invariant.places enough)
