use Rattle.std.proofs.Common.{◌≡◌, ◌++◌, drop, map}
use Rattle.hy_script.proofs.input.parts_of.Given as goal

-- the events and numbers so far, and those of the lines that are left
abbrev pub invariant-loop-line : goal.invariant-loop-line
invariant-loop-line l =
    (l.events ++ map (λ e. e.event) (drop l.line-index l.lines) ≡ map (λ e. e.event) l.lines)
    × (l.numbers ++ map (λ e. e.line) (drop l.line-index l.lines) ≡ map (λ e. e.line) l.lines)
