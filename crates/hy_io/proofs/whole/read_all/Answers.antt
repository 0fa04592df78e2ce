use Rattle.std.proofs.Common.{◌≡◌, ◌<◌, false, true, refl, sym, ap, ◌∙◌, subst, ℕ, ◌+◌, ◌≤◌, List, ◌++◌, Option, length, take, drop, arith, length-append, length-take, length-drop}
use Rattle.std.specs.Io.KnownBytes.{Consumes}
use Rattle.std.proofs.KnownBytes.{Consumes-nil, Consumes-trans, Consumes-kept, Consumes-whole}
use Rattle.hy_io.proofs.LeftBytes.{of_any, read_last, taken_in, were_more}
use Rattle.hy_io.specs.Whole.{GivesExactly}
use Rattle.hy_io.proofs.whole.read_all.Goals as goal

-- what was read before, and then a front of the buffer
read_on : (old mid new : Option (List ℕ)) (seen buffer : List ℕ) (count : ℕ) → Consumes old mid seen → Consumes mid new (take count buffer) → count ≤ length buffer
    → GivesExactly old new (length seen + count)
read_on old mid new seen buffer count before now within =
    (seen ++ take count buffer, Consumes-trans old mid new seen (take count buffer) before now, omega (arith, length-append seen (take count buffer), length-take count buffer))

pub returns-then-count-room-clause-one_more : goal.returns-then-count-room-clause-one_more
returns-then-count-room-clause-one_more g c =
    let all = read_on _ _ _ _ c.read.new.into c.in-Ok.count c.loop-count.invariant.read c.in-Ok.ensures.bytes.0 c.in-Ok.ensures.bound.0 in
    let asked = length-take (c.min-asked.result + 1) c.loop-count.piece in
    λ _. (all.0, all.1, omega (arith, all.2, asked, c.in-Ok.ensures.bound, c.min-asked.ensures, c.len.ensures, c.loop-count.bytes.ok))

pub returns-then-count-room-clause-front : goal.returns-then-count-room-clause-front
returns-then-count-room-clause-front g c =
    let all = read_on _ _ _ _ c.read.new.into c.in-Ok.count c.loop-count.invariant.read c.in-Ok.ensures.bytes.0 c.in-Ok.ensures.bound.0 in
    let asked = length-take (c.min-asked.result + 1) c.loop-count.piece in
    (all.0, all.1, omega (arith, all.2, asked, c.in-Ok.ensures.bound, c.min-asked.ensures, c.len.ensures, c.loop-count.bytes.ok))

pub returns-then-is_err-clause-front : goal.returns-then-is_err-clause-front
returns-then-is_err-clause-front g c =
    let all = read_on _ _ _ _ c.read.new.into c.in-Ok.count c.loop-count.invariant.read c.in-Ok.ensures.bytes.0 c.in-Ok.ensures.bound.0 in
    (all.0, all.1, omega (arith, all.2, c.in-Ok.ensures.bound, c.len.ensures, c.loop-count.bytes.ok))

pub loop-count-init : goal.loop-count-init
loop-count-init g c =
    let none = c.new-bytes.ensures.items in
    record {
      read = subst (Consumes _ _) (sym none) (Consumes-nil (g.S.Source.left c.args.source.now));
      short = omega (arith, ap length none);
      count = omega arith;
      size = refl;
    }

pub returns-in-Err-clause-long_always : goal.returns-in-Err-clause-long_always
returns-in-Err-clause-long_always g c = of_any _ (g.S.Source.left c.args.source.now) (λ left more. refl)

pub returns-in-Err-clause-front : goal.returns-in-Err-clause-front
returns-in-Err-clause-front g c = (c.loop-count.bytes.items, Consumes-kept _ _ _ _ c.loop-count.invariant.read c.in-Err.ensures.bytes, omega (arith, c.loop-count.invariant.short))

pub returns-then-count-eq0-clause-exact : goal.returns-then-count-eq0-clause-exact
returns-then-count-eq0-clause-exact g c =
    let ended = read_last _ _ _ c.loop-count.bytes.items c.read.new.into c.in-Ok.count c.loop-count.invariant.read c.in-Ok.ensures.bytes c.if-count-eq0.true
    (omega (arith, c.read.auto.into, length-take (c.min-asked.result + 1) c.loop-count.piece, c.loop-count.invariant.size)) in
    Consumes-whole _ _ c.loop-count.bytes.items (λ left. c.loop-count.bytes.items ≡ left) ended.0 ended.1 refl

pub returns-then-count-eq0-clause-whole : goal.returns-then-count-eq0-clause-whole
returns-then-count-eq0-clause-whole g c =
    read_last _ _ _ c.loop-count.bytes.items c.read.new.into c.in-Ok.count c.loop-count.invariant.read c.in-Ok.ensures.bytes c.if-count-eq0.true
    (omega (arith, c.read.auto.into, length-take (c.min-asked.result + 1) c.loop-count.piece, c.loop-count.invariant.size))

pub returns-then-count-eq0-clause-long_always : goal.returns-then-count-eq0-clause-long_always
returns-then-count-eq0-clause-long_always g c =
    let ended = read_last _ _ _ c.loop-count.bytes.items c.read.new.into c.in-Ok.count c.loop-count.invariant.read c.in-Ok.ensures.bytes c.if-count-eq0.true
    (omega (arith, c.read.auto.into, length-take (c.min-asked.result + 1) c.loop-count.piece, c.loop-count.invariant.size)) in
    Consumes-whole _ _ c.loop-count.bytes.items (λ left. c.args.limit < length left → false ≡ true) ended.0 ended.1 (λ more. absurd (omega (arith, more, c.loop-count.invariant.short)))

pub loop-count-preserved : goal.loop-count-preserved
loop-count-preserved g c =
    let grown = taken_in c.extend_from_slice.result c.is_err.result c.extend_from_slice.new.self.items c.loop-count.bytes.items c.read.new.into _ c.in-Ok.count
    c.extend_from_slice.ensures.items c.is_err.ensures.value c.if-is_err.false c.in-Ok.ensures.bound.0 in
    let size = ap length grown ∙ length-append c.loop-count.bytes.items (take c.in-Ok.count c.read.new.into) in
    let asked = length-take (c.min-asked.result + 1) c.loop-count.piece in
    record {
      read = subst (Consumes _ _) (sym grown) (Consumes-trans _ _ _ _ _ c.loop-count.invariant.read c.in-Ok.ensures.bytes.0);
      short = omega (arith, size, length-take c.in-Ok.count c.read.new.into, c.in-Ok.ensures.bound.0, c.if-count-room.false, c.len.ensures, c.loop-count.invariant.short);
      count = omega (arith, c.loop-count.invariant.count, c.in-Ok.ensures.cause.later);
      size = omega (arith, length-append c.read.new.into (drop (c.min-asked.result + 1) c.loop-count.piece), length-drop (c.min-asked.result + 1) c.loop-count.piece, c.read.auto.into, asked, c.loop-count.invariant.size, c.min-asked.ensures);
    }

pub loop-count-smaller : goal.loop-count-smaller
loop-count-smaller g c =
    let grown = taken_in c.extend_from_slice.result c.is_err.result c.extend_from_slice.new.self.items c.loop-count.bytes.items c.read.new.into _ c.in-Ok.count
    c.extend_from_slice.ensures.items c.is_err.ensures.value c.if-is_err.false c.in-Ok.ensures.bound.0 in
    let size = ap length grown ∙ length-append c.loop-count.bytes.items (take c.in-Ok.count c.read.new.into) in
    omega (arith, size, length-take c.in-Ok.count c.read.new.into, c.in-Ok.ensures.bound.0, c.if-count-room.false, c.if-count-eq0.false, c.len.ensures, c.loop-count.invariant.short)

pub returns-then-is_err-clause-long_always : goal.returns-then-is_err-clause-long_always
returns-then-is_err-clause-long_always g c = of_any _ (g.S.Source.left c.args.source.now) (λ left more. refl)

pub returns-then-count-room-clause-long_always : goal.returns-then-count-room-clause-long_always
returns-then-count-room-clause-long_always g c = of_any _ (g.S.Source.left c.args.source.now) (λ left more. refl)

pub returns-then-count-room-clause-long_only : goal.returns-then-count-room-clause-long_only
returns-then-count-room-clause-long_only g c =
    λ is. were_more (g.S.Source.left c.args.source.now) (g.S.Source.left c.read.new.self) c.args.limit (returns-then-count-room-clause-one_more g c is)
