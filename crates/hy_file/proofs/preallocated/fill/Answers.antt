use Rattle.std.proofs.Common.{rules, ◌≡◌, ◌+◌, ◌-◌, ◌≤◌, ℕ, List, ◌++◌, length, take, sym, ap, ◌∙◌, subst, arith, length-take-le}
use Rattle.std.proofs.Math.Seq.{take-append-add}
use Rattle.std.proofs.lemmas.List.{take-append-le}
use Rattle.std.specs.Io.KnownBytes.{Consumes}
use Rattle.std.proofs.KnownBytes.{Consumes-nil, Consumes-trans}
use borrow.Rule.Slice.PartMut.{put_mid, post_of}
use Rattle.hy_file.proofs.preallocated.fill.Goals as goal

-- the front of a list, and then the front of what was put in behind it
front_is : (a k n : ℕ) (old new : List ℕ) → a ≤ length old → n ≤ length new → take (a + n) (put_mid a k old new) ≡ take a old ++ take n new
front_is a k n old new within fits =
    let same : a + n ≡ length (take a old) + n = omega (arith, length-take-le a old within) in
    ap (λ m. take m (put_mid a k old new)) same
    ∙ take-append-add (take a old) (new ++ post_of a k old) n
    ∙ ap (λ l. take a old ++ l) (take-append-le n new (post_of a k old) fits)

-- src/preallocated.rt:41:5
pub loop-count-preserved : goal.loop-count-preserved
loop-count-preserved g c =
    let count = c.loop-count.count in
    let front = front_is count (length c.loop-count.into - count) c.in_ok-more.more c.loop-count.into c.read_some.new.into c.loop-count.invariant.within c.in_ok-more.ensures.bound.0 in
    record {
      read = subst (Consumes _ _) (sym front) (Consumes-trans _ _ _ _ _ c.loop-count.invariant.read c.in_ok-more.ensures.bytes);
      within = search rules;
    }

pub loop-count-init : goal.loop-count-init
loop-count-init g c = record { read = Consumes-nil (g.F.Read.remaining c.args.file.now); within = omega arith }

pub returns-then-more-eq0-clause-bytes : goal.returns-then-more-eq0-clause-bytes
returns-then-more-eq0-clause-bytes g c =
    let count = c.loop-count.count in
    let room = length c.loop-count.into - count in
    let front = front_is count room c.in_ok-more.more c.loop-count.into c.read_some.new.into c.loop-count.invariant.within c.in_ok-more.ensures.bound.0 in
    let none : count + c.in_ok-more.more ≡ count = omega (arith, c.if-more-eq0.true) in
    subst (λ n. Consumes (g.F.Read.remaining c.args.file.now) (g.F.Read.remaining c.read_some.new.file) (take n (put_mid count room c.loop-count.into c.read_some.new.into))) none
    (subst (Consumes _ _) (sym front) (Consumes-trans _ _ _ _ _ c.loop-count.invariant.read c.in_ok-more.ensures.bytes))

pub returns-clause-bound : goal.returns-clause-bound
returns-clause-bound g c = (c.loop-count.invariant.within, sym (length-take-le c.loop-count.count c.loop-count.into c.loop-count.invariant.within))

pub returns-clause-bytes : goal.returns-clause-bytes
returns-clause-bytes g c = c.loop-count.invariant.read

pub returns-clause-end : goal.returns-clause-end
returns-clause-end g c = λ less. absurd (omega (arith, less, c.loop-count-test.false))
