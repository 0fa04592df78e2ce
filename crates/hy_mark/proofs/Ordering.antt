-- Marks in the order of their blocks.
use Rattle.std.proofs.Common.{◌≡◌, ℕ, ◌<◌, ◌⊎◌, min, List, [], ◌∷◌, ◌++◌, append_assoc, Option, inl, inr, refl, sym, ap, ◌∙◌, subst, arith}
use Rattle.std.specs.Prelude.{IsTrue, map}
use Rattle.std.specs.List.{AllByRecursion}
use Rattle.std.proofs.lemmas.Bool.{cases_lt, cases_order, lt-ltb, le-ltb, eq-eqb, ne_eqb, false≢true}
use Rattle.std.proofs.lemmas.List.{append-nil}
use Rattle.hy_base.specs.declared.record.Span.{Span}
use Rattle.hy_base.specs.declared.record.Mark.{Mark}
use Rattle.hy_base.specs.Entry.{span_before}
use Rattle.hy_base.specs.Marks.{lesser, dep}
use Rattle.hy_base.proofs.MarkLemmas.{lesser_none, lesser_comm, lesser_assoc}
use Rattle.hy_base.proofs.ListLemmas.{all_append, all_map, all_left, all_right}
use Rattle.hy_mark.specs.Blocks.{IsBlock}
use Rattle.hy_mark.specs.Orders.{IsBefore, AreOrdered, AreBlocks, ArePairs, IsFirstBlock}
use Rattle.hy_mark.proofs.Deps.{dep_first, dep_append, dep_min, raise}

-- ---- the order

abbrev Comes : Span → Span → Type 0
Comes a b = (a.lo < b.lo) ⊎ ((a.lo ≡ b.lo) × (a.hi < b.hi))

comes : (a b : Span) → IsTrue (span_before a b) → Comes a b
comes a b t =
    elim (cases_order a.lo b.lo) [
      | inl e ↦
          elim (cases_lt a.hi b.hi) [
            | inl h ↦ inr (e, h)
            | inr h ↦ absurd (false≢true (rw (le-ltb a.lo b.lo (omega arith), eq-eqb a.lo b.lo e, le-ltb a.hi b.hi h) at t))
          ]
      | inr k ↦ elim k [
        | inl lt ↦ inl lt
        | inr gt ↦ absurd (false≢true (rw (le-ltb a.lo b.lo (omega arith), ne_eqb a.lo b.lo (λ e. omega arith)) at t))
      ]
    ]

before : (a b : Span) → Comes a b → IsTrue (span_before a b)
before a b (inl lt) = rw (lt-ltb a.lo b.lo lt) refl
before a b (inr e) = rw (le-ltb a.lo b.lo (omega (arith, e.0)), eq-eqb a.lo b.lo e.0, lt-ltb a.hi b.hi e.1) refl

comes_on : (a b c : Span) → Comes a b → Comes b c → Comes a c
comes_on a b c (inl x) (inl y) = inl (omega arith)
comes_on a b c (inl x) (inr y) = inl (omega (arith, y.0))
comes_on a b c (inr x) (inl y) = inl (omega (arith, x.0))
comes_on a b c (inr x) (inr y) = inr (x.0 ∙ y.0, omega (arith, x.1, y.1))

pub before_on : (a b c : Span) → IsTrue (span_before a b) → IsTrue (span_before b c) → IsTrue (span_before a c)
before_on a b c x y = before a c (comes_on a b c (comes a b x) (comes b c y))

-- blocks of which neither is before the other
pub same_block : (a b : Span) → (IsTrue (span_before a b) → ⊥) → (IsTrue (span_before b a) → ⊥) → b ≡ a
same_block a b x y =
    elim (cases_order a.lo b.lo) [
      | inl e ↦
          elim (cases_order a.hi b.hi) [
            | inl f ↦ λ i. record { lo = sym e i; hi = sym f i }
            | inr k ↦ elim k [
              | inl lt ↦ absurd (x (before a b (inr (e, lt))))
              | inr gt ↦ absurd (y (before b a (inr (sym e, gt))))
            ]
          ]
      | inr k ↦ elim k [
        | inl lt ↦ absurd (x (before a b (inl lt)))
        | inr gt ↦ absurd (y (before b a (inl gt)))
      ]
    ]

-- ---- lists in order

pub ordered_last : (xs : List Mark) (m : Mark) → AreOrdered xs → AllByRecursion (λ x. IsBefore x m) xs → AreOrdered (xs ++ m ∷ [])
ordered_last [] m a b = (tt, tt)
ordered_last (x ∷ xs) m a b = (all_append (IsBefore x) xs (m ∷ []) a.0 (b.0, tt), ordered_last xs m a.1 b.1)

-- what is past the last is past all
pub past_all : (xs : List Mark) (last : Mark) (block : Span) → AreOrdered (xs ++ last ∷ []) → IsTrue (span_before last.block block) → AllByRecursion (λ m. IsTrue (span_before m.block block)) (xs ++ last ∷ [])
past_all [] last block a t = (t, tt)
past_all (x ∷ xs) last block a t =
    (before_on x.block last.block block (all_right (IsBefore x) xs (last ∷ []) a.0).0 t, past_all xs last block a.1 t)

-- a mark before all of a list stands in front of it, behind what was before both
ordered_put : (front : List Mark) (x : Mark) (xs ys : List Mark) → AreOrdered (front ++ x ∷ xs) → AreOrdered (front ++ ys) → AllByRecursion (IsBefore x) ys → AreOrdered ((front ++ x ∷ []) ++ ys)
ordered_put [] x xs ys a b c = (c, b)
ordered_put (f ∷ fs) x xs ys a b c =
    let fs_before = all_left (IsBefore f) fs (x ∷ xs) a.0 in
    let x_before = (all_right (IsBefore f) fs (x ∷ xs) a.0).0 in
    let ys_before = all_right (IsBefore f) fs ys b.0 in
    (all_append (IsBefore f) (fs ++ x ∷ []) ys (all_append (IsBefore f) fs (x ∷ []) fs_before (x_before, tt)) ys_before, ordered_put fs x xs ys a.1 b.1 c)

ordered_on : (front : List Mark) (x : Mark) (xs : List Mark) → AreOrdered (front ++ x ∷ xs) → AreOrdered ((front ++ x ∷ []) ++ xs)
ordered_on front x xs a = rw (append_assoc front (x ∷ []) xs) a

-- the order asks of the blocks alone
ordered_same : (front : List Mark) (x y : Mark) (xs : List Mark) → x.block ≡ y.block → AreOrdered (front ++ x ∷ xs) → AreOrdered (front ++ y ∷ xs)
ordered_same [] x y xs e a = (all_map (IsBefore x) (IsBefore y) (λ z h. subst (λ b. IsTrue (span_before b z.block)) e h) xs a.0, a.1)
ordered_same (f ∷ fs) x y xs e a =
    let later = all_right (IsBefore f) fs (x ∷ xs) a.0 in
    (all_append (IsBefore f) fs (y ∷ xs) (all_left (IsBefore f) fs (x ∷ xs) a.0) (subst (λ b. IsTrue (span_before f.block b)) e later.0, later.1), ordered_same fs x y xs e a.1)

-- ---- the first of two lists

pub first_left : (x : Mark) (xs ys left : List Mark) → left ≡ x ∷ xs → AllByRecursion (IsBefore x) ys → IsFirstBlock left ys x xs ys
first_left x xs ys left e c =
    rw e (record {
      deps = λ key. ap (λ o. lesser o (dep ys key)) (dep_first x xs key) ∙ lesser_assoc (dep (x ∷ []) key) (dep xs key) (dep ys key);
      ordered = λ front a b. (ordered_on front x xs a, ordered_put front x xs ys a b c);
      blocks = λ a b. (a.0, a.1, b);
      shorter = omega arith;
    })

pub first_right : (y : Mark) (xs ys right : List Mark) → right ≡ y ∷ ys → AllByRecursion (IsBefore y) xs → IsFirstBlock xs right y xs ys
first_right y xs ys right e c =
    rw e (record {
      deps = λ key.
          lesser_comm (dep xs key) (dep (y ∷ ys) key)
          ∙ (ap (λ o. lesser o (dep xs key)) (dep_first y ys key)
          ∙ (lesser_assoc (dep (y ∷ []) key) (dep ys key) (dep xs key) ∙ ap (lesser (dep (y ∷ []) key)) (lesser_comm (dep ys key) (dep xs key))));
      ordered = λ front a b. (ordered_put front y ys xs b a c, ordered_on front y ys b);
      blocks = λ a b. (b.0, a, b.1);
      shorter = omega arith;
    })

shuffle : (a b c d : Option ℕ) → lesser (lesser a b) (lesser c d) ≡ lesser (lesser a c) (lesser b d)
shuffle a b c d =
    lesser_assoc a b (lesser c d)
    ∙ (ap (lesser a) (sym (lesser_assoc b c d) ∙ (ap (λ o. lesser o d) (lesser_comm b c) ∙ lesser_assoc c b d))
    ∙ sym (lesser_assoc a c (lesser b d)))

pub first_both : (x y : Mark) (xs ys left right : List Mark) → left ≡ x ∷ xs → right ≡ y ∷ ys → y.block ≡ x.block → IsFirstBlock left right (record { block = x.block; dependency = min x.dependency y.dependency }) xs ys
first_both x y xs ys left right e f same =
    let m : Mark = record { block = x.block; dependency = min x.dependency y.dependency } in
    rw (e, f) (record {
      deps = λ key.
          ap (λ o. lesser o (dep (y ∷ ys) key)) (dep_first x xs key)
          ∙ (ap (lesser (lesser (dep (x ∷ []) key) (dep xs key))) (dep_first y ys key)
          ∙ (shuffle (dep (x ∷ []) key) (dep xs key) (dep (y ∷ []) key) (dep ys key)
          ∙ ap (λ o. lesser o (lesser (dep xs key) (dep ys key))) (dep_min x y key same)));
      ordered = λ front a b. (ordered_on front m xs (ordered_same front x m xs refl a), ordered_on front m ys (ordered_same front y m ys same b));
      blocks = λ a b. (a.0, a.1, b.1);
      shorter = omega arith;
    })

-- what is before the first of a list in order is before all of it
pub before_all : (x y : Mark) (ys right : List Mark) → right ≡ y ∷ ys → AreOrdered right → IsTrue (span_before x.block y.block) → AllByRecursion (IsBefore x) right
before_all x y ys right e o t =
    let p = rw e at o in
    rw e (t, all_map (IsBefore y) (IsBefore x) (λ z h. before_on x.block y.block z.block t h) ys p.0)

-- ---- joining two lists

-- the marks so far, with what is left of both lists
pub record MarksJoin (whole_left whole_right marks left right : List Mark) : Type 0 where
  pub deps : (key : ℕ) → lesser (dep marks key) (lesser (dep left key) (dep right key)) ≡ lesser (dep whole_left key) (dep whole_right key)
  pub left_ordered : AreOrdered (marks ++ left)
  pub right_ordered : AreOrdered (marks ++ right)
  pub each : AreBlocks marks
  pub left_each : AreBlocks left
  pub right_each : AreBlocks right

pub ordered_rest : (xs ys : List Mark) → AreOrdered (xs ++ ys) → AreOrdered ys
ordered_rest [] ys a = a
ordered_rest (x ∷ xs) ys a = ordered_rest xs ys a.1

pub joins_none : (left right : List Mark) → ArePairs left → ArePairs right → MarksJoin left right [] left right
joins_none left right a b = record { deps = λ key. refl; left_ordered = a.ordered; right_ordered = b.ordered; each = tt; left_each = a.each; right_each = b.each }

pub joins_more : {wl wr ms l r l' r' : List Mark} (m : Mark) → MarksJoin wl wr ms l r → IsFirstBlock l r m l' r' → MarksJoin wl wr (ms ++ m ∷ []) l' r'
joins_more {wl} {wr} {ms} {l} {r} {l'} {r'} m j f =
    let o = f.ordered ms j.left_ordered j.right_ordered in
    let b = f.blocks j.left_each j.right_each in
    record {
      deps = λ key.
          ap (λ o. lesser o (lesser (dep l' key) (dep r' key))) (dep_append ms (m ∷ []) key)
          ∙ (lesser_assoc (dep ms key) (dep (m ∷ []) key) (lesser (dep l' key) (dep r' key)) ∙ (ap (lesser (dep ms key)) (sym (f.deps key)) ∙ j.deps key));
      left_ordered = o.0;
      right_ordered = o.1;
      each = all_append (λ m. IsBlock m.block) ms (m ∷ []) j.each (b.0, tt);
      left_each = b.1;
      right_each = b.2;
    }

pub joins_all : {wl wr ms l r : List Mark} → MarksJoin wl wr ms l r → l ≡ [] → r ≡ [] → ArePairs ms × ((key : ℕ) → dep ms key ≡ lesser (dep wl key) (dep wr key))
joins_all {wl} {wr} {ms} {l} {r} j e f = (
  record { ordered = rw append-nil at (rw e at j.left_ordered); each = j.each },
  λ key. sym (lesser_none (dep ms key)) ∙ (rw (e, f) at j.deps key),
)

pub pairs_last : (xs : List Mark) (m : Mark) → ArePairs xs → IsBlock m.block → AllByRecursion (λ x. IsTrue (span_before x.block m.block)) xs → ArePairs (xs ++ m ∷ [])
pairs_last xs m p b a = record { ordered = ordered_last xs m p.ordered a; each = all_append (λ x. IsBlock x.block) xs (m ∷ []) p.each (b, tt) }

-- ---- one list behind another

ordered_followed : (xs ys : List Mark) → AreOrdered xs → AreOrdered ys → AllByRecursion (λ m. AllByRecursion (IsBefore m) ys) xs → AreOrdered (xs ++ ys)
ordered_followed [] ys a b c = b
ordered_followed (x ∷ xs) ys a b c = (all_append (IsBefore x) xs ys a.0 c.0, ordered_followed xs ys a.1 b c.1)

pub pairs_followed : (xs ys : List Mark) → ArePairs xs → ArePairs ys → AllByRecursion (λ m. AllByRecursion (IsBefore m) ys) xs → ArePairs (xs ++ ys)
pairs_followed xs ys a b c = record { ordered = ordered_followed xs ys a.ordered b.ordered c; each = all_append (λ m. IsBlock m.block) xs ys a.each b.each }

-- nothing has to stand before no marks
pub before_none : (xs ys : List Mark) → AreBlocks xs → ys ≡ [] → AllByRecursion (λ m. AllByRecursion (IsBefore m) ys) xs
before_none xs ys a e = rw e (all_map (λ m. IsBlock m.block) (λ m. AllByRecursion (IsBefore m) []) (λ m h. tt) xs a)

-- what stands before the first of a list in order stands before all of it
pub before_each : (xs : List Mark) (y : Mark) (ys right : List Mark) → right ≡ y ∷ ys → AreOrdered right → AllByRecursion (λ m. IsTrue (span_before m.block y.block)) xs → AllByRecursion (λ m. AllByRecursion (IsBefore m) right) xs
before_each xs y ys right e o a = all_map (λ m. IsTrue (span_before m.block y.block)) (λ m. AllByRecursion (IsBefore m) right) (λ m t. before_all m y ys right e o t) xs a

pub pairs_raised : (base : ℕ) (xs : List Mark) → ArePairs xs → ArePairs (map (raise base) xs)
pairs_raised base xs p = record { ordered = ordered xs p.ordered; each = each xs p.each }
  where
    later : (x : Mark) (ys : List Mark) → AllByRecursion (IsBefore x) ys → AllByRecursion (IsBefore (raise base x)) (map (raise base) ys)
    later x [] a = tt
    later x (y ∷ ys) a = (a.0, later x ys a.1)

    ordered : (ys : List Mark) → AreOrdered ys → AreOrdered (map (raise base) ys)
    ordered [] a = tt
    ordered (y ∷ ys) a = (later y ys a.0, ordered ys a.1)

    each : (ys : List Mark) → AreBlocks ys → AreBlocks (map (raise base) ys)
    each [] a = tt
    each (y ∷ ys) a = (a.0, each ys a.1)
