-- The agreement lemma: on two maps that agree at each key that a serializable program read, it gives the same answers and the same effects.
use Rattle.std.proofs.Common.{◌≡◌, ◌∙◌, ℕ, Bool, true, false, List, [], ◌∷◌, refl, sym, ap, arith, subst}
use mathlib.Core.Bool.{true≢false}
use Rattle.std.specs.Option.{option_map_or}
use Rattle.std.specs.List.{AllByRecursion}
use Rattle.std.specs.Prelude.{Option, Some, None, is_some, map, nat_lt, option_and_then, ◌||◌, if◌then◌else◌}
use Rattle.hy_base.specs.declared.record.Isolation.TheVariants.{Serializable}
use Rattle.hy_base.specs.declared.record.Span.{Span}
use Rattle.hy_base.specs.declared.record.Write.{Write}
use Rattle.hy_base.specs.declared.report.Answer.{Answer}
use Rattle.hy_base.specs.declared.report.Answer.TheVariants.{Live, Absent, Well, Sum, NotNumber, TooBig, Pairs, Ids}
use Rattle.hy_base.specs.declared.report.Pair.{Pair}
use Rattle.hy_base.specs.declared.workload.Command.{Command}
use Rattle.hy_base.specs.declared.workload.Command.TheVariants.{Get, Put, Del, Add, Scan, Row, Unrow, Cell, Find}
use Rattle.hy_base.specs.Entry.{is_in_span, is_snapshot, span_before}
use Rattle.hy_base.specs.Lists.{put}
use Rattle.hy_base.specs.Tables.{attribute_of, index_span, row_key, row_of}
use Rattle.hy_rules.specs.Exec.{Effects, value_in, own_write, seen, with_point, with_sum, with_span, with_write, with_row, with_unrow, without_entry, other_than, sum_at, after_writes, scanned, read_span, perform, perform_all}
use Rattle.hy_rules.proofs.EffectLemmas.{AreAt, at_after}
use Rattle.hy_serial_laws.proofs.Pairs.{PairsRise, kept, narrow, same_value, same_writes, rise_writes}
use Rattle.hy_serial_laws.proofs.ScanLemmas.{same_scan}

abbrev SpanCovered : (ℕ → Bool) → Span → Type 0
SpanCovered q s = (key : ℕ) → is_in_span key s ≡ true → q key ≡ true

-- a test that lets through each key that was read
pub record Covers (q : ℕ → Bool) (e : Effects) : Type 0 where
  pub points : AllByRecursion (λ key. q key ≡ true) e.points
  pub spans : AllByRecursion (SpanCovered q) e.spans

-- ---- what was read before was read in the end

-- what holds of an item holds of those that it ties with
abbrev HoldsOfTies : {X : Type 0} → (X → X → Bool) → (X → Type 0) → Type 0
HoldsOfTies {X} before P = (x y : X) → before x y ≡ false → before y x ≡ false → P x → P y

here_and_there : {X : Type 0} (before : X → X → Bool) (P : X → Type 0) (x y : X) (ys zs : List X) (a b : Bool) → HoldsOfTies before P → before x y ≡ a → before y x ≡ b
    → (AllByRecursion P zs → P x × AllByRecursion P ys) → AllByRecursion P (if a then x ∷ y ∷ ys else if b then y ∷ zs else x ∷ ys) → P x × AllByRecursion P (y ∷ ys)
here_and_there before P x y ys zs true b ties e f rest h = (h.0, h.1)
here_and_there before P x y ys zs false true ties e f rest h = let later = rest h.1 in (later.0, (h.0, later.1))
here_and_there before P x y ys zs false false ties e f rest h = (h.0, (ties x y e f h.0, h.1))

all_of_put : {X : Type 0} (before : X → X → Bool) (P : X → Type 0) (x : X) (ys : List X) → HoldsOfTies before P → AllByRecursion P (put before x ys) → P x × AllByRecursion P ys
all_of_put before P x [] ties h = (h.0, tt)
all_of_put before P x (y ∷ ys) ties h = here_and_there before P x y ys (put before x ys) (before x y) (before y x) ties refl refl (all_of_put before P x ys ties) h

point_ties : (q : ℕ → Bool) → HoldsOfTies nat_lt (λ key. q key ≡ true)
point_ties q x y e f h = let same : x ≡ y = grind arith in subst (λ key. q key ≡ true) same h

span_ties : (q : ℕ → Bool) → HoldsOfTies span_before (SpanCovered q)
span_ties q x y e f h = λ key k.
    let low : x.lo ≡ y.lo = grind arith in
    let high : x.hi ≡ y.hi = grind arith in
    h key ((λ i. is_in_span key (record { lo = low i; hi = high i })) ∙ k)

point_back : (q : ℕ → Bool) (key : ℕ) (e : Effects) (b : Bool) → Covers q (if b then e else record e { points = put nat_lt key e.points }) → Covers q e
point_back q key e true h = h
point_back q key e false h = record { points = (all_of_put nat_lt (λ k. q k ≡ true) key e.points (point_ties q) h.points).1; spans = h.spans }

span_back : (q : ℕ → Bool) (span : Span) (e : Effects) (b : Bool) → Covers q (if b then e else record e { spans = put span_before span e.spans }) → Covers q e
span_back q span e true h = h
span_back q span e false h = record { points = h.points; spans = (all_of_put span_before (SpanCovered q) span e.spans (span_ties q) h.spans).1 }

sum_back : (q : ℕ → Bool) (key : ℕ) (answer : Answer) (e : Effects) → Covers q (with_sum key answer e) → Covers q e
sum_back q key (Sum n) e h = record { points = h.points; spans = h.spans }
sum_back q key (Live v) e h = h
sum_back q key Absent e h = h
sum_back q key Well e h = h
sum_back q key NotNumber e h = h
sum_back q key TooBig e h = h
sum_back q key (Pairs ps) e h = h
sum_back q key (Ids ids) e h = h

entry_back : (q : ℕ → Bool) (table row : ℕ) (had : Option ℕ) (e : Effects) → Covers q (without_entry table row had e) → Covers q e
entry_back q table row None e h = h
entry_back q table row (Some a) e h = record { points = h.points; spans = h.spans }

unrow_back : (q : ℕ → Bool) (table row : ℕ) (found : Option (List ℕ)) (e : Effects) → Covers q (with_unrow table row found e) → Covers q e
unrow_back q table row None e h = h
unrow_back q table row (Some value) e h =
    let before : Covers q (with_write (row_key table row) None e) = entry_back q table row (attribute_of value) (with_write (row_key table row) None e) h in
    record { points = before.points; spans = before.spans }

row_back : (q : ℕ → Bool) (table row attribute : ℕ) (text : List ℕ) (found : Option (List ℕ)) (e : Effects) → Covers q (with_row table row attribute text found e) → Covers q e
row_back q table row attribute text found e h =
    entry_back q table row (other_than attribute (option_and_then attribute_of found)) e (record { points = h.points; spans = h.spans })

covers_back : (q : ℕ → Bool) (m : List Pair) (e : Effects) (command : Command) → Covers q (perform m e command).1 → Covers q e
covers_back q m e (Get key) h = point_back q key e (is_snapshot e.isolation || is_some (own_write e key)) h
covers_back q m e (Put key value) h = record { points = h.points; spans = h.spans }
covers_back q m e (Del key) h = record { points = h.points; spans = h.spans }
covers_back q m e (Add key n) h = point_back q key e (is_snapshot e.isolation || is_some (own_write e key)) (sum_back q key (sum_at (seen m e key) n) (with_point key e) h)
covers_back q m e (Scan lo hi n) h = let span : Span = record { lo = lo; hi = hi } in span_back q (read_span span n (scanned m e span n)) e (is_snapshot e.isolation) h
covers_back q m e (Row table row attribute text) h =
    let key : ℕ = row_key table row in
    point_back q key e (is_snapshot e.isolation || is_some (own_write e key)) (row_back q table row attribute text (seen m e key) (with_point key e) h)
covers_back q m e (Unrow table row) h =
    let key : ℕ = row_key table row in
    point_back q key e (is_snapshot e.isolation || is_some (own_write e key)) (unrow_back q table row (seen m e key) (with_point key e) h)
covers_back q m e (Cell table row) h = point_back q (row_key table row) e (is_snapshot e.isolation || is_some (own_write e (row_key table row))) h
covers_back q m e (Find table attribute n) h = let span : Span = index_span table attribute in span_back q (read_span span n (scanned m e span n)) e (is_snapshot e.isolation) h

covers_start : (q : ℕ → Bool) (m : List Pair) (e : Effects) (commands : List Command) → Covers q (perform_all m e commands).1 → Covers q e
covers_start q m e [] h = h
covers_start q m e (command ∷ commands) h = covers_back q m e command (covers_start q m (perform m e command).1 commands h)

-- ---- one command

module _ (q : ℕ → Bool) (m n : List Pair) (rises : PairsRise m) (rise : PairsRise n) (same : kept q m ≡ kept q n) where
  seen_case : (key : ℕ) (e : Effects) (b : Bool) (o : Option Write) → b ≡ false → Covers q (if b || is_some o then e else record e { points = put nat_lt key e.points }) → option_map_or (λ w. w.value) o (value_in n key) ≡ option_map_or (λ w. w.value) o (value_in m key)
  seen_case key e true o is h = absurd (true≢false is)
  seen_case key e false (Some w) is h = refl
  seen_case key e false None is h = same_value q n m key (sym same) (all_of_put nat_lt (λ k. q k ≡ true) key e.points (point_ties q) h.points).0

  recorded : (e : Effects) → AreAt Serializable e → is_snapshot e.isolation ≡ false
  recorded e at = ap is_snapshot at.is

  span_there : (span : Span) (e : Effects) (b : Bool) → b ≡ false → Covers q (if b then e else record e { spans = put span_before span e.spans }) → SpanCovered q span
  span_there span e true is h = absurd (true≢false is)
  span_there span e false is h = (all_of_put span_before (SpanCovered q) span e.spans (span_ties q) h.spans).0

  same_seen : (key : ℕ) (e : Effects) → AreAt Serializable e → Covers q (with_point key e) → seen n e key ≡ seen m e key
  same_seen key e at h = seen_case key e (is_snapshot e.isolation) (own_write e key) (recorded e at) h

  same_found : (e : Effects) (lo hi a : ℕ) → AreAt Serializable e → let span : Span = record { lo = lo; hi = hi } in Covers q (with_span (read_span span a (scanned m e span a)) e) → scanned n e span a ≡ scanned m e span a
  same_found e lo hi a at h =
      let span : Span = record { lo = lo; hi = hi } in
      let read : Span = read_span span a (scanned m e span a) in
      let covered : SpanCovered q read = span_there read e (is_snapshot e.isolation) (recorded e at) h in
      let X : List Pair = after_writes m e.writes in
      let Y : List Pair = after_writes n e.writes in
      let in_read : ℕ → Bool = λ key. is_in_span key read in
      let agree : kept q X ≡ kept q Y = same_writes q e.writes m n rises rise same in
      let there : kept in_read X ≡ kept in_read Y = sym (narrow q in_read covered X) ∙ (ap (kept in_read) agree ∙ narrow q in_read covered Y) in
      same_scan lo hi a X Y (rise_writes e.writes m rises) (rise_writes e.writes n rise) there

  same_one : (e : Effects) (command : Command) → AreAt Serializable e → Covers q (perform m e command).1 → perform n e command ≡ perform m e command
  same_one e (Get key) at h = ap (λ (s : Option (List ℕ)). (option_map_or (λ v. Live v) s Absent, with_point key e)) (same_seen key e at h)
  same_one e (Put key value) at h = refl
  same_one e (Del key) at h = refl
  same_one e (Add key a) at h =
      ap (λ (s : Option (List ℕ)). (sum_at s a, with_sum key (sum_at s a) (with_point key e))) (same_seen key e at (sum_back q key (sum_at (seen m e key) a) (with_point key e) h))
  same_one e (Scan lo hi a) at h =
      let span : Span = record { lo = lo; hi = hi } in
      ap (λ (given : List Pair). (Pairs given, with_span (read_span span a given) e)) (same_found e lo hi a at h)
  same_one e (Row table row attribute text) at h =
      let key : ℕ = row_key table row in
      ap (λ (s : Option (List ℕ)). (Well, with_row table row attribute text s (with_point key e))) (same_seen key e at (row_back q table row attribute text (seen m e key) (with_point key e) h))
  same_one e (Unrow table row) at h =
      let key : ℕ = row_key table row in
      ap (λ (s : Option (List ℕ)). (option_map_or (λ v. Well) s Absent, with_unrow table row s (with_point key e))) (same_seen key e at (unrow_back q table row (seen m e key) (with_point key e) h))
  same_one e (Cell table row) at h = let key : ℕ = row_key table row in ap (λ (s : Option (List ℕ)). (option_map_or (λ v. Live v) s Absent, with_point key e)) (same_seen key e at h)
  same_one e (Find table attribute a) at h =
      let span : Span = index_span table attribute in
      ap (λ (given : List Pair). (Ids (map (λ p. row_of p.key) given), with_span (read_span span a given) e)) (same_found e span.lo span.hi a at h)

  -- ---- all commands

  pub same_all : (e : Effects) (commands : List Command) → AreAt Serializable e → Covers q (perform_all m e commands).1 → perform_all n e commands ≡ perform_all m e commands
  same_all e [] at h = refl
  same_all e (command ∷ commands) at h =
      let one : perform n e command ≡ perform m e command = same_one e command at (covers_start q m (perform m e command).1 commands h) in
      let rest : perform_all n (perform m e command).1 commands ≡ perform_all m (perform m e command).1 commands = same_all (perform m e command).1 commands (at_after Serializable m e command at) h in
      ap (λ (d : Answer × Effects). (d.0 ∷ (perform_all n d.1 commands).0, (perform_all n d.1 commands).1)) one
      ∙ ap (λ (l : List Answer × Effects). ((perform m e command).0 ∷ l.0, l.1)) rest
