-- What the looks at a script's tables tell.
use Rattle.std.proofs.Common.{arith, ◌≡◌, ℕ, ◌+◌, ◌*◌, ◌-◌, ◌%◌, ◌<◌, ◌≤◌, Bool, true, false, IsTrue, zero, suc, List, [], ◌∷◌, length, drop, refl, sym, ◌∙◌, ap, subst, inl, inr, length-drop}
use Rattle.std.specs.Prelude.{◌⊎◌, ◌^◌, Option, Some, None, Ok, Err, nat_lt, nat_le, ◌&&◌, not, find, option_map, if◌then◌else◌}
use Rattle.std.proofs.lemmas.Bool.{leb-true, ltb-false, ltb-true}
use Rattle.std.proofs.Math.Nat.{mod-eq_of_lt, mod-lt}
use Rattle.std.proofs.Math.Seq.{drop-append-add}
use Rattle.hy_base.specs.declared.layout.Shape.{Shape}
use Rattle.hy_base.specs.declared.record.EntryKind.{EntryKind}
use Rattle.hy_base.specs.declared.report.Pair.{Pair}
use Rattle.hy_base.specs.Script.{Workload, IsScript}
use Rattle.hy_base.specs.Shape.{IsGoodShape, whole_groups}
use Rattle.hy_base.specs.Tables.{is_table_key}
use Rattle.hy_base.proofs.GroupLemmas.{whole_gap, whole_is_whole}
use Rattle.hy_base.proofs.TableLemmas.{no_table_key}
use Rattle.hy_formats.specs.Checkpoint.{Checkpoint}
use Rattle.hy_formats.specs.declared.header.Header.{Header}
use Rattle.hy_formats.specs.declared.refusal.RestartError.TheVariants as restarting
use Rattle.hy_formats.specs.Restarting.{IsStart, base_of}
use Rattle.hy_points.proofs.Bases.{base_is_before}
use Rattle.hy_rules.specs.CutLogs.{IsWholeOf}
use Rattle.hy_rules.specs.SavedPoints.{StandsIfAny}
use Rattle.hy_rules.specs.SoundTables.{is_right, table_fault}
use Rattle.hy_rules.specs.TableRuns.{OpensSound, opening_fault}
use Rattle.hy_roll_laws.specs.Rolling.{Roll, rolled_upto}
use Rattle.hy_restart.specs.Restart.{IsRestarted}
use Rattle.hy_restart.specs.Resuming.{start_of}
use Rattle.hy_restart.proofs.CutLaws.{whole_size}
use Rattle.hy_table_look.specs.Looks.{OpeningLooksTell, looked, soon}
use Rattle.hy_rules.specs.History.{pairs_of}
use Rattle.std.specs.Option.{option_or}
use Rattle.hy_tables.specs.TableLaws.{OpeningFaultTells}
use Rattle.hy_formats.specs.EntryFormat.{entries_past}
use Rattle.hy_run.specs.RunningParts.{IsBodiesFault, fault_seen}
use Rattle.hy_run.specs.declared.status.RunOptions.{RunOptions}
use Rattle.hy_run.specs.declared.status.Status.TheVariants as status

-- ---- the call of a look

-- fewer than a group wait
pub few_wait : (s : Shape) (at from : ℕ) (entries : List EntryKind) → IsGoodShape s → at ≡ whole_groups s (from + length entries) → length (drop (at - from) entries) < s.group
few_wait s at from entries good is =
    let l : (from + length entries) % s.group < s.group = mod-lt (from + length entries) {m = s.group} good.group.at_least in
    omega (arith, l, is, length-drop (at - from) entries)

-- the end of the group after it lies within the capacity, where something waits
next_whole : (g a c : ℕ) → a % g ≡ 0 → c % g ≡ 0 → a < c → (c - a < g) ⊎ (g ≤ c - a) → a + g ≤ c
next_whole g a c wa wc less (inr far) = omega (arith, less, far)
next_whole g a c wa wc less (inl near) =
    let gap : (c - a) % g ≡ 0 = whole_gap g c a wc wa in
    let none : c - a ≡ 0 = sym (mod-eq_of_lt near) ∙ gap in
    absurd (let never : ⊥ = omega (arith, less, none) in never)

near_or_far : (n g : ℕ) (b : Bool) → nat_lt n g ≡ b → (n < g) ⊎ (g ≤ n)
near_or_far n g true is = inl (ltb-true n g is)
near_or_far n g false is = inr (ltb-false n g is)

room_waits : (s : Shape) (at from : ℕ) (entries : List EntryKind) → IsGoodShape s → at ≡ whole_groups s (from + length entries) → from + length entries ≤ s.cap → 0 < length (drop (at - from) entries) → at + s.group ≤ s.cap
room_waits s at from entries good is within some =
    next_whole s.group at s.cap (ap (λ n. n % s.group) is ∙ whole_is_whole s (from + length entries)) good.whole_groups (omega (arith, within, some, length-drop (at - from) entries)) (near_or_far (s.cap - at) s.group (nat_lt (s.cap - at) s.group) refl)

-- that is what a roller asks of those that wait
pub room_of : (s : Shape) (r : Roll) (from at : ℕ) (entries all waits : List EntryKind) → IsGoodShape s → r.shape ≡ s → rolled_upto r ≡ whole_groups s (from + length entries) → from + length entries ≤ s.cap → at ≡ rolled_upto r → all ≡ entries → waits ≡ drop (at - from) all
    → 0 < length waits → rolled_upto r + r.shape.group ≤ r.shape.cap
room_of s r from at entries all waits good shape is within here same are some =
    let wait : waits ≡ drop (rolled_upto r - from) entries = are ∙ (λ i. drop (here i - from) (same i)) in
    subst (λ (x : Shape). rolled_upto r + x.group ≤ x.cap) (sym shape) (room_waits s (rolled_upto r) from entries good is within (subst (λ (l : List EntryKind). 0 < length l) wait some))

never_found : (q : Pair → Bool) → ((p : Pair) → q p ≡ false) → (pairs : List Pair) → find q pairs ≡ None
never_found q out [] = refl
never_found q out (p ∷ ps) = rw (out p) (never_found q out ps)

pub no_fault : (pairs : List Pair) → table_fault 0 pairs ≡ None
no_fault pairs =
    let out : (p : Pair) → (is_table_key 0 p.key && not (is_right pairs p)) ≡ false = λ p. ap (λ (b : Bool). b && not (is_right pairs p)) (no_table_key p.key) in
    ap (option_map (λ (p : Pair). p.key)) (never_found (λ p. is_table_key 0 p.key && not (is_right pairs p)) out pairs)

-- so there is none to be seen without tables
pub none_seen : (r : Roll) (from : ℕ) (entries : List EntryKind) → fault_seen 0 r from entries ≡ None
none_seen r from entries = by (drop (rolled_upto r - from) entries)
  where
    by : (w : List EntryKind) → looked r w 0 ≡ None
    by [] = no_fault (pairs_of r.rolled.tree)
    by (x ∷ xs) = (λ i. option_or (no_fault (pairs_of r.rolled.tree) i) (no_fault (pairs_of (soon r (x ∷ xs)).rolled.tree) i))

pub none_is_seen : (tables : ℕ) (r : Roll) (from : ℕ) (entries : List EntryKind) → tables ≡ 0 → None ≡ fault_seen tables r from entries
none_is_seen tables r from entries none = sym (ap (λ n. fault_seen n r from entries) none ∙ none_seen r from entries)

-- where a fault is seen there are some
some_tables : (tables : ℕ) (r : Roll) (from : ℕ) (entries : List EntryKind) (key : ℕ) → Some key ≡ fault_seen tables r from entries → 1 ≤ tables
some_tables zero r from entries key e = let wrong : Some key ≡ None = e ∙ none_seen r from entries in absurd (cc wrong)
some_tables (suc n) r from entries key e = omega arith

-- ---- what it tells of a whole log

-- a start on devices that tell
pub knowing : {from_point : Bool} {h : Header} {points : List ℕ} {found : List EntryKind} {start : Option Checkpoint} (tells : Bool) → IsTrue tells → IsStart tells from_point h points found start → IsStart true from_point h points found start
knowing tells knows is = record { unasked = is.unasked; held = λ yes. is.held knows; within = is.within; near = is.near }

near_base : (from : ℕ) (point : Option Checkpoint) (b : Bool) → nat_lt (base_of point) from ≡ b → (if b then Err (restarting.Behind (base_of point) from) else Ok point) ≡ Ok point → from ≤ base_of point
near_base from point true is e = absurd (cc e)
near_base from point false is e = ltb-false (base_of point) from is

-- a point's base is no further than its position
base_start : (s : Shape) (log : List EntryKind) (point : Option Checkpoint) → StandsIfAny s log point → base_of point ≤ start_of point
base_start s log None stands = omega arith
base_start s log (Some c) stands = let b = base_is_before c.shape c.position in omega (arith, b, stands.stands.base_is)

module _ {tells : Bool} {script : Workload} {h : Header} {bytes : List ℕ} {found : List EntryKind} {start : Option Checkpoint} {r : Roll} (looks : OpeningLooksTell) (lawful : IsScript script) (options : RunOptions) (starts : IsStart tells options.from_point h bytes found start)
    (is : IsRestarted script.shape h.from found start r) (onward : r.from ≤ rolled_upto r) where
  -- the log was cut before the roller
  cut_before : (whole : List EntryKind) → IsWholeOf script.shape h.from found start whole → h.from ≤ rolled_upto r
  cut_before whole w =
      let near = near_base h.from start (nat_lt (base_of start) h.from) refl starts.near in
      let base = base_start script.shape whole start w.stands in
      omega (arith, near, base, is.from_is, onward)

  pub seen_is_fault : (whole : List EntryKind) → IsWholeOf script.shape h.from found start whole → fault_seen script.tables r h.from found ≡ opening_fault script whole
  seen_is_fault whole w =
      let upto : whole_groups script.shape (length whole) ≡ rolled_upto r = ap (whole_groups script.shape) (whole_size script.shape h.from found start whole w) ∙ sym is.at_is in
      let low = cut_before whole w in
      let at : rolled_upto r ≡ length w.before + (rolled_upto r - h.from) = omega (arith, low, w.cut) in
      let rest : drop (whole_groups script.shape (length whole)) whole ≡ drop (rolled_upto r - h.from) found =
      (λ i. drop ((upto ∙ at) i) (sym w.whole i)) ∙ drop-append-add w.before found (rolled_upto r - h.from) in
      ap (λ (waits : List EntryKind). looked r waits script.tables) (sym rest) ∙ looks script whole r lawful w.lawful is.shape_is onward (is.stands whole w)

  pub opens_sound : OpeningFaultTells → fault_seen script.tables r h.from found ≡ None → (whole : List EntryKind) → IsWholeOf script.shape h.from found start whole → OpensSound script whole
  opens_sound tells none whole w = (tells script whole).0 (sym (seen_is_fault whole w) ∙ none)

  pub table_refusal : (bodies : List (List ℕ)) (key : ℕ) → IsTrue tells → entries_past h.shape h.from bodies ≡ Ok found → Some key ≡ fault_seen script.tables r h.from found → IsBodiesFault options script h bodies bytes (status.Table key)
  table_refusal bodies key knows read seen = inr (
    record { header = h; found = found; start = start },
    refl,
    record { read = read; starts = knowing tells knows starts },
    record { key = key; is = refl; has_tables = some_tables script.tables r h.from found key seen; each = λ whole w. sym (seen_is_fault whole w) ∙ sym seen },
  )
