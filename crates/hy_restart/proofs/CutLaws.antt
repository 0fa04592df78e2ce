-- The laws on logs that were cut.
use Rattle.std.proofs.Common.{◌≡◌, cond, ℕ, zero, suc, ◌+◌, ◌-◌, ◌*◌, ◌/◌, ◌≤◌, List, [], ◌∷◌, ◌++◌, length, take, drop, replicate, Option, Some, None, refl, sym, ap, subst, ◌∙◌, arith, append_assoc, length-append, length-drop, take-append-drop}
use Rattle.std.specs.Prelude.{IfSome, Bool, true, false, nat_lt, map, Ok, Err}
use Rattle.std.proofs.lemmas.List.{length-take-le, drop-drop, drop_at, length-replicate}
use Rattle.std.proofs.Math.Nat.{mul_comm, mul-le-mul_left, mul-div-le, mul-div_cancel_left}
use Rattle.std.proofs.lemmas.Nat.{le-div}
use Rattle.hy_base.specs.declared.layout.Shape.{Shape}
use Rattle.hy_base.specs.declared.record.EntryKind.{EntryKind}
use Rattle.hy_base.specs.declared.record.EntryKind.TheVariants.{Filler}
use Rattle.hy_base.specs.declared.record.Row.{Row}
use Rattle.hy_base.specs.declared.record.Verdict.{Verdict}
use Rattle.hy_base.specs.Log.{HaveLawfulSnaps, IsLawful}
use Rattle.hy_base.specs.Shape.{IsGoodShape, base_groups, whole_groups}
use Rattle.hy_base.proofs.GroupLemmas.{whole_count}
use Rattle.hy_rules.specs.Validation.{verdicts_after, rows_after}
use Rattle.hy_rules.specs.History.{pairs_of}
use Rattle.hy_rules.specs.Runs.{verdict_at}
use Rattle.hy_rules.specs.SavedPoints.{StandsIfAny}
use Rattle.hy_rules.specs.CutLogs.{IsWholeOf, AreLawfulPast, filled}
use Rattle.hy_formats.specs.Checkpoint.{Checkpoint, IsCheckpoint}
use Rattle.hy_roll_laws.specs.Rolling.{Roll, Stands}
use Rattle.hy_roller.proofs.Standing.{verdict_past}
use Rattle.hy_formats.specs.Restarting.{base_of, as_entries, as_point, not_ahead, not_behind, restart_in}
use Rattle.hy_restart.specs.Restart.{IsRestarted}
use Rattle.hy_restart.specs.Resuming.{start_of, whole_front, restarted_roll}
use Rattle.std.proofs.lemmas.Bool.{le-ltb}
use Rattle.std.specs.List.{AllByRecursion}
use Rattle.hy_base.specs.Entry.{IsSoundEntry}
use Rattle.hy_codec.specs.CodecLaws.{BodiesAreRead}
use Rattle.hy_formats.specs.declared.header.Header.{Header}
use Rattle.hy_formats.specs.declared.refusal.RestartError.TheVariants as restarting
use Rattle.hy_formats.specs.EntryFormat.{spelling, entries_past}
use Rattle.hy_formats.specs.PointFormat.{held_point}
use Rattle.hy_formats.specs.Reading.{◌>>=◌}
use Rattle.hy_rules.proofs.Growth.{snaps_drop}
use Rattle.hy_restart.specs.CutLaws.{BaseIsSaved, CopyRestarts, UncutIsWhole, PointDecides, PointTells, OneRollerForAll, CutIsOfLog, CutFurther, GrowthOfWhole}
use Rattle.hy_restart.proofs.Logs.{longer_log}
use Rattle.hy_restart.proofs.Restarts.{RollerLaws, restart_stands, start_within, part_is}
use Rattle.hy_restart.proofs.Cuts.{AgreePast, agree_further, same_roll, decide_alike, there, base_there, base_rows}

-- the entries past the cut of a whole log, and how many there are in all
pub past_cut : (s : Shape) (from : ℕ) (entries : List EntryKind) (point : Option Checkpoint) (log : List EntryKind) → IsWholeOf s from entries point log → drop from log ≡ entries
past_cut s from entries point log w = ap (drop from) (sym w.whole) ∙ drop_at w.before entries from w.cut

pub whole_size : (s : Shape) (from : ℕ) (entries : List EntryKind) (point : Option Checkpoint) (log : List EntryKind) → IsWholeOf s from entries point log → length log ≡ from + length entries
whole_size s from entries point log w = ap (λ (l : List EntryKind). length l) (sym w.whole) ∙ (length-append w.before entries ∙ ap (λ (n : ℕ). n + length entries) w.cut)

pub agree_whole : (s : Shape) (from : ℕ) (entries : List EntryKind) (point point' : Option Checkpoint) (log other : List EntryKind) → IsWholeOf s from entries point log → IsWholeOf s from entries point' other → AgreePast from log other
agree_whole s from entries point point' log other w w' = record {
  same = past_cut s from entries point log w ∙ sym (past_cut s from entries point' other w');
  size = whole_size s from entries point log w ∙ sym (whole_size s from entries point' other w');
}

-- ---- a log that wasn't cut

no_front : (before entries : List EntryKind) → length before ≡ 0 → before ++ entries ≡ entries
no_front [] entries none = refl
no_front (e ∷ before) entries none = absurd (omega (arith, none))

pub uncut_is_whole : UncutIsWhole
uncut_is_whole s entries point = record {
  is_one = λ log w. sym w.whole ∙ no_front w.before entries w.cut;
  is_whole = λ lawful stands. record { before = []; cut = refl; whole = refl; lawful = lawful; stands = stands };
}

-- ---- what a point decides

pub point_decides : RollerLaws → PointDecides
point_decides laws s from entries c log other groups good valid near w w' low within =
    decide_alike s c good valid w.stands.shape_is laws log other groups w.lawful w'.lawful w.stands w'.stands (agree_further from c.base log other near (agree_whole s from entries (Some c) (Some c) log other w w')) low within

pub point_tells : RollerLaws → PointTells
point_tells laws s from entries c log other good valid near w w' =
    let size : length log ≡ length other = (agree_whole s from entries (Some c) (Some c) log other w w').size in
    record {
      snapshots = λ pos ends low within.
          let is : pos ≡ s.group * (pos / s.group) = whole_count s.group pos ends in
          ap (λ (rows : List Row). pairs_of rows) (point_decides laws s from entries c log other (pos / s.group) good valid near w w' (omega (arith, is, low)) (omega (arith, is, within))).rows;
      told = λ pos past.
          let n : ℕ = length log / s.group in
          let last : s.group * n ≤ length log = mul-div-le (length log) s.group in
          let at : c.position ≡ s.group * (c.position / s.group) = there s c good valid w.stands.shape_is in
          let turned : c.position / s.group * s.group ≤ length log = omega (arith, mul_comm (c.position / s.group) s.group, at, w.stands.within) in
          let up : c.position / s.group ≤ n = le-div (c.position / s.group) (length log) s.group good.group.at_least turned in
          let over : s.group * (c.position / s.group) ≤ s.group * n = mul-le-mul_left s.group up in
          let alike = point_decides laws s from entries c log other n good valid near w w' (omega (arith, at, over, valid.flag_each)) last in
          sym (verdict_past (verdicts_after s log n) c.position pos past)
          ∙ (ap (λ (vs : List (Option Verdict)). verdict_at vs (pos - c.position)) alike.verdicts
          ∙ (verdict_past (verdicts_after s other n) c.position pos past ∙ ap (λ (k : ℕ). verdict_at (verdicts_after s other (k / s.group)) pos) size));
    }

-- ---- the roller

filler_snaps : (s : Shape) (pos n : ℕ) (entries : List EntryKind) → HaveLawfulSnaps s (pos + n) entries → HaveLawfulSnaps s pos (replicate n (Filler 1) ++ entries)
filler_snaps s pos zero entries snaps = let same : pos + 0 ≡ pos = omega arith in subst (λ (k : ℕ). HaveLawfulSnaps s k entries) same snaps
filler_snaps s pos (suc n) entries snaps = let same : pos + suc n ≡ pos + 1 + n = omega arith in (tt, filler_snaps s (pos + 1) n entries (subst (λ (k : ℕ). HaveLawfulSnaps s k entries) same snaps))

pub filled_size : (from : ℕ) (entries : List EntryKind) → length (filled from entries) ≡ from + length entries
filled_size from entries = length-append (replicate from (Filler 1)) entries ∙ ap (λ (n : ℕ). n + length entries) (length-replicate from (Filler 1))

pub filled_past : (from : ℕ) (entries : List EntryKind) → drop from (filled from entries) ≡ entries
filled_past from entries = drop_at (replicate from (Filler 1)) entries from (length-replicate from (Filler 1))

pub filled_lawful : (s : Shape) (from : ℕ) (entries : List EntryKind) → AreLawfulPast s from entries → IsLawful s (filled from entries)
filled_lawful s from entries lawful =
    let same : from ≡ 0 + from = omega arith in
    record { capacity = omega (arith, filled_size from entries, lawful.capacity); snaps = filler_snaps s 0 from entries (subst (λ (k : ℕ). HaveLawfulSnaps s k entries) same lawful.snaps) }

pub filled_agrees : (s : Shape) (from : ℕ) (entries : List EntryKind) (point : Option Checkpoint) (log : List EntryKind) → IsWholeOf s from entries point log → AgreePast from log (filled from entries)
filled_agrees s from entries point log w = record { same = past_cut s from entries point log w ∙ sym (filled_past from entries); size = whole_size s from entries point log w ∙ sym (filled_size from entries) }

pub one_roller : RollerLaws → OneRollerForAll
one_roller laws s from entries None log good lawful valid near w =
    let zero_is : from ≡ 0 = omega (arith, near) in
    let is : log ≡ filled from entries = (uncut_is_whole s entries None).is_one log (subst (λ (n : ℕ). IsWholeOf s n entries None log) zero_is w) ∙ ap (λ (n : ℕ). filled n entries) (sym zero_is) in
    subst (λ (l : List EntryKind). Stands (whole_front s log) (restarted_roll s l None)) is ((restart_stands laws s log None good w.lawful tt tt).stands tt)
one_roller laws s from entries (Some c) log good lawful valid near w =
    let agree : AgreePast c.base log (filled from entries) = agree_further from c.base log (filled from entries) near (filled_agrees s from entries (Some c) log w) in
    let low : c.base ≤ c.position = omega (arith, valid.1.flag_each) in
    let high : c.position ≤ whole_groups s (length log) = start_within s (length log) (Some c) good valid w.stands.within in
    subst (λ (r : Roll). Stands (whole_front s log) r) (same_roll s c log (filled from entries) low high agree) ((restart_stands laws s log (Some c) good w.lawful valid w.stands.within).stands w.stands)

-- a point within a log is within one of as many entries
pub within_filled : (from : ℕ) (entries : List EntryKind) (point : Option Checkpoint) → IfSome point (λ c. c.position ≤ from + length entries) → IfSome point (λ c. c.position ≤ length (filled from entries))
within_filled from entries None within = tt
within_filled from entries (Some c) within = omega (arith, filled_size from entries, within)

pub restarted_cut : RollerLaws → (s : Shape) (from : ℕ) (entries : List EntryKind) (point : Option Checkpoint) (r : Roll) → IsGoodShape s → AreLawfulPast s from entries → IfSome point (λ c. (c.shape ≡ s) × IsCheckpoint c) → IfSome point (λ c. c.position ≤ from + length entries)
    → from ≤ base_of point → r ≡ restarted_roll s (filled from entries) point → IsRestarted s from entries point r
restarted_cut laws s from entries point r good lawful valid within near is =
    let there = restart_stands laws s (filled from entries) point good (filled_lawful s from entries lawful) valid (within_filled from entries point within) in
    let all : IsRestarted s from entries point (restarted_roll s (filled from entries) point) = record {
      shape_is = there.shape_is;
      from_is = there.from_is;
      at_is = there.at_is ∙ ap (whole_groups s) (filled_size from entries);
      stands = λ log w. one_roller laws s from entries point log good lawful valid near w;
    } in
    subst (IsRestarted s from entries point) (sym is) all

-- where a restart begins isn't before the cut
pub base_first : (s : Shape) (from : ℕ) (point : Option Checkpoint) → IfSome point (λ c. (c.shape ≡ s) × IsCheckpoint c) → from ≤ base_of point → from ≤ start_of point
base_first s from None valid near = near
base_first s from (Some c) valid near = omega (arith, near, valid.1.flag_each)

-- parts of such a log past the cut
filled_drop : (from at : ℕ) (entries : List EntryKind) → from ≤ at → drop at (filled from entries) ≡ drop (at - from) entries
filled_drop from at entries le =
    let sum : from + (at - from) ≡ at = omega (arith, le) in
    ap (λ (n : ℕ). drop n (filled from entries)) (sym sum) ∙ (sym (drop-drop (at - from) from (filled from entries)) ∙ ap (drop (at - from)) (filled_past from entries))

pub filled_part : (from at end : ℕ) (entries : List EntryKind) → from ≤ at → at ≤ end → take (end - from - (at - from)) (drop (at - from) entries) ≡ drop at (take end (filled from entries))
filled_part from at end entries le order =
    let size : end - from - (at - from) ≡ end - at = omega (arith, le, order) in
    (λ i. take (size i) (sym (filled_drop from at entries le) i)) ∙ part_is at end (filled from entries) order

pub filled_rest : (from first whole : ℕ) (entries : List EntryKind) → from ≤ first → first ≤ whole → drop (first - from) (take (whole - from) entries) ≡ drop first (take whole (filled from entries))
filled_rest from first whole entries le order =
    sym (part_is (first - from) (whole - from) entries (omega (arith, order))) ∙ filled_part from first whole entries le order

-- ---- cuts and growth

pub cut_is_of_log : CutIsOfLog
cut_is_of_log s from log point lawful stands within = record {
  before = take from log;
  cut = length-take-le from log within;
  whole = take-append-drop from log;
  lawful = lawful;
  stands = stands;
}

pub cut_further : CutFurther
cut_further s from more entries point log within w = record {
  before = w.before ++ take more entries;
  cut = omega (arith, length-append w.before (take more entries), w.cut, length-take-le more entries within);
  whole = append_assoc w.before (take more entries) (drop more entries) ∙ (ap (λ (l : List EntryKind). w.before ++ l) (take-append-drop more entries) ∙ w.whole);
  lawful = w.lawful;
  stands = w.stands;
}

snaps_join : (s : Shape) (pos : ℕ) (log more : List EntryKind) → HaveLawfulSnaps s pos log → HaveLawfulSnaps s (pos + length log) more → HaveLawfulSnaps s pos (log ++ more)
snaps_join s pos [] more here rest = let same : pos + 0 ≡ pos = omega arith in subst (λ (k : ℕ). HaveLawfulSnaps s k more) same rest
snaps_join s pos (e ∷ log) more here rest = let same : pos + suc (length log) ≡ pos + 1 + length log = omega arith in (here.0, snaps_join s (pos + 1) log more here.1 (subst (λ (k : ℕ). HaveLawfulSnaps s k more) same rest))

snaps_rest : (s : Shape) (pos : ℕ) (log more : List EntryKind) → HaveLawfulSnaps s pos (log ++ more) → HaveLawfulSnaps s (pos + length log) more
snaps_rest s pos [] more snaps = let same : pos ≡ pos + 0 = omega arith in subst (λ (k : ℕ). HaveLawfulSnaps s k more) same snaps
snaps_rest s pos (e ∷ log) more snaps = let same : pos + 1 + length log ≡ pos + suc (length log) = omega arith in subst (λ (k : ℕ). HaveLawfulSnaps s k more) same (snaps_rest s (pos + 1) log more snaps.1)

stands_longer : (s : Shape) (log more : List EntryKind) (point : Option Checkpoint) → StandsIfAny s log point → StandsIfAny s (log ++ more) point
stands_longer s log more None stands = tt
stands_longer s log more (Some c) stands = longer_log s log more c stands

pub growth_of_whole : GrowthOfWhole
growth_of_whole s from entries more point log lawful w =
    let size : length log ≡ from + length entries = whole_size s from entries point log w in
    let rest : HaveLawfulSnaps s (0 + length log) more = let same : from + length entries ≡ 0 + length log = omega (arith, size) in subst (λ (k : ℕ). HaveLawfulSnaps s k more) same (snaps_rest s from entries more lawful.snaps) in
    record {
      before = w.before;
      cut = w.cut;
      whole = sym (append_assoc w.before entries more) ∙ ap (λ (l : List EntryKind). l ++ more) w.whole;
      lawful = record { capacity = omega (arith, length-append log more, length-append entries more, size, lawful.capacity); snaps = snaps_join s 0 log more w.lawful.snaps rest };
      stands = stands_longer s log more point w.stands;
    }

-- ---- a copy

past_sound : (version n : ℕ) (entries : List EntryKind) → AllByRecursion (IsSoundEntry version) entries → AllByRecursion (IsSoundEntry version) (drop n entries)
past_sound version zero entries sound = sound
past_sound version (suc n) [] sound = tt
past_sound version (suc n) (e ∷ entries) sound = past_sound version n entries sound.1

-- a restart that isn't refused
goes : (h : Header) (bodies : List (List ℕ)) (entries : List EntryKind) (points : List ℕ) (c : Checkpoint) → entries_past h.shape h.from bodies ≡ Ok entries → held_point h.shape points ≡ Some (Ok c) → nat_lt (h.from + length entries) c.position ≡ false → nat_lt c.base h.from ≡ false
    → restart_in h bodies true points ≡ Ok (entries, Some c)
goes h bodies entries points c read held ahead behind =
    let entries_read : restart_in h bodies true points ≡ (as_point (held_point h.shape points) >>= λ held. not_ahead (h.from + length entries) held >>= λ near. not_behind h.from near >>= λ point. Ok (entries, point)) =
    ap (λ r. as_entries r >>= λ es. as_point (held_point h.shape points) >>= λ held. not_ahead (h.from + length es) held >>= λ near. not_behind h.from near >>= λ point. Ok (es, point)) read in
    let point_read : (as_point (held_point h.shape points) >>= λ held. not_ahead (h.from + length entries) held >>= λ near. not_behind h.from near >>= λ point. Ok (entries, point)) ≡ (not_ahead (h.from + length entries) (Some c) >>= λ near. not_behind h.from near >>= λ point. Ok (entries, point)) =
    ap (λ r. as_point r >>= λ held. not_ahead (h.from + length entries) held >>= λ near. not_behind h.from near >>= λ point. Ok (entries, point)) held in
    let in_time : not_ahead (h.from + length entries) (Some c) ≡ Ok (Some c) = ap (λ (b : Bool). cond b (Err (restarting.Ahead c.position (h.from + length entries))) (Ok (Some c))) ahead in
    let near : not_behind h.from (Some c) ≡ Ok (Some c) = ap (λ (b : Bool). cond b (Err (restarting.Behind c.base h.from)) (Ok (Some c))) behind in
    entries_read ∙ (point_read
    ∙ (ap (λ r. r >>= λ near. not_behind h.from near >>= λ point. Ok (entries, point)) in_time ∙ ap (λ r. r >>= λ point. Ok (entries, point)) near))

pub copy_restarts : BodiesAreRead → CopyRestarts
copy_restarts reads s from entries c points good lawful sound valid near within held =
    let past : ℕ = c.base - from in
    let rest : List EntryKind = drop past entries in
    let low : c.base ≤ c.position = omega (arith, valid.1.flag_each) in
    let sum : from + past ≡ c.base = omega (arith, near) in
    let fits : past ≤ length entries = omega (arith, low, within, near) in
    let size : length rest ≡ length entries - past = length-drop past entries in
    let snaps : HaveLawfulSnaps s c.base rest = subst (λ (n : ℕ). HaveLawfulSnaps s n rest) sum (snaps_drop s from past entries lawful.snaps) in
    let ahead : nat_lt (c.base + length rest) c.position ≡ false = le-ltb (c.base + length rest) c.position (omega (arith, size, sum, fits, within)) in
    let behind : nat_lt c.base c.base ≡ false = le-ltb c.base c.base (omega arith) in
    record {
      read = goes (record { shape = s; from = c.base }) (map (spelling s.version) rest) rest points c (reads s c.base rest (past_sound s.version past entries sound) snaps) held ahead behind;
      whole = λ log w. subst (λ (n : ℕ). IsWholeOf s n rest (Some c) log) sum (cut_further s from past entries (Some c) log fits w);
    }

pub base_is_saved : BaseIsSaved
base_is_saved s from entries c log good valid w =
    let m : ℕ = base_groups s (c.position / s.group) in
    let count : c.base / s.group ≡ m = ap (λ (k : ℕ). k / s.group) (base_there s c good valid w.stands.shape_is) ∙ mul-div_cancel_left m good.group.at_least in
    ap (λ (k : ℕ). pairs_of (rows_after s log k)) count ∙ ap pairs_of (base_rows s c good valid w.stands.shape_is log w.stands)
