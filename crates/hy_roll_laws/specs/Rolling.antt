-- Rolling: groups are validated one after another by the rows alone, without the history.
--     Of each key a row keeps the last writer, and that is enough to judge by.
use Rattle.std.specs.Prelude.{◌≡◌, ℕ, zero, suc, ◌+◌, ◌*◌, ◌%◌, ◌≤◌, max, Bool, List, [], ◌∷◌, ◌++◌, length, map, take, drop}
use Rattle.std.specs.Prelude.{◌/◌, ◌-◌, Option, None, nat_lt, ◌==◌, if◌then◌else◌}
use Rattle.hy_base.specs.declared.layout.Shape.{Shape}
use Rattle.hy_base.specs.declared.record.EntryKind.{EntryKind}
use Rattle.hy_base.specs.declared.record.EntryKind.TheVariants.{Filler, Txn}
use Rattle.hy_base.specs.declared.record.Row.{Row}
use Rattle.hy_base.specs.declared.record.Verdict.{Verdict}
use Rattle.hy_base.specs.declared.record.Verdict.TheVariants.{Commit, Old, Pre, Mate, Final}
use Rattle.hy_base.specs.Shape.{base_groups, kept_groups, before_horizon, oldest_snap, line_after}
use Rattle.hy_base.specs.Rows.{Each, IsOrdered, applied, newest, purged, Agrees}
use Rattle.hy_base.specs.Marks.{MarkSet, AreMarks, lesser, first_late, known_to}
use Rattle.hy_base.specs.Later.{Later}
use Rattle.hy_formats.specs.Checkpoint.{base_behind}
use Rattle.hy_rules.specs.History.{commits_past, flagged_history}
use Rattle.hy_rules.specs.Validation.{Standing, Filling, Dropped, Joined, dropped_or_joined, joined_writes, group_writes}
use Rattle.hy_rules.specs.Validation.{fate_of, fated, verdicts_after, rows_after}

-- A member as it is staged: dropped where its snapshot is too old, checked against the rows at the base by its snapshot, and
-- then against the newest writes of the members that joined before it.
abbrev pub staged_as : List Row → ℕ → ℕ → List Row → EntryKind → Standing
staged_as base_rows oldest base joined (Filler server) = Filling
staged_as base_rows oldest base joined (Txn i) =
    dropped_or_joined (nat_lt i.snap oldest) (first_late (known_to i.snap i) base_rows)
    (first_late (known_to (max i.snap base) i) (newest joined)) i

-- the members of a group staged in order, the first of these at a position
abbrev pub staged_members : List Row → ℕ → ℕ → ℕ → List Row → List EntryKind → List Standing
staged_members base_rows oldest base pos joined [] = []
staged_members base_rows oldest base pos joined (e ∷ es) =
    let m = staged_as base_rows oldest base joined e in
    m ∷ staged_members base_rows oldest base (pos + 1) (joined ++ joined_writes pos m) es

-- up to which position a joined member knows the writers of a key that it touches
abbrev pub known_of : ℕ → Standing → ℕ → Option ℕ
known_of base Filling key = None
known_of base (Dropped v) key = None
known_of base (Joined i) key = known_to (max i.snap base) i key

-- the least of these among the members
abbrev pub least_known : ℕ → List Standing → ℕ → Option ℕ
least_known base [] key = None
least_known base (m ∷ ms) key = lesser (known_of base m key) (least_known base ms key)

-- the marks of a group: what its joined members know and write, the first of these members at a position
abbrev pub AreGroupMarks : ℕ → ℕ → List Standing → MarkSet → Type 0
AreGroupMarks base pos ms m = AreMarks (least_known base ms) (group_writes pos ms) m

-- the fate of the joined members, by the rows before their group
abbrev pub fate_on : List Row → ℕ → List Standing → Verdict
fate_on rows base ms = fate_of (first_late (least_known base ms) rows)

-- the rows after a group that has this fate
abbrev pub after_fate : Verdict → List Row → List Row → List Row
after_fate Commit rows writes = applied rows writes
after_fate (Old snap) rows writes = rows
after_fate (Pre c) rows writes = rows
after_fate (Mate c) rows writes = rows
after_fate (Final c) rows writes = rows

-- how many groups are judged, the rows then, those at the premeld base of the next group, those before its
-- window, and the verdicts
pub record Rolled : Type 0 where
  pub groups : ℕ
  pub tree : List Row
  pub base_tree : List Row
  pub kept : List Row
  pub verdicts : List (Option Verdict)

-- before the first group
abbrev pub not_rolled : Rolled
not_rolled = record { groups = 0; tree = []; base_tree = []; kept = []; verdicts = [] }

-- The members of the next group. Of the rows only those at its base are read, so all groups of a window can be staged at once.
abbrev pub staged_next : Shape → Rolled → List EntryKind → List Standing
staged_next s r entries =
    staged_members r.base_tree (oldest_snap s r.groups) (s.group * base_groups s r.groups) (s.group * r.groups + 1) [] entries

-- The next group is finished on the rows. With the last group of a window the line moves up, and tombstones at or below
-- it are left out. With the last group of a window the rows kept become the base rows of the next window, and the rows
-- after the group are kept.
abbrev pub finished : Shape → Rolled → List Standing → Rolled
finished s r ms =
    let fate : Verdict = fate_on r.tree (s.group * base_groups s r.groups) ms in
    let tree : List Row =
    purged (line_after s (r.groups + 1)) (after_fate fate r.tree (group_writes (s.group * r.groups + 1) ms)) in
    let turns : Bool = (r.groups + 1) % s.window == 0 in
    record {
      groups = r.groups + 1;
      tree = tree;
      base_tree = if turns then r.kept else r.base_tree;
      kept = if turns then tree else r.kept;
      verdicts = r.verdicts ++ map (fated fate) ms;
    }

-- one more group
abbrev pub roll_group : Shape → Rolled → List EntryKind → Rolled
roll_group s r entries = finished s r (staged_next s r entries)

-- so many more groups, in order
abbrev pub roll_groups : Shape → ℕ → Rolled → List EntryKind → Rolled
roll_groups s zero r entries = r
roll_groups s (suc k) r entries = roll_groups s k (roll_group s r (take s.group entries)) (drop s.group entries)

-- It has rolled the log's first entries, all whole groups, and has what these alone decide. No later entry matters.
pub record HasRolled (s : Shape) (front : List EntryKind) (r : Rolled) : Type 0 where
  pub whole : length front ≡ s.group * r.groups
  pub tree_is : r.tree ≡ rows_after s front r.groups
  pub base_is : r.base_tree ≡ rows_after s front (base_groups s r.groups)
  pub kept_is : r.kept ≡ rows_after s front (kept_groups s r.groups)
  pub verdicts_are : r.verdicts ≡ verdicts_after s front r.groups

-- Each row, that of a deletion too, has a position of the log as its writer: positions count from 1.
abbrev pub AreWritten : List Row → Type 0
AreWritten rows = Each (λ x. 1 ≤ x.writer) rows

-- What it keeps, whether or not it stands for a log: its rows are in order, of writers up to its last group, and grew out of
-- its base rows and out of those that it keeps. Each of these rows was written at some position, and none of them is a
-- tombstone at or below its line.
pub record IsRolled (s : Shape) (r : Rolled) : Type 0 where
  pub ordered : IsOrdered r.tree
  pub bounded : Each (λ x. x.writer ≤ s.group * r.groups) r.tree
  pub base_later : Later r.base_tree r.tree (s.group * base_groups s r.groups) (line_after s r.groups)
  pub kept_later : Later r.kept r.tree (s.group * kept_groups s r.groups) (line_after s r.groups)
  pub written : AreWritten r.tree
  pub base_written : AreWritten r.base_tree
  pub kept_written : AreWritten r.kept
  pub left : Agrees (line_after s r.groups) r.tree r.tree
  pub base_left : Agrees (before_horizon s.horizon (s.group * base_groups s r.groups)) r.base_tree r.base_tree
  pub kept_left : Agrees (line_after s r.groups) r.kept r.kept

-- A tree from which the rows are read. It agrees with them, and is just these rows at a window's end. Between, tombstones at or
-- below the line may come back with parts of the base rows.
pub record IsTreeOf (s : Shape) (r : Rolled) (tree : List Row) : Type 0 where
  pub ordered : IsOrdered tree
  pub bounded : Each (λ x. x.writer ≤ s.group * r.groups) tree
  pub written : AreWritten tree
  pub later : Later r.base_tree tree (s.group * base_groups s r.groups) (line_after s r.groups)
  pub agrees : Agrees (line_after s r.groups) tree r.tree
  pub at_window_end : r.groups % s.window ≡ 0 → tree ≡ r.tree

-- What a roller is: of a log with this shape it has rolled the first groups. It keeps the verdicts past a position, and which
-- entries committed past the premeld base of the next group.
pub record Roll : Type 0 where
  pub shape : Shape
  pub from : ℕ
  pub rolled : Rolled
  pub commits : List Bool

-- the position up to which it has rolled, and the premeld base of the next group
abbrev pub rolled_upto : Roll → ℕ
rolled_upto r = r.shape.group * r.rolled.groups

abbrev pub next_base : Roll → ℕ
next_base r = r.shape.group * base_groups r.shape r.rolled.groups

-- before the first group
abbrev pub new_roll : Shape → Roll
new_roll s = record { shape = s; from = 0; rolled = not_rolled; commits = [] }

-- Resumed at a position: from the rows at the premeld base of the next group, the entries past it up to the position, and which
-- of these committed. The rows at the start of the next group's window are kept on the way. It keeps no verdicts from before.
abbrev pub resumed : Shape → ℕ → List Row → List EntryKind → List Bool → Roll
resumed s pos base_rows entries flags =
    let groups : ℕ = pos / s.group in
    let base : ℕ = base_behind s pos in
    record {
      shape = s;
      from = pos;
      rolled = record {
        groups = groups;
        tree = purged (line_after s groups) (applied base_rows (flagged_history (base + 1) entries flags));
        base_tree = base_rows;
        kept = purged (line_after s groups)
            (applied base_rows (flagged_history (base + 1) entries (take (s.group * kept_groups s groups - base) flags)));
        verdicts = [];
      };
      commits = flags;
    }

-- the commits past the next base of a later roll, where those past the next base of the earlier one are known
abbrev pub commits_on : Shape → Rolled → Rolled → List Bool → List Bool
commits_on s r later commits =
    drop (s.group * base_groups s later.groups - s.group * base_groups s r.groups) (commits
    ++ commits_past (length r.verdicts) later.verdicts)

-- further by the groups of these entries
abbrev pub roll_on : Roll → List EntryKind → Roll
roll_on r entries =
    let later : Rolled = roll_groups r.shape (length entries / r.shape.group) r.rolled entries in
    record { shape = r.shape; from = r.from; rolled = later; commits = commits_on r.shape r.rolled later r.commits }

-- A roller stands for the first entries of a log, all whole groups: it has what these alone decide. No later entry matters.
pub record Stands (front : List EntryKind) (r : Roll) : Type 0 where
  pub whole : length front ≡ rolled_upto r
  pub tree_is : r.rolled.tree ≡ rows_after r.shape front r.rolled.groups
  pub base_is : r.rolled.base_tree ≡ rows_after r.shape front (base_groups r.shape r.rolled.groups)
  pub kept_is : r.rolled.kept ≡ rows_after r.shape front (kept_groups r.shape r.rolled.groups)
  pub verdicts_are : r.rolled.verdicts ≡ drop r.from (verdicts_after r.shape front r.rolled.groups)
  pub commits_are : r.commits ≡ commits_past (next_base r) (verdicts_after r.shape front r.rolled.groups)
