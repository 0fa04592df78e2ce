-- That validation by the last writers of rows gives the verdicts and the rows of the history, however the
-- groups are cut into rolls.
use Rattle.std.specs.Prelude.{◌≡◌, ⊤, ℕ, ◌+◌, ◌-◌, ◌*◌, ◌<◌, ◌≤◌, max, List, [], ◌∷◌, ◌++◌, length, drop, map, flat_map, ◌%◌}
use Rattle.std.specs.Prelude.{◌==◌, if◌then◌else◌, Option, IfSome}
use Rattle.hy_base.specs.declared.layout.Shape.{Shape}
use Rattle.hy_base.specs.declared.record.Intention.{Intention}
use Rattle.hy_base.specs.declared.record.EntryKind.{EntryKind}
use Rattle.hy_base.specs.declared.record.EntryKind.TheVariants.{Filler, Txn}
use Rattle.hy_base.specs.declared.record.Row.{Row}
use Rattle.hy_base.specs.declared.record.Verdict.{Verdict}
use Rattle.hy_base.specs.Shape.{IsGoodShape, base_groups, line_after}
use Rattle.hy_base.specs.Log.{HaveLawfulSnaps}
use Rattle.hy_base.specs.Rows.{Each, WritersRise, IsOrdered, rows_at, applied, newest, up_to, purged, Agrees}
use Rattle.hy_base.specs.Later.{HasAll}
use Rattle.hy_base.specs.Marks.{MarkSet, AreMarks, IsRaised, IsMerged, dep, late, first_late, clash, known_to}
use Rattle.hy_rules.specs.History.{flagged_history, history_from, written_between, commits_past}
use Rattle.hy_base.specs.Verdicts.{is_commit}
use Rattle.hy_rules.specs.Validation.{Standing, Filling, Dropped, Joined, touched, first_clash, group_writes, standings}
use Rattle.hy_rules.specs.Validation.{late_conflicts, fate_of, group_verdicts, verdicts_after, rows_after}
use Rattle.hy_roll_laws.specs.Rolling.{staged_members, least_known, fate_on, AreGroupMarks, after_fate, Rolled, not_rolled}
use Rattle.hy_roll_laws.specs.Rolling.{finished, roll_group, roll_groups, HasRolled, IsRolled, IsTreeOf}

-- ---- last writers

-- Whatever is known of keys: the first late one of the newest rows is the first clash of all late rows.
abbrev pub LastWritersAreEnough : Type 0
LastWritersAreEnough =
    (known : ℕ → Option ℕ) (rows : List Row) → WritersRise rows
    → first_late known (newest rows) ≡ first_clash (late known rows)

-- The rows at the base clash with an intention's marks exactly where it conflicts with a commit past its snapshot and up to the
-- base. Tombstones that are left out matter to none whose snapshot is at or past their line.
abbrev pub AdvanceIsPre : Type 0
AdvanceIsPre =
    (committed : List Row) (line base : ℕ) (i : Intention) (m : MarkSet) (writes : List Row)
    → WritersRise committed → line ≤ i.snap → AreMarks (known_to i.snap i) writes m
    → clash (purged line (newest (up_to base committed))) m.pairs
    ≡ first_clash (touched i (written_between i.snap base committed))

-- raised marks know each key up to the base at least
abbrev pub RaisedKnow : Type 0
RaisedKnow =
    (base : ℕ) (i : Intention) (writes : List Row) (m raised : MarkSet)
    → AreMarks (known_to i.snap i) writes m → IsRaised base m raised
    → AreMarks (known_to (max i.snap base) i) writes raised

-- ---- the marks of a group

-- no members have no marks
abbrev pub EmptyGroup : Type 0
EmptyGroup = (base pos : ℕ) → AreGroupMarks base pos [] (record { pairs = []; writes = [] })

-- a member that joins adds its marks: of each key the lesser dependency is kept
abbrev pub JoinedGroup : Type 0
JoinedGroup =
    (base pos : ℕ) (ms : List Standing) (i : Intention) (group m both : MarkSet) → AreGroupMarks base pos ms group
    → AreMarks (known_to (max i.snap base) i) (rows_at (pos + length ms) i.writes) m → IsMerged group m both
    → AreGroupMarks base pos (ms ++ Joined i ∷ []) both

-- fillers and dropped members add nothing
abbrev pub SkippedGroup : Type 0
SkippedGroup = (base pos : ℕ) (ms : List Standing) (group : MarkSet) → AreGroupMarks base pos ms group
    → AreGroupMarks base pos (ms ++ Filling ∷ []) group × ((v : Verdict) → AreGroupMarks base pos (ms ++ Dropped v ∷ []) group)

-- what the joined members write clashes with an intention's marks exactly where it touches it: all of it is
-- past what the marks know
abbrev pub JoinIsMate : Type 0
JoinIsMate =
    (joined : List Row) (pos : ℕ) (i : Intention) (m : MarkSet) (writes : List Row)
    → WritersRise joined → Each (λ r. pos < r.writer) joined → AreMarks (known_to pos i) writes m
    → clash (newest joined) m.pairs ≡ first_clash (touched i joined)

-- no key is known to a position before the base, and each row is at one of so many positions
pub record AreOwn (base pos count : ℕ) (known : ℕ → Option ℕ) (writes : List Row) : Type 0 where
  pub from_base : (key : ℕ) → IfSome (known key) (λ d. base ≤ d)
  pub low : Each (λ r. pos ≤ r.writer) writes
  pub high : Each (λ r. r.writer < pos + count) writes

-- whatever rows they were staged on: no dependency of a group's marks is before its base, and they write at
-- positions of the group
abbrev pub GroupMarksAreOwn : Type 0
GroupMarksAreOwn =
    (base pos : ℕ) (ms : List Standing)
    → AreOwn base pos (length ms) (least_known base ms) (group_writes pos ms)
    × ((m : MarkSet) → AreGroupMarks base pos ms m → AreOwn base pos (length ms) (dep m.pairs) m.writes)

-- ---- a group by the rows, and by the history

-- each snapshot is up to a position
abbrev pub SnapsUpTo : ℕ → List EntryKind → Type 0
SnapsUpTo upto [] = ⊤
SnapsUpTo upto (Filler server ∷ es) = SnapsUpTo upto es
SnapsUpTo upto (Txn i ∷ es) = (i.snap ≤ upto) × SnapsUpTo upto es

-- Staging on the rows at the base finds the members that the history has. Tombstones that are left out, at or below a line that
-- isn't above the oldest snapshot, matter to none of them.
abbrev pub StagedAreStandings : Type 0
StagedAreStandings =
    (committed : List Row) (line oldest base upto : ℕ) (es : List EntryKind)
    → WritersRise committed → line ≤ oldest → base ≤ upto → SnapsUpTo upto es
    → staged_members (purged line (newest (up_to base committed))) oldest base (upto + 1) [] es
    ≡ standings committed oldest base (upto + 1) [] es

-- A tree that agrees with the rows before a group clashes with the marks of its members exactly where the history has a late
-- conflict with one of them: that decides their fate, and names the last writer of the least key.
abbrev pub FinishIsFate : Type 0
FinishIsFate =
    (committed tree : List Row) (line base pos upto : ℕ) (ms : List Standing) (m : MarkSet)
    → WritersRise committed → Each (λ r. r.writer ≤ upto) committed → line ≤ base
    → Agrees line tree (purged line (newest committed)) → AreGroupMarks base pos ms m
    → clash tree m.pairs ≡ first_clash (flat_map (late_conflicts committed base upto) ms)

-- with that fate, what is left of it past a later line are the newest rows of the history that has grown by
-- what the group commits
abbrev pub FinishIsRows : Type 0
FinishIsRows =
    (committed tree : List Row) (line next oldest base upto : ℕ) (es : List EntryKind) (m : MarkSet)
    → WritersRise committed → Each (λ r. r.writer ≤ upto) committed → line ≤ base → line ≤ next → IsOrdered tree
    → Agrees line tree (purged line (newest committed))
    → AreGroupMarks base (upto + 1) (standings committed oldest base (upto + 1) [] es) m
    → purged next (newest (committed ++ history_from (upto + 1) es (group_verdicts committed oldest base upto es)))
    ≡ purged next (after_fate (fate_of (clash tree m.pairs)) tree m.writes)

-- ---- rollers

-- a new roller stands for no entries
abbrev pub NewRollerStands : Type 0
NewRollerStands = (s : Shape) → HasRolled s [] not_rolled

-- A roller that is rolled over the groups that follow stands for the longer log. Of the entries only the
-- snapshots have to be lawful.
abbrev pub RollExtends : Type 0
RollExtends =
    (s : Shape) (front entries : List EntryKind) (k : ℕ) (r : Rolled)
    → IsGoodShape s → HaveLawfulSnaps s (length front) entries → length entries ≡ s.group * k → HasRolled s front r
    → HasRolled s (front ++ entries) (roll_groups s k r entries)

-- however the groups are cut into rolls, the roller is the same
abbrev pub AnyCutRollsTheSame : Type 0
AnyCutRollsTheSame =
    (s : Shape) (k more : ℕ) (r : Rolled) (es fs : List EntryKind) → length es ≡ s.group * k
    → roll_groups s (k + more) r (es ++ fs) ≡ roll_groups s more (roll_groups s k r es) fs

-- rollers that stand for the same entries are one
abbrev pub StandingIsOne : Type 0
StandingIsOne =
    (s : Shape) (front : List EntryKind) (r r' : Rolled) → IsGoodShape s → HasRolled s front r → HasRolled s front r'
    → r ≡ r'

-- the rows of a roller that stands are in order, and grew out of its base rows and of those that it keeps
abbrev pub StandingIsLater : Type 0
StandingIsLater = (s : Shape) (front : List EntryKind) (r : Rolled) → IsGoodShape s → HasRolled s front r → IsRolled s r

-- with each further group the rows stay so, whether or not the roller stands
abbrev pub RollKeepsLater : Type 0
RollKeepsLater =
    (s : Shape) (r : Rolled) (entries : List EntryKind) → IsGoodShape s → length entries ≤ s.group → IsRolled s r
    → IsRolled s (roll_group s r entries)

-- What a group's end gives, over whatever base rows, stands for the next rows: at a window's end what is left of it past the
-- line, and else as it is.
abbrev pub TreeFollows : Type 0
TreeFollows =
    (s : Shape) (r : Rolled) (ms : List Standing) (tree end next : List Row) → IsGoodShape s → length ms ≤ s.group
    → IsRolled s r → IsTreeOf s r tree → IsOrdered end → HasAll (line_after s r.groups) r.base_tree
    (after_fate (fate_on tree (s.group * base_groups s r.groups) ms) tree (group_writes (s.group * r.groups + 1) ms)) end
    → next ≡ (if (r.groups + 1) % s.window == 0 then purged (line_after s (r.groups + 1)) end else end)
    → IsTreeOf s (finished s r ms) next

-- ---- commits past a base

-- the commits past the next base, as one more group is judged: those of the group are added, and those up to its own base leave
abbrev pub CommitsMoveOn : Type 0
CommitsMoveOn =
    (s : Shape) (n : ℕ) (vs ws : List (Option Verdict)) → IsGoodShape s → length vs ≡ s.group * n
    → commits_past (s.group * base_groups s (n + 1)) (vs ++ ws)
    ≡ drop (s.group * base_groups s (n + 1) - s.group * base_groups s n) (commits_past (s.group * base_groups s n) vs
    ++ map is_commit ws)

-- the rows after some groups, with what committed since then, are the rows after more groups
abbrev pub CommitsGiveRows : Type 0
CommitsGiveRows =
    (s : Shape) (log : List EntryKind) (m n : ℕ) → 0 < s.window → m ≤ n → s.group * n ≤ length log
    → purged (line_after s n) (applied (rows_after s log m)
    (flagged_history (s.group * m + 1) (drop (s.group * m) log) (commits_past (s.group * m) (verdicts_after s log n))))
    ≡ rows_after s log n
