-- What becomes of a group and of a member, by their marks, and by the history.
use Rattle.std.specs.Prelude.{◌≡◌, ℕ, ◌+◌, ◌<◌, max, List, [], ◌∷◌, ◌++◌, length, None, Some}
use Rattle.hy_base.specs.declared.record.Row.{Row}
use Rattle.hy_base.specs.declared.record.Intention.{Intention}
use Rattle.hy_base.specs.Rows.{Each, WritersRise, rows_at, newest}
use Rattle.hy_base.specs.Marks.{MarkSet, AreMarks, IsMerged, clash, known_to}
use Rattle.hy_rules.specs.Validation.{Standing, Joined as IsJoined, touched, first_clash}
use Rattle.hy_roll_laws.specs.Rolling.{AreGroupMarks}
use Rattle.hy_group.specs.declared.group.Join.{Join}
use Rattle.hy_group.specs.declared.group.Join.TheVariants.{Joined, Mate}

-- the marks are added exactly where none of the group's writes is past what they know of its key; else the group is as before
abbrev pub IsJoin : MarkSet → MarkSet → Join → MarkSet → Type 0
IsJoin group marks Joined after = (clash group.writes marks.pairs ≡ None) × IsMerged group marks after
IsJoin group marks (Mate c) after = (clash group.writes marks.pairs ≡ Some c) × (after ≡ group)

-- Where the group has the marks of its members so far, and the marks are those of the next member, raised to the base:
-- it then has those of its members with that one, if it joined.
abbrev pub IsMemberJoin : MarkSet → MarkSet → Join → MarkSet → Type 0
IsMemberJoin group marks Joined after =
    (base pos : ℕ) (ms : List Standing) (i : Intention)
    → AreGroupMarks base pos ms group → AreMarks (known_to (max i.snap base) i) (rows_at (pos + length ms) i.writes) marks
    → AreGroupMarks base pos (ms ++ IsJoined i ∷ []) after
IsMemberJoin group marks (Mate c) after = after ≡ group

-- Where all that the joined members write is past what the marks know: a mate exactly where one of them writes a key that the
-- intention touches, which is the least such key by its last writer.
abbrev pub IsMateIn : List Row → Intention → Join → Type 0
IsMateIn joined i Joined = first_clash (touched i joined) ≡ None
IsMateIn joined i (Mate c) = first_clash (touched i joined) ≡ Some c

abbrev pub IsMateOf : MarkSet → MarkSet → Join → Type 0
IsMateOf group marks answer =
    (joined : List Row) (known : ℕ) (i : Intention) (writes : List Row) → WritersRise joined
    → Each (λ r. known < r.writer) joined → group.writes ≡ newest joined → AreMarks (known_to known i) writes marks
    → IsMateIn joined i answer
