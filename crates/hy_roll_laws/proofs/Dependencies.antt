-- What the marks of more members know.
use Rattle.std.proofs.Common.{◌≡◌, ℕ, ◌+◌, Bool, true, false, cond, max, List, [], ◌∷◌, ◌++◌, length, Some, None, refl, sym, ap, ◌∙◌, arith, append_assoc}
use Rattle.std.proofs.lemmas.List.{append-nil}
use Rattle.std.specs.Prelude.{option_map}
use Rattle.hy_base.specs.Entry.{touches}
use Rattle.hy_base.specs.Rows.{rows_at, applied, newest}
use Rattle.hy_base.specs.Marks.{MarkSet, lesser}
use Rattle.hy_base.proofs.RowLemmas.{newest-append, applied_newest, ordered_newest}
use Rattle.hy_base.proofs.MarkLemmas.{lesser_assoc, lesser_none}
use Rattle.hy_rules.specs.Validation.{Standing, Filling, Dropped, Joined, joined_writes, group_writes}
use Rattle.hy_roll_laws.specs.Rolling.{known_of, least_known, AreGroupMarks}
use Rattle.hy_roll_laws.specs.RollingLaws.{RaisedKnow, EmptyGroup, JoinedGroup, SkippedGroup}

pub raised_known : (base pos : ℕ) (b : Bool) → option_map (λ d. max d base) (cond b (Some pos) None) ≡ cond b (Some (max pos base)) None
raised_known base pos true = refl
raised_known base pos false = refl

pub raised_know : RaisedKnow
raised_know base i writes m raised are up = record {
  deps = λ key. up.deps key ∙ (ap (option_map (λ d. max d base)) (are.deps key) ∙ raised_known base i.snap (touches i key));
  puts = up.puts ∙ are.puts;
}

least_known-append : (base : ℕ) (ms ns : List Standing) (key : ℕ) → least_known base (ms ++ ns) key ≡ lesser (least_known base ms key) (least_known base ns key)
least_known-append base [] ns key = refl
least_known-append base (m ∷ ms) ns key =
    ap (lesser (known_of base m key)) (least_known-append base ms ns key) ∙ sym (lesser_assoc (known_of base m key) (least_known base ms key) (least_known base ns key))

pub group_writes-append : (pos place : ℕ) (ms ns : List Standing) → place ≡ pos + length ms → group_writes pos (ms ++ ns) ≡ group_writes pos ms ++ group_writes place ns
group_writes-append pos place [] ns e = let same : pos ≡ place = omega (arith, e) in ap (λ p. group_writes p ns) same
group_writes-append pos place (m ∷ ms) ns e =
    ap (λ rows. joined_writes pos m ++ rows) (group_writes-append (pos + 1) place ms ns (omega (arith, e)))
    ∙ sym (append_assoc (joined_writes pos m) (group_writes (pos + 1) ms) (group_writes place ns))

-- one more member adds what it writes
pub one_writes : (pos : ℕ) (ms : List Standing) (m : Standing) → group_writes pos (ms ++ m ∷ []) ≡ group_writes pos ms ++ joined_writes (pos + length ms) m
one_writes pos ms m = group_writes-append pos (pos + length ms) ms (m ∷ []) refl ∙ ap (λ rows. group_writes pos ms ++ rows) (append-nil (joined_writes (pos + length ms) m))

-- and what it knows
one_known : (base : ℕ) (ms : List Standing) (m : Standing) (key : ℕ) → least_known base (ms ++ m ∷ []) key ≡ lesser (least_known base ms key) (known_of base m key)
one_known base ms m key = least_known-append base ms (m ∷ []) key ∙ ap (lesser (least_known base ms key)) (lesser_none (known_of base m key))

pub empty_group : EmptyGroup
empty_group base pos = record { deps = λ key. refl; puts = refl }

pub joined_group : JoinedGroup
joined_group base pos ms i group m both are own merged = record {
  deps = λ key. merged.deps key ∙ ((λ j. lesser (are.deps key j) (own.deps key j)) ∙ sym (one_known base ms (Joined i) key));
  puts =
      merged.puts
      ∙ ((λ j. applied (are.puts j) (own.puts j))
      ∙ (applied_newest (newest (group_writes pos ms)) (rows_at (pos + length ms) i.writes) (ordered_newest (group_writes pos ms))
      ∙ (sym (newest-append (group_writes pos ms) (rows_at (pos + length ms) i.writes)) ∙ ap newest (sym (one_writes pos ms (Joined i))))));
}

skip : (base pos : ℕ) (ms : List Standing) (m : Standing) (group : MarkSet) → ((key : ℕ) → known_of base m key ≡ None) → joined_writes (pos + length ms) m ≡ [] → AreGroupMarks base pos ms group → AreGroupMarks base pos (ms ++ m ∷ []) group
skip base pos ms m group none nothing are = record {
  deps = λ key. are.deps key ∙ (sym (lesser_none (least_known base ms key)) ∙ (ap (lesser (least_known base ms key)) (sym (none key)) ∙ sym (one_known base ms m key)));
  puts = are.puts ∙ ap newest (sym (append-nil (group_writes pos ms)) ∙ (ap (λ rows. group_writes pos ms ++ rows) (sym nothing) ∙ sym (one_writes pos ms m)));
}

pub skipped_group : SkippedGroup
skipped_group base pos ms group are = (skip base pos ms Filling group (λ key. refl) refl are, λ v. skip base pos ms (Dropped v) group (λ key. refl) refl are)
