use Rattle.std.proofs.Common.{◌≡◌, ℕ, ◌+◌, List, ◌∷◌, [], ◌++◌, length, ap, ◌∙◌}
use Rattle.std.specs.Prelude.{flat_map, OnOk, Result, Ok, Err}
use Rattle.std.specs.List.{enumerate_from}
use Rattle.hy_base.specs.Spelling.{Text}
use Rattle.hy_base.specs.declared.record.EntryKind.{EntryKind}
use Rattle.hy_formats.specs.Texts.{entry_text}
use Rattle.hy_run.specs.declared.telling.DumpText.{DumpText}
use Rattle.hy_run.proofs.Dumping.{entry_dumped}
use Rattle.hy_run.proofs.telling.DumpTextReceiver.take.Goals as goal

-- by what putting the entry's line answered
by_answer : {T E : Type 0} (answer : Result T E) (version pos : ℕ) (e : EntryKind) (old new : Text) → OnOk answer (new ≡ old ++ entry_text version (pos, e))
    → OnOk answer ((start : DumpText) (from : ℕ) (entries : List EntryKind) → (version ≡ start.version) × (old ≡ start.text.items ++ flat_map (entry_text start.version) (enumerate_from (from + 1) entries)) → pos ≡ from + length entries + 1
    → (version ≡ start.version) × (new ≡ start.text.items ++ flat_map (entry_text start.version) (enumerate_from (from + 1) (entries ++ e ∷ []))))
by_answer (Err f) version pos e old new put = tt
by_answer (Ok x) version pos e old new put =
    λ start from entries before at. (before.0, entry_dumped (entry_text start.version) from pos entries e start.text.items old new (put ∙ ap (λ (v : ℕ). old ++ entry_text v (pos, e)) before.0) before.1 at)

pub returns-clause-taken : goal.returns-clause-taken
returns-clause-taken c = by_answer c.put_entry.result c.args.self.now.version c.args.pos c.args.entry c.args.self.now.text.items c.put_entry.new.out.items c.put_entry.ensures
