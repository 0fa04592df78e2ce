use Rattle.std.proofs.Common.{◌≡◌, ◌∙◌, Some, refl, sym, ap, map}
use Rattle.clap.specs.Words.{app_of, found_of, kind_of, rows_of}
use Rattle.clap.specs.declared.error.kind.ErrorKind.TheVariants.{OutOfMemory}
use Rattle.hy_cli.specs.Matches.{meant}
use Rattle.hy_cli.proofs.Parsed.{is_read, never_bare, never_refused, read_obeys, refusal}
use Rattle.hy_cli.proofs.parsing.parse_texts.Goals as goal

pub line_from-requires-clause-known : goal.line_from-requires-clause-known
line_from-requires-clause-known c =
    let m = c.in-Ok.ensures in
    (is_read (app_of c.in_ok-command.command) c.in-Ok.matches (map (λ t. t.now) c.args.words.now) c.in-Some.name.now (rows_of (found_of c.in-Some.found.now)) _
    c.in_ok-command.ensures m.kinds m.matches c.in-Some.ensures.name c.in-Some.ensures.rows).command

pub line_from-requires-clause-accepted : goal.line_from-requires-clause-accepted
line_from-requires-clause-accepted c =
    let m = c.in-Ok.ensures in
    (is_read (app_of c.in_ok-command.command) c.in-Ok.matches (map (λ t. t.now) c.args.words.now) c.in-Some.name.now (rows_of (found_of c.in-Some.found.now)) _
    c.in_ok-command.ensures m.kinds m.matches c.in-Some.ensures.name c.in-Some.ensures.rows).accepted

pub returns-in-Some-clause-obeyed : goal.returns-in-Some-clause-obeyed
returns-in-Some-clause-obeyed c =
    let m = c.in-Ok.ensures in
    read_obeys (map (λ t. t.now) c.args.words.now) c.in-Some.name.now (rows_of (found_of c.in-Some.found.now)) c.line_from.result
    (is_read (app_of c.in_ok-command.command) c.in-Ok.matches (map (λ t. t.now) c.args.words.now) c.in-Some.name.now (rows_of (found_of c.in-Some.found.now)) _
    c.in_ok-command.ensures m.kinds m.matches c.in-Some.ensures.name c.in-Some.ensures.rows) c.line_from.ensures.line

pub returns-in-Some-clause-unknown : goal.returns-in-Some-clause-unknown
returns-in-Some-clause-unknown c =
    let m = c.in-Ok.ensures in
    let read = is_read (app_of c.in_ok-command.command) c.in-Ok.matches (map (λ t. t.now) c.args.words.now) c.in-Some.name.now (rows_of (found_of c.in-Some.found.now)) _
    c.in_ok-command.ensures m.kinds m.matches c.in-Some.ensures.name c.in-Some.ensures.rows in
    λ e. sym e ∙ read.named

pub returns-in-Some-clause-word : goal.returns-in-Some-clause-word
returns-in-Some-clause-word c =
    let m = c.in-Ok.ensures in
    let read = is_read (app_of c.in_ok-command.command) c.in-Ok.matches (map (λ t. t.now) c.args.words.now) c.in-Some.name.now (rows_of (found_of c.in-Some.found.now)) _
    c.in_ok-command.ensures m.kinds m.matches c.in-Some.ensures.name c.in-Some.ensures.rows in
    read.first ∙ ap (λ n. Some n) (sym c.line_from.ensures.word)

pub returns-in-Some-clause-meaning : goal.returns-in-Some-clause-meaning
returns-in-Some-clause-meaning c =
    let m = c.in-Ok.ensures in
    let read = is_read (app_of c.in_ok-command.command) c.in-Ok.matches (map (λ t. t.now) c.args.words.now) c.in-Some.name.now (rows_of (found_of c.in-Some.found.now)) _
    c.in_ok-command.ensures m.kinds m.matches c.in-Some.ensures.name c.in-Some.ensures.rows in
    (read.fault, ap meant read.entered ∙ c.line_from.ensures.line)

pub returns-in-Some-clause-range : goal.returns-in-Some-clause-range
returns-in-Some-clause-range c = c.line_from.ensures.range

pub returns-in-Ok-clause-obeyed : goal.returns-in-Ok-clause-obeyed
returns-in-Ok-clause-obeyed c =
    let m = c.in-Ok.ensures in
    λ l e. absurd (never_bare (app_of c.in_ok-command.command) c.in-Ok.matches (map (λ t. t.now) c.args.words.now) _ c.in_ok-command.ensures m.kinds m.matches c.in-None.ensures.name)

pub returns-in-Ok-clause-unknown : goal.returns-in-Ok-clause-unknown
returns-in-Ok-clause-unknown c = λ e. refl

pub returns-in-Ok-clause-refused : goal.returns-in-Ok-clause-refused
returns-in-Ok-clause-refused c =
    let m = c.in-Ok.ensures in
    λ e none. never_bare (app_of c.in_ok-command.command) c.in-Ok.matches (map (λ t. t.now) c.args.words.now) _ c.in_ok-command.ensures m.kinds m.matches c.in-None.ensures.name

pub returns : goal.returns
returns c =
    let words = map (λ t. t.now) c.args.words.now in
    let other = λ (e : kind_of c.in-Err.error ≡ OutOfMemory). c.in_default.not-OutOfMemory (c.kind.ensures ∙ e) in
    record {
      obeyed = λ l e. absurd (never_refused (app_of c.in_ok-command.command) words c.in-Err.error l c.in_ok-command.ensures c.in-Err.ensures.passes other e);
      unknown = λ e. refl;
      refused = λ e. refusal (app_of c.in_ok-command.command) words c.in-Err.error c.in_ok-command.ensures c.in-Err.ensures.kinds other;
      meaning = tt;
      word = tt;
      range = tt;
    }
