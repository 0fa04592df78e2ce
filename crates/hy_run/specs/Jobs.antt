-- What each command means: one record a job, so that a further one is a further case here.
use Rattle.std.specs.Prelude.{◌≡◌, ℕ, Bool, true, false, IsTrue, List, Option, Some, None, Ok, Err, ⊤}
use Rattle.hy_base.specs.declared.layout.Shape.{Shape}
use Rattle.hy_base.specs.declared.record.EntryKind.{EntryKind}
use Rattle.hy_base.specs.Spelling.{Text}
use Rattle.hy_formats.specs.Checkpoint.{Checkpoint}
use Rattle.hy_formats.specs.LogFormat.{is_unborn}
use Rattle.hy_rules.specs.Recovery.{Recovered, recovered}
use Rattle.hy_cli.specs.declared.commands.Line.{Line}
use Rattle.hy_cli.specs.declared.commands.Line.TheVariants.{Run, Sim, Tell, Compact, Follow, Load}
use Rattle.hy_script.specs.Input.{read_input}
use Rattle.hy_script.specs.ScriptReading.{refused_at}
use Rattle.hy_script.specs.declared.input.Input.{Input}
use Rattle.hy_script.specs.declared.why.Why.{Why}
use Rattle.hy_run.specs.Fates.{Fate, WasOpened, uncalled, unopened, opened, grown}
use Rattle.hy_run.specs.Compacting.{IsCopied, LeavesSpare, compact_refused}
use Rattle.hy_run.specs.Inspection.{IsReport, IsUntold, report_refused, untold}
use Rattle.hy_run.specs.Loading.{IsLoadText}
use Rattle.hy_run.specs.Output.{IsOutput, IsRefused}
use Rattle.hy_run.specs.Over.{LeavesEver, Over}
use Rattle.hy_run.specs.Running.{CanBeRun, IsForScript, IsLogRefused, IsRunText, IsScriptRefused, RefusesLog}
use Rattle.hy_formats.specs.declared.damage.BadFrame.{BadFrame}
use Rattle.hy_run.specs.Source.{read_source}
use Rattle.hy_run.specs.Streams.{IsFollowed, IsStreamRefused, read_stream}
use Rattle.hy_cli.specs.declared.commands.Report.{Report}
use Rattle.hy_run.specs.declared.status.RunOptions.{RunOptions}
use Rattle.hy_run.specs.declared.status.Status.{Status}

-- What a command does: it runs the clients of a script over the log, a script by its schedule, or a script that is
-- generated; it tells something of the log; it copies the log past the saved point's base; or it takes the stream of a
-- log from its source.
pub data Job : Type 0 where
  runs : RunOptions → Job
  simulates : Job
  loads : ℕ → ℕ → Job
  tells_of_log : Report → Job
  compacts : Job
  follows : Job

abbrev pub job_of : Line → Job
job_of (Run threads point save) = runs (record { from_point = point; save = save })
job_of (Sim threads) = simulates
job_of (Load seed size threads) = loads seed size
job_of (Tell report) = tells_of_log report
job_of Compact = compacts
job_of (Follow threads) = follows

-- What a job means, by the bytes that its source has left, if it tells them, and by the devices of the log, the saved point and
-- the copy over the call.
pub record JobMeaning : Type 1 where
  -- whether it reads its source, whether it makes a copy, and what it does with the saved point
  pub reads : Bool
  pub copies : Bool
  pub options : RunOptions
  -- the text that it writes
  pub text : Option Text → Over → Over → Over → Fate → Option Checkpoint → Text → Type 0
  -- nothing on the way to the text is wrong
  pub can : Option Text → Over → Over → Over → Type 0
  -- a line of the script is refused, for this cause; and which is, of a source that tells these bytes
  pub script_refused : Option Text → ℕ → Why → Type 0
  pub refuses_script : Text → ℕ → Why → Type 0
  -- a place of a stream is refused; and which is, of a source that tells these bytes
  pub stream_refused : Option Text → BadFrame → Type 0
  pub refuses_stream : Text → BadFrame → Type 0
  -- the log, its point or the spare device is refused, with this answer; and with which it is, of devices that tell their bytes
  pub log_refused : Option Text → Over → Over → Over → Status → Type 0
  pub refuses_log : Option Text → Over → Over → Over → Status → Type 0
  -- how the spare device is left, by the others
  pub leaves_spare : Over → Over → Over → Type 0
  -- what may become of the log
  pub may_leave : Option Text → Over → Fate → Type 0

abbrev pub no_point : RunOptions
no_point = record { from_point = false; save = false }

abbrev pub only_point : RunOptions
only_point = record { from_point = true; save = false }

-- no call is made on the log
abbrev pub IsUncalled : Fate → Type 0
IsUncalled fate = fate ≡ uncalled

-- The log is only looked at: an unborn device isn't opened, and stays unborn.
abbrev pub LeavesUnborn : Over → Fate → Type 0
LeavesUnborn log unopened = is_unborn log.before.seen ≡ true → LeavesEver log (λ image. is_unborn image ≡ true)
LeavesUnborn log (opened header bodies) = IsTrue log.tells → is_unborn log.before.seen ≡ false
LeavesUnborn log (grown g) = ⊥
LeavesUnborn log uncalled = ⊤

-- It was opened, unless its device is unborn.
abbrev pub IsOpenedIfBorn : Over → Fate → Type 0
IsOpenedIfBorn log (opened header bodies) = ⊤
IsOpenedIfBorn log unopened = IsTrue log.tells → is_unborn log.before.seen ≡ true
IsOpenedIfBorn log _ = ⊥

abbrev pub meaning : Job → JobMeaning
meaning (runs options) = record {
  reads = true;
  copies = false;
  options = options;
  text = λ told log points spare fate start text. IsRunText options points fate start text;
  can = λ told log points spare. CanBeRun options told log points;
  script_refused = IsScriptRefused;
  refuses_script = λ bytes n why. read_input bytes false ≡ refused_at n why;
  stream_refused = λ told bad. ⊥;
  refuses_stream = λ bytes bad. ⊥;
  log_refused = λ told log points spare answer. IsLogRefused options told log points answer;
  refuses_log = λ told log points spare answer. (bytes : Text) × (input : Input)
      × (told ≡ Some bytes)
      × (read_input bytes false ≡ Ok input)
      × RefusesLog options input.script log points answer;
  leaves_spare = λ log points spare. spare.uncalled;
  may_leave = λ told log fate. IsForScript told fate;
}
meaning simulates = record {
  reads = true;
  copies = false;
  options = no_point;
  text = λ told log points spare fate start text. IsOutput told text;
  can = λ told log points spare. (bytes : Text) × (input : Input) × (told ≡ Some bytes) × (read_source bytes true ≡ Ok input);
  script_refused = IsRefused;
  refuses_script = λ bytes n why. read_source bytes true ≡ refused_at n why;
  stream_refused = λ told bad. ⊥;
  refuses_stream = λ bytes bad. ⊥;
  log_refused = λ told log points spare answer. ⊥;
  refuses_log = λ told log points spare answer. ⊥;
  leaves_spare = λ log points spare. spare.uncalled;
  may_leave = λ told log fate. IsUncalled fate;
}
meaning (loads seed size) = record {
  reads = false;
  copies = false;
  options = no_point;
  text = λ told log points spare fate start text. IsLoadText seed size text;
  can = λ told log points spare. ⊤;
  script_refused = λ told n why. ⊥;
  refuses_script = λ bytes n why. ⊥;
  stream_refused = λ told bad. ⊥;
  refuses_stream = λ bytes bad. ⊥;
  log_refused = λ told log points spare answer. ⊥;
  refuses_log = λ told log points spare answer. ⊥;
  leaves_spare = λ log points spare. spare.uncalled;
  may_leave = λ told log fate. IsUncalled fate;
}
meaning (tells_of_log report) = record {
  reads = false;
  copies = false;
  options = no_point;
  text = λ told log points spare fate start text. IsReport report log.tells (recovered log.before.seen) text
      × IsOpenedIfBorn log fate;
  can = λ told log points spare. IsTrue log.tells
      × ((r : Recovered) × (recovered log.before.seen ≡ Ok r) × (report_refused report r ≡ None));
  script_refused = λ told n why. ⊥;
  refuses_script = λ bytes n why. ⊥;
  stream_refused = λ told bad. ⊥;
  refuses_stream = λ bytes bad. ⊥;
  log_refused = λ told log points spare answer. IsUntold report log.tells (recovered log.before.seen) answer;
  refuses_log = λ told log points spare answer. untold report (recovered log.before.seen) ≡ Some answer;
  leaves_spare = λ log points spare. spare.uncalled;
  may_leave = λ told log fate. LeavesUnborn log fate;
}
meaning compacts = record {
  reads = false;
  copies = true;
  options = only_point;
  text = λ told log points spare fate start text. IsCopied log points spare text × WasOpened fate;
  can = λ told log points spare. IsTrue log.tells × (compact_refused log points spare ≡ None);
  script_refused = λ told n why. ⊥;
  refuses_script = λ bytes n why. ⊥;
  stream_refused = λ told bad. ⊥;
  refuses_stream = λ bytes bad. ⊥;
  log_refused = λ told log points spare answer. IsTrue log.tells → compact_refused log points spare ≡ Some answer;
  refuses_log = λ told log points spare answer. compact_refused log points spare ≡ Some answer;
  leaves_spare = LeavesSpare;
  may_leave = λ told log fate. LeavesUnborn log fate;
}
meaning follows = record {
  reads = true;
  copies = false;
  options = no_point;
  text = λ told log points spare fate start text. IsFollowed told text;
  can = λ told log points spare. (bytes : Text)
      × (told ≡ Some bytes)
      × ((whole : Option Shape × List EntryKind) × (read_stream bytes ≡ Ok whole));
  script_refused = λ told n why. ⊥;
  refuses_script = λ bytes n why. ⊥;
  stream_refused = IsStreamRefused;
  refuses_stream = λ bytes bad. read_stream bytes ≡ Err bad;
  log_refused = λ told log points spare answer. ⊥;
  refuses_log = λ told log points spare answer. ⊥;
  leaves_spare = λ log points spare. spare.uncalled;
  may_leave = λ told log fate. IsUncalled fate;
}
