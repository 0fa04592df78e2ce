-- From the matches of a parse to the line.
use Rattle.std.proofs.Common.{◌≡◌, ◌∙◌, true, refl, sym, ap, ap₂, subst, List, [], Option, Some, None, is_some, option_map, ⊎_elim}
use Rattle.std.specs.Prelude.{Box, slice_get}
use Rattle.std.specs.Box.{box_value}
use Rattle.clap.specs.Words.{App, HasKind, Kinds, Row, kind_of, takes, fault_of, is_simple, is_simple_and_free, subcommand_of, subcommand_rows, subcommand_rows_of}
use Rattle.clap.specs.declared.error.Error.{Error}
use Rattle.clap.specs.declared.error.kind.ErrorKind.TheVariants.{OutOfMemory}
use Rattle.clap.specs.declared.parser.matches.ArgMatches.{ArgMatches}
use Rattle.clap.specs.Matches.{subcommand_name_of}
use Rattle.clap.specs.declared.parser.matches.ArgMatches.TheViews.{out-ArgMatches, out-SubCommand}
use Rattle.clap.specs.declared.parser.matches.SubCommand.{SubCommand}
use Rattle.hy_base.specs.Spelling.{Text}
use Rattle.hy_cli.specs.CommandLine.{command_named, line_of, names_command}
use Rattle.hy_cli.specs.Matches.{has_accepted, hyder_app, line_found, meant}
use Rattle.hy_cli.specs.declared.commands.Line.{Line}
use Rattle.hy_cli.proofs.Lines.{line_obeyed, program_simple}
use Rattle.hy_cli.proofs.Refusals.{taken_words}

pub program_free : is_simple_and_free hyder_app ≡ true
program_free = refl

module _ {Z : Type 0} where
  same_command : (sub : Option (Box SubCommand Z)) (name n : Text) (rows rs : List Row) → Some name ≡ option_map (λ b. (out-SubCommand (box_value b)).name.now) sub
      → Some rows ≡ option_map (λ p. p.1) (subcommand_rows sub) → subcommand_rows sub ≡ Some (n, rs) → (name ≡ n) × (rows ≡ rs)
  same_command None name n rows rs a b e = cc a
  same_command (Some x) name n rows rs a b e =
      let names_are : Some name ≡ Some n = a ∙ ap (λ (o : Option (Text × List Row)). option_map (λ p. p.0) o) e in
      let rows_are : Some rows ≡ Some rs = b ∙ ap (λ (o : Option (Text × List Row)). option_map (λ p. p.1) o) e in
      (cc names_are, cc rows_are)

  no_command : (sub : Option (Box SubCommand Z)) (n : Text) (rs : List Row) → None ≡ option_map (λ b. (out-SubCommand (box_value b)).name.now) sub → subcommand_rows sub ≡ Some (n, rs) → ⊥
  no_command None n rs a e = cc e
  no_command (Some x) n rs a e = cc a

-- what a parse that succeeds gives to its caller
pub record IsRead (words : List Text) (name : Text) (rows : List Row) : Type 0 where
  pub fault : fault_of hyder_app words ≡ []
  pub entered : subcommand_of hyder_app words ≡ Some (name, rows)
  pub command : is_some (command_named name) ≡ true
  pub accepted : has_accepted name rows ≡ true
  pub named : names_command words ≡ true
  pub first : slice_get words 1 ≡ Some name

pub is_read : (a : App) (m : ArgMatches) (words : List Text) (name : Text) (rows : List Row) (X : Type 0) → a ≡ hyder_app → (is_simple_and_free a ≡ true → fault_of a words ≡ [])
    → (is_simple a ≡ true → X × (subcommand_rows_of m ≡ subcommand_of a words)) → Some name ≡ subcommand_name_of m
    → Some rows ≡ option_map (λ p. p.1) (subcommand_rows (out-ArgMatches m).subcommand) → IsRead words name rows
is_read a m words name rows X app kinds matches named found =
    let fault : fault_of hyder_app words ≡ [] = subst (λ (x : App). is_simple_and_free x ≡ true → fault_of x words ≡ []) app kinds program_free in
    let taken = taken_words words fault in
    let sub = (subst (λ (x : App). is_simple x ≡ true → X × (subcommand_rows_of m ≡ subcommand_of x words)) app matches program_simple).1 ∙ taken.entered in
    let same = same_command (out-ArgMatches m).subcommand name taken.name rows taken.rows named found sub in
    record {
      fault = fault;
      entered = taken.entered ∙ (λ i. Some (sym same.0 i, sym same.1 i));
      command = ap (λ n. is_some (command_named n)) same.0 ∙ taken.command;
      accepted = ap₂ has_accepted same.0 same.1 ∙ taken.accepted;
      named = taken.named;
      first = taken.first ∙ ap (λ n. Some n) (sym same.0);
    }

-- it is never without a command
pub never_bare : (a : App) (m : ArgMatches) (words : List Text) (X : Type 0) → a ≡ hyder_app → (is_simple_and_free a ≡ true → fault_of a words ≡ [])
    → (is_simple a ≡ true → X × (subcommand_rows_of m ≡ subcommand_of a words)) → None ≡ subcommand_name_of m → ⊥
never_bare a m words X app kinds matches named =
    let fault : fault_of hyder_app words ≡ [] = subst (λ (x : App). is_simple_and_free x ≡ true → fault_of x words ≡ []) app kinds program_free in
    let taken = taken_words words fault in
    let sub = (subst (λ (x : App). is_simple x ≡ true → X × (subcommand_rows_of m ≡ subcommand_of x words)) app matches program_simple).1 ∙ taken.entered in
    no_command (out-ArgMatches m).subcommand taken.name taken.rows named sub

-- the line that was read is the one that the words ask for
pub read_obeys : (words : List Text) (name : Text) (rows : List Row) (r : Line) → IsRead words name rows → line_found name rows ≡ Some r → (l : Line) → line_of words ≡ Some l → r ≡ l
read_obeys words name rows r read found l e =
    let obeyed = (line_obeyed words l e).1 in
    let both_are : Some r ≡ Some l = sym found ∙ sym (ap meant read.entered) ∙ obeyed in
    cc

-- an error that is not for memory comes only where clap refuses the words
pub refusal : (a : App) (words : List Text) (error : Error) → a ≡ hyder_app → (is_simple_and_free a ≡ true → HasKind (fault_of a words) error) → (kind_of error ≡ OutOfMemory → ⊥)
    → fault_of hyder_app words ≡ [] → ⊥
refusal a words error app kinds other none =
    let kind : HasKind (fault_of hyder_app words) error = subst (λ (x : App). is_simple_and_free x ≡ true → HasKind (fault_of x words) error) app kinds program_free in
    let free : HasKind [] error = subst (λ (k : Kinds). HasKind k error) none kind in
    ⊎_elim other (λ h. h) free

-- and never where they are a command line
pub never_refused : (a : App) (words : List Text) (error : Error) (l : Line) → a ≡ hyder_app → (takes a words ≡ true → kind_of error ≡ OutOfMemory) → (kind_of error ≡ OutOfMemory → ⊥)
    → line_of words ≡ Some l → ⊥
never_refused a words error l app passes other e = other (passes (ap (λ x. takes x words) app ∙ (line_obeyed words l e).0))
